-- One piece after the other on a lent page.
use Prim.Native.Nat.{ℕ, zero, suc, ◌-◌, ◌≤◌}
use mathlib.Core.List.{List, [], ◌∷◌, ◌++◌}
use mathlib.Core.Path.{◌≡◌, refl, sym, ap, subst, ◌∙◌}
use native.Mathlib.Omega.{arith}
use borrow.Author.Tests.{ltb-true, ltb-false}
use lib.Dec.{ltb}
use lib.ListN.{length, take, length-take, length-append}
use lib.Seq.{take_all}
use Rattle.laws.specs.Cases.{on}
use Rattle.laws.specs.Stored.{stored, stored_nil, stored_then, length_stored}
use Rattle.page.specs.declared.Page.{Page}
use Rattle.page.specs.Page.{fitting, Wrote, Adds}

-- the first n bytes of two strings one after the other
take_both : (n : ℕ) (a b : List ℕ) → take n (a ++ b) ≡ take n a ++ take (n - length (take n a)) b
take_both zero [] b = refl
take_both zero (x ∷ a) b = refl
take_both (suc n) [] b = let e : suc n - 0 ≡ suc n = omega arith in rw e
take_both (suc n) (x ∷ a) b =
    let e : suc n - suc (length (take n a)) ≡ n - length (take n a) = omega arith in
    rw e (ap (λ (l : List ℕ). x ∷ l) (take_both n a b))

take_none : (s : List ℕ) → take 0 s ≡ []
take_none [] = refl
take_none (x ∷ s) = refl

-- nothing is written past the end
pub none_past : (s out : List ℕ) (at : ℕ) → length out ≤ at → stored out at (fitting out at s) ≡ out
none_past s out at h =
    let z : length out - at ≡ 0 = omega arith in
    rw (z, take_none s, stored_nil out at)

-- a page keeps its length
stored_long : (s out : List ℕ) (at : ℕ) → length (stored out at (fitting out at s)) ≡ length out
stored_long s out at =
    on (ltb at (length out))
    (λ t. length_stored out at (fitting out at s) (omega (arith, ltb-true at (length out) t, length-take (length out - at) s)))
    (λ t. ap length (none_past s out at (ltb-false at (length out) t)))

wrote_nil : (out : List ℕ) (at : ℕ) → Wrote [] out at out at
wrote_nil out at =
    let e : fitting out at [] ≡ [] = take_all (length out - at) [] (omega arith) in
    record { left = rw e (sym (stored_nil out at)); place = rw e (omega arith) }

module _ {a out out' : List ℕ} {at at' : ℕ} where
  wrote_long : Wrote a out at out' at' → length out' ≡ length out
  wrote_long h = ap length h.left ∙ stored_long a out at

  module _ {b out'' : List ℕ} {at'' : ℕ} where
    wrote_then : Wrote a out at out' at' → Wrote b out' at' out'' at'' → Wrote (a ++ b) out at out'' at''
    wrote_then h k =
        let n : length out' - at' ≡ length out - at - length (fitting out at a) = omega (arith, wrote_long h, h.place) in
        let both : fitting out at (a ++ b) ≡ fitting out at a ++ fitting out' at' b =
        take_both (length out - at) a b ∙ ap (λ (m : ℕ). fitting out at a ++ take m b) (sym n) in
        record {
          left =
              on (ltb at (length out))
              (λ t.
              rw both
              (k.left ∙ ap (λ (o : List ℕ). stored o at' (fitting out' at' b)) h.left
              ∙ stored_then out at (fitting out at a) (fitting out' at' b) at' (omega (arith, ltb-true at (length out) t)) h.place))
              (λ t.
              let l = ltb-false at (length out) t in
              k.left ∙ none_past b out' at' (omega (arith, wrote_long h, h.place)) ∙ h.left ∙ none_past a out at l ∙ sym (none_past (a ++ b) out at l));
          place = rw both (omega (arith, h.place, k.place, length-append (fitting out at a) (fitting out' at' b)));
        }

-- ---- pages

pub adds_nil : (p : Page) → Adds [] p p
adds_nil p = record { same = refl; wrote = wrote_nil p.out.now p.at }

pub adds_then : {a b : List ℕ} {p q r : Page} → Adds a p q → Adds b q r → Adds (a ++ b) p r
adds_then h k = record { same = k.same ∙ h.same; wrote = wrote_then h.wrote k.wrote }

pub adds_as : {a b : List ℕ} {p q : Page} → a ≡ b → Adds a p q → Adds b p q
adds_as {p = p} {q = q} e h = subst (λ (s : List ℕ). Adds s p q) e h

-- the lent bytes, once the page is let go
pub let_go : {s : List ℕ} {p q : Page} (x : List ℕ) → Adds s p q → (p.out.ghost_name ≡ q.out.ghost_name → x ≡ q.out.now) → Wrote s p.out.now p.at x q.at
let_go x h f = record { left = f (sym h.same) ∙ h.wrote.left; place = h.wrote.place }
