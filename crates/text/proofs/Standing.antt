-- A text without comments and CRs, whose last line has its LF, is laid as it stands.
use Prim.Native.Nat.{ℕ, zero, suc, ◌+◌, ◌-◌, ◌≤◌, ◌<◌}
use mathlib.Core.Bool.{Bool, true, false}
use mathlib.Core.List.{List, [], ◌∷◌}
use mathlib.Core.Path.{◌≡◌, refl, sym, ap, ◌∙◌}
use native.Mathlib.Omega.{arith}
use native.Mathlib.Numerals.{add-one}
use borrow.Author.Tests.{lt-ltb, eqb-true, eq-eqb, ne_eqb}
use Rattle.std.specs.Prelude.{fold}
use lib.Bits.{bit_or, or_zero_r}
use lib.Dec.{eqb}
use Rattle.chars.specs.Under.{or_right}
use lib.ListN.{length, get_or, take, drop, length-drop, take-append-drop}
use lib.Seq.{length-take-le, take_all, get_or-take, get_or-drop, drop-cons}
use Rattle.meaning.specs.Base.{pick, nil?, final, before}
use Rattle.meaning.specs.declared.StringState.{StringState}
use Rattle.meaning.specs.declared.StringState.TheVariants.{Outside, Inside, Escaped}
use Rattle.meaning.specs.Quote.{state_after, equals_outside, up_to}
use Rattle.meaning.specs.Lines.{drop_cr, kept, physical}
use Rattle.laws.specs.Cases.{on, never}
use Rattle.text.specs.Laid.{laid, first_line, bare, changed, all_bare, clean, Bare, Bares}
use Rattle.text.proofs.Cuts.{laid_there}

-- ---- the pass over all bytes
fold_from : (m : ℕ) (s : List ℕ) → eqb (fold (λ n b. bit_or n (changed b)) m s) 0 ≡ pick (eqb m 0) (all_bare s) false
fold_from m [] = on (eqb m 0) (λ e. rw e) (λ e. rw e)
fold_from m (b ∷ s) =
    fold_from (bit_or m (changed b)) s
    ∙ on (bare b)
    (λ e. rw (e, or_zero_r m))
    (λ e. rw (e, ne_eqb (bit_or m 1) 0 (λ z. omega (arith, or_right m 1))) (on (eqb m 0) (λ z. rw z) (λ z. rw z)))

pub fold_bare : (s : List ℕ) → eqb (fold (λ n b. bit_or n (changed b)) 0 s) 0 ≡ all_bare s
fold_bare s = fold_from 0 s

-- such bytes one by one
bare_so : (b : ℕ) → bare b ≡ true → Bare b
bare_so b e =
    record {
      comment = λ z. never {b = bare b} e (rw z);
      cr = λ z. never {b = bare b} e (rw z);
    }

bares_so : (s : List ℕ) → all_bare s ≡ true → Bares s (length s)
bares_so s e = record { fits = omega arith; all = go s e }
  where
    go : (s : List ℕ) → all_bare s ≡ true → (k : ℕ) → k < length s → Bare (get_or s k 0)
    go [] e k l = absurd (omega arith)
    go (b ∷ s) e zero l = on (bare b) (λ t. bare_so b t) (λ t. never {b = false} (rw t at e) refl)
    go (b ∷ s) e (suc k) l = on (bare b) (λ t. go s (rw t at e) k (omega arith)) (λ t. never {b = false} (rw t at e) refl)

-- ---- a bare line is kept whole
no_comment : (st : StringState) (b : ℕ) → Bare b → equals_outside 35 st b ≡ false
unfolding equals_outside
no_comment Outside b h = ne_eqb b 35 h.comment
no_comment Inside b h = refl
no_comment Escaped b h = refl

up_bare : (st : StringState) (l : List ℕ) → ((k : ℕ) → k < length l → Bare (get_or l k 0)) → up_to 35 st l ≡ length l
up_bare st [] f = refl
up_bare st (b ∷ l) f =
    rw (no_comment st b (f 0 (omega arith))) (ap suc (up_bare (state_after st b) l (λ k h. f (suc k) (omega arith))))

bare_line : (l : List ℕ) → ((k : ℕ) → k < length l → Bare (get_or l k 0)) → kept (drop_cr l) ≡ l
unfolding kept drop_cr
bare_line l f =
    let n : eqb (get_or l (length l - 1) 0) 13 ≡ false = last l f in
    rw (n, up_bare Outside l f) (take_all (length l) l (omega arith))
  where
    last : (l : List ℕ) → ((k : ℕ) → k < length l → Bare (get_or l k 0)) → eqb (get_or l (length l - 1) 0) 13 ≡ false
    last [] f = refl
    last (b ∷ l) f = ne_eqb (get_or (b ∷ l) (length (b ∷ l) - 1) 0) 13 (f (length (b ∷ l) - 1) (omega arith)).cr

-- ---- line by line
before_is : (c : ℕ) (s : List ℕ) → before c s < length s → get_or s (before c s) 0 ≡ c
before_is c [] h = absurd (omega arith)
before_is c (b ∷ s) h =
    on (eqb b c)
    (λ e. rw e (eqb-true b c e))
    (λ e. let k : suc (before c s) < suc (length s) = rw e at h in rw e (before_is c s (omega arith)))

before_reach : (c : ℕ) (s : List ℕ) (i : ℕ) → i < length s → get_or s i 0 ≡ c → before c s ≤ i
before_reach c [] i h e = absurd (omega arith)
before_reach c (b ∷ s) zero h e = rw (eq-eqb b c e) (omega arith)
before_reach c (b ∷ s) (suc i) h e =
    on (eqb b c) (λ p. rw p (omega arith)) (λ p. rw p (omega (arith, before_reach c s i (omega arith) e)))

first_of : (s : List ℕ) (n : ℕ) → n < length s → first_line n s ≡ drop_cr (take n s)
unfolding first_line
first_of s n l = rw (lt-ltb n (length s) l)

pub stands : (k : ℕ) (s : List ℕ) → length s ≤ k → Bares s (length s) → (0 < length s → get_or s (length s - 1) 0 ≡ 10) → laid s ≡ s
unfolding laid physical
stands zero [] h b e = refl
stands zero (x ∷ s) h b e = absurd (omega arith)
stands (suc k) s h b e = go s h b e (stands k)
  where
    go : (s : List ℕ) → length s ≤ suc k → Bares s (length s) → (0 < length s → get_or s (length s - 1) 0 ≡ 10)
        → ((r : List ℕ) → length r ≤ k → Bares r (length r) → (0 < length r → get_or r (length r - 1) 0 ≡ 10) → laid r ≡ r) → laid s ≡ s
    go [] h b e ih = refl
    go (x ∷ t) h b e ih =
        let s : List ℕ = x ∷ t in
        let n : ℕ = before 10 s in
        let l : n < length s = omega (arith, before_reach 10 s (length s - 1) (omega arith) (e (omega arith))) in
        let r : List ℕ = drop (n + 1) s in
        let d : length r ≡ length s - (n + 1) = length-drop (n + 1) s in
        let m : length (take n s) ≡ n = length-take-le n s (omega arith) in
        let f : (k : ℕ) → k < length (take n s) → Bare (get_or (take n s) k 0) =
        λ k q. let w : k < n = omega arith in rw (get_or-take n s k 0 w) (b.all k (omega arith)) in
        let g : Bares r (length r) =
        record { fits = omega arith; all = λ k q. rw (get_or-drop (n + 1) s k 0) (b.all (n + 1 + k) (omega arith)) } in
        let y : 0 < length r → get_or r (length r - 1) 0 ≡ 10 =
        λ z.
        let i : n + 1 + (length r - 1) ≡ length s - 1 = omega arith in
        rw (get_or-drop (n + 1) s (length r - 1) 0, i) (e (omega arith)) in
        let v : drop n s ≡ 10 ∷ r = drop-cons s n 0 l ∙ rw (before_is 10 s l, add-one) in
        laid_there s n refl l
        ∙ rw (first_of s n l, bare_line (take n s) f, ih r (omega arith) g y) (rw v at (take-append-drop n s))

-- ---- the answers
not_nil : (s : List ℕ) → (length s ≡ 0 → ⊥) → nil? s ≡ false
not_nil [] h = absurd (h refl)
not_nil (b ∷ s) h = refl

module _ (s : List ℕ) where
  pub clean_none : (r : Bool) → r ≡ eqb (length s) 0 → r ≡ true → r ≡ clean s
  unfolding clean
  clean_none r e t = t ∙ go s (eqb-true (length s) 0 (sym e ∙ t))
    where
      go : (s : List ℕ) → length s ≡ 0 → true ≡ pick (nil? s) true (pick (eqb (final s) 10) (all_bare s) false)
      go [] z = refl
      go (b ∷ s) z = absurd (omega (arith, z))

  module _ (n : length s ≡ 0 → ⊥) where
    pub clean_so : (r : Bool) → get_or s (length s - 1) 0 ≡ 10 → r ≡ all_bare s → r ≡ clean s
    unfolding clean
    clean_so r e b = rw (not_nil s n, eq-eqb (final s) 10 e) b

    pub clean_not : (get_or s (length s - 1) 0 ≡ 10 → ⊥) → false ≡ clean s
    unfolding clean
    clean_not e = rw (not_nil s n, ne_eqb (final s) 10 e)

-- and what is said to be clean stands as it is
pub clean_stands : (s : List ℕ) → clean s ≡ true → laid s ≡ s
unfolding clean
clean_stands [] e = stands 0 [] (omega arith) (record { fits = omega arith; all = λ k l. absurd (omega arith) }) (λ l. absurd (omega arith))
clean_stands (b ∷ s) e =
    on (eqb (final (b ∷ s)) 10)
    (λ t. stands (length (b ∷ s)) (b ∷ s) (omega arith) (bares_so (b ∷ s) (rw t at e)) (λ l. eqb-true (final (b ∷ s)) 10 t))
    (λ t. never {b = false} (rw t at e) refl)
