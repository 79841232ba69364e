-- A text by its first LF: physical lines, and the lines of a laid text.
use Prim.Native.Nat.{ℕ, suc, ◌+◌, ◌≤◌, ◌<◌}
use mathlib.Core.Bool.{false}
use mathlib.Core.List.{List, [], ◌∷◌, ◌++◌, append_assoc}
use mathlib.Core.Path.{◌≡◌, refl, sym, ap, ◌∙◌}
use native.Mathlib.Omega.{arith}
use native.Mathlib.Numerals.{add-one}
use borrow.Author.Tests.{lt-ltb, le-ltb, ltb-true, ltb-false, eqb-true}
use lib.Dec.{eqb, ltb}
use lib.ListN.{length, get_or, take, drop, length-append, take-append-drop}
use lib.Seq.{drop-drop, drop-cons, drop_at}
use Rattle.meaning.specs.Base.{nil?, before, on_first, cut}
use Rattle.meaning.specs.Lines.{drop_cr, ended, physical, kept}
use Rattle.laws.specs.Cases.{on}
use Rattle.text.specs.Laid.{laid, init, lines_of, first_line}

-- ---- cut at the first c
pub before_fits : (c : ℕ) (s : List ℕ) → before c s ≤ length s
before_fits c [] = omega arith
before_fits c (b ∷ s) = on (eqb b c) (λ e. rw e (omega arith)) (λ e. rw e (omega (arith, before_fits c s)))

pub cut_there : (c : ℕ) (s : List ℕ) → before c s < length s → cut c s ≡ take (before c s) s ∷ cut c (drop (suc (before c s)) s)
cut_there c [] h = absurd (omega arith)
cut_there c (b ∷ s) h =
    on (eqb b c) (λ e. rw e)
    (λ e. let k : suc (before c s) < suc (length s) = rw e at h in rw (e, cut_there c s (omega arith)))

pub cut_none : (c : ℕ) (s : List ℕ) → length s ≤ before c s → cut c s ≡ s ∷ []
cut_none c [] h = refl
cut_none c (b ∷ s) h =
    on (eqb b c) (λ e. absurd (omega (arith, rw e at h)))
    (λ e. let k : suc (length s) ≤ suc (before c s) = rw e at h in rw (e, cut_none c s (omega arith)))

cut_some : (c : ℕ) (s : List ℕ) → nil? (cut c s) ≡ false
cut_some c [] = refl
cut_some c (b ∷ s) = on (eqb b c) (λ e. rw e) (λ e. rw e (first (cut c s)))
  where
    first : (ls : List (List ℕ)) → nil? (on_first b ls) ≡ false
    first [] = refl
    first (l ∷ ls) = refl

ended_cons : (l : List ℕ) (ls : List (List ℕ)) → nil? ls ≡ false → ended (l ∷ ls) ≡ drop_cr l ∷ ended ls
ended_cons l [] e = let z : ◌≡◌ {A = ℕ} 0 1 = cc in absurd (omega arith)
ended_cons l (m ∷ ls) e = refl

init_cons : (l : List ℕ) (ls : List (List ℕ)) → nil? ls ≡ false → init (l ∷ ls) ≡ l ∷ init ls
init_cons l [] e = let z : ◌≡◌ {A = ℕ} 0 1 = cc in absurd (omega arith)
init_cons l (m ∷ ls) e = refl

-- ---- physical lines
pub physical_there : (s : List ℕ) → before 10 s < length s → physical s ≡ drop_cr (take (before 10 s) s) ∷ physical (drop (suc (before 10 s)) s)
unfolding physical
physical_there s h = rw (cut_there 10 s h) (ended_cons (take (before 10 s) s) (cut 10 (drop (suc (before 10 s)) s)) (cut_some 10 (drop (suc (before 10 s)) s)))

pub physical_last : (b : ℕ) (s : List ℕ) → length (b ∷ s) ≤ before 10 (b ∷ s) → physical (b ∷ s) ≡ (b ∷ s) ∷ []
unfolding physical
physical_last b s h = rw (cut_none 10 (b ∷ s) h)

-- ---- the laid text
pub laid_there : (s : List ℕ) (n : ℕ) → n ≡ before 10 s → n < length s → laid s ≡ kept (first_line n s) ++ (10 ∷ laid (drop (n + 1) s))
unfolding laid first_line
laid_there s n e h =
    let k : before 10 s < length s = omega arith in
    rw (physical_there s k, ← e, lt-ltb n (length s) h, add-one)

pub laid_last : (s : List ℕ) (n : ℕ) → n ≡ before 10 s → length s ≤ n → 0 < length s → laid s ≡ kept (first_line n s) ++ (10 ∷ [])
unfolding laid first_line
laid_last [] n e h l = absurd (omega arith)
laid_last (b ∷ s) n e h l =
    let k : length (b ∷ s) ≤ before 10 (b ∷ s) = omega arith in
    rw (physical_last b s k, le-ltb n (length (b ∷ s)) h)

-- ---- the lines of a laid text
pub lines_there : (s : List ℕ) (n : ℕ) → n ≡ before 10 s → n < length s → lines_of s ≡ take n s ∷ lines_of (drop (n + 1) s)
unfolding lines_of
lines_there s n e h =
    let k : before 10 s < length s = omega arith in
    rw (cut_there 10 s k, ← e, add-one) (init_cons (take n s) (cut 10 (drop (suc n) s)) (cut_some 10 (drop (suc n) s)))

pub lines_none : (s : List ℕ) (n : ℕ) → n ≡ before 10 s → length s ≤ n → lines_of s ≡ []
unfolding lines_of
lines_none s n e h = rw (cut_none 10 s (omega arith))

-- ---- the first line of a laid text, and what is after its LF
pub record Split (f l : List ℕ) (ls : List (List ℕ)) : Type 0 where
  pub rest : List ℕ
  pub is : f ≡ l ++ (10 ∷ rest)
  pub lines : ls ≡ lines_of rest

before_is : (c : ℕ) (s : List ℕ) → before c s < length s → get_or s (before c s) 0 ≡ c
before_is c [] h = absurd (omega arith)
before_is c (b ∷ s) h =
    on (eqb b c) (λ e. rw e (eqb-true b c e))
    (λ e. let k : suc (before c s) < suc (length s) = rw e at h in rw e (before_is c s (omega arith)))

head_is : (l l' : List ℕ) (ls ls' : List (List ℕ)) → ◌≡◌ {A = List (List ℕ)} (l ∷ ls) (l' ∷ ls') → (l ≡ l') × (ls ≡ ls')
head_is l l' ls ls' e = (cc, cc)

pub split_of : (f l : List ℕ) (ls : List (List ℕ)) → lines_of f ≡ l ∷ ls → Split f l ls
split_of f l ls e =
    let n : ℕ = before 10 f in
    on (ltb n (length f))
    (λ p.
    let h : n < length f = ltb-true n (length f) p in
    let q : (l ≡ take n f) × (ls ≡ lines_of (drop (n + 1) f)) = head_is l (take n f) ls (lines_of (drop (n + 1) f)) (sym e ∙ lines_there f n refl h) in
    record {
      rest = drop (n + 1) f;
      is =
          sym (take-append-drop n f)
          ∙ ap (λ (d : List ℕ). take n f ++ d)
          (drop-cons f n 0 h ∙ ap (λ (b : ℕ). b ∷ drop (suc n) f) (before_is 10 f h) ∙ ap (λ (m : ℕ). 10 ∷ drop m f) (sym (add-one n)))
          ∙ ap (λ (t : List ℕ). t ++ (10 ∷ drop (n + 1) f)) (sym q.0);
      lines = q.1;
    })
    (λ p. let z : ◌≡◌ {A = ℕ} 0 1 = cc (lines_none f n refl (ltb-false n (length f) p)) in absurd (omega arith))

-- what stands after t and its LF
pub rest_after : (s : List ℕ) (at : ℕ) (t f : List ℕ) → drop at s ≡ t ++ (10 ∷ f) → drop (at + length t + 1) s ≡ f
rest_after s at t f e =
    let k : at + length t + 1 ≡ at + (length t + 1) = omega arith in
    let l : length (t ++ (10 ∷ [])) ≡ length t + 1 = length-append t (10 ∷ []) in
    rw k (sym (drop-drop (length t + 1) at s) ∙ ap (drop (length t + 1)) (e ∙ sym (append_assoc t (10 ∷ []) f)) ∙ drop_at (t ++ (10 ∷ [])) f (length t + 1) l)
