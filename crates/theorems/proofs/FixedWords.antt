-- The fixed words by their numbers: what `preset_word` writes is the table of docs/HOST.md.
use Prim.Native.Nat.{ℕ, zero, suc, ◌+◌, ◌-◌, ◌≤◌, ◌<◌}
use mathlib.Core.Bool.{Bool, true, false}
use mathlib.Core.List.{List, [], ◌∷◌, ◌++◌, map}
use mathlib.Core.Option.{Option, none, some}
use mathlib.Core.Path.{◌≡◌, refl, sym, ap, ◌∙◌}
use native.Mathlib.Omega.{arith}
use borrow.Author.Tests.{leb-true, ltb-true, ltb-false, lt-ltb, le-ltb}
use lib.Dec.{ltb, leb, eqb-suc-zero}
use lib.ListN.{length, drop}
use Rattle.meaning.specs.Base.{pick, zeros}
use Rattle.laws.specs.Cases.{on, never}
use Rattle.schema.specs.Words.{word}
use Rattle.parse.specs.Given.{entry_at}
use Rattle.host.specs.Records.{word_by, word_size, word_room, Worded}
use Rattle.theorems.specs.Decoding.{fixed_words, word_by_number}
use Rattle.theorems.specs.Views.{WordWritten, WordIsWritten, WordsAreShort}

-- ---- lists

-- k numbers from s on
abbrev counted : ℕ → ℕ → List ℕ
counted s zero = []
counted s (suc k) = s ∷ counted (suc s) k

counted_at : {X : Type 0} (f : ℕ → X) (s k i : ℕ) → i < k → entry_at (map f (counted s k)) i ≡ some (f (s + i))
counted_at f s zero i h = absurd (omega arith)
counted_at f s (suc k) zero h = let e : s + 0 ≡ s = omega arith in rw e
counted_at f s (suc k) (suc i) h = let e : s + suc i ≡ suc s + i = omega arith in rw e (counted_at f (suc s) k i (omega (arith, h)))

counted_past : {X : Type 0} (f : ℕ → X) (s k i : ℕ) → k ≤ i → entry_at (map f (counted s k)) i ≡ none
counted_past f s zero i h = refl
counted_past f s (suc k) zero h = absurd (omega arith)
counted_past f s (suc k) (suc i) h = counted_past f (suc s) k i (omega (arith, h))

abbrev every : {X : Type 0} → (X → Bool) → List X → Bool
every test [] = true
every test (x ∷ xs) = pick (test x) (every test xs) false

some_one : {X : Type 0} (x y : X) → some x ≡ some y → x ≡ y
some_one {X} x y e = ap (λ (o : Option X). gotten o) e
  where
    gotten : Option X → X
    gotten none = x
    gotten (some z) = z

none_never : {X G : Type 0} (x : X) → none ≡ some x → G
none_never x e = let z : ◌≡◌ {A = ℕ} 0 1 = cc in absurd (omega arith)

every_at : {X : Type 0} (test : X → Bool) (xs : List X) (i : ℕ) (x : X) → every test xs ≡ true → entry_at xs i ≡ some x → test x ≡ true
every_at test [] i x t e = none_never x e
every_at test (y ∷ ys) zero x t e =
    rw (← some_one y x e) (on (test y) (λ f. f) (λ f. never {b = false} (rw f at t) refl))
every_at test (y ∷ ys) (suc i) x t e =
    on (test y) (λ f. every_at test ys i x (rw f at t) e) (λ f. never {b = false} (rw f at t) refl)

drop_zeros : (k n : ℕ) → drop k (zeros n) ≡ zeros (n - k)
drop_zeros zero n = let e : n - 0 ≡ n = omega arith in rw e
drop_zeros (suc k) zero = let e : 0 - suc k ≡ 0 = omega arith in rw e
drop_zeros (suc k) (suc n) = let e : suc n - suc k ≡ n - k = omega arith in rw e (drop_zeros k n)

-- ---- the table

-- the word that the code writes for each number from 1 to 17 is the one that HOST.md says
words_are : map (λ n. word (word_by n)) (counted 1 17) ≡ fixed_words
unfolding word word_by
words_are = refl

word_there : (i : ℕ) → i < 17 → word_by_number (suc i) ≡ some (word (word_by (suc i)))
word_there i h =
    let e : 1 + i ≡ suc i = omega arith in
    ap (λ (ws : List (List ℕ)). entry_at ws i) (sym words_are) ∙ counted_at (λ n. word (word_by n)) 1 17 i h ∙ ap (λ (n : ℕ). some (word (word_by n))) e

word_past : (i : ℕ) → 17 ≤ i → word_by_number (suc i) ≡ none
word_past i h = ap (λ (ws : List (List ℕ)). entry_at ws i) (sym words_are) ∙ counted_past (λ n. word (word_by n)) 1 17 i h

-- ---- what is written

module _ (i : ℕ) (out out' : List ℕ) (r : ℕ) (g : Worded (suc i) out out' r) where
  abbrev n : ℕ
  n = suc i

  abbrev w : List ℕ
  w = word (word_by n)

  fitting : i < 17 → length w ≤ length out → (r ≡ length w) × (out' ≡ w ++ zeros (length out - length w))
  unfolding word_size word_room
  fitting h l = (
    g.says ∙ rw (eqb-suc-zero i, le-ltb 17 n (omega (arith, h)), le-ltb (length out) (length w) l),
    g.left ∙ rw (eqb-suc-zero i, le-ltb 17 n (omega (arith, h)), le-ltb (length out) (length w) l, drop_zeros (length w) (length out)),
  )

  too_long : i < 17 → length out < length w → (r ≡ 0) × (out' ≡ zeros (length out))
  unfolding word_size word_room
  too_long h l = (
    g.says ∙ rw (eqb-suc-zero i, le-ltb 17 n (omega (arith, h)), lt-ltb (length out) (length w) l),
    g.left ∙ rw (eqb-suc-zero i, le-ltb 17 n (omega (arith, h)), lt-ltb (length out) (length w) l),
  )

  no_such : 17 ≤ i → (r ≡ 0) × (out' ≡ zeros (length out))
  unfolding word_size word_room
  no_such h = (
    g.says ∙ rw (eqb-suc-zero i, lt-ltb 17 n (omega (arith, h))),
    g.left ∙ rw (eqb-suc-zero i, lt-ltb 17 n (omega (arith, h))),
  )

  -- a word that is there has one of the numbers, and is the one written
  there : {G : Type 0} (x : List ℕ) → word_by_number n ≡ some x → (i < 17 → w ≡ x → G) → G
  there x e k =
      on (ltb i 17)
      (λ t. let h = ltb-true i 17 t in k h (some_one w x (sym (word_there i h) ∙ e)))
      (λ t. none_never x (sym (word_past i (ltb-false i 17 t)) ∙ e))

  written : WordWritten n out out' r
  written =
      record {
        fits = λ x e. there x e (λ h d. rw (← d) (fitting h));
        longer = λ x e. there x e (λ h d. rw (← d) (too_long h));
        no_word = λ e.
            on (ltb i 17)
            (λ t. none_never w (sym e ∙ word_there i (ltb-true i 17 t)))
            (λ t. no_such (ltb-false i 17 t));
      }

pub word_is_written : WordIsWritten
unfolding word_size word_room
word_is_written zero out out' r g =
    record { fits = λ x e. none_never x e; longer = λ x e. none_never x e; no_word = λ e. (g.says, g.left) }
word_is_written (suc i) out out' r g = written i out out' r g

pub words_are_short : WordsAreShort
words_are_short zero w e = none_never w e
words_are_short (suc i) w e = leb-true (length w) 32 (every_at (λ (x : List ℕ). leb (length x) 32) fixed_words i w refl e)
