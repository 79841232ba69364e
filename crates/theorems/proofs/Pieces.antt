-- A printed field is one piece of a line, ends no line, and is read back.
use Prim.Native.Nat.{ℕ, zero, suc, ◌+◌, ◌*◌, ◌/◌, ◌%◌, ◌≤◌, ◌<◌}
use mathlib.Core.Bool.{Bool, true, false}
use mathlib.Core.List.{List, [], ◌∷◌, ◌++◌, append_assoc}
use mathlib.Core.Option.{none, some}
use mathlib.Core.Path.{◌≡◌, refl, sym, subst, ◌∙◌}
use native.Mathlib.Omega.{arith}
use borrow.Author.Tests.{lt-ltb, le-ltb, ltb-true, ltb-false, lt-leb, ne_eqb}
use lib.Dec.{eqb, ltb}
use lib.ListN.{get_or}
use Rattle.meaning.specs.declared.StringState.{StringState}
use Rattle.meaning.specs.declared.StringState.TheVariants.{Outside, Inside}
use Rattle.meaning.specs.Base.{pick, nil?, same}
use Rattle.meaning.specs.Refusal.{ok}
use Rattle.meaning.specs.Quote.{state_after, equals_outside}
use Rattle.meaning.specs.Integers.{digit, value}
use Rattle.meaning.specs.Quoting.{inner, quoted}
use Rattle.meaning.specs.Print.{Word, wordOk, wordPart, wordComp, wordApp, wordBuild, wordStem, wordRefused, wordD13x, wordD21x, wordSpiNor, wordSpiNand, wordPbp, wordRaw, wordLocked, wordOpen, spelling, decimal, Field, of_word, of_number, of_text, absent, shown}
use Rattle.laws.specs.Cases.{on, never}
use Rattle.laws.specs.Never.{same_refl}
use Rattle.laws.specs.Segments.{Without}
use Rattle.laws.specs.Decimals.{digits_of, last_digit, more_digits}
use Rattle.laws.specs.Quoted.{by_escape, unquote, stays_inside, quoted_unfed}
use Rattle.theorems.proofs.Joined.{Unparted}
use Rattle.theorems.specs.PageReader.{words, word_of, candidate, read_field}

-- from the state st on no space stands outside strings, and the end is outside
abbrev pub OnePiece : StringState → List ℕ → Type 0
OnePiece st p = Unparted Outside state_after (equals_outside 32) 32 st p

-- what is to be known of a field
pub record Piece (f : Field) : Type 0 where
  pub one : OnePiece Outside (shown f)
  pub unfed : Without 10 (shown f)
  pub some_bytes : nil? (shown f) ≡ false
  pub read : read_field (shown f) ≡ some f

-- the field that a piece is taken for is read where it prints so
reads : (f : Field) → candidate (shown f) ≡ some f → read_field (shown f) ≡ some f
unfolding read_field
reads f e = rw (e, same_refl (shown f))

-- ---- bare fields

-- every byte is above the quote, and so none is a space, a quote or a line feed
abbrev bare : List ℕ → Bool
bare [] = true
bare (b ∷ s) = pick (ltb 34 b) (bare s) false

module _ (b : ℕ) (s : List ℕ) (h : bare (b ∷ s) ≡ true) where
  bare_parts : (34 < b) × (bare s ≡ true)
  bare_parts = on (ltb 34 b) (λ e. (ltb-true 34 b e, rw e at h)) (λ e. never {b = false} (rw e at h) refl)

  bare_not : (c : ℕ) → c ≤ 34 → eqb b c ≡ false
  bare_not c l = ne_eqb b c (λ e. omega (arith, bare_parts.0))

bare_one : (s : List ℕ) → bare s ≡ true → OnePiece Outside s
unfolding state_after equals_outside
bare_one [] h = refl
bare_one (b ∷ s) h =
    (bare_not b s h 32 (omega arith), rw (bare_not b s h 34 (omega arith)) (bare_one s (bare_parts b s h).1))

bare_unfed : (s : List ℕ) → bare s ≡ true → Without 10 s
bare_unfed [] h = tt
bare_unfed (b ∷ s) h = (bare_not b s h 10 (omega arith), bare_unfed s (bare_parts b s h).1)

-- ---- words

-- what is to be known of a word
word_facts : (w : Word) → (bare (spelling w) ≡ true) × (nil? (spelling w) ≡ false) × (candidate (spelling w) ≡ some (of_word w))
unfolding Rattle.theorems.specs.PageReader.computes
word_facts wordOk = (refl, refl, refl)
word_facts wordPart = (refl, refl, refl)
word_facts wordComp = (refl, refl, refl)
word_facts wordApp = (refl, refl, refl)
word_facts wordBuild = (refl, refl, refl)
word_facts wordStem = (refl, refl, refl)
word_facts wordRefused = (refl, refl, refl)
word_facts wordD13x = (refl, refl, refl)
word_facts wordD21x = (refl, refl, refl)
word_facts wordSpiNor = (refl, refl, refl)
word_facts wordSpiNand = (refl, refl, refl)
word_facts wordPbp = (refl, refl, refl)
word_facts wordRaw = (refl, refl, refl)
word_facts wordLocked = (refl, refl, refl)
word_facts wordOpen = (refl, refl, refl)

-- ---- numbers

-- one digit at least, and nothing but digits
abbrev Digits : List ℕ → Type 0
Digits [] = Unit {0}
Digits (b ∷ s) = (48 ≤ b) × (b ≤ 57) × Digits s

abbrev Numeral : List ℕ → Type 0
Numeral s = (nil? s ≡ false) × Digits s

-- what holds of one digit, and of a number if of the number without its last digit, holds of every number's digits
module _ (P : ℕ → List ℕ → List ℕ → Type 0)
    (one : (n : ℕ) (after : List ℕ) → n < 10 → P n after ((48 + n) ∷ after))
    (more : (n : ℕ) (after r : List ℕ) → P (n / 10) ((48 + n % 10) ∷ after) r → P n after r) where
  up_to : (left n : ℕ) (after : List ℕ) → n ≤ left → P n after (digits_of n after)
  up_to zero n after l = rw (last_digit n after (omega arith)) (one n after (omega arith))
  up_to (suc left) n after l =
      on (ltb n 10)
      (λ e. rw (last_digit n after (ltb-true n 10 e)) (one n after (ltb-true n 10 e)))
      (λ e. let k : 10 ≤ n = ltb-false n 10 e in
      rw (more_digits n after k) (more n after _ (up_to left (n / 10) ((48 + n % 10) ∷ after) (omega arith))))

  by_digits : (n : ℕ) → P n [] (digits_of n [])
  by_digits n = up_to n n [] (omega arith)

numeral_of : (n : ℕ) → Numeral (digits_of n [])
numeral_of n =
    by_digits (λ n after r. Digits after → Numeral r) (λ n after l h. (refl, (omega arith, omega arith, h)))
    (λ n after r k h. k (omega arith, omega arith, h)) n tt

digit_of : (n : ℕ) → n < 10 → digit (48 + n) ≡ n
unfolding digit
digit_of n l = rw (le-ltb (48 + n) 48 (omega arith), lt-ltb (48 + n) 58 (omega arith)) (omega arith)

digit_read : (acc n : ℕ) (after : List ℕ) (m : ℕ) → n < 10 → acc * 10 + n ≡ m → value 10 acc ((48 + n) ∷ after) ≡ value 10 m after
digit_read acc n after m l e = rw (digit_of n l, lt-leb 10 n l, e)

value_of : (n : ℕ) → value 10 0 (digits_of n []) ≡ ok n
value_of n =
    by_digits (λ n after r. value 10 0 r ≡ value 10 n after) (λ n after l. digit_read 0 n after n l (omega arith))
    (λ n after r k. k ∙ digit_read (n / 10) (n % 10) after n (omega arith) (omega arith)) n

digits_bare : (s : List ℕ) → Digits s → bare s ≡ true
digits_bare [] h = refl
digits_bare (b ∷ s) h = rw (lt-ltb 34 b (omega arith)) (digits_bare s h.2)

-- every word begins above the digits
abbrev lettered : List Word → Bool
lettered [] = true
lettered (w ∷ ws) = pick (ltb 57 (get_or (spelling w) 0 0)) (lettered ws) false

all_lettered : lettered words ≡ true
unfolding Rattle.meaning.specs.Print.computes
all_lettered = refl

other_head : (p : List ℕ) (b : ℕ) (s : List ℕ) → b ≤ 57 → ltb 57 (get_or p 0 0) ≡ true → same p (b ∷ s) ≡ false
other_head [] b s l h = refl
other_head (a ∷ p) b s l h = rw (ne_eqb a b (λ e. omega (arith, ltb-true 57 a h)))

-- so no word is a number
no_word : (ws : List Word) (b : ℕ) (s : List ℕ) → b ≤ 57 → lettered ws ≡ true → word_of ws (b ∷ s) ≡ none
no_word [] b s l h = refl
no_word (w ∷ ws) b s l h =
    on (ltb 57 (get_or (spelling w) 0 0))
    (λ e. rw (other_head (spelling w) b s l e) (no_word ws b s l (rw e at h)))
    (λ e. never {b = false} (rw e at h) refl)

numeral_candidate : (p : List ℕ) (n : ℕ) → Numeral p → value 10 0 p ≡ ok n → candidate p ≡ some (of_number n)
unfolding candidate
numeral_candidate [] n h e = never {b = true} refl h.0
numeral_candidate (b ∷ s) n h e =
    rw (ne_eqb b 34 (λ e. omega (arith, h.1.0)), ne_eqb b 45 (λ e. omega (arith, h.1.0)), no_word words b s h.1.1 all_lettered, e)

-- ---- texts

inner_one : (s : List ℕ) → OnePiece Inside (inner s ++ (34 ∷ []))
unfolding state_after equals_outside
inner_one [] = (refl, refl)
inner_one (b ∷ s) =
    rw append_assoc (by_escape (λ b e. OnePiece Inside (e ++ (inner s ++ (34 ∷ [])))) (refl, (refl, inner_one s)) (refl, (refl, inner_one s)) (refl, (refl, inner_one s))
    (refl, (refl, inner_one s)) (refl, (refl, inner_one s))
    (λ b u. (refl, subst (λ (st : StringState). OnePiece st (inner s ++ (34 ∷ []))) (sym (stays_inside b u)) (inner_one s))) b)

quoted_one : (s : List ℕ) → OnePiece Outside (quoted s)
unfolding quoted state_after equals_outside
quoted_one s = (refl, inner_one s)

text_candidate : (s : List ℕ) → candidate (quoted s) ≡ some (of_text s)
unfolding candidate quoted
text_candidate s = rw (unquote s [])

-- ---- any field

bare_piece : (f : Field) → bare (shown f) ≡ true → nil? (shown f) ≡ false → candidate (shown f) ≡ some f → Piece f
bare_piece f b n c = record { one = bare_one (shown f) b; unfed = bare_unfed (shown f) b; some_bytes = n; read = reads f c }

pub piece : (f : Field) → Piece f
unfolding candidate decimal quoted
piece (of_word w) = let k = word_facts w in bare_piece (of_word w) k.0 k.1 k.2
piece (of_number n) =
    let k = numeral_of n in
    bare_piece (of_number n) (digits_bare (decimal n) k.1) k.0 (numeral_candidate (decimal n) n k (value_of n))
piece (of_text s) =
    record { one = quoted_one s; unfed = quoted_unfed s; some_bytes = refl; read = reads (of_text s) (text_candidate s) }
piece absent = bare_piece absent refl refl refl
