-- A byte below 128 is a character by itself: what white space is at the head and at the end of a text where one stands there.
use Prim.Native.Nat.{ℕ, suc, ◌+◌, ◌-◌, ◌≤◌, ◌<◌}
use Rattle.std.specs.Prelude.{true, false, ◌≡◌, refl, eqb, leb, take, drop}
use mathlib.Core.List.{List, [], ◌∷◌, ◌++◌}
use Rattle.std.proofs.Math.Path.{sym}
use Rattle.std.proofs.Common.{◌∙◌, length-drop}
use native.Mathlib.Omega.{arith}
use borrow.Author.Tests.{leb-true, leb-false, le-leb, ne_eqb}
use Rattle.std.proofs.Math.ListN.{length, length-append}
use Rattle.std.proofs.Math.Seq.{drop-append-le, drop-append_seam}
use Rattle.meaning.specs.Base.{pick, between}
use Rattle.meaning.specs.Utf8.{Range, char, point}
use Rattle.meaning.specs.Space.{spaces, inside, white, blank}
use Rattle.laws.specs.Cases.{on, picked, between_yes, between_no}
use Rattle.laws.specs.Chars.{Fresh, char_append, char_fits}
use Rattle.laws.specs.Trim.{white_at, ends_in, white_end}

pub ascii_char : (b : ℕ) (s : List ℕ) → b < 128 → char (b ∷ s) ≡ 1
unfolding char
ascii_char b s h = rw (between_yes 0x00 0x7f b (omega arith) (omega arith))

-- ---- White_Space below 128
abbrev Outside : List Range → ℕ → Type 0
Outside [] p = Unit
Outside (r ∷ rs) p = (r.low ≤ p → p ≤ r.high → ⊥) × Outside rs p

inside_no : (rs : List Range) (p : ℕ) → Outside rs p → inside rs p ≡ false
inside_no [] p o = refl
inside_no (r ∷ rs) p o = rw (between_no r.low r.high p o.0) (inside_no rs p o.1)

module _ (b : ℕ) where
  pub space_white : b ≡ 32 → true ≡ white b
  unfolding white between
  space_white e = rw e

  module _ (n : b ≡ 32 → ⊥) where
    pub high_plain : b < 128 → 13 < b → false ≡ white b
    unfolding white
    high_plain l h = sym (inside_no spaces b (omega arith))

    pub low_white : b ≤ 13 → leb 9 b ≡ white b
    unfolding white
    low_white h =
        on (leb 9 b)
        (λ p. rw (p, between_yes 9 13 b (leb-true 9 b p) h))
        (λ p. let l : b < 9 = leb-false 9 b p in rw p (sym (inside_no spaces b (omega arith))))

  pub rest_white : b < 128 → (b ≡ 32 → ⊥) → between 9 13 b ≡ white b
  unfolding white
  rest_white l n =
      on (leb 9 b)
      (λ p. on (leb b 13)
      (λ q. rw (between_yes 9 13 b (leb-true 9 b p) (leb-true b 13 q)))
      (λ q. let h : 13 < b = leb-false b 13 q in between_no 9 13 b (λ x y. omega arith) ∙ high_plain n l h))
      (λ p. let h : b < 9 = leb-false 9 b p in between_no 9 13 b (λ x y. omega arith) ∙ sym (inside_no spaces b (omega arith)))

-- ---- at the head
pub ascii_at : (b : ℕ) (s : List ℕ) → b < 128 → white_at (b ∷ s) ≡ pick (white b) 1 0
unfolding white_at
ascii_at b s h = rw (ascii_char b s h)

-- no text that begins with a byte that is not white is blank
pub ascii_plain : (b : ℕ) (s : List ℕ) → b < 128 → false ≡ white b → blank (b ∷ s) ≡ false
unfolding blank
ascii_plain b s h w = rw (ascii_char b s h, ← w)

-- ---- at the end
white_most : (s : List ℕ) → white_at s ≤ char s
unfolding white_at
white_most s =
    let P : ℕ → Type 0 = λ r. r ≤ char s in
    picked P (eqb (char s) 0) (λ _. omega arith) (λ _. picked P (white (point (take (char s) s))) (λ _. omega arith) (λ _. omega arith))

module _ (x : ℕ) (h : x < 128) where
  one_end : (t : List ℕ) → ends_in 1 (t ++ (x ∷ [])) ≡ white x
  unfolding ends_in
  one_end t =
      let n : length (t ++ (x ∷ [])) ≡ length t + 1 = length-append t (x ∷ []) in
      let l : 1 ≤ length (t ++ (x ∷ [])) = omega arith in
      let d : length (t ++ (x ∷ [])) - 1 ≡ length t = omega arith in
      rw (le-leb 1 (length (t ++ (x ∷ []))) l, d, drop-append_seam t (x ∷ []), ascii_at x [] h)
      (on (white x) (λ p. rw p) (λ p. rw p))

  -- a longer character does not reach over x
  short_of : (k : ℕ) (g : List ℕ) → length g ≡ suc k → eqb (white_at (g ++ (x ∷ []))) (suc (suc k)) ≡ false
  short_of k [] e = absurd (omega arith)
  short_of k (b ∷ u) e =
      let f : Fresh (x ∷ []) = λ l _. omega arith in
      ne_eqb (white_at (b ∷ u ++ (x ∷ []))) (suc (suc k))
      (λ q. omega (arith, white_most (b ∷ u ++ (x ∷ [])), char_append b u (x ∷ []) f, char_fits (b ∷ u)))

  more_end : (k : ℕ) (t : List ℕ) → ends_in (suc (suc k)) (t ++ (x ∷ [])) ≡ false
  unfolding ends_in
  more_end k t =
      let n : length (t ++ (x ∷ [])) ≡ length t + 1 = length-append t (x ∷ []) in
      let m : ℕ = length (t ++ (x ∷ [])) - suc (suc k) in
      on (leb (suc (suc k)) (length (t ++ (x ∷ []))))
      (λ p.
      let l : suc (suc k) ≤ length (t ++ (x ∷ [])) = leb-true (suc (suc k)) (length (t ++ (x ∷ []))) p in
      let le : m ≤ length t = omega arith in
      rw (p, drop-append-le m t (x ∷ []) le) (short_of k (drop m t) (length-drop m t ∙ omega arith)))
      (λ p. rw p)

  pub ascii_end : (t : List ℕ) → white_end (t ++ (x ∷ [])) ≡ pick (white x) 1 0
  unfolding white_end
  ascii_end t = rw (one_end t, more_end 0 t, more_end 1 t, more_end 2 t)
