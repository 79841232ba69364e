-- The character at the head of a string, by its first four bytes: one law for each way out of `width`.
use Prim.Native.Nat.{ℕ, ◌<◌}
use mathlib.Core.Bool.{Bool, true, false}
use mathlib.Core.List.{List, [], ◌∷◌}
use mathlib.Core.Path.{◌≡◌, refl}
use native.Mathlib.Omega.{arith}
use lib.ListN.{length, get_or}
use Rattle.meaning.specs.Base.{pick, between}
use Rattle.meaning.specs.Utf8.{reach, tail, begins, one_of, utf8_1, utf8_2, utf8_3, utf8_4, char}
use Rattle.laws.specs.Cases.{on, between_no}
use Rattle.chars.specs.Rows.{row2, row3, row4, three, four}

-- a last alternative
or_false : (t : Bool) → pick t true false ≡ t
or_false true = refl
or_false false = refl

and_false : (t : Bool) → pick t false false ≡ false
and_false true = refl
and_false false = refl

and_true : (t : Bool) → pick t true false ≡ t
and_true = or_false

-- the bytes of s by their places: a missing one is 0, which is in no range
one_is : (b : ℕ) (s : List ℕ) → one_of utf8_1 (b ∷ s) ≡ between 0x00 0x7f b
one_is b s = rw (and_true (between 0x00 0x7f b)) (or_false (between 0x00 0x7f b))

none_there : (low high : ℕ) → 0 < low → between low high 0 ≡ false
none_there low high h = between_no low high 0 (λ l _. omega arith)

module _ (low high b : ℕ) where
  row2_is : (s : List ℕ) → begins (reach low high ∷ tail ∷ []) (b ∷ s) ≡ row2 low high b (get_or s 0 0)
  unfolding row2
  row2_is [] = rw (none_there 0x80 0xbf (omega arith))
  row2_is (c ∷ s) = rw (and_true (between 0x80 0xbf c))

  module _ (low₂ high₂ : ℕ) (h : 0 < low₂) where
    row3_is : (s : List ℕ) → begins (reach low high ∷ reach low₂ high₂ ∷ tail ∷ []) (b ∷ s) ≡ row3 low high low₂ high₂ b (get_or s 0 0) (get_or s 1 0)
    unfolding row3
    row3_is [] = rw (none_there low₂ high₂ h)
    row3_is (c ∷ []) = rw (none_there 0x80 0xbf (omega arith))
    row3_is (c ∷ d ∷ s) = rw (and_true (between 0x80 0xbf d))

    row4_is : (s : List ℕ) → begins (reach low high ∷ reach low₂ high₂ ∷ tail ∷ tail ∷ []) (b ∷ s) ≡ row4 low high low₂ high₂ b (get_or s 0 0) (get_or s 1 0) (get_or s 2 0)
    unfolding row4 row3
    row4_is [] = rw (none_there low₂ high₂ h) (on (between low high b) (λ e. rw e) (λ e. rw e))
    row4_is (c ∷ []) =
        rw (none_there 0x80 0xbf (omega arith)) (on (between low high b) (λ e. on (between low₂ high₂ c) (λ f. rw (e, f)) (λ f. rw (e, f))) (λ e. rw e))
    row4_is (c ∷ d ∷ []) =
        rw (none_there 0x80 0xbf (omega arith), and_false (row3 low high low₂ high₂ b c d), and_false (between 0x80 0xbf d), and_false (between low₂ high₂ c)) (and_false (between low high b))
    row4_is (c ∷ d ∷ e ∷ s) =
        rw (and_true (between 0x80 0xbf e))
        (on (between low high b) (λ x. on (between low₂ high₂ c) (λ y. rw (x, y)) (λ y. rw (x, y))) (λ x. rw x))

two_is : (b : ℕ) (s : List ℕ) → one_of utf8_2 (b ∷ s) ≡ row2 0xc2 0xdf b (get_or s 0 0)
two_is b s = rw (row2_is 0xc2 0xdf b s) (or_false (row2 0xc2 0xdf b (get_or s 0 0)))

three_is : (b : ℕ) (s : List ℕ) → one_of utf8_3 (b ∷ s) ≡ three b (get_or s 0 0) (get_or s 1 0)
unfolding three
three_is b s =
    rw (
      row3_is 0xe0 0xe0 b 0xa0 0xbf (omega arith) s,
      row3_is 0xe1 0xec b 0x80 0xbf (omega arith) s,
      row3_is 0xed 0xed b 0x80 0x9f (omega arith) s,
      row3_is 0xee 0xef b 0x80 0xbf (omega arith) s,
      or_false (row3 0xee 0xef 0x80 0xbf b (get_or s 0 0) (get_or s 1 0)),
    )

four_is : (b : ℕ) (s : List ℕ) → one_of utf8_4 (b ∷ s) ≡ four b (get_or s 0 0) (get_or s 1 0) (get_or s 2 0)
unfolding four
four_is b s =
    rw (
      row4_is 0xf0 0xf0 b 0x90 0xbf (omega arith) s,
      row4_is 0xf1 0xf3 b 0x80 0xbf (omega arith) s,
      row4_is 0xf4 0xf4 b 0x80 0x8f (omega arith) s,
      or_false (row4 0xf4 0xf4 0x80 0x8f b (get_or s 0 0) (get_or s 1 0) (get_or s 2 0)),
    )

char_is : (s : List ℕ) → (length s ≡ 0 → ⊥) → char s
    ≡ pick (between 0x00 0x7f (get_or s 0 0)) 1 (pick (row2 0xc2 0xdf (get_or s 0 0) (get_or s 1 0)) 2
    (pick (three (get_or s 0 0) (get_or s 1 0) (get_or s 2 0)) 3 (pick (four (get_or s 0 0) (get_or s 1 0) (get_or s 2 0) (get_or s 3 0)) 4 0)))
unfolding char
char_is [] h = absurd (h refl)
char_is (b ∷ s) h = rw (one_is b s, two_is b s, three_is b s, four_is b s)

-- ---- the ways out of `width`
pub none : (s : List ℕ) → length s ≡ 0 → 0 ≡ char s
unfolding char
none [] h = refl
none (b ∷ s) h = absurd (omega arith)

module _ (s : List ℕ) (b : ℕ) (r : Bool) (h : length s ≡ 0 → ⊥) (e : b ≡ get_or s 0 0) (p : r ≡ between 0x00 0x7f b) where
  pub one_byte : r ≡ true → 1 ≡ char s
  one_byte t = rw (char_is s h, ← e, ← p, t)

  module _ (c : ℕ) (r₂ : Bool) (f : r ≡ false) (e₂ : c ≡ get_or s 1 0) (p₂ : r₂ ≡ row2 0xc2 0xdf b c) where
    pub two_bytes : r₂ ≡ true → 2 ≡ char s
    two_bytes t = rw (char_is s h, ← e, ← p, f, ← e₂, ← p₂, t)

    module _ (d : ℕ) (r₃ : Bool) (f₂ : r₂ ≡ false) (e₃ : d ≡ get_or s 2 0) (p₃ : r₃ ≡ three b c d) where
      pub three_bytes : r₃ ≡ true → 3 ≡ char s
      three_bytes t = rw (char_is s h, ← e, ← p, f, ← e₂, ← p₂, f₂, ← e₃, ← p₃, t)

      module _ (x : ℕ) (r₄ : Bool) (f₃ : r₃ ≡ false) (e₄ : x ≡ get_or s 3 0) (p₄ : r₄ ≡ four b c d x) where
        pub four_bytes : r₄ ≡ true → 4 ≡ char s
        four_bytes t = rw (char_is s h, ← e, ← p, f, ← e₂, ← p₂, f₂, ← e₃, ← p₃, f₃, ← e₄, ← p₄, t)

        pub no_bytes : r₄ ≡ false → 0 ≡ char s
        no_bytes t = rw (char_is s h, ← e, ← p, f, ← e₂, ← p₂, f₂, ← e₃, ← p₃, f₃, ← e₄, ← p₄, t)
