-- Bytes, numbers, words and texts on a page: one law for each way out.
use Prim.Native.Nat.{ℕ, zero, suc, min, ◌+◌, ◌-◌, ◌≤◌, ◌<◌}
use mathlib.Core.Bool.{Bool, true, false}
use mathlib.Core.List.{List, [], ◌∷◌, ◌++◌, append-nil}
use mathlib.Core.Path.{◌≡◌, refl, sym, ap, ◌∙◌}
use native.Mathlib.Omega.{arith}
use lib.ListN.{length, take, drop, set, length-take, drop_of_length-le}
use lib.Seq.{drop-drop, take_all}
use Rattle.meaning.specs.Base.{nil?, ascii}
use Rattle.meaning.specs.Print.{decimal, shown}
use Rattle.meaning.specs.Quoting.{quoted}
use Rattle.meaning.specs.Listing.{placed}
use Rattle.laws.specs.Parts.{rest_of}
use Rattle.laws.specs.Stored.{stored, stored_nil, stored_cons}
use Rattle.laws.specs.Variants.{Left, others}
use Rattle.schema.specs.contracts.Text.{enum}
use Rattle.schema.specs.declared.Text.{Text}
use Rattle.schema.specs.declared.Word.{Word}
use Rattle.schema.specs.declared.Word.TheVariants as words
use Rattle.schema.specs.Words.{word}
use Rattle.schema.specs.Texts.{clip, spelled}
use Rattle.page.specs.declared.Page.{Page}
use Rattle.page.specs.Page.{fitting, Wrote, Adds, Digits}
use Rattle.page.proofs.Pages.{none_past, adds_as}

-- ---- bytes
take_again : (n : ℕ) (s : List ℕ) → take (length (take n s)) s ≡ take n s
take_again zero [] = refl
take_again zero (x ∷ s) = refl
take_again (suc n) [] = refl
take_again (suc n) (x ∷ s) = ap (λ (l : List ℕ). x ∷ l) (take_again n s)

module _ (s out : List ℕ) (at : ℕ) where
  pub put_past : length out < at → Wrote s out at out at
  put_past h =
      record { left = sym (none_past s out at (omega arith)); place = omega (arith, length-take (length out - at) s) }

  -- the part of the page with the bytes in it is back
  pub put_in : (n : ℕ) (ys : List ℕ) → n ≡ min (length s) (length out - at) → ys ≡ take n s ++ drop (length (take n s)) (take (at + n - at) (drop at out))
      → Wrote s out at (take at out ++ (ys ++ drop (at + n - at) (drop at out))) (at + n)
  unfolding stored
  put_in n ys r e =
      let h : n ≡ length (take (length out - at) s) = omega (arith, length-take (length out - at) s) in
      let k : at + n - at ≡ n = omega arith in
      let f : take n s ≡ take (length out - at) s = ap (λ (m : ℕ). take m s) h ∙ take_again (length out - at) s in
      let g : length (take n s) ≡ n = ap length f ∙ sym h in
      let m : drop n (take n (drop at out)) ≡ [] = drop_of_length-le (take n (drop at out)) {i = n} (omega (arith, length-take n (drop at out))) in
      let w : take at out ++ (ys ++ drop (at + n - at) (drop at out)) ≡ take at out ++ (take n s ++ drop (at + n) out) = rw (e, k, g, m, append-nil, drop-drop n at out) in
      record { left = w ∙ rw (← h, f); place = ap (λ (m : ℕ). at + m) h }

-- ---- one byte
module _ (b : ℕ) (out : List ℕ) (at : ℕ) where
  pub byte_in : at < length out → Wrote (b ∷ []) out at (set out at b) (at + 1)
  byte_in h =
      let f : fitting out at (b ∷ []) ≡ b ∷ [] = take_all (length out - at) (b ∷ []) (omega arith) in
      record { left = rw f (sym (stored_nil (set out at b) (at + 1)) ∙ stored_cons out [] at b h); place = rw f }

  pub byte_past : length out ≤ at → Wrote (b ∷ []) out at out at
  byte_past h = record { left = sym (none_past (b ∷ []) out at h); place = omega (arith, length-take (length out - at) (b ∷ [])) }

module _ (p q : Page) where
  -- ---- numbers
  pub number_is : (number : ℕ) (room : List ℕ) (from : ℕ) → Digits number room from → Adds (32 ∷ take (20 - from) (drop from room)) p q → Adds (32 ∷ decimal number) p q
  number_is number room from d x = adds_as (ap (λ (s : List ℕ). 32 ∷ s) (rw (← d.long, rest_of room from) d.says)) x

  -- ---- references
  module _ (s : List ℕ) (b : Bool) (e : b ≡ nil? s) where
    pub dash_is : b ≡ true → Adds (32 ∷ ascii "-") p q → Adds (32 ∷ shown (placed s)) p q
    unfolding placed
    dash_is h x = rw (← e, h) x

    pub named_is : b ≡ false → Adds (32 ∷ quoted s) p q → Adds (32 ∷ shown (placed s)) p q
    unfolding placed
    named_is h x = rw (← e, h) x

-- ---- empty texts

-- no word is empty
word_some : (w : Word) → nil? (word w) ≡ false
unfolding word
word_some words.Board = refl
word_some words.Release = refl
word_some words.Unknown = refl
word_some words.Version = refl
word_some words.Required = refl
word_some words.Optional = refl
word_some words.App = refl
word_some words.Component = refl
word_some words.D13x = refl
word_some words.D21x = refl
word_some words.Target13 = refl
word_some words.Target21 = refl
word_some words.SpiNor = refl
word_some words.SpiNand = refl
word_some words.Pbp = refl
word_some words.Raw = refl
word_some words.Aic = refl

some_after : (s : List ℕ) (b : ℕ) (bs : List ℕ) → nil? (s ++ (b ∷ bs)) ≡ false
some_after [] b bs = refl
some_after (a ∷ s) b bs = refl

module _ (store name : List ℕ) (t : Text) where
  -- a fixed word, or bytes with `.aic` after them
  pub blank_not : Left enum (3 ∷ 4 ∷ []) t → false ≡ nil? (spelled store name t)
  blank_not =
      others enum (λ u. false ≡ nil? (spelled store name u)) (3 ∷ 4 ∷ [])
      (λ v. sym (word_some v.0)) (λ v. sym (some_after (clip v.0 v.1.0 store) 46 (ascii "aic"))) t
