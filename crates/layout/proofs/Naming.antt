-- The partition that a text names: one law for each way out.
use Prim.Native.Nat.{ℕ, zero, suc, ◌<◌}
use mathlib.Core.Bool.{Bool, false}
use mathlib.Core.List.{List, [], ◌∷◌, map}
use mathlib.Core.Path.{◌≡◌, refl, sym, ◌∙◌}
use native.Mathlib.Omega.{arith}
use borrow.Author.Tests.{ltb-true, ltb-false, le-ltb}
use lib.Dec.{ltb}
use lib.ListN.{length, get_or, length-map}
use Rattle.std.proofs.Common.{Option, None, Some}
use Rattle.std.specs.List.{position, slice_get}
use Rattle.std.proofs.lemmas.Option.{slice_get_past}
use Rattle.laws.specs.Cases.{on}
use Rattle.laws.specs.Variants.{Left, others}
use Rattle.schema.specs.contracts.Text.{enum}
use Rattle.schema.specs.declared.Text.{Text}
use Rattle.schema.specs.declared.Text.TheVariants as texts
use Rattle.schema.specs.declared.Word.{Word}
use Rattle.schema.specs.declared.Partition.{Partition}
use Rattle.schema.specs.Words.{word}
use Rattle.schema.specs.Texts.{clip}
use Rattle.layout.specs.Parts.{part_name, bears, placed, position_placed, name_in, aim}

-- what stands past the end of a list of partitions
abbrev no_part : Partition
no_part = record { from = 0; len = 0; offset = 0; size = 0; locked = false }

get_here : (xs : List Partition) (i : ℕ) (d : Partition) → i < length xs → slice_get xs i ≡ Some (get_or xs i d)
get_here [] i d l = absurd (omega (arith, l))
get_here (x ∷ xs) zero d l = refl
get_here (x ∷ xs) (suc i) d l = get_here xs i d (omega (arith, l))

-- ---- find_named

-- of a text's variants all but numbers 1 and 3, which have bytes here
abbrev pub Nameless : Text → Type 0
Nameless t = Left enum (0 ∷ 2 ∷ 4 ∷ []) t

aim_past : (cut : Bool) (store : List ℕ) (parts : List (List ℕ)) (t : Text) → Nameless t → aim cut store parts t ≡ length parts
aim_past cut store parts = others enum (λ t. aim cut store parts t ≡ length parts) (0 ∷ 2 ∷ 4 ∷ []) (λ _. refl) (λ _. refl) (λ _. refl)

module _ (cut : Bool) (store : List ℕ) (items : List Partition) (t : Text) where
  abbrev named_at : Option ℕ
  named_at = placed (length items) (aim cut store (map (part_name store) items) t)

  pub aim_none : Nameless t → None ≡ named_at
  aim_none o =
      rw (aim_past cut store (map (part_name store) items) t o, length-map items (part_name store), le-ltb (length items) (length items) (omega arith))

  module _ (r : Option ℕ) (s n : List ℕ) (f : n ≡ name_in cut s) (k : r ≡ position (bears n store) items) where
    pub aim_stored : (from len : ℕ) → t ≡ texts.Stored from len → s ≡ clip from len store → r ≡ named_at
    aim_stored from len e h = rw e (rw (f, h) at (position_placed n store items r k))

    pub aim_fixed : (w : Word) → t ≡ texts.Fixed w → s ≡ word w → r ≡ named_at
    aim_fixed w e h = rw e (rw (f, h) at (position_placed n store items r k))

-- ---- partition_named

module _ (xs : List Partition) (k : ℕ) (r : Option ℕ) (e : r ≡ placed (length xs) k) where
  pub found_low : (i : ℕ) → r ≡ Some i → i < length xs
  found_low i f =
      let p : Some i ≡ placed (length xs) k = sym f ∙ e in
      on (ltb k (length xs))
      (λ h. let z : i ≡ k = cc (rw h at p) in rw z (ltb-true k (length xs) h))
      (λ h. let z : Some i ≡ None = rw h at p in cc)

  pub found_here : (i : ℕ) (d : Partition) → r ≡ Some i → Some (get_or xs i d) ≡ slice_get xs k
  found_here i d f =
      let p : Some i ≡ placed (length xs) k = sym f ∙ e in
      on (ltb k (length xs))
      (λ h. let z : i ≡ k = cc (rw h at p) in rw (← z) (sym (get_here xs i d (found_low i f))))
      (λ h. let z : Some i ≡ None = rw h at p in cc)

  pub found_none : r ≡ None → None ≡ slice_get xs k
  found_none f =
      let p : None ≡ placed (length xs) k = sym f ∙ e in
      on (ltb k (length xs))
      (λ h. let z : None ≡ Some k = rw h at p in cc)
      (λ h. sym (slice_get_past xs k (ltb-false k (length xs) h)))
