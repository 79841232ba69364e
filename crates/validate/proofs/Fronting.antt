-- The board and the image: what the loop keeps, and one law for each way on and out.
use Prim.Native.Nat.{ℕ, ◌+◌, ◌-◌, ◌≤◌, ◌<◌}
use mathlib.Core.Bool.{Bool, true, false}
use mathlib.Core.List.{List, [], ◌∷◌}
use mathlib.Core.Path.{◌≡◌, refl, sym, ◌∙◌}
use native.Mathlib.Omega.{arith}
use native.Mathlib.Numerals.{add-one}
use borrow.Author.Tests.{ne_eqb, lt-ltb, le-ltb}
use lib.Dec.{eqb}
use lib.ListN.{length, get_or, take, drop, drop_of_length-le}
use lib.Seq.{drop-cons}
use Rattle.std.proofs.Common.{Option, None, Some, Result, Ok, Err}
use Rattle.std.specs.List.{starts_with}
use Rattle.meaning.specs.declared.Refused.{Refused}
use Rattle.meaning.specs.Base.{pick, nil?, same}
use Rattle.meaning.specs.Numbered.{number, told}
use Rattle.meaning.specs.Schema.{media_for, chip_word as name_of}
use Rattle.meaning.specs.Rules as meant
use Rattle.laws.specs.Cases.{on}
use Rattle.laws.specs.Parts.{rest_of}
use Rattle.schema.specs.declared.Chip.{Chip}
use Rattle.schema.specs.declared.Chip.TheVariants as chips
use Rattle.schema.specs.declared.Media.{Media}
use Rattle.schema.specs.declared.Media.TheVariants as medias
use Rattle.schema.specs.declared.Board.{Board}
use Rattle.schema.specs.declared.Image.{Image}
use Rattle.schema.specs.Words.{word, chip_meant, media_meant, media_choice, media_choice_lem, chip_word}
use Rattle.schema.specs.Texts.{spelled}
use Rattle.parse.specs.declared.Refusal.{Refusal}
use Rattle.parse.specs.Entries.{refusal_at}
use Rattle.parse.specs.Meant.{board_meant, image_meant}
use Rattle.turns.specs.Refusals.{number_some}
use Rattle.validate.specs.Fronts.{sized, chip_if, device_fault, ruled}

-- ---- holds

starts_none : (w : List ℕ) → eqb (length w) 0 ≡ meant.starts w []
starts_none [] = refl
starts_none (a ∷ w) = ne_eqb (length (a ∷ w)) 0 (λ e. omega arith)

starts_is : (w s : List ℕ) → starts_with eqb s w ≡ meant.starts w s
starts_is [] [] = refl
starts_is [] (b ∷ s) = refl
starts_is (a ∷ w) [] = refl
starts_is (a ∷ w) (b ∷ s) = on (eqb a b) (λ e. rw e (starts_is w s)) (λ e. rw e)

-- the word stands in the text where it stands in the rest
pub record Holding (w s : List ℕ) (i : ℕ) : Type 0 where
  pub high : i ≤ length s
  pub left : meant.holds w (drop i s) ≡ meant.holds w s

module _ (w s : List ℕ) where
  pub holds_start : Holding w s 0
  holds_start = record { high = omega arith; left = refl }

  module _ (i : ℕ) (k : Holding w s i) where
    module _ (h : i < length s) (r : Bool) (e : r ≡ starts_with eqb (take (length s - i) (drop i s)) w) where
      parted : meant.holds w (get_or s i 0 ∷ drop (i + 1) s) ≡ meant.holds w s
      parted = rw add-one (rw (drop-cons s i 0 h) at k.left)

      here : r ≡ meant.starts w (get_or s i 0 ∷ drop (i + 1) s)
      here = rw add-one (rw (rest_of s i, drop-cons s i 0 h) at (e ∙ starts_is w (take (length s - i) (drop i s))))

      pub holds_here : r ≡ true → true ≡ meant.holds w s
      holds_here t = rw (← here, t) at parted

      pub holds_on : r ≡ false → Holding w s (i + 1)
      holds_on t = record { high = omega arith; left = rw (← here, t) at parted }

    pub holds_end : length s ≤ i → eqb (length w) 0 ≡ meant.holds w s
    holds_end h = starts_none w ∙ (rw (drop_of_length-le s h) at k.left)

chip_self : (c : Chip) → meant.same_chip (chip_meant c) (chip_meant c) ≡ true
chip_self chips.D13x = refl
chip_self chips.D21x = refl

chip_two : (c d : Chip) → (d ≡ c → ⊥) → meant.same_chip (chip_meant c) (chip_meant d) ≡ false
chip_two chips.D13x chips.D13x h = absurd (h refl)
chip_two chips.D13x chips.D21x h = refl
chip_two chips.D21x chips.D13x h = refl
chip_two chips.D21x chips.D21x h = absurd (h refl)

-- ---- the target
module _ (chip : Chip) (t : List ℕ) (r : Option Chip) (e : chip_if r ≡ meant.chip_for t) where
  pub width_none : r ≡ None → 34 ≡ meant.width_fault (chip_meant chip) (meant.chip_for t)
  unfolding meant.width_fault
  width_none h = rw (← e, h)

  module _ (c : Chip) (g : r ≡ Some c) where
    width_is : meant.width_fault (chip_meant chip) (meant.chip_for t) ≡ pick (meant.same_chip (chip_meant chip) (chip_meant c)) 0 35
    unfolding meant.width_fault
    width_is = rw (← e, g)

    pub width_same : c ≡ chip → 0 ≡ meant.width_fault (chip_meant chip) (meant.chip_for t)
    width_same h = sym (width_is ∙ rw (h, chip_self chip))

    pub width_other : (c ≡ chip → ⊥) → 35 ≡ meant.width_fault (chip_meant chip) (meant.chip_for t)
    width_other h = sym (width_is ∙ rw (chip_two chip c h))

-- ---- the device
chip_named_lem : (chip : Chip) → word (chip_word chip) ≡ name_of (chip_meant chip)
unfolding word name_of
chip_named_lem chips.D13x = refl
chip_named_lem chips.D21x = refl

same_one : (m : Media) → meant.same_media (media_meant m) (media_meant m) ≡ true
same_one medias.SpiNor = refl
same_one medias.SpiNand = refl

same_two : (m n : Media) → (m ≡ n → ⊥) → meant.same_media (media_meant m) (media_meant n) ≡ false
same_two medias.SpiNor medias.SpiNor h = absurd (h refl)
same_two medias.SpiNor medias.SpiNand h = refl
same_two medias.SpiNand medias.SpiNor h = refl
same_two medias.SpiNand medias.SpiNand h = absurd (h refl)

module _ (store name : List ℕ) (chip : Chip) (i : Image) (m : Media) (c : m ≡ media_choice chip) where
  media_told : meant.same_media (media_for (chip_meant chip)) (media_meant i.media) ≡ meant.same_media (media_meant m) (media_meant i.media)
  media_told = rw (← media_choice_lem chip, ← c)

  pub device_media : (m ≡ i.media → ⊥) → 30 ≡ device_fault store name chip i
  unfolding device_fault
  device_media h = rw (media_told, same_two m i.media h)

  module _ (e : m ≡ i.media) (w s : List ℕ) (d : w ≡ word (chip_word chip)) (g : s ≡ spelled store name i.platform) (b : Bool) (f : b ≡ same s w) where
    platform_told : same (spelled store name i.platform) (name_of (chip_meant chip)) ≡ b
    platform_told = rw (← chip_named_lem chip, ← d, ← g) (sym f)

    media_same : meant.same_media (media_for (chip_meant chip)) (media_meant i.media) ≡ true
    media_same = media_told ∙ rw e (same_one i.media)

    pub device_platform : b ≡ false → 31 ≡ device_fault store name chip i
    unfolding device_fault
    device_platform h = rw (media_same, platform_told, h)

    pub device_none : b ≡ true → 0 ≡ device_fault store name chip i
    unfolding device_fault
    device_none h = rw (media_same, platform_told, h)

-- ---- all of them, in their order
nil_length : (s : List ℕ) → nil? s ≡ eqb (length s) 0
nil_length [] = refl
nil_length (x ∷ s) = sym (ne_eqb (length (x ∷ s)) 0 (λ e. omega arith))

told_some : (f : Refused) → number f ≡ 0 → ⊥
told_some f e = omega (arith, e, number_some f)

module _ (store name : List ℕ) (b : Board) (i : Image) (r : Refusal) (d : Result (Unit {0}) Refused) (e : told d ≡ device_fault store name b.chip i) where
  device_told : meant.device_fault (board_meant store store 0 name b) (image_meant store store 0 name i) ≡ told d
  unfolding device_fault meant.device_fault
  device_told = sym e

  pub ruled_device : (f : Refused) → d ≡ Err f → r ≡ refusal_at 2 (number f) 0 → r ≡ ruled store name b i
  unfolding ruled meant.front_rules
  ruled_device f g h = rw (device_told, g, ne_eqb (number f) 0 (told_some f)) h

  module _ (u : Unit {0}) (z : d ≡ Ok u) (p : List ℕ) (f : p ≡ spelled store name b.profile) where
    pub ruled_profile : eqb (length p) 0 ≡ true → r ≡ refusal_at 1 32 0 → r ≡ ruled store name b i
    unfolding ruled meant.front_rules
    ruled_profile y h = rw (device_told, z, nil_length (spelled store name b.profile), ← f, y) h

    module _ (y : eqb (length p) 0 ≡ false) (m : ℕ) (g : m ≡ sized store name i.app) where
      pub ruled_app : 32 < m → r ≡ refusal_at 2 33 0 → r ≡ ruled store name b i
      unfolding ruled meant.front_rules
      ruled_app k h = rw (device_told, z, nil_length (spelled store name b.profile), ← f, y, ← g, lt-ltb 32 m k) h

      module _ (k : m ≤ 32) (t : List ℕ) (q : t ≡ spelled store name b.target) (w : Result (Unit {0}) Refused) (l : told w ≡ meant.width_fault (chip_meant b.chip) (meant.chip_for t)) where
        width_told : meant.width_fault (chip_meant b.chip) (meant.chip_for (spelled store name b.target)) ≡ told w
        width_told = rw (← q) (sym l)

        pub ruled_target : (x : Refused) → w ≡ Err x → r ≡ refusal_at 1 (number x) 0 → r ≡ ruled store name b i
        unfolding ruled meant.front_rules
        ruled_target x j h =
            rw (
              device_told,
              z,
              nil_length (spelled store name b.profile),
              ← f,
              y,
              ← g,
              le-ltb 32 m k,
              width_told,
              j,
              ne_eqb (number x) 0 (told_some x),
            )
            h

        pub ruled_none : (v : Unit {0}) → w ≡ Ok v → r ≡ refusal_at 0 0 0 → r ≡ ruled store name b i
        unfolding ruled meant.front_rules
        ruled_none v j h =
            rw (device_told, z, nil_length (spelled store name b.profile), ← f, y, ← g, le-ltb 32 m k, width_told, j) h
