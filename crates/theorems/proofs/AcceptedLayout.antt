-- What an accepted layout has, by places.
use Prim.Native.Nat.{ℕ, ◌≤◌, ◌<◌}
use mathlib.Core.List.{List, []}
use mathlib.Core.Bool.{true, false}
use mathlib.Core.Path.{◌≡◌, refl, sym, ap, ◌∙◌, subst}
use native.Mathlib.Omega.{arith}
use lib.ListN.{length, get_or}
use Rattle.meaning.specs.Schema.{Chip, Media, spiNor, spiNand, Partition, media_for, erase, erase_for}
use Rattle.meaning.specs.Verdict.{fine}
use Rattle.meaning.specs.Layout.{end_of, layout}
use Rattle.meaning.specs.Rules.{same_media, device_fault}
use Rattle.laws.specs.Cases.{on, never}
use Rattle.laws.specs.Order.{eq_same}
use Rattle.laws.specs.Accepted.{Sound, rules_groups, layout_some, layout_start, layout_at, layout_names, layout_ends, layout_share}
use Rattle.laws.specs.Places.{at_inside, at_get_or}
use Rattle.theorems.specs.Words.{At, Holds}
use Rattle.theorems.specs.AcceptedLayout.{SoundLayout, AcceptedLayoutIsSound, PresetLayoutIsSound, EraseBlockIsTheMedias}
use Rattle.theorems.proofs.Standing.{lemma_at}

abbrev nowhere : Partition
nowhere = record { name = []; offset = 0; size = 0; locked = false }

module _ (chip : Chip) (ps : List Partition) (e : layout chip ps ≡ fine) where
  inside : (i : ℕ) (p : Partition) → At ps i p → i < length ps
  inside i p h = at_inside ps i p (lemma_at ps i p h)

  read : (i : ℕ) (p : Partition) → At ps i p → get_or ps i nowhere ≡ p
  read i p h = at_get_or ps i p nowhere (lemma_at ps i p h)

  sound_at : (i : ℕ) (p : Partition) → At ps i p → Sound (erase_for chip) p
  sound_at i p h = subst (Sound (erase_for chip)) (read i p h) (layout_at chip ps nowhere e i (inside i p h))

  holds_at : (i address : ℕ) (p : Partition) → At ps i p → Holds p address → Holds (get_or ps i nowhere) address
  holds_at i address p h k = subst (λ (q : Partition). Holds q address) (sym (read i p h)) k

  ends_at : (i j : ℕ) (p q : Partition) → i < j → At ps i p → At ps j q → end_of p ≤ q.offset
  ends_at i j p q l h g =
      let a = ap end_of (read i p h) in
      let b = ap (λ (z : Partition). z.offset) (read j q g) in
      omega (arith, a, b, layout_ends chip ps nowhere e i j l (inside j q g))

  sound_layout : SoundLayout chip ps
  sound_layout =
      record {
        some = layout_some chip ps e;
        from_zero = λ p h. sym (ap (λ (z : Partition). z.offset) (read 0 p h)) ∙ layout_start chip ps e nowhere;
        each = λ i p h.
            let s = sound_at i p h in
            record { named = s.named; some_size = s.some_size; whole_offset = s.offset_block; whole_size = s.size_block; ends = s.fits };
        names = λ i j p q h g n.
            layout_names chip ps nowhere e i j (inside i p h) (inside j q g)
            (eq_same _ _ (ap (λ (z : Partition). z.name) (read i p h) ∙ n ∙ sym (ap (λ (z : Partition). z.name) (read j q g))));
        rising = ends_at;
        apart = λ i j address p q h g k l. layout_share chip ps nowhere e i j address (inside i p h) (inside j q g) (holds_at i address p h k) (holds_at j address q g l);
      }

pub accepted_layout : AcceptedLayoutIsSound
accepted_layout = sound_layout

pub preset_layout : PresetLayoutIsSound
preset_layout r e = sound_layout r.board.chip r.partitions (rules_groups r e).laid

-- ---- the erase block

media_one : (m n : Media) → same_media m n ≡ true → m ≡ n
media_one spiNor spiNor e = refl
media_one spiNor spiNand e = never {b = false} e refl
media_one spiNand spiNor e = never {b = false} e refl
media_one spiNand spiNand e = refl

pub erase_block : EraseBlockIsTheMedias
unfolding erase_for device_fault
erase_block b i h =
    on (same_media (media_for b.chip) i.media)
    (λ e. ap erase (media_one (media_for b.chip) i.media e))
    (λ e. absurd (h (rw e)))
