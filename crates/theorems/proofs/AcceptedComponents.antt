-- What accepted components have, by places.
use Prim.Native.Nat.{ℕ}
use mathlib.Core.Bool.{true, false}
use mathlib.Core.List.{List, []}
use mathlib.Core.Path.{◌≡◌, sym, ap, ◌∙◌}
use lib.ListN.{get_or}
use Rattle.meaning.specs.Base.{pick}
use Rattle.meaning.specs.Schema.{Partition, Component, Preset}
use Rattle.meaning.specs.Verdict.{fine, among}
use Rattle.meaning.specs.Rules.{given, name_of, partition_names, rules}
use Rattle.laws.specs.Cases.{never}
use Rattle.laws.specs.Order.{same_eq, eq_same}
use Rattle.laws.specs.Accepted.{Kept, Groups, Meant, rules_groups, kept_source, components_some, components_kept, components_names, layout_meant}
use Rattle.laws.specs.Places.{at_inside, at_get_or, get_d_at, all_of}
use Rattle.theorems.specs.Words.{At}
use Rattle.theorems.specs.AcceptedComponents.{SoundComponent, AcceptedComponentsAreSound}
use Rattle.theorems.proofs.Standing.{lemma_at, at_lemma}

abbrev nowhere : Partition
nowhere = record { name = []; offset = 0; size = 0; locked = false }

module _ (r : Preset) (obeys : rules r ≡ fine) where
  groups : Groups r
  groups = rules_groups r obeys

  abbrev ps : List Partition
  ps = r.partitions

  abbrev cs : List Component
  cs = r.components

  abbrev parts : List (List ℕ)
  parts = partition_names ps

  kept_at : (i : ℕ) (c : Component) → At cs i c → Kept parts c
  kept_at i c h = all_of (Kept parts) cs i c (components_kept parts cs groups.made) (lemma_at cs i c h)

  named_at : (name : List ℕ) → among name parts ≡ true → (i : ℕ) × (p : Partition) × At ps i p × (p.name ≡ name)
  named_at name t =
      let m : Meant name ps = layout_meant r.board.chip ps name groups.laid t in
      let p = get_or ps m.place nowhere in
      (m.place, p, at_lemma ps m.place p (get_d_at ps m.place nowhere m.inside), sym (same_eq name p.name (m.is nowhere)))

  one_name : (i j : ℕ) (c d : Component) → At cs i c → At cs j d → c.head.name ≡ d.head.name → i ≡ j
  one_name i j c d h g n =
      let k = lemma_at cs i c h in
      let l = lemma_at cs j d g in
      let name : Component → List ℕ = λ z. z.head.name in
      components_names parts cs groups.made c i j (at_inside cs i c k) (at_inside cs j d l)
      (eq_same _ _ (ap name (at_get_or cs i c c k) ∙ n ∙ sym (ap name (at_get_or cs j d c l))))

  one_pbp : (file pack : _) → pick file pack false ≡ false → file ≡ true → pack ≡ true → ⊥
  one_pbp file pack e h g = never (rw h g) e

  sound_at : (i : ℕ) (c : Component) → At cs i c → SoundComponent ps c
  sound_at i c h =
      let k = kept_at i c h in
      record {
        short = k.short;
        one_payload = kept_source parts c k;
        one_pbp = one_pbp (given c.boot.pbp) (given c.boot.pbp_pack) k.one_pbp;
        loads = k.loads;
        updates = k.updates;
        known = λ n. named_at (name_of c.role.partition) (k.known n);
        reserve = k.reserve;
      }

pub accepted_components : AcceptedComponentsAreSound
accepted_components r obeys =
    record {
      some = components_some (partition_names r.partitions) r.components (rules_groups r obeys).made;
      names = one_name r obeys;
      each = sound_at r obeys;
    }
