-- Where nothing is refused: the entries of the lists by their number, and how many there are.
use Rattle.std.specs.Prelude.{ℕ, zero, suc, ◌+◌, ◌≤◌, ◌<◌, List as Seq, [], ◌∷◌, map, ◌≡◌, refl, ltb, length, Option as Maybe, Some, None}
use Rattle.std.proofs.Math.Option.{Option, none, some}
use Rattle.std.proofs.Common.{ap, ◌∙◌, arith, ltb-true, ltb-false}
use Rattle.meaning.specs.declared.Limits.{Limits}
use Rattle.meaning.specs.Refusal.{Answer, accepted, refused}
use Rattle.laws.specs.Cases.{on}
use Rattle.tree.specs.Room.{slot_at}
use Rattle.tree.specs.Order.{next}
use Rattle.tree.specs.Doors.{nth_of}
use Rattle.tree.specs.declared.Fields.{Fields}
use Rattle.schema.specs.declared.Text.{Text}
use Rattle.schema.specs.declared.Partition.{Partition}
use Rattle.parse.specs.declared.entry.Partitions.{Partitions}
use Rattle.parse.specs.Refusals.{earlier, in_section}
use Rattle.parse.specs.Front as front
use Rattle.parse.specs.Entries as entries
use Rattle.parse.specs.Entries.{refusal_of}
use Rattle.parse.specs.Meant.{partition_meant}
use Rattle.parse.specs.Answers.{earlier_clear}
use Rattle.parse.specs.Refused.{partition_list, component_list, application_list, partition_numbers, component_numbers, application_numbers, partitions_verdict, components_verdict, applications_verdict, verdict}
use Rattle.parse.specs.Whole.{Clear, listed_few, listed_clear, listed_given, partition_of}

-- number i of some entries
abbrev pub entry_at : {X : Type 0} → Seq X → ℕ → Option X
entry_at [] i = none
entry_at (y ∷ ys) zero = some y
entry_at (y ∷ ys) (suc i) = entry_at ys i

-- what a number found stands for
abbrev pub standing : {X : Type 0} → (ℕ → X) → Maybe ℕ → Option X
standing value None = none
standing value (Some n) = some (value n)

pub map_at : {X : Type 0} (value : ℕ → X) (ns : Seq ℕ) (i : ℕ) → entry_at (map value ns) i ≡ standing value (nth_of ns i)
map_at value [] i = refl
map_at value (n ∷ ns) zero = refl
map_at value (n ∷ ns) (suc i) = map_at value ns i

pub map_length : {X : Type 0} (value : ℕ → X) (ns : Seq ℕ) → length (map value ns) ≡ length ns
map_length value [] = refl
map_length value (n ∷ ns) = ap suc (map_length value ns)

none_at : {G : Type 0} (n : ℕ) → None ≡ Some n → G
none_at n e = let z : ◌≡◌ {A = ℕ} 0 1 = cc in absurd (omega arith)

-- where no entry has a fault the one that is found has none
pub clear_at : (fault : ℕ → ℕ) (ns : Seq ℕ) (i n : ℕ) → Clear fault ns → nth_of ns i ≡ Some n → fault n ≡ 0
clear_at fault [] i n c e = none_at n e
clear_at fault (m ∷ ns) zero n c e = let d : m ≡ n = cc in rw (← d) c.0
clear_at fault (m ∷ ns) (suc i) n c e = clear_at fault ns i n c.1 e

-- ---- a walk

module _ (room store : Seq ℕ) (end place : ℕ) where
  -- a longer walk meets the same
  walk_nth : (i k : ℕ) (after : Maybe ℕ) → i < k → nth_of (entries.walk room store end place (suc i) after) i ≡ nth_of (entries.walk room store end place k after) i
  walk_nth zero zero after l = absurd (omega arith)
  walk_nth (suc i) zero after l = absurd (omega arith)
  walk_nth zero (suc k) after l = by (next (slot_at room) store end place after)
    where
      by : (r : Maybe ℕ) → nth_of (entries.onward room store r (entries.walk room store end place 0)) 0 ≡ nth_of (entries.onward room store r (entries.walk room store end place k)) 0
      by None = refl
      by (Some n) = refl
  walk_nth (suc i) (suc k) after l = by (λ n. walk_nth i k (Some n) (omega arith)) (next (slot_at room) store end place after)
    where
      by : ((n : ℕ) → nth_of (entries.walk room store end place (suc i) (Some n)) i ≡ nth_of (entries.walk room store end place k (Some n)) i)
          → (r : Maybe ℕ) → nth_of (entries.onward room store r (entries.walk room store end place (suc i))) (suc i) ≡ nth_of (entries.onward room store r (entries.walk room store end place k)) (suc i)
      by g None = refl
      by g (Some n) = g n

  -- a walk that ended meets nothing more
  walk_ends : (k j : ℕ) (after : Maybe ℕ) → length (entries.walk room store end place k after) < k → k ≤ j
      → entries.walk room store end place j after ≡ entries.walk room store end place k after
  walk_ends zero j after l h = absurd (omega arith)
  walk_ends (suc k) zero after l h = absurd (omega arith)
  walk_ends (suc k) (suc j) after l h = by (λ n m. walk_ends k j (Some n) m (omega arith)) (next (slot_at room) store end place after) l
    where
      by : ((n : ℕ) → length (entries.walk room store end place k (Some n)) < k → entries.walk room store end place j (Some n) ≡ entries.walk room store end place k (Some n))
          → (r : Maybe ℕ) → length (entries.onward room store r (entries.walk room store end place k)) < suc k
          → entries.onward room store r (entries.walk room store end place j) ≡ entries.onward room store r (entries.walk room store end place k)
      by g None m = refl
      by g (Some n) m = ap (λ (ns : Seq ℕ). n ∷ ns) (g n (omega arith))

-- ---- by the verdict

-- what a reader of partitions tells
pub partitioned_fault : (a : Answer (Seq Partition)) (r : Partitions) → entries.Partitioned a r → r.fault ≡ refusal_of a
partitioned_fault (accepted ps) r p = p.0
partitioned_fault (refused f s n) r p = p.0

map_map : {X Y : Type 0} (f : X → Y) (given : ℕ → X) (ns : Seq ℕ) → map f (map given ns) ≡ map (λ n. f (given n)) ns
map_map f given [] = refl
map_map f given (n ∷ ns) = ap (λ (ys : Seq _). f (given n) ∷ ys) (map_map f given ns)

module _ (room store : Seq ℕ) (made : ℕ) where
  -- the partitions that are given stand for 01's
  pub partitions_meant_lem : (name : Seq ℕ) (root : Fields) (limit : ℕ) (ps : Seq Partition) → entries.partitions room store made (partition_list room store made root) limit ≡ accepted ps
      → map (partition_meant room store made name) ps ≡ map (partition_of room store made name) (partition_numbers room store made root)
  partitions_meant_lem name root limit ps e =
      ap (map (partition_meant room store made name))
      (listed_given (λ n. (entries.partition_at room store made n).fault) (λ n. (entries.partition_at room store made n).partition) 3 (partition_numbers room store made root) limit ps e)
      ∙ map_map (partition_meant room store made name) (λ n. (entries.partition_at room store made n).partition) (partition_numbers room store made root)

  module _ (root : Fields) (lim : Limits) (lent : Text) (v : (verdict room store made root lim lent).number ≡ 0) where
    parts : ((front.front_read room store made root lent).fault.number ≡ 0) × ((partitions_verdict room store made root lim).number ≡ 0) × ((components_verdict room store made root lim).number ≡ 0)
        × ((applications_verdict room store made root lim).number ≡ 0)
    unfolding verdict
    parts =
        let a = earlier_clear (front.front_read room store made root lent).fault
        (earlier (partitions_verdict room store made root lim) (earlier (components_verdict room store made root lim) (applications_verdict room store made root lim))) v in
        let b = earlier_clear (partitions_verdict room store made root lim) (earlier (components_verdict room store made root lim) (applications_verdict room store made root lim)) a.1 in
        let c = earlier_clear (components_verdict room store made root lim) (applications_verdict room store made root lim) b.1 in
        (a.0, b.0, c.0, c.1)

    pub front_clear : (front.front_read room store made root lent).fault.number ≡ 0
    front_clear = parts.0

    pub partitions_few : length (partition_numbers room store made root) ≤ lim.partitions
    partitions_few =
        listed_few (λ n. (entries.partition_at room store made n).fault) (λ n. (entries.partition_at room store made n).partition) 3 (partition_numbers room store made root) lim.partitions
        (earlier_clear (in_section 3 (partition_list room store made root).fault) (refusal_of (entries.partitions room store made (partition_list room store made root) lim.partitions))
        parts.1).1

    pub partitions_clear : Clear (λ n. (entries.partition_at room store made n).fault) (partition_numbers room store made root)
    partitions_clear =
        listed_clear (λ n. (entries.partition_at room store made n).fault) (λ n. (entries.partition_at room store made n).partition) 3 (partition_numbers room store made root) lim.partitions
        (earlier_clear (in_section 3 (partition_list room store made root).fault) (refusal_of (entries.partitions room store made (partition_list room store made root) lim.partitions))
        parts.1).1

    components_none : (entries.components room store made (component_list room store made root) lim.components lim.features).number ≡ 0
    components_none =
        (earlier_clear (in_section 4 (component_list room store made root).fault) (entries.components room store made (component_list room store made root) lim.components lim.features)
        parts.2).1

    pub components_few : length (component_numbers room store made root) ≤ lim.components
    components_few =
        listed_few (λ n. (entries.component_at room store made n lim.features).fault) (λ n. (entries.component_at room store made n lim.features).component) 4
        (component_numbers room store made root) lim.components components_none

    pub components_clear : Clear (λ n. (entries.component_at room store made n lim.features).fault) (component_numbers room store made root)
    components_clear =
        listed_clear (λ n. (entries.component_at room store made n lim.features).fault) (λ n. (entries.component_at room store made n lim.features).component) 4
        (component_numbers room store made root) lim.components components_none

    applications_none : (entries.applications room store made (application_list room store made root) lim.applications lim.features).number ≡ 0
    applications_none =
        (earlier_clear (in_section 5 (application_list room store made root).fault) (entries.applications room store made (application_list room store made root) lim.applications lim.features)
        parts.3).1

    pub applications_few : length (application_numbers room store made root lim.applications) ≤ lim.applications
    applications_few =
        listed_few (λ n. (entries.application_at room store made n lim.features).fault) (λ n. (entries.application_at room store made n lim.features).application) 5
        (application_numbers room store made root lim.applications) lim.applications applications_none

    pub applications_clear : Clear (λ n. (entries.application_at room store made n lim.features).fault) (application_numbers room store made root lim.applications)
    applications_clear =
        listed_clear (λ n. (entries.application_at room store made n lim.features).fault) (λ n. (entries.application_at room store made n lim.features).application) 5
        (application_numbers room store made root lim.applications) lim.applications applications_none

    -- a key is found by its number among all keys
    pub nth_key_is : (i : ℕ) → entries.nth_key room store (application_list room store made root) i ≡ nth_of (application_numbers room store made root lim.applications) i
    nth_key_is i =
        let l = application_list room store made root in
        let most : ℕ = lim.applications in
        let a : i + 1 ≡ suc i = omega arith in
        on (ltb i (most + 1))
        (λ e. rw a (walk_nth room store l.end l.place i (most + 1) None (ltb-true i (most + 1) e)))
        (λ e.
        ap (λ (ns : Seq ℕ). nth_of ns i)
        (walk_ends room store l.end l.place (most + 1) (i + 1) None (omega (arith, applications_few)) (omega (arith, ltb-false i (most + 1) e))))
