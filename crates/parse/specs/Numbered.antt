-- Where nothing is refused: the records that the views give by their entry number are the preset's.
use Rattle.std.specs.Prelude.{ℕ, List as Seq, map, ◌≡◌, Option as Maybe, Some, None}
use Rattle.std.proofs.Math.Option.{Option, none, some}
use Rattle.std.proofs.Math.Path.{refl, sym, ap}
use Rattle.std.proofs.Common.{◌∙◌}
use Rattle.std.proofs.Math.ListN.{length}
use Rattle.meaning.specs.declared.Limits.{Limits}
use Rattle.meaning.specs.Schema as meant
use Rattle.tree.specs.declared.Fields.{Fields}
use Rattle.tree.specs.Doors.{fields_of, nth_of}
use Rattle.tree.specs.Spans.{items_count}
use Rattle.schema.specs.declared.Text.{Text}
use Rattle.schema.specs.declared.Text.TheVariants as texts
use Rattle.schema.specs.Words.{chip_meant, media_meant}
use Rattle.schema.specs.declared.Partition.{Partition}
use Rattle.schema.specs.declared.Component.{Component}
use Rattle.schema.specs.declared.Application.{Application}
use Rattle.parse.specs.Front.{front_of, board_read, front_read}
use Rattle.parse.specs.Entries.{partition_at, component_at, application_at}
use Rattle.parse.specs.Refused.{partition_list, component_list, partition_numbers, component_numbers, application_numbers, verdict}
use Rattle.parse.specs.Views as views
use Rattle.parse.specs.Meant.{partition_meant, component_meant, application_meant}
use Rattle.parse.specs.Whole.{Clear, partition_of, component_of, application_of, preset_meant}
use Rattle.parse.specs.Given.{entry_at, standing, map_at, map_length, clear_at, partitions_clear, components_clear, applications_clear, nth_key_is}

-- ---- what a view gives stands for 01's record, or for none

module _ (room store : Seq ℕ) (made : ℕ) (name : Seq ℕ) where
  abbrev pub partition_seen : Maybe Partition → Option meant.Partition
  partition_seen None = none
  partition_seen (Some p) = some (partition_meant room store made name p)

  abbrev pub component_seen : Maybe Component → Option meant.Component
  component_seen None = none
  component_seen (Some c) = some (component_meant room store made name c)

  abbrev pub application_seen : Maybe Application → Option meant.Application
  application_seen None = none
  application_seen (Some a) = some (application_meant room store made name a)

-- ---- one law for the three lists

module _ {X Y : Type 0} (fault : ℕ → ℕ) (given : Maybe ℕ → Y) (seen : Y → Option X) (value : ℕ → X) (nothing : seen (given None) ≡ none)
    (good : (n : ℕ) → fault n ≡ 0 → seen (given (Some n)) ≡ some (value n)) where
  found_stands : (r : Maybe ℕ) → ((n : ℕ) → r ≡ Some n → fault n ≡ 0) → seen (given r) ≡ standing value r
  found_stands None c = nothing
  found_stands (Some n) c = good n (c n refl)

  -- where no entry has a fault, number i is given as it stands
  numbered_is : (ns : Seq ℕ) (i : ℕ) → Clear fault ns → seen (given (nth_of ns i)) ≡ entry_at (map value ns) i
  numbered_is ns i c = found_stands (nth_of ns i) (λ n e. clear_at fault ns i n c e) ∙ sym (map_at value ns i)

-- ---- an entry without a fault is given

module _ (room store : Seq ℕ) (made : ℕ) (name : Seq ℕ) where
  partition_good : (n : ℕ) → (partition_at room store made n).fault ≡ 0 → partition_seen room store made name (views.good_partition room store made n) ≡ some (partition_of room store made name n)
  unfolding views.good_partition
  partition_good n e = rw e

  component_good : (limit n : ℕ) → (component_at room store made n limit).fault ≡ 0
      → component_seen room store made name (views.good_component room store made n limit) ≡ some (component_of room store made name limit n)
  unfolding views.good_component
  component_good limit n e = rw e

  application_good : (limit n : ℕ) → (application_at room store made n limit).fault ≡ 0
      → application_seen room store made name (views.good_application room store made n limit) ≡ some (application_of room store made name limit n)
  unfolding views.good_application
  application_good limit n e = rw e

-- ---- no lent text changes the chip or the media

module _ (room store : Seq ℕ) (made : ℕ) (root : Fields) (lent other : Text) where
  pub chip_same : (front_read room store made root lent).board.chip ≡ (front_read room store made root other).board.chip
  unfolding front_of board_read
  chip_same = refl

  pub media_same : (front_read room store made root lent).image.media ≡ (front_read room store made root other).image.media
  unfolding front_of
  media_same = refl

-- ---- the preset's records

module _ (room store : Seq ℕ) (made : ℕ) (name : Seq ℕ) (lim : Limits) (lent : Text) where
  module _ (v : (verdict room store made (fields_of room made 1) lim lent).number ≡ 0) where
    pub partition_numbered : (i : ℕ) → partition_seen room store made name (views.partition room store made i)
        ≡ entry_at (preset_meant room store made name (fields_of room made 1) lim lent).partitions i
    partition_numbered i =
        numbered_is (λ n. (partition_at room store made n).fault) (views.partition_of room store made) (partition_seen room store made name) (partition_of room store made name) refl
        (partition_good room store made name) (partition_numbers room store made (fields_of room made 1)) i (partitions_clear room store made (fields_of room made 1) lim lent v)

    pub component_numbered : (i : ℕ) → component_seen room store made name (views.component room store made i lim.features)
        ≡ entry_at (preset_meant room store made name (fields_of room made 1) lim lent).components i
    component_numbered i =
        numbered_is (λ n. (component_at room store made n lim.features).fault) (views.component_of room store made lim.features) (component_seen room store made name)
        (component_of room store made name lim.features) refl (component_good room store made name lim.features) (component_numbers room store made (fields_of room made 1)) i
        (components_clear room store made (fields_of room made 1) lim lent v)

    -- a view walks by key up to its number alone
    pub application_numbered : (i : ℕ) → application_seen room store made name (views.application room store made i lim.features)
        ≡ entry_at (preset_meant room store made name (fields_of room made 1) lim lent).applications i
    application_numbered i =
        ap (λ (r : Maybe ℕ). application_seen room store made name (views.application_of room store made lim.features r))
        (nth_key_is room store made (fields_of room made 1) lim lent v i)
        ∙ numbered_is (λ n. (application_at room store made n lim.features).fault) (views.application_of room store made lim.features) (application_seen room store made name)
        (application_of room store made name lim.features) refl (application_good room store made name lim.features)
        (application_numbers room store made (fields_of room made 1) lim.applications) i (applications_clear room store made (fields_of room made 1) lim lent v)

  -- ---- how many there are

  pub partitions_counted : (views.counts_of room store made).partitions ≡ length (preset_meant room store made name (fields_of room made 1) lim lent).partitions
  unfolding views.counts_of
  partitions_counted =
      let l = partition_list room store made (fields_of room made 1) in
      sym (items_count room l.end l.place) ∙ sym (map_length (partition_of room store made name) (partition_numbers room store made (fields_of room made 1)))

  pub components_counted : (views.counts_of room store made).components ≡ length (preset_meant room store made name (fields_of room made 1) lim lent).components
  unfolding views.counts_of
  components_counted =
      let l = component_list room store made (fields_of room made 1) in
      sym (items_count room l.end l.place)
      ∙ sym (map_length (component_of room store made name lim.features) (component_numbers room store made (fields_of room made 1)))

  -- the count walks as far as 01's limit and one more
  pub applications_counted : lim.applications ≡ 64 → (views.counts_of room store made).applications ≡ length (preset_meant room store made name (fields_of room made 1) lim lent).applications
  unfolding views.counts_of
  applications_counted e =
      sym (ap (λ (n : ℕ). length (application_numbers room store made (fields_of room made 1) n)) e)
      ∙ sym (map_length (application_of room store made name lim.features) (application_numbers room store made (fields_of room made 1) lim.applications))

  -- ---- what the preset is for

  pub chip_is : chip_meant (views.device_of room store made).chip ≡ (preset_meant room store made name (fields_of room made 1) lim lent).board.chip
  unfolding views.device_of
  chip_is = ap chip_meant (chip_same room store made (fields_of room made 1) texts.Lent lent)

  pub media_is : media_meant (views.device_of room store made).media ≡ (preset_meant room store made name (fields_of room made 1) lim lent).image.media
  unfolding views.device_of
  media_is = ap media_meant (media_same room store made (fields_of room made 1) texts.Lent lent)
