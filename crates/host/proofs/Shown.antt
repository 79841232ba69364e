-- The rooms of an accepted preset: what the views read from them by number is 01's preset.
use Prim.Native.Nat.{ℕ}
use mathlib.Core.List.{List}
use mathlib.Core.Path.{◌≡◌, refl, ap, ◌∙◌}
use lib.ListN.{length}
use Rattle.meaning.specs.Limits.{of01}
use Rattle.meaning.specs.Schema.{Preset}
use Rattle.meaning.specs.Preset.{Read}
use Rattle.schema.specs.Words.{chip_meant, media_meant}
use Rattle.parse.specs.Refused.{lent_text}
use Rattle.parse.specs.Views.{partition, component, application, counts_of, device_of}
use Rattle.parse.specs.Given.{entry_at}
use Rattle.parse.specs.Numbered as numbered
use Rattle.parse.specs.Numbered.{partition_seen, component_seen, application_seen}
use Rattle.host.specs.Presets.{Recorded}

module _ (name store tree : List ℕ) (p : Read) (h : Recorded name store tree p) where
  -- by number
  pub partition_shown_lem : (i : ℕ) → partition_seen tree store p.parsed.made name (partition tree store p.parsed.made i) ≡ entry_at p.preset.partitions i
  partition_shown_lem i = numbered.partition_numbered tree store p.parsed.made name of01 (lent_text name) h.clear i ∙ ap (λ (r : Preset). entry_at r.partitions i) h.records

  pub component_shown : (i : ℕ) → component_seen tree store p.parsed.made name (component tree store p.parsed.made i of01.features) ≡ entry_at p.preset.components i
  component_shown i = numbered.component_numbered tree store p.parsed.made name of01 (lent_text name) h.clear i ∙ ap (λ (r : Preset). entry_at r.components i) h.records

  pub application_shown_lem : (i : ℕ) → application_seen tree store p.parsed.made name (application tree store p.parsed.made i of01.features) ≡ entry_at p.preset.applications i
  application_shown_lem i =
      numbered.application_numbered tree store p.parsed.made name of01 (lent_text name) h.clear i ∙ ap (λ (r : Preset). entry_at r.applications i) h.records

  -- how many there are
  pub partitions_shown : (counts_of tree store p.parsed.made).partitions ≡ length p.preset.partitions
  partitions_shown = numbered.partitions_counted tree store p.parsed.made name of01 (lent_text name) ∙ ap (λ (r : Preset). length r.partitions) h.records

  pub components_shown : (counts_of tree store p.parsed.made).components ≡ length p.preset.components
  components_shown = numbered.components_counted tree store p.parsed.made name of01 (lent_text name) ∙ ap (λ (r : Preset). length r.components) h.records

  pub applications_shown : (counts_of tree store p.parsed.made).applications ≡ length p.preset.applications
  applications_shown = numbered.applications_counted tree store p.parsed.made name of01 (lent_text name) refl ∙ ap (λ (r : Preset). length r.applications) h.records

  -- what it is for
  pub chip_shown : chip_meant (device_of tree store p.parsed.made).chip ≡ p.preset.board.chip
  chip_shown = numbered.chip_is tree store p.parsed.made name of01 (lent_text name) ∙ ap (λ (r : Preset). r.board.chip) h.records

  pub media_shown : media_meant (device_of tree store p.parsed.made).media ≡ p.preset.image.media
  media_shown = numbered.media_is tree store p.parsed.made name of01 (lent_text name) ∙ ap (λ (r : Preset). r.image.media) h.records
