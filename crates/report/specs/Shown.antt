-- Level 2 of the listing: its lines, by what stands in the rooms.
use Rattle.std.specs.Prelude.{ℕ, ◌+◌, List as Seq, [], ◌∷◌, ◌++◌, map, ◌≡◌, length, None}
use Rattle.meaning.specs.Base.{concat}
use Rattle.meaning.specs.Print.{of_word, of_number, of_text, wordOk, wordPart, wordComp, wordApp, wordBuild, spaced, unended, ended}
use Rattle.meaning.specs.Listing as meant
use Rattle.meaning.specs.Listing.{chip_named, media_named, kind_named, lock_named, placed}
use Rattle.tree.specs.Doors.{Rooms, items}
use Rattle.schema.specs.declared.Chip.{Chip}
use Rattle.schema.specs.declared.Media.{Media}
use Rattle.schema.specs.declared.Text.{Text}
use Rattle.schema.specs.declared.Partition.{Partition}
use Rattle.schema.specs.declared.Component.{Component}
use Rattle.schema.specs.declared.Application.{Application}
use Rattle.schema.specs.Words.{chip_meant, media_meant, kind_meant}
use Rattle.schema.specs.Texts.{clip, spelled}
use Rattle.parse.specs.declared.view.Lists.{Lists}
use Rattle.parse.specs.Entries.{partition_at, component_at, application_at, walk}
use Rattle.parse.specs.Views.{partition_list, component_list, application_list, lists_of, counts_of, device_of}
use Rattle.parse.specs.Meant.{feature_list}
use Rattle.plan.specs.declared.component.Build.{Build}
use Rattle.plan.specs.declared.choice.Choice.TheVariants.{BootChain}
use Rattle.plan.specs.Builds.{builds_of}
use Rattle.plan.specs.Stems as stems
use Rattle.report.specs.declared.brief.ComponentBrief.{ComponentBrief}
use Rattle.report.specs.declared.brief.ApplicationBrief.{ApplicationBrief}

-- ---- what a line says of an entry

abbrev pub component_brief : Component → ComponentBrief
component_brief c = record { kind = c.head.kind; name = c.head.name; partition = c.role.partition }

abbrev pub application_brief : Application → ApplicationBrief
application_brief a = record { «package» = a.«package»; name = a.name; partition = a.partition }

-- ---- a line

unfoldable pub part : Seq ℕ → Partition → Seq ℕ
part store p =
    ended (of_word wordPart ∷ of_text (clip p.from p.len store) ∷ of_number p.offset ∷ of_number (p.offset + p.size) ∷ of_word (lock_named p.locked) ∷ [])

unfoldable pub comp : Seq ℕ → Seq ℕ → ComponentBrief → Seq ℕ
comp store name b =
    ended (of_word wordComp ∷ of_text (spelled store name b.name) ∷ of_word (kind_named (kind_meant b.kind)) ∷ placed (spelled store name b.partition) ∷ [])

unfoldable pub app : Seq ℕ → Seq ℕ → ApplicationBrief → Seq ℕ
app store name b =
    ended (of_word wordApp ∷ of_text (spelled store name b.«package») ∷ of_text (spelled store name b.name) ∷ placed (spelled store name b.partition) ∷ [])

unfoldable pub build : Seq ℕ → Seq ℕ → Text → ℕ → Seq ℕ
build store name p features = ended (of_word wordBuild ∷ of_text (spelled store name p) ∷ of_number features ∷ [])

-- the first half of `ok`
abbrev pub device : Chip → Media → Seq ℕ
device chip media = unended (of_word wordOk ∷ of_word (chip_named (chip_meant chip)) ∷ of_word (media_named (media_meant media)) ∷ [])

-- the lines of a list's entries
abbrev pub each : {X : Type 0} → (X → Seq ℕ) → Seq X → Seq ℕ
each f xs = concat (map f xs)

-- a preset's lists stand in the rooms
pub record Stands (room store : Seq ℕ) (made : ℕ) (lists : Lists) : Type 0 where
  pub rooms : Rooms room made
  pub found : lists ≡ lists_of room store made

module _ (room store : Seq ℕ) (made : ℕ) where
  -- how many entries there are, and values made
  unfoldable pub counts : Seq ℕ
  counts =
      spaced (of_number (counts_of room store made).partitions ∷ of_number (counts_of room store made).components ∷ of_number (counts_of room store made).applications ∷ of_number made ∷ [])
      ++ (10 ∷ [])

  unfoldable pub ok : Seq ℕ
  ok = device (device_of room store made).chip (device_of room store made).media ++ counts

  -- the line of the partition that value number n is, and of all of them
  abbrev pub part_at : ℕ → Seq ℕ
  part_at n = part store (partition_at room store made n).partition

  abbrev pub parts : Seq ℕ
  parts = each part_at (items room (partition_list room store made).end (partition_list room store made).place 0)

  module _ (name : Seq ℕ) where
    -- the line of the component, the application that value number n is, and of a build
    abbrev pub comp_at : ℕ → Seq ℕ
    comp_at n = comp store name (component_brief (component_at room store made n 32).component)

    abbrev pub app_at : ℕ → Seq ℕ
    app_at n = app store name (application_brief (application_at room store made n 32).application)

    abbrev pub build_of : Build → Seq ℕ
    build_of b = build store name b.«package» (length (feature_list room store made b.features))

    -- ---- the lists

    abbrev pub comps : Seq ℕ
    comps = each comp_at (items room (component_list room store made).end (component_list room store made).place 0)

    abbrev pub apps : Seq ℕ
    apps = each app_at (walk room store (application_list room store made).end (application_list room store made).place 65 None)

    abbrev pub builds : Seq ℕ
    builds = each build_of (builds_of room store made BootChain)

    -- ---- all lines

    abbrev pub entries : Seq ℕ
    entries = ok ++ (parts ++ (comps ++ apps))

    abbrev pub outcome : Seq ℕ
    outcome = builds ++ ended (meant.stem_line (spelled store name (stems.stem room store made name BootChain)))

    abbrev pub lines : Seq ℕ
    lines = entries ++ outcome
