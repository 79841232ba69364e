-- Level 2 of a preset's lists, and the first refusal of its records in 01's order.
use Rattle.std.specs.Prelude.{ℕ, ◌+◌, List as Seq, None}
use Rattle.meaning.specs.declared.Limits.{Limits}
use Rattle.meaning.specs.Base.{pick, ascii}
use Rattle.meaning.specs.Utf8.{valid}
use Rattle.tree.specs.declared.Fields.{Fields}
use Rattle.tree.specs.Doors as doors
use Rattle.schema.specs.declared.Text.{Text}
use Rattle.schema.specs.declared.Text.TheVariants as texts
use Rattle.schema.specs.declared.Word.TheVariants as words
use Rattle.parse.specs.declared.Refusal.{Refusal}
use Rattle.parse.specs.declared.entry.List.{List}
use Rattle.parse.specs.Refusals.{in_section, earlier}
use Rattle.parse.specs.Front as front
use Rattle.parse.specs.Entries as entries
use Rattle.parse.specs.Entries.{refusal_of}

-- "The caller lends the default board name; one that is not UTF-8 counts as `board`."
unfoldable pub lent_text : Seq ℕ → Text
lent_text given = pick (valid given) texts.Lent (texts.Fixed words.Board)

module _ (room store : Seq ℕ) (made : ℕ) (root : Fields) where
  -- where the lists stand
  abbrev pub partition_list : List
  partition_list = entries.list_at room store made root (ascii "partition") (ascii "partitions")

  abbrev pub component_list : List
  component_list = entries.list_at room store made root (ascii "component") (ascii "components")

  abbrev pub application_list : List
  application_list = entries.keys_at room store made root

  -- the numbers of their entries; of the applications as many as the limit and one more
  abbrev pub partition_numbers : Seq ℕ
  partition_numbers = doors.items room partition_list.end partition_list.place 0

  abbrev pub component_numbers : Seq ℕ
  component_numbers = doors.items room component_list.end component_list.place 0

  abbrev pub application_numbers : ℕ → Seq ℕ
  application_numbers most = entries.walk room store application_list.end application_list.place (most + 1) None

  module _ (lim : Limits) where
    -- the list itself is told before its entries
    abbrev pub partitions_verdict : Refusal
    partitions_verdict = earlier (in_section 3 partition_list.fault) (refusal_of (entries.partitions room store made partition_list lim.partitions))

    abbrev pub components_verdict : Refusal
    components_verdict = earlier (in_section 4 component_list.fault) (entries.components room store made component_list lim.components lim.features)

    abbrev pub applications_verdict : Refusal
    applications_verdict = earlier (in_section 5 application_list.fault) (entries.applications room store made application_list lim.applications lim.features)

    -- all of it, in 01's order
    unfoldable pub verdict : Text → Refusal
    verdict lent =
        earlier (front.front_read room store made root lent).fault (earlier partitions_verdict (earlier components_verdict applications_verdict))
