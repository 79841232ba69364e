-- Level 2 of the stem: "The stem is the selected package; for the boot chain it is the package, else `bin`, else file stem of the first `app` component with a partition, else the board name."
use Rattle.std.specs.Prelude.{ℕ, ◌≤◌, Bool, true, false, List as Seq, [], ◌∷◌, ◌≡◌, eqb, length, Option, Some, None}
use Rattle.meaning.specs.Base.{pick}
use Rattle.meaning.specs.Files.{last_dot}
use Rattle.tree.specs.Room.{slot_at}
use Rattle.tree.specs.Doors.{fields_of}
use Rattle.schema.specs.declared.Text.{Text}
use Rattle.schema.specs.declared.Text.TheVariants as texts
use Rattle.schema.specs.declared.Kind.{Kind}
use Rattle.schema.specs.declared.Kind.TheVariants as kinds
use Rattle.schema.specs.declared.Component.{Component}
use Rattle.schema.specs.Texts.{clip, or_text}
use Rattle.parse.specs.Component.{name_in}
use Rattle.parse.specs.Entries.{component_at}
use Rattle.parse.specs.Front.{front_read}
use Rattle.parse.specs.Refused.{lent_text}
use Rattle.validate.specs.Gathered.{components}
use Rattle.plan.specs.declared.choice.Choice.{Choice}
use Rattle.plan.specs.declared.choice.Choice.TheVariants as choices
use Rattle.plan.specs.Planned.{placed}

-- ---- a file's stem

-- where the last dot stands, 0 where there is none
pub record Dotted (s : Seq ℕ) (r : ℕ) : Type 0 where
  pub is : r ≡ last_dot 0 0 s
  pub inside : r ≤ length s

-- how many bytes of a file's name are its stem
unfoldable pub stopped : Seq ℕ → ℕ
stopped s = pick (eqb (last_dot 0 0 s) 0) (length s) (last_dot 0 0 s)

-- the stem of a name in the store
abbrev pub shortened : Seq ℕ → Text → Text
shortened store texts.Absent = texts.Absent
shortened store (texts.Stored from len) = texts.Stored from (stopped (clip from len store))
shortened store texts.Lent = texts.Absent
shortened store (texts.Fixed w) = texts.Absent
shortened store (texts.WithAic from len) = texts.Absent

abbrev pub stem_of : Seq ℕ → Text → Text
stem_of store file = shortened store (name_in store file)

-- "the package, else `bin`, else file stem"
unfoldable pub own_stem : Seq ℕ → Component → Text
own_stem store c = or_text c.head.«package» (or_text c.head.bin (stem_of store c.head.file))

-- ---- the first `app` component with a partition

abbrev pub is_app : Kind → Bool
is_app kinds.App = true
is_app kinds.Pbp = false
is_app kinds.Raw = false

abbrev pub first_with : (ℕ → Bool) → Seq ℕ → Option ℕ
first_with p [] = None
first_with p (n ∷ ns) = pick (p n) (Some n) (first_with p ns)

-- the key of value number n
abbrev pub key_of : Seq ℕ → ℕ → Text
key_of room n = texts.Stored (slot_at room n).key (slot_at room n).len

module _ (room store : Seq ℕ) (made : ℕ) where
  unfoldable pub leads : ℕ → Bool
  leads n = pick (placed room store made n) (is_app (component_at room store made n 32).component.head.kind) false

  abbrev pub leader : Option ℕ
  leader = first_with leads (components room store made)

  abbrev pub stem_found : Option ℕ → Text
  stem_found None = texts.Absent
  stem_found (Some n) = own_stem store (component_at room store made n 32).component

  abbrev pub leading : Text
  leading = stem_found leader

  -- ---- of a plan

  unfoldable pub boot_stem : Seq ℕ → Text
  boot_stem name = or_text leading (front_read room store made (fields_of room made 1) (lent_text name)).board.name

  abbrev pub stem : Seq ℕ → Choice → Text
  stem name choices.BootChain = boot_stem name
  stem name choices.Undeclared = texts.Absent
  stem name (choices.At place n) = key_of room n
