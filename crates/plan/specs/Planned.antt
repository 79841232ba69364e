-- Level 2 of planned components: a component's record and sources, and all of them in composition order.
use Rattle.std.specs.Prelude.{ℕ, suc, ◌+◌, ◌-◌, Bool, true, false, List as Seq, [], ◌∷◌, eqb, ltb, length, Option, Some, None, option_map}
use Rattle.meaning.specs.Base.{pick, nil?}
use Rattle.schema.specs.declared.Text.{Text}
use Rattle.schema.specs.declared.Text.TheVariants as texts
use Rattle.schema.specs.declared.Features.{Features}
use Rattle.schema.specs.declared.Features.TheVariants as lists
use Rattle.schema.specs.declared.Kind.TheVariants as kinds
use Rattle.schema.specs.declared.Head.{Head}
use Rattle.schema.specs.declared.Boot.{Boot}
use Rattle.schema.specs.declared.Load.{Load}
use Rattle.schema.specs.declared.Component.{Component}
use Rattle.schema.specs.declared.Application.{Application}
use Rattle.schema.specs.Texts.{or_text, is_given}
use Rattle.parse.specs.Entries.{component_at, application_at}
use Rattle.parse.specs.Views as views
use Rattle.validate.specs.Entries.{kept}
use Rattle.validate.specs.Gathered.{components}
use Rattle.plan.specs.declared.choice.Choice.{Choice}
use Rattle.plan.specs.declared.choice.Choice.TheVariants as choices
use Rattle.plan.specs.declared.component.Build.{Build}
use Rattle.plan.specs.declared.component.Source.{Source}
use Rattle.plan.specs.declared.component.Source.TheVariants as sources
use Rattle.plan.specs.declared.component.Planned.{Planned}

-- ---- a component

abbrev pub built : Text → Text → Features → Build
built p bin fs = record { «package» = p; bin = or_text bin p; features = fs }

unfoldable pub payload : Head → Features → Source
payload h fs =
    pick (is_given h.«package») (sources.Package (built h.«package» h.bin fs)) (sources.File (or_text h.file (texts.Stored 0 0)))

unfoldable pub pbp_payload : Boot → Features → Option Source
pbp_payload b fs =
    pick (is_given b.pbp) (Some (sources.File b.pbp)) (pick (is_given b.pbp_package) (Some (sources.Package (built b.pbp_package texts.Absent fs))) None)

unfoldable pub head_left : Head → Head
head_left h =
    record {
      kind = h.kind;
      name = h.name;
      «package» = h.«package»;
      bin = h.bin;
      file = pick (is_given h.«package») h.file texts.Absent;
      filename = h.filename;
    }

abbrev pub boot_left : Boot → Boot
boot_left b = record { updater = b.updater; ram = b.ram; pbp = texts.Absent; pbp_package = b.pbp_package; private = b.private }

unfoldable pub planned : Component → Planned
planned c =
    record {
      spec = record { head = head_left c.head; role = c.role; boot = boot_left c.boot; load = c.load };
      source = payload c.head c.role.features;
      pbp_source = pbp_payload c.boot c.role.pbp_features;
    }

-- ---- the application

abbrev pub no_boot : Boot
no_boot = record { updater = false; ram = None; pbp = texts.Absent; pbp_package = texts.Absent; private = texts.Absent }

abbrev pub loads : Option ℕ → Option ℕ → Load
loads address offset =
    record {
      load_address = address;
      entry_point = None;
      entry_offset = offset;
      header_version = None;
      with_ext = false;
      ext_reserve = 0;
    }

unfoldable pub component_of : Application → Component
component_of a =
    record {
      head = record { kind = kinds.App; name = a.name; «package» = a.«package»; bin = texts.Absent; file = texts.Absent; filename = a.filename };
      role = record {
        features = a.features;
        pbp_features = lists.Absent;
        partition = a.partition;
        attr = a.attr;
        target_attr = texts.Absent;
        target_filename = texts.Absent;
      };
      boot = no_boot;
      load = loads a.load_address a.entry_offset;
    }

-- ---- composition order

-- how many stand before the first for which p holds
abbrev pub before : (ℕ → Bool) → Seq ℕ → ℕ
before p [] = 0
before p (n ∷ ns) = pick (p n) 0 (suc (before p ns))

abbrev pub planned_found : Option Component → Option Planned
planned_found found = option_map planned found

module _ (room store : Seq ℕ) (made : ℕ) where
  -- the component that value number n is has a partition
  unfoldable pub placed : ℕ → Bool
  placed n = pick (nil? (kept store (component_at room store made n 32).component.role.partition)) false true

  abbrev pub ahead : ℕ
  ahead = before placed (components room store made)

  abbrev pub own : ℕ → Option Planned
  own i = planned_found (views.component room store made i 32)

  abbrev pub planned_application : ℕ → Planned
  planned_application n = planned (component_of (application_at room store made n 32).application)

  -- the application stands directly before the first component with a partition
  unfoldable pub composed : ℕ → ℕ → Option Planned
  composed n i = pick (ltb i ahead) (own i) (pick (eqb i ahead) (Some (planned_application n)) (own (i - 1)))

  abbrev pub count : Choice → ℕ
  count choices.BootChain = length (components room store made)
  count choices.Undeclared = 0
  count (choices.At place n) = length (components room store made) + 1

  abbrev pub component : Choice → ℕ → Option Planned
  component choices.BootChain i = own i
  component choices.Undeclared i = None
  component (choices.At place n) i = composed n i
