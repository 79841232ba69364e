-- What a selection's refusal says of the rooms is what 01's planning says of the preset they stand for.
use Rattle.std.specs.Prelude.{ℕ, ◌+◌, ◌≡◌, eqb}
use mathlib.Core.List.{List as Seq, [], ◌∷◌, map}
use Rattle.std.proofs.Math.Option.{Option, none, some}
use Rattle.std.proofs.Math.Path.{refl}
use Rattle.std.proofs.Common.{arith}
use Rattle.meaning.specs.Base.{pick, same}
use Rattle.meaning.specs.Limits.{of01}
use Rattle.meaning.specs.Schema as schemas
use Rattle.meaning.specs.Verdict.{among}
use Rattle.meaning.specs.Plan as meant
use Rattle.laws.specs.Cases.{on}
use Rattle.tree.specs.Doors.{fields_of}
use Rattle.parse.specs.Application.{application_read}
use Rattle.parse.specs.Entries as parsed
use Rattle.parse.specs.Answers.{Says, says_made}
use Rattle.parse.specs.Refused.{lent_text}
use Rattle.parse.specs.Whole.{preset_meant, component_of, application_of}
use Rattle.turns.specs.Marks.{any_of}
use Rattle.validate.specs.Entries.{kept}
use Rattle.validate.specs.EntrySaid.{kept_spelled, component_kept, application_kept}
use Rattle.validate.specs.Gathered.{components, applications}
use Rattle.plan.specs.declared.choice.Choice.{Choice}
use Rattle.plan.specs.declared.choice.Choice.TheVariants as choices
use Rattle.plan.specs.Choices.{keyed, declared_in, choice, named, taken, name_fault, fault}

-- selection 0 is the boot chain; any other, the application of the key
abbrev pub selection : ℕ → Seq ℕ → meant.Selection
selection app key = pick (eqb app 0) meant.boot_chain (meant.app key)

module _ (room store : Seq ℕ) (made : ℕ) (name : Seq ℕ) where
  abbrev application : ℕ → schemas.Application
  application n = application_of room store made name 32 n

  -- the entry of a choice
  abbrev entry_of : Choice → Option meant.Entry
  entry_of choices.BootChain = none
  entry_of choices.Undeclared = none
  entry_of (choices.At place n) = some (record { place = place; application = application n })

  -- the application that goes with the boot chain
  abbrev pub selected : Choice → Option schemas.Application
  selected choices.BootChain = none
  selected choices.Undeclared = none
  selected (choices.At place n) = some (application n)

  -- 80 refuses the others
  abbrev pub Met : Choice → Type 0
  Met choices.BootChain = Unit {0}
  Met choices.Undeclared = ⊥
  Met (choices.At place n) = Unit {0}

  -- ---- 80

  keyed_is : (key : Seq ℕ) (n : ℕ) → same key (application n).pack ≡ keyed room store key n
  unfolding keyed parsed.application_at application_read
  keyed_is key n = refl

  declared_is : (key : Seq ℕ) (i : ℕ) (ns : Seq ℕ) → meant.declared i key (map application ns) ≡ entry_of (declared_in room store key i ns)
  declared_is key i [] = refl
  declared_is key i (n ∷ ns) = on (keyed room store key n) (λ e. rw (keyed_is key n, e)) (λ e. rw (keyed_is key n, e) (declared_is key (i + 1) ns))

  -- ---- 81

  component_named : (n : ℕ) → (component_of room store made name 32 n).head.name ≡ kept store (parsed.component_at room store made n 32).component.head.name
  component_named n = kept_spelled store name (parsed.component_at room store made n 32).component.head.name (component_kept room store made n).name

  application_named : (n : ℕ) → (application n).name ≡ kept store (parsed.application_at room store made n 32).application.name
  application_named n = kept_spelled store name (parsed.application_at room store made n 32).application.name (application_kept room store made n).name

  taken_is : (s : Seq ℕ) (ns : Seq ℕ) → among s (meant.component_names (map (component_of room store made name 32) ns)) ≡ any_of (named room store made s) ns
  unfolding named
  taken_is s [] = refl
  taken_is s (n ∷ ns) = rw (component_named n, taken_is s ns)

  -- ---- both

  abbrev cs : Seq schemas.Component
  cs = map (component_of room store made name 32) (components room store made)

  admitted_says : (c : Choice) → (c ≡ choices.BootChain → ⊥) → Says (meant.admitted cs (entry_of c)) (fault room store made c) (selected c)
  unfolding meant.admitted name_fault
  admitted_says choices.BootChain h = absurd (h refl)
  admitted_says choices.Undeclared h = record { told_by = (refl, omega arith) }
  admitted_says (choices.At place n) h =
      rw (application_named n, taken_is (kept store (parsed.application_at room store made n 32).application.name) (components room store made))
      (on (taken room store made (kept store (parsed.application_at room store made n 32).application.name))
      (λ e. rw e (record { told_by = (refl, omega arith) }))
      (λ e. rw e (record { told_by = (refl, refl) })))

  abbrev preset : schemas.Preset
  preset = preset_meant room store made name (fields_of room made 1) of01 (lent_text name)

  -- an application that was looked for is no boot chain
  declared_not : (key : Seq ℕ) (i : ℕ) (ns : Seq ℕ) → declared_in room store key i ns ≡ choices.BootChain → ⊥
  declared_not key i [] e = let z : ◌≡◌ {A = ℕ} 0 1 = cc in absurd (omega arith)
  declared_not key i (n ∷ ns) e =
      on (keyed room store key n)
      (λ t. let f : choices.At i n ≡ choices.BootChain = rw t at e in let z : ◌≡◌ {A = ℕ} 0 1 = cc in absurd (omega arith))
      (λ t. declared_not key (i + 1) ns (rw t at e))

  pub chosen_says : (app : ℕ) (key : Seq ℕ)
      → Says (meant.chosen preset (selection app key)) (fault room store made (choice room store made app key)) (selected (choice room store made app key))
  unfolding meant.chosen
  chosen_says app key =
      on (eqb app 0)
      (λ e. rw e (record { told_by = (refl, refl) }))
      (λ e.
      rw (e, declared_is key 0 (applications room store made))
      (admitted_says (declared_in room store key 0 (applications room store made)) (declared_not key 0 (applications room store made))))

  -- planning refuses what the selection's fault says; what it plans is made of the application that was chosen
  pub plan_says : (app : ℕ) (key : Seq ℕ)
      → Says (meant.plan_of preset (selection app key)) (fault room store made (choice room store made app key))
      (meant.composed preset (selection app key) (selected (choice room store made app key)))
  unfolding meant.plan_of
  plan_says app key = says_made (meant.composed preset (selection app key)) (chosen_says app key)
