-- Without a premise a clause fails: what the texts read is computed, and a reference or a build of the plan is looked at.
use Prim.Native.Nat.{ℕ, zero, suc, ◌≤◌}
use mathlib.Core.Bool.{Bool, true, false}
use mathlib.Core.List.{List, [], ◌∷◌}
use mathlib.Core.Option.{Option, none, some}
use mathlib.Core.Path.{◌≡◌, refl, sym, ap, subst, ◌∙◌}
use native.Mathlib.Omega.{arith}
use lib.ListN.{length}
use Rattle.meaning.specs.Base.{ascii, nil?}
use Rattle.meaning.specs.Limits.{of01}
use Rattle.meaning.specs.Refusal.{accepted, accepted_then}
use Rattle.meaning.specs.Schema.{kindRaw, Partition, Component, Application, Preset}
use Rattle.meaning.specs.Preset.{Read, validate}
use Rattle.meaning.specs.Plan.{Selection, boot_chain, app, built, Plan, planned, component_of, partition_for, composed, plan_of, computes}
use Rattle.laws.specs.Cases.{never}
use Rattle.laws.specs.Answers.{accepted_one, after_accepted}
use Rattle.laws.specs.Rooms.{valid_anywhere}
use Rattle.laws.specs.Places.{none_some}
use Rattle.examples.specs.Example as given
use Rattle.plan.specs.ChoiceSaid.{selection}
use Rattle.host.specs.Presets.{validated}
use Rattle.theorems.specs.PassedPreset.{Declared, Selected, by_key, as_payload, ReferencesFind, ApplicationIsOpen, NoSemicolon, NoWhiteEnds, SelectedGoesTo, FeaturesOfEachUse, Premise1, PassesWithout, going_to, beside_locked, two_sets, NeedsNoSemicolon, NeedsNoWhiteHead, NeedsNoWhiteEnd, OpenNeedsNoSemicolon, NeedsOneSet}
use Rattle.theorems.proofs.PassedPreset.{preset_shown, plan_shown}

-- ---- a text by its preset

-- in rooms of the least size 01 reads a text as x, and plans x as q: so do the calls, in all rooms that are large enough
module _ (text : List ℕ) (asked : ℕ) (key : List ℕ) (Met : Preset → Selection → Type 0) (Clause : Preset → Selection → Plan → Type 0) where
  by_read : (x : Read) (q : Plan) → validate of01 32768 65536 (ascii "board") text ≡ accepted x
      → Met x.preset (selection asked key) → plan_of x.preset (selection asked key) ≡ accepted q → (Clause x.preset (selection asked key) q → ⊥)
      → PassesWithout text asked key Met Clause
  by_read x q e met made fails =
      let there : (store tree : List ℕ) → 32768 ≤ length store → 65536 ≤ length tree → validated text (ascii "board") store tree ≡ accepted x
      = λ store tree l m. valid_anywhere of01 32768 65536 (length store) (length tree) (ascii "board") text x e (record { store_takes = l; tree_takes = m }) in
      record {
        preset = x.preset;
        passes = λ store tree store' tree' r l m h. preset_shown (validated text (ascii "board") store tree) text (ascii "board") store tree store' tree' r x h (there store tree l m);
        met = met;
        plan = q;
        planned = λ store tree store' tree' r l m h. plan_shown text (ascii "board") asked key store tree x (there store tree l m) store' tree' r h q made;
        fails = fails;
      }

  -- what matters of x is its preset
  by_preset : (p : Preset) (q : Plan) → accepted_then (validate of01 32768 65536 (ascii "board") text) (λ x. accepted x.preset) ≡ accepted p
      → Met p (selection asked key) → plan_of p (selection asked key) ≡ accepted q → (Clause p (selection asked key) q → ⊥)
      → PassesWithout text asked key Met Clause
  by_preset p q e met made fails =
      let x = after_accepted (λ (x : Read). accepted x.preset) (validate of01 32768 65536 (ascii "board") text) p e in
      let d : p ≡ x.0.preset = sym (accepted_one x.0.preset p x.2) in
      by_read x.0 q x.1 (subst (λ (r : Preset). Met r (selection asked key)) d met) (subst (λ (r : Preset). plan_of r (selection asked key) ≡ accepted q) d made)
      (subst (λ (r : Preset). Clause r (selection asked key) q → ⊥) d fails)

-- a component of the texts
abbrev component : List ℕ → List ℕ → List (List ℕ) → Option (List ℕ) → List (List ℕ) → Component
component name pack features pbp_pack pbp_features =
    record {
      head = record { kind = kindRaw; name = name; pack = some pack; bin = none; file = none; filename = pack };
      role =
          record {
            features = features;
            pbp_features = pbp_features;
            partition = ascii "boot";
            attr = ascii "mtd;required";
            target_attr = none;
            target_filename = none;
          };
      boot = record { updater = false; ram = none; pbp = none; pbp_pack = pbp_pack; private = none };
      load = (given.first).load;
    }

-- one erase block
abbrev block : List ℕ → ℕ → Bool → Partition
block name offset locked = record { name = name; offset = offset; size = 4096; locked = locked }

-- ---- premise 1

abbrev for_desk : Selection
for_desk = app (ascii "desk")

module _ (others : List Partition) (name : List ℕ) where
  abbrev desk : Application
  desk =
      record {
        pack = ascii "desk";
        name = ascii "desk";
        partition = name;
        filename = ascii "desk.aic";
        attr = ascii "mtd;optional";
        features = [];
        load_address = none;
        entry_offset = none;
      }

  abbrev going : Preset
  going =
      record {
        board = (given.preset).board;
        image = (given.preset).image;
        partitions = block (ascii "boot") 0 false ∷ others;
        components = component (ascii "first") (ascii "loader") [] none [] ∷ [];
        applications = desk ∷ [];
      }

  abbrev going_plan : Plan
  going_plan = composed going for_desk (some desk)

  only_desk : (a : Application) → Selected going for_desk a → desk ≡ a
  only_desk a (by_key key zero b h) = h.here
  only_desk a (by_key key (suc i) b h) = absurd h.here

  goes : (Kind : List ℕ → Type 0) → Kind name → SelectedGoesTo Kind going for_desk
  goes Kind k a h = subst (λ (b : Application). Kind b.partition) (only_desk a h) k

  lost : nil? name ≡ false → partition_for going.partitions name ≡ none → ReferencesFind going_plan → ⊥
  unfolding computes
  lost some-name gone h = let f = h 0 (planned (component_of desk)) refl some-name in none_some f.lies.partition (sym gone ∙ f.found)

-- the second partition, of that name
abbrev second : List ℕ → List Partition
second name = block name 4096 false ∷ []

pub needs_no_semicolon : NeedsNoSemicolon
unfolding computes
needs_no_semicolon =
    by_preset (going_to "name = \"a;b\"" "partition = \"a;b\"") 1 (ascii "desk") (SelectedGoesTo NoWhiteEnds) (λ p s. ReferencesFind)
    (going (second (ascii "a;b")) (ascii "a;b")) (going_plan (second (ascii "a;b")) (ascii "a;b")) refl (goes (second (ascii "a;b")) (ascii "a;b") NoWhiteEnds refl) refl (lost (second (ascii "a;b")) (ascii "a;b") refl refl)

without : NoSemicolon (ascii " a")
without zero h = absurd (omega (arith, h))
without (suc zero) h = absurd (omega (arith, h))
without (suc (suc i)) h = absurd h

pub needs_no_white_head : NeedsNoWhiteHead
unfolding computes
needs_no_white_head =
    by_preset (going_to "name = \" a\"" "partition = \" a\"") 1 (ascii "desk") (SelectedGoesTo NoSemicolon) (λ p s. ReferencesFind)
    (going (second (ascii " a")) (ascii " a")) (going_plan (second (ascii " a")) (ascii " a")) refl (goes (second (ascii " a")) (ascii " a") NoSemicolon without) refl (lost (second (ascii " a")) (ascii " a") refl refl)

without_end : NoSemicolon (ascii "a ")
without_end zero h = absurd (omega (arith, h))
without_end (suc zero) h = absurd (omega (arith, h))
without_end (suc (suc i)) h = absurd h

pub needs_no_white_end : NeedsNoWhiteEnd
unfolding computes
needs_no_white_end =
    by_preset (going_to "name = \"a \"" "partition = \"a \"") 1 (ascii "desk") (SelectedGoesTo NoSemicolon) (λ p s. ReferencesFind)
    (going (second (ascii "a ")) (ascii "a ")) (going_plan (second (ascii "a ")) (ascii "a ")) refl (goes (second (ascii "a ")) (ascii "a ") NoSemicolon without_end) refl (lost (second (ascii "a ")) (ascii "a ") refl refl)

-- ---- premise 1, of locked partitions

-- `a` is locked, `a;b` is not
abbrev locks : List Partition
locks = block (ascii "a") 4096 true ∷ block (ascii "a;b") 8192 false ∷ []

found_locked : ApplicationIsOpen (going locks (ascii "a;b")) for_desk (going_plan locks (ascii "a;b")) → ⊥
unfolding computes
found_locked h = never {b = true} refl (h (desk locks (ascii "a;b")) (by_key (ascii "desk") 0 (desk locks (ascii "a;b")) there) (block (ascii "a") 4096 true) refl)
  where
    there : Declared (desk locks (ascii "a;b") ∷ []) (ascii "desk") 0 (desk locks (ascii "a;b"))
    there = record { here = refl; is = refl; first = λ j b l g e. absurd (omega arith) }

pub open_needs_no_semicolon : OpenNeedsNoSemicolon
unfolding computes
open_needs_no_semicolon =
    by_preset beside_locked 1 (ascii "desk") (SelectedGoesTo NoWhiteEnds) ApplicationIsOpen
    (going locks (ascii "a;b")) (going_plan locks (ascii "a;b")) refl (goes locks (ascii "a;b") NoWhiteEnds refl) refl found_locked

-- ---- premise 2

abbrev y : Component
y = component (ascii "y") (ascii "p") (ascii "h" ∷ []) none (ascii "h" ∷ [])

abbrev sets : Preset
sets =
    record {
      board = (given.preset).board;
      image = (given.preset).image;
      partitions = block (ascii "boot") 0 false ∷ [];
      components = component (ascii "x") (ascii "p") (ascii "f" ∷ ascii "g" ∷ []) (some (ascii "p")) (ascii "h" ∷ []) ∷ y ∷ [];
      applications = [];
    }

-- no application is selected with the boot chain
AnApplication : Selection → Type 0
AnApplication boot_chain = ⊥
AnApplication (app key) = Unit {0}

asks_for : (p : Preset) (s : Selection) (a : Application) → Selected p s a → AnApplication s
unfolding AnApplication
asks_for p s a (by_key key i b h) = tt

boot_plain : (p : Preset) → Premise1 p boot_chain
unfolding AnApplication
boot_plain p = record { no_semicolon = λ a h. absurd (asks_for p boot_chain a h); no_white_ends = λ a h. absurd (asks_for p boot_chain a h) }

pub needs_one_set : NeedsOneSet
unfolding computes
needs_one_set =
    by_preset two_sets 0 [] Premise1 (λ p s. FeaturesOfEachUse) sets (composed sets boot_chain none) refl (boot_plain sets) refl
    (λ (h : FeaturesOfEachUse (composed sets boot_chain none)).
    let e : ◌≡◌ {A = List (List ℕ)} (ascii "f" ∷ ascii "g" ∷ []) (ascii "h" ∷ [])
    = h 1 (planned y) (built (ascii "p") none (ascii "h" ∷ [])) refl (as_payload refl) 0 (built (ascii "p") none (ascii "f" ∷ ascii "g" ∷ [])) refl refl in
    let z : ◌≡◌ {A = ℕ} 2 1 = ap (length {A = List ℕ}) e in
    absurd (omega (arith, z)))
