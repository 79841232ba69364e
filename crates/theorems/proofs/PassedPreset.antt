-- A passed preset does not fail later, by the promises of preset_validate and preset_plan.
use Prim.Native.Nat.{ℕ}
use mathlib.Core.List.{List}
use mathlib.Core.Logic.{◌⊎◌, inl, inr}
use mathlib.Core.Path.{◌≡◌, refl, sym, ap, subst, ◌∙◌}
use native.Mathlib.Omega.{arith}
use lib.ListN.{length}
use Rattle.meaning.specs.Limits.{of01}
use Rattle.meaning.specs.Refusal.{Fault, numbered, number_of, Answer, accepted, refused}
use Rattle.meaning.specs.Preset.{Read}
use Rattle.meaning.specs.Plan as meant
use Rattle.meaning.specs.Plan.{Selection, Plan, plan_of}
use Rattle.laws.specs.Never.{Answers}
use Rattle.laws.specs.Numbers.{validate_numbered}
use Rattle.laws.specs.Answers.{refused_never}
use Rattle.laws.specs.Plans.{valid_rules}
use Rattle.laws.specs.Rooms.{valid_anywhere}
use Rattle.plan.specs.ChoiceSaid.{selection}
use Rattle.host.specs.declared.documents.Outcome.{Outcome}
use Rattle.host.specs.Presets.{outcome_by, Answered, validated}
use Rattle.host.specs.Plans.{planned}
use Rattle.theorems.specs.Answers.{plan_by01}
use Rattle.theorems.specs.Views.{PresetShown, PlanShown}
use Rattle.theorems.specs.PassedPreset.{Accepts, Refuses, APassedPresetDoesNotFailLater}
use Rattle.theorems.proofs.NeverMet.{number_some}
use Rattle.theorems.proofs.Views.{accepted_is_shown, plan_is_shown_by_views}
use Rattle.theorems.proofs.Refusals.{refused_why, why_refused}
use Rattle.theorems.proofs.Demand3.{demand}

-- number 0 is no refusal
zero_accepted : (a : Answer Read) → Answers a → (outcome_by a).number ≡ 0 → (x : Read) × (a ≡ accepted x)
zero_accepted (accepted x) h z = (x, refl)
zero_accepted (refused f section place) h z = absurd (omega (arith, z, number_some f h))

-- ---- a text that is accepted

-- what the rooms of a call show that answers with x
pub preset_shown : (a : Answer Read) (text name store tree store' tree' : List ℕ) (r : Outcome) (x : Read) → Answered a text name store tree store' tree' r → a ≡ accepted x
    → (r.number ≡ 0) × PresetShown name store' tree' r.made x.preset
preset_shown a text name store tree store' tree' r x h e =
    let g = subst (λ (b : Answer Read). Answered b text name store tree store' tree' r) e h in
    (ap (λ (o : Outcome). o.number) g.says, accepted_is_shown a text name store tree store' tree' r x h e)

module _ (text name : List ℕ) (app : ℕ) (key store tree : List ℕ) (x : Read) (v : validated text name store tree ≡ accepted x) where
  abbrev s : Selection
  s = selection app key

  planned_as : (q : Plan) → plan_of x.preset s ≡ accepted q → planned text name app key store tree ≡ accepted x
  planned_as q e = rw (v, e)

  plan_as : (q : Plan) → plan_of x.preset s ≡ accepted q → plan_by01 text name app key store tree ≡ accepted (record { read = x; plan = q })
  unfolding meant.plan
  plan_as q e = rw (v, e)

  refused_as : (f : Fault) (section place : ℕ) → plan_of x.preset s ≡ refused f section place → planned text name app key store tree ≡ refused f section place
  refused_as f section place e = rw (v, e)

  module _ (store' tree' : List ℕ) (r : Outcome) (h : Answered (planned text name app key store tree) text name store tree store' tree' r) where
    answered_as : (a : Answer Read) → planned text name app key store tree ≡ a → Answered a text name store tree store' tree' r
    answered_as a e = subst (λ (b : Answer Read). Answered b text name store tree store' tree' r) e h

    pub plan_shown : (q : Plan) → plan_of x.preset s ≡ accepted q → (r.number ≡ 0) × PlanShown name store' tree' r.made app key q
    plan_shown q e =
        let g = answered_as (accepted x) (planned_as q e) in
        (ap (λ (o : Outcome). o.number) g.says, plan_is_shown_by_views text name app key store tree store' tree' r (record { read = x; plan = q }) h (plan_as q e))

    accepts : (q : Plan) → plan_of x.preset s ≡ accepted q → Accepts x.preset name app key store' tree' r
    accepts q e =
        let g = answered_as (accepted x) (planned_as q e) in
        let m : r.made ≡ x.parsed.made = ap (λ (o : Outcome). o.made) g.says in
        record {
          says = g.says ∙ ap (λ (n : ℕ). record { number = 0; section = 0; place = 0; made = n }) (sym m);
          no_reason = λ number section place w. refused_never (numbered number) section place q (sym (why_refused x.preset s number section place w) ∙ e);
          shows_preset = (preset_shown (planned text name app key store tree) text name store tree store' tree' r x h (planned_as q e)).1;
          plan = q;
          shows_plan = (plan_shown q e).1;
          sound = demand x.preset s q (valid_rules of01 (length store) (length tree) name text x v) e;
        }

    refuses : (f : Fault) (section place : ℕ) → plan_of x.preset s ≡ refused f section place → Refuses x.preset app key r
    refuses f section place e =
        record {
          number = number_of f;
          section = section;
          place = place;
          why = refused_why x.preset s f section place e;
          says = (answered_as (refused f section place) (refused_as f section place e)).says;
        }

    later : Accepts x.preset name app key store' tree' r ⊎ Refuses x.preset app key r
    later = go (plan_of x.preset s) refl
      where
        go : (o : Answer Plan) → plan_of x.preset s ≡ o → Accepts x.preset name app key store' tree' r ⊎ Refuses x.preset app key r
        go (accepted q) e = inl (accepts q e)
        go (refused f section place) e = inr (refuses f section place e)

-- ---- the statement

pub passed : APassedPresetDoesNotFailLater
passed text name store tree store' tree' r h z =
    let k = zero_accepted (validated text name store tree) (validate_numbered of01 (length store) (length tree) name text).numbered
    (sym (ap (λ (o : Outcome). o.number) h.says) ∙ z) in (
      k.0.preset,
      (preset_shown (validated text name store tree) text name store tree store' tree' r k.0 h k.1).1,
      λ app key store₂ tree₂ store₂' tree₂' r₂ l m g. later text name app key store₂ tree₂ k.0
          (valid_anywhere of01 (length store) (length tree) (length store₂) (length tree₂) name text k.0 k.1 (record { store_takes = l; tree_takes = m }))
          store₂' tree₂' r₂ g,
    )
