-- Planning refuses for the two reasons of `PassedPreset`, and only for them.
use Prim.Native.Nat.{ℕ}
use mathlib.Core.Bool.{true}
use mathlib.Core.List.{List}
use mathlib.Core.Logic.{◌⊎◌, inl, inr}
use mathlib.Core.Option.{Option, none, some}
use mathlib.Core.Path.{◌≡◌, refl, sym, subst}
use native.Mathlib.Omega.{arith}
use Rattle.meaning.specs.Refusal.{number_of, Answer, accepted, refused, accepted_then}
use Rattle.meaning.specs.Schema.{Component, Application, Preset}
use Rattle.meaning.specs.Verdict.{among}
use Rattle.meaning.specs.Preset.{Read, validate}
use Rattle.meaning.specs.Plan.{Selection, boot_chain, app, Plan, Planned, Entry, declared, component_names, admitted, chosen, composed, plan_of, plan}
use Rattle.laws.specs.Cases.{on}
use Rattle.laws.specs.Answers.{refused_never, after_refused}
use Rattle.laws.specs.Chosen as laws
use Rattle.laws.specs.Chosen.{undeclared_none, none_undeclared, some_declared, declared_some, taken_among, among_taken}
use Rattle.theorems.specs.PassedPreset.{Undeclared, Declared, Taken, Why, why_80, why_81}
use Rattle.theorems.specs.Demand3.{RefusedOnlyFor80And81, AlwaysRefusedFor80And81, ElsePlanned, TextRefusedOnlyFor80And81, TextRefusedByValidation, TextAlwaysRefusedFor80And81}
use Rattle.theorems.proofs.Standing.{lemma_at, at_lemma}

-- ---- the words of the lemmas

lemma_undeclared : (apps : List Application) (key : List ℕ) → Undeclared apps key → laws.Undeclared apps key
lemma_undeclared apps key h i a g = h i a (at_lemma apps i a g)

undeclared_lemma : (apps : List Application) (key : List ℕ) → laws.Undeclared apps key → Undeclared apps key
undeclared_lemma apps key h i a g = h i a (lemma_at apps i a g)

pub lemma_declared : (apps : List Application) (key : List ℕ) (i : ℕ) (a : Application) → Declared apps key i a → laws.Declared apps key i a
lemma_declared apps key i a h =
    record { here = lemma_at apps i a h.here; is = h.is; first = λ j b l g. h.first j b l (at_lemma apps j b g) }

pub declared_lemma : (apps : List Application) (key : List ℕ) (i : ℕ) (a : Application) → laws.Declared apps key i a → Declared apps key i a
declared_lemma apps key i a h =
    record { here = at_lemma apps i a h.here; is = h.is; first = λ j b l g. h.first j b l (lemma_at apps j b g) }

lemma_taken : (cs : List Component) (name : List ℕ) → Taken cs name → laws.Taken cs name
lemma_taken cs name h = (h.0, h.1, lemma_at cs h.0 h.1 h.2, h.3)

taken_lemma : (cs : List Component) (name : List ℕ) → laws.Taken cs name → Taken cs name
taken_lemma cs name h = (h.0, h.1, at_lemma cs h.0 h.1 h.2, h.3)

-- ---- of a preset

-- what an answer of planning says
abbrev Says : Preset → Selection → Answer Plan → Type 0
Says r s (accepted p) = Unit {0}
Says r s (refused f section place) = Why r s (number_of f) section place

says_why : (r : Preset) (s : Selection) → Says r s (plan_of r s)
unfolding plan_of chosen admitted
says_why r boot_chain = tt
says_why r (app key) = go (declared 0 key r.applications) refl
  where
    found : (e : Entry) → declared 0 key r.applications ≡ some e → among e.application.name (component_names r.components) ≡ true
        → Why r (app key) 81 5 e.place
    found e h t =
        let d = some_declared key 0 r.applications e h in
        let k : d.0 ≡ e.place = omega (arith, d.1) in
        subst (λ (i : ℕ). Why r (app key) 81 5 i) k
        (why_81 key d.0 e.application (declared_lemma r.applications key d.0 e.application d.2)
        (taken_lemma r.components e.application.name (among_taken r.components e.application.name t)))

    go : (o : Option Entry) → declared 0 key r.applications ≡ o → Says r (app key) (accepted_then (admitted r.components o) (λ a. accepted (composed r (app key) a)))
    go none h = why_80 key (undeclared_lemma r.applications key (none_undeclared key 0 r.applications h))
    go (some e) h = on (among e.application.name (component_names r.components)) (λ t. rw t (found e h t)) (λ t. rw t tt)

pub refused_why : RefusedOnlyFor80And81
refused_why r s f section place e = subst (Says r s) e (says_why r s)

pub why_refused : AlwaysRefusedFor80And81
unfolding plan_of chosen admitted
why_refused r s number section place (why_80 key h) = rw (undeclared_none key 0 r.applications (lemma_undeclared r.applications key h))
why_refused r s number section place (why_81 key i a h t) =
    rw (declared_some key 0 r.applications i i a (omega arith) (lemma_declared r.applications key i a h), taken_among r.components a.name (lemma_taken r.components a.name t))

pub else_planned : ElsePlanned
else_planned r s h = go (plan_of r s) refl
  where
    go : (o : Answer Plan) → plan_of r s ≡ o → (p : Plan) × (plan_of r s ≡ accepted p)
    go (accepted p) e = (p, e)
    go (refused f section place) e = absurd (h (number_of f) section place (refused_why r s f section place e))

-- ---- of a text

pub text_refused : TextRefusedOnlyFor80And81
unfolding plan
text_refused lim store tree name text s f section place e = go (after_refused ending validated f section place e)
  where
    validated : Answer Read
    validated = validate lim store tree name text

    ending : Read → Answer Planned
    ending x = accepted_then (plan_of x.preset s) (λ p. accepted (record { read = x; plan = p }))

    why : (x : Read) → (plan_of x.preset s ≡ refused f section place) ⊎ ((p : Plan) × (plan_of x.preset s ≡ accepted p) × (◌≡◌ {A = Answer Planned} (accepted (record { read = x; plan = p })) (refused f section place)))
        → Why x.preset s (number_of f) section place
    why x (inl h) = refused_why x.preset s f section place h
    why x (inr h) = refused_never f section place _ (sym h.2)

    go : (validated ≡ refused f section place) ⊎ ((x : Read) × (validated ≡ accepted x) × (ending x ≡ refused f section place))
        → (validated ≡ refused f section place) ⊎ ((x : Read) × (validated ≡ accepted x) × Why x.preset s (number_of f) section place)
    go (inl h) = inl h
    go (inr h) = inr (h.0, h.1, why h.0 (after_refused _ (plan_of h.0.preset s) f section place h.2))

pub refused_first : TextRefusedByValidation
unfolding plan
refused_first lim store tree name text s f section place e = rw e

pub refused_then : TextAlwaysRefusedFor80And81
unfolding plan
refused_then lim store tree name text s x number section place e h = rw (e, why_refused x.preset s number section place h)
