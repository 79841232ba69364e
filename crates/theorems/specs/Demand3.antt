-- The parts of `PassedPreset`, whose words these are, each by itself: of a preset that obeys the rules, and of a text
-- within any limits, with any rooms, lent name and selection.
use Rattle.std.specs.Prelude.{ℕ, suc, ◌+◌, ◌*◌, ◌≤◌, List, ◌⊎◌, ◌≡◌, length}
use Rattle.meaning.specs.declared.Limits.{Limits}
use Rattle.meaning.specs.Limits.{value_bytes}
use Rattle.meaning.specs.Refusal.{Fault, numbered, number_of, accepted, refused}
use Rattle.meaning.specs.Schema.{Preset}
use Rattle.meaning.specs.Verdict.{fine}
use Rattle.meaning.specs.Rules.{name_of, rules}
use Rattle.meaning.specs.Preset.{Read, validate}
use Rattle.meaning.specs.Plan as meant
use Rattle.meaning.specs.Plan.{Selection, Plan, Planned, plan_of}
use Rattle.theorems.specs.PassedPreset.{Why, NoSemicolon, NoWhiteEnds, SoundPlan}

-- ---- of a preset

-- planning refuses a preset for no other reason
abbrev pub RefusedOnlyFor80And81 : Type 0
RefusedOnlyFor80And81 = (p : Preset) (s : Selection) (f : Fault) (section place : ℕ)
    → plan_of p s ≡ refused f section place → Why p s (number_of f) section place

-- and always for these
abbrev pub AlwaysRefusedFor80And81 : Type 0
AlwaysRefusedFor80And81 = (p : Preset) (s : Selection) (number section place : ℕ)
    → Why p s number section place → plan_of p s ≡ refused (numbered number) section place

-- where neither is met there is a plan
abbrev pub ElsePlanned : Type 0
ElsePlanned = (p : Preset) (s : Selection) → ((number section place : ℕ) → Why p s number section place → ⊥)
    → (q : Plan) × (plan_of p s ≡ accepted q)

-- the plan of a preset that obeys the rules has all clauses, for every selection
abbrev pub PlanMeetsDemand : Type 0
PlanMeetsDemand = (p : Preset) (s : Selection) (q : Plan)
    → rules p ≡ fine → plan_of p s ≡ accepted q → SoundPlan p s q

-- a plan has one component more than the preset at most, and two builds for each of these and one for the application
abbrev pub PlanIsSmall : Type 0
PlanIsSmall = (p : Preset) (s : Selection) (q : Plan) → plan_of p s ≡ accepted q
    → (length q.components ≤ suc (length p.components)) × (length q.builds ≤ 2 * length p.components + 1)

-- a name without `;` and without white space at its ends is found as it is written
abbrev pub PlainNameIsFound : Type 0
PlainNameIsFound = (name : List ℕ) → NoSemicolon name → NoWhiteEnds name → name_of name ≡ name

-- ---- of a text

-- the plan of a text has all clauses
abbrev pub TextMeetsDemand : Type 0
TextMeetsDemand = (lim : Limits) (store tree : ℕ) (name text : List ℕ) (s : Selection) (x : Planned)
    → meant.plan lim store tree name s text ≡ accepted x → SoundPlan x.read.preset s x.plan

-- where planning a text is refused, validation refuses it so; or validation accepts it, and there is a reason
abbrev pub TextRefusedOnlyFor80And81 : Type 0
TextRefusedOnlyFor80And81 = (lim : Limits) (store tree : ℕ) (name text : List ℕ) (s : Selection)
    (f : Fault) (section place : ℕ) → meant.plan lim store tree name s text ≡ refused f section place
    → (validate lim store tree name text ≡ refused f section place)
    ⊎ ((x : Read) × (validate lim store tree name text ≡ accepted x)
    × Why x.preset s (number_of f) section place)

-- what validation refuses planning refuses with the same words
abbrev pub TextRefusedByValidation : Type 0
TextRefusedByValidation = (lim : Limits) (store tree : ℕ) (name text : List ℕ) (s : Selection)
    (f : Fault) (section place : ℕ) → validate lim store tree name text ≡ refused f section place
    → meant.plan lim store tree name s text ≡ refused f section place

-- and what validation accepts it refuses where there is a reason
abbrev pub TextAlwaysRefusedFor80And81 : Type 0
TextAlwaysRefusedFor80And81 = (lim : Limits) (store tree : ℕ) (name text : List ℕ) (s : Selection) (x : Read)
    (number section place : ℕ) → validate lim store tree name text ≡ accepted x
    → Why x.preset s number section place
    → meant.plan lim store tree name s text ≡ refused (numbered number) section place

-- what validation accepts in some rooms it accepts in all that are large enough, and reads the same there
abbrev pub AcceptedInAllLargeRooms : Type 0
AcceptedInAllLargeRooms = (lim : Limits) (store tree store₂ tree₂ : ℕ) (name text : List ℕ) (x : Read)
    → validate lim store tree name text ≡ accepted x → lim.text ≤ store₂ → value_bytes * lim.values ≤ tree₂
    → validate lim store₂ tree₂ name text ≡ accepted x
