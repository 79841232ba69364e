-- What the four functions answer that take a text: 01's answer, to every text, lent name, selection and rooms.
-- Each is proved to keep the contract that stands above its body (crates/host/src: presets.rt, plans.rt, listings.rt).
-- A contract leaves no choice, and it comes to this: the result has the numbers of 01's answer; after a refusal every
-- room is all zero; otherwise the rooms show 01's tree and preset, and the output begins with 01's listing.
use Rattle.std.specs.Prelude.{ℕ, ◌*◌, List, ◌≡◌, length}
use Rattle.meaning.specs.Limits.{of01, value_bytes}
use Rattle.meaning.specs.Refusal.{Answer, accepted, refused, accepted_then, number_of}
use Rattle.meaning.specs.Rooms.{room_after, output_after}
use Rattle.meaning.specs.Preset.{Read, read, validate}
use Rattle.meaning.specs.Plan as meant
use Rattle.meaning.specs.Listing as meant-listing
use Rattle.plan.specs.ChoiceSaid.{selection}
use Rattle.host.specs.declared.documents.Outcome.{Outcome}
use Rattle.host.specs.declared.listings.Listed.{Listed}
use Rattle.host.specs.Presets.{Answered, Records, recorded, validated}
use Rattle.host.specs.Plans.{planned}
use Rattle.host.specs.Planned.{Composed}
use Rattle.host.specs.Listings.{Reported, ReportedBy}

-- ---- what the contracts come to; store and tree are the rooms before the call, store' and tree' those after it

-- number 0 and the count of values; or number, section and place of the refusal
abbrev pub Numbers : Answer Read → Outcome → Type 0
Numbers (accepted x) r = r ≡ record { number = 0; section = 0; place = 0; made = x.parsed.made }
Numbers (refused f section place) r = r ≡ record { number = number_of f; section = section; place = place; made = 0 }

-- as many bytes as the values that were made take in the tree room
abbrev pub Sized : Answer Read → List ℕ → Type 0
Sized (accepted x) values = length values ≡ value_bytes * x.parsed.made
Sized (refused f section place) values = Unit

-- what the rooms hold at the end (meaning/specs/Rooms). Accepted: the store 01's bytes and then zeros, the tree room the
-- values made and then zeros, and these show 01's tree, and what is read from them is 01's preset
-- (host/specs/Presets.Recorded). Refused: both are all zero
pub record RoomsAfter (a : Answer Read) (name store tree store' tree' : List ℕ) : Type 0 where
  pub values : List ℕ
  pub sized : Sized a values
  pub store_is : store' ≡ room_after (λ x. x.parsed.bytes) (length store) a
  pub tree_is : tree' ≡ room_after (λ x. values) (length tree) a
  pub shows : Records name store' tree' a

pub record Says (a : Answer Read) (name store tree store' tree' : List ℕ) (r : Outcome) : Type 0 where
  pub numbers : Numbers a r
  pub rooms : RoomsAfter a name store tree store' tree'

abbrev pub ReadSays : Type 0
ReadSays = (text name store tree store' tree' : List ℕ) (r : Outcome)
    → Answered (recorded text name store tree) text name store tree store' tree' r
    → Says (read of01 (length store) (length tree) name text) name store tree store' tree' r

abbrev pub ValidateSays : Type 0
ValidateSays = (text name store tree store' tree' : List ℕ) (r : Outcome)
    → Answered (validated text name store tree) text name store tree store' tree' r
    → Says (validate of01 (length store) (length tree) name text) name store tree store' tree' r

-- selection 0 is the boot chain, any other the application of the key
abbrev pub plan_by01 : List ℕ → List ℕ → ℕ → List ℕ → List ℕ → List ℕ → Answer meant.Planned
plan_by01 text name app key store tree =
    meant.plan of01 (length store) (length tree) name (selection app key) text

-- what was read for a plan
abbrev pub read_of : Answer meant.Planned → Answer Read
read_of a = accepted_then a (λ q. accepted q.read)

abbrev pub PlanSays : Type 0
PlanSays = (text name : List ℕ) (app : ℕ) (key store tree store' tree' : List ℕ) (r : Outcome)
    → Answered (planned text name app key store tree) text name store tree store' tree' r
    → Says (read_of (plan_by01 text name app key store tree)) name store tree store' tree' r

-- and where there is a plan, the views of the rooms show it: its components and builds by number and their counts, the
-- partition of each reference and the stem (host/specs/Planned.Composed)
abbrev pub PlanIsShown : Type 0
PlanIsShown = (text name : List ℕ) (app : ℕ) (key store tree store' tree' : List ℕ) (r : Outcome) (x : meant.Planned)
    → Answered (planned text name app key store tree) text name store tree store' tree' r
    → plan_by01 text name app key store tree ≡ accepted x
    → Composed name store' tree' app key x.read.parsed.made x.plan

-- ---- the listing; out is the output before the call, out' after it

abbrev pub lines_of : meant-listing.Listed → List ℕ
lines_of l = meant-listing.bytes_of l

-- number 0 and the bytes written, with the lines at the head of the output and the rest of it as it was; or the refusal
abbrev pub Lists : Answer meant-listing.Listed → List ℕ → List ℕ → Listed → Type 0
Lists (accepted l) out out' r =
    (r ≡ record { number = 0; section = 0; place = 0; written = length (meant-listing.bytes_of l) })
    × (out' ≡ output_after lines_of out (accepted l))
Lists (refused f section place) out out' r =
    (r ≡ record { number = number_of f; section = section; place = place; written = 0 })
    × (out' ≡ output_after lines_of out (refused f section place))

-- what was read for a listing
abbrev pub read_for : Answer meant-listing.Listed → Answer Read
read_for a = accepted_then a (λ l. accepted l.planned.read)

abbrev pub ListingSays : Type 0
ListingSays = (text name store tree out store' tree' out' : List ℕ) (r : Listed)
    → Reported text name store tree out store' tree' out' r
    → Lists (meant-listing.listing of01 (length store) (length tree) (length out) name text) out out' r
    × RoomsAfter (read_for (meant-listing.listing of01 (length store) (length tree) (length out) name text))
    name store tree store' tree'

-- ---- the contracts leave no choice: two results that meet one are equal, answer and rooms

-- of preset_read, preset_validate and preset_plan
abbrev pub OneAnswer : Type 0
OneAnswer = (a : Answer Read) (text name store tree store₁ tree₁ store₂ tree₂ : List ℕ) (r₁ r₂ : Outcome)
    → Answered a text name store tree store₁ tree₁ r₁ → Answered a text name store tree store₂ tree₂ r₂
    → (r₁ ≡ r₂) × (store₁ ≡ store₂) × (tree₁ ≡ tree₂)

-- of preset_listing
abbrev pub OneListing : Type 0
OneListing = (a : Answer meant-listing.Listed) (text name store tree out : List ℕ)
    (store₁ tree₁ out₁ store₂ tree₂ out₂ : List ℕ) (r₁ r₂ : Listed)
    → ReportedBy a text name store tree out store₁ tree₁ out₁ r₁
    → ReportedBy a text name store tree out store₂ tree₂ out₂ r₂
    → (r₁ ≡ r₂) × (store₁ ≡ store₂) × (tree₁ ≡ tree₂) × (out₁ ≡ out₂)
