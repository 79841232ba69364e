-- The export of the listing: 01's lines of a text, and what the rooms hold then.
use Rattle.std.specs.Prelude.{ℕ, List, ◌≡◌, length}
use Rattle.std.proofs.Common.{sym, ◌∙◌}
use Rattle.meaning.specs.Limits.{of01}
use Rattle.meaning.specs.Refusal.{Answer, accepted, refused, number_of, accepted_then}
use Rattle.meaning.specs.Rooms.{room_after, output_after}
use Rattle.meaning.specs.Preset.{Read}
use Rattle.meaning.specs.Listing as meant
use Rattle.toml_lite.specs.Rooms.{values_of}
use Rattle.host.specs.declared.listings.Listed.{Listed}
use Rattle.host.specs.Presets.{Records}

-- "A refusal returns its number, a section .. and a place"
abbrev pub listed_by : Answer meant.Listed → Listed
listed_by (accepted l) = record { number = 0; section = 0; place = 0; written = length (meant.bytes_of l) }
listed_by (refused f section place) = record { number = number_of f; section = section; place = place; written = 0 }

-- what was read for it
abbrev pub read_by : Answer meant.Listed → Answer Read
read_by a = accepted_then a (λ l. accepted l.planned.read)

-- 01's answer to a text, a lent name and rooms of these lengths: its listing
abbrev pub listing : List ℕ → List ℕ → List ℕ → List ℕ → List ℕ → Answer meant.Listed
listing text name store tree out = meant.listing of01 (length store) (length tree) (length out) name text

-- what a call leaves that has this answer to a text, by what the output held before
pub record ReportedBy (a : Answer meant.Listed) (text name store tree out store' tree' out' : List ℕ) (r : Listed) : Type 0 where
  pub says : r ≡ listed_by a
  pub store_is : store' ≡ room_after (λ x. x.parsed.bytes) (length store) (read_by a)
  pub tree_is : tree' ≡ room_after (λ x. values_of text) (length tree) (read_by a)
  pub out_is : out' ≡ output_after meant.bytes_of out a
  pub shows : Records name store' tree' (read_by a)

abbrev pub Reported : List ℕ → List ℕ → List ℕ → List ℕ → List ℕ → List ℕ → List ℕ → List ℕ → Listed → Type 0
Reported text name store tree out store' tree' out' r = ReportedBy (listing text name store tree out) text name store tree out store' tree' out' r

-- two results that meet the promise for the same output are equal, answer and all three rooms
pub reported_decides : (a : Answer meant.Listed) (text name store tree out store₁ tree₁ out₁ store₂ tree₂ out₂ : List ℕ) (r₁ r₂ : Listed)
    → ReportedBy a text name store tree out store₁ tree₁ out₁ r₁ → ReportedBy a text name store tree out store₂ tree₂ out₂ r₂
    → (r₁ ≡ r₂) × (store₁ ≡ store₂) × (tree₁ ≡ tree₂) × (out₁ ≡ out₂)
reported_decides a text name store tree out store₁ tree₁ out₁ store₂ tree₂ out₂ r₁ r₂ g h =
    (g.says ∙ sym h.says, g.store_is ∙ sym h.store_is, g.tree_is ∙ sym h.tree_is, g.out_is ∙ sym h.out_is)
