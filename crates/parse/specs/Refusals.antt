-- A refusal in a section at a place, number 0 for none, and the first of two.
use Rattle.std.specs.Prelude.{ℕ, eqb}
use Rattle.meaning.specs.Base.{pick}
use Rattle.parse.specs.declared.Refusal.{Refusal}

abbrev pub refusal : ℕ → ℕ → ℕ → Refusal
refusal number section place = record { number = number; section = section; place = place }

-- outside an entry
abbrev pub in_section : ℕ → ℕ → Refusal
in_section section number = refusal number section 0

-- the first of two
abbrev pub earlier : Refusal → Refusal → Refusal
earlier a b = pick (eqb a.number 0) b a
