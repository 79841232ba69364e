-- "Reading, validating and planning each start from the text": a preset from a text and the lent rooms. Refusals 1 to
-- 70.
use Rattle.std.specs.Prelude.{ℕ, List}
use Rattle.meaning.specs.Limits.{Limits}
use Rattle.meaning.specs.Refusal.{Answer, accepted, accepted_then as ◌>>=◌}
use Rattle.meaning.specs.Document.{Parsed, in_rooms}
use Rattle.meaning.specs.Schema as schema
use Rattle.meaning.specs.Records.{preset_of}
use Rattle.meaning.specs.Rules.{rules}

-- what reading gives: the tree with the store's bytes and the count of values made, and the records
pub record Read : Type 0 where
  pub parsed : Parsed
  pub preset : schema.Preset

-- "Order: 17, 1, 2; .. then line by line; then fields"
unfoldable pub read : Limits → ℕ → ℕ → List ℕ → List ℕ → Answer Read
read lim store tree name text = do
  parsed ← in_rooms lim store tree text
  preset ← preset_of lim name parsed.root
  accepted (record { parsed = parsed; preset = preset })

-- ".. then validation in table order": what reading gives, where no rule refuses it
unfoldable pub validate : Limits → ℕ → ℕ → List ℕ → List ℕ → Answer Read
validate lim store tree name text = do
  r ← read lim store tree name text
  u ← rules r.preset
  accepted r

unfoldable pub computes : Unit {0}
unfolding read validate
    Rattle.meaning.specs.Rules.computes
    Rattle.meaning.specs.Document.computes
    Rattle.meaning.specs.Records.computes
computes = tt
