-- Whole documents: for every text and every limits both refuse by the same number at the same place, or both read it, with the same bytes in the store,
-- as many values made, and slots that show the tree of 01 along every path.
use Rattle.std.specs.Prelude.{ℕ, List, ◌++◌, ◌≡◌, length}
use Rattle.meaning.specs.Refusal.{Answer, accepted, refused}
use Rattle.meaning.specs.Tree.{table}
use Rattle.meaning.specs.Document.{Parsed}
use Rattle.values.specs.Doc.{Doc as DocS}
use Rattle.agree.specs.Steps.{Agree}

-- what a document leaves: the same refusal, or the same bytes and count and slots that show the tree
abbrev pub Doc-agrees : List ℕ → Answer Parsed → Answer DocS → Type 0
Doc-agrees bytes (accepted p) (accepted r) = (r.bytes ≡ bytes ++ p.bytes) × (p.made ≡ length r.slots) × Agree r.bytes r.slots (table p.root)
Doc-agrees bytes (accepted p) (refused f s q) = ⊥
Doc-agrees bytes (refused f s q) (accepted r) = ⊥
Doc-agrees bytes (refused f s q) (refused f' s' q') = (f ≡ f') × (s ≡ s') × (q ≡ q')
