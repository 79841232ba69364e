-- Lines one after the other, in two parts.
use Rattle.std.specs.Prelude.{List, [], ◌∷◌, ◌++◌, ◌≡◌, refl, ℕ}
use Rattle.std.proofs.Common.{append_assoc, sym, ap, ◌∙◌}
use Rattle.meaning.specs.Print.{Line, ended, page}

pub page_append : (ls ms : List Line) → page (ls ++ ms) ≡ page ls ++ page ms
page_append [] ms = refl
page_append (l ∷ ls) ms = ap (λ (s : List ℕ). ended l ++ s) (page_append ls ms) ∙ sym (append_assoc (ended l) (page ls) (page ms))
