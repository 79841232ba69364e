-- "Assignments go under the last header": the path of the last header, and that navigating along it again and again comes to its table.
use Rattle.std.specs.Prelude.{ℕ, suc, List, [], ◌∷◌, ◌≡◌}
use Rattle.std.proofs.Math.Option.{some}
use Rattle.meaning.specs.Tree.{Value, Items, array, count as many}
use Rattle.meaning.specs.Document.{Under, tables, arrays}
use Rattle.agree.specs.Key.{Key, index}
use Rattle.agree.specs.Finds.{find}
use Rattle.agree.specs.Down.{onto}

-- ---- all but the last, and the last

abbrev pub init : {X : Type 0} → X → List X → List X
init x [] = []
init x (y ∷ ys) = x ∷ init y ys

abbrev pub last : {X : Type 0} → X → List X → X
last x [] = x
last x (y ∷ ys) = last y ys

-- ---- the last header

-- the array of a `[[..]]` at the path q, and its last item
pub record Tip (x : Value) (q h : List Key) : Type 0 where
  pub items : Items
  pub i : ℕ
  pub is : h ≡ index i ∷ q
  pub found : find (some x) q ≡ some (array items)
  pub last_one : suc i ≡ many items

abbrev pub Held : Value → Under → List Key → Type 0
Held x (tables p) h = h ≡ onto [] p
Held x (arrays p) h = Tip x (onto [] p) h
