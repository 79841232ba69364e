-- How samples are written: a text by its lines, bytes by words, a tree by its entries.
use Rattle.std.specs.Prelude.{ℕ, List, [], ◌∷◌, ◌++◌, pos}
use Prim.Native.String.{String}
use Rattle.meaning.specs.Base.{ascii}
use Rattle.meaning.specs.Tree.{Value, Items, Table, str, int, item, table, entry}

-- lines, each with its LF
abbrev pub lined : List String → List ℕ
lined [] = []
lined (l ∷ ls) = ascii l ++ (10 ∷ lined ls)

-- lines one under the other: a ⏎ b
abbrev pub ◌⏎◌ : List ℕ → List ℕ → List ℕ
a ⏎ b = a ++ (10 ∷ b)

infixr 20 ◌⏎◌
-- words, one after the other
abbrev pub words : List String → List ℕ
words [] = []
words (w ∷ ws) = ascii w ++ words ws

abbrev pub word : String → Value
word s = str (ascii s)

abbrev pub number : ℕ → Value
number n = int (pos n)

-- an entry, then the others
abbrev pub ◌≔◌⨾◌ : String → Value → Table → Table
k ≔ v ⨾ t = entry (ascii k) v t

infixr 5 ◌≔◌⨾◌
-- an item that is a table, then the others
abbrev pub ◌⊕◌ : Table → Items → Items
t ⊕ is = item (table t) is

infixr 4 ◌⊕◌
