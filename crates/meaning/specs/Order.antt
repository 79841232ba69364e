-- A table's entries "in byte order of key", as the original's BTreeMap keeps them.
use Rattle.std.specs.Prelude.{ℕ, suc, List, ◌∷◌, ◌++◌, ◌≡◌, refl, pos}
use Rattle.std.proofs.Math.Option.{Option, none, some}
use Rattle.meaning.specs.Base.{pick, same, less, ascii}
use Rattle.meaning.specs.Bytes.{line_feed}
use Rattle.meaning.specs.Limits.{of01}
use Rattle.meaning.specs.Refusal.{accepted}
use Rattle.meaning.specs.Tree.{Value, Table, int, empty, entry}
use Rattle.meaning.specs.Document as meant

-- a table in byte order with v at k: before the first key above k, or in the place of k
abbrev pub ranked : List ℕ → Value → Table → Table
ranked k v empty = entry k v empty
ranked k v (entry j w t) = pick (less j k) (entry j w (ranked k v t)) (entry k v (pick (same j k) t (entry j w t)))

-- "in byte order of key": each key once, with the value that it has in the table
abbrev pub sorted : Table → Table
sorted empty = empty
sorted (entry k v t) = ranked k v (sorted t)

-- how many entries a table has
abbrev pub entries : Table → ℕ
entries empty = 0
entries (entry k v t) = suc (entries t)

-- of a table in byte order, what stands after the key k
abbrev pub past : List ℕ → Table → Table
past k empty = empty
past k (entry j v t) = pick (less k j) (entry j v t) (past k t)

abbrev pub first_key : Table → Option (List ℕ)
first_key empty = none
first_key (entry k v t) = some k

-- the least key, and the least above k
abbrev pub least : Table → Option (List ℕ)
least t = first_key (sorted t)

abbrev pub following : Table → List ℕ → Option (List ℕ)
following t k = first_key (past k (sorted t))

-- capitals stand before small letters, and a key before those that it begins: `b`, `ab`, `B`, `a` are
-- `B`, `a`, `ab`, `b`
four : Table
four =
    entry (ascii "b") (int (pos 1)) (entry (ascii "ab") (int (pos 2))
    (entry (ascii "B") (int (pos 3)) (entry (ascii "a") (int (pos 4)) empty)))

in_order_lem : sorted four
    ≡ entry (ascii "B") (int (pos 3)) (entry (ascii "a") (int (pos 4))
    (entry (ascii "ab") (int (pos 2)) (entry (ascii "b") (int (pos 1)) empty)))
unfolding four
in_order_lem = refl

one_by_one : (least four ≡ some (ascii "B"))
    × (following four (ascii "a") ≡ some (ascii "ab")) × (following four (ascii "aa") ≡ some (ascii "ab"))
    × (following four (ascii "b") ≡ none) × (least empty ≡ none)
unfolding four
one_by_one = (refl, refl, refl, refl, refl)

-- a key that comes again keeps its first place in the table, and its place in byte order: `b = 1⏎a = 2⏎b = 3`
abbrev again : List ℕ
again = ascii "b = 1" ++ line_feed ∷ ascii "a = 2" ++ line_feed ∷ ascii "b = 3"

read_again : meant.document of01 again
    ≡ accepted (record {
      root = entry (ascii "b") (int (pos 3)) (entry (ascii "a") (int (pos 2)) empty);
      bytes = ascii "bab";
      made = 3;
    })
unfolding meant.computes
read_again = refl

again_in_order : sorted (entry (ascii "b") (int (pos 3)) (entry (ascii "a") (int (pos 2)) empty))
    ≡ entry (ascii "a") (int (pos 2)) (entry (ascii "b") (int (pos 3)) empty)
again_in_order = refl
