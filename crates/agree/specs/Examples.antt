-- Texts, computed on both levels.
use Rattle.std.specs.Prelude.{List, [], ◌∷◌, ◌++◌, ℕ}
use Rattle.meaning.specs.Base.{ascii}
use Rattle.tree.specs.declared.Slot.{Slot}

-- an array that a header adds to, and a key below the added table: the string is made before its table, and hung up last
abbrev pub added : List ℕ
added = ascii "a = [1]" ++ 10 ∷ ascii "[[a]]" ++ 10 ∷ ascii "b.c = \"x\""

-- a value that a header replaces by a table: the newest with the key counts
abbrev pub replaced : List ℕ
replaced = ascii "a = 1" ++ 10 ∷ ascii "[a]" ++ 10 ∷ ascii "b = true"

-- a key that comes again: the walk in byte order meets a, then the newest b, then nothing
abbrev pub again : List ℕ
again = ascii "b = 1" ++ 10 ∷ ascii "a = 2" ++ 10 ∷ ascii "b = 3"

abbrev pub three : List Slot
three =
    record { kind = 2; parent = 1; key = 0; len = 1; «data» = 1 }
    ∷ record { kind = 2; parent = 1; key = 1; len = 1; «data» = 2 }
    ∷ record { kind = 2; parent = 1; key = 2; len = 1; «data» = 3 }
    ∷ []
