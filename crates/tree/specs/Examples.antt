-- The layout and the searches on a small room, computed.
use Rattle.std.specs.Prelude.{ℕ, List, ◌∷◌, ◌++◌, ◌≡◌, refl, Some, None}
use Rattle.meaning.specs.Base.{zeros, ascii}
use Rattle.tree.specs.Order.{has_key, before, follows, better, next}
use Rattle.tree.specs.Room.{place, body, cell, slot_at, keyed, under, mine, look, child, count}

-- an integer 65543 under value number 256, its key the 4 bytes at 3 of the store
one_cell : cell (record { kind = 2; parent = 258; key = 3; len = 4; «data» = 65543 }) ≡ 2 ∷ 0 ∷ 2 ∷ 1 ∷ 3 ∷ 0 ∷ 4 ∷ 0 ∷ 7 ∷ 0 ∷ 1 ∷ zeros 21
unfolding cell place body
one_cell = refl

-- a under the root twice, b an array under the root with two items
small : List ℕ
small =
    cell (record { kind = 3; parent = 1; key = 0; len = 1; «data» = 0 })
    ++ cell (record { kind = 4; parent = 1; key = 1; len = 1; «data» = 0 })
    ++ cell (record { kind = 2; parent = 3; key = 0; len = 0; «data» = 7 })
    ++ cell (record { kind = 3; parent = 1; key = 0; len = 1; «data» = 1 })
    ++ cell (record { kind = 2; parent = 3; key = 0; len = 0; «data» = 8 })

newest : look small (ascii "ab") 5 1 (ascii "a") ≡ Some 3
unfolding small cell place body slot_at keyed under mine
newest = refl

older : look small (ascii "ab") 3 1 (ascii "a") ≡ Some 0
unfolding small cell place body slot_at keyed under mine
older = refl

no_key : look small (ascii "ab") 5 1 (ascii "c") ≡ None
unfolding small cell place body slot_at keyed under mine
no_key = refl

-- a key that runs past the store is no key
past_the_store : look small (ascii "a") 5 1 (ascii "b") ≡ None
unfolding small cell place body slot_at keyed under mine
past_the_store = refl

items : (child small 5 3 0 ≡ Some 2) × (child small 5 3 3 ≡ Some 4) × (child small 5 3 5 ≡ None) × (count small 5 3 ≡ 2)
unfolding small cell place body slot_at under child
items = (refl, refl, refl, refl)

-- a, its newest value; then b; then nothing. An older value of a leads on like the newest
in_order : (next (slot_at small) (ascii "ab") 5 1 None ≡ Some 3) × (next (slot_at small) (ascii "ab") 5 1 (Some 3) ≡ Some 1) × (next (slot_at small) (ascii "ab") 5 1 (Some 0) ≡ Some 1)
    × (next (slot_at small) (ascii "ab") 5 1 (Some 1) ≡ None)
unfolding small cell place body slot_at has_key before follows better next
in_order = (refl, refl, refl, refl)

-- a key that runs past the store is passed over, and leads nowhere; nor does a value that is not made
odd_keys : (next (slot_at small) (ascii "a") 5 1 (Some 3) ≡ None) × (next (slot_at small) (ascii "a") 5 1 (Some 1) ≡ None) × (next (slot_at small) (ascii "ab") 3 1 (Some 3) ≡ None)
unfolding small cell place body slot_at has_key before follows better next
odd_keys = (refl, refl, refl)
