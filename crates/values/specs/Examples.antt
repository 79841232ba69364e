-- Values into the rooms, computed: the store and the tree room are empty, and a value hangs nowhere yet.
use Rattle.std.specs.Prelude.{ℕ, List, [], ◌∷◌, ◌≡◌, refl}
use Rattle.meaning.specs.Base.{ascii}
use Rattle.values.specs.Out.{Out, fine, wrong}
use Rattle.values.specs.Fill.{valued, value_out, computes}

-- at most three values, at most two arrays inside one another
abbrev read : List ℕ → Out
read s = value_out 3 2 0 0 0 s

-- `["x", [1], true]`: the array, the items under it (2), the inner item under number 2 (4)
nested : value_out 9 2 0 0 0 (ascii "[\"x\", [1], true]")
    ≡ fine (ascii "x") (valued 0 4 0 ∷ valued 2 1 65536 ∷ valued 2 4 0 ∷ valued 4 2 1 ∷ valued 2 3 1 ∷ [])
unfolding computes
nested = refl

-- `[1,,2]`: two items
doubled : read (ascii "[1,,2]") ≡ fine [] (valued 0 4 0 ∷ valued 2 2 1 ∷ valued 2 2 2 ∷ [])
unfolding computes
doubled = refl

-- ` -5 `: white space around it, and a minus
minus : read (ascii " -5 ") ≡ fine [] (valued 0 6 5 ∷ [])
unfolding computes
minus = refl

-- `[1] 2`: the last byte is no bracket
after_array : read (ascii "[1] 2") ≡ wrong 11 []
unfolding computes
after_array = refl

-- `"x" y`: its byte stays
after_string : read (ascii "\"x\" y") ≡ wrong 10 (ascii "x")
unfolding computes
after_string = refl

-- `["a", "b]`: what was read before the fault stays, with the byte of the string that is not ended
unended_item : read (ascii "[\"a\", \"b]") ≡ record { fault = 9; bytes = ascii "ab"; slots = valued 0 4 0 ∷ valued 2 1 65536 ∷ [] }
unfolding computes
unended_item = refl

-- `[1,2,3]`: a fourth value is over the limit
full : read (ascii "[1,2,3]") ≡ record { fault = 16; bytes = []; slots = valued 0 4 0 ∷ valued 2 2 1 ∷ valued 2 2 2 ∷ [] }
unfolding computes
full = refl

-- `[[[]]` in two arrays at most: 14 comes before 11
deep : read (ascii "[[[]]") ≡ record { fault = 14; bytes = []; slots = valued 0 4 0 ∷ valued 2 4 0 ∷ [] }
unfolding computes
deep = refl

-- `x`: no value
no_value : read (ascii "x") ≡ wrong 12 []
unfolding computes
no_value = refl
