-- The rest of a slice, lent as `&s[a..]` or `&mut s[a..]`. The borrow checker says `take (length xs - a) (drop a xs)` of the part, and, once a
-- `&mut` part is back at ys, `take a xs ++ (ys ++ drop (length xs - a) (drop a xs))` of the whole.
use Rattle.std.specs.Prelude.{ℕ, ◌-◌, ◌≤◌, List, ◌++◌, ◌≡◌, length, take, drop}
use Rattle.std.proofs.Common.{append-nil, le_refl, length-drop, drop_of_length-le, take_all}

-- the part is `drop a xs`
pub rest_of : (xs : List ℕ) (a : ℕ) → take (length xs - a) (drop a xs) ≡ drop a xs
rest_of xs a = take_all (length xs - a) (drop a xs) (rw (length-drop a xs) (le_refl _))

-- the whole is `take a xs ++ ys`
pub back_of : (xs ys : List ℕ) (a : ℕ) → take a xs ++ (ys ++ drop (length xs - a) (drop a xs)) ≡ take a xs ++ ys
back_of xs ys a = rw (drop_of_length-le (drop a xs) short, append-nil)
  where
    short : length (drop a xs) ≤ length xs - a
    short = rw (length-drop a xs) (le_refl _)
