-- Bytes stored in a room: what stands there afterwards, and what stands beside them as before.
use Rattle.std.specs.Prelude.{ℕ, suc, ◌+◌, ◌-◌, ◌≤◌, ◌<◌, ◌≡◌, set}
use mathlib.Core.List.{List, [], ◌∷◌, ◌++◌, append_assoc}
use Rattle.std.proofs.Math.Path.{sym, ap}
use Rattle.std.proofs.Common.{◌∙◌, add-zero, add-one, take-append-drop, take_at, take-suc-set, drop-set-lt}
use native.Mathlib.Omega.{arith}
use Rattle.std.proofs.Math.ListN.{length, get_or, take, drop, length-append, length-drop, get_or-append}
use Rattle.std.proofs.Math.Seq.{drop_at, drop-drop, length-take-le, get_or-append-add, get_or-take, get_or-drop}

-- the room with bytes at a place
unfoldable pub stored : List ℕ → ℕ → List ℕ → List ℕ
stored room at bytes = take at room ++ (bytes ++ drop (at + length bytes) room)

pub stored_nil : (room : List ℕ) (at : ℕ) → stored room at [] ≡ room
unfolding stored
stored_nil room at = rw add-zero (take-append-drop at room)

-- one byte and the rest
pub stored_cons : (room bs : List ℕ) (at b : ℕ) → at < length room → stored (set room at b) (at + 1) bs ≡ stored room at (b ∷ bs)
unfolding stored
stored_cons room bs at b h =
    let e : at + 1 + length bs ≡ at + suc (length bs) = omega arith in
    let f : take (at + 1) (set room at b) ≡ take at room ++ (b ∷ []) = rw add-one (take-suc-set room at b h) in
    let g : drop (at + suc (length bs)) (set room at b) ≡ drop (at + suc (length bs)) room = drop-set-lt (at + suc (length bs)) room at b (omega arith) in
    rw (e, f, g) (append_assoc (take at room) (b ∷ []) (bs ++ drop (at + suc (length bs)) room))

module _ (room : List ℕ) (at : ℕ) (bs : List ℕ) where
  -- what stands before and after
  head : List ℕ
  head = take at room ++ bs

  rest : List ℕ
  rest = drop (at + length bs) room

  unfoldable split : stored room at bs ≡ head ++ rest
  unfolding stored head rest
  split = sym (append_assoc (take at room) bs (drop (at + length bs) room))

  head_long : at ≤ length room → length head ≡ at + length bs
  unfolding head
  head_long h = omega (arith, length-append (take at room) bs, length-take-le at room h)

  pub length_stored : at + length bs ≤ length room → length (stored room at bs) ≡ length room
  unfolding rest
  length_stored h =
      ap length split ∙ omega (arith, length-append head rest, head_long (omega arith), length-drop (at + length bs) room)

  -- the next store begins where the last one ended
  pub stored_then : (cs : List ℕ) (next : ℕ) → at ≤ length room → next ≡ at + length bs → stored (stored room at bs) next cs ≡ stored room at (bs ++ cs)
  unfolding stored head rest
  stored_then cs next h e =
      let n : length head ≡ next = head_long h ∙ sym e in
      let m : at + length (bs ++ cs) ≡ next + length cs = omega (arith, length-append bs cs) in
      let d : drop (next + length cs) (head ++ rest) ≡ drop (next + length cs) room =
      sym (drop-drop (length cs) next (head ++ rest)) ∙ ap (drop (length cs)) (drop_at head rest next n) ∙ drop-drop (length cs) (at + length bs) room ∙ ap (λ (k : ℕ). drop (k + length cs) room) (sym e) in
      ap (λ (l : List ℕ). take next l ++ (cs ++ drop (next + length cs) l)) split
      ∙ ap (λ (l : List ℕ). l ++ (cs ++ drop (next + length cs) (head ++ rest))) (take_at head rest next n)
      ∙ ap (λ (l : List ℕ). head ++ (cs ++ l)) d
      ∙ rw (m, append_assoc (take at room) bs, append_assoc bs cs)

  -- the later store of as many bytes at the same place is what stands
  pub stored_again : (cs : List ℕ) → at ≤ length room → length cs ≡ length bs → stored (stored room at bs) at cs ≡ stored room at cs
  unfolding stored head rest
  stored_again cs h e =
      let n : length (take at room) ≡ at = length-take-le at room h in
      let d : drop (at + length bs) (head ++ rest) ≡ rest = drop_at head rest (at + length bs) (head_long h) in
      rw (take_at (take at room) (bs ++ drop (at + length bs) room) at n, e)
      (ap (λ (l : List ℕ). take at room ++ (cs ++ drop (at + length bs) l)) split ∙ ap (λ (l : List ℕ). take at room ++ (cs ++ l)) d)

  pub stored_in : (i : ℕ) → at ≤ length room → i < length bs → get_or (stored room at bs) (at + i) 0 ≡ get_or bs i 0
  unfolding stored
  stored_in i h l =
      let n : length (take at room) ≡ at = length-take-le at room h in
      let e : at + i ≡ length (take at room) + i = omega arith in
      rw (e, get_or-append-add (take at room)) (get_or-append bs (drop (at + length bs) room) 0 i l)

  pub stored_before : (i : ℕ) → at ≤ length room → i < at → get_or (stored room at bs) i 0 ≡ get_or room i 0
  unfolding stored
  stored_before i h l =
      get_or-append (take at room) (bs ++ drop (at + length bs) room) 0 i (omega (arith, length-take-le at room h)) ∙ get_or-take at room i 0 l

  pub stored_after : (i : ℕ) → at ≤ length room → at + length bs ≤ i → get_or (stored room at bs) i 0 ≡ get_or room i 0
  unfolding rest
  stored_after i h l =
      let n : i ≡ length head + (i - (at + length bs)) = omega (arith, head_long h) in
      let m : at + length bs + (i - (at + length bs)) ≡ i = omega arith in
      ap (λ (s : List ℕ). get_or s i 0) split
      ∙ ap (λ (k : ℕ). get_or (head ++ rest) k 0) n
      ∙ get_or-append-add head rest (i - (at + length bs)) 0
      ∙ get_or-drop (at + length bs) room (i - (at + length bs)) 0
      ∙ ap (λ (k : ℕ). get_or room k 0) m
