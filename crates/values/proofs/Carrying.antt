-- A room that begins with the cells of values: reading, finding, making and hanging up in it are those on the list.
use Prim.Native.Nat.{ℕ, zero, suc, ◌+◌, ◌-◌, ◌*◌, ◌≤◌, ◌<◌}
use mathlib.Core.Bool.{Bool}
use mathlib.Core.List.{List, [], ◌∷◌, ◌++◌, append_assoc, append-nil}
use mathlib.Core.Path.{◌≡◌, refl, sym, ap, ◌∙◌}
use native.Mathlib.Omega.{arith}
use native.Mathlib.Nat.{le_refl, add-zero}
use lib.ListN.{length, get_or, take, drop, set, length-append, length-drop, length-set}
use lib.Seq.{length-take-le, take_at, drop_at, drop-drop, take-suc, take-length, split_at, set_split}
use Rattle.meaning.specs.Base.{pick}
use Rattle.laws.specs.Stored.{stored}
use Rattle.scalar.specs.Stores.{over}
use Rattle.tree.specs.declared.Slot.{Slot}
use Rattle.std.specs.Prelude.{Option, Some, None}
use Rattle.tree.specs.Room.{Sized, cell, slot_at, under, mine, look}
use Rattle.tree.specs.Laws.{length_cell, slot_same}
use Rattle.values.specs.Out.{cells}
use Rattle.values.specs.Grow.{void, mine_s, look_s}
use Rattle.values.specs.Carries.{slots_of, AllSized, Carries, Grows}

-- ---- cells
pub length_cells : (vs : List Slot) → length (cells vs) ≡ 32 * length vs
length_cells [] = refl
length_cells (v ∷ vs) = omega (arith, length-append (cell v) (cells vs), length_cell v, length_cells vs)

pub cells_append : (vs ws : List Slot) → cells (vs ++ ws) ≡ cells vs ++ cells ws
cells_append [] ws = refl
cells_append (v ∷ vs) ws = rw (cells_append vs ws, append_assoc (cell v) (cells vs) (cells ws))

pub sized_at : (vs : List Slot) (n : ℕ) → AllSized vs → n < length vs → Sized (get_or vs n void)
sized_at [] n h l = absurd (omega arith)
sized_at (v ∷ vs) zero h l = h.0
sized_at (v ∷ vs) (suc n) h l = sized_at vs n h.1 (omega arith)

pub sized_snoc : (vs : List Slot) (v : Slot) → AllSized vs → Sized v → AllSized (vs ++ (v ∷ []))
sized_snoc [] v h s = (s, tt)
sized_snoc (w ∷ vs) v h s = (h.0, sized_snoc vs v h.1 s)

pub sized_set : (vs : List Slot) (n : ℕ) (v : Slot) → AllSized vs → Sized v → AllSized (set vs n v)
sized_set [] n v h s = tt
sized_set (w ∷ vs) zero v h s = (s, h.1)
sized_set (w ∷ vs) (suc n) v h s = (h.0, sized_set vs n v h.1 s)

-- ---- bytes at the head of a room
pub length_over : (xs room : List ℕ) → length xs ≤ length room → length (over xs room) ≡ length room
length_over xs room h = omega (arith, length-append xs (drop (length xs) room), length-drop (length xs) room)

-- what is laid later, and is as long, is what stands
pub over_over : (xs ys room : List ℕ) → length ys ≤ length xs → over xs (over ys room) ≡ over xs room
over_over xs ys room h =
    let k : ℕ = length xs - length ys in
    let e : length xs ≡ length ys + k = omega arith in
    let d : drop (length ys + k) (over ys room) ≡ drop (length ys + k) room =
    sym (drop-drop k (length ys) (over ys room)) ∙ ap (drop k) (drop_at ys (drop (length ys) room) (length ys) refl) ∙ drop-drop k (length ys) room in
    ap (λ (n : ℕ). xs ++ drop n (over ys room)) e ∙ ap (λ (l : List ℕ). xs ++ l) d ∙ ap (λ (n : ℕ). xs ++ drop n room) (sym e)

-- bytes between others
module _ (room a b c : List ℕ) (at : ℕ) (e : room ≡ a ++ (b ++ c)) (n : length a ≡ at) where
  after : drop (at + length b) room ≡ c
  after = sym (drop-drop (length b) at room) ∙ ap (λ (l : List ℕ). drop (length b) (drop at l)) e ∙ ap (drop (length b)) (drop_at a (b ++ c) at n) ∙ drop_at b c (length b) refl

  -- as many bytes in their place
  stored_between : (d : List ℕ) → length d ≡ length b → stored room at d ≡ a ++ (d ++ c)
  unfolding stored
  stored_between d m =
      let t : take at room ≡ a = ap (take at) e ∙ take_at a (b ++ c) at n in
      rw (t, m, after)

module _ (tree : List ℕ) (slots : List Slot) (h : Carries tree slots) where
  rest : List ℕ
  rest = drop (length (cells slots)) tree

  -- the room around value number n
  around : (n : ℕ) → n < length slots → tree ≡ cells (take n slots) ++ (cell (get_or slots n void) ++ (cells (drop (suc n) slots) ++ rest))
  unfolding rest
  around n l =
      let s : cells slots ≡ cells (take n slots) ++ (cell (get_or slots n void) ++ cells (drop (suc n) slots)) =
      ap cells (split_at slots n void l) ∙ cells_append (take n slots) (get_or slots n void ∷ drop (suc n) slots) in
      h.is ∙ ap (λ (l : List ℕ). l ++ drop (length (cells slots)) tree) s ∙ simp append_assoc

  before_n : (n : ℕ) → n < length slots → length (cells (take n slots)) ≡ 32 * n
  before_n n l = length_cells (take n slots) ∙ ap (λ (k : ℕ). 32 * k) (length-take-le n slots (omega arith))

  -- value number n is read as the list has it
  pub slot_carried : (n : ℕ) → n < length slots → slot_at tree n ≡ get_or slots n void
  slot_carried n l =
      let v : Slot = get_or slots n void in
      let c : List ℕ = cells (drop (suc n) slots) ++ rest in
      let e : stored tree (32 * n) (cell v) ≡ tree =
      stored_between tree (cells (take n slots)) (cell v) c (32 * n) (around n l) (before_n n l) (cell v) refl ∙ sym (around n l) in
      ap (λ (t : List ℕ). slot_at t n) (sym e) ∙ slot_same tree n v (record { fits = omega (arith, h.fits) }) (sized_at slots n h.sized l)

  slots_take : (n : ℕ) → n ≤ length slots → slots_of tree n ≡ take n slots
  slots_take zero l = refl
  slots_take (suc n) l = rw (slots_take n (omega arith), slot_carried n (omega arith)) (sym (take-suc slots n void (omega arith)))

  pub slots_are : slots_of tree (length slots) ≡ slots
  slots_are = slots_take (length slots) (le_refl _) ∙ take-length slots

  -- values laid after them
  pub lay_over : (ws : List Slot) → stored tree (32 * length slots) (cells ws) ≡ over (cells (slots ++ ws)) tree
  unfolding stored rest
  lay_over ws =
      let n : length (cells slots) ≡ 32 * length slots = length_cells slots in
      let m : length (cells slots ++ cells ws) ≡ 32 * length slots + length (cells ws) = omega (arith, length-append (cells slots) (cells ws)) in
      let t : take (32 * length slots) tree ≡ cells slots = ap (take (32 * length slots)) h.is ∙ take_at (cells slots) rest (32 * length slots) n in
      rw (cells_append slots ws, m, t) (sym (append_assoc (cells slots) (cells ws) (drop (32 * length slots + length (cells ws)) tree)))

  -- a value made after them
  pub put_over : (v : Slot) → stored tree (32 * length slots) (cell v) ≡ over (cells (slots ++ (v ∷ []))) tree
  put_over v = ap (stored tree (32 * length slots)) (sym (append-nil (cell v))) ∙ lay_over (v ∷ [])

  -- value number n put anew
  pub set_over : (n : ℕ) (w : Slot) → n < length slots → stored tree (32 * n) (cell w) ≡ over (cells (set slots n w)) tree
  unfolding rest
  set_over n w l =
      let v : Slot = get_or slots n void in
      let c : List ℕ = cells (drop (suc n) slots) ++ rest in
      let s : cells (set slots n w) ≡ cells (take n slots) ++ (cell w ++ cells (drop (suc n) slots)) =
      ap cells (set_split slots n w l) ∙ cells_append (take n slots) (w ∷ drop (suc n) slots) in
      let m : length (cells (set slots n w)) ≡ length (cells slots) = length_cells (set slots n w) ∙ ap (λ (k : ℕ). 32 * k) (length-set slots n w) ∙ sym (length_cells slots) in
      stored_between tree (cells (take n slots)) (cell v) c (32 * n) (around n l) (before_n n l) (cell w) (length_cell w ∙ sym (length_cell v))
      ∙ rw (m, s) (simp append_assoc)

-- a room over which cells were laid carries their values
pub over_carries : (tree tree' : List ℕ) (vs : List Slot) → AllSized vs → 32 * length vs ≤ length tree → tree' ≡ over (cells vs) tree → Carries tree' vs
over_carries tree tree' vs s f e =
    record {
      is = rw e (sym (over_over (cells vs) (cells vs) tree (le_refl _)));
      sized = s;
      fits = omega (arith, ap length e, length_over (cells vs) tree (omega (arith, length_cells vs)));
    }

-- a room carries no values
pub carries_none : (tree : List ℕ) → Carries tree []
carries_none tree = record { is = refl; sized = tt; fits = omega arith }

-- the values of a room that carries them
pub slots_of_lem : (tree : List ℕ) (slots : List Slot) (made : ℕ) → Carries tree slots → made ≡ length slots → slots_of tree made ≡ slots
slots_of_lem tree slots made h e = rw e (slots_are tree slots h)

pub carries_grows : (limit : ℕ) (tree : List ℕ) (slots : List Slot) (made : ℕ) → Carries tree slots → made ≡ length slots
    → 32 * limit ≤ length tree → limit < 65000 → made ≤ limit → Grows limit tree made
carries_grows limit tree slots made h e r f m = record { carried = rw (slots_of_lem tree slots made h e) h; room = r; few = f; most = m }

-- ---- finding
look_snoc : (bytes : List ℕ) (n : ℕ) (vs : List Slot) (v : Slot) (p : ℕ) (key : List ℕ) (best : Option ℕ)
    → look_s bytes n (vs ++ (v ∷ [])) p key best ≡ pick (mine_s bytes v p key) (Some (n + length vs)) (look_s bytes n vs p key best)
look_snoc bytes n [] v p key best = rw add-zero
look_snoc bytes n (w ∷ vs) v p key best =
    let e : n + 1 + length vs ≡ n + suc (length vs) = omega arith in
    look_snoc bytes (n + 1) vs v p key (pick (mine_s bytes w p key) (Some n) best)
    ∙ ap (λ (k : ℕ). pick (mine_s bytes v p key) (Some k) (look_s bytes (n + 1) vs p key (pick (mine_s bytes w p key) (Some n) best))) e

pub length_slots : (tree : List ℕ) (n : ℕ) → length (slots_of tree n) ≡ n
length_slots tree zero = refl
length_slots tree (suc n) = omega (arith, length-append (slots_of tree n) (slot_at tree n ∷ []), length_slots tree n)

mine_is : (tree store : List ℕ) (n p : ℕ) (key : List ℕ) → mine tree store n p key ≡ mine_s store (slot_at tree n) p key
unfolding mine mine_s under
mine_is tree store n p key = refl

-- what is found in the room is what is found in the list
pub look_is : (tree store : List ℕ) (n p : ℕ) (key : List ℕ) → look tree store n p key ≡ look_s store 0 (slots_of tree n) p key None
look_is tree store zero p key = refl
look_is tree store (suc n) p key =
    let e : 0 + length (slots_of tree n) ≡ n = omega (arith, length_slots tree n) in
    let k : look_s store 0 (slots_of tree n ++ (slot_at tree n ∷ [])) p key None ≡ pick (mine_s store (slot_at tree n) p key) (Some n) (look_s store 0 (slots_of tree n) p key None) =
    look_snoc store 0 (slots_of tree n) (slot_at tree n) p key None
    ∙ ap (λ (i : ℕ). pick (mine_s store (slot_at tree n) p key) (Some i) (look_s store 0 (slots_of tree n) p key None)) e in
    ap (λ (b : Bool). pick b (Some n) (look tree store n p key)) (mine_is tree store n p key)
    ∙ ap (λ (f : Option ℕ). pick (mine_s store (slot_at tree n) p key) (Some n) f) (look_is tree store n p key)
    ∙ sym k
