-- The searches in the tree room are those in its list of values, and a string's data tells where its bytes lie.
use Rattle.std.specs.Prelude.{ℕ, zero, suc, ◌+◌, ◌-◌, ◌*◌, ◌/◌, ◌%◌, ◌≤◌, ◌<◌, false, ◌≡◌, refl, drop, Option, Some, None}
use mathlib.Core.List.{List}
use Rattle.std.proofs.Common.{sym, ◌∙◌, arith, mod-eq_of_lt}
use Rattle.std.proofs.Math.Path.{ap}
use Rattle.std.proofs.Math.Nat.{add-mul-mod_self_left, mod-add-div}
use Rattle.std.proofs.Math.Dec.{eqb}
use Rattle.std.proofs.Math.ListN.{length, get_or, length-append}
use borrow.Author.Tests.{le-leb}
use Rattle.meaning.specs.Base.{pick, part}
use Rattle.meaning.specs.Tree.{Value, Table, table, empty}
use Rattle.laws.specs.Cases.{on}
use Rattle.tree.specs.declared.Slot.{Slot}
use Rattle.tree.specs.Room.{Finds, slot_at, keyed, under, mine, look, first, child, count}
use Rattle.tree.specs.Order.{key_of, has_key, next}
use Rattle.tree.specs.Nearest.{next_same}
use Rattle.scalar.specs.Stores.{over}
use Rattle.values.specs.Out.{cells}
use Rattle.values.specs.Grow.{void, mine_s, look_s}
use Rattle.values.specs.Carries.{AllSized, Carries}
use Rattle.values.proofs.Carrying.{slot_carried, over_carries}
use Rattle.agree.specs.Log.{top, count as counted}
use Rattle.agree.specs.Meets.{Spells}
use Rattle.agree.specs.Slots.{log_of, place_of, look_top}
use Rattle.agree.proofs.Store.{mine_more, part_more}
use Rattle.agree.specs.Reads.{Place, first_s, next_s}
use Rattle.agree.specs.Steps.{Agree}
use Rattle.agree.specs.Order.{step_s, Left, Stepped}
use Rattle.agree.proofs.Order.{step_at, step_over}
use Rattle.agree.specs.Rooms.{Carried}

-- what readers leave: a room that carries the values, and a store over which the bytes were laid
pub carried : (room store lent bytes : List ℕ) (vs : List Slot) → Carries room vs → store ≡ over bytes lent → Carried room store bytes vs
carried room store lent bytes vs h e = record { each = slot_carried room vs h; rest = drop (length bytes) lent; is = e }

-- or both laid over what was lent
pub carried_over : (room had store lent bytes : List ℕ) (vs : List Slot) → AllSized vs → 32 * length vs ≤ length had → room ≡ over (cells vs) had → store ≡ over bytes lent
    → Carried room store bytes vs
carried_over room had store lent bytes vs s f d e = carried room store lent bytes vs (over_carries had room vs s f d) e

place_one : (r s : Option ℕ) → place_of r ≡ place_of s → r ≡ s
place_one (Some n) (Some m) e = ap Some (omega arith)
place_one (Some n) None e = absurd (omega arith)
place_one None (Some m) e = absurd (omega arith)
place_one None None e = refl

module _ (room store bytes : List ℕ) (vs : List Slot) (c : Carried room store bytes vs) where
  under_is : (i p : ℕ) → i < length vs → under room i p ≡ eqb (get_or vs i void).parent p
  unfolding under
  under_is i p l = ap (λ (v : Slot). eqb v.parent p) (c.each i l)

  first_is : (p k i : ℕ) → i + k ≤ length vs → first room p k i ≡ first_s vs p k i
  first_is p zero i l = refl
  first_is p (suc k) i l = rw (under_is i p (omega arith), first_is p k (i + 1) (omega arith))

  -- the next value under a place
  pub room_next : (p from : ℕ) → from ≤ length vs → child room (length vs) p from ≡ next_s vs p from
  unfolding child next_s
  room_next p from l = first_is p (length vs - from) from (omega arith)

  count_to : (p n : ℕ) → n ≤ length vs → count room n p ≡ counted (log_of vs) n p
  count_to p zero l = refl
  count_to p (suc n) l =
      let z : counted (log_of vs) n p + 1 ≡ suc (counted (log_of vs) n p) = omega arith in
      rw (under_is n p (omega arith), count_to p n (omega arith), z)

  -- how many values hang under a place
  pub room_count : (p : ℕ) → count room (length vs) p ≡ counted (log_of vs) (length vs) p
  room_count p = count_to p (length vs) (omega arith)

  module _ (within : (n : ℕ) → (get_or vs n void).key + (get_or vs n void).len ≤ length bytes) (p : ℕ) (key : List ℕ) where
    mine_is : (n : ℕ) → n < length vs → mine room store n p key ≡ mine_s bytes (get_or vs n void) p key
    unfolding mine under mine_s
    mine_is n l =
        ap (λ (v : Slot). pick (eqb v.parent p) (keyed store v key) false) (c.each n l)
        ∙ ap (λ (b : List ℕ). mine_s b (get_or vs n void) p key) c.is ∙ mine_more bytes c.rest (get_or vs n void) p key (within n)

    look_to : (n : ℕ) → n ≤ length vs → place_of (look room store n p key) ≡ top (λ i. mine_s bytes (get_or vs i void) p key) n
    look_to zero l = refl
    look_to (suc n) l =
        rw (mine_is n (omega arith))
        (on (mine_s bytes (get_or vs n void) p key) (λ t. rw t) (λ t. rw t (look_to n (omega arith))))

    -- the newest value with a key under a place
    pub room_look : look room store (length vs) p key ≡ look_s bytes 0 vs p key None
    room_look =
        let z : 0 + length vs ≡ length vs = omega arith in
        place_one (look room store (length vs) p key) (look_s bytes 0 vs p key None)
        (look_to (length vs) (omega arith)
        ∙ ap (top (λ i. mine_s bytes (get_or vs i void) p key)) (sym z)
        ∙ sym (look_top bytes p key vs 0 (λ i. mine_s bytes (get_or vs i void) p key) None (λ i l. let b : 0 + i ≡ i = omega arith in rw b) refl))

  module _ (within : (n : ℕ) → (get_or vs n void).key + (get_or vs n void).len ≤ length bytes) where
    has_same : (n : ℕ) → has_key store (get_or vs n void) ≡ has_key bytes (get_or vs n void)
    unfolding has_key
    has_same n =
        let v : Slot = get_or vs n void in
        let l : v.key + v.len ≤ length store = omega (arith, within n, ap length c.is, length-append bytes c.rest) in
        rw (le-leb (v.key + v.len) (length store) l, le-leb (v.key + v.len) (length bytes) (within n))

    key_same : (n : ℕ) → key_of store (get_or vs n void) ≡ key_of bytes (get_or vs n void)
    key_same n = ap (λ (b : List ℕ). key_of b (get_or vs n void)) c.is ∙ part_more bytes c.rest (get_or vs n void).key (get_or vs n void).len (within n)

    -- a value's key lies in the store, and is what the list says
    pub room_key_in : (n : ℕ) → n < length vs → (slot_at room n).key + (slot_at room n).len ≤ length store
    room_key_in n l = rw (c.each n l) (omega (arith, within n, ap length c.is, length-append bytes c.rest))

    pub room_key : (n : ℕ) → n < length vs → key_of store (slot_at room n) ≡ key_of bytes (get_or vs n void)
    room_key n l = ap (key_of store) (c.each n l) ∙ key_same n

    -- the next key under a place, in byte order
    pub room_next_key : (p : ℕ) (after : Option ℕ) → next (slot_at room) store (length vs) p after ≡ step_s bytes vs p after
    room_next_key p after =
        next_same (length vs) (slot_at room) (λ n. get_or vs n void) store bytes
        (record { each = c.each; has = λ n _. has_same n; key = λ n _. key_same n }) p after

-- a step of the walk in byte order, by what the function says: the first that is left, or nothing is left
module _ (room store bytes : List ℕ) (vs : List Slot) (c : Carried room store bytes vs) (x : Value) (a : Agree bytes vs x) (p : ℕ) (t : Table) (h : Place bytes vs x p (table t))
    (made : ℕ) (all : made ≡ length vs) (after : Option ℕ) (u : Table) (left : Left bytes vs t after u) (r : Option ℕ) (f : Finds 0 made (next (slot_at room) store made p after) r) where
  step_is : step_s bytes vs p after ≡ r
  step_is =
      sym (room_next_key room store bytes vs c a.within p after) ∙ ap (λ (m : ℕ). next (slot_at room) store m p after) (sym all) ∙ sym f.is

  pub room_step_at : (n : ℕ) → r ≡ Some n → Stepped bytes vs x h.path t u n
  room_step_at n e = step_at bytes vs x a p t h after u left n (step_is ∙ e)

  pub room_step_over : r ≡ None → u ≡ empty
  room_step_over e = step_over bytes vs x a p t h after u left (step_is ∙ e)

-- ---- a string's bytes, of a store that two bytes tell

module _ (bytes : List ℕ) (bits : ℕ) (s : List ℕ) (h : Spells bytes bits s) (low : length bytes < 65536) where
  from_is : bits % 65536 ≡ h.from
  from_is = ap (λ (n : ℕ). n % 65536) h.is ∙ add-mul-mod_self_left h.from 65536 (length s) ∙ mod-eq_of_lt (omega (arith, h.fits))

  long_is : bits / 65536 ≡ length s
  long_is = omega (arith, mod-add-div bits 65536, from_is, h.is)

  pub string_is : part (bits % 65536) (bits % 65536 + bits / 65536) bytes ≡ s
  string_is = rw (from_is, long_is) h.spelt

  pub string_long : bits / 65536 ≡ length s
  string_long = long_is

  pub string_in : bits % 65536 + bits / 65536 ≤ length bytes
  string_in = omega (arith, from_is, long_is, h.fits)
