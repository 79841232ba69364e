-- What the listing leaves: one law for each way out.
use Prim.Native.Nat.{ℕ, ◌+◌, ◌-◌, ◌/◌, ◌≤◌, ◌<◌}
use mathlib.Core.Bool.{Bool, true, false}
use mathlib.Core.List.{List as Seq, []}
use mathlib.Core.Path.{◌≡◌, refl, sym, ap, subst, ◌∙◌}
use native.Mathlib.Omega.{arith}
use borrow.Author.Tests.{eqb-true, eqb-false, lt-ltb, le-ltb, le-leb, lt-leb, leb-true, leb-false}
use lib.Dec.{eqb, leb}
use lib.ListN.{length}
use Rattle.std.specs.Prelude.{Result, Ok, Err}
use Rattle.meaning.specs.Base.{zeros}
use Rattle.meaning.specs.Numbered.{number}
use Rattle.meaning.specs.Refusal.{Answer, accepted, refused, at_line}
use Rattle.meaning.specs.Listing.{out_size, short}
use Rattle.laws.specs.Cases.{on}
use Rattle.laws.specs.Stored.{stored}
use Rattle.scalar.specs.Stores.{over}
use Rattle.tree.specs.Doors.{Rooms}
use Rattle.values.specs.declared.State.{State}
use Rattle.values.specs.Doc.{Doc}
use Rattle.text.specs.declared.AtLine.{AtLine}
use Rattle.text.specs.Answers.{answer_of}
use Rattle.toml_lite.specs.Rooms as rooms
use Rattle.parse.specs.declared.Refusal.{Refusal}
use Rattle.plan.specs.Planning.{planning}
use Rattle.page.specs.declared.Page.{Page}
use Rattle.page.specs.Page.{Wrote, Adds}
use Rattle.page.proofs.Pages.{let_go}
use Rattle.report.specs.Shown.{lines}
use Rattle.preset.specs.declared.Outcome.{Outcome}
use Rattle.preset.specs.declared.listing.Listed.{Listed}
use Rattle.preset.specs.Settled.{Kept, Parsed}
use Rattle.preset.specs.Listings.{Emptied, Listing, TreeListed, lines_in, Lined, Planned, Short, ListsBy, Lists}
use Rattle.preset.proofs.Settling.{judged_on, read_refused, parsed_decides}

-- ---- the room of the output

module _ (out name : Seq ℕ) where
  pub short_least : length out < 142848 → true ≡ short (length out) name
  unfolding short
  short_least h = rw (lt-ltb (length out) (out_size name) (omega arith))

  pub short_less : 142848 ≤ length out → (length out - 142848) / 2 < length name → true ≡ short (length out) name
  unfolding short
  short_less e h = rw (lt-ltb (length out) (out_size name) (omega arith))

  pub short_last : 142848 ≤ length out → length name ≤ (length out - 142848) / 2 → leb 2147412224 (length name) ≡ short (length out) name
  unfolding short
  short_last e h =
      rw (le-ltb (length out) (out_size name) (omega arith))
      (on (leb 2147412224 (length name))
      (λ t. rw (t, le-leb 4294967296 (out_size name) (omega (arith, leb-true 2147412224 (length name) t))))
      (λ t. rw (t, lt-leb 4294967296 (out_size name) (omega (arith, leb-false 2147412224 (length name) t)))))

-- ---- an output that is long enough

pub tree_ready : (v : Refusal) (store tree : Seq ℕ) (made : ℕ) (store' tree' : Seq ℕ) (o : Outcome) → Rooms tree made → Kept v store tree made store' tree' o → Listing tree' o
tree_ready v store tree made store' tree' o h k =
    record {
      rooms = λ z. on (eqb v.number 0)
          (λ t.
          let d : o ≡ record { number = 0; section = 0; place = 0; made = made } = rw t at k.says in
          let w : tree' ≡ tree = rw t at k.tree_is in
          rw (w, d) h)
          (λ t.
          let d : o ≡ record { number = v.number; section = v.section; place = v.place; made = 0 } = rw t at k.says in
          absurd (eqb-false v.number 0 t (sym (ap (λ (x : Outcome). x.number) d) ∙ z)));
      low = k.small.place;
    }

pub list_rooms : (tree : Seq ℕ) (o : Outcome) → Listing tree o → o.number ≡ 0 → Rooms tree o.made
list_rooms tree o h z = h.rooms z

-- bytes at the head of a room
pub over_stored : (s room : Seq ℕ) → stored room 0 s ≡ over s room
unfolding stored
over_stored s room = let e : 0 + length s ≡ length s = omega arith in rw e

module _ (name store tree out : Seq ℕ) (o : Outcome) (h : Listing tree o) (out' : Seq ℕ) where
  pub lined_not : (o.number ≡ 0 → ⊥) → (r : Listed) → Emptied out out' o r → Lined name store tree out out' o r
  lined_not z r e = record { not = λ y. e; low = rw e.says h.low; fine = λ y. absurd (z y) }

  fine : o.number ≡ 0 → (n : ℕ) → Wrote (lines tree store o.made name) out 0 out' n
      → Lined name store tree out out' o (record { number = 0; section = 0; place = 0; written = n })
  fine z n w =
      record {
        not = λ y. absurd (y z);
        low = omega arith;
        fine = λ y.
            let e : length out - 0 ≡ length out = omega arith in
            let m : n ≡ length (lines_in out name store tree o.made) = omega (arith, rw e at w.place) in
            (rw m, rw e at w.left ∙ over_stored (lines_in out name store tree o.made) out);
      }

  pub lined_fine : o.number ≡ 0 → (p q : Page) → Adds (lines tree store o.made name) p q → out ≡ p.out.now → p.at ≡ 0 → (p.out.ghost_name ≡ q.out.ghost_name → out' ≡ q.out.now)
      → Lined name store tree out out' o (record { number = 0; section = 0; place = 0; written = q.at })
  lined_fine z p q a e f g = fine z q.at (rw (← e, f) at (let_go out' a g))

-- ---- all of it

module _ (text name store tree out : Seq ℕ) (store₁ tree₁ : Seq ℕ) (rd : Result State AtLine) (m : Answer Doc) (c : rooms.Cleared (zeros (length store)) (zeros (length tree)) store₁ tree₁ m rd)
    (em : m ≡ rooms.judged text (length store) (length tree)) where
  pub planned_fine : (st : State) (store' tree' out' : Seq ℕ) (r : Listed) → rd ≡ Ok st → TreeListed name store₁ tree₁ st.made out store' tree' out' r
      → Planned text name store tree out store' tree' out' r
  planned_fine st store' tree' out' r e h =
      record {
        low = h.lined.low;
        outcome = h.outcome;
        parsed = judged_on (planning name 0 []) text store tree store₁ tree₁ rd m c em st h.refusal store' tree' h.outcome e h.told h.kept;
        unread = λ f s n d.
            let x : ◌≡◌ {A = Answer State} (accepted st) (rooms.read_of (refused f s n)) = sym (ap answer_of e) ∙ c.told.says ∙ ap rooms.read_of (em ∙ d) in
            let z : ◌≡◌ {A = ℕ} 0 1 = cc in
            absurd (omega arith);
        lined = λ d q. h.lined;
      }

  pub planned_refused : (v : AtLine) (o : Outcome) (out' : Seq ℕ) (r : Listed) → rd ≡ Err v → o ≡ record { number = number v.refused; section = 0; place = v.line; made = 0 } → Emptied out out' o r
      → Planned text name store tree out store₁ tree₁ out' r
  planned_refused v o out' r e d q =
      let p : Parsed (planning name 0 []) text store tree store₁ tree₁ o = read_refused (planning name 0 []) text store tree store₁ tree₁ rd m c em v o e d in
      record {
        low = rw q.says p.small.place;
        outcome = o;
        parsed = p;
        unread = λ f s l u. q;
        lined = λ x u.
            let y : ◌≡◌ {A = Answer State} (at_line (number v.refused) v.line) (rooms.read_of (accepted x)) = sym (ap answer_of e) ∙ c.told.says ∙ ap rooms.read_of (em ∙ u) in
            let z : ◌≡◌ {A = ℕ} 1 0 = cc in
            absurd (omega arith);
      }

module _ (text name store tree out : Seq ℕ) (b : Bool) (eb : b ≡ short (length out) name) (store' tree' out' : Seq ℕ) (r : Listed) where
  pub lists_short : b ≡ true → Short store tree out store' tree' out' r → Lists text name store tree out store' tree' out' r
  lists_short t u = record { low = rw u.says (omega arith); by = rw (sym eb ∙ t) u }

  pub lists_long : b ≡ false → Planned text name store tree out store' tree' out' r → Lists text name store tree out store' tree' out' r
  lists_long t p = record { low = p.low; by = rw (sym eb ∙ t) p }

-- ---- two results that meet the promise for the same output are equal, answer and all three rooms
module _ (text name store tree out store₁ tree₁ out₁ store₂ tree₂ out₂ : Seq ℕ) (r₁ r₂ : Listed) where
  abbrev Same : Type 0
  Same = (r₁ ≡ r₂) × (store₁ ≡ store₂) × (tree₁ ≡ tree₂) × (out₁ ≡ out₂)

  emptied_one : (o : Outcome) → Emptied out out₁ o r₁ → Emptied out out₂ o r₂ → (r₁ ≡ r₂) × (out₁ ≡ out₂)
  emptied_one o h k = (h.says ∙ sym k.says, h.out_is ∙ sym k.out_is)

  lined_one : (o : Outcome) → Lined name store₁ tree₁ out out₁ o r₁ → Lined name store₁ tree₁ out out₂ o r₂ → (r₁ ≡ r₂) × (out₁ ≡ out₂)
  lined_one o h k =
      on (eqb o.number 0)
      (λ t. let z = eqb-true o.number 0 t in ((h.fine z).0 ∙ sym (k.fine z).0, (h.fine z).1 ∙ sym (k.fine z).1))
      (λ t. let z = eqb-false o.number 0 t in emptied_one o (h.not z) (k.not z))

  planned_one : Planned text name store tree out store₁ tree₁ out₁ r₁ → Planned text name store tree out store₂ tree₂ out₂ r₂ → Same
  planned_one h k =
      let s = parsed_decides (planning name 0 []) text store tree store₁ tree₁ store₂ tree₂ h.outcome k.outcome h.parsed k.parsed in
      let e = go s (rooms.judged text (length store) (length tree)) refl in
      (e.0, s.1, s.2, e.1)
    where
      go : (h.outcome ≡ k.outcome) × (store₁ ≡ store₂) × (tree₁ ≡ tree₂) → (m : Answer Doc) → rooms.judged text (length store) (length tree) ≡ m → (r₁ ≡ r₂) × (out₁ ≡ out₂)
      go s (refused f section line) e =
          emptied_one h.outcome (h.unread f section line e) (subst (λ (o : Outcome). Emptied out out₂ o r₂) (sym s.0) (k.unread f section line e))
      go s (accepted d) e =
          lined_one h.outcome (h.lined d e)
          (subst (λ (o : Outcome). Lined name store₁ tree₁ out out₂ o r₂) (sym s.0)
          (subst (λ (t : Seq ℕ). Lined name store₁ t out out₂ k.outcome r₂) (sym s.2)
          (subst (λ (t : Seq ℕ). Lined name t tree₂ out out₂ k.outcome r₂) (sym s.1) (k.lined d e))))

  short_one : Short store tree out store₁ tree₁ out₁ r₁ → Short store tree out store₂ tree₂ out₂ r₂ → Same
  short_one h k = (h.says ∙ sym k.says, h.store_is ∙ sym k.store_is, h.tree_is ∙ sym k.tree_is, h.out_is ∙ sym k.out_is)

  pub lists_decides : Lists text name store tree out store₁ tree₁ out₁ r₁ → Lists text name store tree out store₂ tree₂ out₂ r₂ → Same
  lists_decides h k = go (short (length out) name) h.by k.by
    where
      go : (b : Bool) → ListsBy b text name store tree out store₁ tree₁ out₁ r₁ → ListsBy b text name store tree out store₂ tree₂ out₂ r₂ → Same
      go true g l = short_one g l
      go false g l = planned_one g l
