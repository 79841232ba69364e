-- What the entry points leave: one law for each way out.
use Prim.Native.Nat.{ℕ}
use mathlib.Core.List.{List as Seq}
use mathlib.Core.Path.{◌≡◌, sym, ap, subst, ◌∙◌}
use native.Mathlib.Omega.{arith}
use borrow.Author.Tests.{eq-eqb, ne_eqb}
use lib.ListN.{length}
use Rattle.std.specs.Prelude.{Result, Ok, Err}
use Rattle.meaning.specs.Base.{zeros}
use Rattle.meaning.specs.Numbered.{number}
use Rattle.meaning.specs.Refusal.{Answer, accepted, refused, number_of, at_line}
use Rattle.tree.specs.Doors.{Rooms}
use Rattle.values.specs.declared.State.{State}
use Rattle.values.specs.Doc.{Doc}
use Rattle.text.specs.declared.AtLine.{AtLine}
use Rattle.text.specs.Answers.{answer_of}
use Rattle.toml_lite.specs.Rooms as rooms
use Rattle.parse.specs.declared.Refusal.{Refusal}
use Rattle.parse.specs.Verdict.{Told}
use Rattle.preset.specs.declared.Outcome.{Outcome}
use Rattle.parse.specs.Verdict.{reading}
use Rattle.validate.specs.Validated.{validating}
use Rattle.plan.specs.Planning.{planning}
use Rattle.preset.specs.declared.Way.{Way}
use Rattle.preset.specs.declared.Way.TheVariants as ways
use Rattle.preset.specs.Settled.{Kept, Settling, ReadBy, Parsed, judge_of}

-- ---- a way's judge
module _ (way : Way) (name key tree store : Seq ℕ) (made : ℕ) (r : Refusal) where
  pub read_judged : way ≡ ways.Read → Told (reading name tree store made) r → Told (judge_of way name key tree store made) r
  read_judged e t = rw e t

  pub validate_judged : way ≡ ways.Validate → Told (validating name tree store made) r → Told (judge_of way name key tree store made) r
  validate_judged e t = rw e t

  pub plan_judged : (app : ℕ) → way ≡ ways.Plan app → Told (planning name app key tree store made) r → Told (judge_of way name key tree store made) r
  plan_judged app e t = rw e t

-- ---- what a judgement leaves

module _ (store tree : Seq ℕ) (made : ℕ) (v : Refusal) (h : Settling v made) where
  pub kept_fine : v.number ≡ 0 → Kept v store tree made store tree (record { number = 0; section = 0; place = 0; made = made })
  kept_fine z =
      record { says = rw (eq-eqb v.number 0 z); store_is = rw (eq-eqb v.number 0 z); tree_is = rw (eq-eqb v.number 0 z); small = record { place = omega arith; made = h.few } }

  pub kept_not : (v.number ≡ 0 → ⊥) → (store' tree' : Seq ℕ) → store' ≡ zeros (length store) → tree' ≡ zeros (length tree)
      → Kept v store tree made store' tree' (record { number = v.number; section = v.section; place = v.place; made = 0 })
  kept_not z store' tree' s t =
      record { says = rw (ne_eqb v.number 0 z); store_is = rw (ne_eqb v.number 0 z) s; tree_is = rw (ne_eqb v.number 0 z) t; small = record { place = h.place; made = omega arith } }

-- ---- reading
pub read_rooms : (store tree store' tree' : Seq ℕ) (m : Answer Doc) (r : Result State AtLine) → rooms.Cleared store tree store' tree' m r → (st : State) → r ≡ Ok st → Rooms tree' st.made
read_rooms store tree store' tree' (accepted d) r k st e =
    let x : ◌≡◌ {A = Answer State} (accepted st) (rooms.read_of (accepted d)) = sym (ap answer_of e) ∙ k.told.says in
    let y : ◌≡◌ {A = State} st (record { used = length d.bytes; made = length d.slots }) = cc in
    let z : st.made ≡ length d.slots = ap (λ (q : State). q.made) y in
    let s : rooms.Small 65536 (Ok st) = rw e at k.told.small in
    record { fits = record { fits = omega (arith, z, k.carried.fits) }; low = s.1 }
read_rooms store tree store' tree' (refused f i q) r k st e =
    let x : ◌≡◌ {A = Answer State} (accepted st) (at_line (number_of f) q) = sym (ap answer_of e) ∙ k.told.says in let z : ◌≡◌ {A = ℕ} 0 1 = cc in absurd (omega arith)

-- what a judge says of them can be told
pub read_settles : (w v : Refusal) (store tree store' tree' : Seq ℕ) (m : Answer Doc) (r : Result State AtLine) (st : State) → rooms.Cleared store tree store' tree' m r → r ≡ Ok st → Told w v → Settling v st.made
read_settles w v store tree store' tree' m r st k e t = record { place = t.low; few = (read_rooms store tree store' tree' m r k st e).low }

module _ (judge : Seq ℕ → Seq ℕ → ℕ → Refusal) (text store tree store' tree' : Seq ℕ) (r : Result State AtLine) (m : Answer Doc)
    (c : rooms.Cleared (zeros (length store)) (zeros (length tree)) store' tree' m r) (em : m ≡ rooms.judged text (length store) (length tree)) where
  read_on : (st : State) (store'' tree'' : Seq ℕ) (o : Outcome) → r ≡ Ok st → Kept (judge tree' store' st.made) store' tree' st.made store'' tree'' o → Parsed judge text store tree store'' tree'' o
  read_on st store'' tree'' o e k = record { by = rw (← em) (go m c); small = k.small }
    where
      go : (n : Answer Doc) → rooms.Cleared (zeros (length store)) (zeros (length tree)) store' tree' n r → ReadBy judge n (zeros (length store)) (zeros (length tree)) store'' tree'' o
      go (accepted d) g =
          let x : ◌≡◌ {A = Answer State} (accepted st) (rooms.read_of (accepted d)) = sym (ap answer_of e) ∙ g.told.says in
          let y : ◌≡◌ {A = State} st (record { used = length d.bytes; made = length d.slots }) = cc in
          let z : st.made ≡ length d.slots = ap (λ (q : State). q.made) y in
          let s : rooms.Small 65536 (Ok st) = rw e at g.told.small in
          record { carries = rw (← g.tree_is) g.carried; few = omega (arith, z, s.1); kept = rw (← z, ← g.store_is, ← g.tree_is) k }
      go (refused f i q) g = let x : ◌≡◌ {A = Answer State} (accepted st) (at_line (number_of f) q) = sym (ap answer_of e) ∙ g.told.says in let z : ◌≡◌ {A = ℕ} 0 1 = cc in absurd (omega arith)

  -- what a judge says of the rooms, and what is left of them
  pub judged_on : (st : State) (v : Refusal) (store'' tree'' : Seq ℕ) (o : Outcome) → r ≡ Ok st → Told (judge tree' store' st.made) v → Kept v store' tree' st.made store'' tree'' o
      → Parsed judge text store tree store'' tree'' o
  judged_on st v store'' tree'' o e t k = read_on st store'' tree'' o e (subst (λ (w : Refusal). Kept w store' tree' st.made store'' tree'' o) t.is k)

  unread_by : (v : AtLine) → r ≡ Err v → Parsed judge text store tree store' tree' (record { number = number v.refused; section = 0; place = v.line; made = 0 })
  unread_by v e = let t : rooms.Small 65536 (Err v) = rw e at c.told.small in record { by = rw (← em) (go m c); small = record { place = omega (arith, t); made = omega arith } }
    where
      go : (n : Answer Doc) → rooms.Cleared (zeros (length store)) (zeros (length tree)) store' tree' n r
          → ReadBy judge n (zeros (length store)) (zeros (length tree)) store' tree' (record { number = number v.refused; section = 0; place = v.line; made = 0 })
      go (accepted d) g = let x : ◌≡◌ {A = Answer State} (at_line (number v.refused) v.line) (rooms.read_of (accepted d)) = sym (ap answer_of e) ∙ g.told.says in let z : ◌≡◌ {A = ℕ} 0 1 = cc in absurd (omega arith)
      go (refused f i q) g =
          let x : ◌≡◌ {A = Answer State} (at_line (number v.refused) v.line) (at_line (number_of f) q) = sym (ap answer_of e) ∙ g.told.says in
          let u : number v.refused ≡ number_of f = cc in let w : v.line ≡ q = cc in
          (rw (u, w, g.told.text), g.store_is, g.tree_is)

  pub read_refused : (v : AtLine) (o : Outcome) → r ≡ Err v → o ≡ record { number = number v.refused; section = 0; place = v.line; made = 0 }
      → Parsed judge text store tree store' tree' o
  read_refused v o e eo = rw eo (unread_by v e)

-- two results that meet the promise of a judge are equal, answer and both rooms
pub parsed_decides : (judge : Seq ℕ → Seq ℕ → ℕ → Refusal) (text store tree store₁ tree₁ store₂ tree₂ : Seq ℕ) (r₁ r₂ : Outcome) → Parsed judge text store tree store₁ tree₁ r₁
    → Parsed judge text store tree store₂ tree₂ r₂ → (r₁ ≡ r₂) × (store₁ ≡ store₂) × (tree₁ ≡ tree₂)
parsed_decides judge text store tree store₁ tree₁ store₂ tree₂ r₁ r₂ a b = go (rooms.judged text (length store) (length tree)) a.by b.by
  where
    go : (m : Answer Doc) → ReadBy judge m (zeros (length store)) (zeros (length tree)) store₁ tree₁ r₁ → ReadBy judge m (zeros (length store)) (zeros (length tree)) store₂ tree₂ r₂
        → (r₁ ≡ r₂) × (store₁ ≡ store₂) × (tree₁ ≡ tree₂)
    go (accepted d) h k =
        (h.kept.says ∙ sym k.kept.says, h.kept.store_is ∙ sym k.kept.store_is, h.kept.tree_is ∙ sym k.kept.tree_is)
    go (refused f section line) h k = (h.0 ∙ sym k.0, h.1 ∙ sym k.1, h.2 ∙ sym k.2)
