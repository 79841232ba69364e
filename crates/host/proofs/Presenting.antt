-- The exports of whole presets: one law for each way out.
use Prim.Native.Nat.{ℕ, ◌/◌, ◌≤◌, ◌<◌}
use mathlib.Core.List.{List, []}
use mathlib.Core.Path.{◌≡◌, refl, sym, ap, subst, ◌∙◌}
use native.Mathlib.Omega.{arith}
use mir.Syntax.{w32}
use mir.Val.{Fits}
use borrow.Author.Tests.{lt-ltb, le-ltb}
use lib.Dec.{ltb}
use lib.ListN.{length}
use Rattle.std.specs.Prelude.{Result, Ok, Err}
use Rattle.meaning.specs.Base.{zeros}
use Rattle.meaning.specs.Numbered.{number}
use Rattle.meaning.specs.Limits.{of01}
use Rattle.meaning.specs.Refusal.{Answer, accepted, refused, number_of, in_text, at_line}
use Rattle.meaning.specs.Document.{Parsed, in_rooms}
use Rattle.meaning.specs.Tree.{table}
use Rattle.laws.specs.Cases.{on}
use Rattle.scalar.specs.Stores.{over}
use Rattle.values.specs.declared.State.{State}
use Rattle.values.specs.Doc.{Doc, document_s}
use Rattle.agree.specs.Steps.{Agree}
use Rattle.agree.proofs.Rooms.{carried}
use Rattle.agree.specs.Whole.{Doc-agrees}
use Rattle.agree.proofs.Theorem.{agreement}
use Rattle.std.specs.Prelude.{Option, Some, None, option_map}
use Rattle.tree.specs.declared.Step.{Step}
use Rattle.tree.specs.declared.Items.{Items}
use Rattle.tree.specs.Room.{Finds, child}
use Rattle.tree.specs.Doors.{first_of}
use Rattle.tree.specs.Spans.{items_child}
use Rattle.tree.specs.Steps.{Gives}
use Rattle.text.specs.declared.AtLine.{AtLine}
use Rattle.text.specs.Answers.{answer_of}
use Rattle.toml_lite.specs.Rooms.{read_of, Small, Cleared, suffice, judged}
use Rattle.toml_lite.proofs.Reading.{suffices}
use Rattle.host.specs.declared.documents.Outcome.{Outcome}
use Rattle.host.specs.declared.documents.At.{At}
use Rattle.host.specs.Documents.{Presented, at_of, within}
use Rattle.slices.proofs.Zeroing.{length_zeros}

-- what is accepted in the rooms is accepted
no_17 : {G : Type 0} (d : Doc) → at_line 17 0 ≡ accepted d → G
no_17 d e = let z : ◌≡◌ {A = ℕ} 0 1 = cc in absurd (omega arith)

pub judged_is : (s : List ℕ) (n m : ℕ) (d : Doc) → judged s n m ≡ accepted d → document_s of01 s ≡ accepted d
unfolding judged
judged_is s n m d e = on (suffice n m) (λ p. rw p at e) (λ p. no_17 d (rw p at e))

-- and the rooms are large
pub large : (s : List ℕ) (n m : ℕ) (d : Doc) → judged s n m ≡ accepted d → (32768 ≤ n) × (65536 ≤ m)
unfolding judged
large s n m d e = on (suffice n m) (λ p. suffices n m p) (λ p. no_17 d (rw p at e))

-- both levels judge the rooms alike
pub judged_agrees : (s : List ℕ) (n m : ℕ) → Doc-agrees [] (in_rooms of01 n m s) (judged s n m)
unfolding in_rooms judged suffice
judged_agrees s n m =
    on (ltb n 32768) (λ p. rw p (refl, refl, refl))
    (λ p. on (ltb m 65536) (λ q. rw (p, q) (refl, refl, refl)) (λ q. rw (p, q) (agreement of01 s)))

module _ (s store tree store' tree' : List ℕ) (r : Result State AtLine)
    (c : Cleared (zeros (length store)) (zeros (length tree)) store' tree' (judged s (length store) (length tree)) r) where
  pub made_fits : (st : State) → r ≡ Ok st → Fits w32 st.made
  made_fits st e = let t : Small 65536 (Ok st) = rw e at c.told.small in record { fits = omega (arith, t.1) }

  pub line_fits : (v : AtLine) → r ≡ Err v → Fits w32 v.line
  line_fits v e = let t : Small 65536 (Err v) = rw e at c.told.small in record { fits = omega arith }

  pub fine_out : (st : State) → r ≡ Ok st → Presented s store tree store' tree' (record { number = 0; section = 0; place = 0; made = st.made })
  fine_out st e = go (in_rooms of01 (length store) (length tree) s) (judged s (length store) (length tree)) refl refl (judged_agrees s (length store) (length tree)) c
    where
      go : (a : Answer Parsed) (b : Answer Doc) → a ≡ in_rooms of01 (length store) (length tree) s → b ≡ judged s (length store) (length tree) → Doc-agrees [] a b
          → Cleared (zeros (length store)) (zeros (length tree)) store' tree' b r → Presented s store tree store' tree' (record { number = 0; section = 0; place = 0; made = st.made })
      go (accepted p) (accepted d) ea eb h c =
          let x : ◌≡◌ {A = Answer State} (accepted st) (read_of (accepted d)) = sym (ap answer_of e) ∙ c.told.says in
          let y : ◌≡◌ {A = State} st (record { used = length d.bytes; made = length d.slots }) = cc in
          let z : st.made ≡ p.made = ap (λ (q : State). q.made) y ∙ sym h.1 in
          let w : store' ≡ over p.bytes (zeros (length store)) = rw (← h.0) c.store_is in
          record {
            says = rw (← ea, z);
            store_is = rw (← ea) w;
            tree_is = rw (← ea, judged_is s (length store) (length tree) d (sym eb)) c.tree_is;
            shows = rw (← ea)
                (record {
                  slots = d.slots;
                  made = sym h.1;
                  carried = carried tree' store' (zeros (length store)) p.bytes d.slots c.carried w;
                  agrees = subst (λ (b : List ℕ). Agree b d.slots (table p.root)) h.0 h.2;
                });
          }
      go (accepted p) (refused f i q) ea eb h c = absurd h
      go (refused f i q) (accepted d) ea eb h c = absurd h
      go (refused f i q) (refused f' i' q') ea eb h c =
          let x : ◌≡◌ {A = Answer State} (accepted st) (at_line (number_of f') q') = sym (ap answer_of e) ∙ c.told.says in let z : ◌≡◌ {A = ℕ} 0 1 = cc in absurd (omega arith)

  pub fault_out : (v : AtLine) (n : ℕ) → r ≡ Err v → n ≡ number v.refused → Presented s store tree store' tree' (record { number = n; section = 0; place = v.line; made = 0 })
  fault_out v n e k = go (in_rooms of01 (length store) (length tree) s) (judged s (length store) (length tree)) refl refl (judged_agrees s (length store) (length tree)) c
    where
      go : (a : Answer Parsed) (b : Answer Doc) → a ≡ in_rooms of01 (length store) (length tree) s → b ≡ judged s (length store) (length tree) → Doc-agrees [] a b
          → Cleared (zeros (length store)) (zeros (length tree)) store' tree' b r → Presented s store tree store' tree' (record { number = n; section = 0; place = v.line; made = 0 })
      go (accepted p) (accepted d) ea eb h c =
          let x : ◌≡◌ {A = Answer State} (at_line (number v.refused) v.line) (read_of (accepted d)) = sym (ap answer_of e) ∙ c.told.says in let z : ◌≡◌ {A = ℕ} 0 1 = cc in absurd (omega arith)
      go (accepted p) (refused f i q) ea eb h c = absurd h
      go (refused f i q) (accepted d) ea eb h c = absurd h
      go (refused f i q) (refused f' i' q') ea eb h c =
          let x : ◌≡◌ {A = Answer State} (at_line (number v.refused) v.line) (at_line (number_of f') q') = sym (ap answer_of e) ∙ c.told.says in
          let u : n ≡ number_of f' = k ∙ cc in let w : v.line ≡ q' = cc in
          let y : i ≡ in_text = h.1 ∙ c.told.text in
          record {
            says = rw (← ea, h.0, y, h.2, u, w);
            store_is = rw (← ea) (c.store_is ∙ ap zeros (length_zeros (length store)));
            tree_is = rw (← ea) (c.tree_is ∙ ap zeros (length_zeros (length tree)));
            shows = rw (← ea) tt;
          }

-- two results that meet the promise are equal, answer and both rooms
pub presented_decides : (s store tree store₁ tree₁ store₂ tree₂ : List ℕ) (r₁ r₂ : Outcome) → Presented s store tree store₁ tree₁ r₁ → Presented s store tree store₂ tree₂ r₂
    → (r₁ ≡ r₂) × (store₁ ≡ store₂) × (tree₁ ≡ tree₂)
presented_decides s store tree store₁ tree₁ store₂ tree₂ r₁ r₂ a b = (a.says ∙ sym b.says, a.store_is ∙ sym b.store_is, a.tree_is ∙ sym b.tree_is)

-- ---- views
module _ (tree : List ℕ) (made takes : ℕ) (e : takes ≡ length tree / 32) where
  pub none_there : (f : Option ℕ) (r : At) → takes < made → r ≡ at_of None → r ≡ within tree made f
  none_there f r h q = rw (← e, lt-ltb takes made h) q

  pub found_there : (low : ℕ) (m f : Option ℕ) (r : At) → made ≤ takes → Finds low made m f → r ≡ at_of f → r ≡ within tree made m
  found_there low m f r h k q = rw (← e, le-ltb takes made h) (q ∙ ap at_of k.is)

-- what a step over items gives is the first child
pub child_of : (room : List ℕ) (w : Items) (step : Option (Step Items)) → Gives room w step → child room w.end w.place w.at ≡ option_map (λ (s : Step Items). s.value) step
child_of room w None g = items_child room w.end w.place w.at ∙ ap first_of g
child_of room w (Some s) g = items_child room w.end w.place w.at ∙ ap first_of g.come
