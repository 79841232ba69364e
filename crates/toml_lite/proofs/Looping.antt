-- All joined lines of a laid text: what the loop keeps, and one law for each way on and out of it.
use Prim.Native.Nat.{ℕ, ◌+◌, ◌-◌, ◌≤◌, ◌<◌}
use mathlib.Core.List.{List, [], ◌∷◌}
use mathlib.Core.Path.{◌≡◌, refl, sym, ap, ◌∙◌}
use native.Mathlib.Omega.{arith}
use lib.ListN.{length, take, drop, length-drop}
use lib.Seq.{length-take-le, take_at}
use Rattle.std.specs.Prelude.{None, Some, Result, Ok, Err}
use Rattle.meaning.specs.declared.Limits.{Limits}
use Rattle.meaning.specs.declared.Refused.{Refused}
use Rattle.meaning.specs.Numbered.{number}
use Rattle.meaning.specs.Refusal.{Answer, accepted, refused, accepted_then, at_line, R, ok, bad}
use Rattle.meaning.specs.Space.{trim}
use Rattle.meaning.specs.Lines.{Line, closed, join}
use Rattle.meaning.specs.Document as meant
use Rattle.text.specs.declared.JoinedLine.{JoinedLine}
use Rattle.text.specs.declared.AtLine.{AtLine}
use Rattle.text.specs.Laid.{lines_of}
use Rattle.text.specs.Walk.{Next, Follows, Onward, Says}
use Rattle.text.proofs.Saying.{says}
use Rattle.scalar.specs.Stores.{over}
use Rattle.tree.specs.declared.Slot.{Slot}
use Rattle.values.specs.declared.State.{State}
use Rattle.values.specs.Out.{cells}
use Rattle.values.specs.Carries.{slots_of, AllWithin, numbered}
use Rattle.values.specs.Doc.{Doc, line_s, told_at, lines_s}
use Rattle.values.proofs.Carrying.{length_cells, length_slots, over_over, slots_of_lem, carries_grows}
use Rattle.toml_lite.specs.declared.Progress.{Progress}
use Rattle.toml_lite.specs.Rooms.{progress_at, doc_of, Holding, Taking, Wrote, Lined, line_of, start, whole_of, AfterLine, fault_after, Told, KeptAll, Begun, Reads}
use Rattle.toml_lite.proofs.Assigning.{Stepped}

pub record Ahead (limits : Limits) (s store₀ tree₀ store tree : List ℕ) (st : State) (here at line : ℕ) : Type 0 where
  pub high : at ≤ length s
  pub number : line ≤ at + 1
  pub low : length s < 65536
  pub room : length s ≤ length store + 1
  pub holding : Holding limits store tree st
  pub stepped : Stepped at store₀ tree₀ store tree start st
  pub left : accepted_then (join closed line (lines_of (drop at s))) (λ ls. lines_s limits ls (doc_of store tree st here)) ≡ whole_of limits s

same_state : (st : State) (u m : ℕ) → u ≡ st.used → m ≡ st.made → ◌≡◌ {A = State} st (record { used = u; made = m })
same_state st u m p q = rw (p, q)

-- the first line, then the others
line_first : (j : Answer (List Line)) (x : Line) (f : List Line → Answer Doc) → accepted_then (accepted_then j (λ ls. accepted (x ∷ ls))) f ≡ accepted_then j (λ ls. f (x ∷ ls))
line_first (accepted ls) x f = refl
line_first (refused g a p) x f = refl

-- the line's own outcome, by the answer of the code
fault_is : (m : R Doc) (q : Result Progress Refused) (e : Refused) → numbered q ≡ line_of m → q ≡ Err e → m ≡ bad (number e)
fault_is (ok d) q e s f =
    let x : ◌≡◌ {A = R Progress} (bad (number e)) (ok (progress_at (length d.slots) (length d.bytes) d.here)) = sym (ap numbered f) ∙ s in
    let z : ◌≡◌ {A = ℕ} 0 1 = cc in absurd (omega arith)
fault_is (bad k) q e s f =
    let x : ◌≡◌ {A = R Progress} (bad (number e)) (bad k) = sym (ap numbered f) ∙ s in
    let z : k ≡ number e = cc in
    ap bad z

record Came (limits : Limits) (n : ℕ) (store tree store' tree' : List ℕ) (st : State) (next : Progress) (m : R Doc) : Type 0 where
  doc : Doc
  is : m ≡ ok doc
  used : length doc.bytes ≡ next.st.used
  made : length doc.slots ≡ next.st.made
  here : doc.here ≡ next.here
  wrote : Wrote limits n store tree store' tree' st doc

came : (limits : Limits) (n : ℕ) (store tree store' tree' : List ℕ) (st : State) (next : Progress) (m : R Doc) (q : Result Progress Refused)
    → Lined limits n store tree store' tree' st m q → q ≡ Ok next → Came limits n store tree store' tree' st next m
came limits n store tree store' tree' st next (ok d) q a e =
    let x : ◌≡◌ {A = R Progress} (ok next) (ok (progress_at (length d.slots) (length d.bytes) d.here)) = sym (ap numbered e) ∙ a.says in
    let y : progress_at (length d.slots) (length d.bytes) d.here ≡ next = cc in
    record {
      doc = d;
      is = refl;
      used = ap (λ (z : Progress). z.st.used) y;
      made = ap (λ (z : Progress). z.st.made) y;
      here = ap (λ (z : Progress). z.here) y;
      wrote = a.kept;
    }
came limits n store tree store' tree' st next (bad f) q a e =
    let x : ◌≡◌ {A = R Progress} (ok next) (bad f) = sym (ap numbered e) ∙ a.says in let z : ◌≡◌ {A = ℕ} 0 1 = cc in absurd (omega arith)

same_within : (u v : ℕ) (vs ws : List Slot) → u ≡ v → ws ≡ vs → AllWithin u vs → AllWithin v ws
same_within u v vs ws p q h = rw (← p, q) h

same_doc : (d : Doc) (bs : List ℕ) (vs : List Slot) (h : ℕ) → bs ≡ d.bytes → vs ≡ d.slots → h ≡ d.here → ◌≡◌ {A = Doc} (record { bytes = bs; slots = vs; here = h }) d
same_doc d bs vs h p q r = rw (p, q, r)

module _ (limits : Limits) (s store₀ tree₀ store tree : List ℕ) (st : State) (here at line : ℕ) (k : Ahead limits s store₀ tree₀ store tree st here at line) where
  ended : join closed line (lines_of (drop at s)) ≡ accepted [] → Reads limits (length s) store₀ tree₀ store tree (whole_of limits s) (Ok st)
  ended e =
      let w : accepted (doc_of store tree st here) ≡ whole_of limits s = rw e at k.left in
      let u : length (take st.used store) ≡ st.used = length-take-le st.used store k.holding.fits in
      let n : length (slots_of tree st.made) ≡ st.made = length_slots tree st.made in
      rw (← w)
      (record {
        told = record {
          says = ap accepted (same_state st (length (take st.used store)) (length (slots_of tree st.made)) u n);
          small = (omega (arith, k.stepped.short, k.high), omega (arith, k.holding.grows.few, k.holding.grows.most));
          text = tt;
        };
        store_long = k.stepped.store_long;
        tree_long = k.stepped.tree_long;
        kept = record {
          store_is = k.stepped.store_is;
          tree_is = k.stepped.tree_is;
          carried = k.holding.grows.carried;
          within = rw u k.holding.within;
          more = omega arith;
          short = omega (arith, k.stepped.short, k.high);
          grew = omega arith;
          most = omega (arith, k.holding.grows.most);
        };
      })

  -- 3 or 4 among the lines
  halted : (u : AtLine) → join closed line (lines_of (drop at s)) ≡ at_line (number u.refused) u.line → u.line + at ≤ line + length s
      → Reads limits (length s) store₀ tree₀ store tree (whole_of limits s) (Err u)
  halted u e h =
      let w : at_line (number u.refused) u.line ≡ whole_of limits s = rw e at k.left in
      rw (← w) (record { told = record { says = refl; small = omega (arith, k.number); text = refl }; store_long = k.stepped.store_long; tree_long = k.stepped.tree_long; kept = tt })

  module _ (r : Next) (f : Follows s at line r) where
    told : Says s (join closed line (lines_of (drop at s))) r
    told = rw f.is (says s at line)

    pub ahead_none : r ≡ Ok None → Reads limits (length s) store₀ tree₀ store tree (whole_of limits s) (Ok st)
    ahead_none e = ended (rw e at told)

    pub ahead_refused : (u : AtLine) → r ≡ Err u → Reads limits (length s) store₀ tree₀ store tree (whole_of limits s) (Err u)
    ahead_refused u e = halted u (rw e at told) (rw e at f.advance)

    module _ (l : JoinedLine) (e : r ≡ Ok (Some l)) where
      onward : Onward s at line l
      onward = rw e at f.advance

      within : l.end ≤ length s
      within = omega (arith, onward.high, onward.fits)

      abbrev text : List ℕ
      text = take (l.end - l.from) (drop l.from s)

      text_long : length text ≡ l.end - l.from
      text_long = length-take-le (l.end - l.from) (drop l.from s) (omega (arith, length-drop l.from s, within))

      -- the lines after this one
      abbrev rest : Answer (List Line)
      rest = join closed l.next.line (lines_of (drop l.next.at s))

      meaning : accepted_then rest (λ ls. told_at limits l.line (line_s limits (meant.form (trim text)) (doc_of store tree st here)) (lines_s limits ls)) ≡ whole_of limits s
      meaning =
          sym (line_first rest (record { at = l.line; text = text }) (λ ls. lines_s limits ls (doc_of store tree st here)))
          ∙ ap (λ (j : Answer (List Line)). accepted_then j (λ ls. lines_s limits ls (doc_of store tree st here))) (sym (rw e at told)) ∙ k.left

      module _ (store' tree' : List ℕ) (q : Result Progress Refused) (a : Lined limits (length text) store tree store' tree' st (line_s limits (meant.form (trim text)) (doc_of store tree st here)) q) where
        pub ahead_fault : (e : Refused) (v : Result State AtLine) → q ≡ Err e → Told (length s) (fault_after s l.next (number e) l.line) v
            → Reads limits (length s) store₀ tree₀ store' tree' (whole_of limits s) v
        ahead_fault c v g t =
            let m : line_s limits (meant.form (trim text)) (doc_of store tree st here) ≡ bad (number c) = fault_is (line_s limits (meant.form (trim text)) (doc_of store tree st here)) q c a.says g in
            let w : fault_after s l.next (number c) l.line ≡ whole_of limits s = rw m at meaning in
            rw (← w) (record { told = t; store_long = a.store_long ∙ k.stepped.store_long; tree_long = a.tree_long ∙ k.stepped.tree_long; kept = nothing rest })
          where
            nothing : (j : Answer (List Line)) → KeptAll limits (length s) store₀ tree₀ store' tree' (accepted_then j (λ _. at_line (number c) l.line))
            nothing (accepted ls) = tt
            nothing (refused f a p) = tt

        module _ (next : Progress) (g : q ≡ Ok next) where
          at_last : Came limits (length text) store tree store' tree' st next (line_s limits (meant.form (trim text)) (doc_of store tree st here))
          at_last = came limits (length text) store tree store' tree' st next (line_s limits (meant.form (trim text)) (doc_of store tree st here)) q a g

          w : Wrote limits (length text) store tree store' tree' st at_last.doc
          w = at_last.wrote

          slots_now : slots_of tree' next.st.made ≡ at_last.doc.slots
          slots_now = slots_of_lem tree' at_last.doc.slots next.st.made w.carried (sym at_last.made)

          bytes_now : take next.st.used store' ≡ at_last.doc.bytes
          bytes_now = ap (take next.st.used) w.store_is ∙ take_at at_last.doc.bytes (drop (length at_last.doc.bytes) store) next.st.used at_last.used

          doc_now : doc_of store' tree' next.st next.here ≡ at_last.doc
          doc_now = same_doc at_last.doc (take next.st.used store') (slots_of tree' next.st.made) next.here bytes_now slots_now (sym at_last.here)

          store_now : store' ≡ over at_last.doc.bytes store₀
          store_now =
              w.store_is ∙ ap (over at_last.doc.bytes) k.stepped.store_is
              ∙ over_over at_last.doc.bytes (take st.used store) store₀ (omega (arith, length-take-le st.used store k.holding.fits, w.more))

          tree_now : tree' ≡ over (cells at_last.doc.slots) tree₀
          tree_now =
              w.tree_is ∙ ap (over (cells at_last.doc.slots)) k.stepped.tree_is
              ∙ over_over (cells at_last.doc.slots) (cells (slots_of tree st.made)) tree₀
              (omega (arith, length_cells (slots_of tree st.made), length_cells at_last.doc.slots, length_slots tree st.made, w.grew))

          in_place : next.st.used ≤ l.next.at
          in_place = omega (arith, at_last.used, w.short, text_long, k.stepped.short, onward.on, onward.low, onward.high)

          in_room : next.st.used ≤ length store'
          in_room = omega (arith, at_last.used, w.short, text_long, k.stepped.short, onward.on, onward.low, onward.high, onward.fits, k.room, a.store_long)

          pub ahead_on : Ahead limits s store₀ tree₀ store' tree' next.st next.here l.next.at l.next.line
          ahead_on =
              record {
                high = onward.fits;
                number = omega (arith, onward.count, k.number);
                low = k.low;
                room = omega (arith, k.room, a.store_long);
                holding = record {
                  grows = carries_grows limits.values tree' at_last.doc.slots next.st.made w.carried (sym at_last.made) (omega (arith, k.holding.grows.room, a.tree_long)) k.holding.grows.few (omega (arith, at_last.made, w.most));
                  within = same_within (length at_last.doc.bytes) next.st.used at_last.doc.slots (slots_of tree' next.st.made) at_last.used slots_now w.within;
                  fits = in_room;
                  segs = k.holding.segs;
                };
                stepped = record {
                  store_is = rw bytes_now store_now;
                  tree_is = rw slots_now tree_now;
                  store_long = a.store_long ∙ k.stepped.store_long;
                  tree_long = a.tree_long ∙ k.stepped.tree_long;
                  fits = in_room;
                  more = omega arith;
                  short = omega (arith, in_place);
                  grew = omega arith;
                };
                left = ap (λ (d : Doc). accepted_then rest (λ ls. lines_s limits ls d)) doc_now ∙ sym (ap (λ (m : R Doc). accepted_then rest (λ ls. told_at limits l.line m (lines_s limits ls))) at_last.is) ∙ meaning;
              }
