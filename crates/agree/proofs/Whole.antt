-- Whole documents: for every text and every limits both refuse by the same number at the same place, or both read it, with the same bytes in the store,
-- as many values made, and slots that show the tree of 01 along every path.
use Rattle.std.specs.Prelude.{ℕ, ◌+◌, ◌-◌, List, [], ◌∷◌, ◌++◌, ◌≡◌, ltb, length}
use Rattle.std.proofs.Common.{append-nil, append_assoc, sym, ap, ◌∙◌, arith, length-append, eq-eqb, ne_eqb}
use Rattle.std.proofs.Math.Option.{none, some}
use Rattle.std.proofs.Math.Path.{refl}
use Rattle.meaning.specs.declared.Limits.{Limits}
use Rattle.meaning.specs.Base.{concat, nil?}
use Rattle.meaning.specs.Refusal.{numbered, unmet, R, ok, bad, Answer, accepted, refused, accepted_then}
use Rattle.meaning.specs.Reading.{Got, got, failed, grow_map, storing, adding, got_then, ok_then_got}
use Rattle.meaning.specs.Tree.{Value, table, empty, assign, open_tables, push}
use Rattle.meaning.specs.Keys.{keys}
use Rattle.meaning.specs.Utf8.{valid}
use Rattle.meaning.specs.Values.{value}
use Rattle.meaning.specs.Space.{trim}
use Rattle.meaning.specs.Lines.{Line, joined}
use Rattle.meaning.specs.Document.{Doc, tables, arrays, under_header, Form, pushes, heads, sets, neither, form, read_form, assignment, path, read_lines, document, Parsed, stored_first, line_then}
use Rattle.laws.specs.Cases.{on}
use Rattle.laws.specs.Never.{NonEmpty, Reads, keys_ok}
use Rattle.scalar.specs.Splits.{flat, ends_of}
use Rattle.values.specs.Out.{Out}
use Rattle.values.specs.Fill.{value_out}
use Rattle.values.specs.Grow.{segs_of, down_s, push_s, to_last_s, hang_s}
use Rattle.values.specs.Doc.{Doc as DocS, settle_s, path_by, assign_by, set_s, line_s, told_at, lines_s, empty as emptyS, document_s}
use Rattle.agree.specs.Key.{Key}
use Rattle.agree.specs.Finds.{find}
use Rattle.agree.specs.Meets.{Meets}
use Rattle.agree.proofs.Meets.{bare_table}
use Rattle.agree.specs.Slots.{log_of}
use Rattle.agree.specs.Steps.{Agree, to}
use Rattle.agree.proofs.Store.{to_bytes, agree_bytes}
use Rattle.agree.specs.Lines.{Value-laid, Value-agrees, Values-agree, Same, Line-agrees}
use Rattle.agree.proofs.Lines.{flat_is, spelling_of, head_agrees, push_agrees}
use Rattle.agree.proofs.Sets.{lain_more, set_agrees}
use Rattle.agree.specs.Whole.{Doc-agrees}

module _ (values : Values-agree) (lim : Limits) where
  module _ (d : Doc) (r : DocS) (s : Same d r) where
    abbrev m : ℕ
    m = length r.slots

    heads_by : (ks : R (List (List ℕ)))
        → Line-agrees r.bytes (ok_then_got ks (λ p. storing (concat p) (grow_map (λ t. record { root = t; under = tables p }) (open_tables lim.values p d.root m))))
        (path_by r.bytes ks (λ bytes gs. settle_s bytes (down_s lim.values bytes gs r.slots 1) (λ p. p)))
    heads_by (ok ks) = head_agrees lim d r s ks
    heads_by (bad n) = refl

    pushes_by : (ks : R (List (List ℕ))) → Reads NonEmpty ks
        → Line-agrees r.bytes (ok_then_got ks (λ p. storing (concat p) (grow_map (λ t. record { root = t; under = arrays p }) (push lim.values p d.root m))))
        (path_by r.bytes ks (λ bytes gs. settle_s bytes (to_last_s lim.values bytes (push_s lim.values bytes) gs r.slots 1) (λ p. p)))
    pushes_by (ok []) h = absurd h
    pushes_by (ok (k ∷ ks)) h =
        push_agrees lim d r s k ks
        (record { at = length r.bytes; len = length r.bytes + length k - length r.bytes })
        (segs_of (length r.bytes + length k) (ends_of (length r.bytes + length k) ks)) (r.bytes ++ flat (k ∷ ks)) (spelling_of (k ∷ ks) r.bytes)
        (agree_bytes r.bytes (flat (k ∷ ks)) r.slots (table d.root)) (ap (λ (b : List ℕ). r.bytes ++ b) (flat_is (k ∷ ks)))
    pushes_by (bad n) h = refl

    -- the key after a value that was read
    key_by : (v : Value) (bs : List ℕ) (n : ℕ) (o : Out) → Value-laid (length r.bytes) m v bs n o → (ks : R (List (List ℕ))) → Reads NonEmpty ks
        → Line-agrees r.bytes (adding bs (ok_then_got ks (λ p. storing (concat p) (grow_map (λ t. record { root = t; under = d.under }) (under_header d.under (assign lim.values p v) d.root n)))))
        (path_by (r.bytes ++ o.bytes) ks (λ bytes gs. settle_s bytes (to_last_s lim.values bytes (hang_s m) gs (r.slots ++ o.slots) r.here) (λ _. r.here)))
    key_by v bs n o a (ok []) h = absurd h
    key_by v bs n o a (ok (k ∷ ks)) h =
        let b : List ℕ = (r.bytes ++ o.bytes) ++ flat (k ∷ ks) in
        let at : ℕ = length (r.bytes ++ o.bytes) in
        let one : Agree (r.bytes ++ o.bytes) r.slots (table d.root) = agree_bytes r.bytes o.bytes r.slots (table d.root) s.agree in
        let c : n ≡ length (r.slots ++ o.slots) = a.count ∙ sym (length-append r.slots o.slots) in
        rw c
        (set_agrees lim d r s v o.slots b (agree_bytes (r.bytes ++ o.bytes) (flat (k ∷ ks)) r.slots (table d.root) one)
        (λ q. to_bytes (r.bytes ++ o.bytes) (flat (k ∷ ks)) r.slots (table d.root) one q ∙ to_bytes r.bytes o.bytes r.slots (table d.root) s.agree q)
        (lain_more (r.bytes ++ o.bytes) (flat (k ∷ ks)) m o.slots v (a.lain r.bytes refl))
        k ks (record { at = at; len = at + length k - at }) (segs_of (at + length k) (ends_of (at + length k) ks)) (spelling_of (k ∷ ks) (r.bytes ++ o.bytes)) bs
        (append_assoc r.bytes o.bytes (flat (k ∷ ks)) ∙ ap (λ (z : List ℕ). r.bytes ++ (z ++ flat (k ∷ ks))) a.bytes ∙ ap (λ (z : List ℕ). r.bytes ++ (bs ++ z)) (flat_is (k ∷ ks))))
    key_by v bs n o a (bad i) h = refl

    value_by_lem : (k : List ℕ) (g : Got Value) (o : Out) → Value-agrees (length r.bytes) m g o
        → Line-agrees r.bytes
        (got_then g (λ v n. path lim k (λ p. grow_map (λ t. record { root = t; under = d.under }) (under_header d.under (assign lim.values p v) d.root n))))
        (assign_by lim o k r)
    value_by_lem k (got v bs n) o a = rw (eq-eqb o.fault 0 a.fault) (key_by v bs n o a (keys lim.segments k) (keys_ok lim.segments k))
    value_by_lem k (failed (numbered n)) o a = rw (ne_eqb o.fault 0 (λ z. a.1 (sym a.0 ∙ z))) (ap numbered (sym a.0))
    value_by_lem k (failed (unmet u)) o a = absurd a

    line_agrees : (f : Form) → Line-agrees r.bytes (read_form lim f d m) (line_s lim f r)
    unfolding read_form line_s assignment set_s
    line_agrees (pushes k) = pushes_by (keys lim.segments k) (keys_ok lim.segments k)
    line_agrees (heads k) = heads_by (keys lim.segments k)
    line_agrees (sets k v) =
        on (nil? (trim k)) (λ e. rw e refl)
        (λ e. rw e (value_by_lem (trim k) (value lim.values lim.arrays v m) (value_out lim.values lim.arrays 0 (length r.bytes) m v)
        (values lim.values lim.arrays (length r.bytes) m v)))
    line_agrees neither = refl

  -- ---- line by line

  after_agrees : (bytes bs : List ℕ) (a : Answer Parsed) (b : Answer DocS) → Doc-agrees (bytes ++ bs) a b → Doc-agrees bytes (stored_first bs a) b
  after_agrees bytes bs (accepted p) (accepted r) h = (h.0 ∙ append_assoc bytes bs p.bytes, h.1, h.2)
  after_agrees bytes bs (accepted p) (refused f s q) h = h
  after_agrees bytes bs (refused f s q) (accepted r) h = h
  after_agrees bytes bs (refused f s q) (refused f' s' q') h = h

  told_agrees : (bytes : List ℕ) (at : ℕ) (g : Got Doc) (r : R DocS) (ls : List Line) → Line-agrees bytes g r
      → ((d : Doc) (e : DocS) → Same d e → Doc-agrees e.bytes (read_lines lim d ls (length e.slots)) (lines_s lim ls e))
      → Doc-agrees bytes (line_then at g (λ e n. read_lines lim e ls n)) (told_at lim at r (lines_s lim ls))
  told_agrees bytes at (got d bs n) (ok r) ls h k =
      after_agrees bytes bs (read_lines lim d ls n) (lines_s lim ls r) (rw (h.1, ← h.0) (k d r h.2))
  told_agrees bytes at (got d bs n) (bad i) ls h k = absurd h
  told_agrees bytes at (failed f) (ok r) ls h k = absurd h
  told_agrees bytes at (failed f) (bad i) ls h k = (h, refl, refl)

  lines_agree : (ls : List Line) (d : Doc) (r : DocS) → Same d r → Doc-agrees r.bytes (read_lines lim d ls (length r.slots)) (lines_s lim ls r)
  lines_agree [] d r s = (sym (append-nil r.bytes), refl, s.agree)
  lines_agree (l ∷ ls) d r s =
      told_agrees r.bytes l.at (read_form lim (form (trim l.text)) d (length r.slots)) (line_s lim (form (trim l.text)) r) ls
      (line_agrees d r s (form (trim l.text))) (λ e t h. lines_agree ls e t h)

  -- nothing yet
  start_shown : (q : List Key) → Meets [] (log_of []) (to [] [] q) (find (some (table empty)) q)
  start_shown [] = (omega arith, refl)
  start_shown (j ∷ q) = rw (none_there q j) refl
    where
      none_there : (q : List Key) (j : Key) → find (some (table empty)) (j ∷ q) ≡ none
      none_there [] j = bare_table j
      none_there (i ∷ q) j = rw (none_there q i)

  start : Same (record { root = empty; under = tables [] }) (emptyS lim)
  start =
      record {
        agree = record { shown = start_shown; within = λ n. omega arith; low = λ n. omega arith };
        way_to = [];
        held = refl;
        tab = empty;
        found = refl;
        leads = refl;
      }

  whole_agrees : (a : Answer (List Line)) → Doc-agrees [] (accepted_then a (λ ls. read_lines lim (record { root = empty; under = tables [] }) ls 0)) (accepted_then a (λ ls. lines_s lim ls (emptyS lim)))
  whole_agrees (accepted ls) = lines_agree ls (record { root = empty; under = tables [] }) (emptyS lim) start
  whole_agrees (refused f s q) = (refl, refl, refl)

  -- the theorem
  pub documents_agree : (s : List ℕ) → Doc-agrees [] (document lim s) (document_s lim s)
  unfolding document document_s
  documents_agree s =
      on (ltb lim.text (length s)) (λ e. rw e (refl, refl, refl))
      (λ e. on (valid s) (λ v. rw (e, v) (whole_agrees (joined s))) (λ v. rw (e, v) (refl, refl, refl)))
