-- The tree room always has a place: no accepted text makes more values than the limit.
use Rattle.std.specs.Prelude.{ℕ, zero, suc, ◌-◌, ◌≤◌, eqb, ltb, leb, length, get_or, take, drop}
use mathlib.Core.List.{List, [], ◌∷◌}
use Rattle.std.proofs.Math.Option.{Option, none, some}
use Rattle.std.proofs.Common.{arith}
use borrow.Author.Tests.{leb-false}
use Rattle.meaning.specs.declared.Limits.{Limits}
use Rattle.meaning.specs.Base.{nil?, final, concat}
use Rattle.meaning.specs.Refusal.{R, ok, bad, Answer, accepted, refused, accepted_then}
use Rattle.meaning.specs.Reading.{Grown, grown, stuck, Got, got, failed, grow_then, grow_map, storing, adding, got_then, got_map, ok_then_got, grow_then_got, make}
use Rattle.meaning.specs.Tree.{Value, Items, Table, str, array, table, none', item, empty, Grow, lookup, insert, snoc, with_table, along_path, to_last_segment, must_exist, must_be_table, in_table, in_last_item, at_array, at_existing, at_last_item, put_value, table_or_new, or_make, open_tables, push_to, add_to, push_one, push, assign, as_table, as_array, read_as}
use Rattle.meaning.specs.Keys.{keys}
use Rattle.meaning.specs.Space.{trim}
use Rattle.meaning.specs.Values.{Reader, each, a_string, a_plain, one, an_array, brackets, value, string_of, plain, items_of}
use Rattle.meaning.specs.Lines.{Line, joined}
use Rattle.meaning.specs.Utf8.{valid}
use Rattle.meaning.specs.Document.{Doc, Under, tables, arrays, Form, pushes, heads, sets, neither, form, under_header, assignment, read_form, read_lines, document, Parsed, line_then, stored_first}
use Rattle.laws.specs.Cases.{on}
use Rattle.laws.specs.Fits.{Within}

module _ (limit : ℕ) where
  abbrev Grows : {X : Type 0} → Grown X → Type 0
  Grows (grown x m) = m ≤ limit
  Grows (stuck e) = Unit {0}

  abbrev Gets : {X : Type 0} → Got X → Type 0
  Gets (got x bs m) = m ≤ limit
  Gets (failed e) = Unit {0}

  make_to : {X : Type 0} (x : X) (m : ℕ) → Grows (make limit x m)
  unfolding make
  make_to x m = on (leb limit m) (λ e. rw e tt) (λ e. rw e (omega (arith, leb-false limit m e)))

  then_to : {X Y : Type 0} (a : Grown X) (f : X → ℕ → Grown Y) → Grows a → ((x : X) (m : ℕ) → m ≤ limit → Grows (f x m)) → Grows (grow_then a f)
  then_to (grown x m) f h k = k x m h
  then_to (stuck e) f h k = tt

  turn_to : {X Y : Type 0} (f : X → Y) (a : Grown X) → Grows a → Grows (grow_map f a)
  turn_to f (grown x m) h = h
  turn_to f (stuck e) h = tt

  storing_to : {X : Type 0} (bs : List ℕ) (a : Grown X) → Grows a → Gets (storing bs a)
  storing_to bs (grown x m) h = h
  storing_to bs (stuck e) h = tt

  change_to : {X Y : Type 0} (f : X → Y) (a : Got X) → Gets a → Gets (got_map f a)
  change_to f (got x bs m) h = h
  change_to f (failed e) h = tt

  adding_to : {X : Type 0} (bs : List ℕ) (a : Got X) → Gets a → Gets (adding bs a)
  adding_to bs (got x cs m) h = h
  adding_to bs (failed e) h = tt

  onward_to : {X Y : Type 0} (a : Got X) (f : X → ℕ → Got Y) → Gets a → ((x : X) (m : ℕ) → m ≤ limit → Gets (f x m)) → Gets (got_then a f)
  onward_to (got x bs m) f h k = adding_to bs (f x m) (k x m h)
  onward_to (failed e) f h k = tt

  grows_to : {X Y : Type 0} (a : Grown X) (f : X → ℕ → Got Y) → Grows a → ((x : X) (m : ℕ) → m ≤ limit → Gets (f x m)) → Gets (grow_then_got a f)
  grows_to (grown x m) f h k = k x m h
  grows_to (stuck e) f h k = tt

  having_to : {X Y : Type 0} (a : R X) (f : X → Got Y) → ((x : X) → Gets (f x)) → Gets (ok_then_got a f)
  having_to (ok x) f k = k x
  having_to (bad n) f k = tt

  -- a step that keeps to the limit
  abbrev Keeps : {X : Type 0} → Grow X → Type 0
  Keeps g = (m : ℕ) → m ≤ limit → Grows (g m)

  stands_to : (o : Option Table) → Keeps (must_be_table o)
  stands_to none m h = tt
  stands_to (some u) m h = h

  known_to : (o : Option Value) → Keeps (must_exist o)
  unfolding must_exist
  known_to none m h = tt
  known_to (some v) m h = stands_to (as_table v) m h

  or_make_to : (o : Option Table) → Keeps (or_make limit o)
  or_make_to none m h = make_to empty m
  or_make_to (some u) m h = h

  enter_to : (o : Option Value) → Keeps (table_or_new limit o)
  unfolding table_or_new
  enter_to o m h = or_make_to (read_as as_table o) m h

  add_to_to : (o : Option Items) → Keeps (add_to limit o)
  add_to_to none m h = tt
  add_to_to (some a) m h = make_to (snoc a (table empty)) m

  push_to_to : (o : Option Value) → Keeps (push_to limit o)
  unfolding push_to
  push_to_to none m h = then_to (make limit none' m) _ (make_to none' m) (λ a n _. make_to (snoc a (table empty)) n)
  push_to_to (some v) m h = add_to_to (as_array v) m h

  module _ (step : Option Value → Grow Table) (keeps : (o : Option Value) → Keeps (step o)) where
    down_to : (f : Table → Grow Table) → ((t : Table) → Keeps (f t)) → (p : List (List ℕ)) (t : Table) → Keeps (along_path step f p t)
    down_to f h [] t m l = h t m l
    down_to f h (k ∷ ks) t m l =
        then_to (step (lookup t k) m) _ (keeps (lookup t k) m l) (λ u n j. turn_to (with_table t k) (along_path step f ks u n) (down_to f h ks u n j))

    to_last_to : (f : List ℕ → Table → Grow Table) → ((k : List ℕ) (t : Table) → Keeps (f k t)) → (p : List (List ℕ)) (t : Table) → Keeps (to_last_segment step f p t)
    to_last_to f h [] t m l = tt
    to_last_to f h (k ∷ []) t m l = h k t m l
    to_last_to f h (k ∷ j ∷ ks) t m l =
        then_to (step (lookup t k) m) _ (keeps (lookup t k) m l) (λ u n i. turn_to (with_table t k) (to_last_segment step f (j ∷ ks) u n) (to_last_to f h (j ∷ ks) u n i))

  module _ (f : Table → Grow Table) (keeps : (t : Table) → Keeps (f t)) where
    within_to : (o : Option Table) → Keeps (in_table f o)
    within_to none m h = tt
    within_to (some t) m h = turn_to table (f t m) (keeps t m h)

    in_last_to : (a : Items) → Keeps (in_last_item f a)
    in_last_to none' m h = tt
    in_last_to (item v none') m h = turn_to (λ w. item w none') (in_table f (as_table v) m) (within_to (as_table v) m h)
    in_last_to (item v (item w is)) m h = turn_to (item v) (in_last_item f (item w is) m) (in_last_to (item w is) m h)

    at_array_to : (k : List ℕ) (t : Table) (o : Option Items) → Keeps (at_array f k t o)
    at_array_to k t none m h = tt
    at_array_to k t (some a) m h = turn_to (λ b. insert t k (array b)) (in_last_item f a m) (in_last_to a m h)

    at_key_to : (k : List ℕ) (t : Table) (o : Option Value) → Keeps (at_existing f k t o)
    at_key_to k t none m h = tt
    at_key_to k t (some v) m h = at_array_to k t (as_array v) m h

    here_to : (u : Under) (t : Table) → Keeps (under_header u f t)
    here_to (tables p) t m h = down_to must_exist known_to f keeps p t m h
    here_to (arrays p) t m h = to_last_to must_exist known_to (at_last_item f) (λ k u n l. at_key_to k u (lookup u k) n l) p t m h

  assign_to : (p : List (List ℕ)) (v : Value) (t : Table) → Keeps (assign limit p v t)
  assign_to p v t m h = to_last_to (table_or_new limit) enter_to (put_value v) (λ k u n l. l) p t m h

  push_to_lem : (p : List (List ℕ)) (t : Table) → Keeps (push limit p t)
  push_to_lem p t m h =
      to_last_to (table_or_new limit) enter_to (push_one limit) (λ k u n l. turn_to (λ a. insert u k (array a)) (push_to limit (lookup u k) n) (push_to_to (lookup u k) n l)) p t m h

  ensure_to : (p : List (List ℕ)) (t : Table) → Keeps (open_tables limit p t)
  ensure_to p t m h = down_to (table_or_new limit) enter_to grown (λ u n l. l) p t m h

  -- ---- values

  each_to : (f : List ℕ → Reader Value) → ((l : List ℕ) (m : ℕ) → m ≤ limit → Gets (f l m)) → (ls : List (List ℕ)) (m : ℕ) → m ≤ limit → Gets (each f ls m)
  each_to f h [] m l = l
  each_to f h (x ∷ ls) m l = onward_to (f x m) _ (h x m l) (λ v n j. change_to (item v) (each f ls n) (each_to f h ls n j))

  one_to : (b : List ℕ → Reader Value) → ((s : List ℕ) (m : ℕ) → m ≤ limit → Gets (b s m)) → (s : List ℕ) (m : ℕ) → m ≤ limit → Gets (one limit b s m)
  unfolding one a_string a_plain
  one_to b h s m l =
      on (eqb (get_or s 0 0) 34)
      (λ e. rw e (having_to (string_of (drop 1 s)) _ (λ d. storing_to d (make limit (str d) m) (make_to (str d) m))))
      (λ e. rw e (on (eqb (get_or s 0 0) 91) (λ g. rw g (h (drop 1 s) m l)) (λ g. rw g (having_to (plain s) _ (λ v. storing_to [] (make limit v m) (make_to v m))))))

  array_to : (v : List ℕ → Reader Value) → ((s : List ℕ) (m : ℕ) → m ≤ limit → Gets (v s m)) → (s : List ℕ) (m : ℕ) → Gets (an_array limit v s m)
  unfolding an_array
  array_to v h s m =
      on (eqb (final s) 93)
      (λ e. rw e (grows_to (make limit none' m) _ (make_to none' m)
      (λ _ n j. change_to array (each v (items_of (take (length s - 1) s)) n) (each_to v h (items_of (take (length s - 1) s)) n j))))
      (λ e. rw e tt)

  brackets_to : (d : ℕ) (s : List ℕ) (m : ℕ) → Gets (brackets limit d s m)
  brackets_to zero s m = tt
  brackets_to (suc d) s m = array_to (λ l. one limit (brackets limit d) (trim l)) (λ l n j. one_to (brackets limit d) (λ t k _. brackets_to d t k) (trim l) n j) s m

  value_to : (d : ℕ) (s : List ℕ) (m : ℕ) → m ≤ limit → Gets (value limit d s m)
  unfolding value
  value_to d s m l = one_to (brackets limit d) (λ t k _. brackets_to d t k) (trim s) m l

-- ---- lines

abbrev pub counted : Parsed → ℕ
counted r = r.made

module _ (lim : Limits) where
  act_to : (f : Form) (d : Doc) (m : ℕ) → m ≤ lim.values → Gets lim.values (read_form lim f d m)
  unfolding read_form assignment
  act_to (pushes k) d m h =
      having_to lim.values (keys lim.segments k) _
      (λ p. storing_to lim.values (concat p) (grow_map (λ t. record { root = t; under = arrays p }) (push lim.values p d.root m))
      (turn_to lim.values (λ t. record { root = t; under = arrays p }) (push lim.values p d.root m) (push_to_lem lim.values p d.root m h)))
  act_to (heads k) d m h =
      having_to lim.values (keys lim.segments k) _
      (λ p. storing_to lim.values (concat p) (grow_map (λ t. record { root = t; under = tables p }) (open_tables lim.values p d.root m))
      (turn_to lim.values (λ t. record { root = t; under = tables p }) (open_tables lim.values p d.root m) (ensure_to lim.values p d.root m h)))
  act_to (sets k v) d m h =
      on (nil? (trim k)) (λ e. rw e tt)
      (λ e. rw e (onward_to lim.values (value lim.values lim.arrays v m) _ (value_to lim.values lim.arrays v m h)
      (λ x n j. having_to lim.values (keys lim.segments (trim k)) _
      (λ p. storing_to lim.values (concat p) (grow_map (λ t. record { root = t; under = d.under }) (under_header d.under (assign lim.values p x) d.root n))
      (turn_to lim.values (λ t. record { root = t; under = d.under }) (under_header d.under (assign lim.values p x) d.root n)
      (here_to lim.values (assign lim.values p x) (λ t. assign_to lim.values p x t) d.under d.root n j))))))
  act_to neither d m h = tt

  after_to : (bs : List ℕ) (a : Answer Parsed) → Within counted lim.values a → Within counted lim.values (stored_first bs a)
  after_to bs (accepted r) h = h
  after_to bs (refused e s p) h = tt

  reading_to : (at : ℕ) (g : Got Doc) (f : Doc → ℕ → Answer Parsed) → Gets lim.values g → ((e : Doc) (m : ℕ) → m ≤ lim.values → Within counted lim.values (f e m))
      → Within counted lim.values (line_then at g f)
  reading_to at (got e bs m) f h s = after_to bs (f e m) (s e m h)
  reading_to at (failed e) f h s = tt

  lines_to : (d : Doc) (ls : List Line) (m : ℕ) → m ≤ lim.values → Within counted lim.values (read_lines lim d ls m)
  lines_to d [] m h = h
  lines_to d (l ∷ ls) m h =
      reading_to l.at (read_form lim (form (trim l.text)) d m) _ (act_to (form (trim l.text)) d m h) (λ e n j. lines_to e ls n j)

  lines_of : (a : Answer (List Line)) → Within counted lim.values (accepted_then a (λ ls. read_lines lim (record { root = empty; under = tables [] }) ls 0))
  lines_of (accepted ls) = lines_to (record { root = empty; under = tables [] }) ls 0 (omega arith)
  lines_of (refused e s p) = tt

  -- an accepted text makes at most as many values as the limit says
  pub at_most : (s : List ℕ) → Within counted lim.values (document lim s)
  unfolding document
  at_most s = on (ltb lim.text (length s)) (λ e. rw e tt) (λ e. rw e (on (valid s) (λ v. rw v (lines_of (joined s))) (λ v. rw v tt)))
