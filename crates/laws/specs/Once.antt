-- No table of a document has a key twice.
use Rattle.std.specs.Prelude.{ℕ, zero, suc, ◌-◌, ◌≡◌, refl, eqb, ltb, leb, ℤ, length, get_or, take, drop}
use mathlib.Core.List.{List, [], ◌∷◌}
use Rattle.std.proofs.Math.Option.{Option, none, some}
use Rattle.std.proofs.Common.{sym, ◌∙◌}
use Rattle.meaning.specs.declared.Limits.{Limits}
use Rattle.meaning.specs.Base.{same, ascii, nil?, final, concat}
use Rattle.meaning.specs.Refusal.{R, ok, bad, ok_then, Answer, accepted, refused, accepted_then}
use Rattle.meaning.specs.Reading.{Grown, grown, stuck, Got, got, failed, grow_then, grow_map, storing, adding, got_then, got_map, ok_then_got, grow_then_got, make}
use Rattle.meaning.specs.Tree.{Value, Items, Table, str, int, boolean, array, table, none', item, empty, entry, Grow, lookup, insert, snoc, with_table, along_path, to_last_segment, must_exist, must_be_table, in_table, in_last_item, at_array, at_existing, at_last_item, put_value, table_or_new, or_make, open_tables, push_to, add_to, push_one, push, assign, as_table, as_array, read_as}
use Rattle.meaning.specs.Integers.{integer}
use Rattle.meaning.specs.Keys.{keys}
use Rattle.meaning.specs.Space.{trim}
use Rattle.meaning.specs.Values.{Reader, each, a_string, a_plain, one, an_array, brackets, value, string_of, plain, items_of}
use Rattle.meaning.specs.Lines.{Line, joined}
use Rattle.meaning.specs.Utf8.{valid}
use Rattle.meaning.specs.Document.{Doc, Under, tables, arrays, Form, pushes, heads, sets, neither, form, under_header, assignment, read_form, read_lines, document, Parsed, line_then, stored_first}
use Rattle.laws.specs.Cases.{on, picked, never}
use Rattle.laws.specs.Order.{Distinct, eq_same, lookup_other}

-- in a value, and in all that stands under it, no table has a key twice
abbrev mutual
  pub Once : Value → Type 0
  Once (str s) = Unit {0}
  Once (int i) = Unit {0}
  Once (boolean b) = Unit {0}
  Once (array is) = OnceAll is
  Once (table t) = OnceIn t

  pub OnceAll : Items → Type 0
  OnceAll none' = Unit {0}
  OnceAll (item v is) = Once v × OnceAll is

  pub OnceIn : Table → Type 0
  OnceIn empty = Unit {0}
  OnceIn (entry k v t) = (lookup t k ≡ none) × Once v × OnceIn t

pub once_distinct : (t : Table) → OnceIn t → Distinct t
once_distinct empty h = tt
once_distinct (entry k v t) h = (h.0, once_distinct t h.2)

-- what holds of a result, if there is one
abbrev pub Maybe : {X : Type 0} → (X → Type 0) → Option X → Type 0
Maybe P none = Unit {0}
Maybe P (some x) = P x

abbrev Grew : {X : Type 0} → (X → Type 0) → Grown X → Type 0
Grew P (grown x m) = P x
Grew P (stuck e) = Unit {0}

abbrev Gave : {X : Type 0} → (X → Type 0) → Got X → Type 0
Gave P (got x bs m) = P x
Gave P (failed e) = Unit {0}

abbrev Read : {X : Type 0} → (X → Type 0) → R X → Type 0
Read P (ok x) = P x
Read P (bad n) = Unit {0}

-- ---- the steps

module _ {X Y : Type 0} (P : X → Type 0) (Q : Y → Type 0) where
  then_once : (a : Grown X) (f : X → ℕ → Grown Y) → Grew P a → ((x : X) (m : ℕ) → P x → Grew Q (f x m)) → Grew Q (grow_then a f)
  then_once (grown x m) f h k = k x m h
  then_once (stuck e) f h k = tt

  turn_once : (f : X → Y) (a : Grown X) → Grew P a → ((x : X) → P x → Q (f x)) → Grew Q (grow_map f a)
  turn_once f (grown x m) h k = k x h
  turn_once f (stuck e) h k = tt

  kept_once : (f : X → Y) (bs : List ℕ) (a : Grown X) → Grew P a → ((x : X) → P x → Q (f x)) → Gave Q (storing bs (grow_map f a))
  kept_once f bs (grown x m) h k = k x h
  kept_once f bs (stuck e) h k = tt

  having_once : (a : R X) (f : X → Got Y) → Read P a → ((x : X) → P x → Gave Q (f x)) → Gave Q (ok_then_got a f)
  having_once (ok x) f h k = k x h
  having_once (bad n) f h k = tt

  onward_once : (a : Got X) (f : X → ℕ → Got Y) → Gave P a → ((x : X) (m : ℕ) → P x → Gave Q (f x m)) → Gave Q (got_then a f)
  onward_once (got x bs m) f h k = added (f x m) (k x m h)
    where
      added : (b : Got Y) → Gave Q b → Gave Q (adding bs b)
      added (got y cs n) g = g
      added (failed e) g = tt
  onward_once (failed e) f h k = tt

  change_once : (f : X → Y) (a : Got X) → Gave P a → ((x : X) → P x → Q (f x)) → Gave Q (got_map f a)
  change_once f (got x bs m) h k = k x h
  change_once f (failed e) h k = tt

  grows_once : (a : Grown X) (f : X → ℕ → Got Y) → Grew P a → ((x : X) (m : ℕ) → P x → Gave Q (f x m)) → Gave Q (grow_then_got a f)
  grows_once (grown x m) f h k = k x m h
  grows_once (stuck e) f h k = tt

module _ {X : Type 0} (P : X → Type 0) where
  make_once : (limit m : ℕ) (x : X) → P x → Grew P (make limit x m)
  unfolding make
  make_once limit m x h = picked (Grew P) (leb limit m) (λ _. tt) (λ _. h)

  made_once : (limit m : ℕ) (bs : List ℕ) (x : X) → P x → Gave P (storing bs (make limit x m))
  made_once limit m bs x h = stored_once (make limit x m) (make_once limit m x h)
    where
      stored_once : (a : Grown X) → Grew P a → Gave P (storing bs a)
      stored_once (grown y n) g = g
      stored_once (stuck e) g = tt

abbrev Any : {X : Type 0} → X → Type 0
Any x = Unit {0}

any_read : {X : Type 0} (a : R X) → Read Any a
any_read (ok x) = tt
any_read (bad n) = tt

-- ---- the tree

pub lookup_once : (t : Table) (k : List ℕ) → OnceIn t → Maybe Once (lookup t k)
lookup_once empty k h = tt
lookup_once (entry j v t) k h = picked (Maybe Once) (same j k) (λ _. h.1) (λ _. lookup_once t k h.2)

insert_once : (t : Table) (k : List ℕ) (v : Value) → Once v → OnceIn t → OnceIn (insert t k v)
insert_once empty k v o h = (refl, o, tt)
insert_once (entry j w t) k v o h =
    on (same j k) (λ e. rw e (h.0, o, h.2))
    (λ e. rw e (lookup_other t k j v (λ d. never (eq_same j k (sym d)) e) ∙ h.0, h.1, insert_once t k v o h.2))

snoc_once : (a : Items) (v : Value) → Once v → OnceAll a → OnceAll (snoc a v)
snoc_once none' v o h = (o, tt)
snoc_once (item w is) v o h = (h.0, snoc_once is v o h.1)

table_once : (v : Value) → Once v → Maybe OnceIn (as_table v)
table_once (str s) h = tt
table_once (int i) h = tt
table_once (boolean b) h = tt
table_once (array is) h = tt
table_once (table t) h = h

array_once : (v : Value) → Once v → Maybe OnceAll (as_array v)
array_once (str s) h = tt
array_once (int i) h = tt
array_once (boolean b) h = tt
array_once (array is) h = h
array_once (table t) h = tt

seen_once : {X : Type 0} (P : X → Type 0) (f : Value → Option X) → ((v : Value) → Once v → Maybe P (f v)) → (o : Option Value) → Maybe Once o → Maybe P (read_as f o)
seen_once P f k none h = tt
seen_once P f k (some v) h = k v h

-- a step from what stands there to a table
abbrev Steps : (Option Value → Grow Table) → Type 0
Steps step = (o : Option Value) (m : ℕ) → Maybe Once o → Grew OnceIn (step o m)

known_once : Steps must_exist
unfolding must_exist
known_once none m h = tt
known_once (some v) m h = go (as_table v) (table_once v h)
  where
    go : (q : Option Table) → Maybe OnceIn q → Grew OnceIn (must_be_table q m)
    go none g = tt
    go (some u) g = g

enter_once : (limit : ℕ) → Steps (table_or_new limit)
unfolding table_or_new
enter_once limit o m h = go (read_as as_table o) (seen_once OnceIn as_table table_once o h)
  where
    go : (q : Option Table) → Maybe OnceIn q → Grew OnceIn (or_make limit q m)
    go none g = make_once OnceIn limit m empty tt
    go (some u) g = g

push_to_once : (limit m : ℕ) (o : Option Value) → Maybe Once o → Grew OnceAll (push_to limit o m)
unfolding push_to
push_to_once limit m none h =
    then_once OnceAll OnceAll (make limit none' m) _ (make_once OnceAll limit m none' tt) (λ a n g. make_once OnceAll limit n (snoc a (table empty)) (snoc_once a (table empty) tt g))
push_to_once limit m (some v) h = go (as_array v) (array_once v h)
  where
    go : (q : Option Items) → Maybe OnceAll q → Grew OnceAll (add_to limit q m)
    go none g = tt
    go (some a) g = make_once OnceAll limit m (snoc a (table empty)) (snoc_once a (table empty) tt g)

-- a step on a table
abbrev Keeps : (Table → Grow Table) → Type 0
Keeps f = (t : Table) (m : ℕ) → OnceIn t → Grew OnceIn (f t m)

module _ (step : Option Value → Grow Table) (steps : Steps step) where
  down_once : (f : Table → Grow Table) → Keeps f → (p : List (List ℕ)) → Keeps (along_path step f p)
  down_once f k [] t m h = k t m h
  down_once f k (j ∷ js) t m h =
      then_once OnceIn OnceIn (step (lookup t j) m) _ (steps (lookup t j) m (lookup_once t j h))
      (λ u n g. turn_once OnceIn OnceIn (with_table t j) (along_path step f js u n) (down_once f k js u n g) (λ w o. insert_once t j (table w) o h))

  last_once : (f : List ℕ → Table → Grow Table) → ((k : List ℕ) → Keeps (f k)) → (p : List (List ℕ)) → Keeps (to_last_segment step f p)
  last_once f k [] t m h = tt
  last_once f k (j ∷ []) t m h = k j t m h
  last_once f k (j ∷ i ∷ js) t m h =
      then_once OnceIn OnceIn (step (lookup t j) m) _ (steps (lookup t j) m (lookup_once t j h))
      (λ u n g. turn_once OnceIn OnceIn (with_table t j) (to_last_segment step f (i ∷ js) u n) (last_once f k (i ∷ js) u n g) (λ w o. insert_once t j (table w) o h))

module _ (f : Table → Grow Table) (k : Keeps f) where
  within_once : (o : Option Table) (m : ℕ) → Maybe OnceIn o → Grew Once (in_table f o m)
  within_once none m h = tt
  within_once (some t) m h = turn_once OnceIn Once table (f t m) (k t m h) (λ u g. g)

  in_last_once : (a : Items) (m : ℕ) → OnceAll a → Grew OnceAll (in_last_item f a m)
  in_last_once none' m h = tt
  in_last_once (item v none') m h = turn_once Once OnceAll (λ w. item w none') (in_table f (as_table v) m) (within_once (as_table v) m (table_once v h.0)) (λ w g. (g, tt))
  in_last_once (item v (item w is)) m h = turn_once OnceAll OnceAll (item v) (in_last_item f (item w is) m) (in_last_once (item w is) m h.1) (λ js g. (h.0, g))

  under_last_once : (j : List ℕ) → Keeps (at_last_item f j)
  under_last_once j t m h = at_key (lookup t j) (lookup_once t j h)
    where
      go : (o : Option Items) → Maybe OnceAll o → Grew OnceIn (at_array f j t o m)
      go none g = tt
      go (some a) g = turn_once OnceAll OnceIn (λ b. insert t j (array b)) (in_last_item f a m) (in_last_once a m g) (λ b o. insert_once t j (array b) o h)

      at_key : (o : Option Value) → Maybe Once o → Grew OnceIn (at_existing f j t o m)
      at_key none g = tt
      at_key (some v) g = go (as_array v) (array_once v g)

  here_once : (u : Under) → Keeps (under_header u f)
  here_once (tables p) t m h = down_once must_exist known_once f k p t m h
  here_once (arrays p) t m h = last_once must_exist known_once (at_last_item f) under_last_once p t m h

module _ (limit : ℕ) where
  assign_once : (p : List (List ℕ)) (v : Value) → Once v → Keeps (assign limit p v)
  assign_once p v o t m h = last_once (table_or_new limit) (enter_once limit) (put_value v) (λ j u n g. insert_once u j v o g) p t m h

  push_once : (p : List (List ℕ)) → Keeps (push limit p)
  push_once p t m h =
      last_once (table_or_new limit) (enter_once limit) (push_one limit)
      (λ j u n g. turn_once OnceAll OnceIn (λ a. insert u j (array a)) (push_to limit (lookup u j) n) (push_to_once limit n (lookup u j) (lookup_once u j g)) (λ a o. insert_once u j (array a) o g))
      p t m h

  ensure_once : (p : List (List ℕ)) → Keeps (open_tables limit p)
  ensure_once p t m h = down_once (table_or_new limit) (enter_once limit) grown (λ u n g. g) p t m h

  -- ---- values

  abbrev Reads : (List ℕ → Reader Value) → Type 0
  Reads f = (s : List ℕ) (m : ℕ) → Gave Once (f s m)

  each_once : (f : List ℕ → Reader Value) → Reads f → (ls : List (List ℕ)) (m : ℕ) → Gave OnceAll (each f ls m)
  each_once f h [] m = tt
  each_once f h (l ∷ ls) m = onward_once Once OnceAll (f l m) _ (h l m) (λ v n g. change_once OnceAll OnceAll (item v) (each f ls n) (each_once f h ls n) (λ is o. (g, o)))

  plain_once : (s : List ℕ) → Read Once (plain s)
  unfolding plain
  plain_once s = picked (Read Once) (same s (ascii "true")) (λ _. tt) (λ _. picked (Read Once) (same s (ascii "false")) (λ _. tt) (λ _. go (integer s)))
    where
      go : (r : R ℤ) → Read Once (ok_then r (λ i. ok (int i)))
      go (ok i) = tt
      go (bad n) = tt

  one_once : (b : List ℕ → Reader Value) → Reads b → Reads (one limit b)
  unfolding one a_string a_plain
  one_once b h s m =
      picked (Gave Once) (eqb (get_or s 0 0) 34)
      (λ _. having_once Any Once (string_of (drop 1 s)) _ (any_read (string_of (drop 1 s))) (λ d _. made_once Once limit m d (str d) tt))
      (λ _. picked (Gave Once) (eqb (get_or s 0 0) 91) (λ _. h (drop 1 s) m) (λ _. having_once Once Once (plain s) _ (plain_once s) (λ v g. made_once Once limit m [] v g)))

  items_once : (v : List ℕ → Reader Value) → Reads v → Reads (an_array limit v)
  unfolding an_array
  items_once v h s m =
      picked (Gave Once) (eqb (final s) 93)
      (λ _. grows_once Any Once (make limit none' m) _ (make_once Any limit m none' tt)
      (λ _ n _. change_once OnceAll Once array (each v (items_of (take (length s - 1) s)) n) (each_once v h (items_of (take (length s - 1) s)) n) (λ is g. g)))
      (λ _. tt)

  brackets_once : (d : ℕ) → Reads (brackets limit d)
  brackets_once zero s m = tt
  brackets_once (suc d) s m = items_once (λ l. one limit (brackets limit d) (trim l)) (λ l n. one_once (brackets limit d) (brackets_once d) (trim l) n) s m

  value_once : (d : ℕ) → Reads (value limit d)
  unfolding value
  value_once d s m = one_once (brackets limit d) (brackets_once d) (trim s) m

-- ---- lines

abbrev Sound : Doc → Type 0
Sound d = OnceIn d.root

abbrev pub Rooted : Answer Parsed → Type 0
Rooted (accepted r) = OnceIn r.root
Rooted (refused f s p) = Unit {0}

module _ (lim : Limits) where
  act_once : (f : Form) (d : Doc) (m : ℕ) → Sound d → Gave Sound (read_form lim f d m)
  unfolding read_form assignment
  act_once (pushes k) d m h =
      having_once Any Sound (keys lim.segments k) _ (any_read (keys lim.segments k))
      (λ p _. kept_once OnceIn Sound (λ t. record { root = t; under = arrays p }) (concat p) (push lim.values p d.root m) (push_once lim.values p d.root m h) (λ t g. g))
  act_once (heads k) d m h =
      having_once Any Sound (keys lim.segments k) _ (any_read (keys lim.segments k))
      (λ p _. kept_once OnceIn Sound (λ t. record { root = t; under = tables p }) (concat p) (open_tables lim.values p d.root m) (ensure_once lim.values p d.root m h) (λ t g. g))
  act_once (sets k v) d m h =
      picked (Gave Sound) (nil? (trim k)) (λ _. tt)
      (λ _. onward_once Once Sound (value lim.values lim.arrays v m) _ (value_once lim.values lim.arrays v m)
      (λ x n o. having_once Any Sound (keys lim.segments (trim k)) _ (any_read (keys lim.segments (trim k)))
      (λ p _. kept_once OnceIn Sound (λ t. record { root = t; under = d.under }) (concat p) (under_header d.under (assign lim.values p x) d.root n)
      (here_once (assign lim.values p x) (assign_once lim.values p x o) d.under d.root n h) (λ t g. g))))
  act_once neither d m h = tt

  after_once : (bs : List ℕ) (a : Answer Parsed) → Rooted a → Rooted (stored_first bs a)
  after_once bs (accepted r) h = h
  after_once bs (refused e s p) h = tt

  reading_once : (at : ℕ) (g : Got Doc) (k : Doc → ℕ → Answer Parsed) → Gave Sound g → ((e : Doc) (n : ℕ) → Sound e → Rooted (k e n)) → Rooted (line_then at g k)
  reading_once at (got e bs n) k s h = after_once bs (k e n) (h e n s)
  reading_once at (failed f) k s h = tt

  lines_once : (ls : List Line) (d : Doc) (m : ℕ) → Sound d → Rooted (read_lines lim d ls m)
  lines_once [] d m h = h
  lines_once (l ∷ ls) d m h =
      reading_once l.at (read_form lim (form (trim l.text)) d m) _ (act_once (form (trim l.text)) d m h) (λ e n s. lines_once ls e n s)

  joined_once : (a : Answer (List Line)) → Rooted (accepted_then a (λ ls. read_lines lim (record { root = empty; under = tables [] }) ls 0))
  joined_once (accepted ls) = lines_once ls (record { root = empty; under = tables [] }) 0 tt
  joined_once (refused e s p) = tt

  -- in the tree of an accepted text no table has a key twice
  pub once : (s : List ℕ) → Rooted (document lim s)
  unfolding document
  once s = picked Rooted (ltb lim.text (length s)) (λ _. tt) (λ _. picked Rooted (valid s) (λ _. joined_once (joined s)) (λ _. tt))
