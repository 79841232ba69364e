-- A tree weighs no more than the store: its keys and strings were all stored, and what was replaced only made it lighter.
use Rattle.std.specs.Prelude.{ℕ, zero, suc, ◌+◌, ◌-◌, ◌≤◌, List, [], ◌∷◌, ◌≡◌, refl, eqb, ltb, leb, ℤ, get_or, take, drop}
use Rattle.std.proofs.Math.Option.{Option, none, some}
use native.Mathlib.Omega.{arith}
use Rattle.std.proofs.Math.ListN.{length}
use Rattle.std.proofs.Common.{length-append}
use Rattle.meaning.specs.declared.Limits.{Limits}
use Rattle.meaning.specs.Base.{same, ascii, nil?, final, concat}
use Rattle.meaning.specs.Refusal.{R, ok, bad, ok_then, Answer, accepted, refused, accepted_then}
use Rattle.meaning.specs.Reading.{Grown, grown, stuck, Got, got, failed, grow_then, grow_map, storing, adding, got_then, got_map, ok_then_got, grow_then_got, make}
use Rattle.meaning.specs.Tree.{Value, Items, Table, str, int, boolean, array, table, none', item, empty, entry, Grow, lookup, insert, snoc, with_table, along_path, to_last_segment, must_exist, must_be_table, in_table, in_last_item, at_array, at_existing, at_last_item, put_value, table_or_new, or_make, open_tables, push_to, add_to, push_one, push, assign, as_string, as_table, as_array}
use Rattle.meaning.specs.Integers.{integer}
use Rattle.meaning.specs.Keys.{keys}
use Rattle.meaning.specs.Space.{trim}
use Rattle.meaning.specs.Values.{Reader, each, a_string, a_plain, one, an_array, brackets, value, string_of, plain, items_of}
use Rattle.meaning.specs.Lines.{Line, joined}
use Rattle.meaning.specs.Utf8.{valid}
use Rattle.meaning.specs.Document.{Doc, Under, tables, arrays, Form, pushes, heads, sets, neither, form, under_header, assignment, read_form, read_lines, document, Parsed, line_then, stored_first}
use Rattle.laws.specs.Cases.{on, picked}

-- the bytes of all keys and strings of a value, of items, of a table
abbrev mutual
  pub weight : Value → ℕ
  weight (str s) = length s
  weight (int i) = 0
  weight (boolean b) = 0
  weight (array is) = weight_all is
  weight (table t) = weight_in t

  pub weight_all : Items → ℕ
  weight_all none' = 0
  weight_all (item v is) = weight v + weight_all is

  pub weight_in : Table → ℕ
  weight_in empty = 0
  weight_in (entry k v t) = length k + (weight v + weight_in t)

-- what f says of what is there; 0 where there is nothing
abbrev pub size : {X : Type 0} → (X → ℕ) → Option X → ℕ
size f none = 0
size f (some x) = f x

-- ---- results whose measure is bounded

-- P holds of what is grown
abbrev Grew : {X : Type 0} → (X → Type 0) → Grown X → Type 0
Grew P (grown x m) = P x
Grew P (stuck e) = Unit {0}

-- the measure f of what is read is at most n and the bytes added
abbrev Paid : {X : Type 0} → (X → ℕ) → ℕ → Got X → Type 0
Paid f n (got x bs m) = f x ≤ n + length bs
Paid f n (failed e) = Unit {0}

module _ {X : Type 0} (P : X → Type 0) where
  then_grew : {Y : Type 0} (Q : Y → Type 0) (a : Grown X) (k : X → ℕ → Grown Y) → Grew P a → ((x : X) (m : ℕ) → P x → Grew Q (k x m)) → Grew Q (grow_then a k)
  then_grew Q (grown x m) k h g = g x m h
  then_grew Q (stuck e) k h g = tt

  turn_grew : {Y : Type 0} (Q : Y → Type 0) (f : X → Y) (a : Grown X) → Grew P a → ((x : X) → P x → Q (f x)) → Grew Q (grow_map f a)
  turn_grew Q f (grown x m) h g = g x h
  turn_grew Q f (stuck e) h g = tt

  make_grew : (limit m : ℕ) (x : X) → P x → Grew P (make limit x m)
  unfolding make
  make_grew limit m x h = picked (Grew P) (leb limit m) (λ _. tt) (λ _. h)

module _ {X : Type 0} (f : X → ℕ) (n : ℕ) where
  stored_paid : (bs : List ℕ) (a : Grown X) → Grew (λ x. f x ≤ n + length bs) a → Paid f n (storing bs a)
  stored_paid bs (grown x m) h = h
  stored_paid bs (stuck e) h = tt

  added_paid : (k : ℕ) (bs : List ℕ) (a : Got X) → k ≤ n + length bs → Paid f k a → Paid f n (adding bs a)
  added_paid k bs (got x cs m) h g = omega (arith, length-append bs cs)
  added_paid k bs (failed e) h g = tt

module _ {X Y : Type 0} (f : X → ℕ) (g : Y → ℕ) (n : ℕ) where
  onward_paid : (a : Got X) (k : X → ℕ → Got Y) → Paid f n a → ((x : X) (m : ℕ) → Paid g (f x) (k x m)) → Paid g n (got_then a k)
  onward_paid (got x bs m) k h p = added_paid g n (f x) bs (k x m) h (p x m)
  onward_paid (failed e) k h p = tt

  change_paid : (h : X → Y) (a : Got X) → Paid f n a → ((x : X) → g (h x) ≤ f x) → Paid g n (got_map h a)
  change_paid h (got x bs m) p l = omega (arith, l x)
  change_paid h (failed e) p l = tt

module _ {X Y : Type 0} (g : Y → ℕ) (n : ℕ) where
  having_paid : (a : R X) (k : X → Got Y) → ((x : X) → Paid g n (k x)) → Paid g n (ok_then_got a k)
  having_paid (ok x) k p = p x
  having_paid (bad e) k p = tt

  grows_paid : (a : Grown X) (k : X → ℕ → Got Y) → ((x : X) (m : ℕ) → Paid g n (k x m)) → Paid g n (grow_then_got a k)
  grows_paid (grown x m) k p = p x m
  grows_paid (stuck e) k p = tt

-- ---- the tree

-- what a new key costs
abbrev fee : Option Value → ℕ → ℕ
fee none n = n
fee (some v) n = 0

fee_most : (o : Option Value) (n : ℕ) → fee o n ≤ n
fee_most none n = omega arith
fee_most (some v) n = omega arith

-- what stood under the key goes, and a key that was there costs nothing
insert_weighs : (t : Table) (k : List ℕ) (v : Value) → weight_in (insert t k v) + size weight (lookup t k) ≤ weight_in t + fee (lookup t k) (length k) + weight v
insert_weighs empty k v = omega arith
insert_weighs (entry j w t) k v = on (same j k) (λ e. rw e (omega arith)) (λ e. rw e (omega (arith, insert_weighs t k v)))

snoc_weighs : (is : Items) (v : Value) → weight_all (snoc is v) ≤ weight_all is + weight v
snoc_weighs none' v = omega arith
snoc_weighs (item w is) v = omega (arith, snoc_weighs is v)

-- a string, a table or an array that a value is weighs no more than the value
pub string_weighs : (v : Value) → size length (as_string v) ≤ weight v
string_weighs (str s) = omega arith
string_weighs (int i) = omega arith
string_weighs (boolean b) = omega arith
string_weighs (array is) = omega arith
string_weighs (table t) = omega arith

pub table_weighs : (v : Value) → size weight_in (as_table v) ≤ weight v
table_weighs (str s) = omega arith
table_weighs (int i) = omega arith
table_weighs (boolean b) = omega arith
table_weighs (array is) = omega arith
table_weighs (table t) = omega arith

pub array_weighs : (v : Value) → size weight_all (as_array v) ≤ weight v
array_weighs (str s) = omega arith
array_weighs (int i) = omega arith
array_weighs (boolean b) = omega arith
array_weighs (array is) = omega arith
array_weighs (table t) = omega arith

-- a step on a table that adds at most n
abbrev Adds : ℕ → (Table → Grow Table) → Type 0
Adds n f = (t : Table) (m : ℕ) → Grew (λ u. weight_in u ≤ weight_in t + n) (f t m)

-- what it adds at the end of a path, with the prices of the segments
abbrev along : (List ℕ → ℕ) → ℕ → List (List ℕ) → ℕ
along price n [] = n
along price n (k ∷ ks) = price k + along price n ks

along_stored : (n : ℕ) (p : List (List ℕ)) → along length n p ≡ n + length (concat p)
along_stored n [] = omega arith
along_stored n (k ∷ ks) = omega (arith, along_stored n ks, length-append k (concat ks))

along_free : (n : ℕ) (p : List (List ℕ)) → along (λ k. 0) n p ≡ n
along_free n [] = refl
along_free n (k ∷ ks) = omega (arith, along_free n ks)

-- a step from t to the table u under k, for whose new state w the segment's price is enough
abbrev Goes : (List ℕ → ℕ) → Table → List ℕ → Table → Type 0
Goes price t k u = (w : Table) → weight_in (with_table t k w) + weight_in u ≤ weight_in t + price k + weight_in w

module _ (price : List ℕ → ℕ) (step : Option Value → Grow Table) (goes : (t : Table) (k : List ℕ) (m : ℕ) → Grew (Goes price t k) (step (lookup t k) m)) where
  deeper : (n : ℕ) (f : Table → Grow Table) (k : List ℕ) → Adds n f → Adds (price k + n) (λ t m. grow_then (step (lookup t k) m) (λ u i. grow_map (with_table t k) (f u i)))
  deeper n f k h t m =
      then_grew (Goes price t k) (λ u. weight_in u ≤ weight_in t + (price k + n)) (step (lookup t k) m) _ (goes t k m)
      (λ u i g. turn_grew (λ w. weight_in w ≤ weight_in u + n) (λ w. weight_in w ≤ weight_in t + (price k + n)) (with_table t k) (f u i) (h u i) (λ w l. omega (arith, g w)))

  down_adds : (n : ℕ) (f : Table → Grow Table) → Adds n f → (p : List (List ℕ)) → Adds (along price n p) (along_path step f p)
  down_adds n f h [] t m = h t m
  down_adds n f h (k ∷ ks) t m = deeper (along price n ks) (along_path step f ks) k (down_adds n f h ks) t m

  last_adds : (n : ℕ) (f : List ℕ → Table → Grow Table) → ((k : List ℕ) → Adds (price k + n) (f k)) → (p : List (List ℕ)) → Adds (along price n p) (to_last_segment step f p)
  last_adds n f h [] t m = tt
  last_adds n f h (k ∷ []) t m = h k t m
  last_adds n f h (k ∷ j ∷ ks) t m = deeper (along price n (j ∷ ks)) (to_last_segment step f (j ∷ ks)) k (last_adds n f h (j ∷ ks)) t m

-- a header's path is there, and costs nothing
known_goes : (t : Table) (k : List ℕ) (m : ℕ) → Grew (Goes (λ j. 0) t k) (must_exist (lookup t k) m)
unfolding must_exist
known_goes t k m = go (lookup t k) (λ w. insert_weighs t k (table w))
  where
    there : (q : Option Table) (n : ℕ) → size weight_in q ≤ n → ((w : Table) → weight_in (with_table t k w) + n ≤ weight_in t + 0 + weight_in w) → Grew (Goes (λ j. 0) t k) (must_be_table q m)
    there none n l h = tt
    there (some u) n l h = λ w. omega (arith, h w)

    go : (o : Option Value) → ((w : Table) → weight_in (with_table t k w) + size weight o ≤ weight_in t + fee o (length k) + weight_in w) → Grew (Goes (λ j. 0) t k) (must_exist o m)
    go none h = tt
    go (some v) h = there (as_table v) (weight v) (table_weighs v) h

module _ (limit : ℕ) where
  enter_goes : (t : Table) (k : List ℕ) (m : ℕ) → Grew (Goes length t k) (table_or_new limit (lookup t k) m)
  unfolding table_or_new
  enter_goes t k m = go (lookup t k) (λ w. omega (arith, insert_weighs t k (table w), fee_most (lookup t k) (length k)))
    where
      there : (q : Option Table) (n : ℕ) → size weight_in q ≤ n → ((w : Table) → weight_in (with_table t k w) + n ≤ weight_in t + length k + weight_in w) → Grew (Goes length t k) (or_make limit q m)
      there none n l h = make_grew (Goes length t k) limit m empty (λ w. omega (arith, h w))
      there (some u) n l h = λ w. omega (arith, h w)

      go : (o : Option Value) → ((w : Table) → weight_in (with_table t k w) + size weight o ≤ weight_in t + length k + weight_in w) → Grew (Goes length t k) (table_or_new limit o m)
      go none h = there none 0 (omega arith) h
      go (some v) h = there (as_table v) (weight v) (table_weighs v) h

  -- a new table in an array weighs nothing
  push_to_weighs : (m : ℕ) (o : Option Value) → Grew (λ is. weight_all is ≤ size weight o) (push_to limit o m)
  unfolding push_to
  push_to_weighs m none =
      then_grew (λ is. weight_all is ≤ 0) (λ is. weight_all is ≤ 0) (make limit none' m) _ (make_grew (λ is. weight_all is ≤ 0) limit m none' (omega arith))
      (λ is i h. make_grew (λ js. weight_all js ≤ 0) limit i (snoc is (table empty)) (omega (arith, snoc_weighs is (table empty))))
  push_to_weighs m (some v) = go (as_array v) (array_weighs v)
    where
      go : (q : Option Items) → size weight_all q ≤ weight v → Grew (λ is. weight_all is ≤ weight v) (add_to limit q m)
      go none h = tt
      go (some is) h = make_grew (λ js. weight_all js ≤ weight v) limit m (snoc is (table empty)) (omega (arith, snoc_weighs is (table empty)))

  push_adds : (p : List (List ℕ)) → Adds (along length 0 p) (push limit p)
  push_adds p t m = last_adds length (table_or_new limit) enter_goes 0 (push_one limit) one_more p t m
    where
      one_more : (k : List ℕ) → Adds (length k + 0) (push_one limit k)
      one_more k u i =
          turn_grew (λ is. weight_all is ≤ size weight (lookup u k)) (λ w. weight_in w ≤ weight_in u + (length k + 0)) (λ is. insert u k (array is)) (push_to limit (lookup u k) i)
          (push_to_weighs i (lookup u k)) (λ is l. omega (arith, insert_weighs u k (array is), fee_most (lookup u k) (length k)))

  ensure_adds : (p : List (List ℕ)) → Adds (along length 0 p) (open_tables limit p)
  ensure_adds p t m = down_adds length (table_or_new limit) enter_goes 0 grown (λ u i. omega arith) p t m

  assign_adds : (p : List (List ℕ)) (v : Value) → Adds (along length (weight v) p) (assign limit p v)
  assign_adds p v t m =
      last_adds length (table_or_new limit) enter_goes (weight v) (put_value v) (λ k u i. omega (arith, insert_weighs u k v, fee_most (lookup u k) (length k))) p t m

-- ---- where assignments go

module _ (n : ℕ) (f : Table → Grow Table) (adds : Adds n f) where
  in_last_adds : (is : Items) (m : ℕ) → Grew (λ js. weight_all js ≤ weight_all is + n) (in_last_item f is m)
  in_last_adds none' m = tt
  in_last_adds (item v none') m = go (as_table v) (table_weighs v)
    where
      in_table_lem : (t : Table) → weight_in t ≤ weight v → Grew (λ w. weight w ≤ weight v + n) (grow_map table (f t m))
      in_table_lem t l = turn_grew (λ u. weight_in u ≤ weight_in t + n) (λ w. weight w ≤ weight v + n) table (f t m) (adds t m) (λ u h. omega arith)

      go : (q : Option Table) → size weight_in q ≤ weight v → Grew (λ js. weight_all js ≤ weight v + 0 + n) (grow_map (λ w. item w none') (in_table f q m))
      go none l = tt
      go (some t) l = turn_grew (λ w. weight w ≤ weight v + n) (λ js. weight_all js ≤ weight v + 0 + n) (λ w. item w none') (grow_map table (f t m)) (in_table_lem t l) (λ w h. omega arith)
  in_last_adds (item v (item w is)) m =
      turn_grew (λ js. weight_all js ≤ weight_all (item w is) + n) (λ js. weight_all js ≤ weight v + weight_all (item w is) + n) (item v) (in_last_item f (item w is) m)
      (in_last_adds (item w is) m) (λ js h. omega arith)

  under_last_adds : (k : List ℕ) → Adds (0 + n) (at_last_item f k)
  under_last_adds k t m = go (lookup t k) (λ is. insert_weighs t k (array is))
    where
      there : (q : Option Items) (h : ℕ) → size weight_all q ≤ h → ((is : Items) → weight_in (insert t k (array is)) + h ≤ weight_in t + 0 + weight_all is)
          → Grew (λ u. weight_in u ≤ weight_in t + (0 + n)) (at_array f k t q m)
      there none h l g = tt
      there (some is) h l g =
          turn_grew (λ js. weight_all js ≤ weight_all is + n) (λ u. weight_in u ≤ weight_in t + (0 + n)) (λ js. insert t k (array js)) (in_last_item f is m) (in_last_adds is m) (λ js e. omega (arith, g js))

      go : (o : Option Value) → ((is : Items) → weight_in (insert t k (array is)) + size weight o ≤ weight_in t + fee o (length k) + weight_all is)
          → Grew (λ u. weight_in u ≤ weight_in t + (0 + n)) (at_existing f k t o m)
      go none g = tt
      go (some v) g = there (as_array v) (weight v) (array_weighs v) g

  here_adds : (u : Under) → Adds n (under_header u f)
  here_adds (tables p) t m = rw (along_free n p) at (down_adds (λ k. 0) must_exist known_goes n f adds p t m)
  here_adds (arrays p) t m = rw (along_free n p) at (last_adds (λ k. 0) must_exist known_goes n (at_last_item f) under_last_adds p t m)

-- ---- values

-- a value that is read weighs no more than the bytes it adds, and n what was there before
abbrev Reads : (List ℕ → Reader Value) → Type 0
Reads f = (n : ℕ) (s : List ℕ) (m : ℕ) → Paid (λ v. n + weight v) n (f s m)

each_paid : (f : List ℕ → Reader Value) → Reads f → (n : ℕ) (ls : List (List ℕ)) (m : ℕ) → Paid (λ is. n + weight_all is) n (each f ls m)
each_paid f h n [] m = omega arith
each_paid f h n (l ∷ ls) m =
    onward_paid (λ v. n + weight v) (λ is. n + weight_all is) n (f l m) _ (h n l m)
    (λ v i. change_paid (λ is. n + weight v + weight_all is) (λ is. n + weight_all is) (n + weight v) (item v) (each f ls i) (each_paid f h (n + weight v) ls i) (λ is. omega arith))

-- what is neither a string nor an array weighs nothing
abbrev Light : R Value → Type 0
Light (ok v) = weight v ≤ 0
Light (bad e) = Unit {0}

module _ (limit : ℕ) where
  made_paid : (n m : ℕ) (bs : List ℕ) (v : Value) → weight v ≤ length bs → Paid (λ w. n + weight w) n (storing bs (make limit v m))
  made_paid n m bs v h = stored_paid (λ w. n + weight w) n bs (make limit v m) (make_grew (λ w. n + weight w ≤ n + length bs) limit m v (omega arith))

  plain_paid : (s : List ℕ) (n m : ℕ) → Paid (λ v. n + weight v) n (a_plain limit s m)
  unfolding a_plain plain
  plain_paid s n m = light (plain s) (picked Light (same s (ascii "true")) (λ _. omega arith) (λ _. picked Light (same s (ascii "false")) (λ _. omega arith) (λ _. number (integer s))))
    where
      number : (r : R ℤ) → Light (ok_then r (λ i. ok (int i)))
      number (ok i) = omega arith
      number (bad e) = tt

      light : (a : R Value) → Light a → Paid (λ v. n + weight v) n (ok_then_got a (λ v. storing [] (make limit v m)))
      light (ok v) h = made_paid n m [] v h
      light (bad e) h = tt

  one_paid : (b : List ℕ → Reader Value) → Reads b → Reads (one limit b)
  unfolding one a_string
  one_paid b h n s m =
      picked (Paid (λ v. n + weight v) n) (eqb (get_or s 0 0) 34)
      (λ _. having_paid (λ v. n + weight v) n (string_of (drop 1 s)) _ (λ d. made_paid n m d (str d) (omega arith)))
      (λ _. picked (Paid (λ v. n + weight v) n) (eqb (get_or s 0 0) 91) (λ _. h n (drop 1 s) m) (λ _. plain_paid s n m))

  items_paid : (v : List ℕ → Reader Value) → Reads v → Reads (an_array limit v)
  unfolding an_array
  items_paid v h n s m =
      picked (Paid (λ w. n + weight w) n) (eqb (final s) 93)
      (λ _. grows_paid (λ w. n + weight w) n (make limit none' m) _
      (λ _ i. change_paid (λ is. n + weight_all is) (λ w. n + weight w) n array (each v (items_of (take (length s - 1) s)) i) (each_paid v h n (items_of (take (length s - 1) s)) i) (λ is. omega arith)))
      (λ _. tt)

  brackets_paid : (d : ℕ) → Reads (brackets limit d)
  brackets_paid zero n s m = tt
  brackets_paid (suc d) n s m = items_paid (λ l. one limit (brackets limit d) (trim l)) (λ i l j. one_paid (brackets limit d) (brackets_paid d) i (trim l) j) n s m

  value_paid : (d : ℕ) → Reads (value limit d)
  unfolding value
  value_paid d n s m = one_paid (brackets limit d) (brackets_paid d) n (trim s) m

-- ---- lines

-- the weight of the tree so far
abbrev root_of : Doc → ℕ
root_of d = weight_in d.root

-- an accepted text's tree weighs no more than n and the bytes stored
abbrev pub Weighed : ℕ → Answer Parsed → Type 0
Weighed n (accepted r) = weight_in r.root ≤ n + length r.bytes
Weighed n (refused f s p) = Unit {0}

module _ (lim : Limits) where
  -- a path's segments are stored and pay for themselves; i is what stands at its end
  path_paid : (n i b : ℕ) → n + i ≤ b → (u : List (List ℕ) → Under) (k : List ℕ) (f : List (List ℕ) → Grown Table) → ((p : List (List ℕ)) → Grew (λ t. weight_in t ≤ n + along length i p) (f p))
      → Paid root_of b (ok_then_got (keys lim.segments k) (λ p. storing (concat p) (grow_map (λ t. record { root = t; under = u p }) (f p))))
  path_paid n i b l u k f h =
      having_paid root_of b (keys lim.segments k) _
      (λ p. stored_paid root_of b (concat p) (grow_map (λ t. record { root = t; under = u p }) (f p))
      (turn_grew (λ t. weight_in t ≤ n + along length i p) (λ d. root_of d ≤ b + length (concat p)) (λ t. record { root = t; under = u p }) (f p) (h p) (λ t g. omega (arith, along_stored i p))))

  act_paid : (f : Form) (d : Doc) (m : ℕ) → Paid root_of (root_of d) (read_form lim f d m)
  unfolding read_form assignment
  act_paid (pushes k) d m = path_paid (root_of d) 0 (root_of d) (omega arith) arrays k (λ p. push lim.values p d.root m) (λ p. push_adds lim.values p d.root m)
  act_paid (heads k) d m = path_paid (root_of d) 0 (root_of d) (omega arith) tables k (λ p. open_tables lim.values p d.root m) (λ p. ensure_adds lim.values p d.root m)
  act_paid (sets k v) d m =
      picked (Paid root_of (root_of d)) (nil? (trim k)) (λ _. tt)
      (λ _. onward_paid (λ x. root_of d + weight x) root_of (root_of d) (value lim.values lim.arrays v m) _ (value_paid lim.values lim.arrays (root_of d) v m)
      (λ x i. path_paid (root_of d) (weight x) (root_of d + weight x) (omega arith) (λ _. d.under) (trim k) (λ p. under_header d.under (assign lim.values p x) d.root i)
      (λ p. here_adds (along length (weight x) p) (assign lim.values p x) (assign_adds lim.values p x) d.under d.root i)))
  act_paid neither d m = tt

  after_weighs : (n k : ℕ) (bs : List ℕ) (a : Answer Parsed) → k ≤ n + length bs → Weighed k a → Weighed n (stored_first bs a)
  after_weighs n k bs (accepted r) h g = omega (arith, length-append bs r.bytes)
  after_weighs n k bs (refused e s p) h g = tt

  reading_weighs : (at n : ℕ) (g : Got Doc) (k : Doc → ℕ → Answer Parsed) → Paid root_of n g → ((e : Doc) (i : ℕ) → Weighed (root_of e) (k e i)) → Weighed n (line_then at g k)
  reading_weighs at n (got e bs i) k h w = after_weighs n (root_of e) bs (k e i) h (w e i)
  reading_weighs at n (failed f) k h w = tt

  lines_weigh : (ls : List Line) (d : Doc) (m : ℕ) → Weighed (root_of d) (read_lines lim d ls m)
  lines_weigh [] d m = omega arith
  lines_weigh (l ∷ ls) d m =
      reading_weighs l.at (root_of d) (read_form lim (form (trim l.text)) d m) _ (act_paid (form (trim l.text)) d m) (λ e i. lines_weigh ls e i)

  joined_weigh : (a : Answer (List Line)) → Weighed 0 (accepted_then a (λ ls. read_lines lim (record { root = empty; under = tables [] }) ls 0))
  joined_weigh (accepted ls) = lines_weigh ls (record { root = empty; under = tables [] }) 0
  joined_weigh (refused e s p) = tt

  -- the tree of an accepted text weighs no more than its stored bytes
  pub document_weighs : (s : List ℕ) → Weighed 0 (document lim s)
  unfolding document
  document_weighs s = picked (Weighed 0) (ltb lim.text (length s)) (λ _. tt) (λ _. picked (Weighed 0) (valid s) (λ _. joined_weigh (joined s)) (λ _. tt))
