-- "The Rust's other parser errors (unknown table, empty path, array without elements) are met by no text; this is shown."
-- So each refusal of a text has a number of 01's table, from 1 on.
use Rattle.std.specs.Prelude.{ℕ, zero, suc, ◌+◌, ◌*◌, ◌-◌, ◌≤◌, Bool, true, false, ◌≡◌, refl, eqb, ltb, leb, length, get_or, take, drop}
use mathlib.Core.List.{List, [], ◌∷◌, ◌++◌}
use Rattle.std.proofs.Math.Option.{Option, none, some}
use native.Mathlib.Omega.{arith}
use Rattle.std.proofs.Common.{eq-eqb}
use Rattle.meaning.specs.declared.Limits.{Limits}
use Rattle.meaning.specs.declared.Fate.{Fate}
use Rattle.meaning.specs.declared.Fate.TheVariants.{Over, Unended, Whole}
use Rattle.meaning.specs.Base.{ascii, same, cut, on_first, nil?, final, concat}
use Rattle.meaning.specs.Refusal.{R, ok, bad, ok_then, Answer, accepted, refused, accepted_then, Fault, numbered, unmet}
use Rattle.meaning.specs.Reading.{Grown, grown, stuck, Got, got, failed, grow_then, grow_map, storing, adding, got_then, got_map, ok_then_got, grow_then_got, make}
use Rattle.meaning.specs.Tree.{Value, Items, Table, str, int, boolean, array, table, none', item, empty, entry, Grow, lookup, insert, snoc, with_table, along_path, to_last_segment, must_exist, in_last_item, at_last_item, table_or_new, open_tables, push_to, push, assign, as_table}
use Rattle.meaning.specs.declared.StringByte.TheVariants.{Plain}
use Rattle.meaning.specs.Strings as strings
use Rattle.meaning.specs.Strings.{Ending, decode, if_ended}
use Rattle.meaning.specs.Integers as integers
use Rattle.meaning.specs.Integers.{digit, most, within, magnitude, sign, body, clean, signed, integer}
use Rattle.meaning.specs.Keys.{keys, segments, segment, nonempty, quoted}
use Rattle.meaning.specs.Space.{trim, blank}
use Rattle.meaning.specs.Values.{Reader, each, a_string, a_plain, one, an_array, brackets, value, string_of, plain, items_of}
use Rattle.meaning.specs.Lines.{Line, Pending, closed, open', settle, fate, join_one, join, joined, kept_lines, physical, at_close}
use Rattle.meaning.specs.Quote.{fresh, scan}
use Rattle.meaning.specs.Utf8.{valid}
use Rattle.meaning.specs.Document.{Doc, Under, tables, arrays, Form, pushes, heads, sets, neither, form, under_header, assignment, read_form, read_lines, document, Parsed, line_then}
use Rattle.laws.specs.Cases.{on, picked}

abbrev pub Any : {X : Type 0} → X → Type 0
Any x = Unit {0}

-- a fault with a number of 01's table, which begins with 1
abbrev pub Numbered : Fault → Type 0
Numbered (numbered n) = 1 ≤ n
Numbered (unmet e) = ⊥

abbrev pub Reads : {X : Type 0} → (X → Type 0) → R X → Type 0
Reads P (ok x) = P x
Reads P (bad n) = 1 ≤ n

abbrev pub Grows : {X : Type 0} → (X → Type 0) → Grown X → Type 0
Grows P (grown x m) = P x
Grows P (stuck e) = Numbered e

abbrev pub Gets : {X : Type 0} → (X → Type 0) → Got X → Type 0
Gets P (got x bs m) = P x
Gets P (failed e) = Numbered e

abbrev pub Answers : {X : Type 0} → Answer X → Type 0
Answers (accepted x) = Unit {0}
Answers (refused f s p) = Numbered f

-- ---- the steps

module _ {X Y : Type 0} (P : X → Type 0) (Q : Y → Type 0) where
  then_ok : (a : Grown X) (f : X → ℕ → Grown Y) → Grows P a → ((x : X) (m : ℕ) → P x → Grows Q (f x m)) → Grows Q (grow_then a f)
  then_ok (grown x m) f h k = k x m h
  then_ok (stuck e) f h k = h

  turn_ok : (f : X → Y) (a : Grown X) → Grows P a → ((x : X) → P x → Q (f x)) → Grows Q (grow_map f a)
  turn_ok f (grown x m) h k = k x h
  turn_ok f (stuck e) h k = h

  kept_ok : (f : X → Y) (bs : List ℕ) (a : Grown X) → Grows P a → ((x : X) → P x → Q (f x)) → Gets Q (storing bs (grow_map f a))
  kept_ok f bs (grown x m) h k = k x h
  kept_ok f bs (stuck e) h k = h

  grows_ok : (a : Grown X) (f : X → ℕ → Got Y) → Grows P a → ((x : X) (m : ℕ) → P x → Gets Q (f x m)) → Gets Q (grow_then_got a f)
  grows_ok (grown x m) f h k = k x m h
  grows_ok (stuck e) f h k = h

  having_ok : (a : R X) (f : X → Got Y) → Reads P a → ((x : X) → P x → Gets Q (f x)) → Gets Q (ok_then_got a f)
  having_ok (ok x) f h k = k x h
  having_ok (bad n) f h k = h

  onward_ok : (a : Got X) (f : X → ℕ → Got Y) → Gets P a → ((x : X) (m : ℕ) → P x → Gets Q (f x m)) → Gets Q (got_then a f)
  onward_ok (got x bs m) f h k = added (f x m) (k x m h)
    where
      added : (b : Got Y) → Gets Q b → Gets Q (adding bs b)
      added (got y cs n) g = g
      added (failed e) g = g
  onward_ok (failed e) f h k = h

  change_ok : (f : X → Y) (a : Got X) → Gets P a → ((x : X) → P x → Q (f x)) → Gets Q (got_map f a)
  change_ok f (got x bs m) h k = k x h
  change_ok f (failed e) h k = h

  after_ok : (a : Answer X) (f : X → Answer Y) → Answers a → ((x : X) → Answers (f x)) → Answers (accepted_then a f)
  after_ok (accepted x) f h k = k x
  after_ok (refused e s p) f h k = h

module _ {X : Type 0} (P : X → Type 0) where
  storing_ok : (bs : List ℕ) (a : Grown X) → Grows P a → Gets P (storing bs a)
  storing_ok bs (grown x m) h = h
  storing_ok bs (stuck e) h = h

  make_ok : (limit m : ℕ) (x : X) → P x → Grows P (make limit x m)
  unfolding make
  make_ok limit m x h = on (leb limit m) (λ e. rw e (omega arith)) (λ e. rw e h)

-- one reader after the other
pub then_read : {X Y : Type 0} (P : X → Type 0) (Q : Y → Type 0) (a : R X) (f : X → R Y) → Reads P a → ((x : X) → P x → Reads Q (f x)) → Reads Q (ok_then a f)
then_read P Q (ok x) f h k = k x h
then_read P Q (bad n) f h k = h

pub ended_read : {X : Type 0} (P : X → Type 0) (e : Ending) (r : R X) → Reads P r → Reads P (if_ended e r)
ended_read P strings.closed r h = h
ended_read P strings.escape r h = omega arith
ended_read P strings.unended r h = omega arith

-- ---- the tree

pub same_refl : (k : List ℕ) → same k k ≡ true
same_refl [] = refl
same_refl (a ∷ k) = rw (eq-eqb a a refl) (same_refl k)

pub lookup_insert : (t : Table) (k : List ℕ) (v : Value) → lookup (insert t k v) k ≡ some v
lookup_insert empty k v = rw (same_refl k)
lookup_insert (entry j w t) k v = on (same j k) (λ e. rw (e, e)) (λ e. rw (e, e) (lookup_insert t k v))

-- the tables of a path are there
abbrev pub Down : List (List ℕ) → Table → Type 0
Down [] t = Unit {0}
Down (k ∷ ks) t = (u : Table) × (lookup t k ≡ some (table u)) × Down ks u

abbrev pub HasLast : Items → Type 0
HasLast none' = ⊥
HasLast (item v none') = (t : Table) × (as_table v ≡ some t)
HasLast (item v (item w is)) = HasLast (item w is)

-- the tables of a path and the array at its end, whose last item is a table
abbrev pub Last : List (List ℕ) → Table → Type 0
Last [] t = ⊥
Last (k ∷ []) t = (a : Items) × (lookup t k ≡ some (array a)) × HasLast a
Last (k ∷ j ∷ ks) t = (u : Table) × (lookup t k ≡ some (table u)) × Last (j ∷ ks) u

abbrev pub NonEmpty : List (List ℕ) → Type 0
NonEmpty [] = ⊥
NonEmpty (k ∷ ks) = Unit {0}

enter_ok : (limit m : ℕ) (o : Option Value) → Grows Any (table_or_new limit o m)
unfolding table_or_new
enter_ok limit m none = make_ok Any limit m empty tt
enter_ok limit m (some (str s)) = make_ok Any limit m empty tt
enter_ok limit m (some (int i)) = make_ok Any limit m empty tt
enter_ok limit m (some (boolean b)) = make_ok Any limit m empty tt
enter_ok limit m (some (array a)) = make_ok Any limit m empty tt
enter_ok limit m (some (table u)) = tt

ensure_ok : (limit m : ℕ) (p : List (List ℕ)) (t : Table) → Grows (Down p) (open_tables limit p t m)
ensure_ok limit m [] t = tt
ensure_ok limit m (k ∷ ks) t =
    then_ok Any (Down (k ∷ ks)) (table_or_new limit (lookup t k) m) _ (enter_ok limit m (lookup t k))
    (λ u n _. turn_ok (Down ks) (Down (k ∷ ks)) (with_table t k) (open_tables limit ks u n) (ensure_ok limit n ks u) (λ w h. (w, lookup_insert t k (table w), h)))

snoc_last : (a : Items) → HasLast (snoc a (table empty))
snoc_last none' = (empty, refl)
snoc_last (item v none') = (empty, refl)
snoc_last (item v (item w is)) = snoc_last (item w is)

push_to_ok : (limit m : ℕ) (o : Option Value) → Grows HasLast (push_to limit o m)
unfolding push_to
push_to_ok limit m none =
    then_ok Any HasLast (make limit none' m) _ (make_ok Any limit m none' tt) (λ a n _. make_ok HasLast limit n (snoc a (table empty)) (snoc_last a))
push_to_ok limit m (some (str s)) = omega arith
push_to_ok limit m (some (int i)) = omega arith
push_to_ok limit m (some (boolean b)) = omega arith
push_to_ok limit m (some (array a)) = make_ok HasLast limit m (snoc a (table empty)) (snoc_last a)
push_to_ok limit m (some (table u)) = omega arith

push_ok : (limit m : ℕ) (k : List ℕ) (ks : List (List ℕ)) (t : Table) → Grows (Last (k ∷ ks)) (push limit (k ∷ ks) t m)
push_ok limit m k [] t =
    turn_ok HasLast (Last (k ∷ [])) (λ a. insert t k (array a)) (push_to limit (lookup t k) m) (push_to_ok limit m (lookup t k))
    (λ a h. (a, lookup_insert t k (array a), h))
push_ok limit m k (j ∷ ks) t =
    then_ok Any (Last (k ∷ j ∷ ks)) (table_or_new limit (lookup t k) m) _ (enter_ok limit m (lookup t k))
    (λ u n _. turn_ok (Last (j ∷ ks)) (Last (k ∷ j ∷ ks)) (with_table t k) (push limit (j ∷ ks) u n) (push_ok limit n j ks u)
    (λ w h. (w, lookup_insert t k (table w), h)))

assign_ok : (limit m : ℕ) (k : List ℕ) (ks : List (List ℕ)) (v : Value) (t : Table) → Grows Any (assign limit (k ∷ ks) v t m)
assign_ok limit m k [] v t = tt
assign_ok limit m k (j ∷ ks) v t =
    then_ok Any Any (table_or_new limit (lookup t k) m) _ (enter_ok limit m (lookup t k))
    (λ u n _. turn_ok Any Any (with_table t k) (assign limit (j ∷ ks) v u n) (assign_ok limit n j ks v u) (λ w h. tt))

known_is : (o : Option Value) (u : Table) (m : ℕ) → o ≡ some (table u) → must_exist o m ≡ grown u m
unfolding must_exist
known_is o u m e = rw e

module _ (f : Table → Grow Table) (fine : (t : Table) (m : ℕ) → Grows Any (f t m)) where
  down_ok : (p : List (List ℕ)) (t : Table) (m : ℕ) → Down p t → Grows (Down p) (along_path must_exist f p t m)
  down_ok [] t m h = fine t m
  down_ok (k ∷ ks) t m h =
      rw (known_is (lookup t k) h.0 m h.1)
      (turn_ok (Down ks) (Down (k ∷ ks)) (with_table t k) (along_path must_exist f ks h.0 m) (down_ok ks h.0 m h.2) (λ w d. (w, lookup_insert t k (table w), d)))

  cons_last : (v : Value) (is : Items) → HasLast is → HasLast (item v is)
  cons_last v none' h = absurd h
  cons_last v (item w is) h = h

  in_last_ok : (a : Items) (m : ℕ) → HasLast a → Grows HasLast (in_last_item f a m)
  in_last_ok none' m h = absurd h
  in_last_ok (item v none') m h =
      rw h.1
      (turn_ok (λ w. HasLast (item w none')) HasLast (λ w. item w none') (grow_map table (f h.0 m))
      (turn_ok Any (λ w. HasLast (item w none')) table (f h.0 m) (fine h.0 m) (λ u _. (u, refl)))
      (λ w g. g))
  in_last_ok (item v (item w is)) m h =
      turn_ok HasLast HasLast (item v) (in_last_item f (item w is) m) (in_last_ok (item w is) m h) (λ js g. cons_last v js g)

  under_last_ok : (k : List ℕ) (t : Table) (m : ℕ) → Last (k ∷ []) t → Grows (Last (k ∷ [])) (at_last_item f k t m)
  under_last_ok k t m h =
      rw h.1
      (turn_ok HasLast (Last (k ∷ [])) (λ b. insert t k (array b)) (in_last_item f h.0 m) (in_last_ok h.0 m h.2) (λ b g. (b, lookup_insert t k (array b), g)))

  last_ok : (k : List ℕ) (ks : List (List ℕ)) (t : Table) (m : ℕ) → Last (k ∷ ks) t → Grows (Last (k ∷ ks)) (to_last_segment must_exist (at_last_item f) (k ∷ ks) t m)
  last_ok k [] t m h = under_last_ok k t m h
  last_ok k (j ∷ ks) t m h =
      rw (known_is (lookup t k) h.0 m h.1)
      (turn_ok (Last (j ∷ ks)) (Last (k ∷ j ∷ ks)) (with_table t k) (to_last_segment must_exist (at_last_item f) (j ∷ ks) h.0 m) (last_ok j ks h.0 m h.2)
      (λ w d. (w, lookup_insert t k (table w), d)))

-- ---- keys and values

cut_some : (c : ℕ) (s : List ℕ) → NonEmpty (cut c s)
cut_some c [] = tt
cut_some c (b ∷ s) = on (eqb b c) (λ e. rw e tt) (λ e. rw e (first (cut c s)))
  where
    first : (ls : List (List ℕ)) → NonEmpty (on_first b ls)
    first [] = tt
    first (l ∷ ls) = tt

nonempty_read : (s : List ℕ) → Reads Any (nonempty s)
unfolding nonempty
nonempty_read s = on (nil? s) (λ e. rw e (omega arith)) (λ e. rw e tt)

segment_read : (s : List ℕ) → Reads Any (segment s)
unfolding segment quoted
segment_read s =
    picked (Reads Any) (eqb (get_or s 0 0) 34)
    (λ _. ended_read Any (decode Plain (drop 1 s)).how _
    (picked (Reads Any) (eqb (final (drop 1 s)) 34) (λ _. nonempty_read (decode Plain (drop 1 s)).bytes) (λ _. omega arith)))
    (λ _. nonempty_read s)

segments_read : (n : ℕ) (ps : List (List ℕ)) → Reads Any (segments n ps)
segments_read n [] = tt
segments_read zero (p ∷ ps) = omega arith
segments_read (suc n) (p ∷ ps) =
    then_read Any Any (segment (trim p)) _ (segment_read (trim p)) (λ k _. then_read Any Any (segments n ps) _ (segments_read n ps) (λ ks _. tt))

segments_ok : (n : ℕ) (ps : List (List ℕ)) → NonEmpty ps → Reads NonEmpty (segments n ps)
segments_ok n [] h = absurd h
segments_ok zero (p ∷ ps) h = omega arith
segments_ok (suc n) (p ∷ ps) h =
    then_read Any NonEmpty (segment (trim p)) _ (segment_read (trim p))
    (λ k _. then_read Any NonEmpty (segments n ps) _ (segments_read n ps) (λ ks _. tt))

pub keys_ok : (n : ℕ) (s : List ℕ) → Reads NonEmpty (keys n s)
unfolding keys
keys_ok n s = segments_ok n (cut 46 s) (cut_some 46 s)

string_read : (s : List ℕ) → Reads Any (string_of s)
unfolding string_of
string_read s =
    ended_read Any (decode Plain s).how _ (picked (Reads Any) (blank (drop (decode Plain s).span s)) (λ _. tt) (λ _. omega arith))

digits_read : (base acc : ℕ) (s : List ℕ) → Reads Any (integers.value base acc s)
digits_read base acc [] = tt
digits_read base acc (b ∷ s) =
    picked (Reads Any) (leb base (digit b)) (λ _. omega arith) (λ _. digits_read base (acc * base + digit b) s)

magnitude_read : (neg : Bool) (base : ℕ) (s : List ℕ) → Reads Any (magnitude neg base s)
unfolding magnitude within
magnitude_read neg base s =
    picked (Reads Any) (nil? s) (λ _. omega arith)
    (λ _. then_read Any Any (within (most neg) (integers.value base 0 s)) _
    (then_read Any Any (integers.value base 0 s) _ (digits_read base 0 s) (λ n _. picked (Reads Any) (ltb (most neg) n) (λ _. omega arith) (λ _. tt)))
    (λ n _. tt))

sign_read : (base : ℕ) (s : List ℕ) → Reads Any (sign base s)
unfolding sign
sign_read base s =
    picked (Reads Any) (eqb (get_or s 0 0) 45) (λ _. magnitude_read true base (drop 1 s))
    (λ _. picked (Reads Any) (eqb (get_or s 0 0) 43) (λ _. magnitude_read false base (drop 1 s)) (λ _. magnitude_read false base s))

body_read : (s : List ℕ) → Reads Any (body s)
unfolding body
body_read s =
    picked (Reads Any) (eqb (get_or s 0 0) 48)
    (λ _. picked (Reads Any) (eqb (get_or s 1 0) 120) (λ _. sign_read 16 (drop 2 s))
    (λ _. picked (Reads Any) (eqb (get_or s 1 0) 88) (λ _. sign_read 16 (drop 2 s)) (λ _. sign_read 10 s)))
    (λ _. sign_read 10 s)

plain_read : (s : List ℕ) → Reads Any (plain s)
unfolding plain integer signed
plain_read s =
    picked (Reads Any) (same s (ascii "true")) (λ _. tt)
    (λ _. picked (Reads Any) (same s (ascii "false")) (λ _. tt)
    (λ _. then_read Any Any (integer s) _ (then_read Any Any (body (clean s)) _ (body_read (clean s)) (λ x _. tt)) (λ i _. tt)))

each_ok : (f : List ℕ → Reader Value) → ((l : List ℕ) (m : ℕ) → Gets Any (f l m)) → (ls : List (List ℕ)) (m : ℕ) → Gets Any (each f ls m)
each_ok f h [] m = tt
each_ok f h (l ∷ ls) m =
    onward_ok Any Any (f l m) _ (h l m) (λ v n _. change_ok Any Any (item v) (each f ls n) (each_ok f h ls n) (λ vs _. tt))

module _ (limit : ℕ) where
  string_ok : (s : List ℕ) (m : ℕ) → Gets Any (a_string limit s m)
  unfolding a_string
  string_ok s m = having_ok Any Any (string_of s) _ (string_read s) (λ d _. storing_ok Any d (make limit (str d) m) (make_ok Any limit m (str d) tt))

  plain_ok : (s : List ℕ) (m : ℕ) → Gets Any (a_plain limit s m)
  unfolding a_plain
  plain_ok s m = having_ok Any Any (plain s) _ (plain_read s) (λ v _. storing_ok Any [] (make limit v m) (make_ok Any limit m v tt))

  one_ok : (b : List ℕ → Reader Value) → ((s : List ℕ) (m : ℕ) → Gets Any (b s m)) → (s : List ℕ) (m : ℕ) → Gets Any (one limit b s m)
  unfolding one
  one_ok b h s m =
      on (eqb (get_or s 0 0) 34) (λ e. rw e (string_ok (drop 1 s) m))
      (λ e. rw e (on (eqb (get_or s 0 0) 91) (λ g. rw g (h (drop 1 s) m)) (λ g. rw g (plain_ok s m))))

  array_ok : (v : List ℕ → Reader Value) → ((s : List ℕ) (m : ℕ) → Gets Any (v s m)) → (s : List ℕ) (m : ℕ) → Gets Any (an_array limit v s m)
  unfolding an_array
  array_ok v h s m =
      on (eqb (final s) 93)
      (λ e. rw e (grows_ok Any Any (make limit none' m) _ (make_ok Any limit m none' tt)
      (λ _ n _. change_ok Any Any array (each v (items_of (take (length s - 1) s)) n) (each_ok v h (items_of (take (length s - 1) s)) n) (λ vs _. tt))))
      (λ e. rw e (omega arith))

  brackets_ok : (d : ℕ) (s : List ℕ) (m : ℕ) → Gets Any (brackets limit d s m)
  brackets_ok zero s m = omega arith
  brackets_ok (suc d) s m =
      array_ok (λ l. one limit (brackets limit d) (trim l)) (λ l n. one_ok (brackets limit d) (λ t k. brackets_ok d t k) (trim l) n) s m

  value_ok : (d : ℕ) (s : List ℕ) (m : ℕ) → Gets Any (value limit d s m)
  unfolding value
  value_ok d s m = one_ok (brackets limit d) (λ t k. brackets_ok d t k) (trim s) m

-- ---- lines

-- assignments find the table of the last header
abbrev pub Stands : Under → Table → Type 0
Stands (tables p) t = Down p t
Stands (arrays p) t = Last p t

abbrev pub Sound : Doc → Type 0
Sound d = Stands d.under d.root

here_ok : (f : Table → Grow Table) → ((t : Table) (m : ℕ) → Grows Any (f t m)) → (u : Under) (t : Table) (m : ℕ) → Stands u t → Grows (Stands u) (under_header u f t m)
here_ok f h (tables p) t m s = down_ok f h p t m s
here_ok f h (arrays []) t m s = absurd s
here_ok f h (arrays (k ∷ ks)) t m s = last_ok f h k ks t m s

assigned : (limit m : ℕ) (p : List (List ℕ)) (v : Value) (t : Table) → NonEmpty p → Grows Any (assign limit p v t m)
assigned limit m [] v t h = absurd h
assigned limit m (k ∷ ks) v t h = assign_ok limit m k ks v t

pushed : (limit m : ℕ) (p : List (List ℕ)) (t : Table) → NonEmpty p → Grows (Last p) (push limit p t m)
pushed limit m [] t h = absurd h
pushed limit m (k ∷ ks) t h = push_ok limit m k ks t

module _ (lim : Limits) where
  setting_ok : (k v : List ℕ) (d : Doc) (m : ℕ) → Sound d → Gets Sound (assignment lim k v d m)
  unfolding assignment
  setting_ok k v d m h =
      on (nil? k) (λ e. rw e (omega arith))
      (λ e. rw e (onward_ok Any Sound (value lim.values lim.arrays v m) _ (value_ok lim.values lim.arrays v m)
      (λ x n _. having_ok NonEmpty Sound (keys lim.segments k) _ (keys_ok lim.segments k)
      (λ p q. kept_ok (Stands d.under) Sound (λ t. record { root = t; under = d.under }) (concat p)
      (under_header d.under (assign lim.values p x) d.root n)
      (here_ok (assign lim.values p x) (λ t i. assigned lim.values i p x t q) d.under d.root n h) (λ t g. g)))))

  act_ok : (f : Form) (d : Doc) (m : ℕ) → Sound d → Gets Sound (read_form lim f d m)
  unfolding read_form
  act_ok (pushes k) d m h =
      having_ok NonEmpty Sound (keys lim.segments k) _ (keys_ok lim.segments k)
      (λ p q. kept_ok (Last p) Sound (λ t. record { root = t; under = arrays p }) (concat p) (push lim.values p d.root m)
      (pushed lim.values m p d.root q) (λ t g. g))
  act_ok (heads k) d m h =
      having_ok NonEmpty Sound (keys lim.segments k) _ (keys_ok lim.segments k)
      (λ p q. kept_ok (Down p) Sound (λ t. record { root = t; under = tables p }) (concat p) (open_tables lim.values p d.root m)
      (ensure_ok lim.values m p d.root) (λ t g. g))
  act_ok (sets k v) d m h = setting_ok (trim k) v d m h
  act_ok neither d m h = omega arith

  reading_ok : (at : ℕ) (g : Got Doc) (k : Doc → ℕ → Answer Parsed) → Gets Sound g → ((e : Doc) (n : ℕ) → Sound e → Answers (k e n)) → Answers (line_then at g k)
  reading_ok at (got e bs n) k s h = after_ok Any Any (k e n) _ (h e n s) (λ r. tt)
  reading_ok at (failed f) k s h = s

  lines_ok : (d : Doc) (ls : List Line) (m : ℕ) → Sound d → Answers (read_lines lim d ls m)
  lines_ok d [] m h = tt
  lines_ok d (l ∷ ls) m h =
      reading_ok l.at (read_form lim (form (trim l.text)) d m) _ (act_ok (form (trim l.text)) d m h) (λ e n s. lines_ok e ls n s)

settle_ok : (at : ℕ) (t : List ℕ) (f : Fate) → Answers (settle at t f)
settle_ok at t Over = omega arith
settle_ok at t Unended = tt
settle_ok at t Whole = tt

join_one_ok : (p : Pending) (n : ℕ) (l : List ℕ) → Answers (join_one p n l)
unfolding join_one
join_one_ok closed n l = on (blank l) (λ e. rw e tt) (λ e. rw e (settle_ok n l (fate (scan fresh l))))
join_one_ok (open' at t) n l = settle_ok at (t ++ (10 ∷ l)) (fate (scan fresh (t ++ (10 ∷ l))))

close_ok : (p : Pending) → Answers (at_close p)
close_ok closed = tt
close_ok (open' at t) = omega arith

join_ok : (p : Pending) (n : ℕ) (ls : List (List ℕ)) → Answers (join p n ls)
join_ok p n [] = close_ok p
join_ok p n (l ∷ ls) =
    after_ok Any Any (join_one p n l) _ (join_one_ok p n l)
    (λ s. after_ok Any Any (join s.pending (n + 1) ls) _ (join_ok s.pending (n + 1) ls) (λ r. tt))

-- no text is refused by an error without a number, or by number 0
pub never : (lim : Limits) (s : List ℕ) → Answers (document lim s)
unfolding document joined
never lim s =
    on (ltb lim.text (length s)) (λ e. rw e (omega arith))
    (λ e. rw e (on (valid s)
    (λ v. rw v (after_ok Any Any (join closed 1 (kept_lines (physical s))) _ (join_ok closed 1 (kept_lines (physical s))) (λ ls. lines_ok lim (record { root = empty; under = tables [] }) ls 0 tt)))
    (λ v. rw v (omega arith))))
