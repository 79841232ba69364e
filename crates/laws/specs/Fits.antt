-- The store always has room: what a text adds to it is no longer than the text.
use Rattle.std.specs.Prelude.{ℕ, zero, suc, ◌+◌, ◌-◌, ◌≤◌, List, [], ◌∷◌, ◌++◌, Bool, ◌≡◌, eqb, ltb, get_or, take, drop}
use Rattle.std.proofs.Common.{arith, length-append, length-take, length-drop}
use Rattle.std.proofs.Math.ListN.{length}
use Rattle.meaning.specs.declared.Limits.{Limits}
use Rattle.meaning.specs.declared.Fate.{Fate}
use Rattle.meaning.specs.declared.Fate.TheVariants.{Over, Unended, Whole}
use Rattle.meaning.specs.declared.Act.{Act}
use Rattle.meaning.specs.declared.Act.TheVariants.{End, Fault, Hold, Put}
use Rattle.meaning.specs.Base.{cut, split, on_first, nil?, final, concat}
use Rattle.meaning.specs.Refusal.{R, ok, bad, ok_then, Answer, accepted, refused, accepted_then}
use Rattle.meaning.specs.Reading.{Grown, grown, stuck, Got, got, failed, grow_map, storing, adding, got_then, got_map, ok_then_got, grow_then_got, make}
use Rattle.meaning.specs.Tree.{Value, str, array, none', item, empty, assign, push, open_tables}
use Rattle.meaning.specs.Keys.{keys, segments, segment, quoted, nonempty}
use Rattle.meaning.specs.Space.{trim, blank}
use Rattle.meaning.specs.Values.{Reader, each, a_string, a_plain, one, an_array, brackets, value, string_of, plain, items_of, nonblank, separates?}
use Rattle.meaning.specs.declared.StringState.TheVariants.{Outside}
use Rattle.meaning.specs.Quote.{fresh, scan, step, up_to}
use Rattle.meaning.specs.declared.StringByte.{StringByte}
use Rattle.meaning.specs.declared.StringByte.TheVariants.{Plain, AfterBackslash}
use Rattle.meaning.specs.Strings.{Said, Ending, closed as shut, escape, unended, decode, by_act, if_ended, act_of}
use Rattle.meaning.specs.Lines.{Line, Pending, closed, open', Step, settle, fate, join_one, join, joined, kept, kept_lines, physical, ended, drop_cr, at_close}
use Rattle.meaning.specs.Utf8.{valid}
use Rattle.meaning.specs.Document.{Doc, tables, arrays, Form, pushes, heads, sets, neither, form, under_header, assignment, read_form, read_lines, document, Parsed, line_then}
use Rattle.laws.specs.Cases.{on}
use Rattle.laws.specs.Trim.{white_at, white_end, forwards, backwards, on_bytes}

-- ---- strings

go_fits : (n : ℕ) (st : StringByte) (a : Act) (f : StringByte → Said) → ((t : StringByte) → length (f t).bytes ≤ n) → length (by_act st a f).bytes ≤ suc n
go_fits n st End f h = omega arith
go_fits n st Fault f h = omega arith
go_fits n st (Put c) f h = omega (arith, h Plain)
go_fits n st Hold f h = omega (arith, h AfterBackslash)

decode_fits : (st : StringByte) (s : List ℕ) → length (decode st s).bytes ≤ length s
decode_fits st [] = omega arith
decode_fits st (b ∷ s) = go_fits (length s) st (act_of st b) (λ t. decode t s) (λ t. decode_fits t s)

-- ---- parts

abbrev total : List (List ℕ) → ℕ
total [] = 0
total (l ∷ ls) = length l + total ls

take_fits : (i : ℕ) (s : List ℕ) → length (take i s) ≤ length s
take_fits i s = simp length-take (omega arith)

drop_fits : (i : ℕ) (s : List ℕ) → length (drop i s) ≤ length s
drop_fits i s = simp length-drop (omega arith)

forwards_fit : (k : ℕ) (s : List ℕ) → length (forwards k s) ≤ length s
forwards_fit zero s = omega arith
forwards_fit (suc k) s =
    on (eqb (white_at s) 0) (λ e. rw e (omega arith)) (λ e. rw e (omega (arith, forwards_fit k (drop (white_at s) s), drop_fits (white_at s) s)))

backwards_fit : (k : ℕ) (s : List ℕ) → length (backwards k s) ≤ length s
backwards_fit zero s = omega arith
backwards_fit (suc k) s =
    on (eqb (white_end s) 0) (λ e. rw e (omega arith))
    (λ e. rw e (omega (arith, backwards_fit k (take (length s - white_end s) s), take_fits (length s - white_end s) s)))

trim_fits : (s : List ℕ) → length (trim s) ≤ length s
trim_fits s =
    let f : List ℕ = forwards (length s) s in
    rw (on_bytes s) (omega (arith, backwards_fit (length f) f, forwards_fit (length s) s))

first_total : (b : ℕ) (ls : List (List ℕ)) → total (on_first b ls) ≤ suc (total ls)
first_total b [] = omega arith
first_total b (l ∷ ls) = omega arith

cut_fits : (c : ℕ) (s : List ℕ) → total (cut c s) ≤ length s
cut_fits c [] = omega arith
cut_fits c (b ∷ s) =
    let h : total (cut c s) ≤ length s = cut_fits c s in
    let g : total (on_first b (cut c s)) ≤ suc (total (cut c s)) = first_total b (cut c s) in
    on (eqb b c) (λ e. rw e (omega arith)) (λ e. rw e (omega arith))

split_fits : {S : Type 0} (start : S) (next : S → ℕ → S) (sep : S → ℕ → Bool) (st : S) (s : List ℕ) → total (split start next sep st s) ≤ length s
split_fits start next sep st [] = omega arith
split_fits start next sep st (b ∷ s) =
    on (sep st b)
    (λ e. let h : total (split start next sep start s) ≤ length s = split_fits start next sep start s in rw e (omega arith))
    (λ e. let h : total (split start next sep (next st b) s) ≤ length s = split_fits start next sep (next st b) s in
    let g : total (on_first b (split start next sep (next st b) s)) ≤ suc (total (split start next sep (next st b) s)) = first_total b (split start next sep (next st b) s) in
    rw e (omega arith))

nonblank_fits : (ls : List (List ℕ)) → total (nonblank ls) ≤ total ls
nonblank_fits [] = omega arith
nonblank_fits (l ∷ ls) =
    let h : total (nonblank ls) ≤ total ls = nonblank_fits ls in
    on (blank l) (λ e. rw e (omega arith)) (λ e. rw e (omega arith))

items_fit : (s : List ℕ) → total (items_of s) ≤ length s
unfolding items_of
items_fit s = omega (arith, nonblank_fits (split fresh step separates? fresh s), split_fits fresh step separates? fresh s)

-- ---- keys

abbrev FitsR : {X : Type 0} → (X → ℕ) → ℕ → R X → Type 0
FitsR f n (ok x) = f x ≤ n
FitsR f n (bad e) = Unit {0}

nonempty_fits : (s : List ℕ) → FitsR length (length s) (nonempty s)
unfolding nonempty
nonempty_fits s = on (nil? s) (λ e. rw e tt) (λ e. rw e (omega arith))

weaker : (a : R (List ℕ)) (n m : ℕ) → n ≤ m → FitsR length n a → FitsR length m a
weaker (ok x) n m h g = omega arith
weaker (bad e) n m h g = tt

by_end_fits : (e : Ending) (r : R (List ℕ)) (n : ℕ) → FitsR length n r → FitsR length n (if_ended e r)
by_end_fits shut r n h = h
by_end_fits escape r n h = tt
by_end_fits unended r n h = tt

quoted_fits : (r : List ℕ) → FitsR length (length r) (quoted r)
unfolding quoted
quoted_fits r =
    by_end_fits (decode Plain r).how _ (length r)
    (on (eqb (final r) 34)
    (λ e. rw e (weaker (nonempty (decode Plain r).bytes) (length (decode Plain r).bytes) (length r) (decode_fits Plain r) (nonempty_fits (decode Plain r).bytes)))
    (λ e. rw e tt))

segment_fits : (s : List ℕ) → FitsR length (length s) (segment s)
unfolding segment
segment_fits s =
    on (eqb (get_or s 0 0) 34)
    (λ e. rw e (weaker (quoted (drop 1 s)) (length (drop 1 s)) (length s) (drop_fits 1 s) (quoted_fits (drop 1 s))))
    (λ e. rw e (nonempty_fits s))

abbrev bytes_in : List (List ℕ) → ℕ
bytes_in ks = length (concat ks)

joined_fits : (a : R (List ℕ)) (b : R (List (List ℕ))) (n m : ℕ) → FitsR length n a → FitsR bytes_in m b → FitsR bytes_in (n + m) (ok_then a (λ k. ok_then b (λ ks. ok (k ∷ ks))))
joined_fits (ok k) (ok ks) n m h g = simp length-append (omega arith)
joined_fits (ok k) (bad e) n m h g = tt
joined_fits (bad e) b n m h g = tt

segments_fit : (n : ℕ) (ps : List (List ℕ)) → FitsR bytes_in (total ps) (segments n ps)
segments_fit n [] = omega arith
segments_fit zero (p ∷ ps) = tt
segments_fit (suc n) (p ∷ ps) =
    joined_fits (segment (trim p)) (segments n ps) (length p) (total ps)
    (weaker (segment (trim p)) (length (trim p)) (length p) (trim_fits p) (segment_fits (trim p))) (segments_fit n ps)

looser : (a : R (List (List ℕ))) (n m : ℕ) → n ≤ m → FitsR bytes_in n a → FitsR bytes_in m a
looser (ok x) n m h g = omega arith
looser (bad e) n m h g = tt

keys_fit : (n : ℕ) (s : List ℕ) → FitsR bytes_in (length s) (keys n s)
unfolding keys
keys_fit n s =
    looser (segments n (cut 46 s)) (total (cut 46 s)) (length s) (cut_fits 46 s) (segments_fit n (cut 46 s))

-- ---- values

abbrev Fits : {X : Type 0} → ℕ → Got X → Type 0
Fits n (got x bs m) = length bs ≤ n
Fits n (failed e) = Unit {0}

grow : {X : Type 0} (a : Got X) (n m : ℕ) → n ≤ m → Fits n a → Fits m a
grow (got x bs k) n m h g = omega arith
grow (failed e) n m h g = tt

stored_fits : {X : Type 0} (n : ℕ) (bs : List ℕ) (a : Grown X) → length bs ≤ n → Fits n (storing bs a)
stored_fits n bs (grown x m) h = h
stored_fits n bs (stuck e) h = tt

change_fits : {X Y : Type 0} (f : X → Y) (n : ℕ) (a : Got X) → Fits n a → Fits n (got_map f a)
change_fits f n (got x bs m) h = h
change_fits f n (failed e) h = tt

added_fits : {X : Type 0} (n k : ℕ) (bs : List ℕ) (a : Got X) → length bs ≤ n → Fits k a → Fits (n + k) (adding bs a)
added_fits n k bs (got x cs m) h g = simp length-append (omega arith)
added_fits n k bs (failed e) h g = tt

onward_fits : {X Y : Type 0} (n k : ℕ) (a : Got X) (f : X → ℕ → Got Y) → Fits n a → ((x : X) (m : ℕ) → Fits k (f x m)) → Fits (n + k) (got_then a f)
onward_fits n k (got x bs m) f h g = added_fits n k bs (f x m) h (g x m)
onward_fits n k (failed e) f h g = tt

each_fits : (f : List ℕ → Reader Value) → ((l : List ℕ) (m : ℕ) → Fits (length l) (f l m)) → (ls : List (List ℕ)) (m : ℕ) → Fits (total ls) (each f ls m)
each_fits f h [] m = omega arith
each_fits f h (l ∷ ls) m = onward_fits (length l) (total ls) (f l m) _ (h l m) (λ v n. change_fits (item v) (total ls) (each f ls n) (each_fits f h ls n))

module _ (limit : ℕ) where
  said_fits : (a : R (List ℕ)) (m n : ℕ) → FitsR length n a → Fits n (ok_then_got a (λ b. storing b (make limit (str b) m)))
  said_fits (ok d) m n h = stored_fits n d (make limit (str d) m) h
  said_fits (bad e) m n h = tt

  string_of_fits : (s : List ℕ) → FitsR length (length s) (string_of s)
  unfolding string_of
  string_of_fits s =
      by_end_fits (decode Plain s).how _ (length s) (on (blank (drop (decode Plain s).span s)) (λ e. rw e (decode_fits Plain s)) (λ e. rw e tt))

  string_fits : (s : List ℕ) (m : ℕ) → Fits (length s) (a_string limit s m)
  unfolding a_string
  string_fits s m = said_fits (string_of s) m (length s) (string_of_fits s)

  had_fits : (a : R Value) (m n : ℕ) → Fits n (ok_then_got a (λ v. storing [] (make limit v m)))
  had_fits (ok v) m n = stored_fits n [] (make limit v m) (omega arith)
  had_fits (bad e) m n = tt

  plain_fits : (s : List ℕ) (m : ℕ) → Fits (length s) (a_plain limit s m)
  unfolding a_plain
  plain_fits s m = had_fits (plain s) m (length s)

  one_fits : (b : List ℕ → Reader Value) → ((s : List ℕ) (m : ℕ) → Fits (length s) (b s m)) → (s : List ℕ) (m : ℕ) → Fits (length s) (one limit b s m)
  unfolding one
  one_fits b h s m =
      on (eqb (get_or s 0 0) 34) (λ e. rw e (grow (a_string limit (drop 1 s) m) (length (drop 1 s)) (length s) (drop_fits 1 s) (string_fits (drop 1 s) m)))
      (λ e. rw e (on (eqb (get_or s 0 0) 91) (λ g. rw g (grow (b (drop 1 s) m) (length (drop 1 s)) (length s) (drop_fits 1 s) (h (drop 1 s) m))) (λ g. rw g (plain_fits s m))))

  grown_fits : {X : Type 0} (a : Grown X) (n : ℕ) (f : X → ℕ → Got Value) → ((x : X) (m : ℕ) → Fits n (f x m)) → Fits n (grow_then_got a f)
  grown_fits (grown x m) n f h = h x m
  grown_fits (stuck e) n f h = tt

  array_fits : (v : List ℕ → Reader Value) → ((s : List ℕ) (m : ℕ) → Fits (length s) (v s m)) → (s : List ℕ) (m : ℕ) → Fits (length s) (an_array limit v s m)
  unfolding an_array
  array_fits v h s m =
      on (eqb (final s) 93)
      (λ e. rw e (grown_fits (make limit none' m) (length s) _ (λ _ n. change_fits array (length s) (each v (items_of (take (length s - 1) s)) n)
      (grow (each v (items_of (take (length s - 1) s)) n) (total (items_of (take (length s - 1) s))) (length s)
      (omega (arith, items_fit (take (length s - 1) s), take_fits (length s - 1) s)) (each_fits v h (items_of (take (length s - 1) s)) n)))))
      (λ e. rw e tt)

  trimmed : (b : List ℕ → Reader Value) → ((s : List ℕ) (m : ℕ) → Fits (length s) (b s m)) → (s : List ℕ) (m : ℕ) → Fits (length s) (one limit b (trim s) m)
  trimmed b h s m = grow (one limit b (trim s) m) (length (trim s)) (length s) (trim_fits s) (one_fits b h (trim s) m)

  brackets_fit : (d : ℕ) (s : List ℕ) (m : ℕ) → Fits (length s) (brackets limit d s m)
  brackets_fit zero s m = tt
  brackets_fit (suc d) s m = array_fits (λ l. one limit (brackets limit d) (trim l)) (λ l n. trimmed (brackets limit d) (λ t k. brackets_fit d t k) l n) s m

  value_fits : (d : ℕ) (s : List ℕ) (m : ℕ) → Fits (length s) (value limit d s m)
  unfolding value
  value_fits d s m = trimmed (brackets limit d) (λ t k. brackets_fit d t k) s m

-- ---- lines

-- the bytes of a line that are read on
abbrev read : Form → ℕ
read (pushes k) = length k
read (heads k) = length k
read (sets k v) = length k + length v
read neither = 0

inner_fits : (i j : ℕ) (l : List ℕ) → length (take i (drop j l)) ≤ length l
inner_fits i j l = simp (length-take, length-drop) (omega arith)

halves_fit : (i : ℕ) (l : List ℕ) → length (take i l) + length (drop (suc i) l) ≤ length l
halves_fit i l = simp (length-take, length-drop) (omega arith)

form_fits : (l : List ℕ) → read (form l) ≤ length l
unfolding form
form_fits l =
    on (Rattle.meaning.specs.Document.array_header l) (λ e. rw e (inner_fits (length l - 4) 2 l))
    (λ e. rw e (on (Rattle.meaning.specs.Document.table_header l) (λ f. rw f (inner_fits (length l - 2) 1 l))
    (λ f. rw f (on (ltb (up_to 61 Outside l) (length l)) (λ g. rw g (halves_fit (up_to 61 Outside l) l)) (λ g. rw g (omega arith))))))

module _ (lim : Limits) where
  path_fits : (s : List ℕ) (a : R (List (List ℕ))) (f : List (List ℕ) → Grown Doc) → FitsR bytes_in (length s) a → Fits (length s) (ok_then_got a (λ p. storing (concat p) (f p)))
  path_fits s (ok p) f h = stored_fits (length s) (concat p) (f p) h
  path_fits s (bad e) f h = tt

  setting_fits : (k v : List ℕ) (d : Doc) (m : ℕ) → Fits (length v + length k) (assignment lim k v d m)
  unfolding assignment
  setting_fits k v d m =
      on (nil? k) (λ e. rw e tt)
      (λ e. rw e (onward_fits (length v) (length k) (value lim.values lim.arrays v m) _ (value_fits lim.values lim.arrays v m)
      (λ x n. path_fits k (keys lim.segments k) (λ p. grow_map (λ t. record { root = t; under = d.under }) (under_header d.under (assign lim.values p x) d.root n))
      (keys_fit lim.segments k))))

  act_fits : (f : Form) (d : Doc) (m : ℕ) → Fits (read f) (read_form lim f d m)
  unfolding read_form
  act_fits (pushes k) d m =
      path_fits k (keys lim.segments k) (λ p. grow_map (λ t. record { root = t; under = arrays p }) (push lim.values p d.root m)) (keys_fit lim.segments k)
  act_fits (heads k) d m =
      path_fits k (keys lim.segments k) (λ p. grow_map (λ t. record { root = t; under = tables p }) (open_tables lim.values p d.root m)) (keys_fit lim.segments k)
  act_fits (sets k v) d m =
      grow (assignment lim (trim k) v d m) (length v + length (trim k)) (length k + length v) (omega (arith, trim_fits k)) (setting_fits (trim k) v d m)
  act_fits neither d m = tt

  line_fits : (l : List ℕ) (d : Doc) (m : ℕ) → Fits (length l) (read_form lim (form (trim l)) d m)
  line_fits l d m = grow (read_form lim (form (trim l)) d m) (read (form (trim l))) (length l) (omega (arith, form_fits (trim l), trim_fits l)) (act_fits (form (trim l)) d m)

-- an accepted answer whose measure f is at most n
abbrev pub Within : {X : Type 0} → (X → ℕ) → ℕ → Answer X → Type 0
Within f n (accepted x) = f x ≤ n
Within f n (refused e s p) = Unit {0}

abbrev pub stored : Parsed → ℕ
stored r = length r.bytes

abbrev texts : List Line → ℕ
texts [] = 0
texts (l ∷ ls) = length l.text + texts ls

after_fits : (n k : ℕ) (bs : List ℕ) (a : Answer Parsed) → length bs ≤ n → Within stored k a → Within stored (n + k) (Rattle.meaning.specs.Document.stored_first bs a)
after_fits n k bs (accepted r) h g = simp length-append (omega arith)
after_fits n k bs (refused e s p) h g = tt

reading_fits : (at n k : ℕ) (g : Got Doc) (f : Doc → ℕ → Answer Parsed) → Fits n g → ((e : Doc) (m : ℕ) → Within stored k (f e m)) → Within stored (n + k) (line_then at g f)
reading_fits at n k (got e bs m) f h s = after_fits n k bs (f e m) h (s e m)
reading_fits at n k (failed e) f h s = tt

lines_fit : (lim : Limits) (d : Doc) (ls : List Line) (m : ℕ) → Within stored (texts ls) (read_lines lim d ls m)
lines_fit lim d [] m = omega arith
lines_fit lim d (l ∷ ls) m =
    reading_fits l.at (length l.text) (texts ls) (read_form lim (form (trim l.text)) d m) _ (line_fits lim l.text d m) (λ e n. lines_fit lim e ls n)

-- each line with the LF after it
abbrev ends_in_lem : List Line → ℕ
ends_in_lem [] = 0
ends_in_lem (l ∷ ls) = length l.text + 1 + ends_in_lem ls

abbrev with_ends : List (List ℕ) → ℕ
with_ends [] = 0
with_ends (l ∷ ls) = length l + 1 + with_ends ls

abbrev held : Pending → ℕ
held closed = 0
held (open' at t) = length t + 1

abbrev after_step : Step → ℕ
after_step s = ends_in_lem s.out + held s.pending

settle_fits : (at : ℕ) (t : List ℕ) (f : Fate) → Within after_step (length t + 1) (settle at t f)
settle_fits at t Over = tt
settle_fits at t Unended = omega arith
settle_fits at t Whole = omega arith

within_more : {X : Type 0} (f : X → ℕ) (n m : ℕ) (a : Answer X) → n ≤ m → Within f n a → Within f m a
within_more f n m (accepted x) h g = omega arith
within_more f n m (refused e s p) h g = tt

join_one_fits : (p : Pending) (n : ℕ) (l : List ℕ) → Within after_step (held p + (length l + 1)) (join_one p n l)
unfolding join_one
join_one_fits closed n l =
    on (blank l) (λ e. rw e (omega arith))
    (λ e. rw e (within_more after_step (length l + 1) (0 + (length l + 1)) (settle n l (fate (scan fresh l))) (omega arith) (settle_fits n l (fate (scan fresh l)))))
join_one_fits (open' at t) n l =
    within_more after_step (length (t ++ (10 ∷ l)) + 1) (length t + 1 + (length l + 1)) (settle at (t ++ (10 ∷ l)) (fate (scan fresh (t ++ (10 ∷ l)))))
    (simp length-append (omega arith)) (settle_fits at (t ++ (10 ∷ l)) (fate (scan fresh (t ++ (10 ∷ l)))))

ends_append : (a b : List Line) → ends_in_lem (a ++ b) ≡ ends_in_lem a + ends_in_lem b
ends_append [] b = omega arith
ends_append (l ∷ a) b = omega (arith, ends_append a b)

rest_fits : (out : List Line) (n k : ℕ) (a : Answer (List Line)) → ends_in_lem out + n ≤ k → Within ends_in_lem n a → Within ends_in_lem k (accepted_then a (λ r. accepted (out ++ r)))
rest_fits out n k (accepted r) h g = omega (arith, ends_append out r)
rest_fits out n k (refused e s p) h g = tt

step_fits : (k w : ℕ) (a : Answer Step) (f : Step → Answer (List Line)) → Within after_step k a → ((s : Step) → Within ends_in_lem (held s.pending + w) (f s)) → Within ends_in_lem (k + w) (accepted_then a (λ s. accepted_then (f s) (λ r. accepted (s.out ++ r))))
step_fits k w (accepted s) f h g = rest_fits s.out (held s.pending + w) (k + w) (f s) (omega arith) (g s)
step_fits k w (refused e x y) f h g = tt

kept_fits : (l : List ℕ) → length (kept l) ≤ length l
unfolding kept
kept_fits l = take_fits (up_to 35 Outside l) l

close_fits : (p : Pending) → Within ends_in_lem (held p + 0) (at_close p)
close_fits closed = omega arith
close_fits (open' at t) = tt

join_fits : (p : Pending) (n : ℕ) (ls : List (List ℕ)) → Within ends_in_lem (held p + with_ends ls) (join p n ls)
join_fits p n [] = close_fits p
join_fits p n (l ∷ ls) =
    within_more ends_in_lem (held p + (length l + 1) + with_ends ls) (held p + (length l + 1 + with_ends ls)) (join p n (l ∷ ls)) (omega arith)
    (step_fits (held p + (length l + 1)) (with_ends ls) (join_one p n l) (λ s. join s.pending (n + 1) ls) (join_one_fits p n l) (λ s. join_fits s.pending (n + 1) ls))

kept_lines_fit : (ls : List (List ℕ)) → with_ends (kept_lines ls) ≤ with_ends ls
kept_lines_fit [] = omega arith
kept_lines_fit (l ∷ ls) = omega (arith, kept_fits l, kept_lines_fit ls)

drop_cr_fits : (l : List ℕ) → length (drop_cr l) ≤ length l
unfolding drop_cr
drop_cr_fits l = on (eqb (final l) 13) (λ e. rw e (take_fits (length l - 1) l)) (λ e. rw e (omega arith))

first_ends : (b : ℕ) (ls : List (List ℕ)) → with_ends (on_first b ls) ≤ suc (with_ends ls) + 1
first_ends b [] = omega arith
first_ends b (l ∷ ls) = omega arith

-- the parts of a text, each with its end, are one longer than the text
cut_ends : (c : ℕ) (s : List ℕ) → with_ends (cut c s) ≡ length s + 1
cut_ends c [] = omega arith
cut_ends c (b ∷ s) =
    on (eqb b c) (λ e. rw e (omega (arith, cut_ends c s)))
    (λ e. rw e (omega (arith, cut_ends c s, put_first (cut c s) (cut_ends c s))))
  where
    put_first : (ls : List (List ℕ)) → with_ends ls ≡ length s + 1 → with_ends (on_first b ls) ≡ with_ends ls + 1
    put_first [] h = let z : ⊥ = omega arith in absurd z
    put_first (l ∷ ls) h = omega arith

ended_fits : (ls : List (List ℕ)) → with_ends (ended ls) ≤ with_ends ls
ended_fits [] = omega arith
ended_fits (l ∷ []) = on (nil? l) (λ e. rw e (omega arith)) (λ e. rw e (omega arith))
ended_fits (l ∷ k ∷ ls) = omega (arith, drop_cr_fits l, ended_fits (k ∷ ls))

physical_fits : (s : List ℕ) → with_ends (physical s) ≤ length s + 1
unfolding physical
physical_fits s = omega (arith, ended_fits (cut 10 s), cut_ends 10 s)

texts_fit : (ls : List Line) (n : ℕ) → ends_in_lem ls ≤ n + 1 → texts ls ≤ n
texts_fit [] n h = omega arith
texts_fit (l ∷ ls) n h = omega (arith, less ls)
  where
    less : (ks : List Line) → texts ks ≤ ends_in_lem ks
    less [] = omega arith
    less (k ∷ ks) = omega (arith, less ks)

lines_in_lem : (lim : Limits) (n : ℕ) (a : Answer (List Line)) → Within ends_in_lem (n + 1) a → Within stored n (accepted_then a (λ ls. read_lines lim (record { root = empty; under = tables [] }) ls 0))
lines_in_lem lim n (accepted ls) h =
    within_more stored (texts ls) n (read_lines lim (record { root = empty; under = tables [] }) ls 0) (texts_fit ls n h) (lines_fit lim (record { root = empty; under = tables [] }) ls 0)
lines_in_lem lim n (refused e s p) h = tt

-- what a text adds to the store is no longer than the text
pub fits : (lim : Limits) (s : List ℕ) → Within stored (length s) (document lim s)
unfolding document joined
fits lim s =
    on (ltb lim.text (length s)) (λ e. rw e tt)
    (λ e. rw e (on (valid s)
    (λ v. rw v (lines_in_lem lim (length s) (join closed 1 (kept_lines (physical s))) (within_more ends_in_lem (0 + with_ends (kept_lines (physical s))) (length s + 1) (join closed 1 (kept_lines (physical s))) (omega (arith, physical_fits s, kept_lines_fit (physical s))) (join_fits closed 1 (kept_lines (physical s))))))
    (λ v. rw v tt)))
