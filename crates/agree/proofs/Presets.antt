-- What is read from the rooms is what 01 says of the tree: the lists entry by entry, and everything.
use Prim.Native.Nat.{ℕ, zero, suc, ◌+◌, ◌≤◌}
use Rattle.std.proofs.Math.Bool.{true}
use Rattle.std.specs.Prelude.{List as Seq, [], ◌∷◌, map, ◌≡◌, pos, negsuc, Option as Maybe, Some, None}
use Rattle.std.proofs.Math.Option.{Option, none, some}
use Rattle.std.proofs.Math.Path.{refl}
use Rattle.std.proofs.Common.{ap, arith}
use borrow.Author.Tests.{ltb-true, ltb-false, lt-ltb, le-leb}
use Rattle.std.proofs.Math.Dec.{ltb}
use Rattle.std.proofs.Math.ListN.{length}
use Rattle.meaning.specs.Base.{or_default, ascii}
use Rattle.meaning.specs.declared.Limits.{Limits}
use Rattle.meaning.specs.Refusal.{R, ok, bad, ok_then, in_application}
use Rattle.meaning.specs.Tree.{Value, Items, Table, none', str, int, boolean, array, table, empty, as_table, lookup}
use Rattle.meaning.specs.Order.{sorted}
use Rattle.meaning.specs.Fields.{an_array, a_table, need, present, field, values, Row, rows, or_then, table_at, list_at, tabled, listed}
use Rattle.meaning.specs.Records as records
use Rattle.meaning.specs.Files.{file_name}
use Rattle.laws.specs.Cases.{on}
use Rattle.tree.specs.declared.Slot.{Slot}
use Rattle.tree.specs.declared.Fields.{Fields}
use Rattle.tree.specs.declared.Value.{Value as Read}
use Rattle.tree.specs.Room.{slot_at}
use Rattle.tree.specs.Order.{next}
use Rattle.tree.specs.Doors as doors
use Rattle.schema.specs.declared.Text.{Text}
use Rattle.schema.specs.Texts.{clip, spelled}
use Rattle.agree.specs.Reads.{Place}
use Rattle.agree.specs.Doors.{Sees, Standing, Told, Row-seen, value_for}
use Rattle.agree.proofs.Doors.{All-see, Rows-see, field_sees, items_see, rows_see}
use Rattle.parse.specs.declared.entry.List.{List}
use Rattle.parse.specs.File.{piece_of, Inside, file_at}
use Rattle.parse.specs.Entries as entries
use Rattle.parse.specs.Entries.{refusal_of}
use Rattle.parse.specs.Front as front
use Rattle.parse.specs.Refused.{partition_numbers, component_numbers, application_numbers, partitions_verdict, components_verdict, applications_verdict, verdict}
use Rattle.parse.specs.Reads.{Gives, gives_ok, gives_via}
use Rattle.agree.proofs.Groups.{partition_got, component_got, application_got}
use Rattle.parse.specs.Answers.{Says, says_after, says_made, says_told}
use Rattle.parse.specs.Whole.{Pairs, partition_of, component_of, application_of, preset_meant, listed_says}
use Rattle.agree.proofs.Fronts.{Fielded, Tabled, no_table_lem, one_table, front_says}

-- ---- lists

module _ (room store bytes : Seq ℕ) (vs : Seq Slot) (x : Value) (made : ℕ) where
  -- a reader of a list gives some values, and the numbers of its entries are seen as them
  pub record Listed (m : R (Seq Value)) (l : List) : Type 0 where
    pub all : Seq Value
    pub gives : Gives m l.fault all
    pub sees : All-see room store bytes vs x made all (doors.items room l.end l.place 0)

  -- steps by key meet these entries, and then nothing
  abbrev pub Walked : ℕ → ℕ → Maybe ℕ → Seq Row → Type 0
  Walked end p after [] = next (slot_at room) store end p after ≡ None
  Walked end p after (r ∷ rest) = (n : ℕ) × (next (slot_at room) store end p after ≡ Some n) × Row-seen room store bytes vs x made n r × Walked end p (Some n) rest

  -- a reader of a table gives one, and the walk meets its entries in byte order of key
  pub record Keys (m : R Table) (l : List) : Type 0 where
    pub it : Table
    pub gives : Gives m l.fault it
    pub walked : Walked l.end l.place None (rows (sorted it))

module _ (room store bytes : Seq ℕ) (vs : Seq Slot) (x : Value) (made : ℕ) (h : Told room store bytes vs x made) where
  no_list_lem : (m : R (Seq Value)) (n : ℕ) → Gives m n [] → Listed room store bytes vs x made m (entries.no_list n)
  unfolding doors.items
  no_list_lem m n g = record { all = []; gives = g; sees = tt }

  one_list : (p : ℕ) (is : Items) → Place bytes vs x p (array is) → Listed room store bytes vs x made (ok (values is)) (record { fault = 0; place = p; end = made })
  one_list p is g = record { all = values is; gives = gives_ok; sees = items_see room store bytes vs x made h p is g }

  wrong : {X : Type 0} {y : X} → Gives (bad 20) 20 y
  wrong = record { got = (refl, omega arith) }

  many_by : (o : Option Value) (v : Read) (from place : ℕ) → v ≡ value_for from place o → Standing bytes vs x place o
      → Listed room store bytes vs x made (ok_then (present an_array o) (λ found. ok (values (or_default found none')))) (entries.list_of made v)
  unfolding an_array
  many_by none v from place e g = rw e (no_list_lem (ok []) 0 gives_ok)
  many_by (some (str s)) v from place e g = rw e (no_list_lem (bad 20) 20 wrong)
  many_by (some (int (pos n))) v from place e g = rw e (no_list_lem (bad 20) 20 wrong)
  many_by (some (int (negsuc n))) v from place e g = rw e (no_list_lem (bad 20) 20 wrong)
  many_by (some (boolean b)) v from place e g = rw e (no_list_lem (bad 20) 20 wrong)
  many_by (some (array is)) v from place e g = rw e (one_list place is g)
  many_by (some (table t)) v from place e g = rw e (no_list_lem (bad 20) 20 wrong)

  -- "`partitions` and `components` are taken only where the singular is absent."
  list_by_lem : (o q : Option Value) (v w : Read) → Sees store bytes vs x o v → Sees store bytes vs x q w
      → Listed room store bytes vs x made (ok_then (present an_array o) (λ single. ok_then (or_then (present an_array q) single) (λ found. ok (values (or_default found none'))))) (entries.list_of made (entries.or_other v w))
  unfolding an_array
  list_by_lem none q v w s t = rw s.is (many_by q w t.from t.place t.is t.stands)
  list_by_lem (some (str a)) q v w s t = rw s.is (no_list_lem (bad 20) 20 wrong)
  list_by_lem (some (int (pos n))) q v w s t = rw s.is (no_list_lem (bad 20) 20 wrong)
  list_by_lem (some (int (negsuc n))) q v w s t = rw s.is (no_list_lem (bad 20) 20 wrong)
  list_by_lem (some (boolean b)) q v w s t = rw s.is (no_list_lem (bad 20) 20 wrong)
  list_by_lem (some (array is)) q v w s t = rw s.is (one_list s.place is s.stands)
  list_by_lem (some (table u)) q v w s t = rw s.is (no_list_lem (bad 20) 20 wrong)

  pub list_got : (root : Table) (f : Fields) → Fielded room store bytes vs x root f → (one many : Seq ℕ)
      → Listed room store bytes vs x made (list_at root one many) (entries.list_at room store made f one many)
  unfolding list_at field
  list_got root f fs one many = list_by_lem (lookup root one) (lookup root many) (doors.field room store f one) (doors.field room store f many) (fs one) (fs many)

  -- ---- an entry

  other : Tabled room store bytes vs x (bad 23) (front.no_table 23)
  other = no_table_lem room store bytes vs x made h (bad 23) 23 (record { got = (refl, omega arith) })

  entry_by : (v : Value) (w : Read) (from place : ℕ) → w ≡ value_for from place (some v) → Standing bytes vs x place (some v)
      → Tabled room store bytes vs x (need 23 (as_table v)) (entries.entry_table room made w)
  entry_by (str s) w from place e g = rw e other
  entry_by (int (pos n)) w from place e g = rw e other
  entry_by (int (negsuc n)) w from place e g = rw e other
  entry_by (boolean b) w from place e g = rw e other
  entry_by (array is) w from place e g = rw e other
  entry_by (table t) w from place e g = rw e (one_table room store bytes vs x made h place t g)

  pub entry_got : (v : Value) (n : ℕ) → Sees store bytes vs x (some v) (doors.value_at room store n)
      → Tabled room store bytes vs x (need 23 (as_table v)) (entries.table_at room store made n)
  entry_got v n s = entry_by v (doors.value_at room store n) s.from s.place s.is s.stands

  module _ (name : Seq ℕ) where
    pub partition_at_got : (v : Value) (n : ℕ) → Sees store bytes vs x (some v) (doors.value_at room store n)
        → Gives (tabled records.partition_from v) (entries.partition_at room store made n).fault (partition_of room store made name n)
    unfolding tabled entries.partition_at
    partition_at_got v n s =
        let e = entry_got v n s in
        gives_via _ e.gives (partition_got room store bytes vs x made h name e.it (entries.table_at room store made n).fields e.fields)

    module _ (named : (s : Seq ℕ) → piece_of s (file_at s) ≡ file_name s) (inside : (s : Seq ℕ) → Inside s (file_at s)) (limit : ℕ) where
      pub component_at_got : (v : Value) (n : ℕ) → Sees store bytes vs x (some v) (doors.value_at room store n)
          → Gives (tabled (records.component_from limit) v) (entries.component_at room store made n limit).fault (component_of room store made name limit n)
      unfolding tabled entries.component_at
      component_at_got v n s =
          let e = entry_got v n s in
          gives_via _ e.gives (component_got room store bytes vs x made h name e.it (entries.table_at room store made n).fields e.fields limit named inside)

    pub application_at_got : (limit : ℕ) (r : Row) (n : ℕ) → Row-seen room store bytes vs x made n r
        → Gives (records.application_at limit r) (entries.application_at room store made n limit).fault (application_of room store made name limit n)
    unfolding tabled entries.application_at clip
    application_at_got limit r n s =
        let e = entry_got r.value n s.sees in
        let v = slot_at room n in
        let k : clip v.key v.len store ≡ r.key = rw (le-leb (v.key + v.len) (length store) s.fits) s.key in
        gives_via _ e.gives
        (rw k at (application_got room store bytes vs x made h name e.it (entries.table_at room store made n).fields e.fields limit v.key v.len))

  -- ---- a list of entries

  all_pairs : {X : Type 0} (way : Value → R X) (fault : ℕ → ℕ) (value : ℕ → X)
      → ((v : Value) (n : ℕ) → Sees store bytes vs x (some v) (doors.value_at room store n) → Gives (way v) (fault n) (value n))
      → (all : Seq Value) (ns : Seq ℕ) → All-see room store bytes vs x made all ns → Pairs way fault value all ns
  all_pairs way fault value g [] [] a = tt
  all_pairs way fault value g [] (n ∷ ns) a = absurd a
  all_pairs way fault value g (v ∷ rest) [] a = absurd a
  all_pairs way fault value g (v ∷ rest) (n ∷ ns) a = (g v n a.2, all_pairs way fault value g rest ns a.3)

  module _ (name : Seq ℕ) (root : Table) (f : Fields) (fs : Fielded room store bytes vs x root f) (lim : Limits) where
    pub partitions_says : Says (records.partitions_of lim root) (partitions_verdict room store made f lim) (map (partition_of room store made name) (partition_numbers room store made f))
    unfolding records.partitions_of
    partitions_says =
        let l = entries.list_at room store made f (ascii "partition") (ascii "partitions") in
        let s = list_got root f fs (ascii "partition") (ascii "partitions") in
        let ns = doors.items room l.end l.place 0 in
        says_after _ (says_told 3 0 s.gives)
        (listed_says (tabled records.partition_from) (λ n. (entries.partition_at room store made n).fault) (partition_of room store made name)
        (λ n. (entries.partition_at room store made n).partition) 3 s.all ns lim.partitions
        (all_pairs (tabled records.partition_from) (λ n. (entries.partition_at room store made n).fault) (partition_of room store made name) (partition_at_got name) s.all ns s.sees))

    module _ (named : (s : Seq ℕ) → piece_of s (file_at s) ≡ file_name s) (inside : (s : Seq ℕ) → Inside s (file_at s)) where
      pub components_says : Says (records.components_of lim root) (components_verdict room store made f lim)
          (map (component_of room store made name lim.features) (component_numbers room store made f))
      unfolding records.components_of
      components_says =
          let l = entries.list_at room store made f (ascii "component") (ascii "components") in
          let s = list_got root f fs (ascii "component") (ascii "components") in
          let ns = doors.items room l.end l.place 0 in
          let way = tabled (records.component_from lim.features) in
          let fault : ℕ → ℕ = λ n. (entries.component_at room store made n lim.features).fault in
          says_after _ (says_told 4 0 s.gives)
          (listed_says way fault (component_of room store made name lim.features)
          (λ n. (entries.component_at room store made n lim.features).component) 4 s.all ns lim.components
          (all_pairs way fault (component_of room store made name lim.features) (component_at_got name named inside lim.features) s.all ns s.sees))

  -- ---- a walk by key

  rows_walked : (p : ℕ) (after : Maybe ℕ) (rs : Seq Row) → Rows-see room store bytes vs x made p after rs → Walked room store bytes vs x made made p after rs
  rows_walked p after [] w = w
  rows_walked p after (r ∷ rest) w = (w.0, w.1, w.2, rows_walked p (Some w.0) rest w.3)

  walk_pairs : {X : Type 0} (way : Row → R X) (fault : ℕ → ℕ) (value : ℕ → X) → ((r : Row) (n : ℕ) → Row-seen room store bytes vs x made n r → Gives (way r) (fault n) (value n))
      → (end p : ℕ) (rs : Seq Row) (after : Maybe ℕ) (k : ℕ) → Walked room store bytes vs x made end p after rs → length rs ≤ k → Pairs way fault value rs (entries.walk room store end p k after)
  walk_pairs way fault value g end p [] after zero w l = tt
  walk_pairs way fault value g end p [] after (suc k) w l = rw w tt
  walk_pairs way fault value g end p (r ∷ rest) after zero w l = absurd (omega arith)
  walk_pairs way fault value g end p (r ∷ rest) after (suc k) w l =
      rw w.1 (g r w.0 w.2, walk_pairs way fault value g end p rest (Some w.0) k w.3 (omega arith))

  pub walk_long : (end p : ℕ) (rs : Seq Row) (after : Maybe ℕ) (k : ℕ) → Walked room store bytes vs x made end p after rs → k ≤ length rs → length (entries.walk room store end p k after) ≡ k
  walk_long end p [] after zero w l = refl
  walk_long end p [] after (suc k) w l = absurd (omega arith)
  walk_long end p (r ∷ rest) after zero w l = refl
  walk_long end p (r ∷ rest) after (suc k) w l = rw w.1 (ap suc (walk_long end p rest (Some w.0) k w.3 (omega arith)))

  no_keys : (m : R Table) (n : ℕ) → Gives m n empty → Keys room store bytes vs x made m (entries.no_list n)
  unfolding next
  no_keys m n g = record { it = empty; gives = g; walked = refl }

  keys_by : (o : Option Value) (v : Read) (from place : ℕ) → v ≡ value_for from place o → Standing bytes vs x place o
      → Keys room store bytes vs x made (ok_then (present a_table o) (λ p. ok (or_default p empty))) (entries.keys_of made v)
  unfolding a_table
  keys_by none v from place e g = rw e (no_keys (ok empty) 0 gives_ok)
  keys_by (some (str s)) v from place e g = rw e (no_keys (bad 20) 20 wrong)
  keys_by (some (int (pos n))) v from place e g = rw e (no_keys (bad 20) 20 wrong)
  keys_by (some (int (negsuc n))) v from place e g = rw e (no_keys (bad 20) 20 wrong)
  keys_by (some (boolean b)) v from place e g = rw e (no_keys (bad 20) 20 wrong)
  keys_by (some (array is)) v from place e g = rw e (no_keys (bad 20) 20 wrong)
  keys_by (some (table t)) v from place e g =
      rw e
      (record {
        it = t;
        gives = gives_ok;
        walked = rows_walked place None (rows (sorted t)) (rows_see room store bytes vs x made h place t g);
      })

  pub keys_got : (root : Table) (f : Fields) → Fielded room store bytes vs x root f → Keys room store bytes vs x made (table_at root (ascii "apps")) (entries.keys_at room store made f)
  unfolding table_at field
  keys_got root f fs =
      let s = fs (ascii "apps") in
      keys_by (lookup root (ascii "apps")) (doors.field room store f (ascii "apps")) s.from s.place s.is s.stands

  module _ (name : Seq ℕ) where
    walk_says : (limit most end p : ℕ) (rs : Seq Row) → Walked room store bytes vs x made end p None rs
        → Says (listed (records.application_at limit) in_application most rs)
        (refusal_of (listed (entries.application_r room store made limit) in_application most (entries.walk room store end p (most + 1) None)))
        (map (application_of room store made name limit) (entries.walk room store end p (most + 1) None))
    unfolding listed
    walk_says limit most end p rs w =
        on (ltb most (length rs))
        (λ e.
        let l : most + 1 ≤ length rs = omega (arith, ltb-true most (length rs) e) in
        let d : ltb most (most + 1) ≡ true = lt-ltb most (most + 1) (omega arith) in
        rw (e, walk_long end p rs None (most + 1) w l, d) (record { told_by = (refl, omega arith) }))
        (λ e.
        listed_says (records.application_at limit) (λ n. (entries.application_at room store made n limit).fault) (application_of room store made name limit)
        (λ n. (entries.application_at room store made n limit).application) 5 rs (entries.walk room store end p (most + 1) None) most
        (walk_pairs (records.application_at limit) (λ n. (entries.application_at room store made n limit).fault) (application_of room store made name limit) (application_at_got name limit) end p
        rs None (most + 1) w (omega (arith, ltb-false most (length rs) e))))

    pub applications_says : (root : Table) (f : Fields) → Fielded room store bytes vs x root f → (lim : Limits)
        → Says (records.applications_of lim root) (applications_verdict room store made f lim)
        (map (application_of room store made name lim.features) (application_numbers room store made f lim.applications))
    unfolding records.applications_of
    applications_says root f fs lim =
        let l = entries.keys_at room store made f in
        let s = keys_got root f fs in
        says_after _ (says_told 5 0 s.gives) (walk_says lim.features lim.applications l.end l.place (rows (sorted s.it)) s.walked)

  -- ---- everything

  module _ (named : (s : Seq ℕ) → piece_of s (file_at s) ≡ file_name s) (inside : (s : Seq ℕ) → Inside s (file_at s)) (name given : Seq ℕ) (lent : Text)
      (lends : records.lent_name given ≡ spelled store name lent) (lim : Limits) (root : Table) where
    pub preset_fields_says : (f : Fields) → Fielded room store bytes vs x root f
        → Says (records.preset_of lim given root) (verdict room store made f lim lent) (preset_meant room store made name f lim lent)
    unfolding records.preset_of verdict
    preset_fields_says f fs =
        says_after _ (rw (← lends) at (front_says room store bytes vs x made h name root f fs lent))
        (says_after _ (partitions_says name root f fs lim)
        (says_after _ (components_says name root f fs lim named inside) (says_made _ (applications_says name root f fs lim))))

    -- what is read from the rooms whose root stands for a table is what 01 says of that table
    pub preset_says : Place bytes vs x 1 (table root)
        → Says (records.preset_of lim given root) (verdict room store made (doors.fields_of room made 1) lim lent)
        (preset_meant room store made name (doors.fields_of room made 1) lim lent)
    preset_says g = preset_fields_says (doors.fields_of room made 1) (field_sees room store bytes vs x made h 1 root g)
