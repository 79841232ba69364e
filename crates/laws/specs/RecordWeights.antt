-- What the listing prints of a record stands in its table, each at a place of its own: together it is no longer than the table is heavy.
use Rattle.std.specs.Prelude.{ℕ, suc, ◌+◌, ◌*◌, ◌≤◌, true, ◌≡◌, refl, eqb, ltb}
use Rattle.std.proofs.Math.Bool.{false}
use mathlib.Core.List.{List, [], ◌∷◌, ◌++◌}
use Rattle.std.proofs.Math.Option.{Option, none, some}
use Rattle.std.proofs.Common.{sym, subst, ltb-false, length-take}
use native.Mathlib.Omega.{arith}
use Rattle.std.proofs.Math.ListN.{length}
use Rattle.meaning.specs.Base.{pick, ascii, nil?, same, less, or_default, first_given, cut, on_first}
use Rattle.meaning.specs.Refusal.{R, ok, bad, ok_then}
use Rattle.meaning.specs.Tree.{Value, Items, Table, str, int, boolean, array, table, none', item, empty, entry, count, lookup, as_string, as_table, as_array}
use Rattle.meaning.specs.Schema.{Chip, Board, Partition, Head, Role, Boot, Component, Application, kind_of, kindRaw, target_for}
use Rattle.meaning.specs.Verdict.{among}
use Rattle.meaning.specs.Fields.{need, a_text, a_flag, a_number, a_word, an_array, a_table, field, present, defaulted, required}
use Rattle.meaning.specs.Features.{words, texts, placed, ordered, counted, a_features}
use Rattle.meaning.specs.Files.{piece?, last_piece, not_up, file_name, last_dot, stem_of, stemmed, file_stem}
use Rattle.meaning.specs.Records.{board_from, partition_from, filename_for, head_from, role_from, boot_from, load_from, component_from, application_from}
use Rattle.meaning.specs.Plan.{own_stem, stem_of_file}
use Rattle.laws.specs.Cases.{on, picked, never}
use Rattle.laws.specs.Order.{same_eq}
use Rattle.laws.specs.Accepted.{Apart}
use Rattle.laws.specs.Weights.{weight, weight_all, weight_in, size, string_weighs, table_weighs, array_weighs}

-- the sum of what f says of each
abbrev pub sum : {X : Type 0} → (X → ℕ) → List X → ℕ
sum f [] = 0
sum f (x ∷ xs) = f x + sum f xs

-- ---- the keys of a table

-- what stands under a key
abbrev pub held : Table → List ℕ → ℕ
held t k = size weight (lookup t k)

held_none : (ks : List (List ℕ)) → sum (held empty) ks ≤ 0
held_none [] = omega arith
held_none (k ∷ ks) = omega (arith, held_none ks)

module _ (j : List ℕ) (v : Value) (t : Table) where
  held_other : (ks : List (List ℕ)) → among j ks ≡ false → sum (held (entry j v t)) ks ≤ sum (held t) ks
  held_other [] h = omega arith
  held_other (k ∷ ks) h = on (same j k) (λ e. never {b = true} refl (rw e at h)) (λ e. rw e (omega (arith, held_other ks (rw e at h))))

  held_one : (ks : List (List ℕ)) → Apart ks → sum (held (entry j v t)) ks ≤ weight v + sum (held t) ks
  held_one [] h = omega arith
  held_one (k ∷ ks) h =
      on (same j k)
      (λ e. rw e (omega (arith, held_other ks (subst (λ (i : List ℕ). among i ks ≡ false) (sym (same_eq j k e)) h.0))))
      (λ e. rw e (omega (arith, held_one ks h.1)))

-- different keys of one table hold no more than the table
pub held_weighs : (t : Table) (ks : List (List ℕ)) → Apart ks → sum (held t) ks ≤ weight_in t
held_weighs empty ks h = held_none ks
held_weighs (entry j v t) ks h = omega (arith, held_one j v t ks h, held_weighs t ks h)

-- ---- answers

-- P holds of what is read
abbrev pub Says : {X : Type 0} → (X → Type 0) → R X → Type 0
Says P (ok x) = P x
Says P (bad n) = Unit {0}

module _ {X : Type 0} where
  pub via_says : {Y : Type 0} (P : X → Type 0) (Q : Y → Type 0) (a : R X) (k : X → R Y) → Says P a → ((x : X) → P x → Says Q (k x)) → Says Q (ok_then a k)
  via_says P Q (ok x) k h g = g x h
  via_says P Q (bad n) k h g = tt

  -- nothing is known of what comes first
  skip : {Y : Type 0} (Q : Y → Type 0) (a : R X) (k : X → R Y) → ((x : X) → Says Q (k x)) → Says Q (ok_then a k)
  skip Q (ok x) k g = g x
  skip Q (bad n) k g = tt

  pub weaker : (P Q : X → Type 0) (a : R X) → Says P a → ((x : X) → P x → Q x) → Says Q a
  weaker P Q (ok x) h g = g x h
  weaker P Q (bad n) h g = tt

-- ---- fields

pub need_says : {X : Type 0} (n m : ℕ) (f : X → ℕ) (o : Option X) → size f o ≤ m → Says (λ x. f x ≤ m) (need n o)
need_says n m f none h = tt
need_says n m f (some x) h = h

text_says : (v : Value) → Says (λ s. length s ≤ weight v) (a_text v)
unfolding a_text
text_says v = need_says 20 (weight v) length (as_string v) (string_weighs v)

pub array_says : (v : Value) → Says (λ is. weight_all is ≤ weight v) (an_array v)
unfolding an_array
array_says v = need_says 20 (weight v) weight_all (as_array v) (array_weighs v)

pub table_says : (v : Value) → Says (λ t. weight_in t ≤ weight v) (a_table v)
unfolding a_table
table_says v = need_says 20 (weight v) weight_in (as_table v) (table_weighs v)

module _ {X : Type 0} (f : X → ℕ) (way : Value → R X) (says : (v : Value) → Says (λ x. f x ≤ weight v) (way v)) (t : Table) (k : List ℕ) where
  pub field_says : Says (λ o. size f o ≤ held t k) (field way t k)
  unfolding field
  field_says = go (lookup t k)
    where
      go : (o : Option Value) → Says (λ p. size f p ≤ size weight o) (present way o)
      go none = omega arith
      go (some v) = via_says (λ x. f x ≤ weight v) (λ p. size f p ≤ weight v) (way v) _ (says v) (λ x h. h)

  pub defaulted_says : (d : X) → Says (λ x. f x ≤ f d + held t k) (defaulted way d t k)
  defaulted_says d = via_says (λ o. size f o ≤ held t k) (λ x. f x ≤ f d + held t k) (field way t k) _ field_says go
    where
      go : (o : Option X) → size f o ≤ held t k → f (or_default o d) ≤ f d + held t k
      go none h = omega arith
      go (some x) h = omega arith

  required_says : Says (λ x. f x ≤ held t k) (required way t k)
  required_says = via_says (λ o. size f o ≤ held t k) (λ x. f x ≤ held t k) (field way t k) _ field_says (need_says 24 (held t k) f)

-- ---- features

placed_count : (x : List ℕ) (ys : List (List ℕ)) → length (placed x ys) ≤ suc (length ys)
placed_count x [] = omega arith
placed_count x (y ∷ ys) =
    on (less y x) (λ e. rw e (omega (arith, placed_count x ys))) (λ e. rw e (on (same y x) (λ h. rw h (omega arith)) (λ h. rw h (omega arith))))

ordered_count : (xs : List (List ℕ)) → length (ordered xs) ≤ length xs
ordered_count [] = omega arith
ordered_count (x ∷ xs) = omega (arith, placed_count x (ordered xs), ordered_count xs)

-- so many at most
abbrev Few : ℕ → List (List ℕ) → Type 0
Few n fs = length fs ≤ n

texts_say : (is : Items) → Says (Few (count is)) (texts is)
texts_say none' = omega arith
texts_say (item v is) = skip (Few (count (item v is))) (a_text v) _ (λ s. via_says (Few (count is)) (Few (count (item v is))) (texts is) _ (texts_say is) (λ ss h. omega arith))

counted_says : (limit n : ℕ) (r : R (List (List ℕ))) → Says (Few n) r → Says (Few limit) (counted limit n r)
counted_says limit n r h =
    on (ltb limit n) (λ e. rw e tt) (λ e. rw e (via_says (Few n) (Few limit) r _ h (λ ss k. omega (arith, ordered_count ss, ltb-false limit n e))))

features_say : (limit : ℕ) (v : Value) → Says (Few limit) (a_features limit v)
unfolding a_features
features_say limit (str s) = counted_says limit (length (words s)) (ok (words s)) (omega arith)
features_say limit (int i) = tt
features_say limit (boolean b) = tt
features_say limit (array a) = counted_says limit (count a) (texts a) (texts_say a)
features_say limit (table t) = tt

-- a feature list that may be absent
few_says : (limit : ℕ) (t : Table) (k : List ℕ) → Says (Few limit) (defaulted (a_features limit) [] t k)
unfolding field
few_says limit t k = go (lookup t k)
  where
    got : (r : R (List (List ℕ))) → Says (Few limit) r → Says (Few limit) (ok_then (ok_then r (λ x. ok (some x))) (λ o. ok (or_default o [])))
    got (ok x) h = h
    got (bad n) h = tt

    go : (o : Option Value) → Says (Few limit) (ok_then (present (a_features limit) o) (λ p. ok (or_default p [])))
    go none = omega arith
    go (some v) = got (a_features limit v) (features_say limit v)

-- ---- files

pieces_short : (c : ℕ) (s : List ℕ) → sum length (cut c s) ≤ length s
pieces_short c [] = omega arith
pieces_short c (b ∷ s) = on (eqb b c) (λ e. rw e (omega (arith, pieces_short c s))) (λ e. rw e (omega (arith, first (cut c s), pieces_short c s)))
  where
    first : (ls : List (List ℕ)) → sum length (on_first b ls) ≤ suc (sum length ls)
    first [] = omega arith
    first (l ∷ ls) = omega arith

last_short : (n : ℕ) (ps : List (List ℕ)) (l : Option (List ℕ)) → size length l ≤ n → sum length ps ≤ n → size length (last_piece l ps) ≤ n
last_short n [] l h g = h
last_short n (p ∷ ps) l h g = last_short n ps (pick (piece? p) (some p) l) (picked (λ o. size length o ≤ n) (piece? p) (λ _. omega arith) (λ _. h)) (omega arith)

up_short : (o : Option (List ℕ)) → size length (not_up o) ≤ size length o
unfolding not_up
up_short none = omega arith
up_short (some p) = on (same p (ascii "..")) (λ e. rw e (omega arith)) (λ e. rw e (omega arith))

stemmed_short : (o : Option (List ℕ)) → size length (stemmed o) ≤ size length o
unfolding stem_of
stemmed_short none = omega arith
stemmed_short (some p) = on (eqb (last_dot 0 0 p) 0) (λ e. rw e (omega arith)) (λ e. rw e (simp length-take (omega arith)))

-- a file's stem is no longer than the file
file_short : (o : Option (List ℕ)) → size length (stem_of_file o) ≤ size length o
unfolding file_stem file_name
file_short none = omega arith
file_short (some s) =
    omega (arith, stemmed_short (not_up (last_piece none (cut 47 s))), up_short (last_piece none (cut 47 s)), last_short (length s) (cut 47 s) none (omega arith) (pieces_short 47 s))

or_short : (n : ℕ) (o p : Option (List ℕ)) → size length o ≤ n → size length p ≤ n → size length (first_given o p) ≤ n
or_short n none p h g = g
or_short n (some x) p h g = h

-- ---- records

-- what is printed of a component, with its builds; and its stem
abbrev pub said : Component → ℕ
said c = length c.head.name + (length c.role.partition + (size length c.head.pack + size length c.boot.pbp_pack))

abbrev pub stem_size : Component → ℕ
stem_size c = size length (own_stem (some c))

-- how many features its builds have
abbrev pub feature_count : Component → ℕ
feature_count c = length c.role.features + length c.role.pbp_features

-- what of a component stands in its table, and how many features it may have
pub record Carried (t : Table) (limit : ℕ) (c : Component) : Type 0 where
  pub text : said c ≤ weight_in t
  pub stem : stem_size c ≤ weight_in t
  pub few : feature_count c ≤ 2 * limit

-- what of a head stands where
record Headed (t : Table) (h : Head) : Type 0 where
  name : length h.name ≤ held t (ascii "name")
  pack : size length h.pack ≤ held t (ascii "package")
  bin : size length h.bin ≤ held t (ascii "bin")
  file : size length h.file ≤ held t (ascii "file")

-- of a role
record Referred (t : Table) (limit : ℕ) (r : Role) : Type 0 where
  reference : length r.partition ≤ held t (ascii "partition")
  few : length r.features + length r.pbp_features ≤ 2 * limit

module _ (t : Table) where
  -- a field that may be absent stands under its key
  abbrev Optional : List ℕ → Option (List ℕ) → Type 0
  Optional k o = size length o ≤ held t k

  optional : (k : List ℕ) → Says (Optional k) (field a_text t k)
  optional k = field_says length a_text text_says t k

  named : Says (λ s. length s ≤ held t (ascii "name")) (required a_text t (ascii "name"))
  named = required_says length a_text text_says t (ascii "name")

  pub partition_says : Says (λ p. length p.name ≤ weight_in t) (partition_from t)
  unfolding partition_from
  partition_says =
      via_says (λ s. length s ≤ held t (ascii "name")) Light (required a_text t (ascii "name")) _ named (λ name n.
      skip Light (required a_number t (ascii "offset")) _ (λ _.
      skip Light (required a_number t (ascii "size")) _ (λ _.
      skip Light (defaulted a_flag false t (ascii "locked")) _ (λ _. omega (arith, held_weighs t (ascii "name" ∷ []) (refl, tt))))))
    where
      Light : Partition → Type 0
      Light p = length p.name ≤ weight_in t

  head_says : Says (Headed t) (head_from t)
  unfolding head_from
  head_says =
      skip (Headed t) (defaulted (a_word kind_of) kindRaw t (ascii "kind")) _ (λ _.
      via_says (λ s. length s ≤ held t (ascii "name")) (Headed t) (required a_text t (ascii "name")) _ named (λ name n.
      via_says (Optional (ascii "package")) (Headed t) (field a_text t (ascii "package")) _ (optional (ascii "package")) (λ pack p.
      via_says (Optional (ascii "bin")) (Headed t) (field a_text t (ascii "bin")) _ (optional (ascii "bin")) (λ bin b.
      via_says (Optional (ascii "file")) (Headed t) (field a_text t (ascii "file")) _ (optional (ascii "file")) (λ file f.
      skip (Headed t) (defaulted a_text (filename_for bin file pack) t (ascii "filename")) _ (λ _. record { name = n; pack = p; bin = b; file = f }))))))

  role_says : (limit : ℕ) → Says (Referred t limit) (role_from limit t)
  unfolding role_from
  role_says limit =
      via_says (Few limit) (Referred t limit) (defaulted (a_features limit) [] t (ascii "features")) _ (few_says limit t (ascii "features")) (λ features f.
      via_says (Few limit) (Referred t limit) (defaulted (a_features limit) [] t (ascii "pbp_features")) _ (few_says limit t (ascii "pbp_features")) (λ own o.
      via_says (λ s. length s ≤ 0 + held t (ascii "partition")) (Referred t limit) (defaulted a_text [] t (ascii "partition")) _ (defaulted_says length a_text text_says t (ascii "partition") []) (λ partition p.
      skip (Referred t limit) (defaulted a_text (ascii "mtd;required") t (ascii "attr")) _ (λ _.
      skip (Referred t limit) (field a_text t (ascii "target_attr")) _ (λ _.
      skip (Referred t limit) (field a_text t (ascii "target_filename")) _ (λ _.
      record { reference = omega arith; few = on (nil? own) (λ e. rw e (omega arith)) (λ e. rw e (omega arith)) }))))))

  boot_says : Says (λ b. size length b.pbp_pack ≤ held t (ascii "pbp_package")) (boot_from t)
  unfolding boot_from
  boot_says =
      skip Booted (defaulted a_flag false t (ascii "updater")) _ (λ _.
      skip Booted (field a_number t (ascii "ram")) _ (λ _.
      skip Booted (field a_text t (ascii "pbp")) _ (λ _.
      via_says (Optional (ascii "pbp_package")) Booted (field a_text t (ascii "pbp_package")) _ (optional (ascii "pbp_package")) (λ pack p.
      skip Booted (field a_text t (ascii "private")) _ (λ _. p)))))
    where
      Booted : Boot → Type 0
      Booted b = size length b.pbp_pack ≤ held t (ascii "pbp_package")

  -- these stand under different keys; the stem is one of them, or stands under one more
  pub component_says : (limit : ℕ) → Says (Carried t limit) (component_from limit t)
  unfolding component_from
  component_says limit =
      via_says (Headed t) (Carried t limit) (head_from t) _ head_says (λ head h.
      via_says (Referred t limit) (Carried t limit) (role_from limit t) _ (role_says limit) (λ role r.
      via_says (λ b. size length b.pbp_pack ≤ held t (ascii "pbp_package")) (Carried t limit) (boot_from t) _ boot_says (λ boot b.
      skip (Carried t limit) (load_from t) _ (λ _. record { text = omega (arith, h.name, h.pack, r.reference, all); stem = stem head h; few = r.few }))))
    where
      all : held t (ascii "name") + (held t (ascii "partition") + (held t (ascii "package") + (held t (ascii "pbp_package") + 0))) ≤ weight_in t
      all = held_weighs t (ascii "name" ∷ ascii "partition" ∷ ascii "package" ∷ ascii "pbp_package" ∷ []) (refl, (refl, (refl, (refl, tt))))

      three : held t (ascii "package") + (held t (ascii "bin") + (held t (ascii "file") + 0)) ≤ weight_in t
      three = held_weighs t (ascii "package" ∷ ascii "bin" ∷ ascii "file" ∷ []) (refl, (refl, (refl, tt)))

      stem : (head : Head) → Headed t head → size length (first_given head.pack (first_given head.bin (stem_of_file head.file))) ≤ weight_in t
      stem head h =
          or_short (weight_in t) head.pack _ (omega (arith, h.pack, three))
          (or_short (weight_in t) head.bin _ (omega (arith, h.bin, three)) (omega (arith, file_short head.file, h.file, three)))

  pub application_says : (limit : ℕ) (key : List ℕ) → Says (λ a. length a.pack + length a.partition ≤ 3 + length key + weight_in t) (application_from limit key t)
  unfolding application_from
  application_says limit key =
      skip Placed (defaulted a_text key t (ascii "name")) _ (λ name.
      via_says (λ s. length s ≤ 3 + held t (ascii "partition")) Placed (defaulted a_text (ascii "app") t (ascii "partition")) _ (defaulted_says length a_text text_says t (ascii "partition") (ascii "app")) (λ partition p.
      skip Placed (defaulted a_text (name ++ ascii ".aic") t (ascii "filename")) _ (λ _.
      skip Placed (defaulted a_text (ascii "mtd;optional") t (ascii "attr")) _ (λ _.
      skip Placed (defaulted (a_features limit) [] t (ascii "features")) _ (λ _.
      skip Placed (field a_number t (ascii "load_address")) _ (λ _.
      skip Placed (field a_number t (ascii "entry_offset")) _ (λ _. omega (arith, held_weighs t (ascii "partition" ∷ []) (refl, tt)))))))))
    where
      Placed : Application → Type 0
      Placed a = length a.pack + length a.partition ≤ 3 + length key + weight_in t

  pub board_says : (lent : List ℕ) (chip : Chip) → Says (λ b. length b.name ≤ length lent + weight_in t) (board_from lent chip t)
  unfolding board_from
  board_says lent chip =
      via_says (λ s. length s ≤ length lent + held t (ascii "name")) Boarded (defaulted a_text lent t (ascii "name")) _ (defaulted_says length a_text text_says t (ascii "name") lent) (λ name n.
      skip Boarded (defaulted a_text (target_for chip) t (ascii "target")) _ (λ _.
      skip Boarded (defaulted a_text (ascii "release") t (ascii "profile")) _ (λ _. omega (arith, held_weighs t (ascii "name" ∷ []) (refl, tt)))))
    where
      Boarded : Board → Type 0
      Boarded b = length b.name ≤ length lent + weight_in t
