-- Each refusal has a number of 01's table, from 1 on: of reading, of validation, of planning. So number 0 is no refusal.
use Rattle.std.specs.Prelude.{ℕ, ◌+◌, ◌≤◌, List, [], ◌∷◌, ◌≡◌, eqb, leb, ltb, ℤ, pos, negsuc, length}
use Rattle.std.proofs.Math.Option.{Option, none, some}
use native.Mathlib.Omega.{arith}
use Rattle.std.proofs.lemmas.Bool.{eqb-false}
use Rattle.meaning.specs.Base.{pick, nil?, same}
use Rattle.meaning.specs.declared.Limits.{Limits}
use Rattle.meaning.specs.Refusal.{R, ok, bad, ok_then, Answer, accepted, refused, accepted_then, told, in_board, in_image, in_partition, in_component}
use Rattle.meaning.specs.Tree.{Value, Items, Table, str, int, boolean, array, table, none', item, empty, count, lookup, as_string, as_int, as_bool, as_array, as_table}
use Rattle.meaning.specs.Schema.{Chip, Board, Image, Partition, Application, Component, Preset, erase_for, named, chip_word, media_word, kind_word, chips, medias, kinds, chip_of, media_of, kind_of}
use Rattle.meaning.specs.Fields.{need, a_text, a_flag, a_number, a_word, an_array, a_table, in_range, present, field, defaulted, required, table_at, or_then, list_at, Row, rows, tabled, each, listed}
use Rattle.meaning.specs.Order.{sorted}
use Rattle.meaning.specs.Features.{words, texts, counted, a_features}
use Rattle.meaning.specs.Records.{chosen, chip_from, board_from, image_from, front_of, partition_from, partitions_of, head_from, role_from, boot_from, load_from, component_from, components_of, application_from, applications_of, lent_name, preset_of}
use Rattle.meaning.specs.Verdict.{judged, long, among, in_turn, with_last}
use Rattle.meaning.specs.Layout.{nothing_before, passed, partition_fault, start_fault, layout}
use Rattle.meaning.specs.Rules.{chip_for, width_fault, device_fault, front_rules, partition_names, component_fault, component_rules, feature_rules, application_rules, targets, boot_rule, rules}
use Rattle.meaning.specs.Document.{Parsed, in_rooms}
use Rattle.meaning.specs.Preset.{Read, read, validate}
use Rattle.meaning.specs.Plan as plans
use Rattle.meaning.specs.Plan.{Selection, boot_chain, app, Entry, admitted, component_names, plan_of, plan}
use Rattle.laws.specs.Cases.{picked}
use Rattle.laws.specs.Never.{Any, Reads, Answers, then_read, never}

-- ---- readers that know no place

pub record Faults {X : Type 0} (a : R X) : Type 0 where
  pub numbered : Reads Any a

next : {X Y : Type 0} {a : R X} {f : X → R Y} → Faults a → ((x : X) → Faults (f x)) → Faults (ok_then a f)
next {a} {f} h k = record { numbered = then_read Any Any a f h.numbered (λ x _. (k x).numbered) }

none_bad : {X : Type 0} {x : X} → Faults (ok x)
none_bad = record { numbered = tt }

bad_by : {X : Type 0} {n : ℕ} → 1 ≤ n → Faults {X = X} (bad n)
bad_by h = record { numbered = h }

need_by : {X : Type 0} (n : ℕ) (o : Option X) → 1 ≤ n → Faults (need n o)
need_by n none h = bad_by h
need_by n (some x) h = none_bad

-- ---- a value of a kind

text_by_lem : (v : Value) → Faults (a_text v)
unfolding a_text
text_by_lem v = need_by 20 (as_string v) (omega arith)

flag_by_lem : (v : Value) → Faults (a_flag v)
unfolding a_flag
flag_by_lem v = need_by 20 (as_bool v) (omega arith)

array_by : (v : Value) → Faults (an_array v)
unfolding an_array
array_by v = need_by 20 (as_array v) (omega arith)

table_by : (v : Value) → Faults (a_table v)
unfolding a_table
table_by v = need_by 20 (as_table v) (omega arith)

range_by : (i : ℤ) → Faults (in_range i)
unfolding in_range
range_by (pos n) = picked Faults (leb n 4294967295) (λ _. none_bad) (λ _. bad_by (omega arith))
range_by (negsuc n) = bad_by (omega arith)

number_by : (v : Value) → Faults (a_number v)
unfolding a_number
number_by v = next (need_by 20 (as_int v) (omega arith)) range_by

named_by : {X : Type 0} (word : X → List ℕ) (xs : List X) (w : List ℕ) → Faults (named word xs w)
named_by word [] w = bad_by (omega arith)
named_by word (x ∷ xs) w = picked Faults (same w (word x)) (λ _. none_bad) (λ _. named_by word xs w)

chip_by_lem : (w : List ℕ) → Faults (chip_of w)
unfolding chip_of
chip_by_lem w = named_by chip_word chips w

media_by_lem : (v : Value) → Faults (a_word media_of v)
unfolding media_of
media_by_lem v = next (text_by_lem v) (named_by media_word medias)

kind_by_lem : (v : Value) → Faults (a_word kind_of v)
unfolding kind_of
kind_by_lem v = next (text_by_lem v) (named_by kind_word kinds)

texts_by : (is : Items) → Faults (texts is)
texts_by none' = none_bad
texts_by (item v is) = next (text_by_lem v) (λ s. next (texts_by is) (λ ss. none_bad))

counted_by : (limit n : ℕ) (r : R (List (List ℕ))) → Faults r → Faults (counted limit n r)
counted_by limit n r h = picked Faults (ltb limit n) (λ _. bad_by (omega arith)) (λ _. next h (λ ss. none_bad))

features_by_lem : (limit : ℕ) (v : Value) → Faults (a_features limit v)
unfolding a_features
features_by_lem limit (str s) = counted_by limit (length (words s)) (ok (words s)) none_bad
features_by_lem limit (int i) = bad_by (omega arith)
features_by_lem limit (boolean b) = bad_by (omega arith)
features_by_lem limit (array a) = counted_by limit (count a) (texts a) (texts_by a)
features_by_lem limit (table t) = bad_by (omega arith)

-- ---- fields

module _ {X : Type 0} {way : Value → R X} (by : (v : Value) → Faults (way v)) (t : Table) (k : List ℕ) where
  field_by : Faults (field way t k)
  unfolding field
  field_by = go (lookup t k)
    where
      go : (o : Option Value) → Faults (present way o)
      go none = none_bad
      go (some v) = next (by v) (λ x. none_bad)

  defaulted_by : (d : X) → Faults (defaulted way d t k)
  defaulted_by d = next field_by (λ o. none_bad)

  required_by : Faults (required way t k)
  required_by = next field_by (λ o. need_by 24 o (omega arith))

module _ (f : Table) where
  board_by_lem : (lent : List ℕ) (chip : Chip) → Faults (board_from lent chip f)
  unfolding board_from
  board_by_lem lent chip = next (defaulted_by text_by_lem f _ _) (λ name. next (defaulted_by text_by_lem f _ _) (λ target. next (defaulted_by text_by_lem f _ _) (λ profile. none_bad)))

  image_by_lem : (chip : Chip) → Faults (image_from chip f)
  unfolding image_from
  image_by_lem chip =
      next (defaulted_by text_by_lem f _ _) (λ platform.
      next (defaulted_by text_by_lem f _ _) (λ product.
      next (defaulted_by text_by_lem f _ _) (λ version.
      next (defaulted_by media_by_lem f _ _) (λ media.
      next (defaulted_by number_by f _ _) (λ media_dev_id.
      next (defaulted_by text_by_lem f _ _) (λ media_id.
      next (defaulted_by text_by_lem f _ _) (λ boot_app. none_bad)))))))

  partition_by_lem : Faults (partition_from f)
  unfolding partition_from
  partition_by_lem = next (required_by text_by_lem f _) (λ name. next (required_by number_by f _) (λ offset. next (required_by number_by f _) (λ size. next (defaulted_by flag_by_lem f _ _) (λ locked. none_bad))))

  head_by_lem : Faults (head_from f)
  unfolding head_from
  head_by_lem =
      next (defaulted_by kind_by_lem f _ _) (λ kind.
      next (required_by text_by_lem f _) (λ name.
      next (field_by text_by_lem f _) (λ pack.
      next (field_by text_by_lem f _) (λ bin.
      next (field_by text_by_lem f _) (λ file.
      next (defaulted_by text_by_lem f _ _) (λ filename. none_bad))))))

  role_by_lem : (limit : ℕ) → Faults (role_from limit f)
  unfolding role_from
  role_by_lem limit =
      next (defaulted_by (features_by_lem limit) f _ _) (λ features.
      next (defaulted_by (features_by_lem limit) f _ _) (λ own.
      next (defaulted_by text_by_lem f _ _) (λ partition.
      next (defaulted_by text_by_lem f _ _) (λ attr.
      next (field_by text_by_lem f _) (λ target_attr.
      next (field_by text_by_lem f _) (λ target_filename. none_bad))))))

  boot_by_lem : Faults (boot_from f)
  unfolding boot_from
  boot_by_lem =
      next (defaulted_by flag_by_lem f _ _) (λ updater.
      next (field_by number_by f _) (λ ram.
      next (field_by text_by_lem f _) (λ pbp.
      next (field_by text_by_lem f _) (λ pbp_pack.
      next (field_by text_by_lem f _) (λ private. none_bad)))))

  load_by_lem : Faults (load_from f)
  unfolding load_from
  load_by_lem =
      next (field_by number_by f _) (λ load_address.
      next (field_by number_by f _) (λ entry_point.
      next (field_by number_by f _) (λ entry_offset.
      next (field_by number_by f _) (λ header_version.
      next (defaulted_by flag_by_lem f _ _) (λ with_ext.
      next (defaulted_by number_by f _ _) (λ ext_reserve. none_bad))))))

  component_by : (limit : ℕ) → Faults (component_from limit f)
  unfolding component_from
  component_by limit = next head_by_lem (λ head. next (role_by_lem limit) (λ role. next boot_by_lem (λ boot. next load_by_lem (λ load. none_bad))))

  application_by_lem : (limit : ℕ) (key : List ℕ) → Faults (application_from limit key f)
  unfolding application_from
  application_by_lem limit key =
      next (defaulted_by text_by_lem f _ _) (λ name.
      next (defaulted_by text_by_lem f _ _) (λ partition.
      next (defaulted_by text_by_lem f _ _) (λ filename.
      next (defaulted_by text_by_lem f _ _) (λ attr.
      next (defaulted_by (features_by_lem limit) f _ _) (λ features.
      next (field_by number_by f _) (λ load_address.
      next (field_by number_by f _) (λ entry_offset. none_bad)))))))

tabled_by : {X : Type 0} {read : Table → R X} → ((t : Table) → Faults (read t)) → (v : Value) → Faults (tabled read v)
unfolding tabled
tabled_by h v = next (need_by 23 (as_table v) (omega arith)) h

table_at_lem : (root : Table) (k : List ℕ) → Faults (table_at root k)
unfolding table_at
table_at_lem root k = defaulted_by table_by root k empty

list_at_lem : (root : Table) (one many : List ℕ) → Faults (list_at root one many)
unfolding list_at
list_at_lem root one many = next (field_by array_by root one) (λ single. next (other single) (λ found. none_bad))
  where
    other : (o : Option Items) → Faults (or_then (field an_array root many) o)
    other none = field_by array_by root many
    other (some x) = none_bad

-- ---- answers

pub record Refusals {X : Type 0} (a : Answer X) : Type 0 where
  pub numbered : Answers a

after : {X Y : Type 0} {a : Answer X} {k : X → Answer Y} → Refusals a → ((x : X) → Refusals (k x)) → Refusals (accepted_then a k)
after {X} {a} {k} h g = go a h
  where
    go : (b : Answer X) → Refusals b → Refusals (accepted_then b k)
    go (accepted x) i = g x
    go (refused f s p) i = record { numbered = i.numbered }

none_refused : {X : Type 0} {x : X} → Refusals (accepted x)
none_refused = record { numbered = tt }

told_by : {X : Type 0} (s p : ℕ) {r : R X} → Faults r → Refusals (told s p r)
told_by {X} s p {r} h = go r h
  where
    go : (q : R X) → Faults q → Refusals (told s p q)
    go (ok x) i = none_refused
    go (bad n) i = record { numbered = i.numbered }

module _ {A X : Type 0} {read : A → R X} (by : (a : A) → Faults (read a)) (section : ℕ) where
  each_by : (n : ℕ) (ys : List A) → Refusals (each read section n ys)
  each_by n [] = none_refused
  each_by n (a ∷ ys) = after (told_by section n (by a)) (λ x. after (each_by (n + 1) ys) (λ xs. none_refused))

  listed_by : (limit : ℕ) (ys : List A) → Refusals (listed read section limit ys)
  unfolding listed
  listed_by limit ys = picked Refusals (ltb limit (length ys)) (λ _. record { numbered = omega arith }) (λ _. each_by 0 ys)

-- ---- records

chosen_by : (chip platform : Option (List ℕ)) → Refusals (chosen chip platform)
unfolding chosen
chosen_by (some w) platform = told_by _ 0 (chip_by_lem w)
chosen_by none (some w) = told_by _ 0 (chip_by_lem w)
chosen_by none none = none_refused

module _ (root : Table) where
  front_by : (lent : List ℕ) → Refusals (front_of lent root)
  unfolding front_of chip_from
  front_by lent =
      after (told_by _ 0 (table_at_lem root _)) (λ b.
      after (told_by _ 0 (table_at_lem root _)) (λ i.
      after (after (told_by _ 0 (field_by text_by_lem b _)) (λ chip. after (told_by _ 0 (field_by text_by_lem i _)) (chosen_by chip))) (λ chip.
      after (told_by _ 0 (board_by_lem b lent chip)) (λ board.
      after (told_by _ 0 (image_by_lem i chip)) (λ image. none_refused)))))

  module _ (lim : Limits) where
    partitions_by : Refusals (partitions_of lim root)
    unfolding partitions_of
    partitions_by = after (told_by _ 0 (list_at_lem root _ _)) (listed_by (tabled_by partition_by_lem) _ _)

    components_by : Refusals (components_of lim root)
    unfolding components_of
    components_by = after (told_by _ 0 (list_at_lem root _ _)) (listed_by (tabled_by (λ t. component_by t _)) _ _)

    applications_by : Refusals (applications_of lim root)
    unfolding applications_of
    applications_by =
        after (told_by _ 0 (table_at_lem root _)) (λ apps. listed_by (λ (r : Row). tabled_by (λ t. application_by_lem t _ r.key) r.value) _ _ (rows (sorted apps)))

    preset_by : (name : List ℕ) → Refusals (preset_of lim name root)
    unfolding preset_of
    preset_by name =
        after (front_by (lent_name name)) (λ front. after partitions_by (λ ps. after components_by (λ cs. after applications_by (λ apps. none_refused))))

-- ---- rules

judged_by : (section place n : ℕ) → Refusals (judged section place n)
judged_by section place n =
    picked Refusals (eqb n 0) (λ _. none_refused) (λ e. let z : n ≡ 0 → ⊥ = eqb-false n 0 e in record { numbered = omega (arith, z) })

turns_by : {X S : Type 0} (rule : S → X → ℕ) (next' : S → X → S) (section n : ℕ) (s : S) (xs : List X) → Refusals (in_turn rule next' section n s xs)
turns_by rule next' section n s [] = none_refused
turns_by rule next' section n s (x ∷ xs) = after (judged_by section n (rule s x)) (λ _. turns_by rule next' section (n + 1) (next' s x) xs)

front_rules_lem : (b : Board) (i : Image) → Refusals (front_rules b i)
unfolding front_rules
front_rules_lem b i =
    after (judged_by in_image 0 (device_fault b i)) (λ _.
    after (judged_by in_board 0 (pick (nil? b.profile) 32 0)) (λ _.
    after (judged_by in_image 0 (pick (long i.boot_app) 33 0)) (λ _. judged_by in_board 0 (width_fault b.chip (chip_for b.target)))))

layout_by : (chip : Chip) (ps : List Partition) → Refusals (layout chip ps)
unfolding layout
layout_by chip [] = record { numbered = omega arith }
layout_by chip (p ∷ ps) =
    after (judged_by in_partition 0 (start_fault p)) (λ _. turns_by (partition_fault (erase_for chip)) passed in_partition 0 nothing_before (p ∷ ps))

component_rules_lem : (parts : List (List ℕ)) (cs : List Component) → Refusals (component_rules parts cs)
unfolding component_rules
component_rules_lem parts [] = record { numbered = omega arith }
component_rules_lem parts (c ∷ cs) = turns_by (component_fault parts) (λ earlier d. with_last earlier d.head.name) in_component 0 [] (c ∷ cs)

feature_rules_lem : (cs : List Component) (apps : List Application) → Refusals (feature_rules cs apps)
unfolding feature_rules
feature_rules_lem cs apps = after (turns_by _ _ _ 0 _ cs) (λ _. turns_by _ _ _ 0 _ apps)

application_rules_lem : (parts : List Partition) (apps : List Application) → Refusals (application_rules parts apps)
unfolding application_rules
application_rules_lem parts apps = turns_by _ _ _ 0 _ apps

boot_rule_lem : (parts : List (List ℕ)) (cs : List Component) → Refusals (boot_rule parts cs)
unfolding boot_rule
boot_rule_lem [] cs = none_refused
boot_rule_lem (p ∷ ps) cs = picked Refusals (targets p cs) (λ _. none_refused) (λ _. record { numbered = omega arith })

rules_by : (r : Preset) → Refusals (rules r)
unfolding rules
rules_by r =
    after (front_rules_lem r.board r.image) (λ _.
    after (layout_by r.board.chip r.partitions) (λ _.
    after (component_rules_lem (partition_names r.partitions) r.components) (λ _.
    after (feature_rules_lem r.components r.applications) (λ _.
    after (application_rules_lem r.partitions r.applications) (λ _.
    boot_rule_lem (partition_names r.partitions) r.components)))))

-- ---- plans

admitted_by : (cs : List Component) (o : Option Entry) → Refusals (admitted cs o)
unfolding admitted
admitted_by cs none = record { numbered = omega arith }
admitted_by cs (some e) =
    picked Refusals (among e.application.name (component_names cs)) (λ _. record { numbered = omega arith }) (λ _. none_refused)

chosen_one_lem : (r : Preset) (s : Selection) → Refusals (plans.chosen r s)
unfolding plans.chosen
chosen_one_lem r boot_chain = none_refused
chosen_one_lem r (app key) = admitted_by r.components _

plan_of_lem : (r : Preset) (s : Selection) → Refusals (plan_of r s)
unfolding plan_of
plan_of_lem r s = after (chosen_one_lem r s) (λ a. none_refused)

-- ---- texts

module _ (lim : Limits) (store tree : ℕ) (name text : List ℕ) where
  rooms_by : Refusals (in_rooms lim store tree text)
  unfolding in_rooms
  rooms_by =
      picked Refusals (ltb store lim.text) (λ _. record { numbered = omega arith })
      (λ _. picked Refusals (ltb tree _) (λ _. record { numbered = omega arith }) (λ _. record { numbered = never lim text }))

  pub read_numbered : Refusals (read lim store tree name text)
  unfolding read
  read_numbered = after rooms_by (λ (p : Parsed). after (preset_by p.root lim name) (λ r. none_refused))

  pub validate_numbered : Refusals (validate lim store tree name text)
  unfolding validate
  validate_numbered = after read_numbered (λ (r : Read). after (rules_by r.preset) (λ u. none_refused))

  pub plan_numbered : (s : Selection) → Refusals (plan lim store tree name s text)
  unfolding plan
  plan_numbered s = after validate_numbered (λ (r : Read). after (plan_of_lem r.preset s) (λ p. none_refused))
