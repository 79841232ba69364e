-- 01's rule 60 over components and applications is the first clash over their packages.
use Prim.Native.Nat.{ℕ, suc, ◌+◌, ◌-◌, ◌<◌}
use Rattle.std.specs.Prelude.{Bool, true, false, ◌≡◌, refl, ltb, length}
use mathlib.Core.List.{List, [], ◌∷◌, ◌++◌, map, append_assoc, append-nil}
use Rattle.std.proofs.Math.Option.{Option, none, some}
use Rattle.std.proofs.Common.{sym, ap, ◌∙◌, arith, lt-ltb, le-ltb, ltb-true, ltb-false}
use Rattle.std.proofs.Math.Dec.{leb-suc-suc}
use Rattle.std.proofs.lemmas.List.{length-map}
use Rattle.meaning.specs.Base.{pick, same, ascii, nil?}
use Rattle.meaning.specs.Refusal.{in_component, in_application}
use Rattle.meaning.specs.Verdict.{with_last, in_turn}
use Rattle.meaning.specs.Rules as meant
use Rattle.meaning.specs.Rules.{Use, use?, twice, uses_of, use_of, all_uses, same_all, clashes, use_fault, feature_rules}
use Rattle.laws.specs.Cases.{on, never}
use Rattle.laws.specs.Order.{same_eq, eq_same}
use Rattle.tree.specs.declared.Value.{Value as Read}
use Rattle.tree.specs.declared.Value.TheVariants as read
use Rattle.tree.specs.declared.Fields.{Fields}
use Rattle.tree.specs.Doors.{field, items}
use Rattle.tree.specs.Short.{field_short}
use Rattle.schema.specs.declared.Text.{Text}
use Rattle.schema.specs.declared.Text.TheVariants as texts
use Rattle.schema.specs.declared.Features.{Features}
use Rattle.schema.specs.declared.Partition.{Partition}
use Rattle.schema.specs.declared.Component.{Component}
use Rattle.schema.specs.Texts.{optional}
use Rattle.features.specs.Pieces.{words_from, all_texts, pieces, features_read}
use Rattle.parse.specs.declared.Refusal.{Refusal}
use Rattle.parse.specs.Refusals.{earlier}
use Rattle.parse.specs.Meant.{feature_list, component_meant}
use Rattle.parse.specs.Fields.{text_read, text_at}
use Rattle.parse.specs.Component as component
use Rattle.parse.specs.Component.{sources, head_read, role_read, boot_read, component_read}
use Rattle.parse.specs.Application.{loading, application_read}
use Rattle.parse.specs.Entries as parsed
use Rattle.parse.specs.Entries.{refusal_at}
use Rattle.parse.specs.Answers.{Says, says_after, says_by}
use Rattle.parse.specs.Whole.{component_of, application_of}
use Rattle.turns.specs.Marks.{any_of, first_hit}
use Rattle.schema.specs.Spots.{Short, ShortList, packed, spotted, list_at, spotted_short, list_short}
use Rattle.validate.specs.declared.uses.Use.{Use as Used}
use Rattle.validate.specs.declared.uses.Pair.{Pair}
use Rattle.validate.specs.Clashes.{own_use, pbp_use, differ, use_differs, clash, pair_of_component}
use Rattle.validate.specs.Entries.{component_entry, application_entry, component_at, application_at}
use Rattle.validate.specs.Faults.{clash_fault}
use Rattle.validate.specs.Gathered.{either}

-- ---- one of two tests

either_none : (a : Bool) → either a false ≡ a
either_none true = refl
either_none false = refl

either_two : (a b c : Bool) → either (either a b) c ≡ either a (either b c)
either_two true b c = refl
either_two false b c = refl

-- the middle ones change places
either_four : (a b c d : Bool) → either (either a b) (either c d) ≡ either (either a c) (either b d)
either_four true b c d = refl
either_four false true true d = refl
either_four false true false d = refl
either_four false false c d = refl

-- ---- the first hit in two lists, whatever a hit is

suc_pick : (b : Bool) (n m : ℕ) → suc (pick b n m) ≡ pick b (suc n) (suc m)
suc_pick true n m = refl
suc_pick false n m = refl

-- it is in the first list, or after it
pub hit_two : {X : Type 0} (hit : X → X → Bool) (es xs ys : List X)
    → first_hit hit es (xs ++ ys) ≡ pick (ltb (first_hit hit es xs) (length xs)) (first_hit hit es xs) (length xs + first_hit hit (es ++ xs) ys)
hit_two hit es [] ys = rw (append-nil es) (omega arith)
hit_two hit es (x ∷ xs) ys =
    on (any_of (hit x) es)
    (λ e. rw (e, lt-ltb 0 (suc (length xs)) (omega arith)))
    (λ e.
    let k : ℕ = first_hit hit (with_last es x) xs in
    let m : ℕ = first_hit hit (es ++ (x ∷ xs)) ys in
    let a : with_last es x ++ xs ≡ es ++ (x ∷ xs) = append_assoc es (x ∷ []) xs in
    let b : suc (length xs) + m ≡ suc (length xs + m) = omega arith in
    rw (e, leb-suc-suc (suc k) (length xs), b) (ap suc (rw a at (hit_two hit (with_last es x) xs ys)) ∙ suc_pick (ltb k (length xs)) k (length xs + m)))

-- ---- uses against uses

same_turn : (p q : List ℕ) → same p q ≡ same q p
same_turn p q =
    on (same p q)
    (λ e. e ∙ sym (eq_same q p (sym (same_eq p q e))))
    (λ e. on (same q p) (λ f. never (eq_same p q (sym (same_eq q p f))) e) (λ f. e ∙ sym f))

all_turn : (fs gs : List (List ℕ)) → same_all fs gs ≡ same_all gs fs
all_turn [] [] = refl
all_turn [] (g ∷ gs) = refl
all_turn (f ∷ fs) [] = refl
all_turn (f ∷ fs) (g ∷ gs) = rw (same_turn f g, all_turn fs gs)

clash_two : (vs ws : List Use) (u : Use) → meant.clash (vs ++ ws) u ≡ either (meant.clash vs u) (meant.clash ws u)
clash_two [] ws u = refl
clash_two (v ∷ vs) ws u = rw (clash_two vs ws u) (sym (either_two (meant.differ v u) (meant.clash vs u) (meant.clash ws u)))

clashes_none : (us : List Use) → clashes [] us ≡ false
clashes_none [] = refl
clashes_none (u ∷ us) = clashes_none us

-- earlier uses in two lists
clashes_two : (vs ws us : List Use) → clashes (vs ++ ws) us ≡ either (clashes vs us) (clashes ws us)
clashes_two vs ws [] = refl
clashes_two vs ws (u ∷ us) =
    rw (clash_two vs ws u, clashes_two vs ws us) (either_four (meant.clash vs u) (meant.clash ws u) (clashes vs us) (clashes ws us))

-- an entry's uses in two lists
two_clashes : (vs us ts : List Use) → clashes vs (us ++ ts) ≡ either (clashes vs us) (clashes vs ts)
two_clashes vs [] ts = refl
two_clashes vs (u ∷ us) ts = rw (two_clashes vs us ts) (sym (either_two (meant.clash vs u) (clashes vs us) (clashes vs ts)))

-- at most one use of each
one_clashes : (o q : Option (List ℕ)) (f g : List (List ℕ)) → pick (twice o q) (pick (same_all f g) false true) false ≡ clashes (use? q g) (use? o f)
unfolding meant.differ
one_clashes none none f g = refl
one_clashes none (some q) f g = refl
one_clashes (some p) none f g = refl
one_clashes (some p) (some q) f g =
    let d : Bool = pick (same q p) (pick (same_all g f) false true) false in
    rw (same_turn p q, all_turn f g) (sym (either_none (either d false) ∙ either_none d))

-- ---- entries in turn, by what they use

-- 60 at the first hit where at of n entries stand before it, the first of them at place i; none where all do
abbrev hit_fault : ℕ → ℕ → ℕ → ℕ → Refusal
hit_fault section i n at = pick (ltb at n) (refusal_at section 60 (i + at)) (refusal_at 0 0 0)

module _ {X : Type 0} (uses : X → List Use) where
  abbrev gathered : List X → List Use
  gathered [] = []
  gathered (x ∷ xs) = uses x ++ gathered xs

  gathered_after : (xs : List X) (x : X) → gathered (with_last xs x) ≡ gathered xs ++ uses x
  gathered_after [] x = append-nil (uses x)
  gathered_after (y ∷ xs) x = rw (gathered_after xs x) (sym (append_assoc (uses y) (gathered xs) (uses x)))

  module _ (hit : X → X → Bool) (hits : (a b : X) → hit a b ≡ clashes (uses b) (uses a)) where
    any_clashes : (a : X) (es : List X) → any_of (hit a) es ≡ clashes (gathered es) (uses a)
    any_clashes a [] = sym (clashes_none (uses a))
    any_clashes a (e ∷ es) = rw (hits a e, any_clashes a es) (sym (clashes_two (uses e) (gathered es) (uses a)))

    module _ {Z : Type 0} (used : Z → List Use) (entry : ℕ → Z) (pair : ℕ → X) (is : (n : ℕ) → used (entry n) ≡ uses (pair n)) (section : ℕ) where
      turn_says : (i : ℕ) (es : List X) (ns : List ℕ)
          → Says (in_turn (λ before z. use_fault before (used z)) (λ before z. before ++ used z) section i (gathered es) (map entry ns))
          (hit_fault section i (length ns) (first_hit hit es (map pair ns))) tt
      turn_says i es [] = record { told_by = (refl, refl) }
      turn_says i es (n ∷ ns) =
          let a : clashes (gathered es) (used (entry n)) ≡ any_of (hit (pair n)) es = rw (is n) (sym (any_clashes (pair n) es)) in
          on (any_of (hit (pair n)) es)
          (λ e. rw (a, e, lt-ltb 0 (suc (length ns)) (omega arith)) (record { told_by = (ap (refusal_at section 60) (omega arith), omega arith) }))
          (λ e.
          let k : ℕ = first_hit hit (with_last es (pair n)) (map pair ns) in
          let b : i + suc k ≡ i + 1 + k = omega arith in
          let s : gathered (with_last es (pair n)) ≡ gathered es ++ used (entry n) = rw (is n) (gathered_after es (pair n)) in
          rw (a, e, leb-suc-suc (suc k) (length ns), b) (rw s at (turn_says (i + 1) (with_last es (pair n)) ns)))

-- components before applications
hit_faults : (cs apps k l : ℕ) → earlier (hit_fault 4 0 cs k) (hit_fault 5 0 apps l) ≡ clash_fault cs (cs + apps) (pick (ltb k cs) k (cs + l))
unfolding clash_fault
hit_faults cs apps k l =
    on (ltb k cs)
    (λ e. rw (e, e) (ap (refusal_at 4 60) (omega arith)))
    (λ e.
    let a : ltb (cs + l) cs ≡ false = le-ltb (cs + l) cs (omega arith) in
    let d : cs + l - cs ≡ l = omega arith in
    rw (e, a, d)
    (on (ltb l apps)
    (λ f. let b : ltb (cs + l) (cs + apps) ≡ true = lt-ltb (cs + l) (cs + apps) (omega (arith, ltb-true l apps f)) in rw (f, b) (ap (refusal_at 5 60) (omega arith)))
    (λ f. let b : ltb (cs + l) (cs + apps) ≡ false = le-ltb (cs + l) (cs + apps) (omega (arith, ltb-false l apps f)) in rw (f, b))))

-- ---- an entry's packages

packed_short : (store name : List ℕ) (t : Text) → Short t → optional store name t ≡ packed store t
packed_short store name texts.Absent h = refl
packed_short store name (texts.Stored from len) h = refl
packed_short store name texts.Lent h = absurd h
packed_short store name (texts.Fixed w) h = absurd h
packed_short store name (texts.WithAic from len) h = absurd h

-- a value that is no text, or a short one
abbrev ShortRead : Read → Type 0
ShortRead v = (from len : ℕ) → v ≡ read.Text from len → (from < 65536) × (len < 65536)

text_short : (v : Read) → ShortRead v → Short (text_read v).text
text_short read.Absent h = tt
text_short (read.Text from len) h = h from len refl
text_short (read.Number n m) h = tt
text_short (read.Flag b) h = tt
text_short (read.Array p) h = tt
text_short (read.Table p) h = tt

features_short : (room store : List ℕ) (made limit : ℕ) (v : Read) → ShortRead v → ShortList (features_read room store made limit v).features
unfolding features_read
features_short room store made limit read.Absent h = tt
features_short room store made limit (read.Text from len) h = on (ltb limit (length (words_from store from len 0))) (λ e. rw e tt) (λ e. rw e (h from len refl))
features_short room store made limit (read.Number n m) h = tt
features_short room store made limit (read.Flag b) h = tt
features_short room store made limit (read.Array place) h =
    let ns = items room made place 0 in
    on (ltb limit (length ns)) (λ e. rw e tt) (λ e. on (all_texts room store ns) (λ f. rw (e, f) tt) (λ f. rw (e, f) tt))
features_short room store made limit (read.Table place) h = tt

short_one : (b : Bool) (f g : Features) → ShortList f → ShortList g → ShortList (pick b f g)
short_one true f g h k = h
short_one false f g h k = k

-- a component's fields
module _ (room store : List ℕ) (f : Fields) where
  pub field_text_short : (key : List ℕ) → Short (text_at room store f key).text
  field_text_short key = text_short (field room store f key) (field_short room store f key)

  pub field_list_short : (made limit : ℕ) (key : List ℕ) → ShortList (features_read room store made limit (field room store f key)).features
  field_list_short made limit key = features_short room store made limit (field room store f key) (field_short room store f key)

  pub lists_short : (made limit : ℕ) → ShortList (component.lists room store made f limit).features × ShortList (component.lists room store made f limit).pbp_features
  unfolding component.lists
  lists_short made limit =
      let all = (features_read room store made limit (field room store f (ascii "features"))).features in
      let own = (features_read room store made limit (field room store f (ascii "pbp_features"))).features in
      (field_list_short made limit (ascii "features"), short_one (nil? (pieces room store made own)) all own (field_list_short made limit (ascii "features")) (field_list_short made limit (ascii "pbp_features")))

-- all of a component
record ShortIn (c : Component) : Type 0 where
  pack : Short c.head.«package»
  own : Short c.boot.pbp_package
  features : ShortList c.role.features
  own_features : ShortList c.role.pbp_features

module _ (room store : List ℕ) (made : ℕ) where
  abbrev uses_as : Used → List Use
  uses_as u = use? (spotted store u.«package») (feature_list room store made (list_at u.features))

  -- the uses of an entry: none, one or two
  abbrev pub uses_in : Pair → List Use
  uses_in p = uses_as (own_use p) ++ uses_as (pbp_use p)

  differ_is : (u v : Used) → differ room store made u v ≡ clashes (uses_as v) (uses_as u)
  unfolding differ
  differ_is u v =
      one_clashes (spotted store u.«package») (spotted store v.«package») (feature_list room store made (list_at u.features))
      (feature_list room store made (list_at v.features))

  -- a later entry against an earlier one
  pub clash_is : (a b : Pair) → clash room store made a b ≡ clashes (uses_in b) (uses_in a)
  unfolding clash use_differs
  clash_is a b =
      let x : List Use = uses_as (own_use a) in
      let y : List Use = uses_as (pbp_use a) in
      let v : List Use = uses_as (own_use b) in
      let w : List Use = uses_as (pbp_use b) in
      rw (
        differ_is (own_use a) (own_use b),
        differ_is (own_use a) (pbp_use b),
        differ_is (pbp_use a) (own_use b),
        differ_is (pbp_use a) (pbp_use b),
        two_clashes (v ++ w) x y,
        clashes_two v w x,
        clashes_two v w y,
      )

  module _ (name : List ℕ) where
    uses_short : (c : Component) → ShortIn c → uses_of (component_meant room store made name c) ≡ uses_in (pair_of_component store c)
    unfolding uses_of pair_of_component
    uses_short c h =
        rw (
          packed_short store name c.head.«package» h.pack,
          packed_short store name c.boot.pbp_package h.own,
          spotted_short store c.head.«package» h.pack,
          spotted_short store c.boot.pbp_package h.own,
          list_short c.role.pbp_features h.own_features,
        )
        (on (twice (packed store c.head.«package») (packed store c.boot.pbp_package))
        (λ e. rw (e, list_short c.role.pbp_features h.own_features))
        (λ e. rw (e, list_short c.role.features h.features)))

    module _ (n : ℕ) where
      component_uses : (parts : List (List ℕ)) → uses_of (component_of room store made name 32 n) ≡ uses_in (component_at room store made parts n).pair
      unfolding component_entry parsed.component_at component_read head_read sources role_read boot_read
      component_uses parts =
          let f = (parsed.table_at room store made n).fields in
          let both = lists_short room store f made 32 in
          uses_short (parsed.component_at room store made n 32).component
          (record {
            pack = field_text_short room store f (ascii "package");
            own = field_text_short room store f (ascii "pbp_package");
            features = both.0;
            own_features = both.1;
          })

      application_uses : (ps : List Partition) → use_of (application_of room store made name 32 n) ≡ uses_in (application_at room store made ps n).pair
      unfolding application_entry parsed.application_at application_read loading
      application_uses ps =
          let f = (parsed.table_at room store made n).fields in
          let list = (parsed.application_at room store made n 32).application.features in
          rw (list_short list (field_list_short room store f made 32 (ascii "features")))

-- ---- 60

module _ (room store : List ℕ) (made : ℕ) (name : List ℕ) (parts : List (List ℕ)) (ps : List Partition) where
  abbrev component_pair : ℕ → Pair
  component_pair n = (component_at room store made parts n).pair

  abbrev application_pair : ℕ → Pair
  application_pair n = (application_at room store made ps n).pair

  all_uses_lem : (ns : List ℕ) → all_uses (map (component_of room store made name 32) ns) ≡ gathered (uses_in room store made) (map component_pair ns)
  all_uses_lem [] = refl
  all_uses_lem (n ∷ ns) = rw (component_uses room store made name n parts, all_uses_lem ns)

  pub features_say : (ns ms : List ℕ)
      → Says (feature_rules (map (component_of room store made name 32) ns) (map (application_of room store made name 32) ms))
      (clash_fault (length ns) (length ns + length ms)
      (first_hit (clash room store made) [] (map (λ n. (component_at room store made parts n).pair) ns ++ map (λ n. (application_at room store made ps n).pair) ms)))
      tt
  unfolding feature_rules
  features_say ns ms =
      let hit = clash room store made in
      let is = clash_is room store made in
      let uses = uses_in room store made in
      let cs : List Pair = map component_pair ns in
      let k : ℕ = first_hit hit [] cs in
      let l : ℕ = first_hit hit cs (map application_pair ms) in
      let e : first_hit hit [] (cs ++ map application_pair ms) ≡ pick (ltb k (length ns)) k (length ns + l) = rw (length-map ns component_pair) at (hit_two hit [] cs (map application_pair ms)) in
      rw (e, all_uses_lem ns)
      (says_by (hit_faults (length ns) (length ms) k l)
      (says_after _
      (turn_says uses hit is uses_of (component_of room store made name 32) component_pair (λ n. component_uses room store made name n parts) in_component 0 [] ns)
      (turn_says uses hit is use_of (application_of room store made name 32) application_pair (λ n. application_uses room store made name n ps) in_application 0 cs ms)))
