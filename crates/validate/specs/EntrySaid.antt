-- The rules over what was read are 01's rules over what it means: components, applications, and the first partition.
use Rattle.std.specs.Prelude.{ℕ, ◌+◌, ◌%◌, Bool, ◌≡◌, eqb, length, is_some, Option, Some, None, Result, Ok, Err}
use Rattle.std.specs.List.{slice_get}
use Rattle.std.proofs.Math.Option as amounts
use Rattle.std.proofs.Math.Bool.{true, false}
use mathlib.Core.List.{List, [], ◌∷◌, ◌++◌, map}
use Rattle.std.proofs.Math.Path.{refl, ap}
use Rattle.std.proofs.Common.{sym, arith, eqb-true}
use Rattle.std.proofs.lemmas.Bool.{eqb-false}
use Rattle.meaning.specs.Base.{pick, nil?, ascii, same}
use Rattle.meaning.specs.declared.Refused.{Refused}
use Rattle.meaning.specs.declared.Refused.TheVariants.{TwoPbps, UpdaterWithoutRam, EmptyApplicationName, ApplicationNameTooLong, EmptyFilename}
use Rattle.meaning.specs.Numbered.{told}
use Rattle.meaning.specs.Refusal.{in_component, in_application}
use Rattle.meaning.specs.Verdict.{Verdict, or_else, long, among, in_turn, with_last}
use Rattle.meaning.specs.Schema as schemas
use Rattle.meaning.specs.Rules as meant
use Rattle.laws.specs.Cases.{on}
use Rattle.tree.specs.Doors.{field}
use Rattle.tree.specs.Room.{slot_at}
use Rattle.schema.specs.declared.Text.{Text}
use Rattle.schema.specs.declared.Text.TheVariants as texts
use Rattle.schema.specs.declared.Partition.{Partition}
use Rattle.schema.specs.declared.Component.{Component}
use Rattle.schema.specs.declared.Application.{Application}
use Rattle.schema.specs.declared.Word.TheVariants as words
use Rattle.schema.specs.Texts.{clip, spelled, is_given, optional, or_text, aic_of, amount}
use Rattle.parse.specs.Fields.{text_read}
use Rattle.parse.specs.Meant.{component_meant, application_meant}
use Rattle.parse.specs.Component as parsed
use Rattle.parse.specs.Application as reading
use Rattle.parse.specs.Entries as parsing
use Rattle.parse.specs.Reads.{Kept, text_kept, clip_none}
use Rattle.parse.specs.Whole.{component_of, application_of}
use Rattle.parse.specs.Answers.{Says}
use Rattle.turns.specs.declared.Mark.{Mark}
use Rattle.turns.specs.Refusals.{told_first}
use Rattle.turns.specs.Marks.{Fault, first_err, any_of, mark_rule, noted, mark_verdict, judged, entry_fault}
use Rattle.turns.specs.Turns as turns
use Rattle.layout.specs.Parts.{part_name, part_meant, rank, placed, placed_some, among_rank, placed_first, aim}
use Rattle.turns.specs.Turns.{judged_verdict, says_fine, says_refused}
use Rattle.validate.specs.declared.uses.Pair.{Pair}
use Rattle.validate.specs.Entries as entries
use Rattle.validate.specs.Entries.{is_empty, component_entry, application_entry, component_at, application_at}
use Rattle.validate.specs.Faults.{in_entry, components_fault, applications_fault, boot_fault}

-- ---- entries in turn

-- rules that agree entry by entry agree on all
turns_agree : {A X Y S : Type 0} (rule : S → X → ℕ) (next : S → X → S) (rule' : S → Y → ℕ) (next' : S → Y → S) (f : A → X) (g : A → Y)
    → ((s : S) (a : A) → rule s (f a) ≡ rule' s (g a)) → ((s : S) (a : A) → next s (f a) ≡ next' s (g a))
    → (section n : ℕ) (s : S) (all : List A) → in_turn rule next section n s (map f all) ≡ in_turn rule' next' section n s (map g all)
turns_agree rule next rule' next' f g d e section n s [] = refl
turns_agree rule next rule' next' f g d e section n s (a ∷ rest) =
    rw (d s a, e s a, turns_agree rule next rule' next' f g d e section (n + 1) (next' s (g a)) rest)

-- a fault of a section says what its verdict says
pub in_entry_says : (section : ℕ) (r : Fault) (v : Verdict) → turns.Says section r v → Says v (in_entry section r) tt
unfolding in_entry
in_entry_says section r v h =
    on (eqb r.number 0)
    (λ e. rw (says_fine section r v h (eqb-true r.number 0 e), e) (record { told_by = (refl, refl) }))
    (λ e.
    let n : r.number ≡ 0 → ⊥ = eqb-false r.number 0 e in
    rw (says_refused section r v h n, e) (record { told_by = (refl, omega arith) }))

-- marks as the code judges them
marks_say : (number : ℕ) (store : List ℕ) (section : ℕ) (ms : List (Mark Refused)) → Says (mark_verdict number store section ms) (in_entry section (judged number store ms)) tt
marks_say number store section ms =
    in_entry_says section (judged number store ms) (mark_verdict number store section ms) (judged_verdict number store section ms (judged number store ms) refl)

-- ---- texts

-- what holds of a default and of stored texts holds of the one that is taken
or_one : (P : Text → Type 0) → ((from len : ℕ) → P (texts.Stored from len)) → (t d : Text) → Kept t → P d → P (or_text t d)
or_one P h texts.Absent d k g = g
or_one P h (texts.Stored from len) d k g = h from len
or_one P h texts.Lent d k g = absurd k
or_one P h (texts.Fixed w) d k g = absurd k
or_one P h (texts.WithAic from len) d k g = absurd k

-- a partition that is named: some bytes of the store, or a word
abbrev pub Named : Text → Type 0
Named texts.Absent = ⊥
Named (texts.Stored from len) = Unit {0}
Named texts.Lent = ⊥
Named (texts.Fixed w) = Unit {0}
Named (texts.WithAic from len) = ⊥

-- a filename: some bytes of the store, or such with `.aic`
abbrev pub Filed : Text → Type 0
Filed texts.Absent = Unit {0}
Filed (texts.Stored from len) = Unit {0}
Filed texts.Lent = ⊥
Filed (texts.Fixed w) = ⊥
Filed (texts.WithAic from len) = Unit {0}

aic_filed : (t : Text) → Filed (aic_of t)
aic_filed texts.Absent = tt
aic_filed (texts.Stored from len) = tt
aic_filed texts.Lent = tt
aic_filed (texts.Fixed w) = tt
aic_filed (texts.WithAic from len) = tt

nil_more : (s : List ℕ) (b : ℕ) (t : List ℕ) → nil? (s ++ (b ∷ t)) ≡ false
nil_more [] b t = refl
nil_more (a ∷ s) b t = refl

given_number : (n : Option ℕ) → meant.given (amount n) ≡ is_some n
given_number None = refl
given_number (Some n) = refl

module _ (store name : List ℕ) where
  pub kept_spelled : (t : Text) → Kept t → spelled store name t ≡ entries.kept store t
  kept_spelled texts.Absent h = sym (clip_none store)
  kept_spelled (texts.Stored from len) h = refl
  kept_spelled texts.Lent h = absurd h
  kept_spelled (texts.Fixed w) h = absurd h
  kept_spelled (texts.WithAic from len) h = absurd h

  given_text : (t : Text) → meant.given (optional store name t) ≡ is_given t
  given_text texts.Absent = refl
  given_text (texts.Stored from len) = refl
  given_text texts.Lent = refl
  given_text (texts.Fixed w) = refl
  given_text (texts.WithAic from len) = refl

  empty_spelled : (t : Text) → Filed t → nil? (spelled store name t) ≡ is_empty store t
  empty_spelled texts.Absent h = refl
  empty_spelled (texts.Stored from len) h = refl
  empty_spelled texts.Lent h = absurd h
  empty_spelled (texts.Fixed w) h = absurd h
  empty_spelled (texts.WithAic from len) h = nil_more (clip from len store) 46 (ascii "aic")

-- ---- a component

-- its texts that the rules read lie in the store
pub record KeptIn (c : Component) : Type 0 where
  pub name : Kept c.head.name
  pub partition : Kept c.role.partition

module _ (room store : List ℕ) (made n : ℕ) where
  pub component_kept : KeptIn (parsing.component_at room store made n 32).component
  unfolding parsing.component_at parsed.component_read parsed.head_read parsed.role_read
  component_kept =
      let f = (parsing.table_at room store made n).fields in
      record {
        name = text_kept (field room store f (ascii "name"));
        partition = or_one Kept (λ from len. tt) (text_read (field room store f (ascii "partition"))).text (texts.Stored 0 0) (text_kept (field room store f (ascii "partition"))) tt;
      }

-- each rule by its number
source_told : (pack file : Bool) → told (entries.source_checked pack file) ≡ meant.source_fault pack file
unfolding meant.source_fault
source_told true true = refl
source_told true false = refl
source_told false true = refl
source_told false false = refl

boot_told : (pbp own updater ram : Bool)
    → told (pick {X = Result (Unit {0}) Refused} (pick pbp own false) (Err TwoPbps) (pick (pick updater (pick ram false true) false) (Err UpdaterWithoutRam) (Ok tt)))
    ≡ meant.boot_fault pbp own updater ram
unfolding meant.boot_fault
boot_told pbp own updater ram =
    on (pick pbp own false) (λ e. rw e) (λ e. rw e (on (pick updater (pick ram false true) false) (λ f. rw f) (λ f. rw f)))

target_told : (empty updater known : Bool) → told (entries.target_checked empty updater known) ≡ pick empty (pick updater 0 57) (pick known 0 58)
target_told true true known = refl
target_told true false known = refl
target_told false updater true = refl
target_told false updater false = refl

reserve_told : (n : ℕ) → told (entries.reserve_checked n) ≡ meant.reserve_fault n
unfolding meant.reserve_fault
reserve_told n = on (eqb (n % 512) 0) (λ e. rw e) (λ e. rw e)

name_told : (store : List ℕ) (t : Text) → told (entries.name_checked store t) ≡ pick (long (entries.kept store t)) 52 0
name_told store t = on (long (entries.kept store t)) (λ e. rw e) (λ e. rw e)

late_told : (store : List ℕ) (known : Bool) (c : Component)
    → told (entries.late_checked store known c)
    ≡ or_else (pick (long (entries.kept store c.head.name)) 52 0)
    (or_else (meant.source_fault (is_given c.head.«package») (is_given c.head.file))
    (or_else (meant.boot_fault (is_given c.boot.pbp) (is_given c.boot.pbp_package) c.boot.updater (is_some c.boot.ram))
    (or_else (pick (nil? (entries.kept store c.role.partition)) (pick c.boot.updater 0 57) (pick known 0 58)) (meant.reserve_fault c.load.ext_reserve))))
unfolding entries.late_checked
late_told store known c =
    let n = entries.name_checked store c.head.name in
    let s = entries.source_checked (is_given c.head.«package») (is_given c.head.file) in
    let b = entries.boot_checked c.boot in
    let t = entries.target_checked (nil? (entries.kept store c.role.partition)) c.boot.updater known in
    let r = entries.reserve_checked c.load.ext_reserve in
    rw (
      told_first n (first_err s (first_err b (first_err t r))),
      told_first s (first_err b (first_err t r)),
      told_first b (first_err t r),
      told_first t r,
      name_told store c.head.name,
      source_told (is_given c.head.«package») (is_given c.head.file),
      boot_told (is_given c.boot.pbp) (is_given c.boot.pbp_package) c.boot.updater (is_some c.boot.ram),
      target_told (nil? (entries.kept store c.role.partition)) c.boot.updater known,
      reserve_told c.load.ext_reserve,
    )

-- the name's rules in one, or one after the other
name_turned : (m l : Bool) (x : ℕ) → or_else (pick m 51 (pick l 52 0)) x ≡ or_else (pick m 51 0) (or_else (pick l 52 0) x)
name_turned true l x = refl
name_turned false l x = refl

module _ (room store : List ℕ) (made : ℕ) (name : List ℕ) (parts : List (List ℕ)) where
  component_rule : (earlier : List (List ℕ)) (fault : ℕ) (c : Component) → KeptIn c
      → meant.component_fault parts earlier (component_meant room store made name c) ≡ mark_rule 51 store earlier (component_entry store parts fault c).mark
  unfolding meant.component_fault meant.component_name meant.target_fault entry_fault component_entry
  component_rule earlier fault c k =
      rw (
        late_told store (is_some (placed (length parts) (rank (entries.referred store c.role.partition) parts))) c,
        placed_some (length parts) (rank (entries.referred store c.role.partition) parts),
        kept_spelled store name c.head.name k.name,
        kept_spelled store name c.role.partition k.partition,
        given_text store name c.head.«package»,
        given_text store name c.head.file,
        given_text store name c.boot.pbp,
        given_text store name c.boot.pbp_package,
        given_number c.boot.ram,
        among_rank (entries.referred store c.role.partition) parts,
      )
      (name_turned (among (entries.kept store c.head.name) earlier) (long (entries.kept store c.head.name)) _)

  components_turn : (ns : List ℕ)
      → in_turn (meant.component_fault parts) (λ earlier d. with_last earlier d.head.name) in_component 0 [] (map (component_of room store made name 32) ns)
      ≡ mark_verdict 51 store in_component (map (λ n. (component_at room store made parts n).mark) ns)
  unfolding component_entry
  components_turn =
      turns_agree (meant.component_fault parts) (λ earlier d. with_last earlier d.head.name) (mark_rule 51 store) (noted store)
      (component_of room store made name 32) (λ n. (component_at room store made parts n).mark)
      (λ earlier n. component_rule earlier (parsing.component_at room store made n 32).fault (parsing.component_at room store made n 32).component (component_kept room store made n))
      (λ earlier n. ap (with_last earlier) (kept_spelled store name (parsing.component_at room store made n 32).component.head.name (component_kept room store made n).name))
      in_component 0 []

  pub components_say : (ns : List ℕ)
      → Says (meant.component_rules parts (map (component_of room store made name 32) ns)) (components_fault store (map (λ n. (component_at room store made parts n).mark) ns)) tt
  unfolding meant.component_rules components_fault
  components_say [] = record { told_by = (refl, omega arith) }
  components_say (n ∷ ns) = rw (components_turn (n ∷ ns)) (marks_say 51 store in_component (map (λ i. (component_at room store made parts i).mark) (n ∷ ns)))

-- ---- an application

pub record Placing (a : Application) : Type 0 where
  pub name : Kept a.name
  pub partition : Named a.partition
  pub filename : Filed a.filename

module _ (room store : List ℕ) (made n : ℕ) where
  pub application_kept : Placing (parsing.application_at room store made n 32).application
  unfolding parsing.application_at reading.application_read reading.names
  application_kept =
      let f = (parsing.table_at room store made n).fields in
      let v = slot_at room n in
      let called = or_text (text_read (field room store f (ascii "name"))).text (texts.Stored v.key v.len) in
      record {
        name = or_one Kept (λ from len. tt) (text_read (field room store f (ascii "name"))).text (texts.Stored v.key v.len) (text_kept (field room store f (ascii "name"))) tt;
        partition = or_one Named (λ from len. tt) (text_read (field room store f (ascii "partition"))).text (texts.Fixed words.App) (text_kept (field room store f (ascii "partition"))) tt;
        filename = or_one Filed (λ from len. tt) (text_read (field room store f (ascii "filename"))).text (aic_of called) (text_kept (field room store f (ascii "filename"))) (aic_filed called);
      }

-- the name's rule in its place, or after the early rules
early_turned : (e l f m : Bool) (p : Result (Unit {0}) Refused) (x : ℕ)
    → pick e 61 (pick l 62 (pick f 63 (or_else (told p) (pick m 65 x))))
    ≡ or_else (told (pick {X = Result (Unit {0}) Refused} e (Err EmptyApplicationName) (pick l (Err ApplicationNameTooLong) (pick f (Err EmptyFilename) p)))) (or_else (pick m 65 0) x)
early_turned true l f m p x = refl
early_turned false true f m p x = refl
early_turned false false true m p x = refl
early_turned false false false true p x = refl
early_turned false false false false p x = refl

-- the first partition of a name is the one with the name's rank
place_says : (store name : List ℕ) (ps : List Partition)
    → meant.place_fault (meant.first_named name (map (part_meant store) ps)) ≡ told (entries.place_checked (slice_get ps (rank name (map (part_name store) ps))))
place_says store name [] = refl
place_says store name (p ∷ ps) = on (same name (part_name store p)) (λ e. rw e (on p.locked (λ f. rw f) (λ f. rw f))) (λ e. rw e (place_says store name ps))

address_told : (a : amounts.Option ℕ) → told (entries.address_checked a) ≡ meant.address_fault a
unfolding meant.address_fault
address_told amounts.none = refl
address_told (amounts.some a) = on (eqb (a % 4) 0) (λ e. rw e) (λ e. rw e)

module _ (room store : List ℕ) (made : ℕ) (name : List ℕ) (ps : List Partition) where
  abbrev laid : List schemas.Partition
  laid = map (part_meant store) ps

  aim_says : (t : Text) → Named t
      → meant.place_fault (meant.first_named (spelled store name t) laid) ≡ told (entries.place_checked (slice_get ps (aim false store (map (part_name store) ps) t)))
  aim_says texts.Absent h = absurd h
  aim_says (texts.Stored from len) h = place_says store (clip from len store) ps
  aim_says texts.Lent h = absurd h
  aim_says (texts.Fixed w) h = place_says store (spelled store name (texts.Fixed w)) ps
  aim_says (texts.WithAic from len) h = absurd h

  application_rule : (earlier : List (List ℕ)) (fault : ℕ) (pair : Pair) (a : Application) → Placing a
      → meant.application_fault laid earlier (application_meant room store made name a) ≡ mark_rule 65 store earlier (application_entry store ps fault pair a).mark
  unfolding meant.application_fault entry_fault application_entry
  application_rule earlier fault pair a k =
      rw (kept_spelled store name a.name k.name, empty_spelled store name a.filename k.filename, aim_says a.partition k.partition, address_told (amount a.load_address))
      (early_turned (nil? (entries.kept store a.name)) (long (entries.kept store a.name)) (is_empty store a.filename)
      (among (entries.kept store a.name) earlier) (entries.place_checked (slice_get ps (aim false store (map (part_name store) ps) a.partition))) (meant.address_fault (amount a.load_address)))

  applications_turn : (ns : List ℕ)
      → meant.application_rules laid (map (application_of room store made name 32) ns)
      ≡ mark_verdict 65 store in_application (map (λ n. (application_at room store made ps n).mark) ns)
  unfolding application_entry meant.application_rules
  applications_turn =
      turns_agree (meant.application_fault laid) (λ earlier a. with_last earlier a.name) (mark_rule 65 store) (noted store)
      (application_of room store made name 32) (λ n. (application_at room store made ps n).mark)
      (λ earlier n.
      application_rule earlier (parsing.application_at room store made n 32).fault (application_at room store made ps n).pair (parsing.application_at room store made n 32).application
      (application_kept room store made n))
      (λ earlier n. ap (with_last earlier) (kept_spelled store name (parsing.application_at room store made n 32).application.name (application_kept room store made n).name))
      in_application 0 []

  pub applications_say : (ns : List ℕ)
      → Says (meant.application_rules laid (map (application_of room store made name 32) ns)) (applications_fault store (map (λ n. (application_at room store made ps n).mark) ns)) tt
  applications_say ns = rw (applications_turn ns) (marks_say 65 store in_application (map (λ i. (application_at room store made ps i).mark) ns))

-- ---- the first partition

module _ (room store : List ℕ) (made : ℕ) (name p : List ℕ) (ps : List (List ℕ)) where
  first_targets : (ns : List ℕ) → meant.targets p (map (component_of room store made name 32) ns) ≡ any_of (λ n. (component_at room store made (p ∷ ps) n).first) ns
  unfolding component_entry
  first_targets [] = refl
  first_targets (n ∷ ns) =
      let t = (parsing.component_at room store made n 32).component.role.partition in
      rw (kept_spelled store name t (component_kept room store made n).partition, first_targets ns)
      (ap (λ (b : Bool). pick (pick (nil? (entries.kept store t)) false b) true (any_of (λ i. (component_at room store made (p ∷ ps) i).first) ns)) (sym (placed_first (entries.referred store t) p ps)))

  pub boot_says : (ns : List ℕ)
      → Says (meant.boot_rule (p ∷ ps) (map (component_of room store made name 32) ns)) (boot_fault (any_of (λ n. (component_at room store made (p ∷ ps) n).first) ns)) tt
  unfolding meant.boot_rule
  boot_says ns =
      rw (first_targets ns)
      (on (any_of (λ n. (component_at room store made (p ∷ ps) n).first) ns) (λ e. rw e (record { told_by = (refl, refl) })) (λ e. rw e (record { told_by = (refl, omega arith) })))
