-- The export of presets: what the rooms say of a text's records is what 01 says.
use Prim.Native.Nat.{ℕ, ◌/◌, ◌≤◌, ◌<◌}
use mathlib.Core.Bool.{true}
use mathlib.Core.List.{List, []}
use mathlib.Core.Path.{◌≡◌, refl, sym, ap, subst, ◌∙◌}
use native.Mathlib.Omega.{arith}
use borrow.Author.Tests.{eq-eqb, ne_eqb, eqb-true, eqb-false, le-ltb, ltb-false}
use lib.Dec.{eqb, ltb}
use lib.ListN.{length}
use Rattle.meaning.specs.Base.{zeros}
use Rattle.meaning.specs.Limits.{of01}
use Rattle.meaning.specs.Refusal.{Answer, accepted, refused, accepted_then, numbered, at_line}
use Rattle.meaning.specs.Document.{Parsed, in_rooms}
use Rattle.meaning.specs.Tree.{Table, table}
use Rattle.meaning.specs.Schema as meant
use Rattle.meaning.specs.Records.{preset_of}
use Rattle.meaning.specs.Preset.{Read, read, validate}
use Rattle.meaning.specs.Rules.{rules}
use Rattle.meaning.specs.Plan as plans
use Rattle.laws.specs.Cases.{on}
use Rattle.scalar.specs.Stores.{over}
use Rattle.tree.specs.Doors.{fields_of}
use Rattle.values.specs.Out.{cells}
use Rattle.values.specs.Doc.{Doc, document_s}
use Rattle.values.proofs.Carrying.{length_cells, length_over}
use Rattle.agree.specs.Steps.{Agree}
use Rattle.agree.proofs.Placing.{place_root}
use Rattle.agree.specs.Rooms.{Carried}
use Rattle.agree.proofs.Rooms.{carried}
use Rattle.agree.specs.Whole.{Doc-agrees}
use Rattle.agree.proofs.Theorem.{bytes_fit, slots_fit}
use Rattle.agree.specs.Doors as doors
use Rattle.toml_lite.specs.Rooms as rooms
use Rattle.toml_lite.specs.Rooms.{judged}
use Rattle.parse.specs.declared.Refusal.{Refusal}
use Rattle.preset.specs.declared.Outcome as parsed
use Rattle.parse.specs.Refusals.{earlier}
use Rattle.parse.specs.Refused.{lent_text}
use Rattle.parse.specs.Views.{holds_values}
use Rattle.parse.specs.Verdict as verdicts
use Rattle.preset.specs.Settled as settled
use Rattle.parse.specs.Filed.{file_named, file_inside}
use Rattle.parse.specs.Answers.{Says, says_after, says_made, says_accepted, says_refused, earlier_clear}
use Rattle.parse.specs.Whole.{preset_meant, lent_is}
use Rattle.agree.proofs.Presets.{preset_says}
use Rattle.validate.specs.Faults as faults
use Rattle.validate.specs.Validated.{validating}
use Rattle.validate.specs.Said.{rules_say}
use Rattle.plan.specs.Choices.{choice, fault}
use Rattle.plan.specs.ChoiceSaid.{selection, selected, plan_says}
use Rattle.plan.specs.Planning.{planning}
use Rattle.host.specs.declared.documents.Outcome.{Outcome}
use Rattle.host.specs.Documents.{Shown}
use Rattle.host.specs.Presets.{Answered, recorded, validated, exported}
use Rattle.host.specs.Plans.{planned}
use Rattle.slices.proofs.Zeroing.{length_zeros}
use Rattle.host.proofs.Presenting.{judged_is, large, judged_agrees}

-- ---- an accepted text is short
no_one : {G : Type 0} (d : Doc) → at_line 1 0 ≡ accepted d → G
no_one d e = let z : ◌≡◌ {A = ℕ} 0 1 = cc in absurd (omega arith)

short : (s : List ℕ) (d : Doc) → document_s of01 s ≡ accepted d → length s ≤ 32768
unfolding document_s
short s d e = on (ltb 32768 (length s)) (λ p. no_one d (rw p at e)) (λ p. ltb-false 32768 (length s) p)

few_bytes : (s : List ℕ) (n m : ℕ) (d : Doc) → judged s n m ≡ accepted d → length d.bytes < 65536
few_bytes s n m d e = let k = judged_is s n m d e in omega (arith, bytes_fit of01 s d k, short s d k)

-- ---- a judge beside 01's answer to a tree's root

-- 01's answer to a text, by its answer to the root of the text's tree
abbrev pub answer : (Table → Answer meant.Preset) → Answer Parsed → Answer Read
answer way a = accepted_then a (λ p. accepted_then (way p.root) (λ preset. accepted (record { parsed = p; preset = preset })))

abbrev preset_in : List ℕ → List ℕ → ℕ → List ℕ → meant.Preset
preset_in room store made name = preset_meant room store made name (fields_of room made 1) of01 (lent_text name)

-- of every room the judge says what 01 says of the root, where the records do; and no judge passes what reading refuses
pub record Judges (name : List ℕ) (judge : List ℕ → List ℕ → ℕ → Refusal) (way : Table → Answer meant.Preset) : Type 0 where
  pub clear : (room store : List ℕ) (made : ℕ) → (judge room store made).number ≡ 0 → (verdicts.reading name room store made).number ≡ 0
  pub says : (room store : List ℕ) (made : ℕ) (root : Table) → Says (preset_of of01 name root) (verdicts.reading name room store made) (preset_in room store made name)
      → Says (way root) (judge room store made) (preset_in room store made name)

-- ---- the rooms of an accepted text
module _ (judge : List ℕ → List ℕ → ℕ → Refusal) (way : Table → Answer meant.Preset) (text name store tree : List ℕ) (js : Judges name judge way) (p : Parsed) (d : Doc)
    (ed : judged text (length store) (length tree) ≡ accepted d) (h : Doc-agrees [] (accepted p) (accepted d)) where
  abbrev room : List ℕ
  room = rooms.tree_of (zeros (length tree)) (accepted d)

  abbrev bytes : List ℕ
  bytes = rooms.store_of (zeros (length store)) (accepted d)

  abbrev made : ℕ
  made = length d.slots

  module _ (store' tree' : List ℕ) (o : parsed.Outcome) (j : settled.Judged judge d (zeros (length store)) (zeros (length tree)) store' tree' o) where
    carries : Carried room bytes d.bytes d.slots
    carries = carried room bytes (zeros (length store)) d.bytes d.slots j.carries refl

    told : doors.Told room bytes d.bytes d.slots (table p.root) made
    told = record { carried = carries; agree = h.2; small = few_bytes text (length store) (length tree) d ed; all = refl; few = j.few }

    -- what the rooms' records are, and what 01 says
    says : Says (way p.root) (judge room bytes made) (preset_in room bytes made name)
    says =
        js.says room bytes made p.root
        (preset_says room bytes d.bytes d.slots (table p.root) made told file_named file_inside name name (lent_text name) (lent_is bytes name) of01 p.root
        (place_root d.bytes d.slots (table p.root) h.2))

    abbrev found : Refusal
    found = judge room bytes made

    -- ---- 01's answer, from the judge's
    module _ (ep : in_rooms of01 (length store) (length tree) text ≡ accepted p) where
      abbrev its : Answer Read
      its = answer way (in_rooms of01 (length store) (length tree) text)

      answer_fine : found.number ≡ 0 → its ≡ accepted (record { parsed = p; preset = preset_in room bytes made name })
      answer_fine z = rw (ep, says_accepted (way p.root) found _ says z)

      answer_not : 1 ≤ found.number → its ≡ refused (numbered found.number) found.section found.place
      answer_not z = rw (ep, says_refused (way p.root) found _ says z)

      kept_is : settled.Kept found bytes room made store' tree' o
      kept_is = j.kept

      shown : store' ≡ bytes → tree' ≡ room → Shown store' tree' p
      shown es et =
          record {
            slots = d.slots;
            made = sym h.1;
            carried = rw (es, et) (subst (λ (b : List ℕ). Carried room bytes b d.slots) h.0 carries);
            agrees = subst (λ (b : List ℕ). Agree b d.slots (table p.root)) h.0 h.2;
          }

      doc : document_s of01 text ≡ accepted d
      doc = judged_is text (length store) (length tree) d ed

      big : (32768 ≤ length store) × (65536 ≤ length tree)
      big = large text (length store) (length tree) d ed

      bytes_long : length bytes ≡ length store
      bytes_long = length_over d.bytes (zeros (length store)) (omega (arith, bytes_fit of01 text d doc, short text d doc, big.0, length_zeros (length store))) ∙ length_zeros (length store)

      room_long : length room ≡ length tree
      room_long = length_over (cells d.slots) (zeros (length tree)) (omega (arith, length_cells d.slots, slots_fit of01 text d doc, big.1, length_zeros (length tree))) ∙ length_zeros (length tree)

      -- no more values than the room takes
      sounds : holds_values room (length d.slots) ≡ true
      unfolding holds_values
      sounds =
          let k : made ≤ length room / 32 = omega (arith, room_long, big.1, slots_fit of01 text d doc) in
          let l : length d.slots ≤ 65000 = j.few in
          rw (le-ltb (length room / 32) (length d.slots) k, le-ltb 65000 (length d.slots) l)

      answered_fine : found.number ≡ 0 → Answered its text name store tree store' tree' (exported o)
      answered_fine z =
          let e = answer_fine z in
          let es : store' ≡ bytes = rw (eq-eqb found.number 0 z) at kept_is.store_is in
          let et : tree' ≡ room = rw (eq-eqb found.number 0 z) at kept_is.tree_is in
          let eo : o ≡ record { number = 0; section = 0; place = 0; made = length d.slots } = rw (eq-eqb found.number 0 z) at kept_is.says in
          let mm : p.made ≡ length d.slots = h.1 in
          record {
            says = rw (e, eo, mm);
            store_is = rw e (es ∙ ap (λ (b : List ℕ). over b (zeros (length store))) h.0);
            tree_is = rw (e, doc) et;
            shows = rw e (record { shown = shown es et; stands = rw (mm, et) sounds; clear = rw (mm, es, et) (js.clear room bytes made z); records = rw (mm, es, et) });
          }

      answered_not : (found.number ≡ 0 → ⊥) → Answered its text name store tree store' tree' (exported o)
      answered_not z =
          let e = answer_not (omega (arith, z)) in
          let es : store' ≡ zeros (length bytes) = rw (ne_eqb found.number 0 z) at kept_is.store_is in
          let et : tree' ≡ zeros (length room) = rw (ne_eqb found.number 0 z) at kept_is.tree_is in
          let eo : o ≡ record { number = found.number; section = found.section; place = found.place; made = 0 } = rw (ne_eqb found.number 0 z) at kept_is.says in
          record {
            says = rw (e, eo);
            store_is = rw e (es ∙ ap zeros bytes_long);
            tree_is = rw e (et ∙ ap zeros room_long);
            shows = rw e tt;
          }

-- ---- every text
pub answered_is : (judge : List ℕ → List ℕ → ℕ → Refusal) (way : Table → Answer meant.Preset) (text name store tree store' tree' : List ℕ) (o : parsed.Outcome) → Judges name judge way
    → settled.Parsed judge text store tree store' tree' o
    → Answered (answer way (in_rooms of01 (length store) (length tree) text)) text name store tree store' tree' (exported o)
answered_is judge way text name store tree store' tree' o js r =
    go (in_rooms of01 (length store) (length tree) text) (judged text (length store) (length tree)) refl refl (judged_agrees text (length store) (length tree)) r.by
  where
    go : (a : Answer Parsed) (b : Answer Doc) → in_rooms of01 (length store) (length tree) text ≡ a → judged text (length store) (length tree) ≡ b → Doc-agrees [] a b
        → settled.ReadBy judge b (zeros (length store)) (zeros (length tree)) store' tree' o
        → Answered (answer way (in_rooms of01 (length store) (length tree) text)) text name store tree store' tree' (exported o)
    go (accepted p) (accepted d) ea eb h j =
        on (eqb (found judge way text name store tree js p d eb h store' tree' o j).number 0)
        (λ z. answered_fine judge way text name store tree js p d eb h store' tree' o j ea (eqb-true (found judge way text name store tree js p d eb h store' tree' o j).number 0 z))
        (λ z. answered_not judge way text name store tree js p d eb h store' tree' o j ea (eqb-false (found judge way text name store tree js p d eb h store' tree' o j).number 0 z))
    go (accepted p) (refused f i q) ea eb h j = absurd h
    go (refused f i q) (accepted d) ea eb h j = absurd h
    go (refused f i q) (refused f' i' q') ea eb h j =
        record {
          says = rw (ea, j.0, h.0, h.1, h.2);
          store_is = rw ea (j.1 ∙ ap zeros (length_zeros (length store)));
          tree_is = rw ea (j.2 ∙ ap zeros (length_zeros (length tree)));
          shows = rw ea tt;
        }

-- a tree that the judge passes is accepted by 01
pub accepted_is : (judge : List ℕ → List ℕ → ℕ → Refusal) (way : Table → Answer meant.Preset) (text name store tree store' tree' : List ℕ) (o : parsed.Outcome) → Judges name judge way
    → settled.Parsed judge text store tree store' tree' o → (d : Doc) → judged text (length store) (length tree) ≡ accepted d → o.number ≡ 0
    → (p : Read) × (answer way (in_rooms of01 (length store) (length tree) text) ≡ accepted p)
accepted_is judge way text name store tree store' tree' o js r d ed z =
    go (in_rooms of01 (length store) (length tree) text) (judged text (length store) (length tree)) refl refl (judged_agrees text (length store) (length tree)) r.by
  where
    go : (a : Answer Parsed) (b : Answer Doc) → in_rooms of01 (length store) (length tree) text ≡ a → judged text (length store) (length tree) ≡ b → Doc-agrees [] a b
        → settled.ReadBy judge b (zeros (length store)) (zeros (length tree)) store' tree' o
        → (p : Read) × (answer way (in_rooms of01 (length store) (length tree) text) ≡ accepted p)
    go (accepted p) (accepted c) ea eb h j =
        let v = found judge way text name store tree js p c eb h store' tree' o j in
        on (eqb v.number 0)
        (λ t. (_, answer_fine judge way text name store tree js p c eb h store' tree' o j ea (eqb-true v.number 0 t)))
        (λ t.
        let k : o ≡ record { number = v.number; section = v.section; place = v.place; made = 0 } = rw t at j.kept.says in
        absurd (eqb-false v.number 0 t (sym (ap (λ (x : parsed.Outcome). x.number) k) ∙ z)))
    go (accepted p) (refused f i q) ea eb h j = absurd h
    go (refused f i q) (accepted c) ea eb h j = absurd h
    go (refused f i q) (refused f' i' q') ea eb h j = let x : refused f' i' q' ≡ accepted d = sym eb ∙ ed in let y : ◌≡◌ {A = ℕ} 0 1 = cc in absurd (omega arith)

-- two results that meet the promise are equal, answer and both rooms
pub answered_decides : (a : Answer Read) (text name store tree store₁ tree₁ store₂ tree₂ : List ℕ) (r₁ r₂ : Outcome) → Answered a text name store tree store₁ tree₁ r₁
    → Answered a text name store tree store₂ tree₂ r₂ → (r₁ ≡ r₂) × (store₁ ≡ store₂) × (tree₁ ≡ tree₂)
answered_decides a text name store tree store₁ tree₁ store₂ tree₂ r₁ r₂ g h = (g.says ∙ sym h.says, g.store_is ∙ sym h.store_is, g.tree_is ∙ sym h.tree_is)

-- ---- records

reading_judges : (name : List ℕ) → Judges name (verdicts.reading name) (preset_of of01 name)
reading_judges name = record { clear = λ room store made z. z; says = λ room store made root s. s }

pub preset_is : (text name store tree store' tree' : List ℕ) (o : parsed.Outcome) (q : Outcome) → settled.Parsed (verdicts.reading name) text store tree store' tree' o → q ≡ exported o
    → Answered (recorded text name store tree) text name store tree store' tree' q
unfolding read
preset_is text name store tree store' tree' o q r e = rw e (answered_is (verdicts.reading name) (preset_of of01 name) text name store tree store' tree' o (reading_judges name) r)

-- ---- one judge after another

-- a root's preset, where what is asked of it is not refused
abbrev held : {X : Type 0} → (meant.Preset → Answer X) → (Table → Answer meant.Preset) → Table → Answer meant.Preset
held rule way root = accepted_then (way root) (λ preset. accepted_then (rule preset) (λ y. accepted preset))

pub judges_next : {X : Type 0} (name : List ℕ) (judge second : List ℕ → List ℕ → ℕ → Refusal) (way : Table → Answer meant.Preset) (rule : meant.Preset → Answer X)
    (given : List ℕ → List ℕ → ℕ → X) → Judges name judge way
    → ((room store : List ℕ) (made : ℕ) → Says (rule (preset_in room store made name)) (second room store made) (given room store made))
    → Judges name (λ room store made. earlier (judge room store made) (second room store made)) (held rule way)
judges_next name judge second way rule given js says =
    record {
      clear = λ room store made z. js.clear room store made (earlier_clear (judge room store made) (second room store made) z).0;
      says = λ room store made root s.
          says_after (λ preset. accepted_then (rule preset) (λ y. accepted preset)) (js.says room store made root s) (says_made (λ y. preset_in room store made name) (says room store made));
    }

-- of a text's answer
answer_next : {X : Type 0} (a : Answer Parsed) (way : Table → Answer meant.Preset) (rule : meant.Preset → Answer X)
    → accepted_then {Y = Read} (answer way a) (λ r. accepted_then {Y = Read} (rule r.preset) (λ y. accepted r)) ≡ answer (held rule way) a
answer_next (refused f s p) way rule = refl
answer_next {X} (accepted p) way rule = one (way p.root)
  where
    two : (m : meant.Preset) (v : Answer X)
        → accepted_then {Y = Read} v (λ y. accepted (record { parsed = p; preset = m })) ≡ accepted_then {Y = Read} (accepted_then {Y = meant.Preset} v (λ y. accepted m)) (λ preset. accepted (record { parsed = p; preset = preset }))
    two m (accepted u) = refl
    two m (refused f s q) = refl

    one : (m : Answer meant.Preset)
        → accepted_then {Y = Read} (accepted_then {Y = Read} m (λ preset. accepted (record { parsed = p; preset = preset }))) (λ r. accepted_then {Y = Read} (rule r.preset) (λ y. accepted r))
        ≡ accepted_then {Y = Read} (accepted_then {Y = meant.Preset} m (λ preset. accepted_then {Y = meant.Preset} (rule preset) (λ y. accepted preset))) (λ preset. accepted (record { parsed = p; preset = preset }))
    one (refused f s q) = refl
    one (accepted m) = two m (rule m)

-- ---- rules

abbrev rules_over : List ℕ → Table → Answer meant.Preset
rules_over name = held rules (preset_of of01 name)

validating_judges : (name : List ℕ) → Judges name (validating name) (rules_over name)
validating_judges name =
    judges_next name (verdicts.reading name) (λ room store made. faults.verdict room store made name) (preset_of of01 name) rules (λ room store made. tt) (reading_judges name)
    (λ room store made. rules_say room store made name)

validated_is : (text name store tree : List ℕ) → validated text name store tree ≡ answer (rules_over name) (in_rooms of01 (length store) (length tree) text)
unfolding validate read
validated_is text name store tree = answer_next (in_rooms of01 (length store) (length tree) text) (preset_of of01 name) rules

pub valid_is : (text name store tree store' tree' : List ℕ) (o : parsed.Outcome) (q : Outcome) → settled.Parsed (validating name) text store tree store' tree' o → q ≡ exported o
    → Answered (validated text name store tree) text name store tree store' tree' q
valid_is text name store tree store' tree' o q r e =
    rw (e, validated_is text name store tree) (answered_is (validating name) (rules_over name) text name store tree store' tree' o (validating_judges name) r)

-- ---- a selection

abbrev plan_over : List ℕ → ℕ → List ℕ → Table → Answer meant.Preset
plan_over name app key = held (λ preset. plans.plan_of preset (selection app key)) (rules_over name)

planning_judges : (name : List ℕ) (app : ℕ) (key : List ℕ) → Judges name (planning name app key) (plan_over name app key)
planning_judges name app key =
    judges_next name (validating name) (λ room store made. fault room store made (choice room store made app key)) (rules_over name) (λ preset. plans.plan_of preset (selection app key))
    (λ room store made. plans.composed (preset_in room store made name) (selection app key) (selected room store made name (choice room store made app key))) (validating_judges name)
    (λ room store made. plan_says room store made name app key)

planned_is : (text name : List ℕ) (app : ℕ) (key store tree : List ℕ)
    → planned text name app key store tree ≡ answer (plan_over name app key) (in_rooms of01 (length store) (length tree) text)
planned_is text name app key store tree =
    rw (validated_is text name store tree)
    (answer_next (in_rooms of01 (length store) (length tree) text) (rules_over name) (λ preset. plans.plan_of preset (selection app key)))

pub plan_is : (text name : List ℕ) (app : ℕ) (key store tree store' tree' : List ℕ) (o : parsed.Outcome) (q : Outcome) → settled.Parsed (planning name app key) text store tree store' tree' o
    → q ≡ exported o → Answered (planned text name app key store tree) text name store tree store' tree' q
plan_is text name app key store tree store' tree' o q r e =
    rw (e, planned_is text name app key store tree)
    (answered_is (planning name app key) (plan_over name app key) text name store tree store' tree' o (planning_judges name app key) r)

-- the same of planning
pub plan_accepted : (text name : List ℕ) (app : ℕ) (key store tree store' tree' : List ℕ) (o : parsed.Outcome) → settled.Parsed (planning name app key) text store tree store' tree' o
    → (d : Doc) → judged text (length store) (length tree) ≡ accepted d → o.number ≡ 0 → (p : Read) × (planned text name app key store tree ≡ accepted p)
plan_accepted text name app key store tree store' tree' o r d ed z =
    rw (planned_is text name app key store tree) (accepted_is (planning name app key) (plan_over name app key) text name store tree store' tree' o (planning_judges name app key) r d ed z)

-- and what it accepts has a tree
pub plan_judged : (text name : List ℕ) (app : ℕ) (key store tree : List ℕ) (p : Read) → planned text name app key store tree ≡ accepted p → (d : Doc) × (judged text (length store) (length tree) ≡ accepted d)
plan_judged text name app key store tree p e =
    go (in_rooms of01 (length store) (length tree) text) (judged text (length store) (length tree)) refl refl (judged_agrees text (length store) (length tree)) (sym (planned_is text name app key store tree) ∙ e)
  where
    go : (a : Answer Parsed) (b : Answer Doc) → in_rooms of01 (length store) (length tree) text ≡ a → judged text (length store) (length tree) ≡ b → Doc-agrees [] a b
        → answer (plan_over name app key) (in_rooms of01 (length store) (length tree) text) ≡ accepted p → (d : Doc) × (judged text (length store) (length tree) ≡ accepted d)
    go a (accepted d) ea eb h k = (d, eb)
    go (accepted x) (refused f i q) ea eb h k = absurd h
    go (refused f i q) (refused f' i' q') ea eb h k = let x : refused f i q ≡ accepted p = rw ea at k in let y : ◌≡◌ {A = ℕ} 0 1 = cc in absurd (omega arith)
