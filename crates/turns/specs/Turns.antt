-- Entries in turn as the code takes them, and by the twin first; and what a fault says of its verdict.
use Rattle.std.specs.Prelude.{ℕ, suc, ◌+◌, ◌≤◌, true, false, ◌≡◌, refl, eqb, Result, Ok, Err}
use mathlib.Core.List.{List, [], ◌∷◌, map}
use Rattle.std.proofs.Common.{sym, ap, ◌∙◌, arith, eq-eqb, ne_eqb, eqb-true}
use Rattle.meaning.specs.declared.Refused.{Refused}
use Rattle.meaning.specs.Base.{pick}
use Rattle.meaning.specs.Numbered.{told}
use Rattle.std.proofs.lemmas.Bool.{eqb-false}
use Rattle.meaning.specs.Refusal as refusals
use Rattle.meaning.specs.Refusal.{accepted, refused, numbered}
use Rattle.meaning.specs.Verdict as verdicts
use Rattle.meaning.specs.Verdict.{Verdict, fine, first_refusal, among, with_last, in_turn}
use Rattle.laws.specs.Cases.{on}
use Rattle.turns.specs.declared.Mark.{Mark}
use Rattle.turns.specs.declared.EntryRefused.{EntryRefused}
use Rattle.turns.specs.Marks.{Fault, any_of, first_hit, named, same_name, twin, entry_fault, first_fault, fault_of, mark_rule, noted, mark_verdict, judged}
use Rattle.turns.specs.Marks.{first_err, entry_checked, at_place, first_refused, checked_from, judged_by}

-- ---- a verdict by its fault

-- what a fault says in a section: a refusal with its number and place, none where the number is 0
abbrev pub Says : ℕ → Fault → Verdict → Type 0
Says section r v = v ≡ verdicts.judged section r.place r.number

-- a refusal says the fault, and the fault has a number
pub record Refuses (section : ℕ) (r : Fault) (f : refusals.Fault) (s p : ℕ) : Type 0 where
  pub is : f ≡ numbered r.number
  pub within : s ≡ section
  pub at : p ≡ r.place
  pub told : 1 ≤ r.number

module _ (section : ℕ) (r : Fault) (v : Verdict) (h : Says section r v) where
  pub says_fine : r.number ≡ 0 → v ≡ fine
  says_fine e = rw e at h

  pub says_refused : (r.number ≡ 0 → ⊥) → v ≡ refused (numbered r.number) section r.place
  says_refused e = rw (ne_eqb r.number 0 e) at h

  pub says_number : (f : refusals.Fault) (s p : ℕ) → v ≡ refused f s p → Refuses section r f s p
  says_number f s p e =
      on (eqb r.number 0)
      (λ z.
      let w : v ≡ fine = says_fine (eqb-true r.number 0 z) in
      let q : ◌≡◌ {A = ℕ} 0 1 = cc in
      absurd (omega arith))
      (λ z.
      let n : r.number ≡ 0 → ⊥ = eqb-false r.number 0 z in
      let w : v ≡ refused (numbered r.number) section r.place = says_refused n in
      record { is = cc; within = cc; at = cc; told = omega arith })

pub said_judged : (section place n : ℕ) → Says section (fault_of (verdicts.judged section place n)) (verdicts.judged section place n)
said_judged section place n = on (eqb n 0) (λ e. rw e) (λ e. rw (e, e))

pub said_and : (section : ℕ) (v w : Verdict) → Says section (fault_of v) v → Says section (fault_of w) w → Says section (fault_of (first_refusal v w)) (first_refusal v w)
said_and section (accepted u) w a b = b
said_and section (refused f s p) w a b = a

module _ {X S : Type 0} (rule : S → X → ℕ) (next : S → X → S) where
  pub turn_said : (section n : ℕ) (s : S) (xs : List X) → Says section (fault_of (in_turn rule next section n s xs)) (in_turn rule next section n s xs)
  turn_said section n s [] = refl
  turn_said section n s (x ∷ xs) =
      said_and section (verdicts.judged section n (rule s x)) (in_turn rule next section (n + 1) (next s x) xs)
      (said_judged section n (rule s x))
      (turn_said section (n + 1) (next s x) xs)

  -- in whichever section
  pub turn_fault : (section section' n : ℕ) (s : S) (xs : List X) → fault_of (in_turn rule next section n s xs) ≡ fault_of (in_turn rule next section' n s xs)
  turn_fault section section' n s [] = refl
  turn_fault section section' n s (x ∷ xs) =
      on (eqb (rule s x) 0) (λ e. rw e (turn_fault section section' (n + 1) (next s x) xs)) (λ e. rw e)

module _ (number : ℕ) (bytes : List ℕ) (section : ℕ) (ms : List (Mark Refused)) where
  pub judged_fault : fault_of (mark_verdict number bytes section ms) ≡ judged number bytes ms
  unfolding judged
  judged_fault = turn_fault (mark_rule number bytes) (noted bytes) section 0 0 [] ms

  pub judged_verdict : (r : Fault) → r ≡ judged number bytes ms → Says section r (mark_verdict number bytes section ms)
  judged_verdict r e = rw (judged_fault, ← e) at (turn_said (mark_rule number bytes) (noted bytes) section 0 [] ms)

-- ---- the twin first

module _ (section i f : ℕ) (r : Fault) (v : Verdict) where
  step_fault : (f ≡ 0 → r ≡ fault_of v) → pick (eqb f 0) r (record { number = f; place = i }) ≡ fault_of (first_refusal (verdicts.judged section i f) v)
  step_fault h = on (eqb f 0) (λ e. rw e (h (eqb-true f 0 e))) (λ e. rw e)

any_among : {R : Type 0} (bytes : List ℕ) (m : Mark R) (es : List (Mark R)) → any_of (same_name bytes m) es ≡ among (named bytes m) (map (named bytes) es)
any_among bytes m [] = refl
any_among bytes m (e ∷ es) = rw (any_among bytes m es)

map_after : {X Y : Type 0} (f : X → Y) (xs : List X) (x : X) → map f (with_last xs x) ≡ with_last (map f xs) (f x)
map_after f [] x = refl
map_after f (y ∷ xs) x = rw (map_after f xs x)

-- an entry that has the name of an earlier one has a fault
met_fault : (number : ℕ) (m : Mark Refused) → 1 ≤ number → entry_fault number true m ≡ 0 → ⊥
unfolding entry_fault
met_fault number m h e =
    on (eqb (told m.early) 0)
    (λ z. let g : eqb number 0 ≡ false = ne_eqb number 0 (λ n. omega arith) in let w : number ≡ 0 = rw (z, g) at e in omega arith)
    (λ z. eqb-false (told m.early) 0 z (rw z at e))

module _ (number : ℕ) (bytes : List ℕ) (h : 1 ≤ number) (section : ℕ) where
  turns : (i : ℕ) (es ms : List (Mark Refused))
      → first_fault number (i + first_hit (same_name bytes) es ms) i ms
      ≡ fault_of (in_turn (mark_rule number bytes) (noted bytes) section i (map (named bytes) es) ms)
  turns i es [] = refl
  turns i es (m ∷ ms) =
      let w = in_turn (mark_rule number bytes) (noted bytes) section (i + 1) (with_last (map (named bytes) es) (named bytes m)) ms in
      on (any_of (same_name bytes m) es)
      (λ e.
      let a : among (named bytes m) (map (named bytes) es) ≡ true = sym (any_among bytes m es) ∙ e in
      let b : eqb i (i + 0) ≡ true = eq-eqb i (i + 0) (omega arith) in
      let f : first_hit (same_name bytes) es (m ∷ ms) ≡ 0 = rw e in
      ap (λ (k : ℕ). first_fault number (i + k) i (m ∷ ms)) f
      ∙ rw (a, b) (step_fault section i (entry_fault number true m) (first_fault number (i + 0) (i + 1) ms) w (λ z. absurd (met_fault number m h z))))
      (λ e.
      let n : ℕ = first_hit (same_name bytes) (with_last es m) ms in
      let a : among (named bytes m) (map (named bytes) es) ≡ false = sym (any_among bytes m es) ∙ e in
      let b : eqb i (i + suc n) ≡ false = ne_eqb i (i + suc n) (λ z. omega arith) in
      let d : i + suc n ≡ i + 1 + n = omega arith in
      let f : first_hit (same_name bytes) es (m ∷ ms) ≡ suc n = rw e in
      ap (λ (k : ℕ). first_fault number (i + k) i (m ∷ ms)) f
      ∙ rw (a, b) (step_fault section i (entry_fault number false m) (first_fault number (i + suc n) (i + 1) ms) w (λ z. rw d (rw (map_after (named bytes) es m) at (turns (i + 1) (with_last es m) ms)))))

pub twin_first : (number : ℕ) (bytes : List ℕ) (ms : List (Mark Refused)) → 1 ≤ number → first_fault number (twin bytes ms) 0 ms ≡ judged number bytes ms
unfolding judged
twin_first number bytes ms h = let e : 0 + twin bytes ms ≡ twin bytes ms = omega arith in rw e at (turns number bytes h 0 0 [] ms)

-- ---- the same by what an entry is refused for

module _ {R : Type 0} (twice : R) (bytes : List ℕ) where
  -- an entry that has the name of an earlier one is refused, whatever comes after it
  met_refused : (i : ℕ) (early : Result (Unit {0}) R) (r s : Result (Unit {0}) (EntryRefused R))
      → at_place i (first_err early (Err twice)) r ≡ at_place i (first_err early (Err twice)) s
  met_refused i (Ok u) r s = refl
  met_refused i (Err e) r s = refl

  turns_by : (i : ℕ) (es ms : List (Mark R))
      → first_refused twice (i + first_hit (same_name bytes) es ms) i ms ≡ checked_from twice bytes (map (named bytes) es) i ms
  turns_by i es [] = refl
  turns_by i es (m ∷ ms) =
      on (any_of (same_name bytes m) es)
      (λ e.
      let a : among (named bytes m) (map (named bytes) es) ≡ true = sym (any_among bytes m es) ∙ e in
      let b : eqb i (i + 0) ≡ true = eq-eqb i (i + 0) (omega arith) in
      let f : first_hit (same_name bytes) es (m ∷ ms) ≡ 0 = rw e in
      ap (λ (k : ℕ). first_refused twice (i + k) i (m ∷ ms)) f
      ∙ rw (a, b) (met_refused i m.early (first_refused twice (i + 0) (i + 1) ms) (checked_from twice bytes (with_last (map (named bytes) es) (named bytes m)) (i + 1) ms)))
      (λ e.
      let n : ℕ = first_hit (same_name bytes) (with_last es m) ms in
      let a : among (named bytes m) (map (named bytes) es) ≡ false = sym (any_among bytes m es) ∙ e in
      let b : eqb i (i + suc n) ≡ false = ne_eqb i (i + suc n) (λ z. omega arith) in
      let d : i + suc n ≡ i + 1 + n = omega arith in
      let f : first_hit (same_name bytes) es (m ∷ ms) ≡ suc n = rw e in
      ap (λ (k : ℕ). first_refused twice (i + k) i (m ∷ ms)) f
      ∙ rw (a, b) (ap (λ (k : ℕ). at_place i (entry_checked twice false m) (first_refused twice k (i + 1) ms)) d
      ∙ ap (at_place i (entry_checked twice false m)) (rw (map_after (named bytes) es m) at (turns_by (i + 1) (with_last es m) ms))))

  pub twin_checked : (ms : List (Mark R)) → first_refused twice (twin bytes ms) 0 ms ≡ judged_by twice bytes ms
  unfolding judged_by
  twin_checked ms = let e : 0 + twin bytes ms ≡ twin bytes ms = omega arith in rw e at (turns_by 0 [] ms)
