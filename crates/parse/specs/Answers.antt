-- Refusals read from the rooms say what definitions say, with their sections and places: one answer after the other.
use Rattle.std.specs.Prelude.{ℕ, ◌≤◌, ◌≡◌, refl, eqb}
use Rattle.std.proofs.Common.{sym, ap, subst, ◌∙◌, arith, eq-eqb, ne_eqb, eqb-true}
use Rattle.std.proofs.lemmas.Bool.{eqb-false}
use Rattle.meaning.specs.Refusal.{R, ok, bad, Answer, accepted, refused, accepted_then, Fault, numbered, unmet, number_of, told}
use Rattle.laws.specs.Cases.{on}
use Rattle.laws.specs.Never.{Numbered}
use Rattle.parse.specs.declared.Refusal.{Refusal}
use Rattle.parse.specs.Refusals.{refusal, earlier}
use Rattle.parse.specs.Meant.{Got}
use Rattle.parse.specs.Reads.{Gives}

-- ---- one answer after the other

pub table_number : (f : Fault) → Numbered f → 1 ≤ number_of f
table_number (numbered n) h = h
table_number (unmet e) h = absurd h

-- a refusal, number 0 for none, says what a definition says, and y is what it gives
abbrev pub Told-by : {X : Type 0} → Answer X → Refusal → X → Type 0
Told-by (accepted x) r y = (r.number ≡ 0) × (y ≡ x)
Told-by (refused f s p) r y = (r ≡ refusal (number_of f) s p) × Numbered f

-- the same as a record: its type says what was answered
pub record Says {X : Type 0} (a : Answer X) (r : Refusal) (y : X) : Type 0 where
  pub told_by : Told-by a r y

earlier_none : (r s : Refusal) → r.number ≡ 0 → earlier r s ≡ s
earlier_none r s e = rw (eq-eqb r.number 0 e)

earlier_some : (r s : Refusal) → 1 ≤ r.number → earlier r s ≡ r
earlier_some r s h = rw (ne_eqb r.number 0 (λ e. omega arith))

-- refusals that were found in groups
pub earlier_two : (a b c : Refusal) → earlier a (earlier b c) ≡ earlier (earlier a b) c
earlier_two a b c = on (eqb a.number 0) (λ e. rw e) (λ e. rw (e, e))

told_after : {X Y : Type 0} (a : Answer X) (k : X → Answer Y) (r s : Refusal) (y : X) (z : Y) → Told-by a r y → Told-by (k y) s z → Told-by (accepted_then a k) (earlier r s) z
told_after (accepted x) k r s y z g h = rw (earlier_none r s g.0, ← g.1) h
told_after (refused f n p) k r s y z g h =
    let e : r.number ≡ number_of f = ap (λ (q : Refusal). q.number) g.0 in
    (earlier_some r s (omega (arith, table_number f g.1)) ∙ g.0, g.1)

told_made : {X Y : Type 0} (a : Answer X) (f : X → Y) (r : Refusal) (y : X) → Told-by a r y → Told-by (accepted_then a (λ x. accepted (f x))) r (f y)
told_made (accepted x) f r y g = (g.0, ap f g.1)
told_made (refused b n p) f r y g = g

told_got : {X : Type 0} (s p : ℕ) (m : R X) (n : ℕ) (y : X) → Got m n y → Told-by (told s p m) (refusal n s p) y
told_got s p (ok x) n y g = g
told_got s p (bad b) n y g = (ap (λ (k : ℕ). refusal k s p) g.0, g.1)

pub says_after : {X Y : Type 0} {a : Answer X} (k : X → Answer Y) {r s : Refusal} {y : X} {z : Y} → Says a r y → Says (k y) s z → Says (accepted_then a k) (earlier r s) z
says_after {a} k {r} {s} {y} {z} g h = record { told_by = told_after a k r s y z g.told_by h.told_by }

-- the last step, which only makes something of the answer
pub says_made : {X Y : Type 0} {a : Answer X} (f : X → Y) {r : Refusal} {y : X} → Says a r y → Says (accepted_then a (λ x. accepted (f x))) r (f y)
says_made {a} f {r} {y} g = record { told_by = told_made a f r y g.told_by }

pub says_told : {X : Type 0} (s p : ℕ) {m : R X} {n : ℕ} {y : X} → Gives m n y → Says (told s p m) (refusal n s p) y
says_told s p {m} {n} {y} g = record { told_by = told_got s p m n y g.got }

pub says_by : {X : Type 0} {a : Answer X} {r s : Refusal} {y : X} → r ≡ s → Says a r y → Says a s y
says_by {a} {y} e g = subst (λ (q : Refusal). Says a q y) e g

-- ---- what such an answer comes to

pub says_accepted : {X : Type 0} (a : Answer X) (r : Refusal) (y : X) → Says a r y → r.number ≡ 0 → a ≡ accepted y
says_accepted (accepted x) r y s e = ap accepted (sym s.told_by.1)
says_accepted (refused f n p) r y s e =
    let d : r.number ≡ number_of f = ap (λ (q : Refusal). q.number) s.told_by.0 in
    absurd (omega (arith, table_number f s.told_by.1))

numbered_by : (f : Fault) → Numbered f → f ≡ numbered (number_of f)
numbered_by (numbered n) h = refl
numbered_by (unmet e) h = absurd h

pub says_refused : {X : Type 0} (a : Answer X) (r : Refusal) (y : X) → Says a r y → 1 ≤ r.number → a ≡ refused (numbered r.number) r.section r.place
says_refused (accepted x) r y s h = absurd (omega (arith, s.told_by.0))
says_refused (refused f n p) r y s h = rw s.told_by.0 (ap (λ (g : Fault). refused g n p) (numbered_by f s.told_by.1))

-- the other way round
pub accepted_says : {X : Type 0} (a : Answer X) (r : Refusal) (x y : X) → Says a r y → a ≡ accepted x → (r.number ≡ 0) × (y ≡ x)
accepted_says a r x y s e = rw e at s.told_by

pub refused_says : {X : Type 0} (a : Answer X) (r : Refusal) (f : Fault) (n p : ℕ) (y : X) → Says a r y → a ≡ refused f n p → (r ≡ refusal (number_of f) n p) × Numbered f
refused_says a r f n p y s e = rw e at s.told_by

-- two refusals are none where the first of them is
pub earlier_clear : (r s : Refusal) → (earlier r s).number ≡ 0 → (r.number ≡ 0) × (s.number ≡ 0)
earlier_clear r s e =
    on (eqb r.number 0)
    (λ f. (eqb-true r.number 0 f, rw f at e))
    (λ f. let z : r.number ≡ 0 = rw f at e in absurd (eqb-false r.number 0 f z))
