-- Readers one after the other, and a text that was read.
use Rattle.std.specs.Prelude.{ℕ, ◌≤◌, List, [], ◌≡◌, refl, eqb, leb, length}
use Rattle.std.proofs.Common.{ap, subst, ◌∙◌, arith, eq-eqb, ne_eqb}
use Rattle.meaning.specs.Base.{or_default}
use Rattle.meaning.specs.Refusal.{R, ok, bad, ok_then}
use Rattle.laws.specs.Cases.{on}
use Rattle.tree.specs.declared.Value.{Value as Read}
use Rattle.tree.specs.declared.Value.TheVariants as read
use Rattle.schema.specs.declared.Text.{Text}
use Rattle.schema.specs.declared.Text.TheVariants as texts
use Rattle.schema.specs.Texts.{clip, spelled, optional, or_text}
use Rattle.parse.specs.Fields.{first_fault, text_read}
use Rattle.parse.specs.Meant.{Got}

-- ---- one reader after the other

first_none : (n m : ℕ) → n ≡ 0 → first_fault n m ≡ m
first_none n m e = rw (eq-eqb n 0 e)

first_some : (n m : ℕ) → 1 ≤ n → first_fault n m ≡ n
first_some n m h = rw (ne_eqb n 0 (λ e. omega arith))

-- faults that were found in groups
pub first_two : (a b c : ℕ) → first_fault a (first_fault b c) ≡ first_fault (first_fault a b) c
first_two a b c = on (eqb a 0) (λ e. rw e) (λ e. rw (e, e))

pub first_three : (a b c d : ℕ) → first_fault a (first_fault b (first_fault c d)) ≡ first_fault (first_fault a (first_fault b c)) d
first_three a b c d = ap (first_fault a) (first_two b c d) ∙ first_two a (first_fault b c) d

pub first_four : (a b c d e : ℕ) → first_fault a (first_fault b (first_fault c (first_fault d e))) ≡ first_fault (first_fault a (first_fault b (first_fault c d))) e
first_four a b c d e = ap (first_fault a) (first_three b c d e) ∙ first_two a (first_fault b (first_fault c d)) e

-- the same as Got, as a record: its type says what was read
pub record Gives {X : Type 0} (m : R X) (fault : ℕ) (y : X) : Type 0 where
  pub got : Got m fault y

pub got_via : {X Y : Type 0} (m : R X) (k : X → R Y) (n l : ℕ) (y : X) (z : Y) → Got m n y → Got (k y) l z → Got (ok_then m k) (first_fault n l) z
got_via (ok x) k n l y z g h = rw (first_none n l g.0, ← g.1) h
got_via (bad b) k n l y z g h = (first_some n l (omega arith) ∙ g.0, g.1)

pub got_made : {X Y : Type 0} (m : R X) (f : X → Y) (n : ℕ) (y : X) → Got m n y → Got (ok_then m (λ x. ok (f x))) n (f y)
got_made (ok x) f n y g = (g.0, ap f g.1)
got_made (bad b) f n y g = g

pub gives_ok : {X : Type 0} {x : X} → Gives (ok x) 0 x
gives_ok = record { got = (refl, refl) }

pub gives_via : {X Y : Type 0} {m : R X} (k : X → R Y) {n l : ℕ} {y : X} {z : Y} → Gives m n y → Gives (k y) l z → Gives (ok_then m k) (first_fault n l) z
gives_via {m} k {n} {l} {y} {z} g h = record { got = got_via m k n l y z g.got h.got }

-- the last step, which only makes something of what was read
pub gives_made : {X Y : Type 0} {m : R X} (f : X → Y) {n : ℕ} {y : X} → Gives m n y → Gives (ok_then m (λ x. ok (f x))) n (f y)
gives_made {m} f {n} {y} g = record { got = got_made m f n y g.got }

-- the same fault, found in groups
pub gives_by : {X : Type 0} {m : R X} {n l : ℕ} {y : X} → n ≡ l → Gives m n y → Gives m l y
gives_by {m} {y} e g = subst (λ (k : ℕ). Gives m k y) e g

-- ---- a text that was read

-- a text that was read is absent or stored
abbrev pub Kept : Text → Type 0
Kept texts.Absent = Unit {0}
Kept (texts.Stored from len) = Unit {0}
Kept texts.Lent = ⊥
Kept (texts.Fixed w) = ⊥
Kept (texts.WithAic from len) = ⊥

pub text_kept : (v : Read) → Kept (text_read v).text
text_kept read.Absent = tt
text_kept (read.Text from len) = tt
text_kept (read.Number n m) = tt
text_kept (read.Flag b) = tt
text_kept (read.Array p) = tt
text_kept (read.Table p) = tt

pub else_spelled : (store name : List ℕ) (t d : Text) → spelled store name (or_text t d) ≡ or_default (optional store name t) (spelled store name d)
else_spelled store name texts.Absent d = refl
else_spelled store name (texts.Stored from len) d = refl
else_spelled store name texts.Lent d = refl
else_spelled store name (texts.Fixed w) d = refl
else_spelled store name (texts.WithAic from len) d = refl

pub clip_none : (store : List ℕ) → clip 0 0 store ≡ []
unfolding clip
clip_none store = on (leb 0 (length store)) (λ e. rw e) (λ e. rw e)
