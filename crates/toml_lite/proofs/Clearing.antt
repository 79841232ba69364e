-- Rooms after a whole reading: kept where it is accepted, zeroed where it is refused.
use Prim.Native.Nat.{ℕ, ◌<◌}
use mathlib.Core.List.{List}
use mathlib.Core.Path.{◌≡◌, refl, sym, ap, ◌∙◌}
use native.Mathlib.Omega.{arith}
use lib.ListN.{length}
use mathlib.Core.Bool.{true, false}
use Rattle.std.specs.Prelude.{Result, Ok, Err, is_err}
use Rattle.meaning.specs.declared.Limits.{Limits}
use Rattle.meaning.specs.Numbered.{number}
use Rattle.laws.specs.Cases.{never}
use Rattle.meaning.specs.Base.{zeros}
use Rattle.meaning.specs.Refusal.{Answer, accepted, refused, number_of, at_line}
use Rattle.text.specs.declared.AtLine.{AtLine}
use Rattle.text.specs.Answers.{answer_of}
use Rattle.scalar.proofs.Numbering.{number_one}
use Rattle.values.specs.declared.State.{State}
use Rattle.values.specs.Doc.{Doc}
use Rattle.toml_lite.specs.Rooms.{read_of, Told, Reads, Cleared}

-- the numbers of the answer to fewer than 65,536 bytes
wider : (n : ℕ) (m : Answer Doc) (r : Result State AtLine) → n < 65536 → Told n m r → Told 65536 m r
wider n m (Ok st) h t = record { says = t.says; small = (omega (arith, t.small.0), t.small.1); text = t.text }
wider n m (Err e) h t = record { says = t.says; small = omega (arith, t.small); text = t.text }

module _ (limits : Limits) (n : ℕ) (low : n < 65536) (store tree store' tree' : List ℕ) where
  pub cleared_fine : (m : Answer Doc) (r : Result State AtLine) → Reads limits n store tree store' tree' m r → is_err r ≡ false → Cleared store tree store' tree' m r
  cleared_fine (accepted d) (Ok st) h e = record { told = wider n (accepted d) (Ok st) low h.told; store_is = h.kept.store_is; tree_is = h.kept.tree_is; carried = h.kept.carried }
  cleared_fine (refused f a p) (Ok st) h e = let x : ◌≡◌ {A = Answer State} (accepted st) (at_line (number_of f) p) = h.told.says in let z : ◌≡◌ {A = ℕ} 0 1 = cc in absurd (omega arith)
  cleared_fine m (Err f) h e = never {b = true} refl e

  module _ (store'' tree'' : List ℕ) (p : store'' ≡ zeros (length store')) (q : tree'' ≡ zeros (length tree')) where
    pub cleared_fault : (m : Answer Doc) (r : Result State AtLine) → Reads limits n store tree store' tree' m r → is_err r ≡ true → Cleared store tree store'' tree'' m r
    cleared_fault m (Ok st) h e = never {b = false} e refl
    cleared_fault (accepted d) (Err f) h e = let x : ◌≡◌ {A = Answer State} (at_line (number f.refused) f.line) (read_of (accepted d)) = h.told.says in let z : ◌≡◌ {A = ℕ} 0 1 = cc in absurd (omega arith)
    cleared_fault (refused f a g) (Err x) h e =
        record { told = wider n (refused f a g) (Err x) low h.told; store_is = p ∙ ap zeros h.store_long; tree_is = q ∙ ap zeros h.tree_long; carried = tt }

-- two results that meet the promise are equal, answer and both rooms
answered_once : (r s : Result State AtLine) → answer_of r ≡ answer_of s → r ≡ s
answered_once (Ok a) (Ok b) e = let x : ◌≡◌ {A = Answer State} (accepted a) (accepted b) = e in let y : a ≡ b = cc in ap Ok y
answered_once (Ok a) (Err b) e =
    let x : ◌≡◌ {A = Answer State} (accepted a) (at_line (number b.refused) b.line) = e in let z : ◌≡◌ {A = ℕ} 0 1 = cc in absurd (omega arith)
answered_once (Err a) (Ok b) e =
    let x : ◌≡◌ {A = Answer State} (at_line (number a.refused) a.line) (accepted b) = e in let z : ◌≡◌ {A = ℕ} 0 1 = cc in absurd (omega arith)
answered_once (Err a) (Err b) e =
    let x : ◌≡◌ {A = Answer State} (at_line (number a.refused) a.line) (at_line (number b.refused) b.line) = e in
    let n : number a.refused ≡ number b.refused = cc in
    let l : a.line ≡ b.line = cc in
    let f : a.refused ≡ b.refused = number_one a.refused b.refused n in
    λ i. Err (record { refused = f i; line = l i })

pub cleared_decides : (store tree store₁ tree₁ store₂ tree₂ : List ℕ) (m : Answer Doc) (r₁ r₂ : Result State AtLine) → Cleared store tree store₁ tree₁ m r₁
    → Cleared store tree store₂ tree₂ m r₂ → (r₁ ≡ r₂) × (store₁ ≡ store₂) × (tree₁ ≡ tree₂)
cleared_decides store tree store₁ tree₁ store₂ tree₂ m r₁ r₂ a b =
    (answered_once r₁ r₂ (a.told.says ∙ sym b.told.says), a.store_is ∙ sym b.store_is, a.tree_is ∙ sym b.tree_is)
