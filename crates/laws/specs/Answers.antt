-- Answers one after the other: which of two refused, and what both gave.
use Rattle.std.specs.Prelude.{ℕ, ◌⊎◌, ◌≡◌, refl}
use Rattle.std.proofs.Common.{inl, inr, ap, arith}
use Rattle.meaning.specs.Refusal.{Fault, Answer, accepted, refused, accepted_then}

pub accepted_one : {X : Type 0} (x y : X) → ◌≡◌ {A = Answer X} (accepted x) (accepted y) → x ≡ y
accepted_one {X} x y e = ap (λ (z : Answer X). gotten z) e
  where
    gotten : Answer X → X
    gotten (accepted z) = z
    gotten (refused f s p) = x

pub refused_never {κ} : {X : Type 0} {G : Type κ} (f : Fault) (s p : ℕ) (x : X) → ◌≡◌ {A = Answer X} (refused f s p) (accepted x) → G
refused_never f s p x e = let z : ◌≡◌ {A = ℕ} 0 1 = cc in absurd (omega arith)

module _ {X Y : Type 0} (k : X → Answer Y) where
  pub after_accepted : (o : Answer X) (y : Y) → accepted_then o k ≡ accepted y → (x : X) × (o ≡ accepted x) × (k x ≡ accepted y)
  after_accepted (accepted x) y e = (x, refl, e)
  after_accepted (refused f s p) y e = refused_never f s p y e

  pub after_refused : (o : Answer X) (f : Fault) (s p : ℕ) → accepted_then o k ≡ refused f s p → (o ≡ refused f s p) ⊎ ((x : X) × (o ≡ accepted x) × (k x ≡ refused f s p))
  after_refused (accepted x) f s p e = inr (x, refl, e)
  after_refused (refused g t q) f s p e = inl (ap recast e)
    where
      recast : Answer Y → Answer X
      recast (accepted y) = refused f s p
      recast (refused h u v) = refused h u v
