-- A text split at separators: the first part and the rest, as loops see it.
use Rattle.std.specs.Prelude.{ℕ, suc, ◌≤◌, List, [], ◌∷◌, Bool, ◌≡◌, refl, ltb, length, take, drop}
use Rattle.std.proofs.Common.{arith, lt-ltb}
use Rattle.std.proofs.Math.Dec.{leb-suc-suc}
use Rattle.meaning.specs.Base.{pick, split}
use Rattle.laws.specs.Cases.{on}

module _ {S : Type 0} (next : S → ℕ → S) (sep : S → ℕ → Bool) where
  -- how many bytes the first part has
  abbrev pub lead : S → List ℕ → ℕ
  lead st [] = 0
  lead st (b ∷ s) = pick (sep st b) 0 (suc (lead (next st b) s))

  pub lead_fits : (st : S) (s : List ℕ) → lead st s ≤ length s
  lead_fits st [] = omega arith
  lead_fits st (b ∷ s) = on (sep st b) (λ e. rw e (omega arith)) (λ e. rw e (omega (arith, lead_fits (next st b) s)))

  module _ (start : S) where
    -- the parts after a first one of k bytes
    abbrev pub others : ℕ → List ℕ → List (List ℕ)
    others k s = pick (ltb k (length s)) (split start next sep start (drop (suc k) s)) []

    head : (s : List ℕ) → [] ∷ split start next sep start s ≡ [] ∷ pick (ltb 0 (suc (length s))) (split start next sep start s) []
    head s = rw (lt-ltb 0 (suc (length s)) (omega arith))

    pub split_step : (st : S) (s : List ℕ) → split start next sep st s ≡ take (lead st s) s ∷ others (lead st s) s
    split_step st [] = refl
    split_step st (b ∷ s) =
        on (sep st b) (λ e. rw e (head s))
        (λ e. rw (e, split_step (next st b) s, leb-suc-suc))
