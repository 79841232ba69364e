-- Runs of gaps and of other bytes: what each loop keeps, and one law for each way on and out of it.
use Prim.Native.Nat.{ℕ, suc, ◌+◌, ◌≤◌, ◌<◌}
use mathlib.Core.Bool.{Bool, true, false}
use mathlib.Core.List.{List}
use mathlib.Core.Path.{◌≡◌}
use native.Mathlib.Omega.{arith}
use native.Mathlib.Numerals.{add-one}
use lib.ListN.{length, get_or, drop, drop_of_length-le}
use lib.Seq.{drop-cons}
use Rattle.meaning.specs.Features.{gap}
use Rattle.features.specs.Gaps.{gaps, run}

-- ---- skip
pub record Skipping (s : List ℕ) (at i : ℕ) : Type 0 where
  pub low : at ≤ i
  pub left : i + gaps (drop i s) ≡ at + gaps (drop at s)

module _ (s : List ℕ) (at i : ℕ) (r : Bool) where
  pub skip_on : Skipping s at i → i < length s → r ≡ gap (get_or s i 0) → r ≡ true → Skipping s at (i + 1)
  skip_on k h e t =
      let g : gaps (drop i s) ≡ suc (gaps (drop (i + 1) s)) = rw (drop-cons s i 0 h, ← e, t, add-one) in
      record { low = omega (arith, k.low); left = omega (arith, k.left) }

  pub skip_hit : Skipping s at i → i < length s → r ≡ gap (get_or s i 0) → r ≡ false → i ≡ at + gaps (drop at s)
  skip_hit k h e t =
      let g : gaps (drop i s) ≡ 0 = rw (drop-cons s i 0 h, ← e, t) in
      omega (arith, k.left)

pub skip_end : (s : List ℕ) (at i : ℕ) → Skipping s at i → length s ≤ i → i ≡ at + gaps (drop at s)
skip_end s at i k h =
    let g : gaps (drop i s) ≡ 0 = rw (drop_of_length-le s h) in
    omega (arith, k.left)

-- ---- stop
pub record Running (s : List ℕ) (at i : ℕ) : Type 0 where
  pub low : at ≤ i
  pub left : i + run (drop i s) ≡ at + run (drop at s)

module _ (s : List ℕ) (at i : ℕ) (r : Bool) where
  pub run_on : Running s at i → i < length s → r ≡ gap (get_or s i 0) → r ≡ false → Running s at (i + 1)
  run_on k h e t =
      let g : run (drop i s) ≡ suc (run (drop (i + 1) s)) = rw (drop-cons s i 0 h, ← e, t, add-one) in
      record { low = omega (arith, k.low); left = omega (arith, k.left) }

  pub run_hit : Running s at i → i < length s → r ≡ gap (get_or s i 0) → r ≡ true → i ≡ at + run (drop at s)
  run_hit k h e t =
      let g : run (drop i s) ≡ 0 = rw (drop-cons s i 0 h, ← e, t) in
      omega (arith, k.left)

pub run_end : (s : List ℕ) (at i : ℕ) → Running s at i → length s ≤ i → i ≡ at + run (drop at s)
run_end s at i k h =
    let g : run (drop i s) ≡ 0 = rw (drop_of_length-le s h) in
    omega (arith, k.left)
