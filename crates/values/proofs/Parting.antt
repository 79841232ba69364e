-- The first item of a text: what its loop keeps, and one law for each way on and out.
use Prim.Native.Nat.{ℕ, suc, ◌+◌, ◌≤◌, ◌<◌}
use mathlib.Core.Bool.{Bool, false}
use mathlib.Core.List.{List}
use mathlib.Core.Path.{◌≡◌}
use native.Mathlib.Omega.{arith}
use native.Mathlib.Numerals.{add-one}
use lib.ListN.{length, get_or, drop}
use lib.Seq.{drop-cons}
use Rattle.meaning.specs.declared.Scan.{Scan}
use Rattle.meaning.specs.Quote.{step}
use Rattle.meaning.specs.Values.{separates?}
use Rattle.laws.specs.Scans.{step_opens, step_closes}
use Rattle.laws.specs.Splits.{lead}
use Rattle.values.specs.Item.{item_size}

pub record Parting (s : List ℕ) (i : ℕ) (x : Scan) : Type 0 where
  pub high : i ≤ length s
  pub opens : x.opens ≤ i
  pub closes : x.closes ≤ i
  pub left : i + lead step separates? x (drop i s) ≡ item_size s

module _ (s : List ℕ) (i : ℕ) (x : Scan) (k : Parting s i x) where
  module _ (r : Bool) (h : i < length s) (e : r ≡ separates? x (get_or s i 0)) where
    pub part_on : (y : Scan) → r ≡ false → y ≡ step x (get_or s i 0) → Parting s (i + 1) y
    part_on y f g =
        let b : ℕ = get_or s i 0 in
        let t : lead step separates? x (drop i s) ≡ suc (lead step separates? y (drop (i + 1) s)) = rw (drop-cons s i 0 h, add-one, ← e, f, ← g) in
        record {
          high = omega arith;
          opens = rw g (omega (arith, step_opens x b, k.opens));
          closes = rw g (omega (arith, step_closes x b, k.closes));
          left = omega (arith, k.left);
        }
