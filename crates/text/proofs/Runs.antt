-- Quiet bytes: which there are, and that a pass may leave them out.
use Prim.Native.Nat.{ℕ, ◌+◌, ◌<◌}
use mathlib.Core.Bool.{Bool, true, not}
use mathlib.Core.List.{List, [], ◌∷◌, ◌++◌}
use mathlib.Core.Path.{◌≡◌, refl, ap, ◌∙◌}
use native.Mathlib.Omega.{arith}
use native.Mathlib.Numerals.{add-one}
use borrow.Author.Tests.{ne_eqb}
use lib.ListN.{length, get_or, take}
use lib.Seq.{take-suc}
use Rattle.meaning.specs.declared.Scan.{Scan}
use Rattle.meaning.specs.declared.StringState.{StringState}
use Rattle.meaning.specs.declared.StringState.TheVariants.{Outside, Inside}
use Rattle.meaning.specs.Quote.{state_after, equals_outside, tally, step, scan}
use Rattle.laws.specs.Cases.{never}
use Rattle.text.specs.Runs.{marked, Quiet, Quiets, Run}

-- ---- which bytes are quiet

-- a byte whose bit is down is none of those whose bits are up
unmarked : (set b : ℕ) (r : Bool) → r ≡ marked set b → not r ≡ true → (n : ℕ) → marked set n ≡ true → b ≡ n → ⊥
unmarked set b r e h n m q = let t : r ≡ true = rw q at e ∙ m in never {b = not r} h (ap not t)

module _ (st : StringState) (b : ℕ) (z : st ≡ Outside) where
  bare : (b ≡ 10 → ⊥) → (b ≡ 34 → ⊥) → (b ≡ 91 → ⊥) → (b ≡ 93 → ⊥) → Quiet st b
  unfolding state_after equals_outside
  bare l q o k = record {
    line = l;
    same = rw (z, ne_eqb b 34 q);
    opens = rw (z, ne_eqb b 91 o);
    closes = rw (z, ne_eqb b 93 k);
  }

  pub bare_quiet : (r : Bool) → r ≡ marked 0x428000400 b → not r ≡ true → Quiet st b
  bare_quiet r e h = bare (stops 10 refl) (stops 34 refl) (stops 91 refl) (stops 93 refl)
    where
      stops : (n : ℕ) → marked 0x428000400 n ≡ true → b ≡ n → ⊥
      stops = unmarked 0x428000400 b r e h

module _ (st : StringState) (b : ℕ) (z : st ≡ Inside) where
  held : (b ≡ 10 → ⊥) → (b ≡ 34 → ⊥) → (b ≡ 92 → ⊥) → Quiet st b
  unfolding state_after equals_outside
  held l q k = record {
    line = l;
    same = rw (z, ne_eqb b 92 k, ne_eqb b 34 q);
    opens = rw z;
    closes = rw z;
  }

  pub held_quiet : (r : Bool) → r ≡ marked 0x410000400 b → not r ≡ true → Quiet st b
  held_quiet r e h = held (stops 10 refl) (stops 34 refl) (stops 92 refl)
    where
      stops : (n : ℕ) → marked 0x410000400 n ≡ true → b ≡ n → ⊥
      stops = unmarked 0x410000400 b r e h

-- ---- a run of them
quiets_more : (st : StringState) (s : List ℕ) (b : ℕ) → Quiets st s → Quiet st b → Quiets st (s ++ (b ∷ []))
quiets_more st [] b a q = (q, tt)
quiets_more st (x ∷ s) b a q = (a.0, quiets_more st s b a.1 q)

pub run_on : (st : StringState) (s : List ℕ) (i : ℕ) (r : Bool) → Run st s i → i < length s → (r ≡ true → Quiet st (get_or s i 0)) → r ≡ true → Run st s (i + 1)
run_on st s i r k h q t = record {
  fits = omega arith;
  all = rw (add-one, take-suc s i 0 h) (quiets_more st (take i s) (get_or s i 0) k.all (q t));
}

-- ---- the scan after a run
step_quiet : (x : Scan) (b : ℕ) → Quiet x.state b → step x b ≡ x
unfolding step tally
step_quiet x b q = rw (q.same, q.opens, q.closes)

pub scan_quiet : (x : Scan) (s : List ℕ) → Quiets x.state s → scan x s ≡ x
scan_quiet x [] a = refl
scan_quiet x (b ∷ s) a = rw (step_quiet x b a.0) (scan_quiet x s a.1)
