-- A scan over a text in two pieces, and how far its counts go.
use Rattle.std.specs.Prelude.{ℕ, ◌+◌, ◌≤◌, List, [], ◌∷◌, ◌++◌, ◌≡◌, refl, length}
use Rattle.std.proofs.Common.{arith}
use Rattle.meaning.specs.declared.Scan.{Scan}
use Rattle.meaning.specs.declared.StringState.{StringState}
use Rattle.meaning.specs.Quote.{equals_outside, tally, step, scan, up_to, state_after}
use Rattle.laws.specs.Cases.{on}

-- carrying the scan onward is counting again over the whole (W-205)
pub scan_append : (c : Scan) (s t : List ℕ) → scan c (s ++ t) ≡ scan (scan c s) t
scan_append c [] t = refl
scan_append c (b ∷ s) t = scan_append (step c b) s t

pub tally_most : (c : ℕ) (st : StringState) (b n : ℕ) → tally c st b n ≤ n + 1
unfolding tally
tally_most c st b n = on (equals_outside c st b) (λ e. rw e (omega arith)) (λ e. rw e (omega arith))

pub step_opens : (x : Scan) (b : ℕ) → (step x b).opens ≤ x.opens + 1
unfolding step
step_opens x b = tally_most 91 x.state b x.opens

pub step_closes : (x : Scan) (b : ℕ) → (step x b).closes ≤ x.closes + 1
unfolding step
step_closes x b = tally_most 93 x.state b x.closes

pub up_to_fits : (c : ℕ) (st : StringState) (s : List ℕ) → up_to c st s ≤ length s
up_to_fits c st [] = omega arith
up_to_fits c st (b ∷ s) = on (equals_outside c st b) (λ e. rw e (omega arith)) (λ e. rw e (omega (arith, up_to_fits c (state_after st b) s)))
