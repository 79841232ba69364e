-- 3 and 4 over a whole laid text, and the whole reading: one law for each way on and out.
use Rattle.std.specs.Prelude.{None, Some, Ok, Err}
use Prim.Native.Nat.{ℕ, suc, ◌+◌, ◌≤◌}
use mathlib.Core.List.{List, [], ◌∷◌}
use mathlib.Core.Path.{◌≡◌, refl, sym, ap, ◌∙◌}
use native.Mathlib.Omega.{arith}
use native.Mathlib.Nat.{zero-add, add-zero}
use lib.ListN.{length, drop}
use Rattle.meaning.specs.Numbered.{number}
use Rattle.meaning.specs.Refusal.{Answer, accepted, refused, accepted_then, at_line}
use Rattle.meaning.specs.Lines.{Line, closed, join}
use Rattle.text.specs.declared.JoinedLine.{JoinedLine}
use Rattle.text.specs.declared.AtLine.{AtLine}
use Rattle.text.specs.Laid.{lines_of}
use Rattle.text.specs.Walk.{Next, Follows, Onward, Says}
use Rattle.text.specs.Answers.{counted, Between, Checks}
use Rattle.text.proofs.Saying.{says}

-- n lines and those of j
pub count_from : ℕ → Answer (List Line) → Answer ℕ
count_from n j = accepted_then j (λ ls. accepted (n + length ls))

count_none : (j : Answer (List Line)) → count_from 0 j ≡ counted j
unfolding count_from
count_none (accepted ls) = rw zero-add
count_none (refused f a p) = refl

count_one : (n : ℕ) (x : Line) (j : Answer (List Line)) → count_from n (accepted_then j (λ r. accepted (x ∷ r))) ≡ count_from (n + 1) j
unfolding count_from
count_one n x (accepted ls) = let e : n + suc (length ls) ≡ n + 1 + length ls = omega arith in rw e
count_one n x (refused f a p) = refl

pub record Checking (s : List ℕ) (at₀ line₀ at line n : ℕ) : Type 0 where
  pub high : at ≤ length s
  pub number : line ≤ at + 1
  pub count : n ≤ at
  pub left : count_from n (join closed line (lines_of (drop at s))) ≡ counted (join closed line₀ (lines_of (drop at₀ s)))

pub check_start : (s : List ℕ) (at line : ℕ) → Between s at line → Checking s at line at line 0
check_start s at line b = record { high = b.high; number = b.number; count = omega arith; left = count_none (join closed line (lines_of (drop at s))) }

module _ (s : List ℕ) (at₀ line₀ at line n : ℕ) (k : Checking s at₀ line₀ at line n) (r : Next) (f : Follows s at line r) where
  told : Says s (join closed line (lines_of (drop at s))) r
  told = rw f.is (says s at line)

  pub none_left : r ≡ Ok None → Checks s at₀ line₀ (Ok n)
  unfolding count_from
  none_left e =
      let j : join closed line (lines_of (drop at s)) ≡ accepted [] = rw e at told in
      record { says = rw (j, add-zero) at k.left; most = omega (arith, k.count, k.high) }

  pub refused_told : (u : AtLine) → r ≡ Err u → Checks s at₀ line₀ (Err u)
  unfolding count_from
  refused_told u e =
      let j : join closed line (lines_of (drop at s)) ≡ at_line (number u.refused) u.line = rw e at told in
      let a : u.line + at ≤ line + length s = rw e at f.advance in
      record { says = rw j at k.left; most = omega (arith, k.number) }

  module _ (l : JoinedLine) (e : r ≡ Ok (Some l)) where
    pub onward : Onward s at line l
    onward = rw e at f.advance

    pub check_on : Checking s at₀ line₀ l.next.at l.next.line (n + 1)
    check_on = record {
      high = onward.fits;
      number = omega (arith, onward.count, k.number);
      count = omega (arith, onward.on, onward.low, onward.high, k.count);
      left = sym (count_one n _ (join closed l.next.line (lines_of (drop l.next.at s)))) ∙ ap (count_from n) (sym (rw e at told)) ∙ k.left;
    }
