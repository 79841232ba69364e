-- The joined line at the head of lines by a count that is carried from line to line is the one by a count over its text.
use Rattle.std.proofs.Common.{ℕ, ◌+◌, ◌<◌, List, [], ◌∷◌, ◌++◌, ◌≡◌, refl, sym, ap, ◌∙◌, arith, zero-add, ne_eqb, length, length-append}
use Rattle.meaning.specs.Quote.{fresh, scan, step}
use Rattle.meaning.specs.Lines.{fate}
use Rattle.laws.specs.Scans.{scan_append}
use Rattle.text.specs.Walk.{Joint, reaching, by_fate, gather, joint_in, joint_from, ending}

pub gather_carried : (ls : List (List ℕ)) (t : List ℕ) (m : ℕ) → 0 < m
    → gather t m ls ≡ by_fate (fate (scan fresh t)) (joint_from (step (scan fresh t) 10) (length t + 1) (m + 1) ls) (reaching (length t) m)
unfolding ending
gather_carried [] t m h = rw (ne_eqb (m + 1) 1 (λ z. omega arith))
gather_carried (l ∷ ls) t m h =
    let a : scan fresh (t ++ (10 ∷ l)) ≡ scan (scan fresh t) (10 ∷ l) = scan_append fresh t (10 ∷ l) in
    let n : length (t ++ (10 ∷ l)) ≡ length t + 1 + length l = length-append t (10 ∷ l) ∙ omega arith in
    let r : gather (t ++ (10 ∷ l)) (m + 1) ls ≡ joint_from (step (scan fresh t) 10) (length t + 1) (m + 1) (l ∷ ls) =
    rw (a, n) at (gather_carried ls (t ++ (10 ∷ l)) (m + 1) (omega arith)) in
    ap (λ (j : Joint). by_fate (fate (scan fresh t)) j (reaching (length t) m)) r

pub joint_carried : (ls : List (List ℕ)) → joint_from fresh 0 1 ls ≡ joint_in ls
unfolding ending
joint_carried [] = refl
joint_carried (l ∷ ls) = rw zero-add (sym (gather_carried ls l 1 (omega arith)))
