-- What a rule says: nothing, or a refusal in a section at a place; "one entry through its checks before the next".
use Rattle.std.specs.Prelude.{ℕ, ◌+◌, Bool, true, false, List, [], ◌∷◌, ◌++◌, eqb, ltb, length}
use Rattle.meaning.specs.Base.{pick, same}
use Rattle.meaning.specs.Refusal.{Answer, accepted, refused, accepted_then, numbered}

abbrev pub Verdict : Type 0
Verdict = Answer (Unit {0})

abbrev pub fine : Verdict
fine = accepted tt

-- the first of two that is a refusal
abbrev pub first_refusal : Verdict → Verdict → Verdict
first_refusal v w = accepted_then v (λ u. w)

-- a rule's number told at its place; 0 is no refusal
abbrev pub judged : ℕ → ℕ → ℕ → Verdict
judged section place n = pick (eqb n 0) fine (refused (numbered n) section place)

-- the first number that is not 0
abbrev pub or_else : ℕ → ℕ → ℕ
or_else n m = pick (eqb n 0) m n

-- "over 32 bytes"
abbrev pub long : List ℕ → Bool
long s = ltb 32 (length s)

-- one of these byte strings is the same
abbrev pub among : List ℕ → List (List ℕ) → Bool
among x [] = false
among x (y ∷ ys) = pick (same x y) true (among x ys)

-- each entry against what its forerunners left, the first of which is entry n
abbrev pub in_turn : {X S : Type 0} → (S → X → ℕ) → (S → X → S) → ℕ → ℕ → S → List X → Verdict
in_turn rule next section n s [] = fine
in_turn rule next section n s (x ∷ xs) =
    first_refusal (judged section n (rule s x))
    (in_turn rule next section (n + 1) (next s x) xs)

-- x after the others
abbrev pub with_last : {X : Type 0} → List X → X → List X
with_last xs x = xs ++ (x ∷ [])
