-- A number's digits, one by one from the last on, and how many there are.
use Rattle.std.specs.Prelude.{ℕ, zero, suc, ◌+◌, ◌*◌, ◌/◌, ◌%◌, ◌≤◌, ◌<◌, List, [], ◌∷◌, ◌≡◌, refl, ltb, length}
use Rattle.std.proofs.Common.{arith, lt-ltb, le-ltb, ltb-false, ltb-true}
use Rattle.meaning.specs.Print.{digits, decimal}
use Rattle.laws.specs.Cases.{on}

-- the digits of n before others
abbrev pub digits_of : ℕ → List ℕ → List ℕ
digits_of n after = digits n (ltb n 10) n after

-- it does not matter by how much more than enough a number may be counted down
enough : (left more n : ℕ) (after : List ℕ) → n ≤ left → n ≤ more → digits left (ltb n 10) n after ≡ digits more (ltb n 10) n after
enough zero zero n after h k = refl
enough zero (suc more) n after h k = rw (lt-ltb n 10 (omega arith))
enough (suc left) zero n after h k = rw (lt-ltb n 10 (omega arith))
enough (suc left) (suc more) n after h k =
    on (ltb n 10) (λ e. rw e)
    (λ e. rw e (enough left more (n / 10) ((48 + n % 10) ∷ after) (omega (arith, ltb-false n 10 e)) (omega (arith, ltb-false n 10 e))))

pub last_digit : (n : ℕ) (after : List ℕ) → n < 10 → digits_of n after ≡ (48 + n) ∷ after
last_digit zero after h = refl
last_digit (suc n) after h = rw (lt-ltb (suc n) 10 h)

pub more_digits : (n : ℕ) (after : List ℕ) → 10 ≤ n → digits_of n after ≡ digits_of (n / 10) ((48 + n % 10) ∷ after)
more_digits zero after h = absurd (omega arith)
more_digits (suc n) after h = rw (le-ltb (suc n) 10 h) (enough n (suc n / 10) (suc n / 10) ((48 + suc n % 10) ∷ after) (omega arith) (omega arith))

-- ---- how many

-- 1 with so many zeros
abbrev pub tens : ℕ → ℕ
tens zero = 1
tens (suc k) = 10 * tens k

digits_short : (k n : ℕ) (after : List ℕ) → n < tens (suc k) → length (digits_of n after) ≤ suc k + length after
digits_short zero n after h = rw (last_digit n after h) (omega arith)
digits_short (suc k) n after h =
    on (ltb n 10) (λ e. rw (last_digit n after (ltb-true n 10 e)) (omega arith))
    (λ e. rw (more_digits n after (ltb-false n 10 e)) (omega (arith, digits_short k (n / 10) ((48 + n % 10) ∷ after) (omega arith))))

-- a number below 1 with k + 1 zeros has no more than k + 1 digits
pub decimal_short : (k n : ℕ) → n < tens (suc k) → length (decimal n) ≤ suc k
unfolding decimal
decimal_short k n h = omega (arith, digits_short k n [] h)
