-- "Integers: drop all underscores; `0x` or `0X` means base 16; then an optional sign and at least one digit, within
-- 64-bit signed range." Refusal 12.
use Rattle.std.specs.Prelude.{ℕ, ◌+◌, ◌-◌, ◌*◌, ◌^◌, Bool, true, false, List, [], ◌∷◌, eqb, ltb, leb, ℤ, pos, neg_ℤ, get_or, drop}
pub use Rattle.meaning.specs.declared.Signed.{Signed}
use Rattle.meaning.specs.Base.{pick, nil?}
use Rattle.meaning.specs.Bytes.{plus, minus, digit_zero, capital_a, capital_x, underscore, small_a, small_x}
use Rattle.meaning.specs.Refusal.{R, ok, bad, ok_then}

-- over every base
abbrev pub no_digit : ℕ
no_digit = 99

-- what a digit 0 to 9, A to F or a to f counts
unfoldable pub digit : ℕ → ℕ
digit b =
    pick (ltb b digit_zero) no_digit
    (pick (ltb b (digit_zero + 10)) (b - digit_zero)
    (pick (ltb b capital_a) no_digit
    (pick (ltb b (capital_a + 6)) (b - (capital_a - 10))
    (pick (ltb b small_a) no_digit
    (pick (ltb b (small_a + 6)) (b - (small_a - 10)) no_digit)))))

-- the value of the digits s after digits of the value acc
abbrev pub value : ℕ → ℕ → List ℕ → R ℕ
value base acc [] = ok acc
value base acc (b ∷ s) = pick (leb base (digit b)) (bad 12) (value base (acc * base + digit b) s)

-- "drop all underscores"
abbrev pub clean : List ℕ → List ℕ
clean [] = []
clean (b ∷ s) = pick (eqb b underscore) (clean s) (b ∷ clean s)

-- "64-bit signed range": the largest magnitude, with and without a minus
unfoldable pub most : Bool → ℕ
most true = 2 ^ 63
most false = 2 ^ 63 - 1

-- "within .. range"
unfoldable pub within : ℕ → R ℕ → R ℕ
within limit r = ok_then r (λ n. pick (ltb limit n) (bad 12) (ok n))

-- "at least one digit, within 64-bit signed range"
unfoldable pub magnitude : Bool → ℕ → List ℕ → R Signed
magnitude neg base s =
    pick (nil? s) (bad 12)
    (ok_then (within (most neg) (value base 0 s)) (λ n. ok (record { neg = neg; mag = n })))

-- "then an optional sign": `-` or `+`
unfoldable pub sign : ℕ → List ℕ → R Signed
sign base s =
    pick (eqb (get_or s 0 0) minus) (magnitude true base (drop 1 s))
    (pick (eqb (get_or s 0 0) plus) (magnitude false base (drop 1 s)) (magnitude false base s))

-- "`0x` or `0X` means base 16"
unfoldable pub body : List ℕ → R Signed
body s =
    pick (eqb (get_or s 0 0) digit_zero)
    (pick (eqb (get_or s 1 0) small_x) (sign 16 (drop 2 s))
    (pick (eqb (get_or s 1 0) capital_x) (sign 16 (drop 2 s)) (sign 10 s)))
    (sign 10 s)

-- the integer that s is, by sign and magnitude, or 12
unfoldable pub signed : List ℕ → R Signed
signed s = body (clean s)

abbrev pub number_of : Bool → ℕ → ℤ
number_of true n = neg_ℤ (pos n)
number_of false n = pos n

-- the integer that s is, or 12
unfoldable pub integer : List ℕ → R ℤ
integer s = ok_then (signed s) (λ x. ok (number_of x.neg x.mag))

unfoldable pub computes : Unit {0}
unfolding digit most within magnitude sign body signed integer
computes = tt
