-- What `integer` answers in 01's words, and what its steps leave.
use Rattle.std.specs.Prelude.{ℕ, ◌+◌, ◌*◌, Bool, true, false, List, [], ◌∷◌, ◌≡◌, refl, Option, None, Some, Result, Ok, Err, eqb, ltb, leb, get_or, drop}
use Rattle.std.proofs.Common.{sym, ap, ◌∙◌}
use Rattle.meaning.specs.Base.{pick, nil?}
use Rattle.meaning.specs.Bytes.{plus, minus, digit_zero, capital_x, small_x}
use Rattle.meaning.specs.Refusal.{R, ok, bad, ok_then}
use Rattle.meaning.specs.Integers.{no_digit, digit, value, clean, most, within, magnitude, sign, body, signed}
use Rattle.meaning.specs.Numbered.{number}
use Rattle.meaning.specs.declared.Refused.{Refused}
use Rattle.meaning.specs.declared.Signed.{Signed}

-- the only refusal of an integer is 12
abbrev code : {X : Type 0} → R X → ℕ
code (ok x) = 12
code (bad n) = n

abbrev Twelve : {X : Type 0} → R X → Type 0
Twelve r = code r ≡ 12

twelve_pick : {X : Type 0} (t : Bool) (a b : R X) → Twelve a → Twelve b → Twelve (pick t a b)
twelve_pick true a b p q = p
twelve_pick false a b p q = q

twelve_then : {X Y : Type 0} (r : R X) (f : X → R Y) → Twelve r → ((x : X) → Twelve (f x)) → Twelve (ok_then r f)
twelve_then (ok x) f p q = q x
twelve_then (bad n) f p q = p

value_twelve : (base acc : ℕ) (s : List ℕ) → Twelve (value base acc s)
value_twelve base acc [] = refl
value_twelve base acc (b ∷ s) =
    twelve_pick (leb base (digit b)) (bad 12) (value base (acc * base + digit b) s) refl (value_twelve base (acc * base + digit b) s)

magnitude_twelve : (neg : Bool) (base : ℕ) (s : List ℕ) → Twelve (magnitude neg base s)
unfolding magnitude within
magnitude_twelve neg base s =
    twelve_pick (nil? s) (bad 12) (ok_then (within (most neg) (value base 0 s)) (λ n. ok (record { neg = neg; mag = n }))) refl
    (twelve_then (within (most neg) (value base 0 s)) (λ n. ok (record { neg = neg; mag = n }))
    (twelve_then (value base 0 s) (λ n. pick (ltb (most neg) n) (bad 12) (ok n)) (value_twelve base 0 s)
    (λ n. twelve_pick (ltb (most neg) n) (bad 12) (ok n) refl refl))
    (λ n. refl))

sign_twelve : (base : ℕ) (s : List ℕ) → Twelve (sign base s)
unfolding sign
sign_twelve base s =
    twelve_pick (eqb (get_or s 0 0) minus) (magnitude true base (drop 1 s))
    (pick (eqb (get_or s 0 0) plus) (magnitude false base (drop 1 s)) (magnitude false base s)) (magnitude_twelve true base (drop 1 s))
    (twelve_pick (eqb (get_or s 0 0) plus) (magnitude false base (drop 1 s)) (magnitude false base s)
    (magnitude_twelve false base (drop 1 s)) (magnitude_twelve false base s))

body_twelve : (s : List ℕ) → Twelve (body s)
unfolding body
body_twelve s =
    twelve_pick (eqb (get_or s 0 0) digit_zero)
    (pick (eqb (get_or s 1 0) small_x) (sign 16 (drop 2 s)) (pick (eqb (get_or s 1 0) capital_x) (sign 16 (drop 2 s)) (sign 10 s))) (sign 10 s)
    (twelve_pick (eqb (get_or s 1 0) small_x) (sign 16 (drop 2 s)) (pick (eqb (get_or s 1 0) capital_x) (sign 16 (drop 2 s)) (sign 10 s))
    (sign_twelve 16 (drop 2 s))
    (twelve_pick (eqb (get_or s 1 0) capital_x) (sign 16 (drop 2 s)) (sign 10 s) (sign_twelve 16 (drop 2 s)) (sign_twelve 10 s)))
    (sign_twelve 10 s)

signed_twelve : (t : List ℕ) → Twelve (signed t)
unfolding signed
signed_twelve t = body_twelve (clean t)

bad_twelve : {X : Type 0} (r : R X) (n : ℕ) → Twelve r → r ≡ bad n → r ≡ bad 12
bad_twelve r n p e = e ∙ ap bad (sym (ap code e) ∙ p)

-- an answer in the words of the definitions
abbrev pub int_of : Result Signed Refused → R Signed
int_of (Ok i) = ok i
int_of (Err r) = bad (number r)

-- what a caller learns of each answer
module _ (r : Result Signed Refused) (t : List ℕ) (e : int_of r ≡ signed t) where
  pub int_read : (i : Signed) → r ≡ Ok i → signed t ≡ ok i
  int_read i f = sym e ∙ ap int_of f

  pub int_wrong : (n : Refused) → r ≡ Err n → signed t ≡ bad (number n)
  int_wrong n f = sym e ∙ ap int_of f

  pub int_12 : (n : Refused) → r ≡ Err n → signed t ≡ bad 12
  int_12 n f = bad_twelve (signed t) (number n) (signed_twelve t) (int_wrong n f)

-- what a digit counts, over every base where it is none
abbrev pub counted : Option ℕ → ℕ
counted (Some d) = d
counted None = no_digit

-- 12: a byte is no digit, or the digits count more than the limit
abbrev pub digits_of : Option ℕ → R ℕ
digits_of (Some n) = ok n
digits_of None = bad 12

-- one digit more after the value acc, within the limit
unfoldable pub more : ℕ → ℕ → ℕ → ℕ → R ℕ
more base limit acc b =
    pick (leb base (digit b)) (bad 12) (pick (ltb limit (acc * base + digit b)) (bad 12) (ok (acc * base + digit b)))
