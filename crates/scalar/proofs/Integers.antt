-- Integers: what each loop keeps, and one law for each way on and out.
use Prim.Native.Nat.{ℕ, zero, suc, ◌+◌, ◌*◌, ◌≤◌, ◌<◌}
use mathlib.Core.Bool.{Bool, true, false}
use mathlib.Core.List.{List, [], ◌∷◌}
use mathlib.Core.Path.{◌≡◌, refl, sym, ap, ◌∙◌}
use native.Mathlib.Omega.{arith}
use native.Mathlib.Numerals.{add-one}
use borrow.Author.Tests.{eq-eqb, eqb-true, ne_eqb, le-ltb, lt-ltb, le-leb, lt-leb, leb-false, ltb-true, ltb-false}
use lib.Dec.{eqb, ltb, leb}
use lib.ListN.{length, get_or, drop, drop_of_length-le}
use lib.Seq.{drop-cons}
use Rattle.std.specs.Prelude.{Option, Some, None, Result, Ok, Err, not, ◌==◌, position}
use Rattle.std.specs.Option.{is_some, ok_or}
use Rattle.std.specs.List.{position_or_len}
use Rattle.std.proofs.lemmas.List.Sums.{fails_before_first, passes_at_first}
use Rattle.meaning.specs.Base.{nil?}
use Rattle.meaning.specs.Refusal.{R, ok, bad, ok_then}
use Rattle.meaning.specs.Integers.{digit, value, clean, most, within, magnitude, sign, body, signed}
use Rattle.laws.specs.Cases.{on, picked}
use Rattle.meaning.specs.Numbered.{number}
use Rattle.meaning.specs.declared.Refused.{Refused}
use Rattle.meaning.specs.declared.Refused.TheVariants.{NotAnInteger}
use Rattle.meaning.specs.declared.Signed.{Signed}
use Rattle.scalar.specs.Ints.{digits_of, more}

-- ---- one digit more
module _ (base limit acc b : ℕ) where
  pub more_stray : base ≤ digit b → bad 12 ≡ more base limit acc b
  unfolding more
  more_stray h = rw (le-leb base (digit b) h)

  pub more_over : limit < acc * base + digit b → bad 12 ≡ more base limit acc b
  unfolding more
  more_over h =
      on (leb base (digit b)) (λ p. rw p) (λ p. rw (p, lt-ltb limit (acc * base + digit b) h))

  pub more_fits : digit b < base → acc * base + digit b ≤ limit → ok (acc * base + digit b) ≡ more base limit acc b
  unfolding more
  more_fits h k = rw (lt-leb base (digit b) h, le-ltb limit (acc * base + digit b) k)

-- ---- digits over the limit stay over it
grows : (base acc : ℕ) → 0 < base → acc ≤ acc * base
grows zero acc h = absurd (omega arith)
grows (suc base) acc h = omega arith

beyond : (base limit : ℕ) (s : List ℕ) (acc : ℕ) → limit < acc → within limit (value base acc s) ≡ bad 12
unfolding within
beyond base limit [] acc h = rw (lt-ltb limit acc h)
beyond base limit (b ∷ s) acc h =
    on (leb base (digit b))
    (λ t. rw t)
    (λ t. rw t (beyond base limit s (acc * base + digit b) (omega (arith, grows base acc (omega (arith, leb-false base (digit b) t))))))

value_more : (base limit acc b : ℕ) (s : List ℕ)
    → within limit (value base acc (b ∷ s)) ≡ ok_then (more base limit acc b) (λ v. within limit (value base v s))
unfolding more within
value_more base limit acc b s =
    on (leb base (digit b))
    (λ t. rw t)
    (λ t. on (ltb limit (acc * base + digit b))
    (λ u. rw (t, u) (beyond base limit s (acc * base + digit b) (ltb-true limit (acc * base + digit b) u)))
    (λ u. rw (t, u)))

more_le : (base limit acc b v : ℕ) → more base limit acc b ≡ ok v → v ≤ limit
unfolding more
more_le base limit acc b v =
    let P : R ℕ → Type 0 = λ d. d ≡ ok v → v ≤ limit in
    picked P (leb base (digit b)) (λ _ e. clash e)
    (λ _. picked P (ltb limit (acc * base + digit b)) (λ _ e. clash e)
    (λ t e. let k : acc * base + digit b ≡ v = cc in omega (arith, ltb-false limit (acc * base + digit b) t)))
  where
    clash : bad 12 ≡ ok v → v ≤ limit
    clash e = let z : ◌≡◌ {A = ℕ} 0 1 = cc in omega arith

within_le : (limit n : ℕ) (r : R ℕ) → within limit r ≡ ok n → n ≤ limit
unfolding within
within_le limit n (ok m) =
    let P : R ℕ → Type 0 = λ d. d ≡ ok n → n ≤ limit in
    picked P (ltb limit m) (λ _ e. let z : ◌≡◌ {A = ℕ} 0 1 = cc in omega arith)
    (λ t e. let k : m ≡ n = cc in omega (arith, ltb-false limit m t))
within_le limit n (bad k) = λ e. let z : ◌≡◌ {A = ℕ} 0 1 = cc in omega arith

-- ---- without underscores, from i on
module _ (s : List ℕ) (i : ℕ) (h : i < length s) where
  clean_over : get_or s i 0 ≡ 95 → clean (drop i s) ≡ clean (drop (i + 1) s)
  clean_over e = rw (drop-cons s i 0 h, add-one, eq-eqb (get_or s i 0) 95 e)

  clean_on : (get_or s i 0 ≡ 95 → ⊥) → clean (drop i s) ≡ get_or s i 0 ∷ clean (drop (i + 1) s)
  clean_on e = rw (drop-cons s i 0 h, add-one, ne_eqb (get_or s i 0) 95 e)

-- ---- past underscores
abbrev pub is_other : ℕ → Bool
is_other b = not (b == 95)

underscore_of : (b : ℕ) → is_other b ≡ false → b ≡ 95
underscore_of b e = on (eqb b 95) (λ t. eqb-true b 95 t) (λ t. let z : ◌≡◌ {A = Bool} true false = rw t at e in cc)

other_of : (b : ℕ) → is_other b ≡ true → b ≡ 95 → ⊥
other_of b e q = let z : ◌≡◌ {A = Bool} false true = rw (eq-eqb b 95 q) at e in cc

clean_none : (s : List ℕ) → ((k : ℕ) → k < length s → get_or s k 0 ≡ 95) → clean s ≡ []
clean_none [] h = refl
clean_none (b ∷ s) h = rw (eq-eqb b 95 (h 0 (omega arith))) (clean_none s (λ k l. h (suc k) (omega arith)))

clean_first : (s : List ℕ) (i : ℕ) → i < length s → ((k : ℕ) → k < i → get_or s k 0 ≡ 95) → (get_or s i 0 ≡ 95 → ⊥)
    → clean s ≡ get_or s i 0 ∷ clean (drop (i + 1) s)
clean_first [] i l h n = absurd (omega arith)
clean_first (b ∷ s) zero l h n = rw (ne_eqb b 95 n)
clean_first (b ∷ s) (suc i) l h n =
    let z : suc i + 1 ≡ suc (i + 1) = omega arith in
    rw (eq-eqb b 95 (h 0 (omega arith)), z) (clean_first s i (omega arith) (λ k m. h (suc k) (omega arith)) n)

module _ (s : List ℕ) where
  first : ℕ
  first = position_or_len is_other s

  before_first : (k : ℕ) → k < first → get_or s k 0 ≡ 95
  unfolding first
  before_first k h = underscore_of (get_or s k 0) (fails_before_first is_other s k 0 h)

  pub none_left : position is_other s ≡ None → clean s ≡ []
  unfolding first
  none_left e =
      on (ltb first (length s))
      (λ t. let z : ◌≡◌ {A = Option ℕ} (Some first) None = rw t at e in cc)
      (λ t. clean_none s (λ k h. before_first k (omega (arith, ltb-false first (length s) t))))

  pub first_left : (i : ℕ) → position is_other s ≡ Some i → (i < length s) × (clean s ≡ get_or s i 0 ∷ clean (drop (i + 1) s))
  unfolding first
  first_left i e =
      on (ltb first (length s))
      (λ t.
      let z : Some first ≡ Some i = rw t at e in
      let q : first ≡ i = cc in
      let l : first < length s = ltb-true first (length s) t in
      rw (← q) (l, clean_first s first l before_first (other_of (get_or s first 0) (passes_at_first is_other s 0 l))))
      (λ t. let z : None ≡ Some i = rw t at e in cc)

  pub some_left : is_some (position is_other s) ≡ true → nil? (clean s) ≡ false
  some_left e = go (position is_other s) e first_left
    where
      go : (o : Option ℕ) → is_some o ≡ true → ((i : ℕ) → o ≡ Some i → (i < length s) × (clean s ≡ get_or s i 0 ∷ clean (drop (i + 1) s)))
          → nil? (clean s) ≡ false
      go (Some i) q f = rw (f i refl).1
      go None q f = cc

  pub no_some_left : is_some (position is_other s) ≡ false → clean s ≡ []
  no_some_left e = go (position is_other s) e none_left
    where
      go : (o : Option ℕ) → is_some o ≡ false → (o ≡ None → clean s ≡ []) → clean s ≡ []
      go None q f = f refl
      go (Some i) q f = cc

-- ---- the digits: those before i have the value acc
pub record Counting (s : List ℕ) (base limit i acc : ℕ) : Type 0 where
  pub small : acc ≤ limit
  pub left : within limit (value base acc (clean (drop i s))) ≡ within limit (value base 0 (clean s))

pub count_start : (s : List ℕ) (base limit : ℕ) → Counting s base limit 0 0
count_start s base limit = record { small = omega arith; left = refl }

module _ (s : List ℕ) (base limit i acc : ℕ) (a : Counting s base limit i acc) where
  pub count_over : i < length s → get_or s i 0 ≡ 95 → Counting s base limit (i + 1) acc
  count_over h e = record { small = a.small; left = rw (clean_over s i h e) at a.left }

  module _ (h : i < length s) (n : get_or s i 0 ≡ 95 → ⊥) (r : Option ℕ) (e : digits_of r ≡ more base limit acc (get_or s i 0)) where
    told : within limit (value base 0 (clean s)) ≡ ok_then (digits_of r) (λ v. within limit (value base v (clean (drop (i + 1) s))))
    told =
        sym a.left
        ∙ ap (λ (t : List ℕ). within limit (value base acc t)) (clean_on s i h n)
        ∙ value_more base limit acc (get_or s i 0) (clean (drop (i + 1) s))
        ∙ ap (λ (d : R ℕ). ok_then d (λ v. within limit (value base v (clean (drop (i + 1) s))))) (sym e)

    pub count_on : (v : ℕ) → r ≡ Some v → Counting s base limit (i + 1) v
    count_on v f =
        record {
          small = more_le base limit acc (get_or s i 0) v (sym e ∙ ap digits_of f);
          left = sym (rw f at told);
        }

    pub count_stop : r ≡ None → bad 12 ≡ within limit (value base 0 (clean s))
    count_stop f = sym (rw f at told)

  pub count_end : length s ≤ i → ok acc ≡ within limit (value base 0 (clean s))
  unfolding within
  count_end h =
      let t : within limit (value base acc (clean (drop i s))) ≡ ok acc = rw (drop_of_length-le s h, le-ltb limit acc a.small) in
      sym t ∙ a.left

-- ---- at least one digit
module _ (s : List ℕ) (neg : Bool) (base : ℕ) where
  pub no_digit_left : clean s ≡ [] → bad 12 ≡ magnitude neg base (clean s)
  unfolding magnitude
  no_digit_left e = rw e

  -- d is what the digits count, and r the same or the refusal
  module _ (h : nil? (clean s) ≡ false) (m : ℕ) (e : m ≡ most neg) (d : Option ℕ) (f : digits_of d ≡ within m (value base 0 (clean s)))
      (r : Result ℕ Refused) (g : r ≡ ok_or d NotAnInteger) where
    told_by : ok_then (digits_of d) (λ n. ok (record { neg = neg; mag = n })) ≡ magnitude neg base (clean s)
    unfolding magnitude
    told_by = rw (h, ← e, ← f)

    pub number_there : (n : ℕ) → r ≡ Ok n → ok (record { neg = neg; mag = n }) ≡ magnitude neg base (clean s)
    number_there n q = rw (go d (sym q ∙ g)) at told_by
      where
        go : (d : Option ℕ) → Ok n ≡ ok_or d NotAnInteger → d ≡ Some n
        go (Some k) z = let w : n ≡ k = cc in rw w
        go None z = cc

    pub no_number : (n : Refused) → r ≡ Err n → bad (number n) ≡ magnitude neg base (clean s)
    no_number n q = let p : (d ≡ None) × (n ≡ NotAnInteger) = go d (sym q ∙ g) in rw p.1 (rw p.0 at told_by)
      where
        go : (d : Option ℕ) → Err n ≡ ok_or d NotAnInteger → (d ≡ None) × (n ≡ NotAnInteger)
        go (Some k) z = (cc, cc)
        go None z = (refl, cc)

-- ---- an optional sign
pub no_sign : (base : ℕ) → bad 12 ≡ sign base []
unfolding sign magnitude
no_sign base = refl

module _ (s : List ℕ) (base b : ℕ) (t : List ℕ) (h : clean s ≡ b ∷ t) (x : R Signed) where
  pub sign_minus : b ≡ 45 → x ≡ magnitude true base t → x ≡ sign base (clean s)
  unfolding sign
  sign_minus e q = rw (h, eq-eqb b 45 e) q

  pub sign_plus : b ≡ 43 → x ≡ magnitude false base t → x ≡ sign base (clean s)
  unfolding sign
  sign_plus e q = let n : eqb b 45 ≡ false = ne_eqb b 45 (λ z. omega arith) in rw (h, n, eq-eqb b 43 e) q

  pub sign_none : (b ≡ 45 → ⊥) → (b ≡ 43 → ⊥) → x ≡ magnitude false base (clean s) → x ≡ sign base (clean s)
  unfolding sign
  sign_none m n q = let z : x ≡ magnitude false base (b ∷ t) = rw h at q in rw (h, ne_eqb b 45 m, ne_eqb b 43 n) z

-- ---- the base
pub short_ten : (s : List ℕ) → clean s ≡ [] → signed s ≡ sign 10 (clean s)
unfolding body signed
short_ten s e = rw e

module _ (s : List ℕ) (a : ℕ) (t : List ℕ) (h : clean s ≡ a ∷ t) where
  pub other_ten : (a ≡ 48 → ⊥) → signed s ≡ sign 10 (clean s)
  unfolding body signed
  other_ten e = rw (h, ne_eqb a 48 e)

  pub one_ten : t ≡ [] → signed s ≡ sign 10 (clean s)
  unfolding body signed
  one_ten e = on (eqb a 48) (λ p. rw (h, e, p)) (λ p. rw (h, e, p))

  module _ (x : ℕ) (u : List ℕ) (g : t ≡ x ∷ u) where
    pub plain_ten : (x ≡ 120 → ⊥) → (x ≡ 88 → ⊥) → signed s ≡ sign 10 (clean s)
    unfolding body signed
    plain_ten e f = on (eqb a 48) (λ p. rw (h, g, p, ne_eqb x 120 e, ne_eqb x 88 f)) (λ p. rw (h, g, p))

    pub small_hex : a ≡ 48 → x ≡ 120 → signed s ≡ sign 16 u
    unfolding body signed
    small_hex e f = rw (h, g, eq-eqb a 48 e, eq-eqb x 120 f)

    pub large_hex : a ≡ 48 → x ≡ 88 → signed s ≡ sign 16 u
    unfolding body signed
    large_hex e f = let n : eqb x 120 ≡ false = ne_eqb x 120 (λ z. omega arith) in rw (h, g, eq-eqb a 48 e, n, eq-eqb x 88 f)
