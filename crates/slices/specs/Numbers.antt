-- Numbers of so many bytes, the least byte first: how they are written and read, over any width.
use Rattle.std.specs.Prelude.{ℕ, zero, suc, ◌+◌, ◌*◌, ◌/◌, ◌%◌, ◌^◌, ◌≤◌, ◌<◌, List, [], ◌∷◌, ◌≡◌, refl, length, get_or}
use Rattle.std.proofs.Common.{ap, ◌∙◌, arith, add-zero, div-add-mod', div-lt_iff_lt-mul, pow-suc}
use Rattle.laws.specs.Stored.{stored, stored_in, stored_before, stored_after}

-- the k bytes of n
abbrev pub little : ℕ → ℕ → List ℕ
little zero n = []
little (suc k) n = n % 256 ∷ little k (n / 256)

-- the number that the k bytes at a place make
abbrev pub number : ℕ → List ℕ → ℕ → ℕ
number zero s at = 0
number (suc k) s at = number k s (at + 1) * 256 + get_or s at 0

-- ---- laws
pub length_little : (k n : ℕ) → length (little k n) ≡ k
length_little zero n = refl
length_little (suc k) n = ap suc (length_little k (n / 256))

-- two rooms that agree on the k bytes at two places
pub number_same : (k : ℕ) (s t : List ℕ) (a b : ℕ) → ((i : ℕ) → i < k → get_or s (a + i) 0 ≡ get_or t (b + i) 0) → number k s a ≡ number k t b
number_same zero s t a b h = refl
number_same (suc k) s t a b h =
    let e : number k s (a + 1) ≡ number k t (b + 1) = number_same k s t (a + 1) (b + 1) next in
    let f : get_or s a 0 ≡ get_or t b 0 = rw (add-zero a, add-zero b) at (h 0 (omega arith)) in
    rw (e, f)
  where
    next : (i : ℕ) → i < k → get_or s (a + 1 + i) 0 ≡ get_or t (b + 1 + i) 0
    next i l =
        let p : a + 1 + i ≡ a + suc i = omega arith in
        let q : b + 1 + i ≡ b + suc i = omega arith in
        rw (p, q) (h (suc i) (omega arith))

-- in a list with one byte more in front
number_cons : (k b : ℕ) (s : List ℕ) (at : ℕ) → number k (b ∷ s) (at + 1) ≡ number k s at
number_cons k b s at =
    number_same k (b ∷ s) s (at + 1) at
    (λ i _. let p : at + 1 + i ≡ suc (at + i) = omega arith in ap (λ (n : ℕ). get_or (b ∷ s) n 0) p)

-- what was written is read
pub number_little : (k n : ℕ) → n < 256 ^ k → number k (little k n) 0 ≡ n
number_little zero n h = omega arith
number_little (suc k) n h =
    let m : n / 256 < 256 ^ k = (div-lt_iff_lt-mul {k = 256} (omega arith)).1 (rw (pow-suc 256 k) at h) in
    let e : number k (little k (n / 256)) 0 ≡ n / 256 = number_little k (n / 256) m in
    let f : number k (n % 256 ∷ little k (n / 256)) 1 ≡ n / 256 = number_cons k (n % 256) (little k (n / 256)) 0 ∙ e in
    rw f (div-add-mod' n 256)

module _ (k : ℕ) (room : List ℕ) (at : ℕ) (bs : List ℕ) (h : at ≤ length room) where
  -- a number within the bytes that were stored
  pub number_in : (i : ℕ) → i + k ≤ length bs → number k (stored room at bs) (at + i) ≡ number k bs i
  number_in i l =
      number_same k (stored room at bs) bs (at + i) i
      (λ j m. let p : at + i + j ≡ at + (i + j) = omega arith in rw p (stored_in room at bs (i + j) h (omega arith)))

  -- one that ends before them, and one that begins after them
  pub number_before : (p : ℕ) → p + k ≤ at → number k (stored room at bs) p ≡ number k room p
  number_before p l = number_same k (stored room at bs) room p p (λ j m. stored_before room at bs (p + j) h (omega arith))

  pub number_after : (p : ℕ) → at + length bs ≤ p → number k (stored room at bs) p ≡ number k room p
  number_after p l = number_same k (stored room at bs) room p p (λ j m. stored_after room at bs (p + j) h (omega arith))
