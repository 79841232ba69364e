-- Texts in quotes: what each loop keeps, and one law for each way on and out of it.
use Prim.Native.Nat.{ℕ, suc, ◌+◌, ◌-◌, ◌≤◌, ◌<◌}
use mathlib.Core.Bool.{true, false}
use mathlib.Core.List.{List, [], ◌∷◌, ◌++◌, append_assoc, append-nil}
use mathlib.Core.Path.{◌≡◌, refl, sym, ap, ◌∙◌}
use native.Mathlib.Omega.{arith}
use borrow.Author.Tests.{ne_eqb, eqb-true, eqb-false, lt-ltb}
use lib.Bits.{bit_or, or_add_and, and_le_l, and_le_r}
use lib.Dec.{eqb}
use lib.ListN.{length, get_or, take, drop, length-drop, drop_of_length-le}
use lib.Seq.{drop-drop, get_or-drop}
use Rattle.meaning.specs.Base.{ascii}
use Rattle.meaning.specs.Quoting.{letter_for, escaped, inner, quoted}
use Rattle.laws.specs.Cases.{on}
use Rattle.laws.specs.Parts.{rest_of}
use Rattle.laws.specs.Quoted.{inner_append}
use Rattle.slices.specs.Found.{Other, at?, lead, Passed, Led}
use Rattle.slices.proofs.Bytes.{led_on, led_hit}
use Rattle.page.specs.declared.Page.{Page}
use Rattle.page.specs.Page.{Adds}
use Rattle.page.specs.Runs.{escapes?}
use Rattle.page.proofs.Pages.{adds_nil, adds_then, adds_as}

-- ---- one byte
pub is_plain : (b : ℕ) → (b ≡ 34 → ⊥) → (b ≡ 92 → ⊥) → (b ≡ 10 → ⊥) → (b ≡ 9 → ⊥) → (b ≡ 13 → ⊥) → 0 ≡ letter_for b
unfolding letter_for
is_plain b q s n t r = rw (ne_eqb b 34 q, ne_eqb b 92 s, ne_eqb b 10 n, ne_eqb b 9 t, ne_eqb b 13 r)

-- nothing was gathered, so neither part was
or_none : (x y : ℕ) → bit_or x y ≡ 0 → (x ≡ 0) × (y ≡ 0)
or_none x y e = (omega (arith, or_add_and x y, and_le_r x y), omega (arith, or_add_and x y, and_le_l x y))

-- a byte that needs no escape, and one that does
goes_on : (b : ℕ) → letter_for b ≡ 0 → escapes? b ≡ false
unfolding escapes?
goes_on b e = rw e

stops : (b : ℕ) → (letter_for b ≡ 0 → ⊥) → escapes? b ≡ true
unfolding escapes?
stops b n = lt-ltb 0 (letter_for b) (omega (arith, n))

pub none_met : (b q s n t r : ℕ) → (q ≡ 0 → Other (at? 34) b) → (s ≡ 0 → Other (at? 92) b) → (n ≡ 0 → Other (at? 10) b) → (t ≡ 0 → Other (at? 9) b) → (r ≡ 0 → Other (at? 13) b)
    → bit_or (bit_or (bit_or (bit_or q s) n) t) r ≡ 0 → Other escapes? b
none_met b q s n t r hq hs hn ht hr e =
    let a = or_none (bit_or (bit_or (bit_or q s) n) t) r e in
    let c = or_none (bit_or (bit_or q s) n) t a.0 in
    let d = or_none (bit_or q s) n c.0 in
    let f = or_none q s d.0 in
    record { not = goes_on b (sym (is_plain b (eqb-false b 34 (hq f.0).not) (eqb-false b 92 (hs f.1).not) (eqb-false b 10 (hn d.1).not) (eqb-false b 9 (ht c.1).not) (eqb-false b 13 (hr a.1).not))) }

-- ---- the bytes that need no escape
module _ (s : List ℕ) (i : ℕ) (a : Passed escapes? s i) (l : ℕ) (d : l ≡ letter_for (get_or s i 0)) (h : i < length s) where
  pub plain_hit : (l ≡ 0 → ⊥) → Led escapes? s i
  plain_hit n = led_hit escapes? s i a h (stops (get_or s i 0) (λ e. n (d ∙ e)))

  pub plain_next : l ≡ 0 → Passed escapes? s (i + 1)
  plain_next n = led_on escapes? s i a h (goes_on (get_or s i 0) (sym d ∙ n))

-- ---- a text between its quotes

plain_as : (b : ℕ) → eqb (letter_for b) 0 ≡ true → escaped b ≡ b ∷ []
unfolding escaped
plain_as b e = rw e

escape_as : (b : ℕ) → eqb (letter_for b) 0 ≡ false → escaped b ≡ 92 ∷ letter_for b ∷ []
unfolding escaped
escape_as b e = rw e

-- the bytes before the first that needs an escape stand for themselves
inner_run : (s : List ℕ) → inner s ≡ take (lead escapes? s) s ++ inner (drop (lead escapes? s) s)
inner_run [] = refl
inner_run (b ∷ s) =
    on (eqb (letter_for b) 0)
    (λ e. rw (goes_on b (eqb-true (letter_for b) 0 e), plain_as b e) (ap (λ (l : List ℕ). b ∷ l) (inner_run s)))
    (λ e. rw (stops b (eqb-false (letter_for b) 0 e)))

-- and then that one is written as its escape
inner_stop : (s : List ℕ) → lead escapes? s < length s
    → inner (drop (lead escapes? s) s) ≡ 92 ∷ letter_for (get_or s (lead escapes? s) 0) ∷ inner (drop (suc (lead escapes? s)) s)
inner_stop [] h = absurd (omega arith)
inner_stop (b ∷ s) h =
    on (eqb (letter_for b) 0)
    (λ e. let g = goes_on b (eqb-true (letter_for b) 0 e) in rw g (inner_stop s (omega (arith, rw g at h))))
    (λ e. rw (stops b (eqb-false (letter_for b) 0 e)) (rw (escape_as b e)))

inner_stop_at : (s : List ℕ) (r : ℕ) → r ≡ lead escapes? s → r < length s → inner (drop r s) ≡ 92 ∷ letter_for (get_or s r 0) ∷ inner (drop (suc r) s)
inner_stop_at s r e h = rw e (inner_stop s (rw e at h))

-- the text up to i stands on the page
pub record Inside (s : List ℕ) (p : Page) (i : ℕ) (q : Page) : Type 0 where
  pub high : i ≤ length s
  pub done : List ℕ
  pub adds : Adds done p q
  pub left : done ++ inner (drop i s) ≡ inner s

pub inside_start : (s : List ℕ) (p : Page) → Inside s p 0 p
inside_start s p = record { high = omega arith; done = []; adds = adds_nil p; left = refl }

module _ (s : List ℕ) (p : Page) (i : ℕ) (q : Page) (k : Inside s p i q) where
  module _ (r : ℕ) (l : Led escapes? (take (length s - i) (drop i s)) r) (q₁ : Page) (w : Adds (take (i + r - i) (drop i s)) q q₁) where
    run : Led escapes? (drop i s) r
    run = rw (rest_of s i) at l

    -- what stands on the page with this run
    abbrev so_far : List ℕ
    so_far = k.done ++ take r (drop i s)

    adds_far : Adds so_far p q₁
    adds_far = let e : i + r - i ≡ r = omega arith in adds_then k.adds (rw e at w)

    left_far : so_far ++ inner (drop r (drop i s)) ≡ inner s
    left_far =
        append_assoc k.done (take r (drop i s)) (inner (drop r (drop i s)))
        ∙ ap (λ (l : List ℕ). k.done ++ l) (rw run.is (sym (inner_run (drop i s))))
        ∙ k.left

    pub inside_last : i + r ≡ length s → Adds (inner s) p q₁
    inside_last e =
        let d : drop r (drop i s) ≡ [] = drop_of_length-le (drop i s) {i = r} (omega (arith, length-drop i s)) in
        adds_as (sym (append-nil so_far) ∙ rw d at left_far) adds_far

    pub inside_on : (l : ℕ) → l ≡ letter_for (get_or s (i + r) 0) → (i + r ≡ length s → ⊥) → (q₂ : Page) → Adds (92 ∷ l ∷ []) q₁ q₂ → Inside s p (i + r + 1) q₂
    inside_on l d e q₂ v =
        let low : r < length (drop i s) = omega (arith, length-drop i s, run.fits, k.high) in
        let n : i + suc r ≡ i + r + 1 = omega arith in
        let f : inner (drop r (drop i s)) ≡ 92 ∷ l ∷ inner (drop (i + r + 1) s) =
        inner_stop_at (drop i s) r run.is low ∙ rw (get_or-drop i s r 0, ← d, drop-drop (suc r) i s, n)
        in
        record {
          high = omega (arith, length-drop i s);
          done = so_far ++ (92 ∷ l ∷ []);
          adds = adds_then adds_far v;
          left = append_assoc so_far (92 ∷ l ∷ []) (inner (drop (i + r + 1) s)) ∙ ap (λ (t : List ℕ). so_far ++ t) (sym f) ∙ left_far;
        }

-- ---- quotes
aic_plain : inner (ascii ".aic") ≡ ascii ".aic"
unfolding escaped letter_for
aic_plain = refl

module _ (p q r : Page) where
  pub quoted_is : (s : List ℕ) → Adds (32 ∷ 34 ∷ inner s) p q → Adds (34 ∷ []) q r → Adds (32 ∷ quoted s) p r
  unfolding quoted
  quoted_is s x y = adds_then x y

  pub aic_is : (o : Page) (s : List ℕ) → Adds (32 ∷ 34 ∷ inner s) p q → Adds (ascii ".aic") q r → Adds (34 ∷ []) r o → Adds (32 ∷ quoted (s ++ ascii ".aic")) p o
  unfolding quoted
  aic_is o s x y z = adds_as (ap (λ (l : List ℕ). 32 ∷ 34 ∷ l) (rw (inner_append s (ascii ".aic"), aic_plain) (sym (append_assoc (inner s) (ascii ".aic") (34 ∷ []))))) (adds_then x (adds_then y z))
