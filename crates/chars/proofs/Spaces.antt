-- White space, trimming and UTF-8: what each loop keeps, and one law for each way on and out.
use Prim.Native.Nat.{ℕ, zero, suc, ◌+◌, ◌-◌, ◌^◌, ◌≤◌, ◌<◌}
use mathlib.Core.Bool.{Bool, true, false}
use mathlib.Core.List.{List, [], ◌∷◌, ◌++◌, map}
use mathlib.Core.Path.{◌≡◌, refl, sym, ap, ◌∙◌}
use native.Mathlib.Omega.{arith}
use borrow.Author.Tests.{eq-eqb, ne_eqb, le-leb, lt-leb}
use native.Mathlib.Nat.{lt_of_le_of_lt}
use mir.Syntax.{w64}
use mir.Val.{Fits}
use lib.Dec.{eqb}
use lib.ListN.{length, get_or, take, drop, length-drop, drop_of_length-le}
use lib.Seq.{take-take, take-suc, length-take-le, drop-drop, drop-cons}
use Rattle.meaning.specs.Base.{pick, nil?, between}
use Rattle.std.specs.List.{list_any}
use Rattle.chars.specs.declared.TheConstants.{SPACES}
use Rattle.meaning.specs.Utf8.{reach, char, point, chars, well_formed, valid}
use Rattle.meaning.specs.Space.{inside, white, trim_head, trim_tail, trim_start, trim_end, blank}
use Rattle.laws.specs.Cases.{on}
use Rattle.laws.specs.Parts.{rest_of}
use Rattle.laws.specs.Chars.{char_fits, char_most, spelled_chars, valid_more, valid_stop}
use Rattle.laws.specs.Trim.{white_at, ends_in, white_end, white_fits, end_fits, head_more, head_stop, end_more, end_stop, trim_both, blank_is}
use Rattle.chars.specs.Ascii.{ascii_char, ascii_at, ascii_end}
use Rattle.chars.specs.Trimmed.{Starting, Ending, Started, Ended, Trimmed}

-- ---- White_Space by the table
any_inside : (rs : List (ℕ × ℕ)) (p : ℕ) → list_any (λ r. between r.0 r.1 p) rs ≡ inside (map (λ r. reach r.0 r.1) rs) p
any_inside [] p = refl
any_inside (r ∷ rs) p = rw (any_inside rs p) (on (between r.0 r.1 p) (λ t. rw t) (λ t. rw t))

pub any_white : (p : ℕ) → list_any (λ r. between r.0 r.1 p) SPACES ≡ white p
unfolding white
any_white p = any_inside SPACES p

-- ---- the white space at the head
module _ (s : List ℕ) (n : ℕ) (e : n ≡ char s) where
  pub at_none : n ≡ 0 → 0 ≡ white_at s
  unfolding white_at
  at_none h = rw (← e, eq-eqb n 0 h)

  pub in_reach : (n ≡ 0 → ⊥) → (0 < n) × (n ≤ 4) × (n ≤ length s)
  in_reach h = (omega arith, omega (arith, char_most s), omega (arith, char_fits s))

  module _ (h : n ≡ 0 → ⊥) (p : ℕ) (r : Bool) (f : p ≡ point (take n s)) (g : r ≡ white p) where
    pub at_white : r ≡ true → n ≡ white_at s
    unfolding white_at
    at_white t = rw (← e, ne_eqb n 0 h, ← f, ← g, t)

    pub at_plain : r ≡ false → 0 ≡ white_at s
    unfolding white_at
    at_plain t = rw (← e, ne_eqb n 0 h, ← f, ← g, t)

-- ---- the white space at the end
-- none of the widths below k
module _ (s : List ℕ) where
  pub end_first : (k : ℕ) → 0 < k → k ≤ 4 → ((j : ℕ) → 0 < j → j < k → ends_in j s ≡ false) → ends_in k s ≡ true → k ≡ white_end s
  unfolding white_end
  end_first zero h m n e = absurd (omega arith)
  end_first (suc zero) h m n e = rw e
  end_first (suc (suc zero)) h m n e = rw (n 1 (omega arith) (omega arith), e)
  end_first (suc (suc (suc zero))) h m n e = rw (n 1 (omega arith) (omega arith), n 2 (omega arith) (omega arith), e)
  end_first (suc (suc (suc (suc zero)))) h m n e = rw (n 1 (omega arith) (omega arith), n 2 (omega arith) (omega arith), n 3 (omega arith) (omega arith), e)
  end_first (suc (suc (suc (suc (suc k))))) h m n e = absurd (omega arith)

  pub end_never : ((j : ℕ) → 0 < j → j < 5 → ends_in j s ≡ false) → 0 ≡ white_end s
  unfolding white_end
  end_never n = rw (n 1 (omega arith) (omega arith), n 2 (omega arith) (omega arith), n 3 (omega arith) (omega arith), n 4 (omega arith) (omega arith))

pub ends_told : (s : List ℕ) (k r : ℕ) → k ≤ length s → r ≡ white_at (take (length s - (length s - k)) (drop (length s - k) s)) → eqb r k ≡ ends_in k s
unfolding ends_in
ends_told s k r h e = rw (e, rest_of s (length s - k), le-leb k (length s) h)

pub ends_short : (s : List ℕ) (k : ℕ) → length s < k → false ≡ ends_in k s
unfolding ends_in
ends_short s k h = rw (lt-leb k (length s) h)

-- ---- the loop from the head on
module _ (s : List ℕ) (i : ℕ) where
  starting_done : Starting s i → trim_head (chars 0 (drop i s)) ≡ chars 0 (drop i s) → Started s i
  unfolding trim_start
  starting_done k e = record { high = k.high; is = sym (rw (← k.left, e) (spelled_chars (drop i s))) }

  module _ (n : ℕ) (e : n ≡ white_at (take (length s - i) (drop i s))) where
    white_here : n ≡ white_at (drop i s)
    white_here = e ∙ ap white_at (rest_of s i)

    pub start_bound : i ≤ length s → i + n ≤ length s
    start_bound h = omega (arith, white_here, white_fits (drop i s), length-drop i s)

    pub start_fits : Starting s i → length s < 2 ^ 64 → Fits w64 (i + n)
    start_fits k l = record { fits = lt_of_le_of_lt (start_bound k.high) l }

    pub start_on : Starting s i → (n ≡ 0 → ⊥) → Starting s (i + n)
    start_on k h =
        record {
          high = start_bound k.high;
          left = rw (← (drop-drop n i s)) (sym (head_more (drop i s) n white_here h) ∙ k.left);
        }

    pub start_stop : Starting s i → n ≡ 0 → Started s i
    start_stop k h = starting_done k (head_stop (drop i s) n white_here h)

  module _ (k : Starting s i) (h : i < length s) (l : get_or s i 0 < 128) (r : Bool) (e : r ≡ white (get_or s i 0)) where
    ascii_here : white_at (take (length s - i) (drop i s)) ≡ pick r 1 0
    ascii_here = rw (rest_of s i, drop-cons s i 0 h, e) (ascii_at (get_or s i 0) (drop (suc i) s) l)

    pub start_ascii : r ≡ true → Starting s (i + 1)
    start_ascii t = start_on 1 (sym (rw t at ascii_here)) k (λ z. omega arith)

    pub start_plain : r ≡ false → Started s i
    start_plain t = start_stop 0 (sym (rw t at ascii_here)) k refl

  pub start_end : Starting s i → length s ≤ i → Started s i
  start_end k h = starting_done k (rw (drop_of_length-le s h))

-- ---- the loop backwards from the end
module _ (s : List ℕ) (e : ℕ) where
  ending_done : Ending s e → trim_tail (chars 0 (take e s)) ≡ chars 0 (take e s) → Ended s e
  unfolding trim_end
  ending_done k f = record { high = k.high; is = sym (rw (← k.left, f) (spelled_chars (take e s))) }

  module _ (n : ℕ) (w : n ≡ white_end (take e s)) where
    pub end_bound : e ≤ length s → n ≤ e
    end_bound h = omega (arith, w, end_fits (take e s), length-take-le e s h)

    pub end_on : Ending s e → (n ≡ 0 → ⊥) → Ending s (e - n)
    end_on k h =
        let l : length (take e s) ≡ e = length-take-le e s k.high in
        let m : e - n ≤ e = omega arith in
        let t : take (length (take e s) - n) (take e s) ≡ take (e - n) s = ap (λ (m : ℕ). take (m - n) (take e s)) l ∙ take-take (e - n) e s m in
        record {
          high = omega (arith, k.high);
          left = ap (λ (t : List ℕ). trim_tail (chars 0 t)) (sym t) ∙ sym (end_more (take e s) n w h) ∙ k.left;
        }

    pub end_halt : Ending s e → n ≡ 0 → Ended s e
    end_halt k h = ending_done k (end_stop (take e s) n w h)

  module _ (k : Ending s e) (h : 0 < e) (l : get_or s (e - 1) 0 < 128) (r : Bool) (p : r ≡ white (get_or s (e - 1) 0)) where
    ascii_last : white_end (take e s) ≡ pick r 1 0
    ascii_last =
        let n : e ≡ suc (e - 1) = omega arith in
        let t : take e s ≡ take (e - 1) s ++ (get_or s (e - 1) 0 ∷ []) = ap (λ (m : ℕ). take m s) n ∙ take-suc s (e - 1) 0 (omega (arith, k.high)) in
        rw (t, p) (ascii_end (get_or s (e - 1) 0) l (take (e - 1) s))

    pub end_ascii : r ≡ true → Ending s (e - 1)
    end_ascii t = end_on 1 (sym (rw t at ascii_last)) k (λ z. omega arith)

    pub end_plain : r ≡ false → Ended s e
    end_plain t = end_halt 0 (sym (rw t at ascii_last)) k refl

  pub end_end : Ending s e → e ≤ 0 → Ended s e
  end_end k h = let z : e ≡ 0 = omega arith in ending_done k (rw z)

-- ---- both ends
pub both : (s : List ℕ) (a n : ℕ) → Started s a → Ended (take (length s - a) (drop a s)) n
    → Trimmed s (record { from = a; end = a + n })
both s a n st en =
    let r : take (length s - a) (drop a s) ≡ drop a s = rest_of s a in
    let h : n ≤ length (drop a s) = rw r at en.high in
    let t : take n (drop a s) ≡ trim_end (drop a s) = rw r at en.is in
    let m : a + n - a ≡ n = omega arith in
    record {
      low = omega arith;
      high = omega (arith, length-drop a s, st.high);
      at = omega (arith, length-drop a s, st.high, ap length st.is);
      is = rw m (t ∙ ap trim_end st.is ∙ sym (trim_both s));
    }

nil_drop : (s : List ℕ) (a : ℕ) → a ≤ length s → eqb a (length s) ≡ nil? (drop a s)
nil_drop s a h = go (drop a s) (length-drop a s)
  where
    go : (d : List ℕ) → length d ≡ length s - a → eqb a (length s) ≡ nil? d
    go [] e = eq-eqb a (length s) (omega arith)
    go (b ∷ d) e = ne_eqb a (length s) (λ q. omega arith)

pub all_white : (s : List ℕ) (a : ℕ) → Started s a → eqb a (length s) ≡ blank s
all_white s a st = nil_drop s a st.high ∙ ap nil? st.is ∙ sym (blank_is s)

-- ---- UTF-8
pub record Checking (s : List ℕ) (i : ℕ) : Type 0 where
  pub high : i ≤ length s
  pub left : well_formed (chars 0 (drop i s)) ≡ well_formed (chars 0 s)

module _ (s : List ℕ) (i : ℕ) where
  module _ (n : ℕ) (e : n ≡ char (take (length s - i) (drop i s))) where
    char_here : n ≡ char (drop i s)
    char_here = e ∙ ap char (rest_of s i)

    pub check_bound : i ≤ length s → i + n ≤ length s
    check_bound h = omega (arith, char_here, char_fits (drop i s), length-drop i s)

    pub check_fits : Checking s i → length s < 2 ^ 64 → Fits w64 (i + n)
    check_fits k l = record { fits = lt_of_le_of_lt (check_bound k.high) l }

    pub check_on : Checking s i → (n ≡ 0 → ⊥) → Checking s (i + n)
    check_on k h =
        record {
          high = check_bound k.high;
          left = rw (← (drop-drop n i s)) (sym (valid_more (drop i s) n char_here h) ∙ k.left);
        }

    pub check_stop : Checking s i → i < length s → n ≡ 0 → false ≡ valid s
    unfolding valid
    check_stop k l h = sym (sym k.left ∙ valid_stop (drop i s) n (omega (arith, length-drop i s)) char_here h)

  pub check_ascii : Checking s i → i < length s → get_or s i 0 ≤ 127 → Checking s (i + 1)
  check_ascii k h l = check_on 1 (sym (rw (rest_of s i, drop-cons s i 0 h) (ascii_char (get_or s i 0) (drop (suc i) s) (omega arith)))) k (λ z. omega arith)

  pub check_end : Checking s i → length s ≤ i → true ≡ valid s
  unfolding valid
  check_end k h = rw (drop_of_length-le s h) at k.left
