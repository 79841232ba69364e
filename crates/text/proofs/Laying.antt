-- Laying kept lines into the scratch: one law for each way on and out.
use Rattle.std.specs.Prelude.{min, ◌≢◌, Bool, true, false}
use Prim.Native.Nat.{ℕ, zero, suc, ◌+◌, ◌-◌, ◌^◌, ◌≤◌, ◌<◌}
use mathlib.Core.List.{List, [], ◌∷◌, ◌++◌, append_assoc, append-nil}
use mathlib.Core.Path.{◌≡◌, refl, sym, ap, ◌∙◌}
use native.Mathlib.Omega.{arith}
use native.Mathlib.Numerals.{add-one}
use borrow.Author.Tests.{lt-ltb, le-ltb, ltb-true, ltb-false, eq-eqb, ne_eqb, eqb-true, eqb-false}
use native.Mathlib.Nat.{lt_of_le_of_lt}
use mir.Syntax.{w64}
use mir.Val.{Fits}
use lib.Dec.{eqb, ltb}
use lib.ListN.{length, get_or, take, drop, set, length-drop, length-append, length-take, drop_of_length-le}
use lib.Seq.{length-take-le, take_all, take-take, take_at, drop_at, drop-drop, get_or-take, drop-cons, set_at}
use Rattle.meaning.specs.Base.{before}
use Rattle.meaning.specs.declared.StringState.TheVariants.{Outside}
use Rattle.meaning.specs.Quote.{up_to}
use Rattle.meaning.specs.Lines.{drop_cr, kept, physical}
use Rattle.laws.specs.Cases.{on, picked}
use Rattle.laws.specs.Parts.{rest_of, back_of}
use Rattle.laws.specs.Scans.{up_to_fits}
use Rattle.text.specs.Laid.{laid, over, ended, first_line, laid_line, Begins, Fitting, Lays1, Lays}
use Rattle.text.specs.declared.Piece.{Piece}
use Rattle.text.proofs.Cuts.{before_fits, laid_there, laid_last}

-- ---- the first line without a CR before LF
module _ (s : List ℕ) (n : ℕ) where
  pub whole_line : n ≤ length s → length s ≤ n → Begins n s n
  unfolding first_line
  whole_line h l = record { fits = omega arith; is = rw (le-ltb n (length s) l) (take_all n s l) }

  module _ (l : n < length s) where
    lone : length (take n s) ≡ n
    lone = length-take-le n s (omega arith)

    pub empty_line : n ≡ 0 → Begins n s 0
    unfolding first_line drop_cr
    empty_line z = record { fits = omega arith; is = rw (z, lt-ltb 0 (length s) (omega arith)) }

    ends_so : (n ≡ 0 → ⊥) → get_or (take n s) (length (take n s) - 1) 0 ≡ get_or s (n - 1) 0
    ends_so z = let k : n - 1 < n = omega arith in rw lone (get_or-take n s (n - 1) 0 k)

    pub cr_line : (n ≡ 0 → ⊥) → get_or s (n - 1) 0 ≡ 13 → Begins n s (n - 1)
    unfolding first_line drop_cr
    cr_line z e =
        let m : n - 1 ≤ n = omega arith in
        record {
          fits = omega arith;
          is = rw (lt-ltb n (length s) l, ends_so z, eq-eqb (get_or s (n - 1) 0) 13 e, lone) (sym (take-take (n - 1) n s m));
        }

    pub plain_line : (n ≡ 0 → ⊥) → (get_or s (n - 1) 0 ≡ 13 → ⊥) → Begins n s n
    unfolding first_line drop_cr
    plain_line z e =
        record { fits = omega arith; is = rw (lt-ltb n (length s) l, ends_so z, ne_eqb (get_or s (n - 1) 0) 13 e) }

pub line_count : (s : List ℕ) (n m : ℕ) → n ≤ length s → Begins n s m → m ≡ length (take m s)
line_count s n m h b = sym (length-take-le m s (omega (arith, b.fits)))

-- ---- its kept bytes
pub record Keeps (n : ℕ) (s : List ℕ) (r : ℕ) : Type 0 where
  pub fits : r ≤ n
  pub is : take r s ≡ kept (first_line n s)

pub keeps : (s : List ℕ) (n m r : ℕ) → n ≤ length s → Begins n s m → r ≡ up_to 35 Outside (take m s) → Keeps n s r
unfolding kept
keeps s n m r h b e =
    let l : length (take m s) ≡ m = length-take-le m s (omega (arith, b.fits)) in
    let f : r ≤ m = omega (arith, up_to_fits 35 Outside (take m s)) in
    record {
      fits = omega (arith, b.fits);
      is = sym (rw (← b.is, ← e) (take-take r m s f));
    }

-- ---- a line and its LF
pub put : (l o d : List ℕ) → length l < length o → d ≡ l ++ drop (length l) o → set d (length l) 10 ≡ over (ended l) o
put l o d h e =
    let n : length (l ++ (10 ∷ [])) ≡ suc (length l) = length-append l (10 ∷ []) ∙ add-one (length l) in
    ap (λ (x : List ℕ). set x (length l) 10) (e ∙ ap (λ (x : List ℕ). l ++ x) (drop-cons o (length l) 0 h))
    ∙ set_at l (get_or o (length l) 0) (drop (suc (length l)) o) 10 (length l) refl
    ∙ rw n (sym (append_assoc l (10 ∷ []) (drop (suc (length l)) o)))

-- ---- a laid text is at most one byte longer
kept_fits : (l : List ℕ) → length (kept l) ≤ length l
unfolding kept
kept_fits l = omega (arith, length-take (up_to 35 Outside l) l)

drop_cr_fits_lem : (l : List ℕ) → length (drop_cr l) ≤ length l
unfolding drop_cr
drop_cr_fits_lem l =
    let P : List ℕ → Type 0 = λ r. length r ≤ length l in
    picked P (eqb (get_or l (length l - 1) 0) 13) (λ _. omega (arith, length-take (length l - 1) l)) (λ _. omega arith)

first_fits : (n : ℕ) (s : List ℕ) → n ≤ length s → length (first_line n s) ≤ length s
unfolding first_line
first_fits n s h =
    let P : List ℕ → Type 0 = λ r. length r ≤ length s in
    picked P (ltb n (length s)) (λ _. omega (arith, drop_cr_fits_lem (take n s), length-take n s)) (λ _. omega arith)

first_short : (n : ℕ) (s : List ℕ) → n < length s → length (first_line n s) ≤ n
unfolding first_line
first_short n s h = rw (lt-ltb n (length s) h) (omega (arith, drop_cr_fits_lem (take n s), length-take n s))

pub laid_short : (k : ℕ) (s : List ℕ) → length s ≤ k → length (laid s) ≤ length s + 1
unfolding laid physical
laid_short zero [] h = omega arith
laid_short zero (b ∷ s) h = absurd (omega arith)
laid_short (suc k) s h = go s h (laid_short k)
  where
    go : (s : List ℕ) → length s ≤ suc k → ((r : List ℕ) → length r ≤ k → length (laid r) ≤ length r + 1) → length (laid s) ≤ length s + 1
    go [] h ih = omega arith
    go (b ∷ s) h ih =
        let n : ℕ = before 10 (b ∷ s) in
        let l : List ℕ = kept (first_line n (b ∷ s)) in
        let f : length l ≤ length (first_line n (b ∷ s)) = kept_fits (first_line n (b ∷ s)) in
        on (ltb n (length (b ∷ s)))
        (λ p.
        let m : n < length (b ∷ s) = ltb-true n (length (b ∷ s)) p in
        let r : List ℕ = drop (n + 1) (b ∷ s) in
        let d : length r ≡ length (b ∷ s) - (n + 1) = length-drop (n + 1) (b ∷ s) in
        let a : length (l ++ (10 ∷ laid r)) ≡ length l + suc (length (laid r)) = length-append l (10 ∷ laid r) in
        rw (laid_there (b ∷ s) n refl m) (omega (arith, ih r (omega arith), first_short n (b ∷ s) m)))
        (λ p.
        let m : length (b ∷ s) ≤ n = ltb-false n (length (b ∷ s)) p in
        let a : length (l ++ (10 ∷ [])) ≡ length l + 1 = length-append l (10 ∷ []) in
        rw (laid_last (b ∷ s) n refl m (omega arith)) (omega (arith, first_fits n (b ∷ s) (before_fits 10 (b ∷ s)))))

-- ---- one line of n bytes, m without a CR before LF, of which k are kept
module _ (s o : List ℕ) (n m k : ℕ) (e : n ≡ before 10 s) (h : n ≤ length s) (b : Begins n s m) (g : k ≡ up_to 35 Outside (take m s)) where
  p : Keeps n s k
  p = keeps s n m k h b g

  pub kept_count : k ≡ length (take k s)
  kept_count = sym (length-take-le k s (omega (arith, p.fits)))

  line_is : laid_line s ≡ ended (take k s)
  unfolding laid_line
  line_is = rw (← e, p.is)

  line_size : k + 1 ≡ length (laid_line s)
  line_size = ap (λ (m : ℕ). m + 1) kept_count ∙ sym (length-append (take k s) (10 ∷ [])) ∙ ap length (sym line_is)

  goes_there : n < length s → laid s ≡ laid_line s ++ laid (drop (n + 1) s)
  unfolding laid_line
  goes_there l = laid_there s n e l ∙ rw e (sym (append_assoc (kept (first_line (before 10 s) s)) (10 ∷ []) (laid (drop (before 10 s + 1) s))))

  goes_last : length s ≤ n → 0 < length s → laid s ≡ laid_line s ++ laid (drop n s)
  unfolding laid_line laid physical
  goes_last l z = laid_last s n e l z ∙ rw (e, drop_of_length-le s {i = before 10 s} (omega arith)) (sym (append-nil (ended (kept (first_line (before 10 s) s)))))

  pub line_room : 0 < length s → length (laid s) ≤ length o → length (take k s) < length o
  line_room z r =
      on (ltb n (length s))
      (λ q. omega (arith, ap length (goes_there (ltb-true n (length s) q)), length-append (laid_line s) (laid (drop (n + 1) s)), line_size, kept_count))
      (λ q. omega (arith, ap length (goes_last (ltb-false n (length s) q) z), length-append (laid_line s) (laid (drop n s)), line_size, kept_count))

  pub line_within : 0 < length s → length (laid s) ≤ length o → length o < 2 ^ 64 → Fits w64 (k + 1)
  line_within z r w = record { fits = lt_of_le_of_lt (omega (arith, line_room z r, kept_count)) w }

  -- the line is taken with its LF, where it has one
  taken_on : 0 < length s → laid s ≡ laid_line s ++ laid (drop (min (n + 1) (length s)) s)
  taken_on z =
      on (ltb n (length s))
      (λ q.
      let l : n < length s = ltb-true n (length s) q in
      let t : n + 1 ≡ min (n + 1) (length s) = omega arith in
      rw t at (goes_there l))
      (λ q.
      let l : length s ≤ n = ltb-false n (length s) q in
      let t : n ≡ min (n + 1) (length s) = omega arith in
      rw t at (goes_last l z))

  pub piece : (o' : List ℕ) (t : ℕ) → o' ≡ over (ended (take k s)) o → 0 < length s → t ≡ min (n + 1) (length s) → Lays1 s o o' (record { taken = t; written = k + 1 })
  piece o' t q z u = record { some = omega arith; fits = omega arith; wrote = line_size; goes = rw u (taken_on z); left = q ∙ rw line_is }

-- ---- the loop: w is laid, and what is left of s goes after it
pub record Laying (s room₀ room rest : List ℕ) (j : ℕ) : Type 0 where
  pub less : length rest ≤ length s
  pub fits : length s < length room₀
  pub long : length room ≡ length room₀
  pub low : j ≤ length room
  pub w : List ℕ
  pub size : length w ≡ j
  pub goes : w ++ laid rest ≡ laid s
  pub left : room ≡ over w room₀

pub lay_start : (s room : List ℕ) → length s < length room → Laying s room room s 0
lay_start s room h = record { less = omega arith; fits = h; long = refl; low = omega arith; w = []; size = refl; goes = refl; left = refl }

pub lay_done : (s room₀ room rest : List ℕ) (j : ℕ) → Laying s room₀ room rest j → (r : Bool) → r ≡ eqb (length rest) 0 → r ≡ true → Lays s room₀ room j
unfolding laid physical
lay_done s room₀ room (b ∷ rest) j k r q t = let z : length (b ∷ rest) ≡ 0 = eqb-true (length (b ∷ rest)) 0 (sym q ∙ t) in absurd (omega arith)
lay_done s room₀ room [] j k r q t =
    let e : k.w ≡ laid s = sym (append-nil k.w) ∙ k.goes in
    record {
      fits = k.low;
      most = omega (arith, laid_short (length s) s (omega arith), k.size, ap length e);
      used = sym k.size ∙ ap length e;
      left = k.left ∙ ap (λ (b : List ℕ). over b room₀) e;
    }

module _ (s room₀ room rest : List ℕ) (j : ℕ) (a : Laying s room₀ room rest j) where
  -- there is room for all that is left
  room_left : j + length (laid rest) ≤ length room
  room_left =
      omega (arith, laid_short (length s) s (omega arith), sym (length-append a.w (laid rest)) ∙ ap length a.goes, a.size, a.long, a.fits)

  pub lends : (r : Bool) → r ≡ eqb (length rest) 0 → r ≡ false → Fitting rest (take (length room - j) (drop j room))
  lends r e f =
      let h : length rest ≢ 0 = eqb-false (length rest) 0 (sym e ∙ f) in
      rw (rest_of room j) (record { some = omega arith; wide = omega (arith, length-drop j room, room_left) })

  module _ (p : Piece) (ys : List ℕ) (l : Lays1 rest (take (length room - j) (drop j room)) ys p) where
    so : Lays1 rest (drop j room) ys p
    so = rw (rest_of room j) at l

    pub written_fits : j + p.written ≤ length room
    written_fits = omega (arith, so.wrote, ap length so.goes, length-append (laid_line rest) (laid (drop p.taken rest)), room_left)

    laid_at : take j room ++ (ys ++ drop (length room - j) (drop j room)) ≡ over (a.w ++ laid_line rest) room₀
    laid_at =
        let x : List ℕ = laid_line rest in
        let t : take j room ≡ a.w = ap (take j) a.left ∙ take_at a.w (drop (length a.w) room₀) j a.size in
        let d : drop j room ≡ drop j room₀ = ap (drop j) a.left ∙ drop_at a.w (drop (length a.w) room₀) j a.size ∙ ap (λ (m : ℕ). drop m room₀) a.size in
        let n : length (a.w ++ x) ≡ j + length x = length-append a.w x ∙ ap (λ (m : ℕ). m + length x) a.size in
        back_of room ys j
        ∙ rw (t, so.left, d, drop-drop (length x) j room₀, n) (sym (append_assoc a.w x (drop (j + length x) room₀)))

    grown : length (a.w ++ laid_line rest) ≡ j + p.written
    grown = length-append a.w (laid_line rest) ∙ rw (a.size, ← so.wrote)

    lay_on : (rest' : List ℕ) → rest' ≡ drop p.taken rest → Laying s room₀ (take j room ++ (ys ++ drop (length room - j) (drop j room))) rest' (j + p.written)
    lay_on rest' e =
        let w : List ℕ = a.w ++ laid_line rest in
        let n : length (take j room ++ (ys ++ drop (length room - j) (drop j room))) ≡ length room₀ =
        ap length laid_at ∙ length-append w (drop (length w) room₀) ∙ omega (arith, grown, written_fits, a.long, length-drop (length w) room₀) in
        rw e (record {
          less = omega (arith, length-drop p.taken rest, a.less);
          fits = a.fits;
          long = n;
          low = omega (arith, written_fits, a.long);
          w = w;
          size = grown;
          goes = append_assoc a.w (laid_line rest) (laid (drop p.taken rest)) ∙ rw (← so.goes) a.goes;
          left = laid_at;
        })

    pub lay_onward : Laying s room₀ (take j room ++ (ys ++ drop (length room - j) (drop j room))) (take (length rest - p.taken) (drop p.taken rest)) (j + p.written)
    lay_onward = lay_on (take (length rest - p.taken) (drop p.taken rest)) (rest_of rest p.taken)
