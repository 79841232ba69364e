-- A joined line at the head of a laid text: each line is counted once, and the count is carried on with the LF that joins.
use Rattle.std.specs.Prelude.{None, Ok, Err}
use Prim.Native.Nat.{ℕ, suc, ◌+◌, ◌-◌, ◌≤◌, ◌<◌}
use mathlib.Core.List.{List, [], ◌∷◌, ◌++◌, append_assoc}
use mathlib.Core.Option.{some}
use mathlib.Core.Path.{◌≡◌, refl, sym, ap, ◌∙◌}
use native.Mathlib.Omega.{arith}
use native.Mathlib.Numerals.{add-one}
use borrow.Author.Tests.{eq-eqb, ne_eqb}
use lib.Dec.{eqb}
use lib.ListN.{length, get_or, take, drop, length-drop, drop_of_length-le, take-append-drop}
use lib.Seq.{drop-cons, drop-drop, length-take-le}
use Rattle.meaning.specs.declared.Fate.{Fate}
use Rattle.meaning.specs.declared.Fate.TheVariants.{Over, Unended, Whole}
use Rattle.meaning.specs.declared.Refused.TheVariants.{ClosedTooOften, NeverClosed}
use Rattle.meaning.specs.declared.Scan.{Scan}
use Rattle.meaning.specs.Base.{pick, before}
use Rattle.meaning.specs.declared.StringState.{StringState}
use Rattle.meaning.specs.declared.StringState.TheVariants.{Outside}
use Rattle.meaning.specs.Quote.{scan, step}
use Rattle.meaning.specs.Lines.{fate}
use Rattle.laws.specs.Cases.{on}
use Rattle.laws.specs.Parts.{rest_of}
use Rattle.laws.specs.Scans.{scan_append, step_opens, step_closes}
use Rattle.text.specs.declared.Counted.{Counted}
use Rattle.text.specs.Laid.{lines_of}
use Rattle.text.specs.Parts.{Part, parts_in, Tiles, Due, Countable, line_of, Counts}
use Rattle.text.specs.Runs.{Quiets, Run}
use Rattle.text.specs.Walk.{Joint, reaching, joint_from, joint, ending, Fit, Joined}
use Rattle.text.proofs.Carried.{joint_carried}
use Rattle.text.proofs.Cuts.{lines_there, lines_none}
use Rattle.text.proofs.Runs.{scan_quiet}

-- ---- one line
line_quiet : (st : StringState) (l f : List ℕ) → Quiets st l → (before 10 (l ++ f) ≡ length l + before 10 f) × (line_of (l ++ f) ≡ l ++ line_of f)
line_quiet st [] f a = (omega arith, refl)
line_quiet st (b ∷ l) f a =
    let q = line_quiet st l f a.1 in
    let n : before 10 (l ++ f) ≡ length l + before 10 f = q.0 in
    (rw (ne_eqb b 10 a.0.line) (omega arith), rw (ne_eqb b 10 a.0.line, q.1))

-- the line from at on is counted up to i, onward from c
pub record Counting (s : List ℕ) (at : ℕ) (c : Scan) (i : ℕ) (x : Scan) : Type 0 where
  pub high : i ≤ length s
  pub opens : x.opens ≤ i
  pub closes : x.closes ≤ i
  pub ends : i + before 10 (drop i s) ≡ at + before 10 (drop at s)
  pub left : scan x (line_of (drop i s)) ≡ scan c (line_of (drop at s))

pub count_start : (s : List ℕ) (at : ℕ) (c : Scan) → Countable s at c → Counting s at c at c
count_start s at c r = record { high = r.high; opens = r.opens; closes = r.closes; ends = refl; left = refl }

module _ (s : List ℕ) (at : ℕ) (c : Scan) (i : ℕ) (x : Scan) (k : Counting s at c i x) where
  -- where no byte of the line is left
  counted : before 10 (drop i s) ≡ 0 → Counts s at c (record { end = i; count = x })
  counted e = record { fits = k.high; is = omega (arith, k.ends); counts = rw e at k.left; opens = k.opens; closes = k.closes }

  pub count_end : length s ≤ i → Counts s at c (record { end = i; count = x })
  count_end h = counted (rw (drop_of_length-le s h))

  module _ (h : i < length s) where
    at_lf : get_or s i 0 ≡ 10 → Counts s at c (record { end = i; count = x })
    at_lf b = counted (rw (drop-cons s i 0 h, eq-eqb (get_or s i 0) 10 b))

    at_byte : (y : Scan) → (get_or s i 0 ≡ 10 → ⊥) → y ≡ step x (get_or s i 0) → Counting s at c (i + 1) y
    at_byte y b e =
        let d : drop i s ≡ get_or s i 0 ∷ drop (i + 1) s = rw add-one (drop-cons s i 0 h) in
        let f : before 10 (drop i s) ≡ suc (before 10 (drop (i + 1) s)) = rw (d, ne_eqb (get_or s i 0) 10 b) in
        record {
          high = omega arith;
          opens = rw e (omega (arith, step_opens x (get_or s i 0), k.opens));
          closes = rw e (omega (arith, step_closes x (get_or s i 0), k.closes));
          ends = omega (arith, k.ends);
          left = rw e (rw (d, ne_eqb (get_or s i 0) 10 b) at k.left);
        }

-- ---- the ways on and out, each after a run
module _ (s : List ℕ) (at : ℕ) (c : Scan) (i : ℕ) (x : Scan) (k : Counting s at c i x) (n : ℕ) (p : Run x.state (take (length s - i) (drop i s)) n) where
  at_run : Counting s at c (i + n) x
  at_run =
      let r : Run x.state (drop i s) n = rw (rest_of s i) at p in
      let l : List ℕ = take n (drop i s) in
      let f : List ℕ = drop (i + n) s in
      let d : drop i s ≡ l ++ f = sym (rw (← (drop-drop n i s)) (take-append-drop n (drop i s))) in
      let q = line_quiet x.state l f r.all in
      let b : before 10 (drop i s) ≡ length l + before 10 f = ap (before 10) d ∙ q.0 in
      let w : length l ≡ n = length-take-le n (drop i s) r.fits in
      record {
        high = omega (arith, r.fits, length-drop i s, k.high);
        opens = omega (arith, k.opens);
        closes = omega (arith, k.closes);
        ends = omega (arith, k.ends);
        left =
            sym (ap (λ (u : List ℕ). scan x (line_of u)) d ∙ ap (scan x) q.1 ∙ scan_append x l (line_of f) ∙ ap (λ (z : Scan). scan z (line_of f)) (scan_quiet x l r.all))
            ∙ k.left;
      }

  pub count_out : length s ≤ i + n → Counts s at c (record { end = i + n; count = x })
  count_out = count_end s at c (i + n) x at_run

  module _ (h : i + n < length s) where
    pub count_lf : get_or s (i + n) 0 ≡ 10 → Counts s at c (record { end = i + n; count = x })
    count_lf = at_lf s at c (i + n) x at_run h

    pub count_on : (y : Scan) → (get_or s (i + n) 0 ≡ 10 → ⊥) → y ≡ step x (get_or s (i + n) 0) → Counting s at c (i + n + 1) y
    count_on = at_byte s at c (i + n) x at_run h

-- ---- line after line
tiles_on : (low high : ℕ) (ps : List Part) (p : Part) → Tiles low high ps → high ≡ p.from → p.from < p.end → Tiles low p.end (ps ++ (p ∷ []))
tiles_on low high [] p t e h = (t ∙ e, h, refl)
tiles_on low high (q ∷ ps) p t e h = (t.0, t.1, tiles_on q.end high ps p t.2 e h)

pub record Gathering (s : List ℕ) (i m : ℕ) (c : Scan) : Type 0 where
  pub high : i ≤ length s
  pub opens : c.opens ≤ i
  pub closes : c.closes ≤ i
  pub lines : m ≤ i + 1
  pub left : joint_from c i m (lines_of (drop i s)) ≡ joint s
  pub due : Due s i c

pub gather_start : (s : List ℕ) → Gathering s 0 1 (record { state = Outside; opens = 0; closes = 0 })
unfolding joint
gather_start s = record { high = omega arith; opens = omega arith; closes = omega arith; lines = omega arith; left = joint_carried (lines_of s); due = record { done = []; tiles = refl; all = refl } }

module _ (s : List ℕ) (i m : ℕ) (c : Scan) (k : Gathering s i m c) where
  ended : (r : Joint) → lines_of (drop i s) ≡ [] → r ≡ ending m → Joined s r
  unfolding ending
  ended r e q =
      let f : Fit s (pick (eqb m 1) (Ok None) (Err NeverClosed)) = on (eqb m 1) (λ p. rw p tt) (λ p. rw p tt) in
      rw q (record { is = rw e at k.left; fit = f })

  pub end_here : (r : Joint) → length s ≤ i → r ≡ ending m → Joined s r
  unfolding lines_of
  end_here r h = ended r (rw (drop_of_length-le s h))

  module _ (l : Counted) (p : Counts s i c l) where
    pub end_there : (r : Joint) → length s ≤ l.end → r ≡ ending m → Joined s r
    end_there r h = ended r (lines_none (drop i s) (before 10 (drop i s)) refl (omega (arith, length-drop i s, p.is)))

    module _ (h : l.end < length s) (f : Fate) (e : f ≡ fate l.count) where
      split : lines_of (drop i s) ≡ line_of (drop i s) ∷ lines_of (drop (l.end + 1) s)
      split =
          let q : i + (before 10 (drop i s) + 1) ≡ l.end + 1 = omega (arith, p.is) in
          lines_there (drop i s) (before 10 (drop i s)) refl (omega (arith, length-drop i s, p.is))
          ∙ ap (λ (d : List ℕ). line_of (drop i s) ∷ lines_of d) (drop-drop (before 10 (drop i s) + 1) i s ∙ ap (λ (j : ℕ). drop j s) q)

      ends : i + length (line_of (drop i s)) ≡ l.end
      ends = omega (arith, length-take-le (before 10 (drop i s)) (drop i s) (omega (arith, length-drop i s, p.is)), p.is)

      pub over_here : f ≡ Over → Joined s (Err ClosedTooOften)
      over_here g = record { is = rw (split, ← p.counts, ← e, g) at k.left; fit = tt }

      pub whole_here : f ≡ Whole → Joined s (reaching l.end m)
      whole_here g = record {
        is = rw (split, ← p.counts, ← e, g, ends) at k.left;
        fit = record { fits = h; lines = omega (arith, k.lines, p.is) };
      }

      -- the line that was counted is done, and the next is due
      next_due : (y : Scan) → f ≡ Unended → y ≡ step l.count 10 → Due s (l.end + 1) y
      next_due y g q =
          let here : Part = record { from = i; end = l.end + 1 } in
          let w : i + length (line_of (drop i s)) + 1 ≡ l.end + 1 = omega (arith, ends) in
          record {
            done = k.due.done ++ (here ∷ []);
            tiles = tiles_on 0 i k.due.done here k.due.tiles refl (omega (arith, p.is));
            all =
                rw (split, ← p.counts, ← e, g, w, ← q) at k.due.all
                ∙ sym (append_assoc k.due.done (here ∷ []) (parts_in (some y) (l.end + 1) (lines_of (drop (l.end + 1) s))));
          }

      pub gather_on : (y : Scan) → f ≡ Unended → y ≡ step l.count 10 → Gathering s (l.end + 1) (m + 1) y
      gather_on y g q = record {
        high = omega arith;
        opens = rw q (omega (arith, step_opens l.count 10, p.opens));
        closes = rw q (omega (arith, step_closes l.count 10, p.closes));
        lines = omega (arith, k.lines, p.is);
        left = rw q (rw (split, ← p.counts, ← e, g, ends) at k.left);
        due = next_due y g q;
      }
