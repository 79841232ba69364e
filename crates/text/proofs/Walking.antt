-- The walk over joined lines: blank lines passed, the next line, and what it says of all joined lines.
use Rattle.std.specs.Prelude.{None, Some, Ok, Err}
use Prim.Native.Nat.{ℕ, suc, ◌+◌, ◌-◌, ◌≤◌, ◌<◌}
use mathlib.Core.Bool.{Bool, true, false}
use mathlib.Core.List.{List, [], ◌∷◌}
use mathlib.Core.Path.{◌≡◌, refl, sym, ap, ◌∙◌}
use native.Mathlib.Omega.{arith}
use native.Mathlib.Nat.{add_assoc}
use borrow.Author.Tests.{lt-ltb, le-ltb, ltb-true, ltb-false, ne_eqb}
use lib.Dec.{ltb}
use lib.ListN.{length, get_or, take, drop, length-drop, drop_of_length-le}
use lib.Seq.{drop-cons, drop-drop, length-take-le}
use Rattle.meaning.specs.Base.{before}
use Rattle.meaning.specs.Space.{blank}
use Rattle.laws.specs.Cases.{on}
use Rattle.laws.specs.Parts.{rest_of}
use Rattle.slices.specs.Found.{Found}
use Rattle.chars.specs.Ascii.{high_plain, ascii_plain}
use Rattle.meaning.specs.declared.Refused.{Refused}
use Rattle.text.specs.declared.Extent.{Extent}
use Rattle.text.specs.declared.Place.{Place}
use Rattle.text.specs.Laid.{lines_of}
use Rattle.text.specs.Walk.{Joint, Next, joint_in, joint, ending, placed, next_in, next, Within, Joined, Dark, Skipped, Advance, Follows}
use Rattle.text.proofs.Cuts.{lines_there, lines_none}
use Rattle.text.proofs.Handing.{handed}

-- ---- blank lines
pub dark_ascii : (b : ℕ) → 32 < b → ltb b 128 ≡ true → Dark b
dark_ascii b h e =
    let l : b < 128 = ltb-true b 128 e in
    record { line = λ q. omega arith; plain = λ s. ascii_plain b s l (high_plain b (λ q. omega arith) l (omega arith)) }

pub record Skipping (s : List ℕ) (at n₀ : ℕ) (p : Place) : Type 0 where
  pub on : at ≤ p.at
  pub count : p.line + at ≤ n₀ + p.at
  pub small : n₀ < 4294967296
  pub left : next s at n₀ ≡ next_in p.at p.line (lines_of (drop p.at s))

pub skip_start : (s : List ℕ) (at n : ℕ) → n < 4294967296 → Skipping s at n (record { at = at; line = n })
unfolding next
skip_start s at n h = record { on = omega arith; count = omega arith; small = h; left = refl }

module _ (s : List ℕ) (at n₀ i n : ℕ) (a : Skipping s at n₀ (record { at = i; line = n })) where
  -- nothing is left
  nothing : (p : ℕ) → lines_of (drop i s) ≡ [] → length s ≤ p → at ≤ p → i ≤ p → Skipped s at n₀ (record { at = p; line = n })
  nothing p e h o l = record {
    on = o;
    count = omega (arith, a.count);
    is = a.left ∙ rw (e, le-ltb p (length s) h);
  }

  pub skip_end : length s ≤ i → Skipped s at n₀ (record { at = i; line = n })
  unfolding lines_of
  skip_end h = nothing i (rw (drop_of_length-le s h)) h a.on (omega arith)

  -- a line that begins so is not blank; and where it has no LF it is none
  pub skip_dark : i < length s → (r : Bool) → (r ≡ true → Dark (get_or s i 0)) → r ≡ true → Skipped s at n₀ (record { at = i; line = n })
  unfolding joint ending
  skip_dark h r d t = record {
    on = a.on;
    count = a.count;
    is = a.left ∙ rw (lt-ltb i (length s) h, drop-cons s i 0 h) (dark_next (get_or s i 0) (drop (suc i) s) (d t));
  }
    where
      dark_next : (b : ℕ) (f : List ℕ) → Dark b → next_in i n (lines_of (b ∷ f)) ≡ placed i n (joint_in (lines_of (b ∷ f)))
      dark_next b f q =
          let e : before 10 (b ∷ f) ≡ suc (before 10 f) = rw (ne_eqb b 10 q.line) in
          on (ltb (before 10 (b ∷ f)) (length (b ∷ f)))
          (λ p.
          let g : lines_of (b ∷ f) ≡ (b ∷ take (before 10 f) f) ∷ lines_of (drop (before 10 (b ∷ f) + 1) (b ∷ f)) =
          lines_there (b ∷ f) (before 10 (b ∷ f)) refl (ltb-true (before 10 (b ∷ f)) (length (b ∷ f)) p) ∙ ap (λ (m : ℕ). take m (b ∷ f) ∷ lines_of (drop (before 10 (b ∷ f) + 1) (b ∷ f))) e in
          rw (g, q.plain (take (before 10 f) f)))
          (λ p. rw (lines_none (b ∷ f) (before 10 (b ∷ f)) refl (ltb-false (before 10 (b ∷ f)) (length (b ∷ f)) p)))

  module _ (h : i < length s) (k : ℕ) (f : Found 10 (take (length s - i) (drop i s)) k) where
    ends : k ≡ before 10 (drop i s)
    ends = f.is ∙ ap (before 10) (rest_of s i)

    pub end_fits : i + k ≤ length s
    end_fits = omega (arith, rw (rest_of s i) at f.fits, length-drop i s)

    pub skip_out : length s ≤ i + k → Skipped s at n₀ (record { at = length s; line = n })
    skip_out l =
        nothing (length s) (lines_none (drop i s) k ends (omega (arith, length-drop i s))) (omega arith) (omega (arith, a.on)) (omega arith)

    module _ (l : i + k < length s) (r : Bool) (e : r ≡ blank (take (i + k - i) (drop i s))) where
      line : List ℕ
      line = take k (drop i s)

      split : lines_of (drop i s) ≡ take k (drop i s) ∷ lines_of (drop (i + k + 1) s)
      split =
          lines_there (drop i s) k ends (omega (arith, length-drop i s))
          ∙ rw (drop-drop (k + 1) i s, add_assoc i k 1)

      long : length (take k (drop i s)) ≡ k
      long = length-take-le k (drop i s) (omega (arith, length-drop i s))

      said : r ≡ blank (take k (drop i s))
      said = let z : i + k - i ≡ k = omega arith in rw z at e

      pub skip_on : r ≡ true → Skipping s at n₀ (record { at = i + k + 1; line = n + 1 })
      skip_on t = record {
        on = omega (arith, a.on);
        count = omega (arith, a.count);
        small = a.small;
        left = a.left ∙ rw (split, ← said, t, long);
      }

      pub skip_found : r ≡ false → Skipped s at n₀ (record { at = i; line = n })
      unfolding joint
      skip_found t = record {
        on = a.on;
        count = a.count;
        is = a.left ∙ rw (split, ← said, t, lt-ltb i (length s) h);
      }

-- ---- the next joined line
module _ (s : List ℕ) (at n₀ : ℕ) (p : Place) (a : Skipped s at n₀ p) where
  -- the parts follow from the answer
  follows : (r : Next) → r ≡ next s at n₀ → Advance s at n₀ r → Follows s at n₀ r
  follows r e v = record { is = e; advance = v; handed = rw e (handed s at n₀) }

  pub at_end : length s ≤ p.at → Follows s at n₀ (Ok None)
  at_end h = follows (Ok None) (sym (a.is ∙ rw (le-ltb p.at (length s) h))) tt

  module _ (h : p.at < length s) (j : Joint) (b : Joined (take (length s - p.at) (drop p.at s)) j) where
    is_placed : placed p.at p.line j ≡ next s at n₀
    is_placed = rw (b.is, rest_of s p.at) (sym (a.is ∙ rw (lt-ltb p.at (length s) h)))

    pub none_there : j ≡ Ok None → Follows s at n₀ (Ok None)
    none_there e = follows (Ok None) (ap (placed p.at p.line) (sym e) ∙ is_placed) tt

    pub refused_there : (r : Refused) → j ≡ Err r → Follows s at n₀ (Err (record { refused = r; line = p.line }))
    refused_there r e = follows (Err (record { refused = r; line = p.line })) (ap (placed p.at p.line) (sym e) ∙ is_placed) (omega (arith, a.count))

    module _ (x : Extent) (q : j ≡ Ok (Some x)) where
      within : Within (take (length s - p.at) (drop p.at s)) x.end x.lines
      within = rw q at b.fit

      pub end_in : p.at + x.end < length s
      end_in = omega (arith, rw (rest_of s p.at) at within.fits, length-drop p.at s)

      pub lines_in_lem : p.line + x.lines + at ≤ n₀ + (p.at + x.end + 1)
      lines_in_lem = omega (arith, within.lines, a.count)

      pub line_there : Follows s at n₀ (Ok (Some (record { from = p.at; end = p.at + x.end; line = p.line; next = record { at = p.at + x.end + 1; line = p.line + x.lines } })))
      line_there =
          follows (placed p.at p.line (Ok (Some x))) (ap (placed p.at p.line) (sym q) ∙ is_placed)
          (record { on = a.on; number = a.count; low = omega arith; high = omega arith; fits = omega (arith, end_in); count = lines_in_lem })
