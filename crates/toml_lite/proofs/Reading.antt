-- Whole texts: the lines after a refused one, then 17, 1 and 2; one law for each way out.
use Prim.Native.Nat.{ℕ, ◌+◌, ◌*◌, ◌/◌, ◌≤◌, ◌<◌}
use mathlib.Core.Bool.{Bool, true, false}
use mathlib.Core.List.{List, []}
use mathlib.Core.Path.{◌≡◌, refl, sym, ap, ◌∙◌}
use native.Mathlib.Omega.{arith}
use borrow.Author.Tests.{lt-ltb, le-ltb, ltb-false, lt-leb, le-leb, leb-true, leb-false}
use lib.Dec.{ltb, leb}
use lib.ListN.{length, take, drop}
use lib.Seq.{take_at, length-take-le}
use Rattle.std.specs.Prelude.{Result, Ok, Err}
use Rattle.meaning.specs.declared.Limits.{Limits}
use Rattle.meaning.specs.declared.Refused.{Refused}
use Rattle.meaning.specs.declared.Refused.TheVariants.{TextTooLong, NotUtf8, RoomTooSmall}
use Rattle.meaning.specs.Numbered.{number}
use Rattle.meaning.specs.Base.{pick, zeros}
use Rattle.meaning.specs.Limits.{of01}
use Rattle.meaning.specs.Refusal.{Answer, accepted, refused, accepted_then, in_text, at_line}
use Rattle.meaning.specs.Utf8.{valid}
use Rattle.meaning.specs.Lines.{Line, closed, join}
use Rattle.laws.specs.Cases.{on}
use Rattle.text.specs.declared.Place.{Place}
use Rattle.text.specs.declared.AtLine.{AtLine}
use Rattle.text.specs.Answers.{answer_of, counted, Checks}
use Rattle.text.specs.Laid.{lines_of, laid, clean, Lays}
use Rattle.text.proofs.Standing.{clean_stands}
use Rattle.text.proofs.Whole.{checked_joined}
use Rattle.values.specs.Doc.{lines_s, empty, document_s}
use Rattle.values.proofs.Carrying.{carries_none, carries_grows}
use Rattle.values.specs.declared.State.{State}
use Rattle.toml_lite.specs.Rooms.{whole_of, AfterLine, fault_after, Told, Begun, Cleared, Ready, Standing, Roomy, Empty, suffice, judged}
use Rattle.slices.proofs.Zeroing.{length_zeros}

-- ---- 3 and 4 after a refused line
module _ (s : List ℕ) (p : Place) (fault : AtLine) (c : Result ℕ AtLine) (k : Checks s p.at p.line c) where
  abbrev rest : Answer (List Line)
  rest = join closed p.line (lines_of (drop p.at s))

  pub fault_alone : (n : ℕ) → AfterLine s p fault.line → c ≡ Ok n → Told (length s) (fault_after s p (number fault.refused) fault.line) (Err fault)
  fault_alone n h e = go rest (ap answer_of (sym e) ∙ k.says)
    where
      go : (j : Answer (List Line)) → accepted n ≡ counted j → Told (length s) (accepted_then j (λ _. at_line (number fault.refused) fault.line)) (Err fault)
      go (accepted ls) q = record { says = refl; small = h.number; text = refl }
      go (refused f a w) q = let z : ◌≡◌ {A = ℕ} 0 1 = cc in absurd (omega arith)

  -- 3 or 4 at a later line
  pub fault_sooner : (u : AtLine) → c ≡ Err u → Told (length s) (fault_after s p (number fault.refused) fault.line) (Err u)
  fault_sooner u e = go rest (ap answer_of (sym e) ∙ k.says)
    where
      go : (j : Answer (List Line)) → at_line (number u.refused) u.line ≡ counted j
          → Told (length s) (accepted_then j (λ _. at_line (number fault.refused) fault.line)) (Err u)
      go (accepted ls) q = let z : ◌≡◌ {A = ℕ} 0 1 = cc in absurd (omega arith)
      go (refused f a w) q = record { says = cc; small = rw e at k.most; text = let z : in_text ≡ a = cc in sym z }

-- ---- a laid text t of s
pub lines_begun : (limits : Limits) (t store tree : List ℕ) → 32 * limits.values ≤ length tree → limits.values < 65000 → limits.segments ≤ 16
    → length t ≤ length store + 1 → length t < 65536 → Begun limits t store tree
lines_begun limits t store tree f v g r l =
    record {
      holding = record {
        grows = carries_grows limits.values tree [] 0 (carries_none tree) refl f v (omega arith);
        within = tt;
        fits = omega arith;
        segs = g;
      };
      room = r;
      low = l;
    }

pub lines_are : (limits : Limits) (s t : List ℕ) → t ≡ laid s → length s ≤ limits.text → true ≡ valid s → whole_of limits t ≡ document_s limits s
unfolding document_s
lines_are limits s t e l v =
    ap (whole_of limits) e ∙ ap (λ (j : Answer (List Line)). accepted_then j (λ ls. lines_s limits ls (empty limits))) (checked_joined s)
    ∙ rw (le-ltb limits.text (length s) l, ← v)

-- ---- 1, 2, then the lines
module _ (limits : Limits) (s scratch store tree : List ℕ) (h : Ready limits (length s) scratch store tree) where
  -- a refusal leaves the empty rooms
  refuses : (r : Refused) (v : AtLine) → v ≡ record { refused = r; line = 0 } → document_s limits s ≡ at_line (number r) 0 → Cleared store tree store tree (document_s limits s) (Err v)
  refuses r v q e = rw (e, q) (record { told = record { says = refl; small = omega arith; text = refl }; store_is = h.store_empty; tree_is = h.tree_empty; carried = tt })

  pub too_long : limits.text < length s → (v : AtLine) → v ≡ record { refused = TextTooLong; line = 0 } → Cleared store tree store tree (document_s limits s) (Err v)
  unfolding document_s
  too_long l w q = refuses TextTooLong w q (rw (lt-ltb limits.text (length s) l))

  pub lay_fits : length s ≤ limits.text → length s < length scratch
  lay_fits l = h.fits l

  module _ (l : length s ≤ limits.text) (v : Bool) (e : v ≡ valid s) where
    pub not_utf8 : v ≡ false → (a : AtLine) → a ≡ record { refused = NotUtf8; line = 0 } → Cleared store tree store tree (document_s limits s) (Err a)
    unfolding document_s
    not_utf8 f a q = refuses NotUtf8 a q (rw (le-ltb limits.text (length s) l, ← e, f))

    module _ (t : v ≡ true) (scratch' : List ℕ) (used : ℕ) (y : Lays s scratch scratch' used) where
      pub laid_count : used ≡ length (take used scratch')
      laid_count = sym (length-take-le used scratch' y.fits)

      laid_is : take used scratch' ≡ laid s
      laid_is = rw y.left (take_at (laid s) (drop (length (laid s)) scratch) used (sym y.used))

      pub laid_begun : Begun limits (take used scratch') store tree
      laid_begun =
          lines_begun limits (take used scratch') store tree h.tree_fits h.few h.segs
          (omega (arith, laid_count, y.most, h.store_fits)) (omega (arith, laid_count, y.most, h.low))

      pub laid_read : (store' tree' : List ℕ) (r : Result State AtLine) → Cleared store tree store' tree' (whole_of limits (take used scratch')) r → Cleared store tree store' tree' (document_s limits s) r
      laid_read store' tree' r c = rw (← (lines_are limits s (take used scratch') laid_is l (sym t ∙ e))) c

-- ---- 17 first
pub small_store : (n m : ℕ) → n < 32768 → leb 32768 n ≡ suffice n m
unfolding suffice
small_store n m h = rw (lt-ltb n 32768 h, lt-leb 32768 n h) refl

module _ (n m c : ℕ) (ec : c ≡ m / 32) (h : 32768 ≤ n) where
  small_tree : c < 2048 → leb 2048 c ≡ suffice n m
  unfolding suffice
  small_tree l = let k : m < 65536 = omega arith in rw (le-ltb n 32768 h, lt-ltb m 65536 k, lt-leb 2048 c l) refl

  both_large : 2048 ≤ c → leb 2048 c ≡ suffice n m
  unfolding suffice
  both_large l = let k : 65536 ≤ m = omega arith in rw (le-ltb n 32768 h, le-ltb m 65536 k, le-leb 2048 c l) refl

  pub large_store : leb 2048 c ≡ suffice n m
  large_store = on (leb 2048 c) (λ t. both_large (leb-true 2048 c t)) (λ f. small_tree (leb-false 2048 c f))

abbrev Large : ℕ → ℕ → Type 0
Large n m = (32768 ≤ n) × (65536 ≤ m)

pub suffices : (n m : ℕ) → suffice n m ≡ true → Large n m
unfolding suffice
suffices n m e =
    on (ltb n 32768) (λ p. absurd (else (rw p at e)))
    (λ p. on (ltb m 65536) (λ q. absurd (else (rw (p, q) at e))) (λ q. (ltb-false n 32768 p, ltb-false m 65536 q)))
  where
    else : false ≡ true → ⊥
    else f = let z : ◌≡◌ {A = ℕ} 0 1 = ap (λ (b : Bool). pick b 1 0) f in omega arith

module _ (s store tree : List ℕ) (b : Bool) (e : b ≡ suffice (length store) (length tree)) (h : Empty store tree) where
  pub too_small : b ≡ false → (v : AtLine) → v ≡ record { refused = RoomTooSmall; line = 0 } → Cleared store tree store tree (judged s (length store) (length tree)) (Err v)
  unfolding judged
  too_small f v q =
      let k : judged s (length store) (length tree) ≡ at_line 17 0 = rw (← e, f) in
      rw (k, q) (record { told = record { says = refl; small = omega arith; text = refl }; store_is = h.store_empty; tree_is = h.tree_empty; carried = tt })

  module _ (t : b ≡ true) where
    pub rooms_ready : Roomy store tree
    rooms_ready =
        let k : Large (length store) (length tree) = suffices (length store) (length tree) (sym e ∙ t) in
        record { store_fits = k.0; tree_fits = k.1; empty = h }

    pub text_read_lem : (store' tree' : List ℕ) (r : Result State AtLine) → Cleared store tree store' tree' (document_s of01 s) r
        → Cleared store tree store' tree' (judged s (length store) (length tree)) r
    unfolding judged
    text_read_lem store' tree' r c = rw (← e, t) c

-- ---- both rooms are emptied before
module _ (n m : ℕ) (store tree : List ℕ) (es : store ≡ zeros n) (et : tree ≡ zeros m) where
  long : (room : List ℕ) (k : ℕ) → room ≡ zeros k → length room ≡ k
  long room k e = ap length e ∙ length_zeros k

  pub emptied : Empty store tree
  emptied = record { store_empty = es ∙ ap zeros (sym (long store n es)); tree_empty = et ∙ ap zeros (sym (long tree m et)) }

  pub emptied_read : (s store' tree' : List ℕ) (r : Result State AtLine) → Cleared store tree store' tree' (judged s (length store) (length tree)) r
      → Cleared (zeros n) (zeros m) store' tree' (judged s n m) r
  emptied_read s store' tree' r c = rw (es, et, length_zeros n, length_zeros m) at c

-- ---- no scratch
module _ (s : List ℕ) (l : length s ≤ 32768) where
  pub stands_so : (r v : Bool) → r ≡ clean s → r ≡ true → v ≡ valid s → v ≡ true → Standing s
  stands_so r v e t w u = record { fits = l; well = sym u ∙ w; is = clean_stands s (sym e ∙ t) }

module _ (limits : Limits) (el : limits ≡ of01) (s store tree : List ℕ) (h : Roomy store tree) (k : Standing s) where
  pub standing_begun : Begun limits s store tree
  standing_begun =
      rw el
      (lines_begun of01 s store tree (omega (arith, h.tree_fits)) (omega arith) (omega arith)
      (omega (arith, k.fits, h.store_fits)) (omega (arith, k.fits)))

  pub standing_read : (store' tree' : List ℕ) (r : Result State AtLine) → Cleared store tree store' tree' (whole_of limits s) r → Cleared store tree store' tree' (document_s of01 s) r
  standing_read store' tree' r c = rw (el, lines_are of01 s s (sym k.is) k.fits k.well) at c

-- ---- the scratch
module _ (limits : Limits) (el : limits ≡ of01) (store tree : List ℕ) (h : Roomy store tree) where
  scratch_ready : (scratch : List ℕ) (n : ℕ) → (n ≤ 32768 → n < length scratch) → Ready limits n scratch store tree
  scratch_ready scratch n z =
      rw el
      (record {
        fits = z;
        store_fits = omega (arith, h.store_fits);
        tree_fits = omega (arith, h.tree_fits);
        few = omega arith;
        segs = omega arith;
        low = omega arith;
        store_empty = h.empty.store_empty;
        tree_empty = h.empty.tree_empty;
      })

  pub long_ready : (scratch : List ℕ) (n : ℕ) → 32769 ≤ length scratch → Ready limits n scratch store tree
  long_ready scratch n z = scratch_ready scratch n (λ l. omega arith)

  pub short_ready : (scratch : List ℕ) (n : ℕ) → 4096 ≤ length scratch → n < 4096 → Ready limits n scratch store tree
  short_ready scratch n z l = scratch_ready scratch n (λ k. omega arith)

  pub limits_01 : (s store' tree' : List ℕ) (r : Result State AtLine) → Cleared store tree store' tree' (document_s limits s) r → Cleared store tree store' tree' (document_s of01 s) r
  limits_01 s store' tree' r c = rw (← el) c
