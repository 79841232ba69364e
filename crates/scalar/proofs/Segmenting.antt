-- One segment of a key: one law for each way out.
use Prim.Native.Nat.{ℕ, ◌-◌, ◌≤◌}
use mathlib.Core.Bool.{true, false}
use mathlib.Core.List.{List, [], ◌∷◌, ◌++◌}
use mathlib.Core.Path.{◌≡◌, refl, sym, ap, ◌∙◌}
use native.Mathlib.Omega.{arith}
use borrow.Author.Tests.{eq-eqb, eqb-true, eqb-false, ne_eqb}
use lib.Dec.{eqb}
use lib.ListN.{length, get_or, take, drop, length-drop}
use lib.Seq.{drop-drop, length-take-le}
use Rattle.std.specs.Prelude.{Result, Ok, Err}
use Rattle.meaning.specs.Base.{pick, nil?, final}
use Rattle.meaning.specs.Refusal.{ok, bad}
use Rattle.meaning.specs.Space.{trim}
use Rattle.meaning.specs.declared.StringByte.TheVariants.{Plain}
use Rattle.meaning.specs.declared.Refused.TheVariants.{MalformedKey}
use Rattle.meaning.specs.Strings.{closed, decode}
use Rattle.meaning.specs.Keys.{nonempty, quoted, segment}
use Rattle.laws.specs.Cases.{on}
use Rattle.laws.specs.Parts.{rest_of, back_of}
use Rattle.laws.specs.Stored.{stored_nil}
use Rattle.chars.specs.Trimmed.{Trimmed}
use Rattle.chars.specs.declared.Span.{Span}
use Rattle.scalar.specs.declared.string.Decoded.{Decoded}
use Rattle.scalar.specs.declared.string.BadString.{BadString}
use Rattle.scalar.specs.declared.key.BadSegment.{BadSegment}
use Rattle.scalar.specs.Stores.{stored, Room}
use Rattle.scalar.specs.Decodes.{Closed, Puts}
use Rattle.scalar.proofs.Speaking.{Speaks, string_closed, string_refused, closed_within, refused_within}
use Rattle.scalar.specs.Segments.{laid, Segmented}

-- ---- laid as it is
pub copied : (p store ys : List ℕ) (a : ℕ) → ys ≡ p ++ drop (length p) (take (length store - a) (drop a store))
    → take a store ++ (ys ++ drop (length store - a) (drop a store)) ≡ stored store a p
unfolding stored
copied p store ys a e = back_of store ys a ∙ ap (λ (l : List ℕ). take a store ++ l) (e ∙ rw (rest_of store a, drop-drop))

pub room_copied : (p store : List ℕ) (a : ℕ) → Room p store a → length p ≤ length (take (length store - a) (drop a store))
room_copied p store a h = rw (rest_of store a) (omega (arith, length-drop a store))

module _ (p store : List ℕ) (a : ℕ) where
  pub bare_empty : eqb (length p) 0 ≡ true → Segmented p (nonempty p) p store a store (Err (record { refused = MalformedKey; written = 0 }))
  unfolding nonempty
  bare_empty h = go p (eqb-true (length p) 0 h)
    where
      go : (p : List ℕ) → length p ≡ 0 → Segmented p (nonempty p) p store a store (Err (record { refused = MalformedKey; written = 0 }))
      go [] h = record { says = refl; wrote = refl; fits = omega arith; left = sym (stored_nil store a) }
      go (b ∷ p) h = absurd (omega arith)

  pub bare_fine : (store' : List ℕ) → eqb (length p) 0 ≡ false → store' ≡ stored store a p → Segmented p (nonempty p) p store a store' (Ok (length p))
  unfolding nonempty
  bare_fine store' h e = record { says = go p (eqb-false (length p) 0 h); wrote = refl; fits = omega arith; left = e }
    where
      go : (p : List ℕ) → (length p ≡ 0 → ⊥) → ok p ≡ nonempty p
      go [] h = absurd (h refl)
      go (b ∷ p) h = refl

-- ---- decoded
module _ (p store store' : List ℕ) (a : ℕ) (d : Result Decoded BadString) (h : Puts p store a store' d) where
  pub quoted_refused : (b : BadString) → d ≡ Err b
      → Segmented p (quoted p) (decode Plain p).bytes store a store' (Err (record { refused = b.refused; written = b.written }))
  unfolding quoted
  quoted_refused b q =
      let c = string_refused p store store' a d h (pick (eqb (final p) 34) (nonempty (decode Plain p).bytes) (bad 7)) b q in
      record { says = sym c.0; wrote = sym c.1; fits = (refused_within p store store' a d h b q).most; left = h.left }

  module _ (c : Decoded) (q : d ≡ Ok c) where
    said : Speaks p closed c.used c.written
    said = string_closed p store store' a d h c q

    size : c.written ≤ length p
    size = let k : Closed (length p) c = closed_within p store store' a d h c q in omega (arith, k.fits, k.less)

    pub quoted_fine : final p ≡ 34 → (c.written ≡ 0 → ⊥) → Segmented p (quoted p) (decode Plain p).bytes store a store' (Ok c.written)
    unfolding quoted nonempty
    quoted_fine e n = record {
      says = rw (said.how, eq-eqb (final p) 34 e) (go (decode Plain p).bytes (λ z. n (sym said.size ∙ z)));
      wrote = sym said.size;
      fits = size;
      left = h.left;
    }
      where
        go : (b : List ℕ) → (length b ≡ 0 → ⊥) → ok b ≡ pick (nil? b) (bad 7) (ok b)
        go [] n = absurd (n refl)
        go (x ∷ b) n = refl

    pub quoted_malformed : (1 ≤ length p → final p ≡ 34 → c.written ≡ 0)
        → Segmented p (quoted p) (decode Plain p).bytes store a store' (Err (record { refused = MalformedKey; written = c.written }))
    unfolding quoted nonempty
    quoted_malformed n = record {
      says =
          rw said.how
          (on (eqb (final p) 34)
          (λ t. rw t (go (decode Plain p).bytes (said.size ∙ n (some p (eqb-true (final p) 34 t)) (eqb-true (final p) 34 t))))
          (λ t. rw t));
      wrote = sym said.size;
      fits = size;
      left = h.left;
    }
      where
        some : (p : List ℕ) → final p ≡ 34 → 1 ≤ length p
        some [] e = absurd (omega arith)
        some (x ∷ p) e = omega arith

        go : (b : List ℕ) → length b ≡ 0 → bad 7 ≡ pick (nil? b) (bad 7) (ok b)
        go [] n = refl
        go (x ∷ b) n = absurd (omega arith)

-- ---- trimmed: by its first byte
module _ (p store : List ℕ) (a : ℕ) where
  pub quoted_room : 1 ≤ length p → Room p store a → Room (take (length p - 1) (drop 1 p)) store a
  quoted_room l h = record { room = rw (rest_of p 1) (omega (arith, h.room, length-drop 1 p)) }

  module _ (store' : List ℕ) (r : Result ℕ BadSegment) where
    pub trimmed_quoted : get_or p 0 0 ≡ 34
        → Segmented (take (length p - 1) (drop 1 p)) (quoted (take (length p - 1) (drop 1 p))) (decode Plain (take (length p - 1) (drop 1 p))).bytes store a store' r
        → Segmented p (segment p) (laid p) store a store' r
    unfolding segment laid
    trimmed_quoted q h =
        let k : Segmented (drop 1 p) (quoted (drop 1 p)) (decode Plain (drop 1 p)).bytes store a store' r = rw (rest_of p 1) at h in
        let t : eqb (get_or p 0 0) 34 ≡ true = eq-eqb (get_or p 0 0) 34 q in
        record {
          says = rw t k.says;
          wrote = rw t k.wrote;
          fits = omega (arith, k.fits, length-drop 1 p);
          left = rw t k.left;
        }

    pub trimmed_bare : (1 ≤ length p → get_or p 0 0 ≡ 34 → ⊥) → Segmented p (nonempty p) p store a store' r → Segmented p (segment p) (laid p) store a store' r
    unfolding segment laid
    trimmed_bare q k =
        let t : eqb (get_or p 0 0) 34 ≡ false = ne_eqb (get_or p 0 0) 34 (go p q) in
        record { says = rw t k.says; wrote = rw t k.wrote; fits = k.fits; left = rw t k.left }
      where
        go : (p : List ℕ) → (1 ≤ length p → get_or p 0 0 ≡ 34 → ⊥) → get_or p 0 0 ≡ 34 → ⊥
        go [] q e = omega arith
        go (b ∷ p) q e = q (omega arith) e

-- ---- a part between dots
module _ (s store : List ℕ) (a : ℕ) (t : Span) (h : Trimmed s t) where
  shorter : length (take (t.end - t.from) (drop t.from s)) ≤ length s
  shorter = omega (arith, length-take-le (t.end - t.from) (drop t.from s) (omega (arith, length-drop t.from s, h.high)), h.high)

  pub trimmed_room : Room s store a → Room (take (t.end - t.from) (drop t.from s)) store a
  trimmed_room r = record { room = omega (arith, r.room, shorter) }

  pub trimmed_part : (store' : List ℕ) (r : Result ℕ BadSegment)
      → Segmented (take (t.end - t.from) (drop t.from s)) (segment (take (t.end - t.from) (drop t.from s))) (laid (take (t.end - t.from) (drop t.from s))) store a store' r
      → Segmented s (segment (trim s)) (laid (trim s)) store a store' r
  trimmed_part store' r k = record {
    says = rw (← h.is) k.says;
    wrote = rw (← h.is) k.wrote;
    fits = omega (arith, k.fits, shorter);
    left = rw (← h.is) k.left;
  }
