-- The exports of keys: one law for each way out.
use Prim.Native.Nat.{ℕ, zero, suc, ◌-◌, ◌≤◌, ◌<◌}
use mathlib.Core.Bool.{false}
use mathlib.Core.List.{List, [], ◌∷◌, ◌++◌}
use mathlib.Core.Path.{◌≡◌, refl, sym, ap, ◌∙◌}
use native.Mathlib.Omega.{arith}
use native.Mathlib.Nat.{zero-add}
use borrow.Author.Tests.{lt-ltb, le-ltb, ltb-true, ltb-false}
use lib.Dec.{ltb}
use lib.ListN.{length, get_or, get_or-append, get_or-eq_default}
use Rattle.meaning.specs.Base.{zeros}
use Rattle.std.specs.Prelude.{Result, Ok, Err}
use Rattle.meaning.specs.Numbered.{number}
use Rattle.meaning.specs.Refusal.{bad}
use Rattle.meaning.specs.Keys.{keys}
use Rattle.scalar.specs.declared.key.Key.{Key}
use Rattle.scalar.specs.declared.key.BadKey.{BadKey}
use Rattle.laws.specs.Stored.{stored}
use Rattle.scalar.specs.Splits.{flat, ends_of, takes, Splits, Asked}
use Rattle.laws.specs.Cases.{on}
use Rattle.scalar.proofs.Splitting.{ends_size}
use Rattle.scalar.proofs.Keying as keying
use Rattle.scalar.proofs.Keying.{Accepted, accepted, key_few}
use Rattle.host.specs.declared.single_values.Segments.{Segments}
use Rattle.host.specs.Values.{Split, Ends}
use Rattle.slices.proofs.Zeroing.{length_zeros}

zeros_at : (n i : ℕ) → get_or (zeros n) i 0 ≡ 0
zeros_at zero i = refl
zeros_at (suc n) zero = refl
zeros_at (suc n) (suc i) = zeros_at n i

-- after a list there are only zeros
past : (l : List ℕ) (n i : ℕ) → length l ≤ i → get_or (l ++ zeros n) i 0 ≡ get_or l i 0
past [] n i h = zeros_at n i
past (b ∷ l) n zero h = refl
past (b ∷ l) n (suc i) h = past l n i (omega arith)

module _ (s room z : List ℕ) (ez : z ≡ zeros (length room)) where
  long : length z ≡ length room
  long = ap length ez ∙ length_zeros (length room)

  pub key_short : (r : Segments) → length z < length s → r ≡ record { number = 17; count = 0; used = 0 } → Split s room z r
  key_short r h e =
      let k : length room < length s = omega (arith, long) in
      record { says = e ∙ rw (lt-ltb (length room) (length s) k); left = rw (lt-ltb (length room) (length s) k) ez }

  pub end_short : (i : ℕ) → length z < length s → Ends s room z i 0
  end_short i h =
      let k : length room < length s = omega (arith, long) in
      record { says = rw (lt-ltb (length room) (length s) k); left = ez }

  module _ (h : length s ≤ length z) where
    wide : ltb (length room) (length s) ≡ false
    wide = le-ltb (length room) (length s) (omega (arith, long))

    pub asks : Asked 16 s z 0
    asks = record { top = omega arith; room = omega (arith, h) }

    module _ (store : List ℕ) (o : Result Key BadKey) (t : Splits 16 s z 0 store o) where
      fine_keys : (k : Key) → o ≡ Ok k → Accepted 16 s z 0 store (takes 16 s).segs k
      fine_keys k e = accepted 16 s z 0 store o t k e

      bad_keys : (b : BadKey) → o ≡ Err b → keys 16 s ≡ bad (number b.refused)
      bad_keys b e = keying.key_refused 16 s z 0 store o t b e

      pub key_out : (k : Key) → o ≡ Ok k → Split s room store (record { number = 0; count = k.n; used = k.used })
      unfolding stored
      key_out k e =
          let a : Accepted 16 s z 0 store (takes 16 s).segs k = fine_keys k e in
          record {
            says = rw (wide, a.is, a.count, a.reach, zero-add (length (flat (takes 16 s).segs)));
            left = rw (wide, a.is) (a.left ∙ rw (ez, zero-add (length (flat (takes 16 s).segs))));
          }

      module _ (y : List ℕ) (ey : y ≡ zeros (length store)) (le : length store ≡ length z) where
        empty : y ≡ zeros (length room)
        empty = ey ∙ ap zeros (le ∙ long)

        pub key_refused : (b : BadKey) (n : ℕ) (r : Segments) → o ≡ Err b → n ≡ number b.refused → r ≡ record { number = n; count = 0; used = 0 } → Split s room y r
        key_refused b n r e m f = record { says = f ∙ rw (m, wide, bad_keys b e); left = rw (wide, bad_keys b e) empty }

        ends_is : (k : Key) → o ≡ Ok k → (i : ℕ) → i < 16 → get_or k.ends i 0 ≡ get_or (ends_of 0 (takes 16 s).segs) i 0
        ends_is k e i h =
            ap (λ (l : List ℕ). get_or l i 0) (fine_keys k e).places
            ∙ on (ltb i (length (ends_of 0 (takes 16 s).segs)))
            (λ p. get_or-append (ends_of 0 (takes 16 s).segs) (zeros (16 - length (takes 16 s).segs)) 0 i (ltb-true i (length (ends_of 0 (takes 16 s).segs)) p))
            (λ p. past (ends_of 0 (takes 16 s).segs) (16 - length (takes 16 s).segs) i (ltb-false i (length (ends_of 0 (takes 16 s).segs)) p))

        pub end_past : (k : Key) (i : ℕ) → o ≡ Ok k → 16 ≤ i → Ends s room y i 0
        end_past k i e l =
            let a : Accepted 16 s z 0 store (takes 16 s).segs k = fine_keys k e in
            let m : length (ends_of 0 (takes 16 s).segs) ≤ i = rw (ends_size 0 (takes 16 s).segs) (omega (arith, (key_few 16 s z 0 store o t k e).0, a.count)) in
            record { says = rw (wide, a.is) (sym (get_or-eq_default (ends_of 0 (takes 16 s).segs) 0 m)); left = empty }

        pub end_out : (k : Key) (i : ℕ) → o ≡ Ok k → i < 16 → Ends s room y i (get_or k.ends i 0)
        end_out k i e l = record { says = rw (wide, (fine_keys k e).is) (ends_is k e i l); left = empty }

        pub end_refused : (b : BadKey) (i : ℕ) → o ≡ Err b → Ends s room y i 0
        end_refused b i e = record { says = rw (wide, bad_keys b e); left = empty }
