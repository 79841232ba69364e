-- The exports of the layer of values: one law for each way out.
use Prim.Native.Nat.{ℕ, ◌/◌, ◌≤◌, ◌<◌}
use mathlib.Core.Bool.{false}
use mathlib.Core.List.{List}
use mathlib.Core.Path.{◌≡◌, refl, sym, ap, ◌∙◌}
use native.Mathlib.Omega.{arith}
use borrow.Author.Tests.{lt-ltb, le-ltb}
use lib.Dec.{ltb}
use lib.ListN.{length}
use Rattle.std.specs.Prelude.{Result, Ok, Err}
use Rattle.meaning.specs.Refusal.{ok}
use Rattle.meaning.specs.Numbered.{number}
use Rattle.meaning.specs.declared.Refused.{Refused}
use Rattle.meaning.specs.declared.Refused.TheVariants.{BadEscape, UnendedString}
use Rattle.meaning.specs.Base.{zeros}
use Rattle.meaning.specs.declared.Signed.{Signed}
use Rattle.meaning.specs.Rooms.{room_after}
use Rattle.meaning.specs.Integers.{signed}
use Rattle.meaning.specs.declared.StringByte.TheVariants.{Plain}
use Rattle.meaning.specs.Strings.{Ending, closed, escape, unended, decode}
use Rattle.scalar.specs.Ints.{int_of, int_read, int_wrong}
use Rattle.scalar.specs.declared.string.Decoded.{Decoded}
use Rattle.scalar.specs.declared.string.BadString.{BadString}
use Rattle.scalar.specs.Decodes.{answer, Decodes}
use Rattle.tree.specs.declared.Slot.{Slot}
use Rattle.tree.specs.Room.{slot_at}
use Rattle.host.specs.declared.single_values.Spelling.{Spelling}
use Rattle.host.specs.Values.{unplaced, number_of, spelling_by, ended_as, Spelled, value_of, slot_of}
use Rattle.slices.proofs.Zeroing.{length_zeros}

module _ (s : List ℕ) (r : Result Signed Refused) (e : int_of r ≡ signed s) where
  pub int_told : (x : Signed) → r ≡ Ok x → number_of (ok x) ≡ number_of (signed s)
  int_told x f = ap number_of (sym (int_read r s e x f))

  pub int_refused : (w : Refused) (n : ℕ) → r ≡ Err w → n ≡ number w → record { number = n; negative = false; magnitude = 0 } ≡ number_of (signed s)
  int_refused w n f q = rw (q, int_wrong r s e w f)

-- ---- preset_value_string: z is the room once it is zero
module _ (s room z : List ℕ) (ez : z ≡ zeros (length room)) where
  long : length z ≡ length room
  long = ap length ez ∙ length_zeros (length room)

  pub too_short : (r : Spelling) → length z < length s → r ≡ record { number = 17; used = 0; written = 0; at = 0 } → Spelled s room z r
  too_short r h e =
      let k : length room < length s = omega (arith, long) in
      record { says = e ∙ rw (lt-ltb (length room) (length s) k); left = rw (lt-ltb (length room) (length s) k) ez }

  module _ (h : length s ≤ length z) (out : List ℕ) (d : Result Decoded BadString) (k : Decodes s z out d) where
    wide : ltb (length room) (length s) ≡ false
    wide = le-ltb (length room) (length s) (omega (arith, long))

    -- by how the string ends
    spelt : (v : Ending) (r : Spelling) (y : List ℕ) → (decode Plain s).how ≡ v
        → r ≡ spelling_by v (decode Plain s).bytes (decode Plain s).span → y ≡ room_after (λ (bs : List ℕ). bs) (length room) (unplaced (ended_as v (decode Plain s).bytes)) → Spelled s room y r
    spelt v r y e f g = record { says = f ∙ rw (wide, e); left = g ∙ rw (wide, e) }

    pub string_out_lem : (o : Decoded) → d ≡ Ok o → Spelled s room out (record { number = 0; used = o.used; written = o.written; at = 0 })
    string_out_lem o e = go (decode Plain s).how refl (sym e ∙ k.says)
      where
        go : (v : Ending) → (decode Plain s).how ≡ v → Ok o ≡ answer (decode Plain s).how (decode Plain s).span (length (decode Plain s).bytes)
            → Spelled s room out (record { number = 0; used = o.used; written = o.written; at = 0 })
        go closed q f =
            let g : Ok o ≡ answer closed (decode Plain s).span (length (decode Plain s).bytes) = rw q at f in
            let a : o.used ≡ (decode Plain s).span = cc in
            let b : o.written ≡ length (decode Plain s).bytes = cc in
            spelt closed _ out q (rw (a, b)) (rw ez at k.left)
        go escape q f = let g : Ok o ≡ answer escape (decode Plain s).span (length (decode Plain s).bytes) = rw q at f in cc
        go unended q f = let g : Ok o ≡ answer unended (decode Plain s).span (length (decode Plain s).bytes) = rw q at f in cc

    module _ (y : List ℕ) (ey : y ≡ zeros (length out)) (le : length out ≡ length z) (r : Spelling) where
      empty : y ≡ zeros (length room)
      empty = ey ∙ ap zeros (le ∙ long)

      pub string_refused : (b : BadString) (n : ℕ) → d ≡ Err b → n ≡ number b.refused → r ≡ record { number = n; used = 0; written = 0; at = b.at } → Spelled s room y r
      string_refused b n e m f = go (decode Plain s).how refl (sym e ∙ k.says)
        where
          go : (v : Ending) → (decode Plain s).how ≡ v → Err b ≡ answer (decode Plain s).how (decode Plain s).span (length (decode Plain s).bytes) → Spelled s room y r
          go closed q g = let i : Err b ≡ answer closed (decode Plain s).span (length (decode Plain s).bytes) = rw q at g in cc
          go escape q g =
              let i : Err b ≡ answer escape (decode Plain s).span (length (decode Plain s).bytes) = rw q at g in
              let x : b.refused ≡ BadEscape = cc in
              let a : b.at ≡ (decode Plain s).span = cc in
              spelt escape r y q (f ∙ rw (m, x, a)) empty
          go unended q g =
              let i : Err b ≡ answer unended (decode Plain s).span (length (decode Plain s).bytes) = rw q at g in
              let x : b.refused ≡ UnendedString = cc in
              let a : b.at ≡ 0 = cc in
              spelt unended r y q (f ∙ rw (m, x, a)) empty

-- ---- preset_tree_slot
module _ (room : List ℕ) (n takes : ℕ) (q : takes ≡ length room / 32) where
  pub slot_there : (v : Slot) → n < takes → v ≡ slot_at room n → value_of v ≡ slot_of room n
  slot_there v h e = rw (← q, lt-ltb n takes h, e)

  pub slot_none : takes ≤ n → value_of (record { kind = 0; parent = 0; key = 0; len = 0; «data» = 0 }) ≡ slot_of room n
  slot_none h = rw (← q, le-ltb n takes h)
