-- A string after its opening quote: one law for each way out.
use Prim.Native.Nat.{ℕ, ◌+◌, ◌*◌, ◌-◌, ◌≤◌, ◌<◌}
use mathlib.Core.Bool.{Bool, true, false}
use mathlib.Core.List.{List, [], ◌∷◌, append-nil}
use mathlib.Core.Path.{◌≡◌, refl, sym, ap, subst, ◌∙◌}
use native.Mathlib.Omega.{arith}
use native.Mathlib.Nat.{add-zero}
use mir.Syntax.{w64}
use mir.Val.{Fits}
use lib.Dec.{leb}
use lib.ListN.{length, take, drop}
use Rattle.std.specs.Prelude.{Result, Ok, Err}
use Rattle.meaning.specs.declared.Refused.{Refused}
use Rattle.meaning.specs.declared.Refused.TheVariants.{BadEscape, UnendedString, AfterString}
use Rattle.meaning.specs.Numbered.{number}
use Rattle.meaning.specs.Base.{pick}
use Rattle.meaning.specs.Space.{blank}
use Rattle.meaning.specs.declared.StringByte.TheVariants.{Plain}
use Rattle.meaning.specs.Refusal.{R, ok}
use Rattle.meaning.specs.Strings.{Ending, closed, escape, unended, decode}
use Rattle.laws.specs.Parts.{rest_of}
use Rattle.laws.specs.Stored.{stored_nil}
use Rattle.scalar.specs.declared.string.Decoded.{Decoded}
use Rattle.scalar.specs.declared.string.BadString.{BadString}
use Rattle.scalar.specs.Decodes.{answer, Closed, Puts}
use Rattle.scalar.proofs.Speaking.{Speaks, string_closed, string_refused, closed_within, refused_within}
use Rattle.tree.specs.declared.Slot.{Slot}
use Rattle.values.specs.declared.State.{State}
use Rattle.values.specs.declared.Stopped.{Stopped}
use Rattle.values.specs.Out.{fine, wrong, join, moved, Ready, Filled, Made}
use Rattle.values.specs.Fill.{string_slot, makes, string_by, string_out}
use Rattle.values.proofs.Outs.{Left, left_made, then_left, filled_of, stop, replies_join}

module _ (limit parent : ℕ) (s store tree : List ℕ) (st : State) (ready : Ready limit s store tree st) (store' : List ℕ) (d : Result Decoded BadString) (puts : Puts s store st.used store' d) where
  abbrev said : List ℕ
  said = (decode Plain s).bytes

  -- the bytes alone
  laid : (f w : ℕ) → length said ≡ w → w ≤ length s → Left limit (length s) store tree store' tree st (record { fault = f; bytes = said; slots = [] })
  laid f w e l = record {
    short = omega (arith, e);
    most = omega (arith, ready.made);
    store_is = puts.left;
    tree_is = sym (stored_nil tree (32 * st.made));
  }

  there : (w : ℕ) → length said ≡ w → ◌≡◌ {A = State} (record { used = st.used + w; made = st.made }) (moved st (fine said []))
  there w e = rw (e, add-zero st.made)

  stops : (f : Refused) (w : ℕ) → length said ≡ w → w ≤ length s
      → Filled limit s store tree store' tree st (wrong (number f) said) (stop f (record { used = st.used + w; made = st.made }))
  stops f w e l = filled_of (laid (number f) w e l) (omega arith) (record { fault = refl; there = there w e })

  refused_by : (e : Ending) (k m : ℕ) (b : BadString) → answer e k m ≡ Err b → string_by limit parent st.used st.made s e said k ≡ wrong (number b.refused) said
  refused_by closed k m b q = cc
  refused_by escape k m b q = let z : BadEscape ≡ b.refused = cc in rw (← z)
  refused_by unended k m b q = let z : UnendedString ≡ b.refused = cc in rw (← z)

  module _ (b : BadString) (q : d ≡ Err b) where
    refused_size : length said ≡ b.written
    refused_size = let x : R ℕ = ok 0 in (string_refused s store store' st.used d puts x b q).1

    refused_most : b.written ≤ length s
    refused_most = (refused_within s store store' st.used d puts b q).most

    pub refused_fits : Fits w64 (length store) → Fits w64 (st.used + b.written)
    refused_fits f = record { fits = omega (arith, f.fits, ready.room, refused_most) }

    pub string_fault : Filled limit s store tree store' tree st (string_out limit parent st.used st.made s) (stop b.refused (record { used = st.used + b.written; made = st.made }))
    unfolding string_out
    string_fault =
        rw (refused_by (decode Plain s).how (decode Plain s).span (length said) b (sym puts.says ∙ q))
        (stops b.refused b.written refused_size refused_most)

  module _ (o : Decoded) (q : d ≡ Ok o) where
    abbrev u : ℕ
    u = o.used

    abbrev w : ℕ
    w = o.written

    speaks : Speaks s closed u w
    speaks = string_closed s store store' st.used d puts o q

    within : Closed (length s) o
    within = closed_within s store store' st.used d puts o q

    pub done_fits : Fits w64 (length store) → Fits w64 (st.used + w)
    done_fits f = record { fits = omega (arith, f.fits, ready.room, within.less, within.fits) }

    pub done_high : u ≤ length s
    done_high = within.fits

    pub done_low : st.used + w < 65536
    done_low = omega (arith, ready.low, within.less, within.fits)

    pub string_10 : (b : Bool) → b ≡ blank (take (length s - u) (drop u s)) → b ≡ false
        → Filled limit s store tree store' tree st (string_out limit parent st.used st.made s) (stop AfterString (record { used = st.used + w; made = st.made }))
    unfolding string_out
    string_10 b e n =
        let t : b ≡ blank (drop u s) = rw (rest_of s u) at e in
        rw (speaks.how, speaks.span, ← t, n) (stops AfterString w speaks.size (omega (arith, within.less, within.fits)))

    both : (b : Bool) (v : Slot) → pick b (wrong 16 said) (fine said (v ∷ [])) ≡ join (fine said []) (pick b (wrong 16 []) (fine [] (v ∷ [])))
    both true v = rw (append-nil said)
    both false v = rw (append-nil said)

    pub string_made : (b : Bool) (v : Slot) (tree' : List ℕ) (r : Result State Stopped) → b ≡ blank (take (length s - u) (drop u s)) → b ≡ true → v ≡ string_slot parent st.used w
        → Made limit tree tree' (record { used = st.used + w; made = st.made }) (makes limit st.made v) r
        → Filled limit s store tree store' tree' st (string_out limit parent st.used st.made s) r
    unfolding string_out makes
    string_made b v tree' r e y ev k =
        let t : b ≡ blank (drop u s) = rw (rest_of s u) at e in
        let z : v ≡ string_slot parent st.used (length said) = ev ∙ ap (string_slot parent st.used) (sym speaks.size) in
        let g : Made limit tree tree' (moved st (fine said [])) (makes limit st.made v) r =
        subst (λ (x : State). Made limit tree tree' x (makes limit st.made v) r) (there w speaks.size) k in
        let f : Left limit (length s + 0) store tree store' tree' st (join (fine said []) (makes limit st.made v)) =
        then_left (laid 0 w speaks.size (omega (arith, within.less, within.fits))) (left_made g) (omega (arith, ready.room)) ready.slots in
        rw (speaks.how, speaks.span, ← t, y, ← z, both (leb limit st.made) v)
        (filled_of f (omega arith) (replies_join st (fine said []) (makes limit st.made v) r g.says))
