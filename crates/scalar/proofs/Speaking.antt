-- What callers cite of strings: what each answer says of 01's string.
use Prim.Native.Nat.{ℕ}
use mathlib.Core.List.{List}
use mathlib.Core.Path.{◌≡◌, refl, sym, ◌∙◌}
use lib.ListN.{length}
use Rattle.std.specs.Prelude.{Result, Ok, Err}
use Rattle.meaning.specs.declared.Refused.TheVariants.{BadEscape, UnendedString}
use Rattle.meaning.specs.declared.StringByte.TheVariants.{Plain}
use Rattle.meaning.specs.Numbered.{number}
use Rattle.meaning.specs.Refusal.{R, bad}
use Rattle.meaning.specs.Strings.{Ending, closed, escape, unended, if_ended, decode}
use Rattle.scalar.specs.declared.string.Decoded.{Decoded}
use Rattle.scalar.specs.declared.string.BadString.{BadString}
use Rattle.scalar.specs.Decodes.{answer, Closed, Stuck, Puts}

-- the string ends so, after so many bytes of text, and says w bytes
pub record Speaks (src : List ℕ) (e : Ending) (k w : ℕ) : Type 0 where
  pub how : (decode Plain src).how ≡ e
  pub span : (decode Plain src).span ≡ k
  pub size : length (decode Plain src).bytes ≡ w

closed_of : (e : Ending) (k m : ℕ) (d : Decoded) → answer e k m ≡ Ok d → (e ≡ closed) × (k ≡ d.used) × (m ≡ d.written)
closed_of closed k m d q = (refl, cc, cc)
closed_of escape k m d q = (cc, cc, cc)
closed_of unended k m d q = (cc, cc, cc)

-- a string that is not ended, or no escape, is refused whatever follows
refused_of : {X : Type 0} (e : Ending) (k m : ℕ) (x : R X) (b : BadString) → answer e k m ≡ Err b → (if_ended e x ≡ bad (number b.refused)) × (m ≡ b.written)
refused_of closed k m x b q = (cc, cc)
refused_of escape k m x b q = let z : BadEscape ≡ b.refused = cc in (rw (← z), cc)
refused_of unended k m x b q = let z : UnendedString ≡ b.refused = cc in (rw (← z), cc)

module _ (src store store' : List ℕ) (at : ℕ) (r : Result Decoded BadString) (h : Puts src store at store' r) where
  pub string_closed : (d : Decoded) → r ≡ Ok d → Speaks src closed d.used d.written
  string_closed d q =
      let c : ((decode Plain src).how ≡ closed) × ((decode Plain src).span ≡ d.used) × (length (decode Plain src).bytes ≡ d.written) =
      closed_of (decode Plain src).how (decode Plain src).span (length (decode Plain src).bytes) d (sym h.says ∙ q) in
      record { how = c.0; span = c.1; size = c.2 }

  pub string_refused : {X : Type 0} (x : R X) (b : BadString) → r ≡ Err b
      → (if_ended (decode Plain src).how x ≡ bad (number b.refused)) × (length (decode Plain src).bytes ≡ b.written)
  string_refused x b q = refused_of (decode Plain src).how (decode Plain src).span (length (decode Plain src).bytes) x b (sym h.says ∙ q)

  -- how far it goes
  pub closed_within : (d : Decoded) → r ≡ Ok d → Closed (length src) d
  closed_within d q = rw q at h.within

  pub refused_within : (b : BadString) → r ≡ Err b → Stuck (length src) b
  refused_within b q = rw q at h.within
