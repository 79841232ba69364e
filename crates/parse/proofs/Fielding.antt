-- One field of a table: one law for each way out.
use Prim.Native.Nat.{ℕ, ◌≤◌, ◌<◌}
use mathlib.Core.Bool.{Bool, true, false}
use mathlib.Core.List.{List, [], ◌∷◌}
use mathlib.Core.Path.{◌≡◌, refl, sym, ap, ◌∙◌}
use borrow.Author.Tests.{le-leb, lt-leb}
use Rattle.tree.specs.declared.Value.{Value}
use Rattle.tree.specs.declared.Fields.{Fields}
use Rattle.laws.specs.Variants.{Left, others}
use Rattle.tree.specs.Doors.{field}
use Rattle.tree.specs.contracts.Value.{enum}
use Rattle.std.specs.Prelude.{Some}
use Rattle.parse.specs.declared.field.TextRead.{TextRead}
use Rattle.parse.specs.declared.field.NumberRead.{NumberRead}
use Rattle.parse.specs.declared.field.FlagRead.{FlagRead}
use Rattle.parse.specs.Fields.{first_fault, missing, no_text, no_flag, text_read, number_read, flag_read, no_number, ranged, text_at, number_at, flag_at, text_needed, number_needed}

-- ---- an integer's range
module _ (negative : Bool) (magnitude : ℕ) where
  pub range_below : (r : NumberRead) → negative ≡ true → r ≡ no_number 21 → r ≡ ranged negative magnitude
  unfolding ranged
  range_below r e h = rw e h

  module _ (e : negative ≡ false) where
    pub range_above : (r : NumberRead) → 4294967295 < magnitude → r ≡ no_number 21 → r ≡ ranged negative magnitude
    unfolding ranged
    range_above r l h = rw (e, lt-leb magnitude 4294967295 l) h

    pub range_in : magnitude ≤ 4294967295 → record { fault = 0; number = Some magnitude } ≡ ranged negative magnitude
    unfolding ranged
    range_in l = rw (e, le-leb magnitude 4294967295 l)

-- ---- what a value v is, told as w
module _ (v w : Value) (e : v ≡ w) where
  pub text_is_lem : (r : TextRead) → r ≡ text_read w → r ≡ text_read v
  text_is_lem r h = h ∙ ap text_read (sym e)

  pub number_is : (r : NumberRead) → r ≡ number_read w → r ≡ number_read v
  number_is r h = h ∙ ap number_read (sym e)

  pub flag_is : (r : FlagRead) → r ≡ flag_read w → r ≡ flag_read v
  flag_is r h = h ∙ ap flag_read (sym e)

-- ---- a value of another kind
module _ (v : Value) where
  pub text_not : (r : TextRead) → Left enum (2 ∷ 3 ∷ 4 ∷ 5 ∷ []) v → r ≡ no_text 20 → r ≡ text_read v
  text_not r o h = h ∙ others enum (λ w. no_text 20 ≡ text_read w) (2 ∷ 3 ∷ 4 ∷ 5 ∷ []) (λ _. refl) (λ _. refl) (λ _. refl) (λ _. refl) v o

  pub number_not : (r : NumberRead) → Left enum (1 ∷ 3 ∷ 4 ∷ 5 ∷ []) v → r ≡ no_number 20 → r ≡ number_read v
  number_not r o h = h ∙ others enum (λ w. no_number 20 ≡ number_read w) (1 ∷ 3 ∷ 4 ∷ 5 ∷ []) (λ _. refl) (λ _. refl) (λ _. refl) (λ _. refl) v o

  pub flag_not : (r : FlagRead) → Left enum (1 ∷ 2 ∷ 4 ∷ 5 ∷ []) v → r ≡ no_flag 20 → r ≡ flag_read v
  flag_not r o h = h ∙ others enum (λ w. no_flag 20 ≡ flag_read w) (1 ∷ 2 ∷ 4 ∷ 5 ∷ []) (λ _. refl) (λ _. refl) (λ _. refl) (λ _. refl) v o

  pub missing_not : Left enum (1 ∷ 2 ∷ 3 ∷ 4 ∷ 5 ∷ []) v → 0 ≡ missing v
  missing_not o = others enum (λ w. 0 ≡ missing w) (1 ∷ 2 ∷ 3 ∷ 4 ∷ 5 ∷ []) (λ _. refl) (λ _. refl) (λ _. refl) (λ _. refl) (λ _. refl) v o

-- ---- what was found under a key
module _ (room store : List ℕ) (f : Fields) (key : List ℕ) (v : Value) (e : v ≡ field room store f key) where
  pub text_at_lem : (r : TextRead) → r ≡ text_read v → r ≡ text_at room store f key
  text_at_lem r h = h ∙ ap text_read e

  pub number_at_lem : (r : NumberRead) → r ≡ number_read v → r ≡ number_at room store f key
  number_at_lem r h = h ∙ ap number_read e

  pub flag_at_lem : (r : FlagRead) → r ≡ flag_read v → r ≡ flag_at room store f key
  flag_at_lem r h = h ∙ ap flag_read e

  module _ (m n : ℕ) (em : m ≡ missing v) where
    pub text_needs : (t : TextRead) → t ≡ text_read v → n ≡ first_fault t.fault m → record { fault = n; text = t.text } ≡ text_needed room store f key
    text_needs t et en = rw (en, em, et, e)

    pub number_needs : (t : NumberRead) → t ≡ number_read v → n ≡ first_fault t.fault m → record { fault = n; number = t.number } ≡ number_needed room store f key
    number_needs t et en = rw (en, em, et, e)
