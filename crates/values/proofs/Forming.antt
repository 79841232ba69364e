-- What a line is: one law for each way out.
use Prim.Native.Nat.{ℕ, ◌≤◌, ◌<◌}
use mathlib.Core.Bool.{Bool, true, false}
use mathlib.Core.List.{List}
use mathlib.Core.Path.{◌≡◌, refl, sym, ◌∙◌}
use borrow.Author.Tests.{lt-ltb, le-ltb, ltb-false}
use lib.Dec.{ltb}
use lib.ListN.{length}
use Rattle.std.specs.Prelude.{Some, None}
use Rattle.meaning.specs.declared.StringState.TheVariants.{Outside}
use Rattle.meaning.specs.Quote.{up_to}
use Rattle.meaning.specs.Document as meant
use Rattle.laws.specs.Cases.{on, never}
use Rattle.values.specs.declared.form.Form.TheVariants.{Pushes, Heads, Sets}
use Rattle.values.specs.Forms.{Formed}

double_long : (l : List ℕ) → meant.array_header l ≡ true → 4 ≤ length l
unfolding meant.array_header
double_long l e = on (ltb (length l) 4) (λ p. never {b = false} (rw p at e) refl) (λ p. ltb-false (length l) 4 p)

single_long : (l : List ℕ) → meant.table_header l ≡ true → 2 ≤ length l
unfolding meant.table_header
single_long l e = on (ltb (length l) 2) (λ p. never {b = false} (rw p at e) refl) (λ p. ltb-false (length l) 2 p)

module _ (l : List ℕ) (r : Bool) (e : r ≡ meant.array_header l) where
  pub pushes : r ≡ true → Formed l (Some Pushes)
  unfolding meant.form
  pushes t = record { is = rw (← e, t); inside = double_long l (sym e ∙ t) }

  module _ (f : r ≡ false) (q : Bool) (g : q ≡ meant.table_header l) where
    pub heads : q ≡ true → Formed l (Some Heads)
    unfolding meant.form
    heads t = record { is = rw (← e, f, ← g, t); inside = single_long l (sym g ∙ t) }

    module _ (h : q ≡ false) (at : ℕ) (k : at ≡ up_to 61 Outside l) where
      pub sets : at < length l → Formed l (Some (Sets at))
      unfolding meant.form
      sets n = record { is = rw (← e, f, ← g, h, ← k, lt-ltb at (length l) n); inside = n }

      pub neither : length l ≤ at → Formed l None
      unfolding meant.form
      neither n = record { is = rw (← e, f, ← g, h, ← k, le-ltb at (length l) n); inside = tt }
