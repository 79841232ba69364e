-- A string state by its variant: only the one outside strings finds a byte, and ends a line.
use Prim.Native.Nat.{ℕ, ◌≤◌, ◌<◌}
use mathlib.Core.Bool.{Bool, true, false}
use mathlib.Core.Path.{◌≡◌, refl, sym, ◌∙◌}
use borrow.Author.Tests.{lt-ltb, le-ltb}
use lib.Dec.{eqb}
use denote.Enum.Bare.{sameb}
use Rattle.meaning.specs.contracts.StringState.{the_type}
use Rattle.meaning.specs.declared.StringState.{StringState}
use Rattle.meaning.specs.declared.StringState.TheVariants.{Outside, Inside, Escaped}
use Rattle.meaning.specs.declared.Scan.{Scan}
use Rattle.meaning.specs.declared.Fate.TheVariants.{Whole, Unended}
use Rattle.meaning.specs.Quote.{equals_outside}
use Rattle.meaning.specs.Lines.{quotes_closed, fate}

-- the derived test is the definition's
pub outside_is : (state : StringState) → sameb the_type state Outside ≡ quotes_closed state
outside_is Outside = refl
outside_is Inside = refl
outside_is Escaped = refl

pub closed_is : (st : StringState) → sameb the_type st Outside ≡ true → st ≡ Outside
closed_is Outside e = refl
closed_is Inside e = cc
closed_is Escaped e = cc

-- ---- a byte outside strings
module _ (c : ℕ) (state : StringState) (b : ℕ) (r : Bool) (e : r ≡ sameb the_type state Outside) where
  pub outside_equals : r ≡ true → eqb b c ≡ equals_outside c state b
  unfolding equals_outside
  outside_equals q = rw (closed_is state (sym e ∙ q))

  pub never_inside : r ≡ false → r ≡ equals_outside c state b
  unfolding equals_outside
  never_inside q = q ∙ go state (sym e ∙ q)
    where
      go : (st : StringState) → sameb the_type st Outside ≡ false → false ≡ equals_outside c st b
      go Outside z = cc
      go Inside z = refl
      go Escaped z = refl

-- ---- a line with no more `]` than `[`
module _ (c : Scan) (over : c.closes ≤ c.opens) where
  pub fate_more : c.closes < c.opens → Unended ≡ fate c
  unfolding fate
  fate_more h = rw (le-ltb c.opens c.closes over, lt-ltb c.closes c.opens h)

  module _ (r : Bool) (under : c.opens ≤ c.closes) (e : r ≡ sameb the_type c.state Outside) where
    pub fate_whole : r ≡ true → Whole ≡ fate c
    unfolding fate
    fate_whole q = rw (le-ltb c.opens c.closes over, le-ltb c.closes c.opens under, ← (outside_is c.state), ← e, q)

    pub fate_open : r ≡ false → Unended ≡ fate c
    unfolding fate
    fate_open q = rw (le-ltb c.opens c.closes over, le-ltb c.closes c.opens under, ← (outside_is c.state), ← e, q)
