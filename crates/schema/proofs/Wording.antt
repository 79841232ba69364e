-- Where each word stands among all words.
use Prim.Native.Nat.{◌-◌}
use mathlib.Core.Path.{◌≡◌, refl, subst}
use native.Mathlib.Omega.{arith}
use lib.ListN.{take, drop}
use Rattle.schema.specs.declared.Word.{Word}
use Rattle.schema.specs.declared.Word.TheVariants as words
use Rattle.schema.specs.declared.Span.{Span}
use Rattle.schema.specs.Words.{word, all, span_of, Stands, word_part}

stands : (w : Word) → Stands w (span_of w)
stands words.Board = record { is = refl; order = omega arith; end = omega arith }
stands words.Release = record { is = refl; order = omega arith; end = omega arith }
stands words.Unknown = record { is = refl; order = omega arith; end = omega arith }
stands words.Version = record { is = refl; order = omega arith; end = omega arith }
stands words.Required = record { is = refl; order = omega arith; end = omega arith }
stands words.Optional = record { is = refl; order = omega arith; end = omega arith }
stands words.App = record { is = refl; order = omega arith; end = omega arith }
stands words.Component = record { is = refl; order = omega arith; end = omega arith }
stands words.D13x = record { is = refl; order = omega arith; end = omega arith }
stands words.D21x = record { is = refl; order = omega arith; end = omega arith }
stands words.Target13 = record { is = refl; order = omega arith; end = omega arith }
stands words.Target21 = record { is = refl; order = omega arith; end = omega arith }
stands words.SpiNor = record { is = refl; order = omega arith; end = omega arith }
stands words.SpiNand = record { is = refl; order = omega arith; end = omega arith }
stands words.Pbp = record { is = refl; order = omega arith; end = omega arith }
stands words.Raw = record { is = refl; order = omega arith; end = omega arith }
stands words.Aic = record { is = refl; order = omega arith; end = omega arith }

pub span_is : (w v : Word) → w ≡ v → Stands w (span_of v)
span_is w v e = subst (λ (u : Word). Stands w (span_of u)) e (stands w)

pub word_is : (w : Word) (s : Span) → Stands w s → take (s.to - s.from) (drop s.from all) ≡ word w
word_is w s e = rw e.is (word_part w)
