-- A text's bytes, by the one place where they stand.
use Prim.Native.Nat.{ℕ, ◌-◌}
use mathlib.Core.List.{List, []}
use mathlib.Core.Path.{◌≡◌, ◌∙◌}
use lib.ListN.{take, drop}
use Rattle.schema.specs.declared.Text.{Text}
use Rattle.schema.specs.declared.Text.TheVariants as texts
use Rattle.schema.specs.declared.Word.{Word}
use Rattle.schema.specs.declared.Span.{Span}
use Rattle.schema.specs.Words.{all, Stands, word_part}
use Rattle.schema.specs.Texts.{clip, spelled}

module _ (store name : List ℕ) (t : Text) where
  pub spelled_none : t ≡ texts.Absent → [] ≡ spelled store name t
  spelled_none e = rw e

  pub spelled_stored : (from len : ℕ) (s : List ℕ) → t ≡ texts.Stored from len → s ≡ clip from len store → s ≡ spelled store name t
  spelled_stored from len s e h = h ∙ rw e

  pub spelled_lent : t ≡ texts.Lent → name ≡ spelled store name t
  spelled_lent e = rw e

  pub spelled_fixed : (w : Word) (s : Span) → t ≡ texts.Fixed w → Stands w s → take (s.to - s.from) (drop s.from all) ≡ spelled store name t
  spelled_fixed w s e h = rw (h.is, word_part w, e)
