-- Lines, keys and tables of a text, place by place.
use Prim.Native.Nat.{ℕ, zero, suc}
use mathlib.Core.Bool.{false}
use mathlib.Core.List.{List, [], ◌∷◌}
use mathlib.Core.Path.{◌≡◌, subst, ◌∙◌}
use borrow.Author.Tests.{eqb-false}
use Rattle.meaning.specs.Refusal.{R, Answer}
use Rattle.meaning.specs.Space.{blank}
use Rattle.meaning.specs.Lines.{Line}
use Rattle.meaning.specs.Tree.{Value, Items, Table, str, int, boolean, array, table, none', item, empty, entry}
use Rattle.meaning.specs.Document.{Parsed}
use Rattle.laws.specs.Never.{Reads}
use Rattle.laws.specs.Blanks.{NonBlank, Joins, never_blank}
use Rattle.laws.specs.Segments.{Without, Named, AllNamed, keys_named}
use Rattle.laws.specs.Once as laws
use Rattle.laws.specs.Once.{Rooted}
use Rattle.theorems.specs.Words.{At}
use Rattle.theorems.specs.Lines.{NoLineIsBlank, SegmentsAreNames, Once, OnceAll, OnceIn, NoKeyTwice}

line_at : (ls : List Line) → NonBlank ls → (i : ℕ) (l : Line) → At ls i l → blank l.text ≡ false
line_at [] h i l g = absurd g
line_at (k ∷ ls) h zero l g = subst (λ (z : Line). blank z.text ≡ false) g h.0
line_at (k ∷ ls) h (suc i) l g = line_at ls h.1 i l g

pub no_line_is_blank : NoLineIsBlank
no_line_is_blank text ls e = line_at ls (subst (λ (a : Answer (List Line)). Joins a) e (never_blank text))

byte_at : (s : List ℕ) → Without 46 s → (j byte : ℕ) → At s j byte → byte ≡ 46 → ⊥
byte_at [] h j byte g e = g
byte_at (b ∷ s) h zero byte g e = eqb-false b 46 h.0 (g ∙ e)
byte_at (b ∷ s) h (suc j) byte g e = byte_at s h.1 j byte g e

segment_at : (ks : List (List ℕ)) → AllNamed ks → (i : ℕ) (k : List ℕ) → At ks i k → Named k
segment_at [] h i k g = absurd g
segment_at (l ∷ ks) h zero k g = subst (λ (z : List ℕ). Named z) g h.0
segment_at (l ∷ ks) h (suc i) k g = segment_at ks h.1 i k g

pub segments_are_names : SegmentsAreNames
segments_are_names limit key segments e i k g =
    let n = segment_at segments (subst (λ (a : R (List (List ℕ))). Reads AllNamed a) e (keys_named limit key)) i k g in
    (n.0, byte_at k n.1)

mutual
  once_value : (v : Value) → laws.Once v → Once v
  once_value (str s) h = h
  once_value (int i) h = h
  once_value (boolean b) h = h
  once_value (array is) h = once_all is h
  once_value (table t) h = once_in t h

  once_all : (is : Items) → laws.OnceAll is → OnceAll is
  once_all none' h = h
  once_all (item v is) h = (once_value v h.0, once_all is h.1)

  once_in : (t : Table) → laws.OnceIn t → OnceIn t
  once_in empty h = h
  once_in (entry k v t) h = (h.0, once_value v h.1, once_in t h.2)

pub no_key_twice : NoKeyTwice
no_key_twice lim text p e = once_in p.root (subst (λ (a : Answer Parsed). Rooted a) e (laws.once lim text))
