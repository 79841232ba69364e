-- "Features: a string split at spaces and commas, empty items dropped, or an array of strings, empty ones kept; sorted
-- by bytes, duplicates dropped." Refusals 20, 25.
use Rattle.std.specs.Prelude.{ℕ, Bool, true, List, [], ◌∷◌, eqb, ltb, length}
use Rattle.meaning.specs.Base.{pick, nil?, same, less, split}
use Rattle.meaning.specs.Bytes.{space, comma}
use Rattle.meaning.specs.Refusal.{R, ok, bad, ok_then}
use Rattle.meaning.specs.Tree.{Value, Items, str, int, boolean, array, table, none', item, count}
use Rattle.meaning.specs.Fields.{a_text}

-- "spaces and commas"
unfoldable pub gap : ℕ → Bool
gap b = pick (eqb b space) true (eqb b comma)

-- "empty items dropped"
abbrev pub filled : List (List ℕ) → List (List ℕ)
filled [] = []
filled (l ∷ ls) = pick (nil? l) (filled ls) (l ∷ filled ls)

-- "a string split at spaces and commas, empty items dropped"; no state is carried along
unfoldable pub words : List ℕ → List (List ℕ)
words s = filled (split (tt {0}) (λ u b. u) (λ u b. gap b) (tt {0}) s)

-- "an array of strings, empty ones kept"; 20: "feature item, of the wrong kind"
abbrev pub texts : Items → R (List (List ℕ))
texts none' = ok []
texts (item v is) = ok_then (a_text v) (λ s. ok_then (texts is) (λ ss. ok (s ∷ ss)))

-- x among items in byte order: before the first above it, or in the place of the same
abbrev pub placed : List ℕ → List (List ℕ) → List (List ℕ)
placed x [] = x ∷ []
placed x (y ∷ ys) = pick (less y x) (y ∷ placed x ys) (x ∷ pick (same y x) ys (y ∷ ys))

-- "sorted by bytes, duplicates dropped"
abbrev pub ordered : List (List ℕ) → List (List ℕ)
ordered [] = []
ordered (x ∷ xs) = placed x (ordered xs)

-- 25: "Items in one feature list, before duplicates drop", n of them; "List length is checked before entries."
abbrev pub counted : ℕ → ℕ → R (List (List ℕ)) → R (List (List ℕ))
counted limit n r = pick (ltb limit n) (bad 25) (ok_then r (λ ss. ok (ordered ss)))

-- a feature list, where limit items are allowed
unfoldable pub a_features : ℕ → Value → R (List (List ℕ))
a_features limit (str s) = counted limit (length (words s)) (ok (words s))
a_features limit (int i) = bad 20
a_features limit (boolean b) = bad 20
a_features limit (array a) = counted limit (count a) (texts a)
a_features limit (table t) = bad 20

unfoldable pub computes : Unit {0}
unfolding gap words a_features Rattle.meaning.specs.Fields.computes
computes = tt
