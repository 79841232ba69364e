-- Small words that the definitions share: a choice by a test, byte strings, parts of a byte string.
use Rattle.std.specs.Prelude.{ℕ, suc, ◌-◌, Bool, true, false, List, [], ◌∷◌, ◌++◌, eqb, ltb, leb, length, get_or, take, drop, replicate}
use Prim.Native.Char.{code}
use Prim.Native.String.{String}
use Rattle.std.proofs.Math.Option.{Option, none, some}

-- x where the test holds, else y
abbrev pub pick {ℓ} : {X : Type ℓ} → Bool → X → X → X
pick true x y = x
pick false x y = y

-- a quoted text as bytes (ASCII)
abbrev pub ascii : String → List ℕ
ascii String.[] = []
ascii (String.◌∷◌ c s) = code c ∷ ascii s

abbrev pub nil? {ℓ} : {X : Type ℓ} → List X → Bool
nil? [] = true
nil? (x ∷ xs) = false

-- what is there, or d
abbrev pub or_default {ℓ} : {X : Type ℓ} → Option X → X → X
or_default none d = d
or_default (some x) d = x

-- the first of two that is there
abbrev pub first_given {ℓ} : {X : Type ℓ} → Option X → Option X → Option X
first_given none p = p
first_given (some x) p = some x

-- two byte strings are the same
abbrev pub same : List ℕ → List ℕ → Bool
same [] [] = true
same [] (b ∷ q) = false
same (a ∷ p) [] = false
same (a ∷ p) (b ∷ q) = pick (eqb a b) (same p q) false

-- byte order
abbrev pub less : List ℕ → List ℕ → Bool
less [] [] = false
less [] (b ∷ q) = true
less (a ∷ p) [] = false
less (a ∷ p) (b ∷ q) = pick (eqb a b) (less p q) (ltb a b)

-- n is at least low and at most high
unfoldable pub between : ℕ → ℕ → ℕ → Bool
between low high n = pick (leb low n) (leb n high) false

-- n zeros
abbrev pub zeros : ℕ → List ℕ
zeros n = replicate n 0

-- the bytes of s from from to before end
abbrev pub part : ℕ → ℕ → List ℕ → List ℕ
part from end s = take (end - from) (drop from s)

-- the last byte, 0 where there is none
abbrev pub final : List ℕ → ℕ
final s = get_or s (length s - 1) 0

-- how many bytes stand before the first c, or in all where there is none
abbrev pub before : ℕ → List ℕ → ℕ
before c [] = 0
before c (b ∷ s) = pick (eqb b c) 0 (suc (before c s))

-- byte strings one after the other
abbrev pub concat : List (List ℕ) → List ℕ
concat [] = []
concat (x ∷ xs) = x ++ concat xs

abbrev pub on_first : ℕ → List (List ℕ) → List (List ℕ)
on_first b [] = (b ∷ []) ∷ []
on_first b (l ∷ ls) = (b ∷ l) ∷ ls

-- the parts of a text between separators: next is the state after a byte, sep says that the byte parts; after a
-- separator the state is start again
abbrev pub split : {S : Type 0} → S → (S → ℕ → S) → (S → ℕ → Bool) → S → List ℕ → List (List ℕ)
split start next sep st [] = [] ∷ []
split start next sep st (b ∷ s) =
    let r : List (List ℕ) = split start next sep (pick (sep st b) start (next st b)) s in
    pick (sep st b) ([] ∷ r) (on_first b r)

-- the parts between one c and the next
abbrev pub cut : ℕ → List ℕ → List (List ℕ)
cut c [] = [] ∷ []
cut c (b ∷ s) = pick (eqb b c) ([] ∷ cut c s) (on_first b (cut c s))

unfoldable pub computes : Unit {0}
unfolding between
computes = tt
