-- What a search passes over, and what it leaves.
use Rattle.std.specs.Prelude.{ℕ, suc, ◌+◌, ◌≤◌, ◌<◌, Bool, false, List, [], ◌∷◌, ◌≡◌, eqb, length, get_or, drop}
use Rattle.meaning.specs.Base.{pick, before}

-- a search that stops at some bytes goes on at this one
pub record Other (stop : ℕ → Bool) (b : ℕ) : Type 0 where
  pub not : stop b ≡ false

-- one for c stops at c
abbrev pub at? : ℕ → ℕ → Bool
at? c b = eqb b c

-- it goes on at each of the n bytes at a place
pub record Free (stop : ℕ → Bool) (s : List ℕ) (at n : ℕ) : Type 0 where
  pub all : (k : ℕ) → k < n → Other stop (get_or s (at + k) 0)

-- how many bytes stand before the first that it stops at, or in all where there is none
abbrev pub lead : (ℕ → Bool) → List ℕ → ℕ
lead stop [] = 0
lead stop (b ∷ s) = pick (stop b) 0 (suc (lead stop s))

-- it stops at no byte before i, so that the first stands as far after i as in what is left from there on
pub record Passed (stop : ℕ → Bool) (s : List ℕ) (i : ℕ) : Type 0 where
  pub high : i ≤ length s
  pub left : i + lead stop (drop i s) ≡ lead stop s

-- r bytes stand before the first that it stops at, or s has r bytes and none such
pub record Led (stop : ℕ → Bool) (s : List ℕ) (r : ℕ) : Type 0 where
  pub is : r ≡ lead stop s
  pub fits : r ≤ length s

-- r bytes stand before the first c, or s has r bytes and no c
pub record Found (c : ℕ) (s : List ℕ) (r : ℕ) : Type 0 where
  pub is : r ≡ before c s
  pub fits : r ≤ length s
