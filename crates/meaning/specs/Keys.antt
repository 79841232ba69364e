-- "Keys split at every dot, quoted or not, then trim." Refusals 7, 8, 9, 15.
use Rattle.std.specs.Prelude.{ℕ, zero, suc, List, [], ◌∷◌, eqb, get_or, drop}
use Rattle.meaning.specs.Base.{pick, nil?, final, cut}
use Rattle.meaning.specs.Bytes.{quote_mark, dot}
use Rattle.meaning.specs.Refusal.{R, ok, bad, ok_then}
use Rattle.meaning.specs.Space.{trim}
use Rattle.meaning.specs.declared.StringByte.TheVariants.{Plain}
use Rattle.meaning.specs.Strings.{decode, if_ended}

-- 7: "empty segment"
unfoldable pub nonempty : List ℕ → R (List ℕ)
nonempty s = pick (nil? s) (bad 7) (ok s)

-- what stands after the opening quote. "Within a segment: 8 or 9, then the end quote, then emptiness."
-- 7: "a quoted one that doesn't end in a quote"
unfoldable pub quoted : List ℕ → R (List ℕ)
quoted s =
    if_ended (decode Plain s).how
    (pick (eqb (final s) quote_mark) (nonempty (decode Plain s).bytes) (bad 7))

-- "A segment that starts with a quote takes the first quoted string and must end in a quote: `"a"b"c"` is `a`."
unfoldable pub segment : List ℕ → R (List ℕ)
segment s = pick (eqb (get_or s 0 0) quote_mark) (quoted (drop 1 s)) (nonempty s)

-- the segments of the parts, at most n. "The 17th segment is refused unread."
abbrev pub segments : ℕ → List (List ℕ) → R (List (List ℕ))
segments n [] = ok []
segments zero (p ∷ ps) = bad 15
segments (suc n) (p ∷ ps) = ok_then (segment (trim p)) (λ k. ok_then (segments n ps) (λ ks. ok (k ∷ ks)))

-- the segments of a key or header, at most n
unfoldable pub keys : ℕ → List ℕ → R (List (List ℕ))
keys n s = segments n (cut dot s)

unfoldable pub computes : Unit {0}
unfolding nonempty quoted segment keys
    Rattle.meaning.specs.Space.computes
    Rattle.meaning.specs.Strings.computes
computes = tt
