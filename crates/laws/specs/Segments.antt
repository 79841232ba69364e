-- No segment of a key or header is empty, and none holds a dot: "Keys split at every dot, quoted or not", and no escape stands for one.
use Rattle.std.specs.Prelude.{ℕ, zero, suc, ◌-◌, false, List, [], ◌∷◌, ◌≡◌, refl, eqb, length, get_or, take, drop}
use Rattle.std.proofs.Common.{arith}
use Rattle.meaning.specs.declared.Act.{Act}
use Rattle.meaning.specs.declared.Act.TheVariants.{End, Hold, Put, Fault}
use Rattle.meaning.specs.Base.{nil?, cut, on_first, final}
use Rattle.meaning.specs.Space.{trim}
use Rattle.meaning.specs.declared.StringByte.{StringByte}
use Rattle.meaning.specs.declared.StringByte.TheVariants.{Plain, AfterBackslash}
use Rattle.meaning.specs.Strings.{Said, act_of, by_act, decode}
use Rattle.meaning.specs.Keys.{nonempty, quoted, segment, segments, keys}
use Rattle.laws.specs.Cases.{on, picked}
use Rattle.laws.specs.Never.{Reads, then_read, ended_read}
use Rattle.laws.specs.Trim.{white_at, white_end, forwards, backwards, on_bytes}

-- c is no byte of s
abbrev pub Without : ℕ → List ℕ → Type 0
Without c [] = Unit {0}
Without c (b ∷ s) = (eqb b c ≡ false) × Without c s

abbrev AllWithout : ℕ → List (List ℕ) → Type 0
AllWithout c [] = Unit {0}
AllWithout c (l ∷ ls) = Without c l × AllWithout c ls

-- neither empty nor with a dot
abbrev pub Named : List ℕ → Type 0
Named k = (nil? k ≡ false) × Without 46 k

abbrev pub AllNamed : List (List ℕ) → Type 0
AllNamed [] = Unit {0}
AllNamed (k ∷ ks) = Named k × AllNamed ks

-- ---- parts of a text without c

cut_without : (c : ℕ) (s : List ℕ) → AllWithout c (cut c s)
cut_without c [] = (tt, tt)
cut_without c (b ∷ s) = on (eqb b c) (λ e. rw e (tt, cut_without c s)) (λ e. rw e (first (cut c s) e (cut_without c s)))
  where
    first : (ls : List (List ℕ)) → eqb b c ≡ false → AllWithout c ls → AllWithout c (on_first b ls)
    first [] e h = ((e, tt), tt)
    first (l ∷ ls) e h = ((e, h.0), h.1)

module _ (c : ℕ) where
  take_without : (n : ℕ) (s : List ℕ) → Without c s → Without c (take n s)
  take_without zero s h = tt
  take_without (suc n) [] h = tt
  take_without (suc n) (b ∷ s) h = (h.0, take_without n s h.1)

  drop_without : (n : ℕ) (s : List ℕ) → Without c s → Without c (drop n s)
  drop_without zero s h = h
  drop_without (suc n) [] h = tt
  drop_without (suc n) (b ∷ s) h = drop_without n s h.1

  forwards_without : (k : ℕ) (s : List ℕ) → Without c s → Without c (forwards k s)
  forwards_without zero s h = h
  forwards_without (suc k) s h =
      picked (Without c) (eqb (white_at s) 0) (λ _. h) (λ _. forwards_without k (drop (white_at s) s) (drop_without (white_at s) s h))

  backwards_without : (k : ℕ) (s : List ℕ) → Without c s → Without c (backwards k s)
  backwards_without zero s h = h
  backwards_without (suc k) s h =
      picked (Without c) (eqb (white_end s) 0) (λ _. h)
      (λ _. backwards_without k (take (length s - white_end s) s) (take_without (length s - white_end s) s h))

  trim_without : (s : List ℕ) → Without c s → Without c (trim s)
  trim_without s h =
      rw (on_bytes s) (backwards_without (length (forwards (length s) s)) (forwards (length s) s) (forwards_without (length s) s h))

-- ---- strings

-- a byte that is stored is no dot
abbrev Dotless : Act → Type 0
Dotless End = Unit {0}
Dotless Hold = Unit {0}
Dotless (Put b) = eqb b 46 ≡ false
Dotless Fault = Unit {0}

act_dotless : (st : StringByte) (b : ℕ) → eqb b 46 ≡ false → Dotless (act_of st b)
unfolding act_of
act_dotless Plain b h = picked Dotless (eqb b 34) (λ _. tt) (λ _. picked Dotless (eqb b 92) (λ _. tt) (λ _. h))
act_dotless AfterBackslash b h =
    picked Dotless (eqb b 110) (λ _. refl) (λ _. picked Dotless (eqb b 116) (λ _. refl) (λ _. picked Dotless (eqb b 114) (λ _. refl)
    (λ _. picked Dotless (eqb b 34) (λ _. refl) (λ _. picked Dotless (eqb b 92) (λ _. refl) (λ _. tt)))))

decode_without : (st : StringByte) (s : List ℕ) → Without 46 s → Without 46 (decode st s).bytes
decode_without st [] h = tt
decode_without st (b ∷ s) h = step (act_of st b) (λ t. decode t s) (act_dotless st b h.0) (λ t. decode_without t s h.1)
  where
    step : (a : Act) (f : StringByte → Said) → Dotless a → ((t : StringByte) → Without 46 (f t).bytes) → Without 46 (by_act st a f).bytes
    step End f d k = tt
    step Hold f d k = k AfterBackslash
    step (Put c) f d k = (d, k Plain)
    step Fault f d k = tt

-- ---- segments

nonempty_named : (s : List ℕ) → Without 46 s → Reads Named (nonempty s)
unfolding nonempty
nonempty_named s h = on (nil? s) (λ e. rw e (omega arith)) (λ e. rw e (e, h))

segment_named : (s : List ℕ) → Without 46 s → Reads Named (segment s)
unfolding segment quoted
segment_named s h =
    picked (Reads Named) (eqb (get_or s 0 0) 34)
    (λ _. ended_read Named (decode Plain (drop 1 s)).how _
    (picked (Reads Named) (eqb (final (drop 1 s)) 34)
    (λ _. nonempty_named (decode Plain (drop 1 s)).bytes (decode_without Plain (drop 1 s) (drop_without 46 1 s h))) (λ _. omega arith)))
    (λ _. nonempty_named s h)

segments_named : (n : ℕ) (ps : List (List ℕ)) → AllWithout 46 ps → Reads AllNamed (segments n ps)
segments_named n [] h = tt
segments_named zero (p ∷ ps) h = omega arith
segments_named (suc n) (p ∷ ps) h =
    then_read Named AllNamed (segment (trim p)) _ (segment_named (trim p) (trim_without 46 p h.0))
    (λ k a. then_read AllNamed AllNamed (segments n ps) _ (segments_named n ps h.1) (λ ks b. (a, b)))

-- no segment of a key or header is empty or holds a dot
pub keys_named : (n : ℕ) (s : List ℕ) → Reads AllNamed (keys n s)
unfolding keys
keys_named n s = segments_named n (cut 46 s) (cut_without 46 s)
