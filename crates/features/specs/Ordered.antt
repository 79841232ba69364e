-- Pieces of the store against byte strings: the words of a stored text are its words, and the walk in byte order meets each item once.
use Rattle.std.specs.Prelude.{ℕ, suc, ◌+◌, ◌-◌, ◌≤◌, ◌<◌, Bool, true, false, List, [], ◌∷◌, ◌++◌, ◌≡◌, refl, leb, take, drop, Option as Maybe, Some, None}
use Rattle.std.proofs.Common.{append_assoc, append-nil, ◌∙◌, le-leb, length-drop, take-append-drop, drop-drop}
use Rattle.std.proofs.Math.Option.{Option, none, some}
use Rattle.std.proofs.Math.Path.{sym, ap}
use native.Mathlib.Omega.{arith}
use Rattle.std.proofs.Math.ListN.{length, length-append}
use Rattle.std.proofs.Math.Seq.{take-append_seam, drop-append_seam}
use Rattle.meaning.specs.Base.{pick, nil?, same, less, on_first, split}
use Rattle.meaning.specs.Tree.{Value, Table, boolean, empty, entry, lookup}
use Rattle.meaning.specs.Order.{ranked, sorted}
use Rattle.meaning.specs.Features.{gap, filled, words, placed, ordered}
use Rattle.meaning.specs.Rules.{same_all}
use Rattle.laws.specs.Cases.{on, never}
use Rattle.laws.specs.Never.{same_refl}
use Rattle.laws.specs.Order.{same_eq, less_on, less_one, Rises, first_least, rest_lookup, sorted_rises, sorted_lookup}
use Rattle.schema.specs.Texts.{clip}
use Rattle.schema.specs.declared.Features.{Features}
use Rattle.schema.specs.declared.Features.TheVariants.{Words}
use Rattle.features.specs.declared.Piece.{Piece}
use Rattle.features.specs.Pieces.{close, words_at, words_from, pieces_from, pieces, bytes_of, comes_after, ahead, better, next_of}

-- the bytes of each piece
abbrev pub bytes_all : List ℕ → List Piece → List (List ℕ)
bytes_all store [] = []
bytes_all store (p ∷ ps) = bytes_of store p ∷ bytes_all store ps

pub bytes_length : (store : List ℕ) (ps : List Piece) → length (bytes_all store ps) ≡ length ps
bytes_length store [] = refl
bytes_length store (p ∷ ps) = ap suc (bytes_length store ps)

-- ---- the words of a text

-- the parts between gaps, empty ones too
abbrev parts : List ℕ → List (List ℕ)
parts s = split (tt {0}) (λ u b. u) (λ u b. gap b) (tt {0}) s

-- the first part after the bytes of an open word
abbrev onto : List ℕ → List (List ℕ) → List (List ℕ)
onto w [] = w ∷ []
onto w (l ∷ ls) = (w ++ l) ∷ ls

onto_none : (ls : List (List ℕ)) → filled (onto [] ls) ≡ filled ls
onto_none [] = refl
onto_none (l ∷ ls) = refl

onto_first : (w : List ℕ) (b : ℕ) (ls : List (List ℕ)) → onto w (on_first b ls) ≡ onto (w ++ (b ∷ [])) ls
onto_first w b [] = refl
onto_first w b (l ∷ ls) = rw append_assoc

module _ (store : List ℕ) where
  -- bytes that stand in the store from j on are a piece of it
  clip_is : (j : ℕ) (w u : List ℕ) → drop j store ≡ w ++ u → 0 < length w → clip j (length w) store ≡ w
  unfolding clip
  clip_is j w u e h =
      let l : length store - j ≡ length w + length u = sym (length-drop j store) ∙ ap length e ∙ length-append w u in
      let d : j + length w - j ≡ length w = omega arith in
      let k : j + length w ≤ length store = omega arith in
      rw (le-leb (j + length w) (length store) k, d, e, take-append_seam)

  close_bytes : (j : ℕ) (w u : List ℕ) (ps : List Piece) → drop j store ≡ w ++ u
      → bytes_all store (close (j + length w) (length w) ps) ≡ pick (nil? w) (bytes_all store ps) (w ∷ bytes_all store ps)
  close_bytes j [] u ps e = refl
  close_bytes j (a ∷ w) u ps e =
      let d : j + suc (length w) - suc (length w) ≡ j = omega arith in
      rw (d, clip_is j (a ∷ w) u e (omega arith))

  -- after the open word w the bytes s stand in the store
  words_open : (s : List ℕ) (j : ℕ) (w t : List ℕ) → drop j store ≡ w ++ (s ++ t) → bytes_all store (words_at (j + length w) (length w) s) ≡ filled (onto w (parts s))
  words_open [] j w t e = rw append-nil (close_bytes j w t [] e)
  words_open (b ∷ s) j w t e =
      let n : length (w ++ (b ∷ [])) ≡ length w + 1 = length-append w (b ∷ []) in
      let i : j + length (w ++ (b ∷ [])) ≡ j + length w + 1 = omega arith in
      let f : drop j store ≡ (w ++ (b ∷ [])) ++ (s ++ t) = e ∙ rw append_assoc in
      let g : drop (j + length w + 1) store ≡ [] ++ (s ++ t)
      = sym (ap (λ (k : ℕ). drop k store) i) ∙ sym (drop-drop (length (w ++ (b ∷ []))) j store) ∙ rw f (drop-append_seam (w ++ (b ∷ [])) (s ++ t)) in
      let z : j + length w + 1 + 0 ≡ j + length w + 1 = omega arith in
      let r : bytes_all store (words_at (j + length w + 1) 0 s) ≡ filled (parts s) = rw z at (words_open s (j + length w + 1) [] t g) ∙ onto_none (parts s) in
      let q : bytes_all store (words_at (j + length w + 1) (length w + 1) s) ≡ filled (onto (w ++ (b ∷ [])) (parts s)) = rw (i, n) at (words_open s j (w ++ (b ∷ [])) t f) in
      on (gap b)
      (λ h. rw (h, append-nil, close_bytes j w (b ∷ s ++ t) (words_at (j + length w + 1) 0 s) e, r))
      (λ h. rw (h, onto_first) q)

-- the words of a stored text, by the store, are its words
pub words_pieces : (store : List ℕ) (from len : ℕ) → bytes_all store (words_from store from len 0) ≡ words (clip from len store)
unfolding words clip
words_pieces store from len =
    on (leb (from + len) (length store))
    (λ e.
    let d : from + len - from ≡ len = omega arith in
    rw (e, d)
    (words_open store (take len (drop from store)) from [] (drop len (drop from store)) (sym (take-append-drop len (drop from store)))
    ∙ onto_none (parts (take len (drop from store)))))
    (λ e. rw e)

-- and so are the pieces of a feature list that is a text
pub pieces_words : (room store : List ℕ) (made from len : ℕ) → bytes_all store (pieces room store made (Words from len)) ≡ words (clip from len store)
unfolding pieces_from
pieces_words room store made from len = words_pieces store from len

-- a string by itself
pub words_count : (s : List ℕ) → length (words_at 0 0 s) ≡ length (words s)
unfolding words
words_count s =
    sym (bytes_length s (words_at 0 0 s))
    ∙ ap length (words_open s s 0 [] [] (rw append-nil) ∙ onto_none (parts s))

pub words_length : (store : List ℕ) (from len : ℕ) → length (words_from store from len 0) ≡ length (words (clip from len store))
words_length store from len = sym (bytes_length store (words_from store from len 0)) ∙ ap length (words_pieces store from len)

-- ---- "sorted by bytes, duplicates dropped"

-- strictly rising
abbrev pub Rising : List (List ℕ) → Type 0
Rising [] = Unit {0}
Rising (x ∷ []) = Unit {0}
Rising (x ∷ y ∷ ys) = (less x y ≡ true) × Rising (y ∷ ys)

-- k is one of them
abbrev pub has : List ℕ → List (List ℕ) → Bool
has k [] = false
has k (x ∷ xs) = pick (same x k) true (has k xs)

-- byte strings as the keys of a table, for the laws of tables in byte order
abbrev keyed : List (List ℕ) → Table
keyed [] = empty
keyed (x ∷ xs) = entry x (boolean true) (keyed xs)

placed_ranked : (x : List ℕ) (ys : List (List ℕ)) → keyed (placed x ys) ≡ ranked x (boolean true) (keyed ys)
placed_ranked x [] = refl
placed_ranked x (y ∷ ys) =
    on (less y x) (λ e. rw (e, placed_ranked x ys)) (λ e. on (same y x) (λ f. rw (e, f)) (λ f. rw (e, f)))

ordered_sorted : (xs : List (List ℕ)) → keyed (ordered xs) ≡ sorted (keyed xs)
ordered_sorted [] = refl
ordered_sorted (x ∷ xs) = placed_ranked x (ordered xs) ∙ ap (ranked x (boolean true)) (ordered_sorted xs)

keyed_rises : (xs : List (List ℕ)) → Rises (keyed (ordered xs))
keyed_rises xs = rw (ordered_sorted xs) (sorted_rises (keyed xs))

keyed_lookup : (xs : List (List ℕ)) (k : List ℕ) → lookup (keyed (ordered xs)) k ≡ lookup (keyed xs) k
keyed_lookup xs k = rw (ordered_sorted xs) (sorted_lookup (keyed xs) k)

rising : (xs : List (List ℕ)) → Rises (keyed xs) → Rising xs
rising [] h = tt
rising (x ∷ []) h = tt
rising (x ∷ y ∷ ys) h = (h.0, rising (y ∷ ys) h.1)

lookup_has : (xs : List (List ℕ)) (k : List ℕ) → lookup (keyed xs) k ≡ pick (has k xs) (some (boolean true)) none
lookup_has [] k = refl
lookup_has (x ∷ xs) k = on (same x k) (λ e. rw e) (λ e. rw e (lookup_has xs k))

has_one : (a b : Bool) → pick a (some (boolean true)) none ≡ pick b (some (boolean true)) none → a ≡ b
has_one true true e = refl
has_one true false e = let z : ◌≡◌ {A = ℕ} 0 1 = cc in absurd (omega arith)
has_one false true e = let z : ◌≡◌ {A = ℕ} 0 1 = cc in absurd (omega arith)
has_one false false e = refl

pub ordered_rises : (xs : List (List ℕ)) → Rising (ordered xs)
ordered_rises xs = rising (ordered xs) (keyed_rises xs)

pub ordered_has : (xs : List (List ℕ)) (k : List ℕ) → has k (ordered xs) ≡ has k xs
ordered_has xs k = has_one (has k (ordered xs)) (has k xs) (sym (lookup_has (ordered xs) k) ∙ keyed_lookup xs k ∙ lookup_has xs k)

placed_some : (x : List ℕ) (ys : List (List ℕ)) → nil? (placed x ys) ≡ false
placed_some x [] = refl
placed_some x (y ∷ ys) = on (less y x) (λ e. rw e) (λ e. rw e)

-- a list of pieces has none where there is none in byte order
pub nil_pieces : (store : List ℕ) (ps : List Piece) → nil? ps ≡ nil? (ordered (bytes_all store ps))
nil_pieces store [] = refl
nil_pieces store (p ∷ ps) = sym (placed_some (bytes_of store p) (ordered (bytes_all store ps)))

-- ---- the walk

module _ (store : List ℕ) where
  -- k lies above the last one given
  abbrev over : Maybe Piece → List ℕ → Bool
  over None k = true
  over (Some q) k = less (bytes_of store q) k

  over_on : (after : Maybe Piece) (k j : List ℕ) → over after k ≡ true → less k j ≡ true → over after j ≡ true
  over_on None k j e f = refl
  over_on (Some q) k j e f = less_on (bytes_of store q) k j e f

  comes_after_over : (after : Maybe Piece) (p : Piece) → comes_after store after p ≡ over after (bytes_of store p)
  comes_after_over None p = refl
  comes_after_over (Some q) p = refl

  better_not : (after best : Maybe Piece) (p : Piece) → over after (bytes_of store p) ≡ false → better store after best p ≡ best
  unfolding better
  better_not after best p e = rw (comes_after_over after p, e)

  better_over : (after best : Maybe Piece) (p : Piece) → over after (bytes_of store p) ≡ true → better store after best p ≡ pick (ahead store best p) (Some p) best
  unfolding better
  better_over after best p e = rw (comes_after_over after p, e)

  -- nothing lies above, and nothing is found
  next_nothing : (after : Maybe Piece) (ps : List Piece) → ((k : List ℕ) → has k (bytes_all store ps) ≡ true → over after k ≡ false) → next_of store after None ps ≡ None
  next_nothing after [] h = refl
  next_nothing after (p ∷ ps) h =
      rw (better_not after None p (h (bytes_of store p) (rw (same_refl (bytes_of store p)))))
      (next_nothing after ps (λ k e. h k (rw e (on (same (bytes_of store p) k) (λ f. rw f) (λ f. rw f)))))

  module _ (after : Maybe Piece) (y : List ℕ) (o : over after y ≡ true) where
    -- y is at most what is left of the pieces, and at most the best so far
    abbrev Low : List Piece → Type 0
    Low [] = Unit {0}
    Low (p ∷ ps) = (over after (bytes_of store p) ≡ true → less (bytes_of store p) y ≡ false) × Low ps

    abbrev Above : Maybe Piece → Type 0
    Above None = Unit {0}
    Above (Some q) = less (bytes_of store q) y ≡ false

    -- who has y is not replaced
    next_stays : (ps : List Piece) (q : Piece) → bytes_of store q ≡ y → Low ps → next_of store after (Some q) ps ≡ Some q
    next_stays [] q e l = refl
    next_stays (p ∷ ps) q e l = rw kept (next_stays ps q e l.1)
      where
        kept : better store after (Some q) p ≡ Some q
        kept =
            on (over after (bytes_of store p))
            (λ f. better_over after (Some q) p f ∙ rw (e, l.0 f))
            (λ f. better_not after (Some q) p f)

    better_above : (best : Maybe Piece) (p : Piece) → Above best → (over after (bytes_of store p) ≡ true → less (bytes_of store p) y ≡ false) → Above (better store after best p)
    better_above best p h l =
        on (over after (bytes_of store p))
        (λ f. rw (better_over after best p f) (on (ahead store best p) (λ g. rw g (l f)) (λ g. rw g h)))
        (λ f. rw (better_not after best p f) h)

    record Met (ps : List Piece) (best : Maybe Piece) : Type 0 where
      piece : Piece
      found : next_of store after best ps ≡ Some piece
      is : bytes_of store piece ≡ y

    -- the first that has y is taken, or an earlier one that has it stays
    meets : (ps : List Piece) (best : Maybe Piece) (p : Piece) → bytes_of store p ≡ y → Above best → Low ps → Met (p ∷ ps) best
    meets ps None p e h l =
        let b : better store after None p ≡ Some p = better_over after None p (rw e o) in
        record { piece = p; found = rw b (next_stays ps p e l); is = e }
    meets ps (Some q) p e h l =
        on (less y (bytes_of store q))
        (λ f.
        let b : better store after (Some q) p ≡ Some p = better_over after (Some q) p (rw e o) ∙ rw (e, f) in
        record { piece = p; found = rw b (next_stays ps p e l); is = e })
        (λ f.
        let g : bytes_of store q ≡ y = less_one (bytes_of store q) y h f in
        let b : better store after (Some q) p ≡ Some q = better_over after (Some q) p (rw e o) ∙ rw (e, f) in
        record { piece = q; found = rw b (next_stays ps q g l); is = g })

    -- the least that lies above is found
    next_least : (ps : List Piece) (best : Maybe Piece) → has y (bytes_all store ps) ≡ true → Above best → Low ps → Met ps best
    next_least [] best e h l = never {b = false} e refl
    next_least (p ∷ ps) best e h l =
        on (same (bytes_of store p) y)
        (λ f. meets ps best p (same_eq (bytes_of store p) y f) h l.1)
        (λ f.
        let m = next_least ps (better store after best p) (rw f at e) (better_above best p h l.0) l.1 in
        record { piece = m.piece; found = m.found; is = m.is })

    low_all : (ps : List Piece) → ((k : List ℕ) → has k (bytes_all store ps) ≡ true → over after k ≡ true → less k y ≡ false) → Low ps
    low_all [] h = tt
    low_all (p ∷ ps) h = (
      h (bytes_of store p) (rw (same_refl (bytes_of store p))),
      low_all ps (λ k e. h k (rw e (on (same (bytes_of store p) k) (λ f. rw f) (λ f. rw f)))),
    )

-- steps over pieces from the last one given meet these byte strings, one after the other, and then nothing
abbrev pub Walks : List ℕ → List Piece → Maybe Piece → List (List ℕ) → Type 0
Walks store ps after [] = next_of store after None ps ≡ None
Walks store ps after (y ∷ ys) = (p : Piece) × (next_of store after None ps ≡ Some p) × (bytes_of store p ≡ y) × Walks store ps (Some p) ys

none_some : {G : Type 0} (v : Value) → none ≡ some v → G
none_some v e = let z : ◌≡◌ {A = ℕ} 0 1 = cc in absurd (omega arith)

module _ (store : List ℕ) (ps : List Piece) where
  -- the byte strings us are left above the last one given
  record Left (after : Maybe Piece) (us : List (List ℕ)) : Type 0 where
    rises : Rises (keyed us)
    is : (k : List ℕ) → lookup (keyed us) k ≡ pick (over store after k) (lookup (keyed (bytes_all store ps)) k) none

  left_has : (after : Maybe Piece) (us : List (List ℕ)) → Left after us → (k : List ℕ) → has k (bytes_all store ps) ≡ true → over store after k ≡ true
      → lookup (keyed us) k ≡ some (boolean true)
  left_has after us l k e f = l.is k ∙ rw (f, lookup_has (bytes_all store ps) k, e)

  step_end : (after : Maybe Piece) → Left after [] → next_of store after None ps ≡ None
  step_end after l =
      next_nothing store after ps
      (λ k e. on (over store after k) (λ f. none_some (boolean true) (left_has after [] l k e f)) (λ f. f))

  module _ (after : Maybe Piece) (y : List ℕ) (ys : List (List ℕ)) (l : Left after (y ∷ ys)) where
    -- the first that is left lies above, and is one of the pieces
    first_there : pick (over store after y) (lookup (keyed (bytes_all store ps)) y) none ≡ some (boolean true)
    first_there = sym (l.is y) ∙ rw (same_refl y)

    first_over : over store after y ≡ true
    first_over = on (over store after y) (λ f. f) (λ f. none_some (boolean true) (rw f at first_there))

    first_has : has y (bytes_all store ps) ≡ true
    first_has =
        on (has y (bytes_all store ps)) (λ f. f)
        (λ f. none_some (boolean true) (rw (first_over, lookup_has (bytes_all store ps) y, f) at first_there))

    -- and the least of them
    it : Met store after y first_over ps None
    it =
        next_least store after y first_over ps None first_has tt
        (low_all store after y first_over ps
        (λ k e f. first_least (keyed ys) y k (boolean true) (boolean true) l.rises (left_has after (y ∷ ys) l k e f)))

    rest_left : Left (Some it.piece) ys
    rest_left =
        record {
          rises = l.rises.1;
          is = λ k. rest_lookup (keyed ys) y k (boolean true) l.rises ∙ ap (λ (o : Option Value). pick (less y k) o none) (l.is k) ∙ again k
              ∙ ap (λ (z : List ℕ). pick (less z k) (lookup (keyed (bytes_all store ps)) k) none) (sym it.is);
        }
      where
        again : (k : List ℕ) → pick (less y k) (pick (over store after k) (lookup (keyed (bytes_all store ps)) k) none) none
            ≡ pick (less y k) (lookup (keyed (bytes_all store ps)) k) none
        again k = on (less y k) (λ f. rw (f, over_on store after y k first_over f)) (λ f. rw f)

  walks : (us : List (List ℕ)) (after : Maybe Piece) → Left after us → Walks store ps after us
  walks [] after l = step_end after l
  walks (y ∷ ys) after l =
      let m = it after y ys l in
      (m.piece, m.found, m.is, walks ys (Some m.piece) (rest_left after y ys l))

  -- the walk from the start meets the items in byte order, each once
  pub walk_ordered : Walks store ps None (ordered (bytes_all store ps))
  walk_ordered = walks (ordered (bytes_all store ps)) None (record { rises = keyed_rises (bytes_all store ps); is = keyed_lookup (bytes_all store ps) })

-- ---- what the walks over a list answer
module _ (room store : List ℕ) (made : ℕ) where
  -- the next item after the last one given, from a position on and of all
  abbrev pub next_from : Features → ℕ → Maybe Piece → Maybe Piece
  next_from f from after = next_of store after None (pieces_from room store made f from)

  abbrev pub next_in : Features → Maybe Piece → Maybe Piece
  next_in f after = next_of store after None (pieces room store made f)

  -- its items in byte order, each once
  abbrev pub in_order : Features → List (List ℕ)
  in_order f = ordered (bytes_all store (pieces room store made f))

  -- how many there are from a position on
  abbrev pub count_from : Features → ℕ → ℕ
  count_from f from = length (ordered (bytes_all store (pieces_from room store made f from)))

  -- two lists have the same items
  abbrev pub equal_in : Features → Features → Bool
  equal_in f g = same_all (in_order f) (in_order g)

  -- they are found alike only where the items are the same in the order of the text
  abbrev pub AlikeIn : Features → Features → Bool → Type 0
  AlikeIn f g r = r ≡ true → bytes_all store (pieces room store made f) ≡ bytes_all store (pieces room store made g)
