-- The words of a string from a place on: one law for each way on and out.
use Prim.Native.Nat.{ℕ, zero, suc, ◌+◌, ◌-◌, ◌≤◌, ◌<◌}
use mathlib.Core.Bool.{true, false}
use mathlib.Core.List.{List, [], ◌∷◌}
use mathlib.Core.Path.{◌≡◌, refl, sym, ap, ◌∙◌}
use native.Mathlib.Omega.{arith}
use borrow.Author.Tests.{lt-ltb, le-ltb, ltb-true, ltb-false}
use lib.Dec.{ltb}
use lib.ListN.{length, drop, drop_of_length-le, length-drop}
use lib.Seq.{drop-drop}
use Rattle.meaning.specs.Features.{gap, words as all}
use Rattle.laws.specs.Cases.{on, never}
use Rattle.features.specs.declared.Piece.{Piece}
use Rattle.std.specs.Prelude.{Option, Some, None, is_some}
use Rattle.features.specs.declared.reader.Word.{Word}
use Rattle.features.specs.Gaps.{gaps, run}
use Rattle.meaning.specs.Base.{pick}
use Rattle.features.specs.declared.reader.Reader.{Reader}
use Rattle.features.specs.declared.reader.Step.{Step}
use Rattle.features.specs.Reading.{word_at, after_word, stepped}
use Rattle.features.specs.Pieces.{close, words_at}
use Rattle.features.specs.Ordered.{words_count}

-- ---- after a run of gaps and after a run of other bytes

gaps_fit : (s : List ℕ) → gaps s ≤ length s
gaps_fit [] = omega arith
gaps_fit (b ∷ s) = on (gap b) (λ e. rw e (omega (arith, gaps_fit s))) (λ e. rw e (omega arith))

run_fit : (s : List ℕ) → run s ≤ length s
run_fit [] = omega arith
run_fit (b ∷ s) = on (gap b) (λ e. rw e (omega arith)) (λ e. rw e (omega (arith, run_fit s)))

-- after the gaps stands a byte that is none
run_some : (s : List ℕ) → gaps s < length s → 0 < run (drop (gaps s) s)
run_some [] h = absurd (omega arith)
run_some (b ∷ s) h =
    on (gap b) (λ e. rw e (run_some s (let k : suc (gaps s) < suc (length s) = rw e at h in omega arith))) (λ e. rw (e, e) (omega arith))

words_gaps : (i : ℕ) (s : List ℕ) → words_at i 0 s ≡ words_at (i + gaps s) 0 (drop (gaps s) s)
words_gaps i [] = refl
words_gaps i (b ∷ s) =
    let e : i + suc (gaps s) ≡ i + 1 + gaps s = omega arith in
    let z : i + 0 ≡ i = omega arith in
    on (gap b) (λ t. rw (t, e) (words_gaps (i + 1) s)) (λ t. rw (t, z, t))

words_run : (i n : ℕ) (s : List ℕ) → words_at i n s ≡ close (i + run s) (n + run s) (words_at (i + run s) 0 (drop (run s) s))
words_run i n [] = let e : i + 0 ≡ i = omega arith in let f : n + 0 ≡ n = omega arith in rw (e, f)
words_run i n (b ∷ s) =
    let e : i + suc (run s) ≡ i + 1 + run s = omega arith in
    let f : n + suc (run s) ≡ n + 1 + run s = omega arith in
    let y : i + 0 ≡ i = omega arith in
    let z : n + 0 ≡ n = omega arith in
    on (gap b) (λ t. rw (t, y, z, t)) (λ t. rw (t, e, f) (words_run (i + 1) (n + 1) s))

close_some : (i n : ℕ) (ps : List Piece) → 0 < n → close i n ps ≡ record { from = i - n; len = n } ∷ ps
close_some i zero ps h = absurd (omega arith)
close_some i (suc n) ps h = refl

-- ---- word_at, and what it says of the words from a place on

module _ (s : List ℕ) (at a b : ℕ) (f : a ≡ at + gaps (drop at s)) (g : b ≡ a + run (drop a s)) where
  pub word_some : a < b → Some (record { from = a; to = b }) ≡ word_at s at
  unfolding word_at
  word_some h = rw (← f, ← g, lt-ltb a b h)

  pub word_none : b ≤ a → None ≡ word_at s at
  unfolding word_at
  word_none h = rw (← f, ← g, le-ltb a b h)

-- gaps alone
only_gaps : (i : ℕ) (t : List ℕ) → run (drop (gaps t) t) ≡ 0 → words_at i 0 t ≡ []
only_gaps i t z =
    on (ltb (gaps t) (length t))
    (λ e. absurd (omega (arith, run_some t (ltb-true (gaps t) (length t) e))))
    (λ e. words_gaps i t ∙ rw (drop_of_length-le t (ltb-false (gaps t) (length t) e)))

-- where the word that is met stands
pub met : (s : List ℕ) (at a b : ℕ) → word_at s at ≡ Some (record { from = a; to = b }) → (a ≡ at + gaps (drop at s)) × (b ≡ a + run (drop a s)) × (a < b)
unfolding word_at
met s at a b e =
    let c = at + gaps (drop at s) in
    let d = c + run (drop c s) in
    on (ltb c d)
    (λ t. let h : ◌≡◌ {A = Word} (record { from = c; to = d }) (record { from = a; to = b }) = cc in
    let f : c ≡ a = ap (λ (w : Word). w.from) h in let g : d ≡ b = ap (λ (w : Word). w.to) h in (sym f, rw (← f) (sym g), rw (← f, ← g) (ltb-true c d t)))
    (λ t. let z : ◌≡◌ {A = ℕ} 0 1 = cc in absurd (omega arith))

-- a string that stands at a position, read from a place on
module _ (from : ℕ) (s : List ℕ) (at : ℕ) where
  pub words_none : word_at s at ≡ None → words_at (from + at) 0 (drop at s) ≡ []
  unfolding word_at
  words_none e =
      let a = at + gaps (drop at s) in
      let b = a + run (drop a s) in
      let d : drop (gaps (drop at s)) (drop at s) ≡ drop a s = rw drop-drop in
      on (ltb a b)
      (λ t. let z : ◌≡◌ {A = ℕ} 0 1 = cc in absurd (omega arith))
      (λ t. only_gaps (from + at) (drop at s) (rw d (omega (arith, ltb-false a b t))))

  pub words_some : (a b : ℕ) → word_at s at ≡ Some (record { from = a; to = b }) → (words_at (from + at) 0 (drop at s) ≡ record { from = from + a; len = b - a } ∷ words_at (from + b) 0 (drop b s)) × (at < b) × (b ≤ length s)
  words_some a b e =
      let f = (met s at a b e).0 in
      let g = (met s at a b e).1 in
      let r = (met s at a b e).2 in
      let d : from + at + gaps (drop at s) ≡ from + a = omega (arith, f) in
      let i : from + a + run (drop a s) ≡ from + b = omega (arith, g) in
      let n : 0 + run (drop a s) ≡ b - a = omega (arith, g) in
      let j : from + b - (b - a) ≡ from + a = omega (arith, r) in
      let m : length (drop a s) ≡ length s - a = length-drop a s in
      let u : words_at (from + at) 0 (drop at s) ≡ words_at (from + a) 0 (drop a s) = words_gaps (from + at) (drop at s) ∙ rw (d, drop-drop, ← f) in
      let v : words_at (from + a) 0 (drop a s) ≡ record { from = from + a; len = b - a } ∷ words_at (from + b) 0 (drop b s)
      = words_run (from + a) 0 (drop a s) ∙ rw (i, drop-drop, ← g, n, close_some (from + b) (b - a) (words_at (from + b) 0 (drop b s)) (omega (arith, r)), j) in
      (u ∙ v, omega (arith, f, r), omega (arith, r, g, run_fit (drop a s)))

-- ---- count: so many words have been met before a place

pub record Counting (s : List ℕ) (n at : ℕ) : Type 0 where
  pub most : n ≤ at
  pub left : n + length (words_at at 0 (drop at s)) ≡ length (all s)

-- and one more after the next one
pub record Counted (s : List ℕ) (n at next : ℕ) : Type 0 where
  pub on : Counting s (n + 1) next
  pub rises : at < next
  pub high : next ≤ length s

pub count_start : (s : List ℕ) → Counting s 0 0
count_start s = record { most = omega arith; left = omega (arith, words_count s) }

module _ (s : List ℕ) (n at : ℕ) (k : Counting s n at) where
  ended : (w : Option Word) → word_at s at ≡ w → is_some w ≡ false → n ≡ length (all s)
  ended None e h =
      let z : 0 + at ≡ at = omega arith in
      omega (arith, k.left, ap length (rw z at (words_none 0 s at e)))
  ended (Some w) e h = never {b = true} refl h

  counted : (w : Option Word) → word_at s at ≡ w → is_some w ≡ true → Counted s n at (after_word w at)
  counted None e h = never {b = false} h refl
  counted (Some w) e h =
      let z : 0 + at ≡ at = omega arith in
      let y : 0 + w.to ≡ w.to = omega arith in
      let m = words_some 0 s at w.from w.to e in
      record {
        on = record { most = omega (arith, k.most, m.1); left = omega (arith, k.left, ap length (rw (z, y) at m.0)) };
        rises = m.1;
        high = m.2;
      }

  pub count_end : is_some (word_at s at) ≡ false → n ≡ length (all s)
  count_end = ended (word_at s at) refl

  pub count_on : is_some (word_at s at) ≡ true → Counted s n at (after_word (word_at s at) at)
  count_on = counted (word_at s at) refl

-- ---- the same by a reader: the word that it met last, where n words were met before it

pub record Meeting (s : List ℕ) (n : ℕ) (d : Step) : Type 0 where
  pub words : d.rest.words.now ≡ s
  pub on : is_some d.word ≡ true → Counting s (n + 1) d.rest.at
  pub high : is_some d.word ≡ true → d.rest.at ≤ length s
  pub end : is_some d.word ≡ false → n ≡ length (all s)

-- what is left of the string behind it; nothing where no word was met
abbrev pub left_of : List ℕ → Step → ℕ
left_of s d = pick (is_some d.word) (length s + 1 - d.rest.at) 0

module _ (s : List ℕ) (n : ℕ) (r : Reader) (k : Counting s n r.at) (w : r.words.now ≡ s) (d : Step) (e : d ≡ stepped r) where
  pub meeting : Meeting s n d
  meeting = rw e (record {
    words = w;
    on = rw w (λ h. (count_on s n r.at k h).on);
    high = rw w (λ h. (count_on s n r.at k h).high);
    end = rw w (count_end s n r.at k);
  })

  pub left_falls : r.at ≤ length s → left_of s d < length s + 1 - r.at
  left_falls h = rw (e, w) (on (is_some (word_at s r.at)) (λ p. rw p (omega (arith, (count_on s n r.at k p).rises, (count_on s n r.at k p).high))) (λ p. rw p (omega arith)))

module _ (s : List ℕ) (n : ℕ) (d : Step) (k : Meeting s n d) where
  module _ (f : is_some d.word ≡ true) (t : Step) (e : t ≡ stepped d.rest) where
    pub meet_on : Meeting s (n + 1) t
    meet_on = meeting s (n + 1) d.rest (k.on f) k.words t e

    pub meet_less : left_of s t < left_of s d
    meet_less = let h : d.rest.at ≤ length s = k.high f in rw f (left_falls s (n + 1) d.rest (k.on f) k.words t e h)
