-- Steps over the words of a text and the items of an array: one law for each way on and out.
use Prim.Native.Nat.{ℕ, ◌+◌, ◌-◌, ◌^◌, ◌≤◌, ◌<◌}
use mathlib.Core.List.{List, [], ◌∷◌}
use mathlib.Core.Path.{◌≡◌, sym, ap, ◌∙◌}
use native.Mathlib.Omega.{arith}
use mir.Syntax.{w64}
use mir.Val.{Fits}
use borrow.Author.Tests.{leb-true}
use lib.Dec.{leb}
use lib.ListN.{length, drop, length-drop}
use lib.Seq.{length-take-le}
use Rattle.meaning.specs.Base.{pick}
use Rattle.laws.specs.Cases.{on}
use Rattle.schema.specs.Texts.{clip}
use Rattle.tree.specs.declared.Items.{Items as Walk}
use Rattle.std.specs.Prelude.{Option, Some, None}
use Rattle.tree.specs.Doors.{items}
use Rattle.tree.specs.Steps.{to_come}
use Rattle.schema.specs.declared.Features.{Features}
use Rattle.schema.specs.declared.Features.TheVariants.{Absent, Words, Items}
use Rattle.features.specs.declared.Piece.{Piece}
use Rattle.features.specs.declared.Raw.{Raw}
use Rattle.features.specs.declared.reader.Word.{Word}
use Rattle.features.specs.Reading.{word_at}
use Rattle.features.specs.Pieces as pieces
use Rattle.features.specs.Pieces.{words_at, words_from, Steps, piece_of, is_text, all_texts, items_fault, pieces_from, pieces, bound, better, next_of}
use Rattle.tree.specs.Doors.{Rooms}
use Rattle.features.proofs.Wording.{met, words_none, words_some}

-- ---- raw_word

clip_end : (store : List ℕ) (from len : ℕ) → 0 < length (clip from len store) → from + length (clip from len store) ≤ length store
unfolding clip
clip_end store from len h =
    on (leb (from + len) (length store))
    (λ e.
    let l : from + len ≤ length store = leb-true (from + len) (length store) e in
    let d : from + len - from ≡ len = omega arith in
    let k : len ≤ length (drop from store) = simp length-drop (omega arith) in
    rw (e, d, length-take-le len (drop from store) k) l)
    (λ e. absurd (let k : 0 < 0 = rw e at h in omega arith))

module _ (store : List ℕ) (from len at : ℕ) (s : List ℕ) (e : s ≡ clip from len store) (w : Option Word) (f : w ≡ word_at s at) where
  pub raw_end : w ≡ None → words_from store from len at ≡ []
  raw_end g = rw (← e) (words_none from s at (sym f ∙ g))

  module _ (u : Word) (g : w ≡ Some u) where
    some : (words_at (from + at) 0 (drop at s) ≡ record { from = from + u.from; len = u.to - u.from } ∷ words_at (from + u.to) 0 (drop u.to s)) × (at < u.to) × (u.to ≤ length s)
    some = words_some from s at u.from u.to (sym f ∙ g)

    pub raw_rises : u.from ≤ u.to
    raw_rises = omega (arith, (met s at u.from u.to (sym f ∙ g)).2)

    pub raw_fits : length store < 2 ^ 64 → Fits w64 (from + u.from)
    raw_fits l =
        let k : length s ≡ length (clip from len store) = ap length e in
        record { fits = omega (arith, some.1, some.2, raw_rises, clip_end store from len (omega (arith, some.1, some.2))) }

    pub raw_step : Steps (words_from store from len) (length (clip from len store)) at (Some (record { piece = record { from = from + u.from; len = u.to - u.from }; next = u.to }))
    raw_step = rw (← e) some

-- ---- items_fault

pub record Sifting (tree store : List ℕ) (made place limit fault n : ℕ) (w : Walk) : Type 0 where
  pub within : w.end ≤ made
  pub few : n ≤ limit
  pub count : n + length (to_come tree w) ≡ length (items tree made place 0)
  pub left : pick (all_texts tree store (items tree made place 0)) 0 20 ≡ pick (all_texts tree store (to_come tree w)) fault 20

-- ---- raw_next

module _ (tree store : List ℕ) (made at : ℕ) (f : Features) where
  pub next_none : f ≡ Absent → pieces_from tree store made f at ≡ []
  unfolding pieces_from
  next_none e = rw e

  module _ (r : Option Raw) where
    pub next_words : (from len : ℕ) → f ≡ Words from len → Steps (words_from store from len) (length (clip from len store)) at r
        → Steps (pieces_from tree store made f) (bound tree store made f) at r
    unfolding pieces_from
    next_words from len e h = rw e h

    pub next_items : (place : ℕ) → f ≡ Items place → Steps (pieces.items_from tree store made place) made at r
        → Steps (pieces_from tree store made f) (bound tree store made f) at r
    unfolding pieces_from
    next_items place e h = rw e h

-- ---- is_empty, next and alike

module _ (tree store : List ℕ) (made at : ℕ) (f : Features) (r : Option Raw) (h : Steps (pieces_from tree store made f) (bound tree store made f) at r) where
  pub step_end : r ≡ None → pieces_from tree store made f at ≡ []
  step_end e = rw e at h

  pub step_at : (m : Raw) → r ≡ Some m
      → (pieces_from tree store made f at ≡ m.piece ∷ pieces_from tree store made f m.next) × (at < m.next) × (m.next ≤ bound tree store made f)
  step_at m e = rw e at h

  pub step_less : (m : Raw) → r ≡ Some m → bound tree store made f - m.next < bound tree store made f - at
  step_less m e = let s = step_at m e in omega (arith, s.1, s.2)

pub record Nearing (tree store : List ℕ) (made : ℕ) (f : Features) (from : ℕ) (after best : Option Piece) (at : ℕ) : Type 0 where
  pub high : at ≤ bound tree store made f
  pub left : next_of store after best (pieces_from tree store made f at) ≡ next_of store after None (pieces_from tree store made f from)
