-- A feature list in the rooms: the pieces of the store that are its items, in the order of the text, and the walk through them in byte order.
use Rattle.std.specs.Prelude.{ℕ, zero, suc, ◌+◌, ◌-◌, ◌≤◌, ◌<◌, Bool, true, false, List, [], ◌∷◌, ◌≡◌, ltb, length, drop, Option, Some, None}
use Rattle.meaning.specs.Base.{pick, same, less}
use Rattle.meaning.specs.Features.{gap}
use Rattle.tree.specs.declared.Value.{Value}
use Rattle.tree.specs.declared.Value.TheVariants as values
use Rattle.tree.specs.declared.Fields.{Fields}
use Rattle.tree.specs.Doors.{value_at, fields_of, items}
use Rattle.schema.specs.declared.Features.{Features}
use Rattle.schema.specs.declared.Features.TheVariants.{Absent, Words, Items}
use Rattle.schema.specs.Texts.{clip}
use Rattle.features.specs.declared.Piece.{Piece}
use Rattle.features.specs.declared.Raw.{Raw}
use Rattle.features.specs.declared.FeaturesRead.{FeaturesRead}

-- ---- the words of a text

-- a word of n bytes that ends before position i, where it has any
abbrev pub close : ℕ → ℕ → List Piece → List Piece
close i zero ps = ps
close i (suc n) ps = record { from = i - suc n; len = suc n } ∷ ps

-- the pieces between gaps of bytes that stand at position i, after n bytes of an open word
abbrev pub words_at : ℕ → ℕ → List ℕ → List Piece
words_at i n [] = close i n []
words_at i n (b ∷ s) = pick (gap b) (close i n (words_at (i + 1) 0 s)) (words_at (i + 1) (n + 1) s)

-- the words of a stored text from a position on
abbrev pub words_from : List ℕ → ℕ → ℕ → ℕ → List Piece
words_from store from len at = words_at (from + at) 0 (drop at (clip from len store))

-- too many of them are 25
abbrev pub few_words : List ℕ → ℕ → ℕ → ℕ → FeaturesRead
few_words store limit from len =
    pick (ltb limit (length (words_from store from len 0))) (record { fault = 25; features = Absent }) (record { fault = 0; features = Words from len })

-- what a step over pieces says: the first from a position on, and where the others begin
abbrev pub Steps : (ℕ → List Piece) → ℕ → ℕ → Option Raw → Type 0
Steps rest bound at None = rest at ≡ []
Steps rest bound at (Some r) = (rest at ≡ r.piece ∷ rest r.next) × (at < r.next) × (r.next ≤ bound)

-- ---- the items of an array

-- where a text stands; what is none has no bytes
abbrev pub piece_of : Value → Piece
piece_of values.Absent = record { from = 0; len = 0 }
piece_of (values.Text from len) = record { from = from; len = len }
piece_of (values.Number n m) = record { from = 0; len = 0 }
piece_of (values.Flag b) = record { from = 0; len = 0 }
piece_of (values.Array p) = record { from = 0; len = 0 }
piece_of (values.Table p) = record { from = 0; len = 0 }

abbrev pub is_text : Value → Bool
is_text values.Absent = false
is_text (values.Text from len) = true
is_text (values.Number n m) = false
is_text (values.Flag b) = false
is_text (values.Array p) = false
is_text (values.Table p) = false

module _ (room store : List ℕ) where
  abbrev pub pieces_at : List ℕ → List Piece
  pieces_at [] = []
  pieces_at (n ∷ ns) = piece_of (value_at room store n) ∷ pieces_at ns

  abbrev pub all_texts : List ℕ → Bool
  all_texts [] = true
  all_texts (n ∷ ns) = pick (is_text (value_at room store n)) (all_texts ns) false

  -- ---- a feature list

  module _ (made : ℕ) where
    abbrev pub items_from : ℕ → ℕ → List Piece
    items_from place at = pieces_at (items room made place at)

    -- its pieces from a position on: of a text a byte, of an array a value's number
    unfoldable pub pieces_from : Features → ℕ → List Piece
    pieces_from Absent at = []
    pieces_from (Words from len) at = words_from store from len at
    pieces_from (Items place) at = items_from place at

    abbrev pub pieces : Features → List Piece
    pieces f = pieces_from f 0

    -- how far positions go
    abbrev pub bound : Features → ℕ
    bound Absent = 0
    bound (Words from len) = length (clip from len store)
    bound (Items place) = made

    -- a step from a position on
    abbrev pub StepsIn : Features → ℕ → Option Raw → Type 0
    StepsIn f at r = Steps (pieces_from f) (bound f) at r

    -- 25: "list too long", told before a "feature item, of the wrong kind": 20
    abbrev pub items_fault : ℕ → ℕ → ℕ
    items_fault limit place = pick (ltb limit (length (items room made place 0))) 25 (pick (all_texts (items room made place 0)) 0 20)

    abbrev pub few_items : ℕ → ℕ → FeaturesRead
    few_items limit place =
        pick (ltb limit (length (items room made place 0))) (record { fault = 25; features = Absent })
        (pick (all_texts (items room made place 0)) (record { fault = 0; features = Items place }) (record { fault = 20; features = Absent }))

    -- a feature list, where limit items are allowed
    unfoldable pub features_read : ℕ → Value → FeaturesRead
    features_read limit values.Absent = record { fault = 0; features = Absent }
    features_read limit (values.Text from len) = few_words store limit from len
    features_read limit (values.Number n m) = record { fault = 20; features = Absent }
    features_read limit (values.Flag b) = record { fault = 20; features = Absent }
    features_read limit (values.Array place) = few_items limit place
    features_read limit (values.Table place) = record { fault = 20; features = Absent }

-- where among the values all items stand: an array's between its first item and its newest
abbrev pub span : List ℕ → ℕ → Features → Fields
span room made Absent = record { place = 0; from = 0; to = made }
span room made (Words from len) = record { place = 0; from = 0; to = made }
span room made (Items place) = fields_of room made place

-- ---- in byte order, each once

abbrev pub bytes_of : List ℕ → Piece → List ℕ
bytes_of store p = clip p.from p.len store

-- p comes after the last one given; nothing was given at the start
abbrev pub comes_after : List ℕ → Option Piece → Piece → Bool
comes_after store None p = true
comes_after store (Some q) p = less (bytes_of store q) (bytes_of store p)

-- p comes before the best so far
abbrev pub ahead : List ℕ → Option Piece → Piece → Bool
ahead store None p = true
ahead store (Some q) p = less (bytes_of store p) (bytes_of store q)

-- the better of the best so far and p
unfoldable pub better : List ℕ → Option Piece → Option Piece → Piece → Option Piece
better store after best p = pick (comes_after store after p) (pick (ahead store best p) (Some p) best) best

-- the least of the pieces after the last one given
abbrev pub next_of : List ℕ → Option Piece → Option Piece → List Piece → Option Piece
next_of store after best [] = best
next_of store after best (p ∷ ps) = next_of store after (better store after best p) ps

-- both are there and have the same bytes, or neither is
abbrev pub same_feature : List ℕ → Option Piece → Option Piece → Bool
same_feature store None None = true
same_feature store None (Some q) = false
same_feature store (Some p) None = false
same_feature store (Some p) (Some q) = same (bytes_of store p) (bytes_of store q)
