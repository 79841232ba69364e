-- The fields of the structs: each is decoded to what level 2 says that it means.
use Prim.Native.Nat.{ℕ, zero, suc, ◌+◌, ◌-◌, ◌≤◌, ◌<◌}
use mathlib.Core.Bool.{Bool, true, false}
use mathlib.Core.List.{List, [], ◌∷◌}
use mathlib.Core.Option.{some}
use mathlib.Core.Path.{◌≡◌, refl}
use native.Mathlib.Omega.{arith}
use borrow.Author.Tests.{lt-ltb}
use lib.Dec.{leb}
use lib.ListN.{length, drop, length-take, length-drop}
use Rattle.meaning.specs.Features.{ordered}
use Rattle.laws.specs.Cases.{on, never}
use Rattle.schema.specs.declared.Word.{Word}
use Rattle.schema.specs.declared.Word.TheVariants as words
use Rattle.schema.specs.declared.Text.{Text}
use Rattle.schema.specs.declared.Text.TheVariants as texts
use Rattle.std.specs.Prelude.{Option, Some, None}
use Rattle.schema.specs.declared.Features.{Features}
use Rattle.schema.specs.declared.Features.TheVariants as lists
use Rattle.schema.specs.declared.Chip.{Chip}
use Rattle.schema.specs.declared.Chip.TheVariants as chips
use Rattle.schema.specs.declared.Media.{Media}
use Rattle.schema.specs.declared.Media.TheVariants as medias
use Rattle.schema.specs.declared.Kind.{Kind}
use Rattle.schema.specs.declared.Kind.TheVariants as kinds
use Rattle.schema.specs.Words.{word, chip_meant, media_meant, kind_meant}
use Rattle.schema.specs.Texts.{clip, spelled, optional, is_given, amount}
use Rattle.features.specs.declared.Piece.{Piece}
use Rattle.features.specs.Pieces.{pieces, bound}
use Rattle.features.specs.Ordered.{bytes_all, bytes_length, Walks, walk_ordered}
use Rattle.features.proofs.Tallying.{pieces_most, ordered_most}
use Rattle.parse.specs.Views.{holds_values}
use Rattle.parse.specs.Meant.{feature_list}
use Rattle.host.specs.declared.records.FeatureList.{FeatureList}
use Rattle.host.specs.Records.{word_number, bytes_of, amount_of, list_of, chip_number, media_number, kind_number, flag_number, features_by, last_item}
use Rattle.theorems.specs.Decoding.{word_by_number, chip_by, media_by, kind_by, flag_by, amount_by, optional_by, text_by, walked, list_by}

-- ---- numbers

-- each word is spelled by its number
pub word_by_lem : (w : Word) → word_by_number (word_number w) ≡ some (word w)
unfolding word
word_by_lem words.Board = refl
word_by_lem words.Release = refl
word_by_lem words.Unknown = refl
word_by_lem words.Version = refl
word_by_lem words.Required = refl
word_by_lem words.Optional = refl
word_by_lem words.App = refl
word_by_lem words.Component = refl
word_by_lem words.D13x = refl
word_by_lem words.D21x = refl
word_by_lem words.Target13 = refl
word_by_lem words.Target21 = refl
word_by_lem words.SpiNor = refl
word_by_lem words.SpiNand = refl
word_by_lem words.Pbp = refl
word_by_lem words.Raw = refl
word_by_lem words.Aic = refl

pub chip_by_lem : (c : Chip) → chip_by (chip_number c) ≡ some (chip_meant c)
unfolding chip_by
chip_by_lem chips.D13x = refl
chip_by_lem chips.D21x = refl

pub media_by_lem : (m : Media) → media_by (media_number m) ≡ some (media_meant m)
unfolding media_by
media_by_lem medias.SpiNor = refl
media_by_lem medias.SpiNand = refl

pub kind_by_lem : (k : Kind) → kind_by (kind_number k) ≡ some (kind_meant k)
unfolding kind_by
kind_by_lem kinds.App = refl
kind_by_lem kinds.Pbp = refl
kind_by_lem kinds.Raw = refl

pub flag_by_lem : (b : Bool) → flag_by (flag_number b) ≡ some b
unfolding flag_by
flag_by_lem true = refl
flag_by_lem false = refl

pub amount_by_lem : (n : Option ℕ) → amount_by (amount_of n) ≡ some (amount n)
unfolding amount_by
amount_by_lem None = refl
amount_by_lem (Some n) = refl

-- ---- texts

-- it is not absent
abbrev pub Given : Text → Type 0
Given t = is_given t ≡ true

module _ (store name : List ℕ) where
  pub optional_by_lem : (t : Text) → optional_by store name (bytes_of t) ≡ some (optional store name t)
  unfolding optional_by
  optional_by_lem texts.Absent = refl
  optional_by_lem (texts.Stored from len) = refl
  optional_by_lem texts.Lent = refl
  optional_by_lem (texts.Fixed w) = rw (word_by_lem w)
  optional_by_lem (texts.WithAic from len) = refl

  pub text_by_lem : (t : Text) → Given t → text_by store name (bytes_of t) ≡ some (spelled store name t)
  unfolding text_by
  text_by_lem texts.Absent h = never {b = false} h refl
  text_by_lem (texts.Stored from len) h = rw (optional_by_lem (texts.Stored from len))
  text_by_lem texts.Lent h = rw (optional_by_lem texts.Lent)
  text_by_lem (texts.Fixed w) h = rw (optional_by_lem (texts.Fixed w))
  text_by_lem (texts.WithAic from len) h = rw (optional_by_lem (texts.WithAic from len))

-- ---- feature lists

-- a list that is an array has a place of two bytes
abbrev pub Low : Features → Type 0
Low lists.Absent = Unit {0}
Low (lists.Words from len) = Unit {0}
Low (lists.Items place) = place < 65536

-- handed out and handed back it is the same
features_by_lem : (f : Features) → Low f → features_by (list_of f).kind (list_of f).from (list_of f).len ≡ f
unfolding features_by
features_by_lem lists.Absent h = refl
features_by_lem (lists.Words from len) h = refl
features_by_lem (lists.Items place) h = rw (lt-ltb place 65536 h)

last_by : (p : Piece) → last_item 1 p.from p.len ≡ Some p
unfolding last_item
last_by p = refl

first_by : last_item 0 0 0 ≡ None
unfolding last_item
first_by = refl

clip_most : (from len : ℕ) (s : List ℕ) → length (clip from len s) ≤ length s
unfolding clip
clip_most from len s =
    on (leb (from + len) (length s))
    (λ e. rw e (omega (arith, length-take (from + len - from) (drop from s), length-drop from s)))
    (λ e. rw e (omega arith))

module _ (room store : List ℕ) (made : ℕ) (held : holds_values room made ≡ true) where
  walk_by : (us : List (List ℕ)) (calls : ℕ) (l : FeatureList) (f : Features) → features_by l.kind l.from l.len ≡ f
      → (begun last size : ℕ) (after : Option Piece) → last_item begun last size ≡ after → Walks store (pieces room store made f) after us → length us < calls
      → walked room store made calls l begun last size ≡ some us
  walk_by us zero l f d begun last size after e w h = absurd (omega arith)
  walk_by [] (suc calls) l f d begun last size after e w h = rw (held, d, e, w)
  walk_by (y ∷ ys) (suc calls) l f d begun last size after e w h =
      let p : Piece = w.0 in
      let others = walk_by ys calls l f d 1 p.from p.len (Some p) (last_by p) w.3 (omega (arith, h)) in
      rw (held, d, e, w.1, others, w.2)

  bound_most : (f : Features) → bound room store made f ≤ made + length store
  bound_most lists.Absent = omega arith
  bound_most (lists.Words from len) = omega (arith, clip_most from len store)
  bound_most (lists.Items place) = omega arith

  -- walked to its end it has 01's items
  pub list_by_lem : (f : Features) → Low f → list_by room store made (list_of f) ≡ some (feature_list room store made f)
  unfolding list_by
  list_by_lem f h =
      let ps = pieces room store made f in
      walk_by (ordered (bytes_all store ps)) (suc (made + length store)) (list_of f) f (features_by_lem f h) 0 0 0 None first_by (walk_ordered store ps)
      (omega (arith, ordered_most (bytes_all store ps), bytes_length store ps, pieces_most room store made f 0, bound_most f))
