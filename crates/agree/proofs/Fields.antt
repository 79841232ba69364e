-- Fields read from the rooms are fields of 01's tree, of each kind.
use Rattle.std.specs.Prelude.{ℕ, suc, ◌+◌, ◌≤◌, false, ◌≡◌, refl, leb, ltb, pos, negsuc, length, unwrap_or, Option as Maybe, Some, None}
use mathlib.Core.List.{List, [], ◌∷◌}
use Rattle.std.proofs.Math.Option.{Option, none, some}
use Rattle.std.proofs.Math.Path.{ap}
use Rattle.std.proofs.Common.{arith, le-leb}
use Rattle.std.specs.Result.{result_unwrap_or}
use Rattle.meaning.specs.Base.{pick, or_default, part, ascii, same}
use Rattle.meaning.specs.Numbered.{told as refusal}
use Rattle.meaning.specs.Refusal.{R, ok, bad, ok_then}
use Rattle.meaning.specs.Tree.{Value, Items, str, int, boolean, array, table, none', item, count}
use Rattle.meaning.specs.Fields.{a_text, a_number, a_flag, in_range, a_word, need, present, values}
use Rattle.meaning.specs.Features.{words, texts as textsOf, a_features}
use Rattle.meaning.specs.Schema as meant
use Rattle.laws.specs.Cases.{on}
use Rattle.tree.specs.declared.Slot.{Slot}
use Rattle.tree.specs.declared.Value.{Value as Read}
use Rattle.tree.specs.Doors.{value_at, items}
use Rattle.schema.specs.declared.Text.{Text}
use Rattle.schema.specs.declared.Text.TheVariants as texts
use Rattle.schema.specs.declared.Chip.TheVariants.{D13x}
use Rattle.schema.specs.declared.Media.{Media}
use Rattle.schema.specs.Words.{word, chip_read, media_read, kind_read, chip_meant, media_meant, kind_meant}
use Rattle.schema.specs.Texts.{clip, spelled, optional, or_text, start_of, length_of, amount}
use Rattle.features.specs.Pieces.{piece_of, is_text, pieces_at, all_texts, bytes_of, pieces_from, few_words, few_items, features_read}
use Rattle.features.specs.Ordered.{bytes_all, words_pieces, words_length}
use Rattle.agree.specs.Reads.{Place}
use Rattle.agree.specs.Doors.{Sees, Spelt, Standing, Told, value_for}
use Rattle.agree.proofs.Doors.{All-see, items_see, items_long}
use Rattle.parse.specs.Fields.{first_fault, text_read, number_read, ranged, flag_read, missing, kind_said, media_said, kind_of, media_of}
use Rattle.parse.specs.Meant.{Got, feature_list}
use Rattle.parse.specs.Reads.{Gives, gives_made, Kept, text_kept, else_spelled, clip_none}

else_amount : (n : Maybe ℕ) (d : ℕ) → unwrap_or n d ≡ or_default (amount n) d
else_amount None d = refl
else_amount (Some n) d = refl

-- a stored text's bytes
clip_is : (store : List ℕ) (from : ℕ) (s : List ℕ) → from + length s ≤ length store → part from (from + length s) store ≡ s → clip from (length s) store ≡ s
unfolding clip
clip_is store from s h e = rw (le-leb (from + length s) (length store) h, e)

-- ---- words

pub kind_got : (w : List ℕ) → Got (meant.kind_of w) (kind_said (kind_read w)).fault (kind_meant (kind_said (kind_read w)).kind)
unfolding meant.kind_of meant.kind_word kind_read word
kind_got w =
    on (same w (ascii "app")) (λ e. rw e (refl, refl))
    (λ e. on (same w (ascii "pbp")) (λ f. rw (e, f) (refl, refl))
    (λ f. on (same w (ascii "raw")) (λ g. rw (e, f, g) (refl, refl)) (λ g. rw (e, f, g) (refl, omega arith))))

pub media_got : (w : List ℕ) → Got (meant.media_of w) (media_said (media_read w)).fault (media_meant (media_said (media_read w)).media)
unfolding meant.media_of meant.media_word media_read word
media_got w =
    on (same w (ascii "spi-nor")) (λ e. rw e (refl, refl))
    (λ e. on (same w (ascii "spi-nand")) (λ f. rw (e, f) (refl, refl)) (λ f. rw (e, f) (refl, omega arith)))

pub chip_got : (w : List ℕ) → Got (meant.chip_of w) (refusal (chip_read w)) (chip_meant (result_unwrap_or (chip_read w) D13x))
unfolding meant.chip_of meant.chip_word chip_read word
chip_got w =
    on (same w (ascii "d13x")) (λ e. rw e (refl, refl))
    (λ e. on (same w (ascii "d21x")) (λ f. rw (e, f) (refl, refl)) (λ f. rw (e, f) (refl, omega arith)))

-- ---- a field

wrong : 1 ≤ 20
wrong = omega arith

module _ (store : List ℕ) (name : List ℕ) where
  text_by_lem : (o : Option Value) (v : Read) (from place : ℕ) → v ≡ value_for from place o → Spelt store from o
      → Got (present a_text o) (text_read v).fault (optional store name (text_read v).text)
  unfolding a_text
  text_by_lem none v from place e d = rw e (refl, refl)
  text_by_lem (some (str s)) v from place e d = rw e (refl, ap some (clip_is store from s d.0 d.1))
  text_by_lem (some (int (pos n))) v from place e d = rw e (refl, wrong)
  text_by_lem (some (int (negsuc n))) v from place e d = rw e (refl, wrong)
  text_by_lem (some (boolean b)) v from place e d = rw e (refl, wrong)
  text_by_lem (some (array a)) v from place e d = rw e (refl, wrong)
  text_by_lem (some (table t)) v from place e d = rw e (refl, wrong)

  text_need_by : (o : Option Value) (v : Read) (from place : ℕ) → v ≡ value_for from place o → Spelt store from o
      → Got (ok_then (present a_text o) (need 24)) (first_fault (text_read v).fault (missing v)) (spelled store name (text_read v).text)
  unfolding a_text
  text_need_by none v from place e d = rw e (refl, omega arith)
  text_need_by (some (str s)) v from place e d = rw e (refl, clip_is store from s d.0 d.1)
  text_need_by (some (int (pos n))) v from place e d = rw e (refl, wrong)
  text_need_by (some (int (negsuc n))) v from place e d = rw e (refl, wrong)
  text_need_by (some (boolean b)) v from place e d = rw e (refl, wrong)
  text_need_by (some (array a)) v from place e d = rw e (refl, wrong)
  text_need_by (some (table t)) v from place e d = rw e (refl, wrong)

  spelled_clip : (t : Text) → Kept t → clip (start_of t) (length_of t) store ≡ spelled store name t
  spelled_clip texts.Absent h = clip_none store
  spelled_clip (texts.Stored from len) h = refl
  spelled_clip texts.Lent h = absurd h
  spelled_clip (texts.Fixed w) h = absurd h
  spelled_clip (texts.WithAic from len) h = absurd h

-- an integer in its range
number_pos : (n : ℕ) → Got (ok_then (in_range (pos n)) (λ x. ok (some x))) (ranged false n).fault (amount (ranged false n).number)
unfolding in_range ranged
number_pos n = on (leb n 4294967295) (λ e. rw e (refl, refl)) (λ e. rw e (refl, omega arith))

number_by : (o : Option Value) (v : Read) (from place : ℕ) → v ≡ value_for from place o → Got (present a_number o) (number_read v).fault (amount (number_read v).number)
unfolding a_number in_range ranged
number_by none v from place e = rw e (refl, refl)
number_by (some (str s)) v from place e = rw e (refl, wrong)
number_by (some (int (pos n))) v from place e = rw e (number_pos n)
number_by (some (int (negsuc n))) v from place e = rw e (refl, omega arith)
number_by (some (boolean b)) v from place e = rw e (refl, wrong)
number_by (some (array a)) v from place e = rw e (refl, wrong)
number_by (some (table t)) v from place e = rw e (refl, wrong)

number_need_by : (o : Option Value) (v : Read) (from place : ℕ) → v ≡ value_for from place o
    → Got (ok_then (present a_number o) (need 24)) (first_fault (number_read v).fault (missing v)) (unwrap_or (number_read v).number 0)
unfolding a_number in_range ranged
number_need_by none v from place e = rw e (refl, omega arith)
number_need_by (some (str s)) v from place e = rw e (refl, wrong)
number_need_by (some (int (pos n))) v from place e = rw e (on (leb n 4294967295) (λ t. rw t (refl, refl)) (λ t. rw t (refl, omega arith)))
number_need_by (some (int (negsuc n))) v from place e = rw e (refl, omega arith)
number_need_by (some (boolean b)) v from place e = rw e (refl, wrong)
number_need_by (some (array a)) v from place e = rw e (refl, wrong)
number_need_by (some (table t)) v from place e = rw e (refl, wrong)

flag_by_lem : (o : Option Value) (v : Read) (from place : ℕ) → v ≡ value_for from place o
    → Got (ok_then (present a_flag o) (λ p. ok (or_default p false))) (flag_read v).fault (flag_read v).flag
unfolding a_flag
flag_by_lem none v from place e = rw e (refl, refl)
flag_by_lem (some (str s)) v from place e = rw e (refl, wrong)
flag_by_lem (some (int (pos n))) v from place e = rw e (refl, wrong)
flag_by_lem (some (int (negsuc n))) v from place e = rw e (refl, wrong)
flag_by_lem (some (boolean b)) v from place e = rw e (refl, refl)
flag_by_lem (some (array a)) v from place e = rw e (refl, wrong)
flag_by_lem (some (table t)) v from place e = rw e (refl, wrong)

-- a word, where there is one
word_got : {X : Type 0} (r : R X) (n : ℕ) (y d : X) → Got r n y → Got (ok_then (ok_then r (λ w. ok (some w))) (λ p. ok (or_default p d))) n y
word_got (ok w) n y d g = g
word_got (bad b) n y d g = g

kind_by_lem : (store : List ℕ) (o : Option Value) (v : Read) (from place : ℕ) → v ≡ value_for from place o → Spelt store from o
    → Got (ok_then (present (a_word meant.kind_of) o) (λ p. ok (or_default p meant.kindRaw))) (kind_of store (text_read v) (text_read v).text).fault
    (kind_meant (kind_of store (text_read v) (text_read v).text).kind)
unfolding a_text
kind_by_lem store none v from place e d = rw e (refl, refl)
kind_by_lem store (some (str s)) v from place e d =
    rw (e, clip_is store from s d.0 d.1) (word_got (meant.kind_of s) (kind_said (kind_read s)).fault (kind_meant (kind_said (kind_read s)).kind) meant.kindRaw (kind_got s))
kind_by_lem store (some (int (pos n))) v from place e d = rw e (refl, wrong)
kind_by_lem store (some (int (negsuc n))) v from place e d = rw e (refl, wrong)
kind_by_lem store (some (boolean b)) v from place e d = rw e (refl, wrong)
kind_by_lem store (some (array a)) v from place e d = rw e (refl, wrong)
kind_by_lem store (some (table t)) v from place e d = rw e (refl, wrong)

media_by_lem : (store : List ℕ) (m : Media) (o : Option Value) (v : Read) (from place : ℕ) → v ≡ value_for from place o → Spelt store from o
    → Got (ok_then (present (a_word meant.media_of) o) (λ p. ok (or_default p (media_meant m)))) (media_of store m (text_read v) (text_read v).text).fault
    (media_meant (media_of store m (text_read v) (text_read v).text).media)
unfolding a_text
media_by_lem store m none v from place e d = rw e (refl, refl)
media_by_lem store m (some (str s)) v from place e d =
    rw (e, clip_is store from s d.0 d.1) (word_got (meant.media_of s) (media_said (media_read s)).fault (media_meant (media_said (media_read s)).media) (media_meant m) (media_got s))
media_by_lem store m (some (int (pos n))) v from place e d = rw e (refl, wrong)
media_by_lem store m (some (int (negsuc n))) v from place e d = rw e (refl, wrong)
media_by_lem store m (some (boolean b)) v from place e d = rw e (refl, wrong)
media_by_lem store m (some (array a)) v from place e d = rw e (refl, wrong)
media_by_lem store m (some (table t)) v from place e d = rw e (refl, wrong)

module _ (store bytes : List ℕ) (vs : List Slot) (x : Value) (name : List ℕ) (o : Option Value) (v : Read) (s : Sees store bytes vs x o v) where
  pub text_got : Gives (present a_text o) (text_read v).fault (optional store name (text_read v).text)
  text_got = record { got = text_by_lem store name o v s.from s.place s.is s.spelt }

  -- with a default
  pub text_or_got : (d : Text) (b : List ℕ) → spelled store name d ≡ b
      → Gives (ok_then (present a_text o) (λ p. ok (or_default p b))) (text_read v).fault (spelled store name (or_text (text_read v).text d))
  text_or_got d b e = rw (else_spelled store name (text_read v).text d, e) (gives_made (λ p. or_default p b) text_got)

  -- one that must be there
  pub text_need_got : Gives (ok_then (present a_text o) (need 24)) (first_fault (text_read v).fault (missing v)) (spelled store name (text_read v).text)
  text_need_got = record { got = text_need_by store name o v s.from s.place s.is s.spelt }

  -- and by where it lies
  pub text_place_got : Gives (ok_then (present a_text o) (need 24)) (first_fault (text_read v).fault (missing v)) (clip (start_of (text_read v).text) (length_of (text_read v).text) store)
  text_place_got = rw (spelled_clip store name (text_read v).text (text_kept v)) text_need_got

  pub number_got : Gives (present a_number o) (number_read v).fault (amount (number_read v).number)
  number_got = record { got = number_by o v s.from s.place s.is }

  pub number_or_got : (d : ℕ) → Gives (ok_then (present a_number o) (λ p. ok (or_default p d))) (number_read v).fault (unwrap_or (number_read v).number d)
  number_or_got d = rw (else_amount (number_read v).number d) (gives_made (λ p. or_default p d) number_got)

  pub number_need_got : Gives (ok_then (present a_number o) (need 24)) (first_fault (number_read v).fault (missing v)) (unwrap_or (number_read v).number 0)
  number_need_got = record { got = number_need_by o v s.from s.place s.is }

  pub flag_got : Gives (ok_then (present a_flag o) (λ p. ok (or_default p false))) (flag_read v).fault (flag_read v).flag
  flag_got = record { got = flag_by_lem o v s.from s.place s.is }

  pub kind_field_got : Gives (ok_then (present (a_word meant.kind_of) o) (λ p. ok (or_default p meant.kindRaw))) (kind_of store (text_read v) (text_read v).text).fault
      (kind_meant (kind_of store (text_read v) (text_read v).text).kind)
  kind_field_got = record { got = kind_by_lem store o v s.from s.place s.is s.spelt }

  pub media_field_got : (m : Media) → Gives (ok_then (present (a_word meant.media_of) o) (λ p. ok (or_default p (media_meant m)))) (media_of store m (text_read v) (text_read v).text).fault
      (media_meant (media_of store m (text_read v) (text_read v).text).media)
  media_field_got m = record { got = media_by_lem store m o v s.from s.place s.is s.spelt }

-- ---- a feature list

item_text : (store : List ℕ) (v : Value) (w : Read) (from place : ℕ) → w ≡ value_for from place (some v) → Spelt store from (some v)
    → a_text v ≡ pick (is_text w) (ok (bytes_of store (piece_of w))) (bad 20)
unfolding a_text
item_text store (str s) w from place e d = rw (e, clip_is store from s d.0 d.1)
item_text store (int (pos n)) w from place e d = rw e
item_text store (int (negsuc n)) w from place e d = rw e
item_text store (boolean b) w from place e d = rw e
item_text store (array a) w from place e d = rw e
item_text store (table t) w from place e d = rw e

items_count : (is : Items) → count is ≡ length (values is)
items_count none' = refl
items_count (item v is) = ap suc (items_count is)

module _ (room store bytes : List ℕ) (vs : List Slot) (x : Value) (made : ℕ) (h : Told room store bytes vs x made) where
  -- an array's items are texts, or one is none
  texts_are : (is : Items) (ns : List ℕ) → All-see room store bytes vs x made (values is) ns
      → textsOf is ≡ pick (all_texts room store ns) (ok (bytes_all store (pieces_at room store ns))) (bad 20)
  texts_are none' [] a = refl
  texts_are none' (n ∷ ns) a = absurd a
  texts_are (item v is) [] a = absurd a
  texts_are (item v is) (n ∷ ns) a =
      rw (item_text store v (value_at room store n) a.2.from a.2.place a.2.is a.2.spelt, texts_are is ns a.3)
      (on (is_text (value_at room store n)) (λ e. rw e (on (all_texts room store ns) (λ f. rw f) (λ f. rw f))) (λ e. rw e))

  module _ (limit : ℕ) where
    words_got : (from : ℕ) (s : List ℕ) → clip from (length s) store ≡ s
        → Got (a_features limit (str s)) (few_words store limit from (length s)).fault (feature_list room store made (few_words store limit from (length s)).features)
    unfolding a_features pieces_from
    words_got from s e =
        rw (words_length store from (length s), e)
        (on (ltb limit (length (words s))) (λ f. rw f (refl, omega arith)) (λ f. rw (f, words_pieces store from (length s), e) (refl, refl)))

    items_got : (place : ℕ) (is : Items) → Place bytes vs x place (array is)
        → Got (a_features limit (array is)) (few_items room store made limit place).fault (feature_list room store made (few_items room store made limit place).features)
    unfolding a_features pieces_from
    items_got place is g =
        let a = items_see room store bytes vs x made h place is g in
        rw (items_count is, items_long room store bytes vs x made h place is g, texts_are is (items room made place 0) a)
        (on (ltb limit (length (values is))) (λ f. rw f (refl, omega arith))
        (λ f. rw f (on (all_texts room store (items room made place 0)) (λ e. rw e (refl, refl)) (λ e. rw e (refl, wrong)))))

    features_by_lem : (o : Option Value) (v : Read) (from place : ℕ) → v ≡ value_for from place o → Spelt store from o → Standing bytes vs x place o
        → Got (ok_then (present (a_features limit) o) (λ p. ok (or_default p []))) (features_read room store made limit v).fault
        (feature_list room store made (features_read room store made limit v).features)
    unfolding features_read a_features pieces_from
    features_by_lem none v from place e d g = rw e (refl, refl)
    features_by_lem (some (str s)) v from place e d g =
        rw e
        (word_got (a_features limit (str s)) (few_words store limit from (length s)).fault (feature_list room store made (few_words store limit from (length s)).features) []
        (words_got from s (clip_is store from s d.0 d.1)))
    features_by_lem (some (int (pos n))) v from place e d g = rw e (refl, wrong)
    features_by_lem (some (int (negsuc n))) v from place e d g = rw e (refl, wrong)
    features_by_lem (some (boolean b)) v from place e d g = rw e (refl, wrong)
    features_by_lem (some (array is)) v from place e d g =
        rw e
        (word_got (a_features limit (array is)) (few_items room store made limit place).fault (feature_list room store made (few_items room store made limit place).features) []
        (items_got place is g))
    features_by_lem (some (table t)) v from place e d g = rw e (refl, wrong)

    pub features_got : (o : Option Value) (v : Read) → Sees store bytes vs x o v
        → Gives (ok_then (present (a_features limit) o) (λ p. ok (or_default p []))) (features_read room store made limit v).fault
        (feature_list room store made (features_read room store made limit v).features)
    features_got o v s = record { got = features_by_lem o v s.from s.place s.is s.spelt s.stands }
