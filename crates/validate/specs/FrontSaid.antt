-- A verdict's refusal says what the verdict says; the front's texts stand in one place each.
use Rattle.std.specs.Prelude.{ℕ, List, refl, eqb}
use Rattle.std.proofs.Common.{arith}
use Rattle.std.proofs.lemmas.Bool.{eqb-false}
use Rattle.meaning.specs.Base.{pick, nil?, ascii}
use Rattle.meaning.specs.Refusal.{accepted, refused, in_board, in_image}
use Rattle.meaning.specs.Verdict.{Verdict, first_refusal, judged, long}
use Rattle.meaning.specs.Schema as meant
use Rattle.meaning.specs.Rules as rules
use Rattle.laws.specs.Cases.{picked}
use Rattle.laws.specs.Never as never
use Rattle.tree.specs.declared.Fields.{Fields}
use Rattle.tree.specs.Doors.{field}
use Rattle.schema.specs.declared.Text.{Text}
use Rattle.schema.specs.declared.Text.TheVariants as texts
use Rattle.schema.specs.declared.Word.TheVariants as words
use Rattle.schema.specs.declared.Chip.{Chip}
use Rattle.schema.specs.declared.Board.{Board}
use Rattle.schema.specs.declared.Image.{Image}
use Rattle.schema.specs.Words.{chip_word, target_word}
use Rattle.schema.specs.Texts.{or_text}
use Rattle.parse.specs.Fields.{text_at}
use Rattle.parse.specs.Front.{chip_of, board_read, image_names, image_rest, image_read, front_of, front_read, table_at}
use Rattle.parse.specs.Entries.{refusal_of}
use Rattle.parse.specs.Meant.{board_meant, image_meant}
use Rattle.parse.specs.Reads.{Kept, text_kept}
use Rattle.parse.specs.Answers.{Told-by, Says}
use Rattle.validate.specs.Fronts.{Plain, Fronted, ruled}

-- ---- verdicts

-- 1 at least, where there is one
abbrev pub Numbered : Verdict → Type 0
Numbered (accepted u) = Unit {0}
Numbered (refused f section place) = never.Numbered f

-- the same as a record: its type names the verdict
pub record Sound (v : Verdict) : Type 0 where
  pub numbered_by : Numbered v

numbered_and : (v w : Verdict) → Numbered v → Numbered w → Numbered (first_refusal v w)
numbered_and (accepted u) w g h = h
numbered_and (refused f section place) w g h = g

told_verdict : (v : Verdict) → Numbered v → Told-by v (refusal_of v) tt
told_verdict (accepted u) h = (refl, refl)
told_verdict (refused f section place) h = (refl, h)

pub judged_sound : (section place n : ℕ) → Sound (judged section place n)
judged_sound section place n = record { numbered_by = picked Numbered (eqb n 0) (λ e. tt) (λ e. omega (arith, eqb-false n 0 e)) }

pub and_sound : {v w : Verdict} → Sound v → Sound w → Sound (first_refusal v w)
and_sound {v} {w} g h = record { numbered_by = numbered_and v w g.numbered_by h.numbered_by }

pub verdict_says : (v : Verdict) → Sound v → Says v (refusal_of v) tt
verdict_says v h = record { told_by = told_verdict v h.numbered_by }

-- ---- the front

front_sound : (b : meant.Board) (i : meant.Image) → Sound (rules.front_rules b i)
unfolding rules.front_rules
front_sound b i =
    and_sound (judged_sound in_image 0 (rules.device_fault b i))
    (and_sound (judged_sound in_board 0 (pick (nil? b.profile) 32 0))
    (and_sound (judged_sound in_image 0 (pick (long i.boot_app) 33 0)) (judged_sound in_board 0 (rules.width_fault b.chip (rules.chip_for b.target)))))

pub front_says : (store name : List ℕ) (b : Board) (i : Image)
    → Says (rules.front_rules (board_meant store store 0 name b) (image_meant store store 0 name i)) (ruled store name b i) tt
unfolding ruled
front_says store name b i = verdict_says _ (front_sound (board_meant store store 0 name b) (image_meant store store 0 name i))

or_plain : (t d : Text) → Kept t → Plain d → Plain (or_text t d)
or_plain texts.Absent d h p = p
or_plain (texts.Stored from len) d h p = tt
or_plain texts.Lent d h p = tt
or_plain (texts.Fixed w) d h p = tt
or_plain (texts.WithAic from len) d h p = absurd h

module _ (room store : List ℕ) (made : ℕ) (root : Fields) (lent : Text) where
  plain : (f : Fields) (key : List ℕ) (d : Text) → Plain d → Plain (or_text (text_at room store f key).text d)
  plain f key d p = or_plain (text_at room store f key).text d (text_kept (field room store f key)) p

  pub front_plain : Fronted (front_read room store made root lent).board (front_read room store made root lent).image
  unfolding front_of board_read image_read image_names image_rest
  front_plain =
      let b : Fields = (table_at room store made root (ascii "board")).fields in
      let i : Fields = (table_at room store made root (ascii "image")).fields in
      let chip : Chip = (chip_of room store b i).chip in
      record {
        target = plain b (ascii "target") (texts.Fixed (target_word chip)) tt;
        profile = plain b (ascii "profile") (texts.Fixed words.Release) tt;
        platform = plain i (ascii "platform") (texts.Fixed (chip_word chip)) tt;
        app = plain i (ascii "app") (texts.Stored 0 0) tt;
      }
