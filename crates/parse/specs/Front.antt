-- Level 2 of the board and the image.
use Rattle.std.specs.Prelude.{ℕ, List, unwrap_or}
use Rattle.std.specs.Result.{result_unwrap_or}
use Rattle.meaning.specs.Base.{ascii}
use Rattle.meaning.specs.Numbered.{told}
use Rattle.tree.specs.declared.Value.{Value}
use Rattle.tree.specs.declared.Value.TheVariants as values
use Rattle.tree.specs.declared.Fields.{Fields}
use Rattle.tree.specs.Doors.{field, fields_of, no_fields}
use Rattle.schema.specs.declared.Text.{Text}
use Rattle.schema.specs.declared.Text.TheVariants as texts
use Rattle.schema.specs.declared.Chip.{Chip}
use Rattle.schema.specs.declared.Chip.TheVariants.{D13x}
use Rattle.schema.specs.declared.Word.TheVariants as words
use Rattle.schema.specs.Words.{chip_read, chip_word as word_of, target_word, media_choice}
use Rattle.schema.specs.Texts.{clip, or_text}
use Rattle.parse.specs.declared.Refusal.{Refusal}
use Rattle.parse.specs.declared.front.TableRead.{TableRead}
use Rattle.parse.specs.declared.front.ChipFound.{ChipFound}
use Rattle.parse.specs.declared.front.BoardRead.{BoardRead}
use Rattle.parse.specs.declared.front.ImageNames.{ImageNames}
use Rattle.parse.specs.declared.front.ImageRest.{ImageRest}
use Rattle.parse.specs.declared.front.ImageRead.{ImageRead}
use Rattle.parse.specs.declared.front.Front.{Front}
use Rattle.parse.specs.Fields.{first_fault, text_at, number_at, media_at}
use Rattle.parse.specs.Refusals.{in_section, earlier}

-- ---- tables of the root

abbrev pub no_table : ℕ → TableRead
no_table n = record { fault = n; fields = no_fields }

abbrev pub table_of : List ℕ → ℕ → Value → TableRead
table_of room made values.Absent = no_table 0
table_of room made (values.Text from len) = no_table 20
table_of room made (values.Number n m) = no_table 20
table_of room made (values.Flag b) = no_table 20
table_of room made (values.Array p) = no_table 20
table_of room made (values.Table p) = record { fault = 0; fields = fields_of room made p }

abbrev pub table_at : List ℕ → List ℕ → ℕ → Fields → List ℕ → TableRead
table_at room store made root key = table_of room made (field room store root key)

-- ---- the chip

abbrev pub chip_word : List ℕ → ℕ → ℕ → ℕ → ChipFound
chip_word store from len section = let r = chip_read (clip from len store) in record { fault = in_section section (told r); chip = result_unwrap_or r D13x }

abbrev pub chosen_by : List ℕ → Text → ChipFound
chosen_by store texts.Absent = record { fault = in_section 0 0; chip = D13x }
chosen_by store (texts.Stored from len) = chip_word store from len 2
chosen_by store texts.Lent = record { fault = in_section 0 0; chip = D13x }
chosen_by store (texts.Fixed w) = record { fault = in_section 0 0; chip = D13x }
chosen_by store (texts.WithAic from len) = record { fault = in_section 0 0; chip = D13x }

abbrev pub chosen : List ℕ → Text → Text → ChipFound
chosen store texts.Absent p = chosen_by store p
chosen store (texts.Stored from len) p = chip_word store from len 1
chosen store texts.Lent p = chosen_by store p
chosen store (texts.Fixed w) p = chosen_by store p
chosen store (texts.WithAic from len) p = chosen_by store p

-- the board's fault, then the image's
abbrev pub sections : ℕ → ℕ → Refusal
sections board image = earlier (in_section 1 board) (in_section 2 image)

module _ (room store : List ℕ) where
  unfoldable pub chip_of : Fields → Fields → ChipFound
  chip_of board image =
      let c = text_at room store board (ascii "chip") in
      let p = text_at room store image (ascii "platform") in
      let w = chosen store c.text p.text in
      record { fault = earlier (sections c.fault p.fault) w.fault; chip = w.chip }

  -- ---- the records

  unfoldable pub board_read : Fields → Chip → Text → BoardRead
  board_read f chip lent =
      let name = text_at room store f (ascii "name") in
      let target = text_at room store f (ascii "target") in
      let profile = text_at room store f (ascii "profile") in
      record {
        fault = first_fault name.fault (first_fault target.fault profile.fault);
        board = record {
          name = or_text name.text lent;
          chip = chip;
          target = or_text target.text (texts.Fixed (target_word chip));
          profile = or_text profile.text (texts.Fixed words.Release);
        };
      }

  unfoldable pub image_names : Fields → Chip → ImageNames
  image_names f chip =
      let platform = text_at room store f (ascii "platform") in
      let product = text_at room store f (ascii "product") in
      let version = text_at room store f (ascii "version") in
      record {
        fault = first_fault platform.fault (first_fault product.fault version.fault);
        platform = or_text platform.text (texts.Fixed (word_of chip));
        product = or_text product.text (texts.Fixed words.Unknown);
        version = or_text version.text (texts.Fixed words.Version);
      }

  unfoldable pub image_rest : Fields → ImageRest
  image_rest f =
      let dev = number_at room store f (ascii "media_dev_id") in
      let id = text_at room store f (ascii "media_id") in
      let app = text_at room store f (ascii "app") in
      record {
        fault = first_fault dev.fault (first_fault id.fault app.fault);
        media_dev_id = unwrap_or dev.number 0;
        media_id = or_text id.text (texts.Stored 0 0);
        app = or_text app.text (texts.Stored 0 0);
      }

  unfoldable pub image_read : Fields → Chip → ImageRead
  image_read f chip =
      let names = image_names f chip in
      let kept = media_at room store f (media_choice chip) in
      let rest = image_rest f in
      record {
        fault = first_fault names.fault (first_fault kept.fault rest.fault);
        image = record {
          platform = names.platform;
          product = names.product;
          version = names.version;
          media = kept.media;
          media_dev_id = rest.media_dev_id;
          media_id = rest.media_id;
          app = rest.app;
        };
      }

  unfoldable pub front_of : TableRead → TableRead → Text → Front
  front_of b i lent =
      let c = chip_of b.fields i.fields in
      let board = board_read b.fields c.chip lent in
      let image = image_read i.fields c.chip in
      record {
        fault = earlier (sections b.fault i.fault) (earlier c.fault (sections board.fault image.fault));
        board = board.board;
        image = image.image;
      }

  abbrev pub front_read : ℕ → Fields → Text → Front
  front_read made root lent = front_of (table_at room store made root (ascii "board")) (table_at room store made root (ascii "image")) lent
