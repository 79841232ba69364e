-- The board and the image: one law for each way out.
use Prim.Native.Nat.{ℕ}
use mathlib.Core.Bool.{false}
use mathlib.Core.List.{List, [], ◌∷◌}
use mathlib.Core.Path.{◌≡◌, refl, sym, ap, ◌∙◌}
use native.Mathlib.Omega.{arith}
use Rattle.meaning.specs.Base.{ascii}
use Rattle.tree.specs.declared.Value.{Value}
use Rattle.tree.specs.declared.Value.TheVariants as values
use Rattle.tree.specs.declared.Fields.{Fields}
use Rattle.tree.specs.Doors.{Rooms, Spread, field, fields_of, no_fields}
use Rattle.tree.specs.Spans.{spread_fields}
use Rattle.laws.specs.Variants.{Left, others}
use Rattle.tree.specs.contracts.Value.{enum}
use Rattle.std.specs.Prelude.{unwrap_or}
use Rattle.schema.specs.contracts.Text as text
use Rattle.schema.specs.declared.Text.{Text}
use Rattle.schema.specs.declared.Text.TheVariants as texts
use Rattle.schema.specs.declared.Word.{Word}
use Rattle.schema.specs.declared.Word.TheVariants as words
use Rattle.schema.specs.declared.Chip.{Chip}
use Rattle.schema.specs.declared.Chip.TheVariants.{D13x}
use Rattle.schema.specs.declared.Media.{Media}
use Rattle.parse.specs.declared.field.MediaRead.{MediaRead}
use Rattle.schema.specs.Words.{chip_word as word_of, target_word, media_choice}
use Rattle.schema.specs.Texts.{or_text}
use Rattle.parse.specs.declared.Refusal.{Refusal}
use Rattle.parse.specs.declared.field.TextRead.{TextRead}
use Rattle.parse.specs.declared.field.NumberRead.{NumberRead}
use Rattle.parse.specs.declared.front.TableRead.{TableRead}
use Rattle.parse.specs.declared.front.ChipFound.{ChipFound}
use Rattle.parse.specs.declared.front.BoardRead.{BoardRead}
use Rattle.parse.specs.declared.front.ImageNames.{ImageNames}
use Rattle.parse.specs.declared.front.ImageRead.{ImageRead}
use Rattle.parse.specs.declared.front.ImageRest.{ImageRest}
use Rattle.parse.specs.declared.front.Front.{Front}
use Rattle.parse.specs.Fields.{first_fault, text_at, number_at, media_at}
use Rattle.parse.specs.Refusals.{in_section, earlier}
use Rattle.parse.specs.Front.{table_of, table_at, chip_word, chosen, chosen_by, sections, chip_of, board_read, image_names, image_rest, image_read, front_of, front_read}

-- ---- tables of the root
module _ (room : List ℕ) (made : ℕ) where
  module _ (store : List ℕ) (root : Fields) (key : List ℕ) (v : Value) (e : v ≡ field room store root key) where
    pub table_is : (w : Value) (r : TableRead) → v ≡ w → r ≡ table_of room made w → r ≡ table_at room store made root key
    table_is w r m h = h ∙ ap (table_of room made) (sym m ∙ e)

    pub table_not : (r : TableRead) → Left enum (1 ∷ 2 ∷ 3 ∷ 4 ∷ []) v → r ≡ table_of room made (values.Flag false) → r ≡ table_at room store made root key
    table_not r o h = h ∙ others enum (λ w. table_of room made (values.Flag false) ≡ table_of room made w) (1 ∷ 2 ∷ 3 ∷ 4 ∷ []) (λ _. refl) (λ _. refl) (λ _. refl) (λ _. refl) v o ∙ ap (table_of room made) e

    pub table_there : (p : ℕ) (f : Fields) → v ≡ values.Table p → f ≡ fields_of room made p → record { fault = 0; fields = f } ≡ table_at room store made root key
    table_there p f m h = rw (h, ← e, m)

-- ---- a table's fields stand among the values made
pub spread_none : (room : List ℕ) → Spread room no_fields
spread_none room = record { order = omega arith; fits = record { fits = omega arith }; low = omega arith }

module _ (room : List ℕ) (made : ℕ) (h : Rooms room made) where
  spread_table : (v : Value) → Spread room (table_of room made v).fields
  spread_table values.Absent = spread_none room
  spread_table (values.Text from len) = spread_none room
  spread_table (values.Number n m) = spread_none room
  spread_table (values.Flag b) = spread_none room
  spread_table (values.Array p) = spread_none room
  spread_table (values.Table p) = spread_fields room made p h.fits h.low

  pub table_spreads : (store : List ℕ) (root : Fields) (key : List ℕ) (r : TableRead) → r ≡ table_at room store made root key → Spread room r.fields
  table_spreads store root key r e = rw e (spread_table (field room store root key))

-- ---- the chip
pub sections_are : (board image : ℕ) (a b r : Refusal) → r ≡ earlier a b → a ≡ in_section 1 board → b ≡ in_section 2 image → r ≡ sections board image
sections_are board image a b r h ea eb = h ∙ rw (ea, eb)

module _ (store : List ℕ) where
  module _ (c p : Text) where
    pub chosen_first : (from len : ℕ) (r : ChipFound) → c ≡ texts.Stored from len → r ≡ chip_word store from len 1 → r ≡ chosen store c p
    chosen_first from len r e h = rw e h

    -- all but a string of the store
    module _ (o : Left text.enum (0 ∷ 2 ∷ 3 ∷ 4 ∷ []) c) where
      passed : chosen_by store p ≡ chosen store c p
      passed = others text.enum (λ t. chosen_by store p ≡ chosen store t p) (0 ∷ 2 ∷ 3 ∷ 4 ∷ []) (λ _. refl) (λ _. refl) (λ _. refl) (λ _. refl) c o

      pub chosen_second : (from len : ℕ) (r : ChipFound) → p ≡ texts.Stored from len → r ≡ chip_word store from len 2 → r ≡ chosen store c p
      chosen_second from len r e h = (rw e h) ∙ passed

      pub chosen_none : (q : Refusal) → Left text.enum (0 ∷ 2 ∷ 3 ∷ 4 ∷ []) p → q ≡ in_section 0 0 → record { fault = q; chip = D13x } ≡ chosen store c p
      chosen_none q n e = rw e (others text.enum (λ t. record { fault = in_section 0 0; chip = D13x } ≡ chosen_by store t) (0 ∷ 2 ∷ 3 ∷ 4 ∷ []) (λ _. refl) (λ _. refl) (λ _. refl) (λ _. refl) p n) ∙ passed

module _ (room store : List ℕ) where
  pub chip_of_lem : (board image : Fields) (c p : TextRead) (w : ChipFound) (a b : Refusal)
      → w ≡ chosen store c.text p.text → c ≡ text_at room store board (ascii "chip") → p ≡ text_at room store image (ascii "platform")
      → b ≡ earlier a w.fault → a ≡ sections c.fault p.fault
      → record { fault = b; chip = w.chip } ≡ chip_of room store board image
  unfolding chip_of
  chip_of_lem board image c p w a b ew ec ep eb ea = rw (eb, ea, ew, ec, ep)

  -- ---- the records
  pub board_is : (f : Fields) (chip : Chip) (lent : Text) (name target profile : TextRead) (a b : ℕ) (n t p : Text) (w : Word)
      → name ≡ text_at room store f (ascii "name") → target ≡ text_at room store f (ascii "target") → profile ≡ text_at room store f (ascii "profile")
      → a ≡ first_fault target.fault profile.fault → b ≡ first_fault name.fault a
      → n ≡ or_text name.text lent → w ≡ target_word chip → t ≡ or_text target.text (texts.Fixed w) → p ≡ or_text profile.text (texts.Fixed words.Release)
      → record { fault = b; board = record { name = n; chip = chip; target = t; profile = p } } ≡ board_read room store f chip lent
  unfolding board_read
  board_is f chip lent name target profile a b n t p w e1 e2 e3 ea eb en ew et ep = rw (eb, ea, en, et, ew, ep, e1, e2, e3)

  pub names_are : (f : Fields) (chip : Chip) (platform product version : TextRead) (a b : ℕ) (x y z : Text) (w : Word)
      → platform ≡ text_at room store f (ascii "platform") → product ≡ text_at room store f (ascii "product") → version ≡ text_at room store f (ascii "version")
      → a ≡ first_fault product.fault version.fault → b ≡ first_fault platform.fault a
      → w ≡ word_of chip → x ≡ or_text platform.text (texts.Fixed w) → y ≡ or_text product.text (texts.Fixed words.Unknown) → z ≡ or_text version.text (texts.Fixed words.Version)
      → record { fault = b; platform = x; product = y; version = z } ≡ image_names room store f chip
  unfolding image_names
  names_are f chip platform product version a b x y z w e1 e2 e3 ea eb ew ex ey ez = rw (eb, ea, ex, ew, ey, ez, e1, e2, e3)

  pub rest_is : (f : Fields) (dev : NumberRead) (id app : TextRead) (a b n : ℕ) (x y : Text)
      → dev ≡ number_at room store f (ascii "media_dev_id") → id ≡ text_at room store f (ascii "media_id") → app ≡ text_at room store f (ascii "app")
      → a ≡ first_fault id.fault app.fault → b ≡ first_fault dev.fault a
      → n ≡ unwrap_or dev.number 0 → x ≡ or_text id.text (texts.Stored 0 0) → y ≡ or_text app.text (texts.Stored 0 0)
      → record { fault = b; media_dev_id = n; media_id = x; app = y } ≡ image_rest room store f
  unfolding image_rest
  rest_is f dev id app a b n x y e1 e2 e3 ea eb en ex ey = rw (eb, ea, en, ex, ey, e1, e2, e3)

  pub image_is : (f : Fields) (chip : Chip) (names : ImageNames) (d : Media) (kept : MediaRead) (rest : ImageRest) (a b : ℕ)
      → names ≡ image_names room store f chip → kept ≡ media_at room store f d → d ≡ media_choice chip → rest ≡ image_rest room store f
      → b ≡ first_fault names.fault a → a ≡ first_fault kept.fault rest.fault
      → record {
        fault = b;
        image = record {
          platform = names.platform;
          product = names.product;
          version = names.version;
          media = kept.media;
          media_dev_id = rest.media_dev_id;
          media_id = rest.media_id;
          app = rest.app;
        };
      } ≡ image_read room store f chip
  unfolding image_read
  image_is f chip names d kept rest a b en ek ed er eb ea = rw (eb, ea, en, ek, ed, er)

  pub front_is : (b i : TableRead) (lent : Text) (c : ChipFound) (board : BoardRead) (image : ImageRead) (x y z w : Refusal)
      → board ≡ board_read room store b.fields c.chip lent → image ≡ image_read room store i.fields c.chip → c ≡ chip_of room store b.fields i.fields
      → w ≡ earlier x z → x ≡ sections b.fault i.fault → z ≡ earlier c.fault y → y ≡ sections board.fault image.fault
      → record { fault = w; board = board.board; image = image.image } ≡ front_of room store b i lent
  unfolding front_of
  front_is b i lent c board image x y z w eb ei ec ew ex ez ey = rw (ew, ex, ez, ey, eb, ei, ec)

  pub front_read_lem : (made : ℕ) (root : Fields) (lent : Text) (b i : TableRead) (r : Front)
      → b ≡ table_at room store made root (ascii "board") → i ≡ table_at room store made root (ascii "image") → r ≡ front_of room store b i lent → r ≡ front_read room store made root lent
  front_read_lem made root lent b i r eb ei h = h ∙ rw (eb, ei)
