-- Tables, and board and image, read from the rooms are those of 01's tree.
use Rattle.std.specs.Prelude.{ℕ, List as Seq, ◌≡◌, refl, pos, negsuc}
use Rattle.std.proofs.Math.Option.{Option, none, some}
use Rattle.std.proofs.Common.{arith}
use Rattle.meaning.specs.Base.{or_default, ascii}
use Rattle.meaning.specs.Refusal.{R, ok, bad, ok_then}
use Rattle.meaning.specs.Tree.{Value, Table, str, int, boolean, array, table, empty, lookup}
use Rattle.meaning.specs.Fields.{a_table, present, field, table_at, outside}
use Rattle.meaning.specs.Schema as meant
use Rattle.meaning.specs.Records as records
use Rattle.tree.specs.declared.Slot.{Slot}
use Rattle.tree.specs.declared.Fields.{Fields}
use Rattle.tree.specs.declared.Value.{Value as Read}
use Rattle.tree.specs.Doors as doors
use Rattle.schema.specs.declared.Text.{Text}
use Rattle.schema.specs.declared.Text.TheVariants as texts
use Rattle.schema.specs.Words.{chip_meant}
use Rattle.schema.specs.Texts.{clip, spelled, optional}
use Rattle.agree.specs.Reads.{Place}
use Rattle.agree.specs.Doors.{Sees, Standing, Told, value_for}
use Rattle.agree.proofs.Doors.{field_sees, no_field_sees}
use Rattle.parse.specs.declared.front.TableRead.{TableRead}
use Rattle.parse.specs.Refusals.{in_section}
use Rattle.parse.specs.Fields.{text_at}
use Rattle.parse.specs.Front as front
use Rattle.parse.specs.Meant.{board_meant, image_meant}
use Rattle.parse.specs.Reads.{Kept, text_kept, Gives, gives_ok}
use Rattle.agree.proofs.Fields.{text_got, chip_got}
use Rattle.parse.specs.Answers.{Says, says_after, says_made, says_told, says_by, earlier_two}
use Rattle.agree.proofs.Groups.{board_got, image_got}

-- ---- a table

module _ (room store bytes : Seq ℕ) (vs : Seq Slot) (x : Value) where
  -- these fields are seen as the table's
  abbrev pub Fielded : Table → Fields → Type 0
  Fielded t f = (k : Seq ℕ) → Sees store bytes vs x (lookup t k) (doors.field room store f k)

  -- a reader of a table gives one, and its fields are seen
  pub record Tabled (m : R Table) (r : TableRead) : Type 0 where
    pub it : Table
    pub gives : Gives m r.fault it
    pub fields : Fielded it r.fields

module _ (room store bytes : Seq ℕ) (vs : Seq Slot) (x : Value) (made : ℕ) (h : Told room store bytes vs x made) where
  pub no_table_lem : (m : R Table) (n : ℕ) → Gives m n empty → Tabled room store bytes vs x m (front.no_table n)
  no_table_lem m n g = record { it = empty; gives = g; fields = no_field_sees room store bytes vs x made h }

  pub one_table : (p : ℕ) (t : Table) → Place bytes vs x p (table t) → Tabled room store bytes vs x (ok t) (record { fault = 0; fields = doors.fields_of room made p })
  one_table p t g = record { it = t; gives = gives_ok; fields = field_sees room store bytes vs x made h p t g }

  table_by : (o : Option Value) (v : Read) (from place : ℕ) → v ≡ value_for from place o → Standing bytes vs x place o
      → Tabled room store bytes vs x (ok_then (present a_table o) (λ p. ok (or_default p empty))) (front.table_of room made v)
  unfolding a_table
  table_by none v from place e g = rw e (no_table_lem (ok empty) 0 gives_ok)
  table_by (some (str s)) v from place e g = rw e (no_table_lem (bad 20) 20 (record { got = (refl, omega arith) }))
  table_by (some (int (pos n))) v from place e g = rw e (no_table_lem (bad 20) 20 (record { got = (refl, omega arith) }))
  table_by (some (int (negsuc n))) v from place e g = rw e (no_table_lem (bad 20) 20 (record { got = (refl, omega arith) }))
  table_by (some (boolean b)) v from place e g = rw e (no_table_lem (bad 20) 20 (record { got = (refl, omega arith) }))
  table_by (some (array a)) v from place e g = rw e (no_table_lem (bad 20) 20 (record { got = (refl, omega arith) }))
  table_by (some (table t)) v from place e g = rw e (one_table place t g)

  pub table_got : (t : Table) (f : Fields) → Fielded room store bytes vs x t f → (k : Seq ℕ) → Tabled room store bytes vs x (table_at t k) (front.table_at room store made f k)
  unfolding table_at field
  table_got t f fs k = table_by (lookup t k) (doors.field room store f k) (fs k).from (fs k).place (fs k).is (fs k).stands

  -- ---- board and image

  module _ (name : Seq ℕ) where
    -- the chip of a word in a section
    chip_says : (section from len : ℕ)
        → Says (outside section (meant.chip_of (clip from len store))) (front.chip_word store from len section).fault (chip_meant (front.chip_word store from len section).chip)
    chip_says section from len = says_told section 0 {m = meant.chip_of (clip from len store)} (record { got = chip_got (clip from len store) })

    chosen_by_says : (p : Text) → Kept p → Says (records.chosen none (optional store name p)) (front.chosen_by store p).fault (chip_meant (front.chosen_by store p).chip)
    unfolding records.chosen
    chosen_by_says texts.Absent k = record { told_by = (refl, refl) }
    chosen_by_says (texts.Stored from len) k = chip_says 2 from len
    chosen_by_says texts.Lent k = absurd k
    chosen_by_says (texts.Fixed w) k = absurd k
    chosen_by_says (texts.WithAic from len) k = absurd k

    chosen_says : (c p : Text) → Kept c → Kept p
        → Says (records.chosen (optional store name c) (optional store name p)) (front.chosen store c p).fault (chip_meant (front.chosen store c p).chip)
    unfolding records.chosen
    chosen_says texts.Absent p j k = chosen_by_says p k
    chosen_says (texts.Stored from len) p j k = chip_says 1 from len
    chosen_says texts.Lent p j k = absurd j
    chosen_says (texts.Fixed w) p j k = absurd j
    chosen_says (texts.WithAic from len) p j k = absurd j

    pub chip_from_says : (b i : Table) (f g : Fields) → Fielded room store bytes vs x b f → Fielded room store bytes vs x i g
        → Says (records.chip_from b i) (front.chip_of room store f g).fault (chip_meant (front.chip_of room store f g).chip)
    unfolding records.chip_from front.chip_of field
    chip_from_says b i f g fs gs =
        let c = text_at room store f (ascii "chip") in
        let p = text_at room store g (ascii "platform") in
        says_by (earlier_two (in_section 1 c.fault) (in_section 2 p.fault) (front.chosen store c.text p.text).fault)
        (says_after _ (says_told 1 0 (text_got store bytes vs x name _ _ (fs (ascii "chip"))))
        (says_after _ (says_told 2 0 (text_got store bytes vs x name _ _ (gs (ascii "platform"))))
        (chosen_says c.text p.text (text_kept (doors.field room store f (ascii "chip"))) (text_kept (doors.field room store g (ascii "platform"))))))

    pub front_says : (root : Table) (f : Fields) → Fielded room store bytes vs x root f → (lent : Text)
        → Says (records.front_of (spelled store name lent) root) (front.front_read room store made f lent).fault
        (record {
          board = board_meant room store made name (front.front_read room store made f lent).board;
          image = image_meant room store made name (front.front_read room store made f lent).image;
        })
    unfolding records.front_of front.front_of
    front_says root f fs lent =
        let b = table_got root f fs (ascii "board") in
        let i = table_got root f fs (ascii "image") in
        let bf = front.table_at room store made f (ascii "board") in
        let if = front.table_at room store made f (ascii "image") in
        let c = front.chip_of room store bf.fields if.fields in
        says_by (earlier_two (in_section 1 bf.fault) (in_section 2 if.fault) _)
        (says_after _ (says_told 1 0 b.gives)
        (says_after _ (says_told 2 0 i.gives)
        (says_after _ (chip_from_says b.it i.it bf.fields if.fields b.fields i.fields)
        (says_after _ (says_told 1 0 (board_got room store bytes vs x made h name b.it bf.fields b.fields c.chip lent))
        (says_made _ (says_told 2 0 (image_got room store bytes vs x made h name i.it if.fields i.fields c.chip)))))))
