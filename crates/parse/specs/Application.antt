-- Level 2 of an application.
use Rattle.std.specs.Prelude.{ℕ, List}
use Rattle.meaning.specs.Base.{ascii}
use Rattle.tree.specs.declared.Fields.{Fields}
use Rattle.tree.specs.Doors.{field}
use Rattle.schema.specs.declared.Text.{Text}
use Rattle.schema.specs.declared.Text.TheVariants as texts
use Rattle.schema.specs.declared.Word.TheVariants as words
use Rattle.schema.specs.Texts.{or_text, aic_of}
use Rattle.features.specs.Pieces.{features_read}
use Rattle.parse.specs.declared.application.Names.{Names}
use Rattle.parse.specs.declared.application.Loading.{Loading}
use Rattle.parse.specs.declared.application.ApplicationRead.{ApplicationRead}
use Rattle.parse.specs.Fields.{first_fault, text_at, number_at}

module _ (room store : List ℕ) where
  unfoldable pub names : Fields → Text → Names
  names f key =
      let name = text_at room store f (ascii "name") in
      let partition = text_at room store f (ascii "partition") in
      let filename = text_at room store f (ascii "filename") in
      let attr = text_at room store f (ascii "attr") in
      let called = or_text name.text key in
      record {
        fault = first_fault name.fault (first_fault partition.fault (first_fault filename.fault attr.fault));
        name = called;
        partition = or_text partition.text (texts.Fixed words.App);
        filename = or_text filename.text (aic_of called);
        attr = or_text attr.text (texts.Fixed words.Optional);
      }

  unfoldable pub loading : ℕ → Fields → ℕ → Loading
  loading made f limit =
      let list = features_read room store made limit (field room store f (ascii "features")) in
      let address = number_at room store f (ascii "load_address") in
      let offset = number_at room store f (ascii "entry_offset") in
      record {
        fault = first_fault list.fault (first_fault address.fault offset.fault);
        features = list.features;
        load_address = address.number;
        entry_offset = offset.number;
      }

  unfoldable pub application_read : ℕ → Fields → Text → ℕ → ApplicationRead
  application_read made f key limit =
      let called = names f key in
      let how = loading made f limit in
      record {
        fault = first_fault called.fault how.fault;
        application = record {
          «package» = key;
          name = called.name;
          partition = called.partition;
          filename = called.filename;
          attr = called.attr;
          features = how.features;
          load_address = how.load_address;
          entry_offset = how.entry_offset;
        };
      }
