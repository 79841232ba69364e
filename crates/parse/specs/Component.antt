-- Level 2 of a component.
use Rattle.std.specs.Prelude.{ℕ, ◌+◌, List, Option, Some, None, unwrap_or}
use Rattle.meaning.specs.Base.{pick, ascii, nil?}
use Rattle.tree.specs.declared.Fields.{Fields}
use Rattle.tree.specs.Doors.{field}
use Rattle.schema.specs.declared.Text.{Text}
use Rattle.features.specs.declared.Piece.{Piece}
use Rattle.schema.specs.declared.Text.TheVariants as texts
use Rattle.schema.specs.declared.Word.TheVariants as words
use Rattle.schema.specs.Texts.{clip, or_text}
use Rattle.features.specs.Pieces.{pieces, features_read}
use Rattle.parse.specs.declared.component.Sources.{Sources}
use Rattle.parse.specs.declared.component.HeadRead.{HeadRead}
use Rattle.parse.specs.declared.component.Lists.{Lists}
use Rattle.parse.specs.declared.component.RoleRead.{RoleRead}
use Rattle.parse.specs.declared.component.BootRead.{BootRead}
use Rattle.parse.specs.declared.component.LoadRead.{LoadRead}
use Rattle.parse.specs.declared.component.ComponentRead.{ComponentRead}
use Rattle.parse.specs.File.{file_at}
use Rattle.parse.specs.Fields.{first_fault, text_at, text_needed, number_at, flag_at, kind_at}

-- a piece of a stored text
abbrev pub piece_in : ℕ → Option Piece → Text
piece_in from None = texts.Absent
piece_in from (Some p) = texts.Stored (from + p.from) p.len

-- a file's name, where there is a file
abbrev pub name_in : List ℕ → Text → Text
name_in store texts.Absent = texts.Absent
name_in store (texts.Stored from len) = piece_in from (file_at (clip from len store))
name_in store texts.Lent = texts.Absent
name_in store (texts.Fixed w) = texts.Absent
name_in store (texts.WithAic from len) = texts.Absent

unfoldable pub filename_for : List ℕ → Sources → Text
filename_for store s = or_text s.bin (or_text (name_in store s.file) (or_text s.«package» (texts.Fixed words.Component)))

module _ (room store : List ℕ) where
  unfoldable pub sources : Fields → Sources
  sources f =
      let pack = text_at room store f (ascii "package") in
      let bin = text_at room store f (ascii "bin") in
      let file = text_at room store f (ascii "file") in
      record { fault = first_fault pack.fault (first_fault bin.fault file.fault); «package» = pack.text; bin = bin.text; file = file.text }

  unfoldable pub head_read : Fields → HeadRead
  head_read f =
      let kind = kind_at room store f in
      let name = text_needed room store f (ascii "name") in
      let from = sources f in
      let filename = text_at room store f (ascii "filename") in
      record {
        fault = first_fault kind.fault (first_fault name.fault (first_fault from.fault filename.fault));
        head = record {
          kind = kind.kind;
          name = name.text;
          «package» = from.«package»;
          bin = from.bin;
          file = from.file;
          filename = or_text filename.text (filename_for store from);
        };
      }

  unfoldable pub lists : ℕ → Fields → ℕ → Lists
  lists made f limit =
      let all = features_read room store made limit (field room store f (ascii "features")) in
      let own = features_read room store made limit (field room store f (ascii "pbp_features")) in
      record {
        fault = first_fault all.fault own.fault;
        features = all.features;
        pbp_features = pick (nil? (pieces room store made own.features)) all.features own.features;
      }

  unfoldable pub role_read : ℕ → Fields → ℕ → RoleRead
  role_read made f limit =
      let both = lists made f limit in
      let partition = text_at room store f (ascii "partition") in
      let attr = text_at room store f (ascii "attr") in
      let target_attr = text_at room store f (ascii "target_attr") in
      let target_filename = text_at room store f (ascii "target_filename") in
      record {
        fault = first_fault both.fault (first_fault partition.fault (first_fault attr.fault (first_fault target_attr.fault target_filename.fault)));
        role = record {
          features = both.features;
          pbp_features = both.pbp_features;
          partition = or_text partition.text (texts.Stored 0 0);
          attr = or_text attr.text (texts.Fixed words.Required);
          target_attr = target_attr.text;
          target_filename = target_filename.text;
        };
      }

  unfoldable pub boot_read : Fields → BootRead
  boot_read f =
      let updater = flag_at room store f (ascii "updater") in
      let ram = number_at room store f (ascii "ram") in
      let pbp = text_at room store f (ascii "pbp") in
      let pbp_pack = text_at room store f (ascii "pbp_package") in
      let private = text_at room store f (ascii "private") in
      record {
        fault = first_fault updater.fault (first_fault ram.fault (first_fault pbp.fault (first_fault pbp_pack.fault private.fault)));
        boot = record { updater = updater.flag; ram = ram.number; pbp = pbp.text; pbp_package = pbp_pack.text; private = private.text };
      }

  unfoldable pub load_read : Fields → LoadRead
  load_read f =
      let address = number_at room store f (ascii "load_address") in
      let point = number_at room store f (ascii "entry_point") in
      let offset = number_at room store f (ascii "entry_offset") in
      let version = number_at room store f (ascii "header_version") in
      let ext = flag_at room store f (ascii "with_ext") in
      let reserve = number_at room store f (ascii "ext_reserve") in
      record {
        fault = first_fault address.fault (first_fault point.fault (first_fault offset.fault (first_fault version.fault (first_fault ext.fault reserve.fault))));
        load = record {
          load_address = address.number;
          entry_point = point.number;
          entry_offset = offset.number;
          header_version = version.number;
          with_ext = ext.flag;
          ext_reserve = unwrap_or reserve.number 0;
        };
      }

  unfoldable pub component_read : ℕ → Fields → ℕ → ComponentRead
  component_read made f limit =
      let head = head_read f in
      let role = role_read made f limit in
      let boot = boot_read f in
      let load = load_read f in
      record {
        fault = first_fault head.fault (first_fault role.fault (first_fault boot.fault load.fault));
        component = record { head = head.head; role = role.role; boot = boot.boot; load = load.load };
      }
