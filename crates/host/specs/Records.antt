-- Views of the records: what stands in the rooms, as numbers. Where there is no such record all is 0.
use Rattle.std.specs.Prelude.{ℕ, Bool, true, false, List, [], ◌≡◌, eqb, ltb, length, Option, Some, None}
use Rattle.features.specs.declared.Piece.{Piece}
use Rattle.schema.specs.declared.Application.{Application}
use Rattle.schema.specs.declared.Component.{Component}
use Rattle.schema.specs.declared.Partition.{Partition}
use Rattle.meaning.specs.Base.{pick, zeros}
use Rattle.meaning.specs.Rooms.{over}
use Rattle.tree.specs.Doors.{fields_of}
use Rattle.schema.specs.declared.Word.{Word}
use Rattle.schema.specs.declared.Word.TheVariants as words
use Rattle.schema.specs.declared.Text.{Text}
use Rattle.schema.specs.declared.Text.TheVariants as texts
use Rattle.schema.specs.declared.Features.{Features}
use Rattle.schema.specs.declared.Features.TheVariants as lists
use Rattle.schema.specs.declared.Chip.{Chip}
use Rattle.schema.specs.declared.Chip.TheVariants as chips
use Rattle.schema.specs.declared.Media.{Media}
use Rattle.schema.specs.declared.Media.TheVariants as medias
use Rattle.schema.specs.declared.Kind.{Kind}
use Rattle.schema.specs.declared.Kind.TheVariants as kinds
use Rattle.schema.specs.declared.Board.{Board}
use Rattle.schema.specs.declared.Image.{Image}
use Rattle.schema.specs.Words.{word}
use Rattle.features.specs.Pieces.{pieces, next_of}
use Rattle.parse.specs.declared.front.Front.{Front}
use Rattle.parse.specs.Front.{front_read}
use Rattle.parse.specs.declared.view.Counts as counted
use Rattle.parse.specs.Views as views
use Rattle.parse.specs.Views.{holds_values}
use Rattle.parse.specs.Refused.{lent_text}
use Rattle.host.specs.declared.records.Bytes.{Bytes}
use Rattle.host.specs.declared.records.Amount.{Amount}
use Rattle.host.specs.declared.records.FeatureList.{FeatureList}
use Rattle.host.specs.declared.records.BoardView.{BoardView}
use Rattle.host.specs.declared.records.ImageView.{ImageView}
use Rattle.host.specs.declared.records.PartitionView.{PartitionView}
use Rattle.host.specs.declared.records.HeadView.{HeadView}
use Rattle.host.specs.declared.records.RoleView.{RoleView}
use Rattle.host.specs.declared.records.BootView.{BootView}
use Rattle.host.specs.declared.records.LoadView.{LoadView}
use Rattle.host.specs.declared.records.ApplicationView.{ApplicationView}
use Rattle.host.specs.declared.records.Counts.{Counts}
use Rattle.host.specs.declared.records.FeatureView.{FeatureView}

-- ---- fields as numbers

abbrev pub word_number : Word → ℕ
word_number words.Board = 1
word_number words.Release = 2
word_number words.Unknown = 3
word_number words.Version = 4
word_number words.Required = 5
word_number words.Optional = 6
word_number words.App = 7
word_number words.Component = 8
word_number words.D13x = 9
word_number words.D21x = 10
word_number words.Target13 = 11
word_number words.Target21 = 12
word_number words.SpiNor = 13
word_number words.SpiNand = 14
word_number words.Pbp = 15
word_number words.Raw = 16
word_number words.Aic = 17

abbrev pub bytes_of : Text → Bytes
bytes_of texts.Absent = record { kind = 0; word = 0; from = 0; len = 0 }
bytes_of (texts.Stored from len) = record { kind = 1; word = 0; from = from; len = len }
bytes_of texts.Lent = record { kind = 2; word = 0; from = 0; len = 0 }
bytes_of (texts.Fixed w) = record { kind = 3; word = word_number w; from = 0; len = 0 }
bytes_of (texts.WithAic from len) = record { kind = 4; word = 0; from = from; len = len }

abbrev pub amount_of : Option ℕ → Amount
amount_of None = record { kind = 0; number = 0 }
amount_of (Some n) = record { kind = 1; number = n }

abbrev pub list_of : Features → FeatureList
list_of lists.Absent = record { kind = 0; from = 0; len = 0 }
list_of (lists.Words from len) = record { kind = 1; from = from; len = len }
list_of (lists.Items place) = record { kind = 2; from = place; len = 0 }

abbrev pub chip_number : Chip → ℕ
chip_number chips.D13x = 1
chip_number chips.D21x = 2

abbrev pub media_number : Media → ℕ
media_number medias.SpiNor = 1
media_number medias.SpiNand = 2

abbrev pub kind_number : Kind → ℕ
kind_number kinds.App = 1
kind_number kinds.Pbp = 2
kind_number kinds.Raw = 3

abbrev pub flag_number : Bool → ℕ
flag_number true = 1
flag_number false = 0

-- no text, no number, no list
abbrev pub no_bytes : Bytes
no_bytes = bytes_of texts.Absent

abbrev pub no_amount : Amount
no_amount = amount_of None

abbrev pub no_list : FeatureList
no_list = list_of lists.Absent

-- ---- records

abbrev pub no_board : BoardView
no_board = record { found = 0; chip = 0; name = no_bytes; target = no_bytes; profile = no_bytes }

abbrev pub board_of : Board → BoardView
board_of b = record { found = 1; chip = chip_number b.chip; name = bytes_of b.name; target = bytes_of b.target; profile = bytes_of b.profile }

abbrev pub no_image : ImageView
no_image = record { found = 0; media = 0; media_dev_id = 0; platform = no_bytes; product = no_bytes; version = no_bytes; media_id = no_bytes; app = no_bytes }

abbrev pub image_of : Image → ImageView
image_of i =
    record {
      found = 1;
      media = media_number i.media;
      media_dev_id = i.media_dev_id;
      platform = bytes_of i.platform;
      product = bytes_of i.product;
      version = bytes_of i.version;
      media_id = bytes_of i.media_id;
      app = bytes_of i.app;
    }

abbrev pub no_partition : PartitionView
no_partition = record { found = 0; offset = 0; size = 0; from = 0; len = 0; locked = 0 }

abbrev pub partition_of : Option Partition → PartitionView
partition_of None = no_partition
partition_of (Some p) = record { found = 1; offset = p.offset; size = p.size; from = p.from; len = p.len; locked = flag_number p.locked }

abbrev pub head_of : Option Component → HeadView
head_of None = record { found = 0; kind = 0; name = no_bytes; «package» = no_bytes; bin = no_bytes; file = no_bytes; filename = no_bytes }
head_of (Some c) =
    record {
      found = 1;
      kind = kind_number c.head.kind;
      name = bytes_of c.head.name;
      «package» = bytes_of c.head.«package»;
      bin = bytes_of c.head.bin;
      file = bytes_of c.head.file;
      filename = bytes_of c.head.filename;
    }

abbrev pub role_of : Option Component → RoleView
role_of None = record { found = 0; features = no_list; pbp_features = no_list; partition = no_bytes; attr = no_bytes; target_attr = no_bytes; target_filename = no_bytes }
role_of (Some c) =
    record {
      found = 1;
      features = list_of c.role.features;
      pbp_features = list_of c.role.pbp_features;
      partition = bytes_of c.role.partition;
      attr = bytes_of c.role.attr;
      target_attr = bytes_of c.role.target_attr;
      target_filename = bytes_of c.role.target_filename;
    }

abbrev pub boot_of : Option Component → BootView
boot_of None = record { found = 0; updater = 0; ram = no_amount; pbp = no_bytes; pbp_package = no_bytes; private = no_bytes }
boot_of (Some c) =
    record {
      found = 1;
      updater = flag_number c.boot.updater;
      ram = amount_of c.boot.ram;
      pbp = bytes_of c.boot.pbp;
      pbp_package = bytes_of c.boot.pbp_package;
      private = bytes_of c.boot.private;
    }

abbrev pub load_of : Option Component → LoadView
load_of None = record { found = 0; with_ext = 0; ext_reserve = 0; load_address = no_amount; entry_point = no_amount; entry_offset = no_amount; header_version = no_amount }
load_of (Some c) =
    record {
      found = 1;
      with_ext = flag_number c.load.with_ext;
      ext_reserve = c.load.ext_reserve;
      load_address = amount_of c.load.load_address;
      entry_point = amount_of c.load.entry_point;
      entry_offset = amount_of c.load.entry_offset;
      header_version = amount_of c.load.header_version;
    }

abbrev pub no_application : ApplicationView
no_application =
    record { found = 0; «package» = no_bytes; name = no_bytes; partition = no_bytes; filename = no_bytes; attr = no_bytes; features = no_list; load_address = no_amount; entry_offset = no_amount }

abbrev pub application_of : Option Application → ApplicationView
application_of None = no_application
application_of (Some a) =
    record {
      found = 1;
      «package» = bytes_of a.«package»;
      name = bytes_of a.name;
      partition = bytes_of a.partition;
      filename = bytes_of a.filename;
      attr = bytes_of a.attr;
      features = list_of a.features;
      load_address = amount_of a.load_address;
      entry_offset = amount_of a.entry_offset;
    }

-- ---- of any rooms

module _ (room store : List ℕ) (made : ℕ) where
  abbrev pub front : List ℕ → Front
  front name = front_read room store made (fields_of room made 1) (lent_text name)

  -- 20 to 22 of the board and the image: neither is shown
  unfoldable pub board_view : List ℕ → BoardView
  board_view name = pick (eqb (front name).fault.number 0) (board_of (front name).board) no_board

  unfoldable pub image_view : ImageView
  image_view = pick (eqb (front []).fault.number 0) (image_of (front []).image) no_image

  abbrev pub board_shown : List ℕ → BoardView
  board_shown name = pick (holds_values room made) (board_view name) no_board

  abbrev pub image_shown : ImageView
  image_shown = pick (holds_values room made) image_view no_image

  abbrev pub partition_shown : ℕ → PartitionView
  partition_shown i = pick (holds_values room made) (partition_of (views.partition room store made i)) no_partition

  abbrev pub component : ℕ → Option Component
  component i = pick (holds_values room made) (views.component room store made i 32) None

  abbrev pub application_shown : ℕ → ApplicationView
  application_shown i = pick (holds_values room made) (application_of (views.application room store made i 32)) no_application

abbrev pub counts_of : counted.Counts → Counts
counts_of c = record { partitions = c.partitions; components = c.components; applications = c.applications }

-- ---- features

unfoldable pub features_by : ℕ → ℕ → ℕ → Features
features_by kind from len = pick (eqb kind 1) (lists.Words from len) (pick (eqb kind 2) (pick (ltb from 65536) (lists.Items from) lists.Absent) lists.Absent)

unfoldable pub last_item : ℕ → ℕ → ℕ → Option Piece
last_item begun last size = pick (eqb begun 0) None (Some (record { from = last; len = size }))

abbrev pub feature_of : Option Piece → FeatureView
feature_of None = record { found = 0; from = 0; len = 0 }
feature_of (Some p) = record { found = 1; from = p.from; len = p.len }

abbrev pub feature_shown : List ℕ → List ℕ → ℕ → ℕ → ℕ → ℕ → ℕ → ℕ → ℕ → FeatureView
feature_shown room store made kind from len begun last size =
    pick (holds_values room made) (feature_of (next_of store (last_item begun last size) None (pieces room store made (features_by kind from len)))) (feature_of None)

-- ---- words

unfoldable pub word_by : ℕ → Word
word_by n = pick (eqb n 2) words.Release (pick (eqb n 3) words.Unknown (pick (eqb n 4) words.Version (pick (eqb n 5) words.Required (pick (eqb n 6) words.Optional (pick (eqb n 7) words.App (pick (eqb n 8) words.Component (pick (eqb n 9) words.D13x (pick (eqb n 10) words.D21x (pick (eqb n 11) words.Target13 (pick (eqb n 12) words.Target21 (pick (eqb n 13) words.SpiNor (pick (eqb n 14) words.SpiNand (pick (eqb n 15) words.Pbp (pick (eqb n 16) words.Raw (pick (eqb n 17) words.Aic words.Board)))))))))))))))

-- how many bytes of a word a room takes: none where there is no such word, or the room is shorter
unfoldable pub word_size : ℕ → ℕ → ℕ
word_size n room = pick (eqb n 0) 0 (pick (ltb 17 n) 0 (pick (ltb room (length (word (word_by n)))) 0 (length (word (word_by n)))))

unfoldable pub word_room : ℕ → ℕ → List ℕ
word_room n room =
    pick (eqb n 0) (zeros room)
    (pick (ltb 17 n) (zeros room) (pick (ltb room (length (word (word_by n)))) (zeros room) (over (word (word_by n)) (zeros room))))

pub record Worded (n : ℕ) (out out' : List ℕ) (r : ℕ) : Type 0 where
  pub says : r ≡ word_size n (length out)
  pub left : out' ≡ word_room n (length out)
