-- 01, "From tree to records" (document 001): the fields in 01's order, with the source's defaults. Refusals 20 to 25.
use Rattle.std.specs.Prelude.{ℕ, false, List, [], ◌++◌}
use Rattle.std.proofs.Math.Option.{Option, none, some}
use Rattle.meaning.specs.Base.{pick, nil?, ascii, or_default, first_given}
use Rattle.meaning.specs.Limits.{Limits}
use Rattle.meaning.specs.Refusal.{R, ok, ok_then as ◌>>=◌, Answer, accepted, accepted_then, in_board, in_image}
use Rattle.meaning.specs.Refusal.{in_partition, in_component, in_application}
use Rattle.meaning.specs.Utf8.{valid}
use Rattle.meaning.specs.Tree.{Table}
use Rattle.meaning.specs.Order.{sorted}
use Rattle.meaning.specs.Schema.{Chip, d13x, kindRaw, chip_of, media_of, kind_of, chip_word, media_for, target_for}
use Rattle.meaning.specs.Schema.{Board, Image, Partition, Head, Role, Boot, Load, Component, Application, Preset}
use Rattle.meaning.specs.Fields.{a_text, a_number, a_flag, a_word, field, defaulted, required, table_at, list_at, Row}
use Rattle.meaning.specs.Fields.{rows, tabled, listed, outside}
use Rattle.meaning.specs.Features.{a_features}
use Rattle.meaning.specs.Files.{file_name}

-- ---- board and image

-- "the chip word": the board's, or the platform's where the board has none; D13x where neither has
unfoldable pub chosen : Option (List ℕ) → Option (List ℕ) → Answer Chip
chosen (some w) platform = outside in_board (chip_of w)
chosen none (some w) = outside in_image (chip_of w)
chosen none none = accepted d13x

-- "board `chip` and image `platform`; the chip word"
unfoldable pub chip_from : Table → Table → Answer Chip
chip_from board image =
    accepted_then (outside in_board (field a_text board (ascii "chip"))) (λ chip.
    accepted_then (outside in_image (field a_text image (ascii "platform"))) (chosen chip))

-- "board `name`, `target`, `profile`"
unfoldable pub board_from : List ℕ → Chip → Table → R Board
board_from lent chip f = do
  name ← defaulted a_text lent f (ascii "name")
  target ← defaulted a_text (target_for chip) f (ascii "target")
  profile ← defaulted a_text (ascii "release") f (ascii "profile")
  ok (record { name = name; chip = chip; target = target; profile = profile })

-- "image `platform`, `product`, `version`, `media`, `media_dev_id`, `media_id`, `app`"
unfoldable pub image_from : Chip → Table → R Image
image_from chip f = do
  platform ← defaulted a_text (chip_word chip) f (ascii "platform")
  product ← defaulted a_text (ascii "unknown") f (ascii "product")
  version ← defaulted a_text (ascii "0.0.0") f (ascii "version")
  media ← defaulted (a_word media_of) (media_for chip) f (ascii "media")
  media_dev_id ← defaulted a_number 0 f (ascii "media_dev_id")
  media_id ← defaulted a_text [] f (ascii "media_id")
  boot_app ← defaulted a_text [] f (ascii "app")
  ok (record {
    platform = platform;
    product = product;
    version = version;
    media = media;
    media_dev_id = media_dev_id;
    media_id = media_id;
    boot_app = boot_app;
  })

-- the board and the image, which share the chip
pub record Front : Type 0 where
  pub board : Board
  pub image : Image

-- "Order: `board`, `image`; board `chip` and image `platform`; the chip word; .."
unfoldable pub front_of : List ℕ → Table → Answer Front
front_of lent root =
    accepted_then (outside in_board (table_at root (ascii "board"))) (λ b.
    accepted_then (outside in_image (table_at root (ascii "image"))) (λ i.
    accepted_then (chip_from b i) (λ chip.
    accepted_then (outside in_board (board_from lent chip b)) (λ board.
    accepted_then (outside in_image (image_from chip i)) (λ image. accepted (record { board = board; image = image }))))))

-- ---- partitions; by W-206 each may be locked

-- "partitions (`name`, `offset`, `size`)". W-206: "A partition may hold the boolean `locked`, false if absent";
-- "wrong kind is 20, read after `size`"
unfoldable pub partition_from : Table → R Partition
partition_from f = do
  name ← required a_text f (ascii "name")
  offset ← required a_number f (ascii "offset")
  size ← required a_number f (ascii "size")
  locked ← defaulted a_flag false f (ascii "locked")
  ok (record { name = name; offset = offset; size = size; locked = locked })

-- "Partitions 32"
unfoldable pub partitions_of : Limits → Table → Answer (List Partition)
partitions_of lim root =
    accepted_then (outside in_partition (list_at root (ascii "partition") (ascii "partitions")))
    (listed (tabled partition_from) in_partition lim.partitions)

-- ---- components

-- a file's name, where there is a file
abbrev pub name_in : Option (List ℕ) → Option (List ℕ)
name_in none = none
name_in (some f) = file_name f

-- document 001: `bin`, else the file's name, else `package`, else `component.bin`
unfoldable pub filename_for : Option (List ℕ) → Option (List ℕ) → Option (List ℕ) → List ℕ
filename_for bin file pack = or_default (first_given bin (first_given (name_in file) pack)) (ascii "component.bin")

-- "Component fields are read as `kind`, `name`, `package`, `bin`, `file`, `filename`, .."
unfoldable pub head_from : Table → R Head
head_from f = do
  kind ← defaulted (a_word kind_of) kindRaw f (ascii "kind")
  name ← required a_text f (ascii "name")
  pack ← field a_text f (ascii "package")
  bin ← field a_text f (ascii "bin")
  file ← field a_text f (ascii "file")
  filename ← defaulted a_text (filename_for bin file pack) f (ascii "filename")
  ok (record { kind = kind; name = name; pack = pack; bin = bin; file = file; filename = filename })

-- ".. `features`, `pbp_features`, `partition`, `attr`, `target_attr`, `target_filename`, .."; "Empty `pbp_features`
-- takes `features`."
unfoldable pub role_from : ℕ → Table → R Role
role_from limit f = do
  features ← defaulted (a_features limit) [] f (ascii "features")
  own ← defaulted (a_features limit) [] f (ascii "pbp_features")
  partition ← defaulted a_text [] f (ascii "partition")
  attr ← defaulted a_text (ascii "mtd;required") f (ascii "attr")
  target_attr ← field a_text f (ascii "target_attr")
  target_filename ← field a_text f (ascii "target_filename")
  ok (record {
    features = features;
    pbp_features = pick (nil? own) features own;
    partition = partition;
    attr = attr;
    target_attr = target_attr;
    target_filename = target_filename;
  })

-- ".. `updater`, `ram`, `pbp`, `pbp_package`, `private`, .."
unfoldable pub boot_from : Table → R Boot
boot_from f = do
  updater ← defaulted a_flag false f (ascii "updater")
  ram ← field a_number f (ascii "ram")
  pbp ← field a_text f (ascii "pbp")
  pbp_pack ← field a_text f (ascii "pbp_package")
  private ← field a_text f (ascii "private")
  ok (record { updater = updater; ram = ram; pbp = pbp; pbp_pack = pbp_pack; private = private })

-- ".. `load_address`, `entry_point`, `entry_offset`, `header_version`, `with_ext`, `ext_reserve`"
unfoldable pub load_from : Table → R Load
load_from f = do
  load_address ← field a_number f (ascii "load_address")
  entry_point ← field a_number f (ascii "entry_point")
  entry_offset ← field a_number f (ascii "entry_offset")
  header_version ← field a_number f (ascii "header_version")
  with_ext ← defaulted a_flag false f (ascii "with_ext")
  ext_reserve ← defaulted a_number 0 f (ascii "ext_reserve")
  ok (record {
    load_address = load_address;
    entry_point = entry_point;
    entry_offset = entry_offset;
    header_version = header_version;
    with_ext = with_ext;
    ext_reserve = ext_reserve;
  })

-- all 23 fields, group by group
unfoldable pub component_from : ℕ → Table → R Component
component_from limit f = do
  head ← head_from f
  role ← role_from limit f
  boot ← boot_from f
  load ← load_from f
  ok (record { head = head; role = role; boot = boot; load = load })

-- "components 64"; "Items in one feature list ..: 32"
unfoldable pub components_of : Limits → Table → Answer (List Component)
components_of lim root =
    accepted_then (outside in_component (list_at root (ascii "component") (ascii "components")))
    (listed (tabled (component_from lim.features)) in_component lim.components)

-- ---- applications

-- "application fields as `name`, `partition`, `filename`, `attr`, `features`, `load_address`, `entry_offset`"
unfoldable pub application_from : ℕ → List ℕ → Table → R Application
application_from limit key f = do
  name ← defaulted a_text key f (ascii "name")
  partition ← defaulted a_text (ascii "app") f (ascii "partition")
  filename ← defaulted a_text (name ++ ascii ".aic") f (ascii "filename")
  attr ← defaulted a_text (ascii "mtd;optional") f (ascii "attr")
  features ← defaulted (a_features limit) [] f (ascii "features")
  load_address ← field a_number f (ascii "load_address")
  entry_offset ← field a_number f (ascii "entry_offset")
  ok (record {
    pack = key;
    name = name;
    partition = partition;
    filename = filename;
    attr = attr;
    features = features;
    load_address = load_address;
    entry_offset = entry_offset;
  })

-- an entry of `apps`
abbrev pub application_at : ℕ → Row → R Application
application_at limit r = tabled (application_from limit r.key) r.value

-- "applications 64", "in byte order of key"
unfoldable pub applications_of : Limits → Table → Answer (List Application)
applications_of lim root =
    accepted_then (outside in_application (table_at root (ascii "apps"))) (λ apps.
    listed (application_at lim.features) in_application lim.applications (rows (sorted apps)))

-- ---- all

-- "The caller lends the default board name; one that is not UTF-8 counts as `board`."
unfoldable pub lent_name : List ℕ → List ℕ
lent_name name = pick (valid name) name (ascii "board")

-- ".. partitions ..; components; applications." Each group is read from the root by itself
unfoldable pub preset_of : Limits → List ℕ → Table → Answer Preset
preset_of lim name root =
    accepted_then (front_of (lent_name name) root) (λ front.
    accepted_then (partitions_of lim root) (λ partitions.
    accepted_then (components_of lim root) (λ components.
    accepted_then (applications_of lim root) (λ applications.
    accepted (record {
      board = front.board;
      image = front.image;
      partitions = partitions;
      components = components;
      applications = applications;
    })))))

unfoldable pub computes : Unit {0}
unfolding chosen chip_from board_from image_from front_of partition_from partitions_of filename_for head_from role_from boot_from
    load_from component_from components_of application_from applications_of lent_name preset_of
    Rattle.meaning.specs.Utf8.computes
    Rattle.meaning.specs.Schema.computes
    Rattle.meaning.specs.Fields.computes
    Rattle.meaning.specs.Features.computes
    Rattle.meaning.specs.Files.computes
computes = tt
