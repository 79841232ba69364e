-- What the structs say that the views answer with, decoded by the words of docs/HOST.md alone: numbers, places in the
-- store, the lent name, fixed words by their number, and feature lists walked to their end. A number that HOST.md
-- gives no meaning decodes to nothing at all, so that no such struct could pass for one of 01's records.
use Rattle.std.specs.Prelude.{ℕ, zero, suc, ◌+◌, Bool, true, false, List, [], ◌∷◌, ◌++◌, eqb, length}
use Rattle.std.proofs.Math.Option.{Option, none, some}
use Rattle.meaning.specs.Base.{pick, ascii}
use Rattle.meaning.specs.Schema.{Chip, d13x, d21x, Media, spiNor, spiNand, Kind, kindApp, kindPbp, kindRaw}
use Rattle.meaning.specs.Schema.{Board, Image, Partition, Head, Role, Boot, Load, Application}
use Rattle.meaning.specs.Plan.{Build, Source, from_package, from_file}
use Rattle.schema.specs.Texts.{clip}
use Rattle.parse.specs.Given.{entry_at}
use Rattle.host.specs.declared.records.Bytes.{Bytes}
use Rattle.host.specs.declared.records.Amount.{Amount}
use Rattle.host.specs.declared.records.FeatureList.{FeatureList}
use Rattle.host.specs.declared.records.FeatureView.{FeatureView}
use Rattle.host.specs.declared.records.BoardView.{BoardView}
use Rattle.host.specs.declared.records.ImageView.{ImageView}
use Rattle.host.specs.declared.records.PartitionView.{PartitionView}
use Rattle.host.specs.declared.records.HeadView.{HeadView}
use Rattle.host.specs.declared.records.RoleView.{RoleView}
use Rattle.host.specs.declared.records.BootView.{BootView}
use Rattle.host.specs.declared.records.LoadView.{LoadView}
use Rattle.host.specs.declared.records.ApplicationView.{ApplicationView}
use Rattle.host.specs.declared.plans.SourceView.{SourceView}
use Rattle.host.specs.declared.plans.BuildView.{BuildView}
use Rattle.host.specs.Records.{feature_shown}

-- ---- one after the other

-- some x: it decodes to x; none: it has no meaning, and nothing that it is part of has
infixl 20 ◌>>=◌
abbrev pub ◌>>=◌ : {X Y : Type 0} → Option X → (X → Option Y) → Option Y
none >>= f = none
some x >>= f = f x

-- ---- numbers

-- HOST.md, the table of fixed words, in the order of their numbers from 1
abbrev pub fixed_words : List (List ℕ)
fixed_words =
    ascii "board"
    ∷ ascii "release"
    ∷ ascii "unknown"
    ∷ ascii "0.0.0"
    ∷ ascii "mtd;required"
    ∷ ascii "mtd;optional"
    ∷ ascii "app"
    ∷ ascii "component.bin"
    ∷ ascii "d13x"
    ∷ ascii "d21x"
    ∷ ascii "riscv32imafc-unknown-none-elf"
    ∷ ascii "riscv64gc-unknown-none-elf"
    ∷ ascii "spi-nor"
    ∷ ascii "spi-nand"
    ∷ ascii "pbp"
    ∷ ascii "raw"
    ∷ ascii ".aic"
    ∷ []

abbrev pub word_by_number : ℕ → Option (List ℕ)
word_by_number zero = none
word_by_number (suc n) = entry_at fixed_words n

-- chip: 1 d13x, 2 d21x
unfoldable pub chip_by : ℕ → Option Chip
chip_by n = pick (eqb n 1) (some d13x) (pick (eqb n 2) (some d21x) none)

-- media: 1 spi-nor, 2 spi-nand
unfoldable pub media_by : ℕ → Option Media
media_by n = pick (eqb n 1) (some spiNor) (pick (eqb n 2) (some spiNand) none)

-- kind of a component: 1 app, 2 pbp, 3 raw
unfoldable pub kind_by : ℕ → Option Kind
kind_by n = pick (eqb n 1) (some kindApp) (pick (eqb n 2) (some kindPbp) (pick (eqb n 3) (some kindRaw) none))

-- a flag: 0 false, 1 true
unfoldable pub flag_by : ℕ → Option Bool
flag_by n = pick (eqb n 0) (some false) (pick (eqb n 1) (some true) none)

-- an amount: kind 0 absent, 1 a number
unfoldable pub amount_by : Amount → Option (Option ℕ)
amount_by a = pick (eqb a.kind 0) (some none) (pick (eqb a.kind 1) (some (some a.number)) none)

-- found: 0 there is no such thing, 1 there is
abbrev pub found_by : {X : Type 0} → ℕ → Option X → Option (Option X)
found_by found x = pick (eqb found 0) (some none) (pick (eqb found 1) (x >>= (λ y. some (some y))) none)

-- ---- texts

-- `clip from len store`: len bytes of the store from from on, and no byte where they would run past its end

module _ (store name : List ℕ) where
  -- 0 absent, 1 in the store, 2 the lent name, 3 a fixed word, 4 in the store with `.aic` after them
  unfoldable pub optional_by : Bytes → Option (Option (List ℕ))
  optional_by b =
      pick (eqb b.kind 0) (some none)
      (pick (eqb b.kind 1) (some (some (clip b.from b.len store)))
      (pick (eqb b.kind 2) (some (some name))
      (pick (eqb b.kind 3) (word_by_number b.word >>= (λ w. some (some w)))
      (pick (eqb b.kind 4) (some (some (clip b.from b.len store ++ ascii ".aic"))) none))))

  -- of a text that its record always has, absent has no meaning
  unfoldable pub text_by : Bytes → Option (List ℕ)
  text_by b = optional_by b >>= (λ s. s)

-- ---- structs, by the rooms, the count of values made and the lent name

module _ (tree store : List ℕ) (made : ℕ) where
  -- what preset_feature says of the list after the item before: an item and then the others, or the end
  abbrev pub after_item : FeatureView → (ℕ → ℕ → Option (List (List ℕ))) → Option (List (List ℕ))
  after_item v others =
      pick (eqb v.found 0) (some [])
      (pick (eqb v.found 1) (others v.from v.len >>= (λ fs. some (clip v.from v.len store ∷ fs))) none)

  -- called with begun 0, then with begun 1 and the item before, until found is 0; none where it has not ended after
  -- so many calls
  abbrev pub walked : ℕ → FeatureList → ℕ → ℕ → ℕ → Option (List (List ℕ))
  walked zero l begun last size = none
  walked (suc calls) l begun last size =
      after_item (feature_shown tree store made l.kind l.from l.len begun last size)
      (λ from len. walked calls l 1 from len)

  -- a list has no more items than there are values made and bytes in the store
  unfoldable pub list_by : FeatureList → Option (List (List ℕ))
  list_by l = walked (suc (made + length store)) l 0 0 0

  module _ (name : List ℕ) where
    abbrev pub board_by : BoardView → Option (Option Board)
    board_by v = found_by v.found (do
      chip ← chip_by v.chip
      called ← text_by store name v.name
      target ← text_by store name v.target
      profile ← text_by store name v.profile
      some (record { name = called; chip = chip; target = target; profile = profile }))

    abbrev pub image_by : ImageView → Option (Option Image)
    image_by v = found_by v.found (do
      media ← media_by v.media
      platform ← text_by store name v.platform
      product ← text_by store name v.product
      version ← text_by store name v.version
      media_id ← text_by store name v.media_id
      boot_app ← text_by store name v.app
      some (record {
        platform = platform;
        product = product;
        version = version;
        media = media;
        media_dev_id = v.media_dev_id;
        media_id = media_id;
        boot_app = boot_app;
      }))

    abbrev pub partition_by : PartitionView → Option (Option Partition)
    partition_by v = found_by v.found (do
      locked ← flag_by v.locked
      some (record { name = clip v.from v.len store; offset = v.offset; size = v.size; locked = locked }))

    abbrev pub head_by : HeadView → Option (Option Head)
    head_by v = found_by v.found (do
      kind ← kind_by v.kind
      called ← text_by store name v.name
      pack ← optional_by store name v.«package»
      bin ← optional_by store name v.bin
      file ← optional_by store name v.file
      filename ← text_by store name v.filename
      some (record { kind = kind; name = called; pack = pack; bin = bin; file = file; filename = filename }))

    abbrev pub role_by : RoleView → Option (Option Role)
    role_by v = found_by v.found (do
      features ← list_by v.features
      pbp_features ← list_by v.pbp_features
      partition ← text_by store name v.partition
      attr ← text_by store name v.attr
      target_attr ← optional_by store name v.target_attr
      target_filename ← optional_by store name v.target_filename
      some (record {
        features = features;
        pbp_features = pbp_features;
        partition = partition;
        attr = attr;
        target_attr = target_attr;
        target_filename = target_filename;
      }))

    abbrev pub boot_by : BootView → Option (Option Boot)
    boot_by v = found_by v.found (do
      updater ← flag_by v.updater
      ram ← amount_by v.ram
      pbp ← optional_by store name v.pbp
      pbp_pack ← optional_by store name v.pbp_package
      private ← optional_by store name v.private
      some (record { updater = updater; ram = ram; pbp = pbp; pbp_pack = pbp_pack; private = private }))

    abbrev pub load_by : LoadView → Option (Option Load)
    load_by v = found_by v.found (do
      load_address ← amount_by v.load_address
      entry_point ← amount_by v.entry_point
      entry_offset ← amount_by v.entry_offset
      header_version ← amount_by v.header_version
      with_ext ← flag_by v.with_ext
      some (record {
        load_address = load_address;
        entry_point = entry_point;
        entry_offset = entry_offset;
        header_version = header_version;
        with_ext = with_ext;
        ext_reserve = v.ext_reserve;
      }))

    abbrev pub application_by : ApplicationView → Option (Option Application)
    application_by v = found_by v.found (do
      pack ← text_by store name v.«package»
      called ← text_by store name v.name
      partition ← text_by store name v.partition
      filename ← text_by store name v.filename
      attr ← text_by store name v.attr
      features ← list_by v.features
      load_address ← amount_by v.load_address
      entry_offset ← amount_by v.entry_offset
      some (record {
        pack = pack;
        name = called;
        partition = partition;
        filename = filename;
        attr = attr;
        features = features;
        load_address = load_address;
        entry_offset = entry_offset;
      }))

    abbrev pub build_fields : Bytes → Bytes → FeatureList → Option Build
    build_fields p b fs = do
      pack ← text_by store name p
      bin ← text_by store name b
      features ← list_by fs
      some (record { pack = pack; bin = bin; features = features })

    -- kind of a source: 0 none, 1 a package, 2 a file
    abbrev pub source_by : SourceView → Option (Option Source)
    source_by v =
        pick (eqb v.kind 0) (some none)
        (pick (eqb v.kind 1)
        (build_fields v.«package» v.bin v.features >>= (λ b. some (some (from_package b))))
        (pick (eqb v.kind 2) (text_by store name v.file >>= (λ s. some (some (from_file s)))) none))

    abbrev pub build_by : BuildView → Option (Option Build)
    build_by v = found_by v.found (build_fields v.«package» v.bin v.features)
