-- 01, "What the listing prints": the tree, the store, the count and the records of its example, by computation.
use Rattle.std.specs.Prelude.{ℕ, false, List, [], ◌∷◌, ◌≡◌, refl}
use Rattle.std.proofs.Math.Option.{none, some}
use Rattle.meaning.specs.Base.{ascii}
use Rattle.meaning.specs.Limits.{of01}
use Rattle.meaning.specs.Refusal.{accepted}
use Rattle.meaning.specs.Tree.{Items, Table, array, table, none', empty}
use Rattle.meaning.specs.Document.{document, computes}
use Rattle.meaning.specs.Schema.{Board, Image, Partition, Component, Application, Preset, d13x, spiNor, kindApp}
use Rattle.meaning.specs.Preset as whole
use Rattle.meaning.specs.Listing as listings
use Rattle.meaning.specs.Listing.{out_size, listing, printed}
use Rattle.examples.specs.Samples.{lined, words, word, number, ◌≔◌⨾◌, ◌⊕◌}

-- "Input"; the same text stands in presets/example.toml
abbrev pub example : List ℕ
example =
    lined (
    "[board]"
    ∷ "chip = \"d13x\""
    ∷ "[[partition]]"
    ∷ "name = \"boot\""
    ∷ "offset = 0"
    ∷ "size = 0x40000"
    ∷ "[[partition]]"
    ∷ "name = \"profiles\""
    ∷ "offset = 0x40000"
    ∷ "size = 0x100000"
    ∷ "[[component]]"
    ∷ "name = \"first\""
    ∷ "package = \"loader\""
    ∷ "kind = \"app\""
    ∷ "partition = \"boot;mtd\""
    ∷ "[apps.desk]"
    ∷ "partition = \"profiles\""
    ∷ "features = \"pan tilt\""
    ∷ []
    )

abbrev partitions : Items
partitions =
    ("name" ≔ word "boot" ⨾ "offset" ≔ number 0 ⨾ "size" ≔ number 0x40000 ⨾ empty)
    ⊕ ("name" ≔ word "profiles" ⨾ "offset" ≔ number 0x40000 ⨾ "size" ≔ number 0x100000 ⨾ empty)
    ⊕ none'

abbrev components : Items
components =
    ("name" ≔ word "first" ⨾ "package" ≔ word "loader" ⨾ "kind" ≔ word "app" ⨾ "partition" ≔ word "boot;mtd" ⨾ empty)
    ⊕ none'

abbrev pub tree : Table
tree =
    "board" ≔ table ("chip" ≔ word "d13x" ⨾ empty)
    ⨾ "partition" ≔ array partitions
    ⨾ "component" ≔ array components
    ⨾ "apps" ≔ table ("desk" ≔ table ("partition" ≔ word "profiles" ⨾ "features" ≔ word "pan tilt" ⨾ empty) ⨾ empty)
    ⨾ empty

-- "Header segments go left to right; an assignment stores its value's strings first, then its key's segments"
abbrev pub store : List ℕ
store =
    words (
    "board" ∷ "d13x" ∷ "chip"
    ∷ "partition" ∷ "boot" ∷ "name" ∷ "offset" ∷ "size"
    ∷ "partition" ∷ "profiles" ∷ "name" ∷ "offset" ∷ "size"
    ∷ "component" ∷ "first" ∷ "name" ∷ "loader" ∷ "package" ∷ "app" ∷ "kind" ∷ "boot;mtd" ∷ "partition"
    ∷ "apps" ∷ "desk" ∷ "profiles" ∷ "partition" ∷ "pan tilt" ∷ "features"
    ∷ []
    )

-- 21 is the last word of the listing's first line
pub example_read_lem : document of01 example ≡ accepted (record { root = tree; bytes = store; made = 21 })
unfolding computes
example_read_lem = refl

-- ---- the records

abbrev board : Board
board = record {
  name = ascii "board";
  chip = d13x;
  target = ascii "riscv32imafc-unknown-none-elf";
  profile = ascii "release";
}

abbrev image : Image
image = record {
  platform = ascii "d13x";
  product = ascii "unknown";
  version = ascii "0.0.0";
  media = spiNor;
  media_dev_id = 0;
  media_id = [];
  boot_app = [];
}

abbrev boot : Partition
boot = record { name = ascii "boot"; offset = 0; size = 262144; locked = false }

abbrev profiles : Partition
profiles = record { name = ascii "profiles"; offset = 262144; size = 1048576; locked = false }

abbrev pub first : Component
first =
    record {
      head = record {
        kind = kindApp;
        name = ascii "first";
        pack = some (ascii "loader");
        bin = none;
        file = none;
        filename = ascii "loader";
      };
      role = record {
        features = [];
        pbp_features = [];
        partition = ascii "boot;mtd";
        attr = ascii "mtd;required";
        target_attr = none;
        target_filename = none;
      };
      boot = record { updater = false; ram = none; pbp = none; pbp_pack = none; private = none };
      load = record {
        load_address = none;
        entry_point = none;
        entry_offset = none;
        header_version = none;
        with_ext = false;
        ext_reserve = 0;
      };
    }

abbrev pub desk : Application
desk =
    record {
      pack = ascii "desk";
      name = ascii "desk";
      partition = ascii "profiles";
      filename = ascii "desk.aic";
      attr = ascii "mtd;optional";
      features = ascii "pan" ∷ ascii "tilt" ∷ [];
      load_address = none;
      entry_offset = none;
    }

abbrev pub preset : Preset
preset = record {
  board = board;
  image = image;
  partitions = boot ∷ profiles ∷ [];
  components = first ∷ [];
  applications = desk ∷ [];
}

-- "lends `board`"
pub example_preset : whole.read of01 32768 65536 (ascii "board") example
    ≡ accepted (record { parsed = record { root = tree; bytes = store; made = 21 }; preset = preset })
unfolding whole.computes
example_preset = refl

-- "Output", byte for byte; by W-206 with ` open` behind each `part` line, by W-203 with the texts in double quotes
pub example_listing : printed (listing of01 32768 65536 (out_size (ascii "board")) (ascii "board") example)
    ≡ lined (
    "ok d13x spi-nor 2 1 1 21"
    ∷ "part \"boot\" 0 262144 open"
    ∷ "part \"profiles\" 262144 1310720 open"
    ∷ "comp \"first\" app \"boot;mtd\""
    ∷ "app \"desk\" \"desk\" \"profiles\""
    ∷ "build \"loader\" 0"
    ∷ "stem \"loader\""
    ∷ []
    )
unfolding listings.computes
example_listing = refl

-- "A refusal prints `refused`, number, section, place.": of P12's empty text
pub empty_listing : printed (listing of01 32768 65536 (out_size (ascii "board")) (ascii "board") [])
    ≡ lined ("refused 40 3 0" ∷ [])
unfolding listings.computes
empty_listing = refl
