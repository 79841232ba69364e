-- Corners of records, by computation over whole texts. `⏎` stands for LF, `×n` for n times; "corner" is the number in
-- the list of observations.
use Rattle.std.specs.Prelude.{ℕ, zero, suc, true, false, List, [], ◌∷◌, ◌++◌, ◌≡◌, refl, replicate}
use Prim.Native.String.{String}
use Rattle.std.proofs.Math.Option.{Option, none, some}
use Rattle.meaning.specs.Base.{ascii}
use Rattle.meaning.specs.Limits.{of01}
use Rattle.meaning.specs.Refusal.{Answer, accepted, refused, accepted_then, numbered, number_of, at_no_line, in_board}
use Rattle.meaning.specs.Refusal.{in_image, in_partition, in_component, in_application}
use Rattle.meaning.specs.Tree.{Table, table, empty, entry}
use Rattle.meaning.specs.Document.{document}
use Rattle.meaning.specs.Schema.{Board, Image, Component, Application, Preset, d13x, d21x, spiNor, spiNand, kindRaw}
use Rattle.meaning.specs.Schema.{kindPbp, chips, erase_for}
use Rattle.meaning.specs.Files.{file_name, file_stem}
use Rattle.meaning.specs.Records.{preset_of}
use Rattle.meaning.specs.Preset as whole
use Rattle.meaning.specs.Preset.{computes}
use Rattle.examples.specs.Samples.{lined, words, ◌≔◌⨾◌}

-- a preset by 01's limits, to whose board `lent` is lent
abbrev says : List ℕ → Answer Preset
says s = accepted_then (document of01 s) (λ d. preset_of of01 (ascii "lent") d.root)

abbrev reads : String → Answer Preset
reads s = says (ascii s)

-- refused by number n, in a section, at a place
abbrev refuses : {X : Type 0} → ℕ → ℕ → ℕ → Answer X
refuses n section place = refused (numbered n) section place

-- what f sees of a preset
abbrev seen : {X : Type 0} → (Preset → X) → Answer Preset → Answer X
seen f a = accepted_then a (λ p. accepted (f p))

abbrev boards : Answer Preset → Answer Board
boards a = seen (λ p. p.board) a

abbrev images : Answer Preset → Answer Image
images a = seen (λ p. p.image) a

-- f of each
abbrev over : {X Y : Type 0} → (X → Y) → List X → List Y
over f [] = []
over f (x ∷ xs) = f x ∷ over f xs

-- what f sees of each component, and of each application
abbrev components : {X : Type 0} → (Component → X) → Answer Preset → Answer (List X)
components f a = seen (λ p. over f p.components) a

abbrev applications : {X : Type 0} → (Application → X) → Answer Preset → Answer (List X)
applications f a = seen (λ p. over f p.applications) a

-- words as a list of byte strings
abbrev texts : List String → List (List ℕ)
texts ws = over ascii ws

-- ---- defaults

-- corners 33 and 72: the empty text is a preset of defaults, under the lent name
pub all_defaults :
    reads ""
    ≡ accepted (record {
      board = record {
        name = ascii "lent";
        chip = d13x;
        target = ascii "riscv32imafc-unknown-none-elf";
        profile = ascii "release";
      };
      image = record {
        platform = ascii "d13x";
        product = ascii "unknown";
        version = ascii "0.0.0";
        media = spiNor;
        media_dev_id = 0;
        media_id = [];
        boot_app = [];
      };
      partitions = [];
      components = [];
      applications = [];
    })
unfolding computes
all_defaults = refl

-- corner 72: a blank text too: `⏎ ⏎# c`
pub blank_defaults : reads "\n \n# c" ≡ reads ""
unfolding computes
blank_defaults = refl

-- corner 33: the defaults of the other chip: `[board]⏎chip = "d21x"`
pub other_chip :
    reads "[board]\nchip = \"d21x\""
    ≡ accepted (record {
      board = record {
        name = ascii "lent";
        chip = d21x;
        target = ascii "riscv64gc-unknown-none-elf";
        profile = ascii "release";
      };
      image = record {
        platform = ascii "d21x";
        product = ascii "unknown";
        version = ascii "0.0.0";
        media = spiNand;
        media_dev_id = 0;
        media_id = [];
        boot_app = [];
      };
      partitions = [];
      components = [];
      applications = [];
    })
unfolding computes
other_chip = refl

-- corner 33: of a component: `[[component]]⏎name = "c"`
pub component_defaults :
    components (λ c. c) (reads "[[component]]\nname = \"c\"")
    ≡ accepted (
    record {
      head = record {
        kind = kindRaw;
        name = ascii "c";
        pack = none;
        bin = none;
        file = none;
        filename = ascii "component.bin";
      };
      role = record {
        features = [];
        pbp_features = [];
        partition = [];
        attr = ascii "mtd;required";
        target_attr = none;
        target_filename = none;
      };
      boot = record { updater = false; ram = none; pbp = none; pbp_pack = none; private = none };
      load = record {
        load_address = none;
        entry_point = none;
        entry_offset = none;
        header_version = none;
        with_ext = false;
        ext_reserve = 0;
      };
    }
    ∷ [])
unfolding computes
component_defaults = refl

-- corner 33: of an application: `[apps.x]`
pub application_defaults :
    applications (λ a. a) (reads "[apps.x]")
    ≡ accepted (
    record {
      pack = ascii "x";
      name = ascii "x";
      partition = ascii "app";
      filename = ascii "x.aic";
      attr = ascii "mtd;optional";
      features = [];
      load_address = none;
      entry_offset = none;
    }
    ∷ [])
unfolding computes
application_defaults = refl

-- an application's filename follows its name, which need not be its key: `[apps.x]⏎name = "y"`
pub filename_of_name : applications (λ a. a.filename) (reads "[apps.x]\nname = \"y\"")
    ≡ accepted (texts ("y.aic" ∷ []))
unfolding computes
filename_of_name = refl

-- every field of board and image, read in its place
abbrev front : Answer Preset
front =
    says (lined (
    "[board]" ∷ "name = \"n\"" ∷ "chip = \"d21x\"" ∷ "target = \"t\"" ∷ "profile = \"p\""
    ∷ "[image]" ∷ "platform = \"a\"" ∷ "product = \"b\"" ∷ "version = \"c\"" ∷ "media = \"spi-nor\""
    ∷ "media_dev_id = 1" ∷ "media_id = \"d\"" ∷ "app = \"e\""
    ∷ []
    ))

pub board_full : boards front ≡ accepted (record {
  name = ascii "n";
  chip = d21x;
  target = ascii "t";
  profile = ascii "p";
})
unfolding computes
board_full = refl

pub image_full : images front ≡ accepted (record {
  platform = ascii "a";
  product = ascii "b";
  version = ascii "c";
  media = spiNor;
  media_dev_id = 1;
  media_id = ascii "d";
  boot_app = ascii "e";
})
unfolding computes
image_full = refl

-- of a component
abbrev full : List ℕ
full =
    lined (
    "[[component]]"
    ∷ "kind = \"pbp\"" ∷ "name = \"n\"" ∷ "package = \"p\"" ∷ "bin = \"b\"" ∷ "file = \"d/f\"" ∷ "filename = \"g\""
    ∷ "features = \"h\"" ∷ "pbp_features = \"i\"" ∷ "partition = \"j\"" ∷ "attr = \"k\"" ∷ "target_attr = \"l\""
    ∷ "target_filename = \"m\""
    ∷ "updater = true" ∷ "ram = 1" ∷ "pbp = \"d/o\"" ∷ "pbp_package = \"q\"" ∷ "private = \"d/r\""
    ∷ "load_address = 2" ∷ "entry_point = 3" ∷ "entry_offset = 4" ∷ "header_version = 5" ∷ "with_ext = true"
    ∷ "ext_reserve = 6"
    ∷ []
    )

pub component_full :
    components (λ c. c) (says full)
    ≡ accepted (
    record {
      head = record {
        kind = kindPbp;
        name = ascii "n";
        pack = some (ascii "p");
        bin = some (ascii "b");
        file = some (ascii "d/f");
        filename = ascii "g";
      };
      role = record {
        features = texts ("h" ∷ []);
        pbp_features = texts ("i" ∷ []);
        partition = ascii "j";
        attr = ascii "k";
        target_attr = some (ascii "l");
        target_filename = some (ascii "m");
      };
      boot = record {
        updater = true;
        ram = some 1;
        pbp = some (ascii "d/o");
        pbp_pack = some (ascii "q");
        private = some (ascii "d/r");
      };
      load = record {
        load_address = some 2;
        entry_point = some 3;
        entry_offset = some 4;
        header_version = some 5;
        with_ext = true;
        ext_reserve = 6;
      };
    }
    ∷ [])
unfolding computes
component_full = refl

-- and of an application
pub application_full :
    applications (λ a. a) (says (lined ("[apps.x]" ∷ "name = \"n\"" ∷ "partition = \"p\"" ∷ "filename = \"f\""
    ∷ "attr = \"a\"" ∷ "features = \"h\"" ∷ "load_address = 1" ∷ "entry_offset = 2" ∷ [])))
    ≡ accepted (
    record {
      pack = ascii "x";
      name = ascii "n";
      partition = ascii "p";
      filename = ascii "f";
      attr = ascii "a";
      features = texts ("h" ∷ []);
      load_address = some 1;
      entry_offset = some 2;
    }
    ∷ [])
unfolding computes
application_full = refl

-- ---- rooms

-- a preset from the text in lent rooms of so many bytes, to whose board `board` is lent
abbrev in_rooms_lem : ℕ → ℕ → List ℕ → Answer whole.Read
in_rooms_lem store tree s = whole.read of01 store tree (ascii "board") s

-- corner 33: `x.aic` is not in the store, which has the segments alone: `[apps.x]`
pub not_stored : accepted_then (in_rooms_lem 32768 65536 (ascii "[apps.x]")) (λ r. accepted r.parsed.bytes)
    ≡ accepted (words ("apps" ∷ "x" ∷ []))
unfolding computes
not_stored = refl

-- corner 34: 17 by the lent sizes alone, whatever the text, before 1 and 2
pub small_store : in_rooms_lem 32767 65536 [] ≡ at_no_line 17
unfolding computes
small_store = refl

pub small_tree : in_rooms_lem 32768 65535 [] ≡ at_no_line 17
unfolding computes
small_tree = refl

pub small_first : in_rooms_lem 32768 65535 (0xff ∷ []) ≡ at_no_line 17
unfolding computes
small_first = refl

-- longer rooms than needed are fine, and the text is judged before its fields: `board = 1⏎x`
pub text_first : in_rooms_lem 40000 70000 (ascii "board = 1\nx") ≡ refuses 5 0 2
unfolding computes
text_first = refl

-- ---- corner 35: the sections of 20 at the root, all at place 0

-- `board = 1`
pub board_kind : reads "board = 1" ≡ refuses 20 in_board 0
unfolding computes
board_kind = refl

-- `image = "x"`
pub image_kind : reads "image = \"x\"" ≡ refuses 20 in_image 0
unfolding computes
image_kind = refl

-- `image = 1⏎board = 1`: the board comes first, wherever it stands
pub board_first : reads "image = 1\nboard = 1" ≡ refuses 20 in_board 0
unfolding computes
board_first = refl

-- `partition = "x"` and `partitions = true`
pub partition_kind : reads "partition = \"x\"" ≡ refuses 20 in_partition 0
unfolding computes
partition_kind = refl

pub partitions_kind : reads "partitions = true" ≡ refuses 20 in_partition 0
unfolding computes
partitions_kind = refl

-- `[component]` and `components = 1`
pub component_kind : reads "[component]" ≡ refuses 20 in_component 0
unfolding computes
component_kind = refl

pub components_kind : reads "components = 1" ≡ refuses 20 in_component 0
unfolding computes
components_kind = refl

-- `[[apps]]`
pub apps_kind : reads "[[apps]]" ≡ refuses 20 in_application 0
unfolding computes
apps_kind = refl

-- corner 28: `[[partition]]⏎[partition.x]` makes a table of the list
pub list_replaced : reads "[[partition]]\n[partition.x]" ≡ refuses 20 in_partition 0
unfolding computes
list_replaced = refl

-- ---- corner 35: the sections of 22

-- `[board]⏎chip = "z"`
pub chip_word_lem : reads "[board]\nchip = \"z\"" ≡ refuses 22 in_board 0
unfolding computes
chip_word_lem = refl

-- `[image]⏎platform = "z"`
pub platform_word : reads "[image]\nplatform = \"z\"" ≡ refuses 22 in_image 0
unfolding computes
platform_word = refl

-- `[image]⏎media = "z"`
pub media_word_lem : reads "[image]\nmedia = \"z\"" ≡ refuses 22 in_image 0
unfolding computes
media_word_lem = refl

-- `[[component]]⏎name = ""⏎[[component]]⏎kind = "z"`
pub kind_word_lem : reads "[[component]]\nname = \"\"\n[[component]]\nkind = \"z\"" ≡ refuses 22 in_component 1
unfolding computes
kind_word_lem = refl

-- ---- corner 36: chip and platform

-- both are of the right kind before the word is looked at: `[board]⏎chip = "z"⏎[image]⏎platform = 1`
pub kinds_before_word : reads "[board]\nchip = \"z\"\n[image]\nplatform = 1" ≡ refuses 20 in_image 0
unfolding computes
kinds_before_word = refl

-- the board's first: `[board]⏎chip = 1⏎[image]⏎platform = 1`
pub chip_before_platform : reads "[board]\nchip = 1\n[image]\nplatform = 1" ≡ refuses 20 in_board 0
unfolding computes
chip_before_platform = refl

-- and `platform` before the board's other fields: `[board]⏎name = 1⏎[image]⏎platform = 1`
pub platform_before_name : reads "[board]\nname = 1\n[image]\nplatform = 1" ≡ refuses 20 in_image 0
unfolding computes
platform_before_name = refl

-- as the word: `[board]⏎name = 1⏎chip = "z"`
pub word_before_name : reads "[board]\nname = 1\nchip = \"z\"" ≡ refuses 22 in_board 0
unfolding computes
word_before_name = refl

-- where the board has a chip, the platform is any text: `[board]⏎chip = "d21x"⏎[image]⏎platform = "z"`
pub platform_any : images (reads "[board]\nchip = \"d21x\"\n[image]\nplatform = \"z\"")
    ≡ accepted (record {
      platform = ascii "z";
      product = ascii "unknown";
      version = ascii "0.0.0";
      media = spiNand;
      media_dev_id = 0;
      media_id = [];
      boot_app = [];
    })
unfolding computes
platform_any = refl

-- the platform's word is the chip's where the board has none: `[image]⏎platform = "d21x"`
pub platform_chip : boards (reads "[image]\nplatform = \"d21x\"")
    ≡ accepted (record {
      name = ascii "lent";
      chip = d21x;
      target = ascii "riscv64gc-unknown-none-elf";
      profile = ascii "release";
    })
unfolding computes
platform_chip = refl

-- words are exact: `chip = " d13x"`, `chip = "D13X"` and `chip = ""`
pub word_space : reads "[board]\nchip = \" d13x\"" ≡ refuses 22 in_board 0
unfolding computes
word_space = refl

pub word_capitals : reads "[board]\nchip = \"D13X\"" ≡ refuses 22 in_board 0
unfolding computes
word_capitals = refl

pub word_empty : reads "[board]\nchip = \"\"" ≡ refuses 22 in_board 0
unfolding computes
word_empty = refl

-- ---- corner 37: singular and plural

-- the plural alone: `[[partitions]]`
pub plural : seen (λ p. p.partitions) (reads "[[partitions]]\nname = \"a\"\noffset = 2\nsize = 1")
    ≡ accepted (record { name = ascii "a"; offset = 2; size = 1; locked = false } ∷ [])
unfolding computes
plural = refl

-- `partition = []` beside it leaves no partitions: 40 is told later
pub singular_empty : seen (λ p. p.partitions)
    (reads "partition = []\n[[partitions]]\nname = \"a\"\noffset = 2\nsize = 1") ≡ accepted []
unfolding computes
singular_empty = refl

-- `partition = 1` beside it is 20
pub singular_kind : reads "partition = 1\n[[partitions]]\nname = \"a\"\noffset = 2\nsize = 1" ≡ refuses 20 in_partition 0
unfolding computes
singular_kind = refl

-- `[partitions]` beside `[[partition]]` is not looked at
pub plural_unseen : seen (λ p. p.partitions) (reads "[partitions]\n[[partition]]\nname = \"a\"\noffset = 2\nsize = 1")
    ≡ accepted (record { name = ascii "a"; offset = 2; size = 1; locked = false } ∷ [])
unfolding computes
plural_unseen = refl

-- so with components: `component = []⏎[[components]]`
pub components_empty : components (λ c. c.head.name) (reads "component = []\n[[components]]") ≡ accepted []
unfolding computes
components_empty = refl

pub components_plural : components (λ c. c.head.name) (reads "[[components]]\nname = \"c\"")
    ≡ accepted (texts ("c" ∷ []))
unfolding computes
components_plural = refl

-- ---- corner 38: list length

-- `1` n times, as a list
abbrev ones : ℕ → List ℕ
ones zero = []
ones (suc n) = 49 ∷ 44 ∷ ones n

-- `key = [1,×n]`
abbrev of_ones : String → ℕ → List ℕ
of_ones key n = ascii key ++ ascii " = [" ++ ones n ++ ascii "]\n"

-- before entries, at the first entry over: `partition = [1×33]`, `component = [1×65]`
pub partitions_33 : says (of_ones "partition" 33) ≡ refuses 25 in_partition 32
unfolding computes
partitions_33 = refl

pub components_65 : says (of_ones "component" 65) ≡ refuses 25 in_component 64
unfolding computes
components_65 = refl

-- and 32 or 64 entries that are no tables are 23 at the first
pub partitions_32 : says (of_ones "partition" 32) ≡ refuses 23 in_partition 0
unfolding computes
partitions_32 = refl

pub components_64 : says (of_ones "components" 64) ≡ refuses 23 in_component 0
unfolding computes
components_64 = refl

-- a tree of n applications, whose keys are the bytes below n, the last one first
abbrev apps : ℕ → Table
apps zero = empty
apps (suc n) = entry (n ∷ []) (table empty) (apps n)

abbrev of_apps : ℕ → Answer Preset
of_apps n = preset_of of01 (ascii "lent") ("apps" ≔ table (apps n) ⨾ empty)

pub applications_65 : of_apps 65 ≡ refuses 25 in_application 64
unfolding computes
applications_65 = refl

-- n keys of one byte, from the first on
abbrev up : ℕ → ℕ → List (List ℕ)
up first zero = []
up first (suc n) = (first ∷ []) ∷ up (suc first) n

-- 64 are read, in byte order of key
pub applications_64 : applications (λ a. a.pack) (of_apps 64) ≡ accepted (up 0 64)
unfolding computes
applications_64 = refl

-- each list's length is judged at its own turn: a partition's 24 before the components' 25: `component =
-- [1×65]⏎[[partition]]`
pub length_at_turn : says (of_ones "component" 65 ++ ascii "[[partition]]") ≡ refuses 24 in_partition 0
unfolding computes
length_at_turn = refl

-- ---- corners 38 to 41: features

-- fields of the second component, and of the second application in byte order
abbrev of_component : List ℕ → List ℕ
of_component s = ascii "[[component]]\nname = \"a\"\n[[component]]\nname = \"b\"\n" ++ s

abbrev of_application : List ℕ → List ℕ
of_application s = ascii "[apps.b]\n" ++ s ++ ascii "[apps.a]"

-- corner 38: 25 of a feature list is told at its entry
pub features_33 : says (of_component (of_ones "features" 33)) ≡ refuses 25 in_component 1
unfolding computes
features_33 = refl

pub pbp_features_33 : says (of_component (of_ones "pbp_features" 33)) ≡ refuses 25 in_component 1
unfolding computes
pbp_features_33 = refl

pub app_features_33 : says (of_application (of_ones "features" 33)) ≡ refuses 25 in_application 1
unfolding computes
app_features_33 = refl

-- corner 39: 33 items of which one is no string are 25, as above, and 32 are 20
pub features_32 : says (of_component (of_ones "features" 32)) ≡ refuses 20 in_component 1
unfolding computes
features_32 = refl

-- the features of one component
abbrev features_of : List ℕ → Answer (List (List (List ℕ)))
features_of s = components (λ c. c.role.features) (says (ascii "[[component]]\nname = \"c\"\nfeatures = " ++ s))

-- a string of n times `a,, `, and an array of n empty strings
abbrev spaced : ℕ → List ℕ
spaced zero = []
spaced (suc n) = ascii "a,, " ++ spaced n

abbrev quoted : List ℕ → List ℕ
quoted s = ascii "\"" ++ s ++ ascii "\""

abbrev empties : ℕ → List ℕ
empties zero = []
empties (suc n) = ascii "\"\"," ++ empties n

-- corner 40: of a string, items count without the empty ones and before duplicates drop
pub spaced_32 : features_of (quoted (spaced 32)) ≡ accepted (texts ("a" ∷ []) ∷ [])
unfolding computes
spaced_32 = refl

pub spaced_33 : features_of (quoted (spaced 33)) ≡ refuses 25 in_component 0
unfolding computes
spaced_33 = refl

-- corner 40: of an array, empty ones count
pub empties_32 : features_of (ascii "[" ++ empties 32 ++ ascii "]") ≡ accepted (texts ("" ∷ []) ∷ [])
unfolding computes
empties_32 = refl

pub empties_33 : features_of (ascii "[" ++ empties 33 ++ ascii "]") ≡ refuses 25 in_component 0
unfolding computes
empties_33 = refl

-- corner 41: only space and comma split; a tab, an LF and U+00A0 stay inside an item
pub other_blanks : features_of (quoted (ascii "b\\ta\\nc " ++ 97 ∷ 0xc2 ∷ 0xa0 ∷ 98 ∷ []))
    ≡ accepted (((97 ∷ 0xc2 ∷ 0xa0 ∷ 98 ∷ []) ∷ ascii "b\ta\nc" ∷ []) ∷ [])
unfolding computes
other_blanks = refl

-- corner 41: `["x y"]` is one item
pub array_unsplit : features_of (ascii "[\"x y\"]") ≡ accepted (texts ("x y" ∷ []) ∷ [])
unfolding computes
array_unsplit = refl

-- "sorted by bytes, duplicates dropped": `"b,a B ab  b"`, and the same as an array with an empty one
pub sorted_words : features_of (ascii "\"b,a B ab  b\"") ≡ accepted (texts ("B" ∷ "a" ∷ "ab" ∷ "b" ∷ []) ∷ [])
unfolding computes
sorted_words = refl

pub sorted_array : features_of (ascii "[\"b\", \"a\", \"\", \"B\", \"ab\", \"b\"]")
    ≡ accepted (texts ("" ∷ "B" ∷ "a" ∷ "ab" ∷ "b" ∷ []) ∷ [])
unfolding computes
sorted_array = refl

-- 20 of a list that is neither string nor array, and of an item in it: `1`, `["a", ["b"]]`
pub features_kind : features_of (ascii "1") ≡ refuses 20 in_component 0
unfolding computes
features_kind = refl

pub item_kind : features_of (ascii "[\"a\", [\"b\"]]") ≡ refuses 20 in_component 0
unfolding computes
item_kind = refl

-- the pbp_features of one component with `features = "f"`
abbrev pbp_of : String → Answer (List (List (List ℕ)))
pbp_of s = components (λ c. c.role.pbp_features)
    (says (ascii "[[component]]\nname = \"c\"\nfeatures = \"f\"\npbp_features = " ++ ascii s))

-- corner 41: "Empty `pbp_features` takes `features`": `""`, `" , "` and `[]` are empty, `[""]` is not
pub pbp_empty : pbp_of "\"\"" ≡ accepted (texts ("f" ∷ []) ∷ [])
unfolding computes
pbp_empty = refl

pub pbp_blank : pbp_of "\" , \"" ≡ accepted (texts ("f" ∷ []) ∷ [])
unfolding computes
pbp_blank = refl

pub pbp_no_items : pbp_of "[]" ≡ accepted (texts ("f" ∷ []) ∷ [])
unfolding computes
pbp_no_items = refl

pub pbp_empty_item : pbp_of "[\"\"]" ≡ accepted (texts ("" ∷ []) ∷ [])
unfolding computes
pbp_empty_item = refl

-- ---- corner 42: a missing field is told at its turn

-- `[[partition]]⏎offset = 0⏎size = "x"`
pub name_missing : reads "[[partition]]\noffset = 0\nsize = \"x\"" ≡ refuses 24 in_partition 0
unfolding computes
name_missing = refl

-- `[[partition]]⏎name = 1`
pub name_kind : reads "[[partition]]\nname = 1" ≡ refuses 20 in_partition 0
unfolding computes
name_kind = refl

-- `[[partition]]⏎name = "a"⏎size = -1`
pub offset_missing : reads "[[partition]]\nname = \"a\"\nsize = -1" ≡ refuses 24 in_partition 0
unfolding computes
offset_missing = refl

-- `[[partition]]⏎name = "a"⏎offset = -1`
pub offset_range : reads "[[partition]]\nname = \"a\"\noffset = -1" ≡ refuses 21 in_partition 0
unfolding computes
offset_range = refl

-- `[[partition]]⏎name = "a"⏎offset = 0`
pub size_missing : reads "[[partition]]\nname = \"a\"\noffset = 0" ≡ refuses 24 in_partition 0
unfolding computes
size_missing = refl

-- of a component, `kind` comes before: `[[component]]⏎kind = "z"` and `[[component]]⏎package = 1`
pub kind_before_name : reads "[[component]]\nkind = \"z\"" ≡ refuses 22 in_component 0
unfolding computes
kind_before_name = refl

pub component_name_missing : reads "[[component]]\npackage = 1" ≡ refuses 24 in_component 0
unfolding computes
component_name_missing = refl

-- ---- numbers: 21

-- `[image]⏎media_dev_id = ..`
pub most_number : seen (λ p. p.image.media_dev_id) (reads "[image]\nmedia_dev_id = 4294967295") ≡ accepted 4294967295
unfolding computes
most_number = refl

pub above_most : reads "[image]\nmedia_dev_id = 4294967296" ≡ refuses 21 in_image 0
unfolding computes
above_most = refl

pub below_zero : reads "[image]\nmedia_dev_id = -1" ≡ refuses 21 in_image 0
unfolding computes
below_zero = refl

pub minus_zero : seen (λ p. p.image.media_dev_id) (reads "[image]\nmedia_dev_id = -0") ≡ accepted 0
unfolding computes
minus_zero = refl

-- ---- corner 43: the default of a component's filename

abbrev filename_of : String → Answer (List (List ℕ))
filename_of s = components (λ c. c.head.filename) (says (ascii "[[component]]\nname = \"c\"\n" ++ ascii s))

-- `bin`, then the file's name, then `package`, also where 53 refuses both later
pub by_bin : filename_of "bin = \"b\"\nfile = \"d/f\"\npackage = \"p\"" ≡ accepted (texts ("b" ∷ []))
unfolding computes
by_bin = refl

pub by_file : filename_of "file = \"d/f\"\npackage = \"p\"" ≡ accepted (texts ("f" ∷ []))
unfolding computes
by_file = refl

pub by_package : filename_of "package = \"p\"" ≡ accepted (texts ("p" ∷ []))
unfolding computes
by_package = refl

-- a file without a name falls through: `file = ".."⏎package = "p"` and `file = ".."`
pub nameless_file : filename_of "file = \"..\"\npackage = \"p\"" ≡ accepted (texts ("p" ∷ []))
unfolding computes
nameless_file = refl

pub nameless_alone : filename_of "file = \"..\"" ≡ accepted (texts ("component.bin" ∷ []))
unfolding computes
nameless_alone = refl

-- `bin = ""` gives an empty filename
pub empty_bin : filename_of "bin = \"\"\npackage = \"p\"" ≡ accepted (texts ("" ∷ []))
unfolding computes
empty_bin = refl

-- ---- corner 44: presence, not emptiness

-- `package = ""⏎file = ""⏎ram = 0⏎pbp = ""⏎pbp_package = ""`, of a component whose name is empty
abbrev sparse : Answer Preset
sparse = reads "[[component]]\nname = \"\"\npackage = \"\"\nfile = \"\"\nram = 0\npbp = \"\"\npbp_package = \"\""

pub present_head : components (λ c. c.head) sparse
    ≡ accepted (record { kind = kindRaw; name = []; pack = some []; bin = none; file = some []; filename = [] } ∷ [])
unfolding computes
present_head = refl

pub present_boot : components (λ c. c.boot) sparse
    ≡ accepted (record { updater = false; ram = some 0; pbp = some []; pbp_pack = some []; private = none } ∷ [])
unfolding computes
present_boot = refl

-- ---- corner 45: file names

abbrev names : List String → List (Option (List ℕ))
names fs = over (λ f. file_name (ascii f)) fs

abbrev stems : List String → List (Option (List ℕ))
stems fs = over (λ f. file_stem (ascii f)) fs

-- "its last `/` piece that is neither empty nor `.`"
pub last_piece_lem : names ("a" ∷ "a/b" ∷ "a/." ∷ "a//" ∷ "./a" ∷ "/a/./" ∷ "../a" ∷ "..." ∷ [])
    ≡ over (λ f. some (ascii f)) ("a" ∷ "b" ∷ "a" ∷ "a" ∷ "a" ∷ "a" ∷ "a" ∷ "..." ∷ [])
unfolding computes
last_piece_lem = refl

-- none, or "`..` gives none"
pub no_piece : names ("" ∷ "." ∷ "./" ∷ "/" ∷ ".." ∷ "a/.." ∷ "a/../" ∷ "a/.././" ∷ []) ≡ replicate 8 none
unfolding computes
no_piece = refl

-- "Its stem stops before the last dot, unless that dot is first."
pub stops_at_dot : stems ("a.b" ∷ "a.b.c" ∷ "a." ∷ "..." ∷ "..a" ∷ "d.e/f" ∷ [])
    ≡ over (λ f. some (ascii f)) ("a" ∷ "a.b" ∷ "a" ∷ ".." ∷ "." ∷ "f" ∷ [])
unfolding computes
stops_at_dot = refl

pub first_dot : stems (".a" ∷ "x/.a/." ∷ "a" ∷ []) ≡ over (λ f. some (ascii f)) (".a" ∷ ".a" ∷ "a" ∷ [])
unfolding computes
first_dot = refl

pub no_stem : stems (".." ∷ "/" ∷ []) ≡ none ∷ none ∷ []
unfolding computes
no_stem = refl

-- ---- corner 46: the lent board name

abbrev lending : List ℕ → String → Answer (List ℕ)
lending name s = accepted_then (document of01 (ascii s)) (λ d. seen (λ p. p.board.name) (preset_of of01 name d.root))

-- empty it stays empty, and `é` is `é`
pub lent_empty : lending [] "" ≡ accepted []
unfolding computes
lent_empty = refl

pub lent_wide : lending (0xc3 ∷ 0xa9 ∷ []) "" ≡ accepted (0xc3 ∷ 0xa9 ∷ [])
unfolding computes
lent_wide = refl

-- "one that is not UTF-8 counts as `board`"
pub lent_stray : lending (97 ∷ 0xc3 ∷ []) "" ≡ accepted (ascii "board")
unfolding computes
lent_stray = refl

-- the board's own name comes before it: `[board]⏎name = ""`
pub own_name : lending (ascii "lent") "[board]\nname = \"\"" ≡ accepted []
unfolding computes
own_name = refl

-- ---- entries: 23

-- corner 27: `partition = [1]⏎[[partition]]` has an integer for its first entry
pub first_no_table : reads "partition = [1]\n[[partition]]" ≡ refuses 23 in_partition 0
unfolding computes
first_no_table = refl

-- an entry is told by its number: `[[component]]⏎name = "c"⏎[[component]]`
pub second_entry : reads "[[component]]\nname = \"c\"\n[[component]]" ≡ refuses 24 in_component 1
unfolding computes
second_entry = refl

-- of applications in byte order of key: `[apps]⏎b = 1⏎a.name = "x"` is told at 1
pub app_no_table : reads "[apps]\nb = 1\na.name = \"x\"" ≡ refuses 23 in_application 1
unfolding computes
app_no_table = refl

-- and refused in that order: `[apps]⏎b.name = 1⏎B = 1` at 0, and `[apps]⏎b.name = 1⏎B.name = "x"` at 1
pub app_first : reads "[apps]\nb.name = 1\nB = 1" ≡ refuses 23 in_application 0
unfolding computes
app_first = refl

pub app_second : reads "[apps]\nb.name = 1\nB.name = \"x\"" ≡ refuses 20 in_application 1
unfolding computes
app_second = refl

-- corner 32: a key that comes again is one application: `[apps]⏎a = 1⏎b.name = "y"⏎a.name = "x"`
pub app_again : applications (λ a. a.name) (reads "[apps]\na = 1\nb.name = \"y\"\na.name = \"x\"")
    ≡ accepted (texts ("x" ∷ "y" ∷ []))
unfolding computes
app_again = refl

-- ---- the order of the groups

-- the image's last field before partitions: `partition = 1⏎[image]⏎app = 1`
pub image_before_partitions : reads "partition = 1\n[image]\napp = 1" ≡ refuses 20 in_image 0
unfolding computes
image_before_partitions = refl

-- partitions before components, and those before applications: `apps = 1⏎component = 1⏎partition = [1]` and `apps =
-- 1⏎component = [1]`
pub partitions_before_components : reads "apps = 1\ncomponent = 1\npartition = [1]" ≡ refuses 23 in_partition 0
unfolding computes
partitions_before_components = refl

pub components_before_applications : reads "apps = 1\ncomponent = [1]" ≡ refuses 23 in_component 0
unfolding computes
components_before_applications = refl

-- one entry through all its fields before the next: `[[component]]⏎name = "a"⏎ext_reserve = true⏎[[component]]⏎kind =
-- "z"`
pub entry_before_next : reads "[[component]]\nname = \"a\"\next_reserve = true\n[[component]]\nkind = \"z\""
    ≡ refuses 20 in_component 0
unfolding computes
entry_before_next = refl

-- 01's number of a refusal, 0 where there is none
abbrev refusal : Answer Preset → ℕ
refusal (accepted p) = 0
refusal (refused f section place) = number_of f

-- what is refused where these fields stand under one header
abbrev refusals : String → List String → List ℕ
refusals header fields = over (λ s. refusal (says (ascii header ++ 10 ∷ ascii s))) fields

-- fields in 01's order, as far as numbers show it: of two faults, the earlier field's
pub image_order : refusals "[image]" ("version = 1\nmedia = \"z\"" ∷ "media = \"z\"\nmedia_dev_id = \"\""
    ∷ "media_dev_id = -1\nmedia_id = 1" ∷ []) ≡ 20 ∷ 22 ∷ 21 ∷ []
unfolding computes
image_order = refl

pub boot_order :
    refusals "[[component]]\nname = \"c\"" ("updater = 1\nram = -1" ∷ "ram = -1\npbp = 1"
    ∷ "private = 1\nload_address = -1" ∷ [])
    ≡ 20 ∷ 21 ∷ 20 ∷ []
unfolding computes
boot_order = refl

pub load_order :
    refusals "[[component]]\nname = \"c\"" (
    "load_address = -1\nentry_point = \"\""
    ∷ "entry_point = -1\nentry_offset = \"\""
    ∷ "entry_offset = -1\nheader_version = \"\""
    ∷ "header_version = -1\nwith_ext = 1"
    ∷ "with_ext = 1\next_reserve = -1"
    ∷ []
    )
    ≡ 21 ∷ 21 ∷ 21 ∷ 21 ∷ 20 ∷ []
unfolding computes
load_order = refl

pub application_order : refusals "[apps.x]" ("features = 1\nload_address = -1"
    ∷ "load_address = -1\nentry_offset = \"\"" ∷ []) ≡ 20 ∷ 21 ∷ []
unfolding computes
application_order = refl

-- corner 71: unknown keys are neither refused nor looked at, at the root and in every table
pub unknown_keys : reads "x = 1\n[board]\nx = 1\n[image]\nx = 1\n[y.board]\nchip = 1" ≡ reads ""
unfolding computes
unknown_keys = refl

pub unknown_in_entries : components (λ c. c.head.name) (reads "[[component]]\nname = \"c\"\nx = 1\n[apps.a]\nx.y = 1")
    ≡ accepted (texts ("c" ∷ []))
unfolding computes
unknown_in_entries = refl

-- corner 60: `Chip::ALL` and `Chip::erase_size`
pub erase_blocks : over erase_for chips ≡ 4096 ∷ 131072 ∷ []
unfolding computes
erase_blocks = refl
