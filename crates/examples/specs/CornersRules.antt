-- Corners of validation, by computation: each of 30 to 70, where it is told, and which of two comes first.
use Rattle.std.specs.Prelude.{ℕ, List, [], ◌∷◌, ◌++◌, ◌≡◌, refl}
use Prim.Native.String.{String}
use Rattle.meaning.specs.Base.{ascii}
use Rattle.meaning.specs.Limits.{of01}
use Rattle.meaning.specs.Refusal.{Answer, accepted, refused, number_of}
use Rattle.examples.specs.Samples.{lined}
use Rattle.meaning.specs.Preset.{Read, validate, computes}

-- number, section and place; 0 for none
pub record Says : Type 0 where
  pub number : ℕ
  pub section : ℕ
  pub place : ℕ

abbrev pub said : Answer Read → Says
said (accepted r) = record { number = 0; section = 0; place = 0 }
said (refused f section place) = record { number = number_of f; section = section; place = place }

abbrev pub at : ℕ → ℕ → ℕ → Says
at number section place = record { number = number; section = section; place = place }

-- what validation says of a text
unfoldable pub says : List ℕ → Says
says s = said (validate of01 32768 65536 (ascii "board") s)

-- a partition `boot`, and a component that is loaded there
abbrev boot : List String
boot = "[[partition]]" ∷ "name = \"boot\"" ∷ "offset = 0" ∷ "size = 0x1000" ∷ []

abbrev loaded : List String
loaded = "[[component]]" ∷ "name = \"c\"" ∷ "file = \"f\"" ∷ "partition = \"boot\"" ∷ []

-- a preset that obeys all
pub sound : says (lined (boot ++ loaded)) ≡ at 0 0 0
unfolding says computes
sound = refl

-- 30 is in section 2
pub media_30 : says (lined (("[image]" ∷ "media = \"spi-nand\"" ∷ []) ++ boot ++ loaded)) ≡ at 30 2 0
unfolding says computes
media_30 = refl

-- 31: a chip of its own, and another platform
pub platform_31 :
    says (lined (("[board]" ∷ "chip = \"d13x\"" ∷ "[image]" ∷ "platform = \"z\"" ∷ []) ++ boot ++ loaded))
    ≡ at 31 2 0
unfolding says computes
platform_31 = refl

-- 32 is in section 1
pub profile_32 : says (lined (("[board]" ∷ "profile = \"\"" ∷ []) ++ boot ++ loaded)) ≡ at 32 1 0
unfolding says computes
profile_32 = refl

-- 34: neither width
pub target_34 : says (lined (("[board]" ∷ "target = \"x86\"" ∷ []) ++ boot ++ loaded)) ≡ at 34 1 0
unfolding says computes
target_34 = refl

-- 35: the other chip's
pub target_35 : says (lined (("[board]" ∷ "target = \"riscv64gc\"" ∷ []) ++ boot ++ loaded)) ≡ at 35 1 0
unfolding says computes
target_35 = refl

-- `riscv32` counts first
pub width_first : says (lined (("[board]" ∷ "target = \"riscv64-riscv32\"" ∷ []) ++ boot ++ loaded)) ≡ at 0 0 0
unfolding says computes
width_first = refl

-- 30 before 32
pub order_30_32 :
    says (lined (("[board]" ∷ "profile = \"\"" ∷ "[image]" ∷ "media = \"spi-nand\"" ∷ []) ++ boot ++ loaded))
    ≡ at 30 2 0
unfolding says computes
order_30_32 = refl

-- 41 before 42 of the same entry
pub start_41 :
    says (lined (("[[partition]]" ∷ "name = \"\"" ∷ "offset = 0x1000" ∷ "size = 0x1000" ∷ []) ++ loaded))
    ≡ at 41 3 0
unfolding says computes
start_41 = refl

-- 42 at its entry
pub name_42 :
    says (lined (boot ++ ("[[partition]]" ∷ "name = \"\"" ∷ "offset = 0x1000" ∷ "size = 0x1000" ∷ []) ++ loaded))
    ≡ at 42 3 1
unfolding says computes
name_42 = refl

-- 43 at the later entry: a, b, b, a
pub twin_43 :
    says (lined (("[[partition]]" ∷ "name = \"a\"" ∷ "offset = 0" ∷ "size = 0x1000" ∷ "[[partition]]" ∷ "name = \"b\"" ∷
    "offset = 0x1000" ∷ "size = 0x1000" ∷ "[[partition]]" ∷ "name = \"b\"" ∷ "offset = 0x2000" ∷
    "size = 0x1000" ∷ "[[partition]]" ∷ "name = \"a\"" ∷ "offset = 0x3000" ∷ "size = 0x1000" ∷ []) ++
    loaded))
    ≡ at 43 3 2
unfolding says computes
twin_43 = refl

-- 44 before 45
pub size_44 :
    says (lined (boot ++ ("[[partition]]" ∷ "name = \"p\"" ∷ "offset = 1" ∷ "size = 0" ∷ []) ++ loaded))
    ≡ at 44 3 1
unfolding says computes
size_44 = refl

-- 45: NOR's block
pub offset_45 :
    says (lined (boot ++ ("[[partition]]" ∷ "name = \"p\"" ∷ "offset = 0x1800" ∷ "size = 0x1000" ∷ []) ++ loaded))
    ≡ at 45 3 1
unfolding says computes
offset_45 = refl

-- 46
pub size_46 :
    says (lined (boot ++ ("[[partition]]" ∷ "name = \"p\"" ∷ "offset = 0x1000" ∷ "size = 0x800" ∷ []) ++ loaded))
    ≡ at 46 3 1
unfolding says computes
size_46 = refl

-- NAND's block is longer
pub nand_45 :
    says (lined (("[board]" ∷ "chip = \"d21x\"" ∷ "[[partition]]" ∷ "name = \"boot\"" ∷ "offset = 0" ∷
    "size = 0x20000" ∷ "[[partition]]" ∷ "name = \"p\"" ∷ "offset = 0x21000" ∷ "size = 0x20000" ∷ []) ++
    loaded))
    ≡ at 45 3 1
unfolding says computes
nand_45 = refl

-- 47: the second starts before the first ends
pub overlap_47 :
    says (lined (("[[partition]]" ∷ "name = \"boot\"" ∷ "offset = 0" ∷ "size = 0x2000" ∷ "[[partition]]" ∷
    "name = \"p\"" ∷ "offset = 0x1000" ∷ "size = 0x1000" ∷ []) ++ loaded))
    ≡ at 47 3 1
unfolding says computes
overlap_47 = refl

-- where the one ends the next may start
pub touching :
    says (lined (("[[partition]]" ∷ "name = \"boot\"" ∷ "offset = 0" ∷ "size = 0x2000" ∷ "[[partition]]" ∷
    "name = \"p\"" ∷ "offset = 0x2000" ∷ "size = 0x1000" ∷ []) ++ loaded))
    ≡ at 0 0 0
unfolding says computes
touching = refl

-- 48: an end of 2^32 is one too far
pub end_48 :
    says (lined (boot ++ ("[[partition]]" ∷ "name = \"p\"" ∷ "offset = 0xFFFFF000" ∷ "size = 0x1000" ∷ []) ++ loaded))
    ≡ at 48 3 1
unfolding says computes
end_48 = refl

-- 50
pub none_50 : says (lined (boot)) ≡ at 50 4 0
unfolding says computes
none_50 = refl

-- 51 at the later entry
pub twin_51 : says (lined (boot ++ loaded ++ loaded)) ≡ at 51 4 1
unfolding says computes
twin_51 = refl

-- 52: 33 bytes
pub long_52 :
    says (lined (boot ++ loaded ++ ("[[component]]" ∷ "name = \"abcdefghijklmnopqrstuvwxyz0123456\"" ∷ "file = \"f\"" ∷
    "partition = \"boot\"" ∷ [])))
    ≡ at 52 4 1
unfolding says computes
long_52 = refl

-- 53, of a package and a file that are empty
pub both_53 :
    says (lined (boot ++ loaded ++ ("[[component]]" ∷ "name = \"d\"" ∷ "package = \"\"" ∷ "file = \"\"" ∷
    "partition = \"boot\"" ∷ [])))
    ≡ at 53 4 1
unfolding says computes
both_53 = refl

-- 54
pub neither_54 :
    says (lined (boot ++ loaded ++ ("[[component]]" ∷ "name = \"d\"" ∷ "partition = \"boot\"" ∷ [])))
    ≡ at 54 4 1
unfolding says computes
neither_54 = refl

-- 55
pub pbp_55 :
    says (lined (boot ++ loaded ++ ("[[component]]" ∷ "name = \"d\"" ∷ "file = \"f\"" ∷ "pbp = \"\"" ∷
    "pbp_package = \"\"" ∷ "partition = \"boot\"" ∷ [])))
    ≡ at 55 4 1
unfolding says computes
pbp_55 = refl

-- 56
pub updater_56 :
    says (lined (boot ++ loaded ++ ("[[component]]" ∷ "name = \"d\"" ∷ "file = \"f\"" ∷ "updater = true" ∷ [])))
    ≡ at 56 4 1
unfolding says computes
updater_56 = refl

-- an updater needs no partition
pub updater_fine :
    says (lined (boot ++ loaded ++ ("[[component]]" ∷ "name = \"d\"" ∷ "file = \"f\"" ∷ "updater = true" ∷ "ram = 0"
    ∷ [])))
    ≡ at 0 0 0
unfolding says computes
updater_fine = refl

-- 57: no reference at all
pub nowhere_57 : says (lined (boot ++ loaded ++ ("[[component]]" ∷ "name = \"d\"" ∷ "file = \"f\"" ∷ []))) ≡ at 57 4 1
unfolding says computes
nowhere_57 = refl

-- 58: a blank reference is one
pub blank_58 :
    says (lined (boot ++ loaded ++ ("[[component]]" ∷ "name = \"d\"" ∷ "file = \"f\"" ∷ "partition = \" \"" ∷ [])))
    ≡ at 58 4 1
unfolding says computes
blank_58 = refl

-- what follows `;` is dropped, and the rest is trimmed
pub reference :
    says (lined (boot ++ ("[[component]]" ∷ "name = \"d\"" ∷ "file = \"f\"" ∷ "partition = \" boot ;x\"" ∷ [])))
    ≡ at 0 0 0
unfolding says computes
reference = refl

-- 59
pub reserve_59 :
    says (lined (boot ++ loaded ++ ("[[component]]" ∷ "name = \"d\"" ∷ "file = \"f\"" ∷ "partition = \"boot\"" ∷
    "ext_reserve = 511" ∷ [])))
    ≡ at 59 4 1
unfolding says computes
reserve_59 = refl

-- 60 at the later component
pub sets_60 :
    says (lined (boot ++ ("[[component]]" ∷ "name = \"c\"" ∷ "package = \"p\"" ∷ "features = \"x\"" ∷
    "partition = \"boot\"" ∷ "[[component]]" ∷ "name = \"d\"" ∷ "package = \"p\"" ∷ "features = \"y\"" ∷
    "partition = \"boot\"" ∷ [])))
    ≡ at 60 4 1
unfolding says computes
sets_60 = refl

-- the same set, written otherwise
pub sets_same :
    says (lined (boot ++ ("[[component]]" ∷ "name = \"c\"" ∷ "package = \"p\"" ∷ "features = \"x y\"" ∷
    "partition = \"boot\"" ∷ "[[component]]" ∷ "name = \"d\"" ∷ "package = \"p\"" ∷
    "features = [\"y\", \"x\", \"y\"]" ∷ "partition = \"boot\"" ∷ [])))
    ≡ at 0 0 0
unfolding says computes
sets_same = refl

-- one component's two uses of a package: only `pbp_features` count
pub sets_one :
    says (lined (boot ++ ("[[component]]" ∷ "name = \"c\"" ∷ "package = \"p\"" ∷ "pbp_package = \"p\"" ∷
    "features = \"x\"" ∷ "pbp_features = \"y\"" ∷ "partition = \"boot\"" ∷ "[[component]]" ∷
    "name = \"d\"" ∷ "package = \"p\"" ∷ "features = \"y\"" ∷ "partition = \"boot\"" ∷ [])))
    ≡ at 0 0 0
unfolding says computes
sets_one = refl

-- 60 in section 5, before 61 of an earlier application
pub sets_application :
    says (lined (boot ++ ("[[component]]" ∷ "name = \"c\"" ∷ "package = \"p\"" ∷ "features = \"x\"" ∷
    "partition = \"boot\"" ∷ "[apps.a]" ∷ "partition = \"boot\"" ∷ "name = \"\"" ∷ "[apps.p]" ∷
    "partition = \"boot\"" ∷ "features = \"y\"" ∷ [])))
    ≡ at 60 5 1
unfolding says computes
sets_application = refl

-- 60 after 59 of a later component
pub sets_late :
    says (lined (boot ++ ("[[component]]" ∷ "name = \"c\"" ∷ "package = \"p\"" ∷ "features = \"x\"" ∷
    "partition = \"boot\"" ∷ "[[component]]" ∷ "name = \"d\"" ∷ "package = \"p\"" ∷ "features = \"y\"" ∷
    "partition = \"boot\"" ∷ "[[component]]" ∷ "name = \"e\"" ∷ "file = \"f\"" ∷ "partition = \"boot\"" ∷
    "ext_reserve = 1" ∷ [])))
    ≡ at 59 4 2
unfolding says computes
sets_late = refl

-- 61
pub name_61 : says (lined (boot ++ loaded ++ ("[apps.a]" ∷ "partition = \"boot\"" ∷ "name = \"\"" ∷ []))) ≡ at 61 5 0
unfolding says computes
name_61 = refl

-- 62
pub long_62 :
    says (lined (boot ++ loaded ++ ("[apps.a]" ∷ "partition = \"boot\"" ∷
    "name = \"abcdefghijklmnopqrstuvwxyz0123456\"" ∷ [])))
    ≡ at 62 5 0
unfolding says computes
long_62 = refl

-- 63
pub filename_63 :
    says (lined (boot ++ loaded ++ ("[apps.a]" ∷ "partition = \"boot\"" ∷ "filename = \"\"" ∷ [])))
    ≡ at 63 5 0
unfolding says computes
filename_63 = refl

-- 64: an application's reference is compared exactly
pub partition_64 : says (lined (boot ++ loaded ++ ("[apps.a]" ∷ "partition = \"boot;\"" ∷ []))) ≡ at 64 5 0
unfolding says computes
partition_64 = refl

-- 65 in byte order of key: `[apps.b]`, then `[apps.a]` with its name
pub twin_65 :
    says (lined (boot ++ loaded ++ ("[apps.b]" ∷ "partition = \"boot\"" ∷ "[apps.a]" ∷ "partition = \"boot\"" ∷
    "name = \"b\"" ∷ [])))
    ≡ at 65 5 1
unfolding says computes
twin_65 = refl

-- 66
pub address_66 :
    says (lined (boot ++ loaded ++ ("[apps.a]" ∷ "partition = \"boot\"" ∷ "load_address = 2" ∷ [])))
    ≡ at 66 5 0
unfolding says computes
address_66 = refl

-- 70 is last
pub boot_70 :
    says (lined (boot ++ ("[[partition]]" ∷ "name = \"p\"" ∷ "offset = 0x1000" ∷ "size = 0x1000" ∷ "[[component]]" ∷
    "name = \"d\"" ∷ "file = \"f\"" ∷ "partition = \"p\"" ∷ [])))
    ≡ at 70 4 0
unfolding says computes
boot_70 = refl

-- 64 before 70
pub boot_after_64 :
    says (lined (boot ++ ("[[partition]]" ∷ "name = \"p\"" ∷ "offset = 0x1000" ∷ "size = 0x1000" ∷ "[[component]]" ∷
    "name = \"d\"" ∷ "file = \"f\"" ∷ "partition = \"p\"" ∷ "[apps.a]" ∷ "partition = \"q\"" ∷ [])))
    ≡ at 64 5 0
unfolding says computes
boot_after_64 = refl

-- lengths are bytes: 16 characters of two bytes and one more are 33 (33, 52, 62)
abbrev wide : List ℕ
wide = 195 ∷ 169 ∷ 195 ∷ 169 ∷ 195 ∷ 169 ∷ 195 ∷ 169 ∷ 195 ∷ 169 ∷ 195 ∷ 169 ∷ 195 ∷ 169 ∷ 195 ∷ 169 ∷ 195 ∷ 169 ∷ 195
    ∷ 169 ∷ 195 ∷ 169 ∷ 195 ∷ 169 ∷ 195 ∷ 169 ∷ 195 ∷ 169 ∷ 195 ∷ 169 ∷ 195 ∷ 169 ∷ 120 ∷ []

pub bytes_33 : says (ascii "[image]\napp = \"" ++ wide ++ ascii "\"\n" ++ lined (boot ++ loaded)) ≡ at 33 2 0
unfolding says computes
bytes_33 = refl
