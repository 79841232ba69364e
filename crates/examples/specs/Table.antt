-- 01, "Either side of the line": "Proved as one table over the definitions (P)".
use Rattle.std.specs.Prelude.{ℕ, false, List, [], ◌∷◌, ◌≡◌, refl, pos, negsuc}
use Rattle.meaning.specs.Base.{ascii}
use Rattle.meaning.specs.Limits.{of01}
use Rattle.meaning.specs.Refusal.{accepted, refused, numbered, in_partition, at_line, ok, bad}
use Rattle.meaning.specs.Integers.{integer}
use Rattle.meaning.specs.Keys as keyed
use Rattle.meaning.specs.Reading.{got}
use Rattle.meaning.specs.Tree.{int, array, table, none', item, empty}
use Rattle.meaning.specs.Values as valued
use Rattle.meaning.specs.Document.{document, computes}
use Rattle.examples.specs.Samples.{◌≔◌⨾◌}
use Rattle.meaning.specs.Schema.{Partition, d13x}
use Rattle.meaning.specs.Verdict.{fine}
use Rattle.meaning.specs.Layout as laid
use Rattle.meaning.specs.Layout.{layout}
use Rattle.meaning.specs.Preset.{validate}

-- two partitions on NOR, the first of 0x1000 bytes at 0, the second as long
abbrev two_at : ℕ → List Partition
two_at offset = record { name = ascii "a"; offset = 0; size = 4096; locked = false }
    ∷ record { name = ascii "b"; offset = offset; size = 4096; locked = false } ∷ []

pub record P : Type 0 where
  -- P1 "`0x-5` is -5"
  pub p1 : integer (ascii "0x-5") ≡ ok (negsuc 4)
  -- P2 "`-0x5` is 12"
  pub p2 : integer (ascii "-0x5") ≡ bad 12
  -- P3 "`0_x10` is 16"
  pub p3 : integer (ascii "0_x10") ≡ ok (pos 16)
  -- P4 "`0x7fffffffffffffff` is read"
  pub p4 : integer (ascii "0x7fffffffffffffff") ≡ ok (pos 9223372036854775807)
  -- P5 "`0x8000000000000000` is 12"
  pub p5 : integer (ascii "0x8000000000000000") ≡ bad 12
  -- P6 "`[1,,2]` has two items"
  pub p6 : valued.value of01.values of01.arrays (ascii "[1,,2]") 0
      ≡ got (array (item (int (pos 1)) (item (int (pos 2)) none'))) [] 3
  -- P7 "key `"a.b"` is 9"
  pub p7 : keyed.keys of01.segments (ascii "\"a.b\"") ≡ bad 9
  -- P8 "`[[a]]` then `[a]` leaves an empty table"; the array, its table and this one are made
  pub p8 : document of01 (ascii "[[a]]\n[a]") ≡ accepted
      (record { root = "a" ≔ table empty ⨾ empty; bytes = ascii "aa"; made = 3 })
  -- P9 "on NOR, a second partition at 0xFFFFE000, size 0x1000, after one at 0 of that size, passes"
  pub p9 : layout d13x (two_at 4294959104) ≡ fine
  -- P10 "at 0xFFFFF000 it is 48"
  pub p10 : layout d13x (two_at 4294963200) ≡ refused (numbered 48) in_partition 1
  -- P11 "line `x`, then `]`, is 3 at line 2"
  pub p11 : document of01 (ascii "x\n]") ≡ at_line 3 2
  -- P12 "empty text is 40"
  pub p12 : validate of01 32768 65536 (ascii "board") [] ≡ refused (numbered 40) in_partition 0

pub held : P
unfolding
    Rattle.meaning.specs.Integers.computes valued.computes keyed.computes computes laid.computes
    Rattle.meaning.specs.Preset.computes
held =
    record {
      p1 = refl;
      p2 = refl;
      p3 = refl;
      p4 = refl;
      p5 = refl;
      p6 = refl;
      p7 = refl;
      p8 = refl;
      p9 = refl;
      p10 = refl;
      p11 = refl;
      p12 = refl;
    }
