-- Corners of locked partitions, W-206, by computation over whole texts: the order of reading, 67 among its neighbours,
-- who may lie where, and what is printed.
use Rattle.std.specs.Prelude.{ℕ, Bool, true, false, List, [], ◌∷◌, ◌++◌, map, ◌≡◌, refl}
use Prim.Native.String.{String}
use Rattle.std.proofs.Math.Option.{Option, none, some}
use Rattle.meaning.specs.Base.{ascii}
use Rattle.meaning.specs.Limits.{of01}
use Rattle.meaning.specs.Refusal.{Answer, accepted, refused}
use Rattle.meaning.specs.Schema.{Partition, Preset}
use Rattle.meaning.specs.Preset.{Read, read, validate}
use Rattle.meaning.specs.Plan.{Planned, app, partition_for, plan}
use Rattle.meaning.specs.Listing.{out_size, listing, printed, computes}
use Rattle.examples.specs.Samples.{lined}
use Rattle.examples.specs.CornersRules.{Says, said, at}

-- what reading and what validation says of lines
unfoldable pub reads : List String → Says
reads lines = said (read of01 32768 65536 (ascii "board") (lined lines))

unfoldable pub says : List String → Says
says lines = said (validate of01 32768 65536 (ascii "board") (lined lines))

-- what f sees of the preset that is read
unfoldable pub seen : {X : Type 0} → (Preset → X) → List String → Option X
seen {X} f lines = of (read of01 32768 65536 (ascii "board") (lined lines))
  where
    of : Answer Read → Option X
    of (accepted r) = some (f r.preset)
    of (refused g section place) = none

abbrev locks : Preset → List Bool
locks p = map (λ (q : Partition). q.locked) p.partitions

-- a partition `a` with one more line, `b` after it with one more, and a component in `a`
abbrev first : String → List String
first more = "[[partition]]" ∷ "name = \"a\"" ∷ "offset = 0" ∷ "size = 4096" ∷ more ∷ []

abbrev second : String → List String
second more = "[[partition]]" ∷ "name = \"b\"" ∷ "offset = 4096" ∷ "size = 4096" ∷ more ∷ []

abbrev loaded : List String
loaded = "[[component]]" ∷ "name = \"x\"" ∷ "package = \"p\"" ∷ "partition = \"a\"" ∷ []

-- ---- reading: "the boolean `locked`, false if absent"

pub kept : seen locks (first "" ++ second "locked = true" ++ first "locked = false") ≡ some (false ∷ true ∷ false ∷ [])
unfolding seen computes
kept = refl

-- "wrong kind is 20"
pub kind_20 : reads (first "locked = 1") ≡ at 20 3 0
unfolding reads computes
kind_20 = refl

-- "read after `size`": a missing size, or one out of range, comes first
pub size_missing : reads ("[[partition]]" ∷ "name = \"a\"" ∷ "offset = 0" ∷ "locked = 1" ∷ []) ≡ at 24 3 0
unfolding reads computes
size_missing = refl

pub size_range : reads ("[[partition]]" ∷ "name = \"a\"" ∷ "offset = 0" ∷ "size = -1" ∷ "locked = 1" ∷ []) ≡ at 21 3 0
unfolding reads computes
size_range = refl

-- and before the name of the next entry
pub next_name : reads (first "locked = 1" ++ ("[[partition]]" ∷ "name = 1" ∷ [])) ≡ at 20 3 0
unfolding reads computes
next_name = refl

-- the plural list is ignored beside the singular one, and so are its locks
pub plural_unread : seen locks (first "" ++ ("[[partitions]]" ∷ "locked = 1" ∷ [])) ≡ some (false ∷ [])
unfolding seen computes
plural_unread = refl

-- ---- 67: "directly after 64"

-- an application in a locked partition
pub locked_67 : says (first "" ++ second "locked = true" ++ loaded ++ ("[apps.k]" ∷ "partition = \"b\"" ∷ [])) ≡ at 67 5 0
unfolding says computes
locked_67 = refl

-- and in an open one beside it
pub open_beside : says (first "" ++ second "locked = true" ++ loaded ++ ("[apps.k]" ∷ "partition = \"a\"" ∷ [])) ≡ at 0 0 0
unfolding says computes
open_beside = refl

-- 63 and 64 come first; `b ` is no partition
pub after_63 :
    says (first "" ++ second "locked = true" ++ loaded
    ++ ("[apps.k]" ∷ "partition = \"b\"" ∷ "filename = \"\"" ∷ []))
    ≡ at 63 5 0
unfolding says computes
after_63 = refl

pub exactly_64 : says (first "" ++ second "locked = true" ++ loaded ++ ("[apps.k]" ∷ "partition = \"b \"" ∷ [])) ≡ at 64 5 0
unfolding says computes
exactly_64 = refl

-- 65 and 66 come after it: `l` has the name of `k`, a load address that is odd, and lies in a locked partition
pub before_65 :
    says (first "" ++ second "locked = true" ++ loaded
    ++ ("[apps.k]" ∷ "partition = \"a\"" ∷ "[apps.l]" ∷ "name = \"k\"" ∷ "partition = \"b\"" ∷ "load_address = 1" ∷ []))
    ≡ at 67 5 1
unfolding says computes
before_65 = refl

-- ---- who may lie where

-- a component in a locked partition, which is the first (70)
pub component_locked : says (first "locked = true" ++ second "" ++ loaded) ≡ at 0 0 0
unfolding says computes
component_locked = refl

-- `a` is locked, `a;b` is not: an application in `a;b` is accepted, and its planned reference finds `a`
abbrev cut : List String
cut = first "locked = true" ++ ("[[partition]]" ∷ "name = \"a;b\"" ∷ "offset = 4096" ∷ "size = 4096" ∷ [])
    ++ loaded ++ ("[apps.k]" ∷ "partition = \"a;b\"" ∷ [])

pub cut_accepted : says cut ≡ at 0 0 0
unfolding says computes
cut_accepted = refl

-- the lock of what a reference finds in the plan for `k`
unfoldable pub found_lock : List ℕ → List String → Option Bool
found_lock reference lines = of (plan of01 32768 65536 (ascii "board") (app (ascii "k")) (lined lines))
  where
    lock : Option Partition → Option Bool
    lock none = none
    lock (some p) = some p.locked

    of : Answer Planned → Option Bool
    of (accepted x) = lock (partition_for x.plan.partitions reference)
    of (refused g section place) = none

pub cut_finds_locked : found_lock (ascii "a;b") cut ≡ some true
unfolding found_lock computes
cut_finds_locked = refl

-- ---- "printed last on its `part` line as `locked` or `open`"

pub both_listed :
    printed (listing of01 32768 65536 (out_size (ascii "board")) (ascii "board")
    (lined (first "" ++ second "locked = true" ++ loaded)))
    ≡ lined (
    "ok d13x spi-nor 2 1 0 15"
    ∷ "part \"a\" 0 4096 open"
    ∷ "part \"b\" 4096 8192 locked"
    ∷ "comp \"x\" raw \"a\""
    ∷ "build \"p\" 0"
    ∷ "stem \"board\""
    ∷ []
    )
unfolding computes
both_listed = refl
