-- 01, "What the listing prints": the lines of an accepted preset's boot chain, and of a refusal.
use Rattle.std.specs.Prelude.{ℕ, ◌+◌, ◌*◌, Bool, true, false, List, [], ◌∷◌, ◌++◌, map, ltb, leb, length}
use Rattle.meaning.specs.Base.{pick, nil?}
use Rattle.meaning.specs.Limits.{Limits}
use Rattle.meaning.specs.Refusal.{Answer, accepted, refused, numbered, in_text, number_of, accepted_then}
use Rattle.meaning.specs.Schema.{Chip, Media, Kind, d13x, d21x, spiNor, spiNand, kindApp, kindPbp, kindRaw, Partition, Component, Application, Preset}
use Rattle.meaning.specs.Plan.{Build, Plan, Planned, boot_chain, plan}
use Rattle.meaning.specs.Print.{Word, wordOk, wordPart, wordComp, wordApp, wordBuild, wordStem, wordRefused, wordD13x, wordD21x, wordSpiNor, wordSpiNand, wordPbp, wordRaw, wordLocked, wordOpen, Field, of_word, of_number, of_text, absent, Line, page}

-- ---- "names belong to the chip and media themselves": the words of both, and of a kind

abbrev pub chip_named : Chip → Word
chip_named d13x = wordD13x
chip_named d21x = wordD21x

abbrev pub media_named : Media → Word
media_named spiNor = wordSpiNor
media_named spiNand = wordSpiNand

abbrev pub kind_named : Kind → Word
kind_named kindApp = wordApp
kind_named kindPbp = wordPbp
kind_named kindRaw = wordRaw

-- W-206: "printed last on its `part` line as `locked` or `open`"
abbrev pub lock_named : Bool → Word
lock_named true = wordLocked
lock_named false = wordOpen

-- ---- the lines

-- "`ok`: chip, media, partitions, components, applications, values made"
unfoldable pub ok_line : ℕ → Preset → Line
ok_line made r =
    of_word wordOk
    ∷ of_word (chip_named r.board.chip)
    ∷ of_word (media_named r.image.media)
    ∷ of_number (length r.partitions)
    ∷ of_number (length r.components)
    ∷ of_number (length r.applications)
    ∷ of_number made
    ∷ []

-- "`part`: name, start, end", and the lock
unfoldable pub part_line : Partition → Line
part_line p =
    of_word wordPart
    ∷ of_text p.name
    ∷ of_number p.offset
    ∷ of_number (p.offset + p.size)
    ∷ of_word (lock_named p.locked)
    ∷ []

-- "`-` for an empty partition"
unfoldable pub placed : List ℕ → Field
placed reference = pick (nil? reference) absent (of_text reference)

-- "`comp`: name, kind, reference"
unfoldable pub comp_line : Component → Line
comp_line c = of_word wordComp ∷ of_text c.head.name ∷ of_word (kind_named c.head.kind) ∷ placed c.role.partition ∷ []

-- "`app`: package, name, partition"; no rule lets an empty one pass
unfoldable pub app_line : Application → Line
app_line a = of_word wordApp ∷ of_text a.pack ∷ of_text a.name ∷ placed a.partition ∷ []

-- "`build`: package, feature count"
unfoldable pub build_line : Build → Line
build_line b = of_word wordBuild ∷ of_text b.pack ∷ of_number (length b.features) ∷ []

-- the last line of 01's output: the plan's stem
unfoldable pub stem_line : List ℕ → Line
stem_line s = of_word wordStem ∷ of_text s ∷ []

-- of an accepted preset with so many values made, and its plan
unfoldable pub lines_of : ℕ → Preset → Plan → List Line
lines_of made r p =
    ok_line made r
    ∷ (map part_line r.partitions
    ++ (map comp_line r.components
    ++ (map app_line r.applications
    ++ (map build_line p.builds
    ++ (stem_line p.stem ∷ [])))))

-- "A refusal prints `refused`, number, section, place."
unfoldable pub refused_line : ℕ → ℕ → ℕ → Line
refused_line n section place = of_word wordRefused ∷ of_number n ∷ of_number section ∷ of_number place ∷ []

-- ---- the listing of a text

-- how many bytes a listing may have: each byte of the store stands in it no more than twice and is printed as no more
-- than two, 11,776 for all else, and the lent name, each byte as two
abbrev pub out_size : List ℕ → ℕ
out_size name = 142848 + 2 * length name

-- an output that is shorter than that, or so long that no number of 32 bits says what was written to it
unfoldable pub short : ℕ → List ℕ → Bool
short out name = pick (ltb out (out_size name)) true (leb 4294967296 (out_size name))

-- what a listing is made of, and its lines
pub record Listed : Type 0 where
  pub planned : Planned
  pub lines : List Line

-- the listing of a plan
abbrev pub listed : Planned → Listed
listed x = record { planned = x; lines = lines_of x.read.parsed.made x.read.preset x.plan }

-- the bytes of a listing
abbrev pub bytes_of : Listed → List ℕ
bytes_of l = page l.lines

-- "plans the boot chain"; 17 where the output is too small, as for any lent room
unfoldable pub listing : Limits → ℕ → ℕ → ℕ → List ℕ → List ℕ → Answer Listed
listing lim store tree out name text =
    pick (short out name) (refused (numbered 17) in_text 0)
    (accepted_then (plan lim store tree name boot_chain text) (λ x. accepted (listed x)))

-- what the program prints
unfoldable pub printed : Answer Listed → List ℕ
printed (accepted l) = bytes_of l
printed (refused f section place) = page (refused_line (number_of f) section place ∷ [])

unfoldable pub computes : Unit {0}
unfolding ok_line part_line placed comp_line app_line build_line stem_line lines_of refused_line short listing printed
    Rattle.meaning.specs.Plan.computes
    Rattle.meaning.specs.Print.computes
computes = tt
