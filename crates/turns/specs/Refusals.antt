-- Each refusal has a number, so the first of two that refuses is the first number that is not 0, and entries are judged by numbers.
use Rattle.std.specs.Prelude.{ℕ, ◌+◌, ◌≤◌, List, [], ◌∷◌, ◌≡◌, refl, Bool, true, false, eqb, Result, Ok, Err}
use Rattle.std.proofs.Common.{sym, ap, ◌∙◌, arith, ne_eqb}
use Rattle.meaning.specs.Base.{pick}
use Rattle.meaning.specs.Numbered.{number, told}
use Rattle.meaning.specs.Verdict.{or_else}
use Rattle.meaning.specs.declared.Refused.{Refused}
use Rattle.meaning.specs.declared.Refused.TheVariants.{TextTooLong, NotUtf8, ClosedTooOften, NeverClosed, NoForm, NoKey, MalformedKey, BadEscape, UnendedString, AfterString, UnendedArray, NotAnInteger, NotAnArray, TooDeep, TooManySegments, TooManyValues, RoomTooSmall, WrongKind, OutOfRange, UnknownWord, NotATable, Missing, TooManyEntries, MediaNotTheChips, PlatformNotTheChip, EmptyProfile, BootNameTooLong, UnknownTarget, TargetOfOtherWidth, NoPartitions, FirstNotAtZero, EmptyPartitionName, PartitionTwice, NoSize, OffsetOffBlock, SizeOffBlock, Overlap, PastAddresses, NoComponents, ComponentTwice, ComponentNameTooLong, TwoSources, NoSource, TwoPbps, UpdaterWithoutRam, NoPartition, UnknownPartition, ReserveOffBlock, FeaturesDiffer, EmptyApplicationName, ApplicationNameTooLong, EmptyFilename, ApplicationNowhere, ApplicationTwice, AddressOffWord, LockedPartition, NothingBoots, NotDeclared, NamedLikeComponent}
use Rattle.turns.specs.declared.Mark.{Mark}
use Rattle.turns.specs.declared.EntryRefused.{EntryRefused}
use Rattle.turns.specs.Marks.{Fault, first_err, entry_fault, entry_checked, twin, at_place, at_entry, first_fault, first_refused, judged, judged_by}
use Rattle.turns.specs.Turns.{twin_first, twin_checked}

pub number_some : (r : Refused) → 1 ≤ number r
number_some TextTooLong = omega arith
number_some NotUtf8 = omega arith
number_some ClosedTooOften = omega arith
number_some NeverClosed = omega arith
number_some NoForm = omega arith
number_some NoKey = omega arith
number_some MalformedKey = omega arith
number_some BadEscape = omega arith
number_some UnendedString = omega arith
number_some AfterString = omega arith
number_some UnendedArray = omega arith
number_some NotAnInteger = omega arith
number_some NotAnArray = omega arith
number_some TooDeep = omega arith
number_some TooManySegments = omega arith
number_some TooManyValues = omega arith
number_some RoomTooSmall = omega arith
number_some WrongKind = omega arith
number_some OutOfRange = omega arith
number_some UnknownWord = omega arith
number_some NotATable = omega arith
number_some Missing = omega arith
number_some TooManyEntries = omega arith
number_some MediaNotTheChips = omega arith
number_some PlatformNotTheChip = omega arith
number_some EmptyProfile = omega arith
number_some BootNameTooLong = omega arith
number_some UnknownTarget = omega arith
number_some TargetOfOtherWidth = omega arith
number_some NoPartitions = omega arith
number_some FirstNotAtZero = omega arith
number_some EmptyPartitionName = omega arith
number_some PartitionTwice = omega arith
number_some NoSize = omega arith
number_some OffsetOffBlock = omega arith
number_some SizeOffBlock = omega arith
number_some Overlap = omega arith
number_some PastAddresses = omega arith
number_some NoComponents = omega arith
number_some ComponentTwice = omega arith
number_some ComponentNameTooLong = omega arith
number_some TwoSources = omega arith
number_some NoSource = omega arith
number_some TwoPbps = omega arith
number_some UpdaterWithoutRam = omega arith
number_some NoPartition = omega arith
number_some UnknownPartition = omega arith
number_some ReserveOffBlock = omega arith
number_some FeaturesDiffer = omega arith
number_some EmptyApplicationName = omega arith
number_some ApplicationNameTooLong = omega arith
number_some EmptyFilename = omega arith
number_some ApplicationNowhere = omega arith
number_some ApplicationTwice = omega arith
number_some AddressOffWord = omega arith
number_some LockedPartition = omega arith
number_some NothingBoots = omega arith
number_some NotDeclared = omega arith
number_some NamedLikeComponent = omega arith

pub told_first : (a b : Result (Unit {0}) Refused) → told (first_err a b) ≡ or_else (told a) (told b)
told_first (Ok u) b = refl
told_first (Err r) b = let h = number_some r in rw (ne_eqb (number r) 0 (λ e. omega (arith, h)))

-- a rule by its test
pub told_pick : (b : Bool) (x y : Result (Unit {0}) Refused) → told (pick b x y) ≡ pick b (told x) (told y)
told_pick true x y = refl
told_pick false x y = refl

-- an entry's number is that of what it is refused for
pub checked_told : (twice : Refused) (met : Bool) (m : Mark Refused) → told (entry_checked twice met m) ≡ entry_fault (number twice) met m
unfolding entry_fault
checked_told twice met m =
    rw (told_first m.early (first_err (pick met (Err twice) (Ok tt)) m.late), told_first (pick met (Err twice) (Ok tt)) m.late, told_pick met (Err twice) (Ok tt))

place_told : (i : ℕ) (r : Result (Unit {0}) Refused) (s : Result (Unit {0}) (EntryRefused Refused)) (f : Fault)
    → at_entry s ≡ f → at_entry (at_place i r s) ≡ pick (eqb (told r) 0) f (record { number = told r; place = i })
place_told i (Ok u) s f h = h
place_told i (Err e) s f h = let z = number_some e in rw (ne_eqb (number e) 0 (λ w. omega (arith, z)))

module _ (twice : Refused) (bytes : List ℕ) where
  first_told : (t i : ℕ) (ms : List (Mark Refused)) → at_entry (first_refused twice t i ms) ≡ first_fault (number twice) t i ms
  first_told t i [] = refl
  first_told t i (m ∷ ms) =
      rw (← checked_told twice (eqb i t) m)
      (place_told i (entry_checked twice (eqb i t) m) (first_refused twice t (i + 1) ms) (first_fault (number twice) t (i + 1) ms) (first_told t (i + 1) ms))

  -- what an entry is refused for, by its number
  pub judged_told : (ms : List (Mark Refused)) → at_entry (judged_by twice bytes ms) ≡ judged (number twice) bytes ms
  judged_told ms =
      ap at_entry (sym (twin_checked twice bytes ms))
      ∙ first_told (twin bytes ms) 0 ms
      ∙ twin_first (number twice) bytes ms (number_some twice)
