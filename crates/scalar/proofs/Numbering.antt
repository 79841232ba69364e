-- No two refusals have one number.
use Prim.Native.Nat.{ℕ}
use mathlib.Core.Path.{◌≡◌, refl, sym, ap, ◌∙◌}
use lib.Dec.{eqb}
use Rattle.meaning.specs.Base.{pick}
use Rattle.meaning.specs.Numbered.{number}
use Rattle.meaning.specs.declared.Refused.{Refused}
use Rattle.meaning.specs.declared.Refused.TheVariants.{TextTooLong, NotUtf8, ClosedTooOften, NeverClosed, NoForm, NoKey, MalformedKey, BadEscape, UnendedString, AfterString, UnendedArray, NotAnInteger, NotAnArray, TooDeep, TooManySegments, TooManyValues, RoomTooSmall, WrongKind, OutOfRange, UnknownWord, NotATable, Missing, TooManyEntries, MediaNotTheChips, PlatformNotTheChip, EmptyProfile, BootNameTooLong, UnknownTarget, TargetOfOtherWidth, NoPartitions, FirstNotAtZero, EmptyPartitionName, PartitionTwice, NoSize, OffsetOffBlock, SizeOffBlock, Overlap, PastAddresses, NoComponents, ComponentTwice, ComponentNameTooLong, TwoSources, NoSource, TwoPbps, UpdaterWithoutRam, NoPartition, UnknownPartition, ReserveOffBlock, FeaturesDiffer, EmptyApplicationName, ApplicationNameTooLong, EmptyFilename, ApplicationNowhere, ApplicationTwice, AddressOffWord, LockedPartition, NothingBoots, NotDeclared, NamedLikeComponent}

abbrev numbered : ℕ → Refused
numbered n =
    pick (eqb n 1) TextTooLong (
    pick (eqb n 2) NotUtf8 (
    pick (eqb n 3) ClosedTooOften (
    pick (eqb n 4) NeverClosed (
    pick (eqb n 5) NoForm (
    pick (eqb n 6) NoKey (
    pick (eqb n 7) MalformedKey (
    pick (eqb n 8) BadEscape (
    pick (eqb n 9) UnendedString (
    pick (eqb n 10) AfterString (
    pick (eqb n 11) UnendedArray (
    pick (eqb n 12) NotAnInteger (
    pick (eqb n 13) NotAnArray (
    pick (eqb n 14) TooDeep (
    pick (eqb n 15) TooManySegments (
    pick (eqb n 16) TooManyValues (
    pick (eqb n 17) RoomTooSmall (
    pick (eqb n 20) WrongKind (
    pick (eqb n 21) OutOfRange (
    pick (eqb n 22) UnknownWord (
    pick (eqb n 23) NotATable (
    pick (eqb n 24) Missing (
    pick (eqb n 25) TooManyEntries (
    pick (eqb n 30) MediaNotTheChips (
    pick (eqb n 31) PlatformNotTheChip (
    pick (eqb n 32) EmptyProfile (
    pick (eqb n 33) BootNameTooLong (
    pick (eqb n 34) UnknownTarget (
    pick (eqb n 35) TargetOfOtherWidth (
    pick (eqb n 40) NoPartitions (
    pick (eqb n 41) FirstNotAtZero (
    pick (eqb n 42) EmptyPartitionName (
    pick (eqb n 43) PartitionTwice (
    pick (eqb n 44) NoSize (
    pick (eqb n 45) OffsetOffBlock (
    pick (eqb n 46) SizeOffBlock (
    pick (eqb n 47) Overlap (
    pick (eqb n 48) PastAddresses (
    pick (eqb n 50) NoComponents (
    pick (eqb n 51) ComponentTwice (
    pick (eqb n 52) ComponentNameTooLong (
    pick (eqb n 53) TwoSources (
    pick (eqb n 54) NoSource (
    pick (eqb n 55) TwoPbps (
    pick (eqb n 56) UpdaterWithoutRam (
    pick (eqb n 57) NoPartition (
    pick (eqb n 58) UnknownPartition (
    pick (eqb n 59) ReserveOffBlock (
    pick (eqb n 60) FeaturesDiffer (
    pick (eqb n 61) EmptyApplicationName (
    pick (eqb n 62) ApplicationNameTooLong (
    pick (eqb n 63) EmptyFilename (
    pick (eqb n 64) ApplicationNowhere (
    pick (eqb n 65) ApplicationTwice (
    pick (eqb n 66) AddressOffWord (
    pick (eqb n 67) LockedPartition (
    pick (eqb n 70) NothingBoots (
    pick (eqb n 80) NotDeclared (
    NamedLikeComponent))))))))))))))))))))))))))))))))))))))))))))))))))))))))))

numbered_back : (r : Refused) → numbered (number r) ≡ r
numbered_back TextTooLong = refl
numbered_back r = refl

pub number_one : (r u : Refused) → number r ≡ number u → r ≡ u
number_one r u e = sym (numbered_back r) ∙ ap numbered e ∙ numbered_back u
