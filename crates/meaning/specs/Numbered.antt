-- 01, "Refusal numbers": the number of each refusal that code tells by its name.
use Rattle.std.specs.Prelude.{ℕ, Option, None, Some, Result, Ok, Err}
use Rattle.meaning.specs.declared.Refused.{Refused}
use Rattle.meaning.specs.declared.Refused.TheVariants.{TextTooLong, NotUtf8, ClosedTooOften, NeverClosed, NoForm, NoKey, MalformedKey, BadEscape, UnendedString, AfterString, UnendedArray, NotAnInteger, NotAnArray, TooDeep, TooManySegments, TooManyValues, RoomTooSmall, WrongKind, OutOfRange, UnknownWord, NotATable, Missing, TooManyEntries, MediaNotTheChips, PlatformNotTheChip, EmptyProfile, BootNameTooLong, UnknownTarget, TargetOfOtherWidth, NoPartitions, FirstNotAtZero, EmptyPartitionName, PartitionTwice, NoSize, OffsetOffBlock, SizeOffBlock, Overlap, PastAddresses, NoComponents, ComponentTwice, ComponentNameTooLong, TwoSources, NoSource, TwoPbps, UpdaterWithoutRam, NoPartition, UnknownPartition, ReserveOffBlock, FeaturesDiffer, EmptyApplicationName, ApplicationNameTooLong, EmptyFilename, ApplicationNowhere, ApplicationTwice, AddressOffWord, LockedPartition, NothingBoots, NotDeclared, NamedLikeComponent}

abbrev pub number : Refused → ℕ
number TextTooLong = 1
number NotUtf8 = 2
number ClosedTooOften = 3
number NeverClosed = 4
number NoForm = 5
number NoKey = 6
number MalformedKey = 7
number BadEscape = 8
number UnendedString = 9
number AfterString = 10
number UnendedArray = 11
number NotAnInteger = 12
number NotAnArray = 13
number TooDeep = 14
number TooManySegments = 15
number TooManyValues = 16
number RoomTooSmall = 17
number WrongKind = 20
number OutOfRange = 21
number UnknownWord = 22
number NotATable = 23
number Missing = 24
number TooManyEntries = 25
number MediaNotTheChips = 30
number PlatformNotTheChip = 31
number EmptyProfile = 32
number BootNameTooLong = 33
number UnknownTarget = 34
number TargetOfOtherWidth = 35
number NoPartitions = 40
number FirstNotAtZero = 41
number EmptyPartitionName = 42
number PartitionTwice = 43
number NoSize = 44
number OffsetOffBlock = 45
number SizeOffBlock = 46
number Overlap = 47
number PastAddresses = 48
number NoComponents = 50
number ComponentTwice = 51
number ComponentNameTooLong = 52
number TwoSources = 53
number NoSource = 54
number TwoPbps = 55
number UpdaterWithoutRam = 56
number NoPartition = 57
number UnknownPartition = 58
number ReserveOffBlock = 59
number FeaturesDiffer = 60
number EmptyApplicationName = 61
number ApplicationNameTooLong = 62
number EmptyFilename = 63
number ApplicationNowhere = 64
number ApplicationTwice = 65
number AddressOffWord = 66
number LockedPartition = 67
number NothingBoots = 70
number NotDeclared = 80
number NamedLikeComponent = 81

-- the number of a refusal, 0 where there is none
abbrev pub number_if : Option Refused → ℕ
number_if None = 0
number_if (Some r) = number r

-- the number that a test refuses with, 0 where it passes
abbrev pub told : {X : Type 0} → Result X Refused → ℕ
told (Ok x) = 0
told (Err r) = number r
