-- The table of what is proved: one line of plain words for each statement. `proofs/Proved.proved` has a proof of each.
use Rattle.theorems.specs.Answers.{ReadSays, ValidateSays, PlanSays, PlanIsShown, ListingSays}
use Rattle.theorems.specs.Answers.{OneAnswer, OneListing}
use Rattle.theorems.specs.Views.{AcceptedIsShown, PlanIsShownByViews, WordIsWritten, WordsAreShort}
use Rattle.theorems.specs.Lines.{NoLineIsBlank, SegmentsAreNames, NoKeyTwice}
use Rattle.theorems.specs.Joining.{CarriedIsCounted, PartsAreWithin, PartsAreApart, PartsAreTheLines, PartSettlesTheCount}
use Rattle.theorems.specs.NeverMet.{NeverMet, EachRefusalHasANumber}
use Rattle.theorems.specs.AcceptedLayout.{AcceptedLayoutIsSound, PresetLayoutIsSound, EraseBlockIsTheMedias}
use Rattle.theorems.specs.AcceptedComponents.{AcceptedComponentsAreSound}
use Rattle.theorems.specs.PassedPreset.{APassedPresetDoesNotFailLater}
use Rattle.theorems.specs.PassedPreset.{NeedsNoSemicolon, NeedsNoWhiteHead, NeedsNoWhiteEnd}
use Rattle.theorems.specs.PassedPreset.{OpenNeedsNoSemicolon, NeedsOneSet}
use Rattle.theorems.specs.Demand3.{RefusedOnlyFor80And81, AlwaysRefusedFor80And81, ElsePlanned, PlanMeetsDemand}
use Rattle.theorems.specs.Demand3.{PlanIsSmall, PlainNameIsFound, TextMeetsDemand, TextRefusedOnlyFor80And81}
use Rattle.theorems.specs.Demand3.{TextRefusedByValidation, TextAlwaysRefusedFor80And81}
use Rattle.theorems.specs.Demand3.{AcceptedInAllLargeRooms}
use Rattle.theorems.specs.Listing.{ListingFits}
use Rattle.theorems.specs.Printed.{PageReadsBack, LineReadsBack, PageReaderTakesPagesOnly, LineReaderTakesLinesOnly}
use Rattle.theorems.specs.Printed.{LinesPrintApart, PagesPrintApart, UnquotedIsTheText, QuotedIsAString, EqualListingsHaveEqualLines}

-- what the functions answer
pub record Answering : Type 0 where
  -- what meets the contract of preset_read says what 01 says of reading
  pub read_says : ReadSays
  -- that of preset_validate, what 01 says of validation
  pub validate_says : ValidateSays
  -- that of preset_plan, what 01 says of planning
  pub plan_says : PlanSays
  -- and then the views of the rooms show 01's plan
  pub plan_is_shown : PlanIsShown
  -- that of preset_listing, 01's listing
  pub listing_says : ListingSays
  -- two results that meet one of the first three contracts are equal, answer and rooms
  pub one_answer : OneAnswer
  -- and two that meet that of the listing, with the output
  pub one_listing : OneListing

-- what the views show
pub record Viewing : Type 0 where
  -- after an accepted call every view of a preset, decoded by the words of HOST.md, is the field of 01's preset
  pub preset_shown : AcceptedIsShown
  -- and every view of a plan the field of 01's plan
  pub plan_shown : PlanIsShownByViews
  -- preset_word writes the word that HOST.md's table has under the number
  pub word_written : WordIsWritten
  -- no word is longer than 32 bytes
  pub words_short : WordsAreShort

-- how lines are joined (W-205)
pub record Joining : Type 0 where
  -- a count that is carried from line to line gives the lines, numbers and refusals of 01, which counts again
  pub carried_is_counted : CarriedIsCounted
  -- each part of the laid text that is counted lies within it
  pub parts_are_within : PartsAreWithin
  -- and behind those counted before it
  pub parts_are_apart : PartsAreApart
  -- together they are all joined lines: each byte is counted once
  pub parts_are_the_lines : PartsAreTheLines
  -- what a call answers does not depend on what follows its part
  pub part_settles : PartSettlesTheCount

-- what a text and an accepted preset have
pub record Accepting : Type 0 where
  -- no joined line is blank
  pub no_line_is_blank : NoLineIsBlank
  -- no segment of a key is empty or holds a dot
  pub segments_are_names : SegmentsAreNames
  -- no table has a key twice
  pub no_key_twice : NoKeyTwice
  -- no text is refused by one of the original's six other parser errors
  pub never_met : NeverMet
  -- each refusal has a number, from 1 on: 0 always says that a text is accepted
  pub each_numbered : EachRefusalHasANumber
  -- accepted partitions have distinct names and whole blocks, end below 4 GiB and share no byte
  pub accepted_layout : AcceptedLayoutIsSound
  -- so do those of a preset that obeys the rules
  pub preset_layout : PresetLayoutIsSound
  -- the erase block, taken from the chip, is that of the media
  pub erase_block : EraseBlockIsTheMedias
  -- its components have distinct names, one payload each, and a partition that is there
  pub accepted_components : AcceptedComponentsAreSound
  -- an output of the size asked for takes every listing
  pub listing_fits : ListingFits

-- a passed preset does not fail later
pub record Planning : Type 0 where
  -- the one statement: after preset_validate's 0 preset_plan answers 0, 80 or 81, and with 0 the plan is sound
  pub passed : APassedPresetDoesNotFailLater
  -- without premise 1 a reference may find nothing: where the name holds a `;`
  pub needs_no_semicolon : NeedsNoSemicolon
  -- begins with white space
  pub needs_no_white_head : NeedsNoWhiteHead
  -- or ends with it
  pub needs_no_white_end : NeedsNoWhiteEnd
  -- or it may find a locked partition (W-206)
  pub open_needs_no_semicolon : OpenNeedsNoSemicolon
  -- without premise 2 a package may be built with other features than a use has
  pub needs_one_set : NeedsOneSet
  -- its parts: planning is refused for no other reason than 80 and 81
  pub refused_why : RefusedOnlyFor80And81
  -- and always for these
  pub why_refused : AlwaysRefusedFor80And81
  -- otherwise there is a plan
  pub else_planned : ElsePlanned
  -- each component of a plan has one payload, each reference one partition, and each package one build
  pub demand : PlanMeetsDemand
  -- a plan has no more components and builds than the preset gives cause for
  pub plan_size : PlanIsSmall
  -- a name without `;` and without white space at its ends is found as it is written
  pub plain_name : PlainNameIsFound
  -- all of it for the plan of a text
  pub text_demand : TextMeetsDemand
  -- a text is refused by validation, or for 80 or 81
  pub text_refused : TextRefusedOnlyFor80And81
  -- by validation first
  pub refused_first : TextRefusedByValidation
  -- then for 80 and 81
  pub refused_then : TextAlwaysRefusedFor80And81
  -- what is accepted in some rooms is accepted in all that are large enough
  pub accepted_anywhere : AcceptedInAllLargeRooms

-- what is printed says which fields were printed (W-203)
pub record Printing : Type 0 where
  -- a printed page is read back as its lines
  pub page_reads_back : PageReadsBack
  -- and a printed line as its fields
  pub line_reads_back : LineReadsBack
  -- the reader takes what some lines print and nothing else
  pub pages_only : PageReaderTakesPagesOnly
  -- and that of a line what some fields print
  pub lines_only : LineReaderTakesLinesOnly
  -- two different lists of fields never print alike
  pub lines_apart : LinesPrintApart
  -- nor do two different lists of lines
  pub pages_apart : PagesPrintApart
  -- the old mode's string rules give every quoted text back, whatever follows it
  pub unquoted : UnquotedIsTheText
  -- a quoted text is one whole string of the old mode
  pub quoted_string : QuotedIsAString
  -- two listings of the same bytes have the same lines
  pub equal_lines : EqualListingsHaveEqualLines

pub record Proved : Type 0 where
  pub answering : Answering
  pub viewing : Viewing
  pub joining : Joining
  pub accepting : Accepting
  pub planning : Planning
  pub printing : Printing
