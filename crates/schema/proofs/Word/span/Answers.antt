use Rattle.schema.proofs.Wording.{span_is}
use borrow.Author.Rules.{rules}
use Rattle.schema.proofs.Word.span.Goals as goal

pub returns-in-Board : goal.returns-in-Board
returns-in-Board c = search (rules, span_is)

pub returns-in-Release : goal.returns-in-Release
returns-in-Release c = search (rules, span_is)

pub returns-in-Unknown : goal.returns-in-Unknown
returns-in-Unknown c = search (rules, span_is)

pub returns-in-Version : goal.returns-in-Version
returns-in-Version c = search (rules, span_is)

pub returns-in-Required : goal.returns-in-Required
returns-in-Required c = search (rules, span_is)

pub returns-in-Optional : goal.returns-in-Optional
returns-in-Optional c = search (rules, span_is)

pub returns-in-App : goal.returns-in-App
returns-in-App c = search (rules, span_is)

pub returns-in-Component : goal.returns-in-Component
returns-in-Component c = search (rules, span_is)

pub returns-in-D13x : goal.returns-in-D13x
returns-in-D13x c = search (rules, span_is)

pub returns-in-D21x : goal.returns-in-D21x
returns-in-D21x c = search (rules, span_is)

pub returns-in-Target13 : goal.returns-in-Target13
returns-in-Target13 c = search (rules, span_is)

pub returns-in-Target21 : goal.returns-in-Target21
returns-in-Target21 c = search (rules, span_is)

pub returns-in-SpiNor : goal.returns-in-SpiNor
returns-in-SpiNor c = search (rules, span_is)

pub returns-in-SpiNand : goal.returns-in-SpiNand
returns-in-SpiNand c = search (rules, span_is)

pub returns-in-Pbp : goal.returns-in-Pbp
returns-in-Pbp c = search (rules, span_is)

pub returns-in-Raw : goal.returns-in-Raw
returns-in-Raw c = search (rules, span_is)

pub returns-in-Aic : goal.returns-in-Aic
returns-in-Aic c = search (rules, span_is)
