use Rattle.host.proofs.Viewing.{word_told}
use borrow.Author.Rules.{rules}
use Rattle.host.proofs.records.word_number.Goals as goal

pub returns-in-Board : goal.returns-in-Board
returns-in-Board c = search (rules, word_told)

pub returns-in-Release : goal.returns-in-Release
returns-in-Release c = search (rules, word_told)

pub returns-in-Unknown : goal.returns-in-Unknown
returns-in-Unknown c = search (rules, word_told)

pub returns-in-Version : goal.returns-in-Version
returns-in-Version c = search (rules, word_told)

pub returns-in-Required : goal.returns-in-Required
returns-in-Required c = search (rules, word_told)

pub returns-in-Optional : goal.returns-in-Optional
returns-in-Optional c = search (rules, word_told)

pub returns-in-App : goal.returns-in-App
returns-in-App c = search (rules, word_told)

pub returns-in-Component : goal.returns-in-Component
returns-in-Component c = search (rules, word_told)

pub returns-in-D13x : goal.returns-in-D13x
returns-in-D13x c = search (rules, word_told)

pub returns-in-D21x : goal.returns-in-D21x
returns-in-D21x c = search (rules, word_told)

pub returns-in-Target13 : goal.returns-in-Target13
returns-in-Target13 c = search (rules, word_told)

pub returns-in-Target21 : goal.returns-in-Target21
returns-in-Target21 c = search (rules, word_told)

pub returns-in-SpiNor : goal.returns-in-SpiNor
returns-in-SpiNor c = search (rules, word_told)

pub returns-in-SpiNand : goal.returns-in-SpiNand
returns-in-SpiNand c = search (rules, word_told)

pub returns-in-Pbp : goal.returns-in-Pbp
returns-in-Pbp c = search (rules, word_told)

pub returns-in-Raw : goal.returns-in-Raw
returns-in-Raw c = search (rules, word_told)

pub returns-in-Aic : goal.returns-in-Aic
returns-in-Aic c = search (rules, word_told)
