-- The sets that prove a return after tests of numbers, and after calls that answer a bool.
use Rattle.std.proofs.Common.{rules, lt-ltb, le-ltb, le-leb, eq-eqb, ne_eqb}
use Rattle.std.proofs.lemmas.Bool.{lt-leb}
use Rattle.laws.specs.Cases.{yes, no}

pub ruleset tests = (rules, lt-ltb, le-ltb, le-leb, lt-leb, eq-eqb, ne_eqb)

pub ruleset calls = (rules, yes, no)
