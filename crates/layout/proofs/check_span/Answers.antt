-- Each test in the definition's order.
use Rattle.laws.specs.Tests.{tests}
use Rattle.layout.specs.Parts.{span_checked}
use Rattle.layout.proofs.check_span.Goals as goal

pub returns-then-p-eq0 : goal.returns-then-p-eq0
unfolding span_checked
returns-then-p-eq0 c = search tests

pub returns-then-p-block-ne0 : goal.returns-then-p-block-ne0
unfolding span_checked
returns-then-p-block-ne0 c = search tests

pub returns-then-p-block-ne0-2 : goal.returns-then-p-block-ne0-2
unfolding span_checked
returns-then-p-block-ne0-2 c = search tests

pub returns-then-p-end : goal.returns-then-p-end
unfolding span_checked
returns-then-p-end c = search tests

pub returns-then-end_of-ge-ADDRESSES : goal.returns-then-end_of-ge-ADDRESSES
unfolding span_checked
returns-then-end_of-ge-ADDRESSES c = search tests

pub returns : goal.returns
unfolding span_checked
returns c = search tests
