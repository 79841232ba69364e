use Rattle.toml_lite.proofs.Reading.{too_long, not_utf8, laid_count, laid_begun, laid_read, lay_fits}
use borrow.Author.Rules.{rules}
use Rattle.toml_lite.proofs.read_text.Goals as goal

pub returns-then-limits-text : goal.returns-then-limits-text
returns-then-limits-text c = search (rules, too_long)

pub lay-used-requires : goal.lay-used-requires
lay-used-requires c = search (rules, lay_fits)

pub slice_bounds-read_laid-end : goal.slice_bounds-read_laid-end
slice_bounds-read_laid-end c = search (rules, laid_count)

pub read_laid-requires : goal.read_laid-requires
read_laid-requires c = search (rules, laid_begun)

pub returns : goal.returns
returns c = search (rules, laid_read)

pub returns-then-not-valid : goal.returns-then-not-valid
returns-then-not-valid c = search (rules, not_utf8)
