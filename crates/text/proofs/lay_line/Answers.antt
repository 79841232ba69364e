use borrow.Author.Rules.{rules}
use Rattle.text.proofs.Laying.{line_count, kept_count, line_room, line_within, piece}
use Rattle.text.proofs.lay_line.Goals as goal

pub slice_bounds-before_comment-end : goal.slice_bounds-before_comment-end
slice_bounds-before_comment-end c = search (rules, line_count)

pub slice_bounds-put_line-end : goal.slice_bounds-put_line-end
slice_bounds-put_line-end c = search (rules, kept_count)

pub put_line-requires : goal.put_line-requires
put_line-requires c = search (rules, line_room)

pub overflow_add-result : goal.overflow_add-result
overflow_add-result c = search (rules, line_within)

pub returns : goal.returns
returns c = search (rules, piece)
