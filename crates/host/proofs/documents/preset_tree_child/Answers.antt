use Rattle.std.proofs.Common.{arith}
use Rattle.std.proofs.lemmas.Grind.{common_steps}
use Rattle.host.proofs.Presenting.{child_of}
use Rattle.host.proofs.documents.preset_tree_child.Goals as goal

pub returns : goal.returns
returns c =
    let e = child_of c.args.tree.now c.items_from.result c.next_item-item.result c.next_item-item.ensures in
    grind (arith, common_steps, e)
