use Rattle.std.proofs.Common.{arith}
use Rattle.std.proofs.lemmas.List.{at_drop_all}
use Rattle.jtree.specs.Nodes.{items_count, members_count}
use Rattle.jtree.specs.View.{items_of, members_of}
use Rattle.jtree.proofs.+nodes.Goals as goal

pub nodes::items_nodes-returns : goal.nodes::items_nodes-returns
nodes::items_nodes-returns t c =
    omega (arith, at_drop_all (λ xs. items_count (items_of xs)) c.args.items.now c.loop-item.item-index c.loop-item-test.false)

pub nodes::members_nodes-returns : goal.nodes::members_nodes-returns
nodes::members_nodes-returns t c =
    omega (arith, at_drop_all (λ xs. members_count (members_of xs)) c.args.members.now c.loop-member.member-index c.loop-member-test.false)
