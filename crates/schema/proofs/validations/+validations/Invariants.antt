use Rattle.std.proofs.Common.{◌+◌, ◌*◌, take}
use Rattle.jtree.specs.Data.{depth, items_depth}
use Rattle.jtree.specs.View.{data_of, items_of}
use Rattle.schema.specs.Nodes.View.{branches_of}
use Rattle.schema.specs.Nodes.Validations.{AreBranchesOf}
use Rattle.schema.proofs.validations.+validations.Given as goal

abbrev pub decreases-read_validations : goal.decreases-read_validations
decreases-read_validations l = 2 * depth (data_of l.schema.now) + 1

abbrev pub decreases-read_junctor : goal.decreases-read_junctor
decreases-read_junctor l = 2 * depth (data_of l.schema.now)

abbrev pub decreases-read_branches : goal.decreases-read_branches
decreases-read_branches l = 2 * items_depth l.items.now + 2

abbrev pub decreases-read_negated : goal.decreases-read_negated
decreases-read_negated l = 2 * depth (data_of l.schema.now)

-- the branches so far are those of the items so far
abbrev pub invariant-read_branches-loop-item : goal.invariant-read_branches-loop-item
invariant-read_branches-loop-item l = AreBranchesOf l.profile (branches_of l.branches.items) (items_of (take l.item-index l.item-items))
