use Rattle.std.proofs.Common.{ap, sym, ◌∙◌, length, arith}
use Rattle.jtree.specs.View.{data_of}
use Rattle.jtree.proofs.LastText.{last_part_same, last_part_after, last_part_depth, last_itself}
use Rattle.jtree.proofs.last.find_last.Goals as goal

pub loop-part-smaller : goal.loop-part-smaller
loop-part-smaller c = last_part_depth (data_of c.loop-part.node.now) (data_of c.in-Some.part.now) (sym c.in-Some.ensures)

pub loop-part-preserved : goal.loop-part-preserved
loop-part-preserved c =
    let step = sym c.in-Some.ensures in
    let node = data_of c.loop-part.node.now in
    let part = data_of c.in-Some.part.now in
    record {
      node = sym (last_part_same node part step) ∙ c.loop-part.invariant.node;
      fits = omega (arith, c.loop-part.invariant.fits, c.saturating_add-after.ensures);
      after = omega (arith, last_part_after node part step, c.loop-part.invariant.after, c.saturating_add-after.ensures);
    }

pub returns-clause-node : goal.returns-clause-node
returns-clause-node c = let here = last_itself (data_of c.loop-part.node.now) (sym c.in_default.ensures) in sym here.0 ∙ c.loop-part.invariant.node

pub returns-clause-after : goal.returns-clause-after
returns-clause-after c = let here = last_itself (data_of c.loop-part.node.now) (sym c.in_default.ensures) in omega (arith, c.loop-part.invariant.fits, c.loop-part.invariant.after, ap length here.1)
