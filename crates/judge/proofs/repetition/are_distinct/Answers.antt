use Rattle.std.proofs.Common.{◌∙◌, sym, arith}
use Rattle.jtree.specs.View.{items_of}
use Rattle.judge.specs.Keywords.{repeats, some_index}
use Rattle.judge.proofs.RepetitionLemmas.{one_found, next_index}
use Rattle.judge.proofs.repetition.are_distinct.Goals as goal

pub returns-then-repeats : goal.returns-then-repeats
returns-then-repeats c =
    let ds = items_of c.args.items.now in
    one_found (repeats c.args.schema.now ds) c.args.items.now c.loop-i.i (some_index (repeats c.args.schema.now ds) 0 ds) (omega arith) (sym c.repeats.ensures ∙ c.if-repeats.true) c.loop-i.invariant

pub loop-i-preserved : goal.loop-i-preserved
loop-i-preserved c =
    let ds = items_of c.args.items.now in
    next_index (repeats c.args.schema.now ds) c.args.items.now c.loop-i.i (some_index (repeats c.args.schema.now ds) 0 ds) (omega arith) (sym c.repeats.ensures ∙ c.if-repeats.false) c.loop-i.invariant
