use Rattle.std.proofs.Common.{◌∙◌, sym, option_map, Bor, arith}
use Rattle.jtree.specs.View.{data_of}
use Rattle.jtree.specs.declared.value.Tree.{Tree}
use Rattle.judge.specs.Keywords.{are_alike, names}
use Rattle.judge.proofs.RepetitionLemmas.{none_before}
use Rattle.judge.proofs.repetition.is_like_earlier.Goals as goal

pub returns : goal.returns
returns c =
    let alike = are_alike (option_map (λ (t : Bor Tree). data_of t.now) c.args.list_type) (names (option_map (λ (t : Bor Tree). data_of t.now) c.args.keys)) in
    sym (none_before alike c.args.items.now (data_of c.args.item.now) c.args.index c.loop-i.i (omega arith)) ∙ c.loop-i.invariant
