use Rattle.std.proofs.Common.{◌-◌, ◌^◌, ◌∙◌, ap, min}
use Rattle.jtree.specs.View.{data_of}
use Rattle.jtree.proofs.PartText.{brackets}
use Rattle.jtree.proofs.value.Tree.last_depth.Goals as goal

pub returns : goal.returns
returns c = c.find_last.ensures.after ∙ ap (λ n. min n (2 ^ 64 - 1)) (brackets (data_of c.args.self.now))
