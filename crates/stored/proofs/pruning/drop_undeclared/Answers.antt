use Rattle.std.proofs.Common.{rules}
use Rattle.std.proofs.lemmas.Fn.{filter_same}
use Rattle.stored.specs.Internal.Pruning.{is_declared_member}
use Rattle.stored.proofs.pruning.drop_undeclared.Goals as goal

pub returns : goal.returns
returns c = filter_same _ (is_declared_member c.args.fields.now) _ (λ x b f' h. search rules) _ _ c.retain.ensures.filtered
