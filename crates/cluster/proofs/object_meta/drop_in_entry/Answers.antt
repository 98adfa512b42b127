use Rattle.std.proofs.Common.{rules}
use Rattle.std.proofs.lemmas.Fn.{filter_same}
use Rattle.cluster.specs.Internal.Trees.{stays_entry_member}
use Rattle.cluster.proofs.object_meta.drop_in_entry.Goals as goal

pub returns : goal.returns
returns c = filter_same _ (stays_entry_member c.args.managed) _ (λ x b f' h. search rules) _ _ c.retain.ensures.filtered
