use Rattle.std.proofs.Common.{rules}
use Rattle.std.proofs.lemmas.Fn.{filter_same}
use Rattle.cluster.specs.Internal.Trees.{schema_of, is_left_member}
use Rattle.cluster.proofs.nulls.drop_members.Goals as goal

pub returns : goal.returns
returns c = filter_same _ (is_left_member c.args.is_resource (schema_of c.args.schema)) _ (λ x b f' h. search rules) _ _ c.retain.ensures.filtered
