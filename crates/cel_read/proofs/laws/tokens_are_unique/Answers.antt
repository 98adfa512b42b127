use Rattle.std.proofs.Common.{[], refl}
use Rattle.cel_read.proofs.TokenLemmas.{same_tokens}
use Rattle.cel_read.proofs.laws.tokens_are_unique.Goals as goal

pub returns : goal.returns
returns c = λ text some others h k. same_tokens text some [] h refl others k
