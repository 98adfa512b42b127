use Rattle.jtree.proofs.ReadBack.{same_text}
use Rattle.jtree.proofs.laws.texts_are_unique.Goals as goal

pub returns : goal.returns
returns c = λ u v tu tv same. same_text u v tu tv same
