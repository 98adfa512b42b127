use Rattle.jtree.specs.Internal.LastText.{text_before, text_after}
use Rattle.jtree.proofs.LastText.{text_with_last}
use Rattle.jtree.proofs.PartText.{by_part, same_front, same_front_last, brackets}
use Rattle.jtree.proofs.laws.parts_have_their_text.Goals as goal

pub returns-clause-whole : goal.returns-clause-whole
returns-clause-whole c = λ n d. by_part n d

pub returns-clause-front : goal.returns-clause-front
returns-clause-front c = λ m n d v le. same_front m n d v le

pub returns-clause-last : goal.returns-clause-last
returns-clause-last c = λ n d v inside. same_front_last n d v inside

pub returns-clause-around : goal.returns-clause-around
returns-clause-around c = λ d. (text_before d, text_after d, brackets d, λ v. text_with_last d v)
