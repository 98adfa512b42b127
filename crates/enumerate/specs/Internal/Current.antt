-- The current sample of an enumeration, and the values that make the next ones in the place of its last node.
use Rattle.std.specs.Prelude.{◌≡◌, List, [], ◌∷◌, Bool, true, false, Option, Some, None}
use Rattle.enumerate.specs.declared.taker.Change.{Change}
use Rattle.jtree.specs.Data.{Data}
use Rattle.jtree.specs.Last.{with_last}
use Rattle.jtree.specs.Nodes.{node_count}
use Rattle.jtree.specs.View.{data_of}
use Rattle.jtree.specs.declared.value.Tree.{Tree}
use Rattle.plan.specs.Samples.Question.{Question}
use Rattle.enumerate.specs.Change.{Changes}
use Rattle.enumerate.specs.Live.{IsNextSample}
use Rattle.enumerate.specs.Page.{IsSampleOf}
use Rattle.enumerate.specs.Internal.Candidates.{stack_of}
use Rattle.enumerate.specs.declared.current.Current.{Current}
use Rattle.enumerate.specs.declared.walk.NextTree.{NextTree}
use Rattle.enumerate.specs.declared.walk.NextTree.TheVariants.{To, Last}
use Rattle.enumerate.specs.Internal.Changes.{DiffersAt}

-- the first value, of one node, makes the next sample, and the others follow on that
abbrev pub FollowSample : Question → Data → List Data → Type 0
FollowSample q v [] = Unit {0}
FollowSample q v (c ∷ cs) = (node_count c ≡ 1) × IsNextSample q (Some v) (Some (with_last v c)) × FollowSample q (with_last v c) cs

-- The first value is the last node, and the others follow on it; or there is none.
abbrev pub ContinueSample : Question → Data → List Data → Type 0
ContinueSample q v [] = Unit {0}
ContinueSample q v (u ∷ cs) = (with_last v u ≡ v) × FollowSample q v cs

-- the next sample, and how many levels down it differs; or there is none
abbrev pub IsSampleAfter : Question → Data → NextTree → Type 0
IsSampleAfter q old (To t n) = IsNextSample q (Some old) (Some (data_of t)) × DiffersAt n old (data_of t)
IsSampleAfter q old (Last n) = IsNextSample q (Some old) None

-- where there is a next sample, these values continue it
abbrev pub ContinueAfter : Question → NextTree → List Data → Type 0
ContinueAfter q (To t n) cs = ContinueSample q (data_of t) cs
ContinueAfter q (Last n) cs = Unit {0}

pub record IsCurrent (q : Question) (s : Current) : Type 0 where
  pub sample : IsSampleOf q (data_of s.tree)
  pub continue : ContinueSample q (data_of s.tree) (stack_of s.scratch.following.items)

-- how the new tree differs from the old one, where that is known
abbrev pub ChangesIf : Option Change → Data → Data → Type 0
ChangesIf None old new = Unit {0}
ChangesIf (Some c) old new = Changes c old new

-- to the next sample; or there is none
abbrev pub Advances : Question → Current → Current → Bool → Type 0
Advances q old new true = IsNextSample q (Some (data_of old.tree)) (Some (data_of new.tree)) × IsCurrent q new × ChangesIf new.change (data_of old.tree) (data_of new.tree)
Advances q old new false = IsNextSample q (Some (data_of old.tree)) None

-- the current sample, where the enumeration has not ended
abbrev pub unless_ended : Bool → Tree → Option Data
unless_ended true tree = None
unless_ended false tree = Some (data_of tree)
