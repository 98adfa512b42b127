use Rattle.std.proofs.Common.{◌≡◌, ◌≤◌, List, [], ◌∷◌, length, false, refl, arith, ◌∙◌, ap}
use Rattle.jtree.specs.View.{items_of}
use Rattle.jtree.specs.declared.value.Tree.{Tree}
use Rattle.judge.specs.Keywords.{Texts, is_empty}
use Rattle.judge.specs.Meets.{branch_list}
use Rattle.judge.proofs.meeting.is_empty.Goals as goal

-- a list with a branch in it is not empty
some_branches : (m : Texts) (ts : List Tree) → 1 ≤ length ts → false ≡ is_empty (branch_list m (items_of ts))
some_branches m [] h = absurd (omega arith)
some_branches m (t ∷ ts) h = refl

pub returns-in_default : goal.returns-in_default
returns-in_default c = λ m. some_branches m c.as_slice.result.now c.in_default.len_at_least ∙ ap (λ ds. is_empty (branch_list m ds)) (ap items_of c.as_slice.ensures.value ∙ c.branches.view_is)
