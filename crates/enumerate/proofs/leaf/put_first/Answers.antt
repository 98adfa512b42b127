use Rattle.std.proofs.Common.{◌≡◌, ◌-◌, ◌∙◌, ◌∷◌, List, length, sym, ap}
use Rattle.std.specs.Prelude.{slice_get}
use Rattle.std.specs.Borrow.{Bor}
use Rattle.jtree.specs.Data.{Data}
use Rattle.jtree.specs.View.{data_of}
use Rattle.jtree.specs.declared.value.Tree.{Tree}
use Rattle.enumerate.specs.Internal.Candidates.{stack_of}
use Rattle.enumerate.proofs.samples.Following.{on_top}
use Rattle.enumerate.proofs.leaf.put_first.Goals as goal
use Rattle.enumerate.proofs.leaf.put_first.Goals.{In_ok-set}

-- the tree is what was on top
put_here : (c : In_ok-set) → (cs : List Data) × (stack_of c.args.choices.now.items ≡ data_of c.set.new.self ∷ cs)
put_here c =
    let top = on_top c.args.choices.now.items c.in-Some.first.now (c.in-Some.ensures.value ∙ ap (λ (ys : List (Bor Tree)). slice_get ys (length ys - 1)) c.deref.ensures.value) in
    (stack_of top.0, top.1 ∙ ap (λ d. d ∷ stack_of top.0) (sym c.in_ok-set.ensures.ok))

pub returns-then-size-ne1-clause-some : goal.returns-then-size-ne1-clause-some
returns-then-size-ne1-clause-some c = λ found. put_here (goal.at.returns-then-size-ne1-clause-some c).In_ok-set

pub returns-else-size-ne1-clause-some : goal.returns-else-size-ne1-clause-some
returns-else-size-ne1-clause-some c = λ found. put_here (goal.at.returns-else-size-ne1-clause-some c).In_ok-set
