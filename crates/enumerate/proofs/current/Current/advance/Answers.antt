use Rattle.std.proofs.Common.{◌≡◌, ◌-◌, ◌∙◌, List, length, sym, ap, subst, arith, Some, ◌∷◌}
use Rattle.std.specs.Prelude.{slice_get}
use Rattle.std.specs.Borrow.{Bor}
use Rattle.jtree.specs.Last.{last_depth, last_of, with_last}
use Rattle.jtree.specs.Nodes.{node_count}
use Rattle.jtree.specs.View.{data_of}
use Rattle.jtree.specs.declared.value.Tree.{Tree}
use Rattle.enumerate.specs.Live.{IsNextSample}
use Rattle.enumerate.specs.Internal.Changes.{DiffersAt}
use Rattle.enumerate.specs.declared.current.Current.{Current}
use Rattle.enumerate.specs.declared.taker.Change.TheVariants.{Node}
use Rattle.enumerate.specs.Internal.Candidates.{stack_of}
use Rattle.enumerate.specs.Internal.Current.{ContinueSample, IsCurrent}
use Rattle.enumerate.proofs.samples.Following.{on_top, stack_pushed}
use Rattle.enumerate.proofs.samples.Current.{put_sample}
use Rattle.enumerate.proofs.current.Current.advance.Goals as goal

pub returns-in-Some-last-clause-steps : goal.returns-in-Some-last-clause-steps
returns-in-Some-last-clause-steps g c = λ w wide. omega arith

pub returns-in-Some-last-clause-ok : goal.returns-in-Some-last-clause-ok
returns-in-Some-last-clause-ok g c =
    let q = c.args.walk.now.plan.now in
    let s = c.args.self.now in
    let v = data_of s.tree in
    let old = s.scratch.following.items in
    let popped = c.pop.new.self.items in
    let replaced = c.in-Some.replaced in
    let next = c.in-Some-last.next.now in
    let was = c.requires in
    let top = on_top popped next (c.in-Some-last.ensures.value ∙ ap (λ (ys : List (Bor Tree)). slice_get ys (length ys - 1)) c.deref.ensures.value) in
    let both : stack_of old ≡ _ = ap stack_of c.in-Some.ensures.items ∙ stack_pushed popped replaced in
    let continue = subst (λ us. ContinueSample q v (data_of replaced.now ∷ us)) top.1 (subst (ContinueSample q v) both was.continue) in
    let put = put_sample q c.last_node_is_replaced.ensures.again v (data_of replaced.now) (data_of next.now) (stack_of top.0) continue in
    let one : node_count (data_of next.now) ≡ 1 = continue.1.0 in
    let is : data_of c.set_last.new.self ≡ with_last v (data_of next.now) = c.in_ok-depth.ensures.ok in
    let moved = subst (λ w. IsNextSample q (Some v) (Some w) × ContinueSample q w (stack_of popped) × (with_last w (data_of replaced.now) ≡ v)) (sym is) (put.0, subst (ContinueSample q (with_last v (data_of next.now))) (sym top.1) put.1, put.2) in
    let new : Current = record { tree = c.set_last.new.self; scratch = record s.scratch { following = c.pop.new.self }; change = Some (Node (record { before = replaced; node = next; depth = c.in_ok-depth.depth })) } in
    let current : IsCurrent q new = record { sample = moved.0.is.sample; continue = moved.1 } in
    let node = ap last_of is ∙ c.last_node_is_replaced.ensures.last v (data_of next.now) one in
    let same : last_depth (data_of c.set_last.new.self) ≡ last_depth v = ap last_depth is ∙ c.last_node_is_replaced.ensures.depth v (data_of next.now) one in
    (moved.0, current, (moved.2, node, omega (arith, same, c.in_ok-depth.ensures.depth)))

pub returns-in-To-clause-ok : goal.returns-in-To-clause-ok
returns-in-To-clause-ok g c =
    let q = c.args.walk.now.plan.now in
    let v = data_of c.in-To.next in
    let was = c.replace-tree.ensures.value in
    let next = rw c.in-To.is at c.in_ok-next.ensures.ok in
    let current = rw c.in-To.is at c.in_ok-next.ensures.following in (
      subst (λ t. IsNextSample q (Some (data_of t)) (Some v)) was next.0,
      record { sample = next.0.is.sample; continue = current },
      c.change_at-self.ensures (data_of c.args.self.now.tree) v (subst (λ t. DiffersAt c.in-To.depth (data_of t) v) was next.1),
    )
