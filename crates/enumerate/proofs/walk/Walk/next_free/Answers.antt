use Rattle.std.proofs.Common.{rules, ◌≡◌, subst, arith}
use Rattle.std.specs.Prelude.{Some}
use Rattle.jtree.specs.Nodes.{node_count}
use Rattle.jtree.specs.View.{data_of}
use Rattle.enumerate.specs.Internal.Nodes.{IsPartOf}
use Rattle.enumerate.specs.Internal.Candidates.{IsFree, stack_of}
use Rattle.enumerate.specs.Internal.Following.{Continue}
use Rattle.enumerate.proofs.samples.Following.{kept_choices}
use Rattle.enumerate.proofs.walk.Walk.next_free.Goals as goal

pub returns-then-branch : goal.returns-then-branch
returns-then-branch g c =
    let q = c.args.self.now.plan.now in
    let v = data_of c.args.tree in
    let used = c.args.used.now in
    let put = c.in_ok-put_first.ensures.some c.if-branch.true in
    let size : c.nodes-size.result ≡ node_count v = omega (arith, c.nodes-size.ensures, c.requires.limit, c.reveal_limit.ensures) in
    record {
      ok = search rules;
      following = subst (λ n. Continue (λ u. IsPartOf q c.args.node n u × IsFree used u) (data_of c.put_first.new.tree) (stack_of c.put_first.new.choices.items)) size
          (kept_choices q c.args.node c.nodes-size.result (Some v) used _ put.0 _ _ put.1 c.in_ok-put_first.ensures.kept c.in_ok-find_choices.ensures.ok);
      steps = c.find_choices.ensures.steps;
    }
