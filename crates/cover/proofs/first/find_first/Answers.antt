use Rattle.std.proofs.Common.{◌≡◌, sym, ap, subst, ◌∙◌, None, option_map}
use Rattle.jtree.specs.View.{data_of}
use Rattle.explain.specs.Fields.Declared.{IsDeclared}
use Rattle.plan.specs.Pools.Along as along
use Rattle.plan.specs.Pools.Along.{DifferAlong, lists_of, widened}
use Rattle.plan.specs.Pools.PlanFault.{HasGoodPaths}
use Rattle.plan.specs.Pools.Pools.{Pools}
use Rattle.plan.specs.Samples.Question.{Question}
use Rattle.enumerate.specs.Live.{IsNextSample}
use Rattle.enumerate.specs.View.{tree_of}
use Rattle.cover.specs.Internal.Narrowed.{narrower, narrowed}
use Rattle.cover.specs.Internal.Ways.{path_of}
use Rattle.cover.proofs.FirstLemmas.{own_first}
use Rattle.cover.proofs.GoodLemmas.{narrowed_good}
use Rattle.cover.proofs.PoolLemmas.{narrowed_differ, differ_back}
use Rattle.cover.proofs.first.find_first.Goals as goal

pub narrow-requires-clause-good_then : goal.narrow-requires-clause-good_then
narrow-requires-clause-good_then g c =
    let q = c.args.plan in
    let o = option_map (λ v. data_of v.now) c.args.aim.value in
    let p = path_of c.args.aim.steps.now in
    let is : along.narrowed q.pools (lists_of c.in_ok-lists.lists.items) p ≡ narrowed q.pools o p = ap (λ xs. along.narrowed q.pools xs p) (rw c.pools.ensures at c.in_ok-lists.ensures) in
    subst (HasGoodPaths q.root) (sym is) (narrowed_good q.root q.pools o p c.requires.declared c.requires.value c.requires.paths)

pub narrow-requires-clause-along : goal.narrow-requires-clause-along
narrow-requires-clause-along g c =
    let q = c.args.plan in
    let o = option_map (λ v. data_of v.now) c.args.aim.value in
    let p = path_of c.args.aim.steps.now in
    let is : along.narrowed q.pools (lists_of c.in_ok-lists.lists.items) p ≡ narrowed q.pools o p = ap (λ xs. along.narrowed q.pools xs p) (rw c.pools.ensures at c.in_ok-lists.ensures) in
    subst (λ X. DifferAlong q.root q.pools X p) (sym is) (narrowed_differ c.paths_have_one_text.ensures q.root q.pools o p c.requires.value)

pub widen-requires-clause-good : goal.widen-requires-clause-good
widen-requires-clause-good g c =
    let q = c.args.plan in
    let o = option_map (λ v. data_of v.now) c.args.aim.value in
    let p = path_of c.args.aim.steps.now in
    let is : along.narrowed q.pools (lists_of c.in_ok-lists.lists.items) p ≡ narrowed q.pools o p = ap (λ xs. along.narrowed q.pools xs p) (rw c.pools.ensures at c.in_ok-lists.ensures) in
    let olds = lists_of c.in_ok-narrow.old.items in
    let Q = along.narrowed q.pools (lists_of c.in_ok-lists.lists.items) p in
    let view : c.first_of.new.plan ≡ record { root = q.root; pools = Q; limit = q.limit } = c.in_ok-tree.ensures.same ∙ c.in_ok-narrow.ensures.plan in
    let back = c.in_ok-narrow.ensures.back in
    subst (λ (x : Question). HasGoodPaths x.root x.pools) (sym view) (subst (HasGoodPaths q.root) (sym is) (narrowed_good q.root q.pools o p c.requires.declared c.requires.value c.requires.paths))

pub widen-requires-clause-good_then : goal.widen-requires-clause-good_then
widen-requires-clause-good_then g c =
    let q = c.args.plan in
    let o = option_map (λ v. data_of v.now) c.args.aim.value in
    let p = path_of c.args.aim.steps.now in
    let is : along.narrowed q.pools (lists_of c.in_ok-lists.lists.items) p ≡ narrowed q.pools o p = ap (λ xs. along.narrowed q.pools xs p) (rw c.pools.ensures at c.in_ok-lists.ensures) in
    let olds = lists_of c.in_ok-narrow.old.items in
    let Q = along.narrowed q.pools (lists_of c.in_ok-lists.lists.items) p in
    let view : c.first_of.new.plan ≡ record { root = q.root; pools = Q; limit = q.limit } = c.in_ok-tree.ensures.same ∙ c.in_ok-narrow.ensures.plan in
    let back = c.in_ok-narrow.ensures.back in
    subst (λ (x : Question). HasGoodPaths x.root (widened x.pools olds p)) (sym view) (subst (HasGoodPaths q.root) (sym back) c.requires.paths)

pub widen-requires-clause-along : goal.widen-requires-clause-along
widen-requires-clause-along g c =
    let q = c.args.plan in
    let o = option_map (λ v. data_of v.now) c.args.aim.value in
    let p = path_of c.args.aim.steps.now in
    let is : along.narrowed q.pools (lists_of c.in_ok-lists.lists.items) p ≡ narrowed q.pools o p = ap (λ xs. along.narrowed q.pools xs p) (rw c.pools.ensures at c.in_ok-lists.ensures) in
    let olds = lists_of c.in_ok-narrow.old.items in
    let Q = along.narrowed q.pools (lists_of c.in_ok-lists.lists.items) p in
    let view : c.first_of.new.plan ≡ record { root = q.root; pools = Q; limit = q.limit } = c.in_ok-tree.ensures.same ∙ c.in_ok-narrow.ensures.plan in
    let back = c.in_ok-narrow.ensures.back in
    let differ = subst (λ X. DifferAlong q.root q.pools X p) (sym is) (narrowed_differ c.paths_have_one_text.ensures q.root q.pools o p c.requires.value) in
    subst (λ (x : Question). DifferAlong x.root x.pools (widened x.pools olds p) p) (sym view) (subst (λ X. DifferAlong q.root Q X p) (sym back) (differ_back q.root q.pools Q p differ))

pub widen-requires-clause-declared : goal.widen-requires-clause-declared
widen-requires-clause-declared g c =
    let q = c.args.plan in
    let o = option_map (λ v. data_of v.now) c.args.aim.value in
    let p = path_of c.args.aim.steps.now in
    let is : along.narrowed q.pools (lists_of c.in_ok-lists.lists.items) p ≡ narrowed q.pools o p = ap (λ xs. along.narrowed q.pools xs p) (rw c.pools.ensures at c.in_ok-lists.ensures) in
    let olds = lists_of c.in_ok-narrow.old.items in
    let Q = along.narrowed q.pools (lists_of c.in_ok-lists.lists.items) p in
    let view : c.first_of.new.plan ≡ record { root = q.root; pools = Q; limit = q.limit } = c.in_ok-tree.ensures.same ∙ c.in_ok-narrow.ensures.plan in
    let back = c.in_ok-narrow.ensures.back in
    subst (λ (x : Question). IsDeclared x.root p) (sym view) c.requires.declared

pub returns-clause-plan : goal.returns-clause-plan
returns-clause-plan g c =
    let q = c.args.plan in
    let o = option_map (λ v. data_of v.now) c.args.aim.value in
    let p = path_of c.args.aim.steps.now in
    let is : along.narrowed q.pools (lists_of c.in_ok-lists.lists.items) p ≡ narrowed q.pools o p = ap (λ xs. along.narrowed q.pools xs p) (rw c.pools.ensures at c.in_ok-lists.ensures) in
    let olds = lists_of c.in_ok-narrow.old.items in
    let Q = along.narrowed q.pools (lists_of c.in_ok-lists.lists.items) p in
    let view : c.first_of.new.plan ≡ record { root = q.root; pools = Q; limit = q.limit } = c.in_ok-tree.ensures.same ∙ c.in_ok-narrow.ensures.plan in
    let back = c.in_ok-narrow.ensures.back in
    let after : Question → Question = λ x. record { root = x.root; pools = widened x.pools olds p; limit = x.limit } in
    let whole : Pools → Question = λ X. record { root = q.root; pools = X; limit = q.limit } in
    c.in_ok-plan.ensures ∙ (ap after view ∙ ap whole back)

pub returns-clause-sample : goal.returns-clause-sample
returns-clause-sample g c =
    let q = c.args.plan in
    let o = option_map (λ v. data_of v.now) c.args.aim.value in
    let p = path_of c.args.aim.steps.now in
    let is : along.narrowed q.pools (lists_of c.in_ok-lists.lists.items) p ≡ narrowed q.pools o p = ap (λ xs. along.narrowed q.pools xs p) (rw c.pools.ensures at c.in_ok-lists.ensures) in
    let olds = lists_of c.in_ok-narrow.old.items in
    let Q = along.narrowed q.pools (lists_of c.in_ok-lists.lists.items) p in
    let view : c.first_of.new.plan ≡ record { root = q.root; pools = Q; limit = q.limit } = c.in_ok-tree.ensures.same ∙ c.in_ok-narrow.ensures.plan in
    let back = c.in_ok-narrow.ensures.back in
    let whole : Pools → Question = λ X. record { root = q.root; pools = X; limit = q.limit } in
    let t = tree_of c.in_ok-tree.tree in
    let next : IsNextSample (narrower q o p) None t = subst (λ x. IsNextSample x None t) (c.in_ok-narrow.ensures.plan ∙ ap whole is) c.in_ok-tree.ensures.sample in
    own_first c.paths_have_one_text.ensures c.stored_by_parts.ensures q o p c.requires.declared c.requires.value t next
