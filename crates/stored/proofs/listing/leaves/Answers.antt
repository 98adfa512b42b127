use Rattle.std.proofs.Common.{◌++◌, ◌∙◌, sym, ap, map}
use Rattle.jtree.specs.View.{data_of}
use Rattle.schema.specs.Nodes.View.{node_of}
use Rattle.stored.specs.Objects.Leaves.{elements_of}
use Rattle.stored.specs.Internal.LeavesByLevel.{leaves_by_level}
use Rattle.stored.proofs.LeafLevelLemmas.{all_leaves}
use Rattle.stored.proofs.CoveredLemmas.{covered}
use Rattle.stored.proofs.ApartLemmas.{leaves_apart, sound_below}
use Rattle.stored.proofs.listing.leaves.Goals as goal

pub returns-clause-leaves : goal.returns-clause-leaves
returns-clause-leaves c =
    let N = node_of c.args.node.now in
    let v = data_of c.args.tree.now in
    let ls = leaves_by_level N v in (
      ls,
      all_leaves N v c.reveal_invariant.ensures,
      sym (ap (λ w. w.listed) c.in_ok-list_tree.ensures
          ∙ (ap (λ xs. map elements_of xs ++ map (λ l. c.new.result.items ++ l.elements) ls) c.new-2.ensures.items ∙ ap (λ way. map (λ l. way ++ l.elements) ls) c.new.ensures.items)),
    )

pub returns-clause-apart : goal.returns-clause-apart
returns-clause-apart c =
    let N = node_of c.args.node.now in
    let v = data_of c.args.tree.now in
    let stored = c.in_ok-check_stored.ensures.0 c.if-not-branch.false in
    λ raw root p sound there. leaves_apart N v (map elements_of c.list_tree.new.walk.leaves.items) c.texts_are_unique.ensures
    (record { items = sound_below root p N (c.items_are_distinct.ensures raw root sound) there; valid = stored.valid; tree = c.reveal_invariant.ensures })
    (returns-clause-leaves c)

pub returns-clause-covered : goal.returns-clause-covered
returns-clause-covered c = covered (node_of c.args.node.now) (data_of c.args.tree.now)
