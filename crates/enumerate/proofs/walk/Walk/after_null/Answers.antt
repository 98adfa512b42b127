use Rattle.std.proofs.Common.{refl, sym, subst, ◌∙◌, arith, Some, ◌≡◌}
use Rattle.jtree.specs.Data.{null as null_data, object as object_data, list as list_data}
use Rattle.jtree.specs.View.{items_of, members_of}
use Rattle.jtree.specs.Order.{tree_cmp}
use Rattle.plan.specs.Samples.Candidates.{sort_of}
use Rattle.plan.specs.declared.sort.Sort.TheVariants as sort
use Rattle.plan.specs.declared.sort.Sort.{Sort}
use Rattle.enumerate.specs.Least.{IsNext}
use Rattle.plan.specs.Samples.Sizes.{CanFill}
use Rattle.enumerate.specs.Internal.Nodes.{site, IsPartOf}
use Rattle.enumerate.specs.Internal.Rows.{slots_from, ending_at}
use Rattle.enumerate.proofs.samples.Changes.{differs}
use Rattle.enumerate.proofs.walks.Nulls.{empty_row, no_row, empty_list, no_list}
use Rattle.enumerate.proofs.walk.Walk.after_null.Goals.{in_default-via-in-Row+else-has, in_default-via-in-List+else-has-2, in_default-via-in_default}
use Rattle.enumerate.proofs.walk.Walk.after_null.Goals as goal

other : (t : Sort) → (t ≡ sort.Leaf → ⊥) → (t ≡ sort.Row → ⊥) → (t ≡ sort.List → ⊥) → ⊥
other sort.Leaf l r i = l refl
other sort.Row l r i = r refl
other sort.List l r i = i refl

pub returns-in-Row : goal.returns-in-Row
returns-in-Row g c =
    let q = c.args.self.now.plan.now in
    let can = subst (λ x. CanFill q.pools (slots_from q c.args.node 0) (ending_at q c.args.node) x 0) c.nothing.ensures ((c.rest.ensures 0).0 (c.has.ensures.0 c.if-has.true)).1 in (
      subst (λ ms. IsNext tree_cmp (IsPartOf q c.args.node 1) null_data (Some (object_data (members_of ms)))) (sym c.new-members.ensures.items)
          (empty_row q c.args.node c.laws_of.ensures.rule (sym c.sort.ensures ∙ c.in-Row.is) can),
      differs null_data (object_data (members_of c.new-members.result.items)),
    )

pub returns-in-List : goal.returns-in-List
returns-in-List g c =
    let q = c.args.self.now.plan.now in
    let rule = c.laws_of.ensures.rule in
    let more = (c.more.ensures 0).0 (c.if-has-2.ensures.0 refl) in (
      subst (λ ts. IsNext tree_cmp (IsPartOf q c.args.node 1) null_data (Some (list_data (items_of ts)))) (sym c.new-items.ensures.items)
          (empty_list q c.args.node rule (sym c.sort.ensures ∙ c.in-List.is) c.requires.some more.1),
      differs null_data (list_data (items_of c.new-items.result.items)),
    )

pub returns-in_default : goal.returns-in_default
returns-in_default g c =
    let q = c.args.self.now.plan.now in
    let rule = c.laws_of.ensures.rule in (
      elim c.in_default.branch [
        | in_default-via-in-Row+else-has w ↦ no_row q c.args.node rule (sym c.sort.ensures ∙ w.in-Row.is) (λ can. let yes = w.has.ensures.1 ((w.rest.ensures 0).1 (omega arith, subst (λ x. CanFill q.pools (slots_from q c.args.node 0) (ending_at q c.args.node) x 0) (sym w.nothing.ensures) can)) in let no = w.if-has.false in cc)
        | in_default-via-in-List+else-has-2 w ↦ no_list q c.args.node rule (sym c.sort.ensures ∙ w.in-List.is) c.requires.some (λ more. let yes = w.if-has-2.ensures.1 ((w.more.ensures 0).1 (omega arith, more)) in cc)
        | in_default-via-in_default w ↦ absurd (other (sort_of (site q c.args.node)) c.requires.no_leaf (λ r. let no = w.in_default.not-Row in no (c.sort.ensures ∙ r)) (λ l. let no = w.in_default.not-List in no (c.sort.ensures ∙ l)))
      ],
      refl,
    )
