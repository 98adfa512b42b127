use Rattle.std.proofs.Common.{◌∙◌, sym}
use Rattle.jtree.proofs.SameValues.{unlike_values, unlike_members, one_number, one_list, one_object, other_kinds}
use Rattle.jtree.proofs.+same_value.Goals as goal

pub same_value::have_values_of-returns-then-left-right : goal.same_value::have_values_of-returns-then-left-right
same_value::have_values_of-returns-then-left-right t c = sym (unlike_values c.args.left.now c.args.right.now c.if-left-right.true)

pub same_value::are_members_of-returns-then-left-right : goal.same_value::are_members_of-returns-then-left-right
same_value::are_members_of-returns-then-left-right t c = sym (unlike_members c.args.left.now c.args.right.now c.if-left-right.true)

pub value::Tree::has_value_of-returns-in_default : goal.value::Tree::has_value_of-returns-in_default
value::Tree::has_value_of-returns-in_default t c =
    let u = c.args.other.now in
    c.eq.ensures ∙ elim c.in_default.branch [
      | goal.value::Tree::has_value_of-in_default-via-in-Number+in_default w ↦ rw w.in_default.is-0 (one_number w.in_default.field-0-0 u w.in_default.not-Number-1)
      | goal.value::Tree::has_value_of-in_default-via-in-List+in_default w ↦ rw w.in_default.is-0 (one_list w.in_default.field-0-0 u w.in_default.not-List-1)
      | goal.value::Tree::has_value_of-in_default-via-in-Object+in_default w ↦ rw w.in_default.is-0 (one_object w.in_default.field-0-0 u w.in_default.not-Object-1)
      | goal.value::Tree::has_value_of-in_default-via-in_default w ↦ other_kinds c.args.self.now u w.in_default.not-Number-0 w.in_default.not-List-0 w.in_default.not-Object-0
    ]
