use Rattle.std.proofs.Common.{◌≡◌, ◌+◌, ◌∷◌, drop, None, Some, sym, ap, ◌∙◌}
use Rattle.std.specs.Prelude.{map, option_map}
use Rattle.std.proofs.lemmas.List.{drop_more}
use Rattle.jtree.specs.View.{data_of, items_of, members_of}
use Rattle.schema.specs.Internal.Named.{one_branch, name_part, part_names, item_names, member_names, other_of}
use Rattle.schema.specs.Internal.NamedView.{name_part_view}
use Rattle.schema.proofs.NamedLemmas.{other_later, other_first}
use Rattle.schema.proofs.rules.junctors.+names.Goals as goal

pub other_in_branches-loop-branch-preserved : goal.other_in_branches-loop-branch-preserved
other_in_branches-loop-branch-preserved t c =
    let known = map (λ w. w.now) c.args.known.now in
    let xs = c.deref-branch-items.result.now in
    let i = c.loop-branch.branch-index in
    let x = c.branch-item.result in
    let split : drop i xs ≡ x ∷ drop (i + 1) xs = drop_more xs i x c.loop-branch-test.true ∙ ap (λ y. y ∷ drop (i + 1) xs) (sym c.branch-item.is) in
    let none : other_of known (part_names one_branch (data_of x)) ≡ None = sym c.other_in_part.ensures ∙ ap (option_map (λ s. s.now)) c.in_default.is in
    other_later known (part_names one_branch (data_of x)) _ none ∙ sym (ap (λ ys. other_of known (item_names (items_of ys))) split) ∙ c.loop-branch.invariant

pub other_in_branches-returns-in-Some : goal.other_in_branches-returns-in-Some
other_in_branches-returns-in-Some t c =
    let known = map (λ w. w.now) c.args.known.now in
    let xs = c.deref-branch-items.result.now in
    let i = c.loop-branch.branch-index in
    let x = c.branch-item.result in
    let split : drop i xs ≡ x ∷ drop (i + 1) xs = drop_more xs i x c.loop-branch-test.true ∙ ap (λ y. y ∷ drop (i + 1) xs) (sym c.branch-item.is) in
    let whole : items_of xs ≡ c.args.branches.now = ap items_of c.deref-branch-items.ensures.value ∙ c.branches.view_is in
    let some : other_of known (part_names one_branch (data_of x)) ≡ Some c.in-Some.name.now = sym c.other_in_part.ensures ∙ ap (option_map (λ s. s.now)) c.in-Some.is in
    other_first known (part_names one_branch (data_of x)) _ c.in-Some.name.now some ∙ sym (ap (λ ys. other_of known (item_names (items_of ys))) split) ∙ c.loop-branch.invariant ∙ ap (λ ys. other_of known (item_names ys)) whole

pub other_name-loop-member-preserved : goal.other_name-loop-member-preserved
other_name-loop-member-preserved t c =
    let known = map (λ w. w.now) c.args.known.now in
    let xs = c.deref-member-items.result.now in
    let i = c.loop-member.member-index in
    let x = c.member-item.result in
    let split : drop i xs ≡ x ∷ drop (i + 1) xs = drop_more xs i x c.loop-member-test.true ∙ ap (λ y. y ∷ drop (i + 1) xs) (sym c.member-item.is) in
    let part : name_part_view c.name_part-part.result ≡ name_part c.args.in_branch x.name = c.name_part-part.ensures ∙ ap (name_part c.args.in_branch) c.as_str.ensures in
    let none : other_of known (part_names (name_part c.args.in_branch x.name) (data_of x.tree)) ≡ None = sym (c.other_in_part.ensures ∙ ap (λ p. other_of known (part_names p (data_of x.tree))) part) ∙ ap (option_map (λ s. s.now)) c.in_default.is in
    other_later known (part_names (name_part c.args.in_branch x.name) (data_of x.tree)) _ none ∙ sym (ap (λ ys. other_of known (member_names c.args.in_branch (members_of ys))) split) ∙ c.loop-member.invariant

pub other_name-returns-in-Some : goal.other_name-returns-in-Some
other_name-returns-in-Some t c =
    let known = map (λ w. w.now) c.args.known.now in
    let xs = c.deref-member-items.result.now in
    let i = c.loop-member.member-index in
    let x = c.member-item.result in
    let split : drop i xs ≡ x ∷ drop (i + 1) xs = drop_more xs i x c.loop-member-test.true ∙ ap (λ y. y ∷ drop (i + 1) xs) (sym c.member-item.is) in
    let part : name_part_view c.name_part-part.result ≡ name_part c.args.in_branch x.name = c.name_part-part.ensures ∙ ap (name_part c.args.in_branch) c.as_str.ensures in
    let whole : members_of xs ≡ c.args.schema.now = ap members_of c.deref-member-items.ensures.value ∙ c.schema.view_is in
    let some : other_of known (part_names (name_part c.args.in_branch x.name) (data_of x.tree)) ≡ Some c.in-Some.name.now = sym (c.other_in_part.ensures ∙ ap (λ p. other_of known (part_names p (data_of x.tree))) part) ∙ ap (option_map (λ s. s.now)) c.in-Some.is in
    other_first known (part_names (name_part c.args.in_branch x.name) (data_of x.tree)) _ c.in-Some.name.now some ∙ sym (ap (λ ys. other_of known (member_names c.args.in_branch (members_of ys))) split) ∙ c.loop-member.invariant ∙ ap (λ ys. other_of known (member_names c.args.in_branch ys)) whole
