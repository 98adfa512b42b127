-- What comes after null at rows and lists, where an empty one comes first; null comes after nothing of its size.
use Rattle.std.specs.Prelude.{◌≡◌, ℕ, ◌+◌, ◌-◌, ◌≤◌, Some, None}
use Rattle.std.proofs.Common.{refl, ap, sym, ◌∙◌, subst, arith, []}
use Rattle.std.specs.declared.cmp.Ordering.TheVariants.{Less}
use Rattle.jtree.specs.Data.{Data, null, object, list, Items, no_items, item, Members, no_members, member}
use Rattle.jtree.specs.Nodes.{node_count, items_count, members_count}
use Rattle.jtree.specs.Order.{tree_cmp}
use Rattle.jtree.specs.View.{data_of}
use Rattle.jtree.specs.Internal.Rising.{contained}
use Rattle.plan.specs.Samples.Part.{IsPart}
use Rattle.plan.specs.Samples.Sizes.{nothing, CanFill, HasMore}
use Rattle.plan.specs.Samples.Candidates.{sort_of}
use Rattle.plan.specs.Samples.RuleOfParts.{members_in, RuleOfParts}
use Rattle.plan.specs.Samples.Question.{Question}
use Rattle.plan.specs.declared.sort.Sort.TheVariants as sort
use Rattle.enumerate.specs.Least.{IsNext}
use Rattle.enumerate.specs.Internal.Nodes.{site, IsPartOf}
use Rattle.enumerate.specs.Internal.Rows.{slots_from, ending_at, IsRow}
use Rattle.enumerate.specs.Internal.Moves.{IsNextTree}
use Rattle.enumerate.specs.declared.walk.NextTree.{NextTree}
use Rattle.enumerate.specs.declared.walk.NextTree.TheVariants.{To, Last}
use Rattle.enumerate.proofs.walks.Least.{tree_order, not_itself}
use Rattle.enumerate.proofs.lists.Lemmas.{some_nodes}
use Rattle.enumerate.proofs.rows.Parts.{null_first, row_unless_null, row_plain}
use Rattle.enumerate.proofs.rows.Order.{filled_count_nodes}
use Rattle.enumerate.proofs.lists.Whole.{part_list}

-- what comes after another tree of its size is not null
pub never_null : (old u : Data) → node_count u ≡ node_count old → tree_cmp old u ≡ Less → u ≡ null → ⊥
never_null old u nodes less is = null_first old (sym nodes ∙ ap node_count is) (subst (λ v. tree_cmp old v ≡ Less) is less)

after_null : (u : Data) → tree_cmp null u ≡ Less → u ≡ null → ⊥
after_null u less is = not_itself tree_cmp tree_order null u (sym is) less

no_members_left : (ms : Members) → members_count ms ≡ 0 → ms ≡ no_members
no_members_left no_members e = refl
no_members_left (member k d ms) e = let some = some_nodes d in absurd (omega (arith, e, some))

no_items_left : (ds : Items) → items_count ds ≡ 0 → ds ≡ no_items
no_items_left no_items e = refl
no_items_left (item d ds) e = let some = some_nodes d in absurd (omega (arith, e, some))

module _ (q : Question) (i : ℕ) (rule : RuleOfParts q.pools q.limit (site q i)) (is_row : sort_of (site q i) ≡ sort.Row) where
  row_past : (n : ℕ) (u : Data) → IsPartOf q i n u → (u ≡ null → ⊥) → IsRow q i (n - 1) [] u
  row_past n u p other = row_unless_null q i rule is_row n u p (λ is nullable. other is)

  -- the next row is the next part, where the old one is not null
  pub row_next_part : (old new : Data) → IsNext tree_cmp (IsRow q i (node_count old - 1) []) old (Some new) → IsNext tree_cmp (IsPartOf q i (node_count old)) old (Some new)
  row_next_part old new h = record {
    is = (row_plain q i rule is_row (node_count old) new (some_nodes old) h.is.0, h.is.1);
    least = λ u p less. h.least u (row_past (node_count old) u p.0 (never_null old u p.0.nodes_are p.1), p.1) less;
  }

  pub row_moved : (old : Data) (m : NextTree) → IsNextTree (IsRow q i (node_count old - 1) []) old m → IsNextTree (IsPartOf q i (node_count old)) old m
  row_moved old (To t n) h = (row_next_part old (data_of t) h.0, h.1)
  row_moved old (Last n) h = ((λ u p less. h.0 u (row_past (node_count old) u p (never_null old u p.nodes_are less)) less), h.1)

  empty_is : (u : Data) → IsRow q i 0 [] u → u ≡ object no_members
  empty_is u r = r.is ∙ ap object (no_members_left (members_in (slots_from q i 0) r.fillings) (filled_count_nodes q.pools (slots_from q i 0) r.fillings r.rest.are ∙ r.rest.nodes_are))

  pub empty_row : CanFill q.pools (slots_from q i 0) (ending_at q i) nothing 0 → IsNext tree_cmp (IsPartOf q i 1) null (Some (object no_members))
  empty_row h =
      let r : IsRow q i 0 [] (object (members_in (slots_from q i 0) h.fillings)) = record { fillings = h.fillings; is = refl; rest = record { are = h.are; ends = h.ends; nodes_are = h.nodes_are; unused = λ c. contained [] _ c } } in
      record {
        is = (row_plain q i rule is_row 1 (object no_members) (omega arith) (subst (IsRow q i 0 []) (empty_is _ r) r), refl);
        least = λ u p less. not_itself tree_cmp tree_order u (object no_members) (empty_is u (row_past 1 u p.0 (after_null u p.1))) less;
      }

  pub no_row : (CanFill q.pools (slots_from q i 0) (ending_at q i) nothing 0 → ⊥) → IsNext tree_cmp (IsPartOf q i 1) null None
  no_row none u p less = let r = row_past 1 u p (after_null u less) in none (record { fillings = r.fillings; are = r.rest.are; ends = r.rest.ends; nodes_are = r.rest.nodes_are })

module _ (q : Question) (i : ℕ) (rule : RuleOfParts q.pools q.limit (site q i)) (is_list : sort_of (site q i) ≡ sort.List) (some : 1 ≤ q.limit) where
  list_past : (u : Data) → IsPartOf q i 1 u → tree_cmp null u ≡ Less → u ≡ list no_items
  list_past u p less =
      let r = part_list q i rule is_list u p.part (omega (arith, p.nodes_are, some)) (λ is nullable. after_null u less is) in
      let count : 1 + items_count r.0 ≡ 1 = sym (ap node_count r.1) ∙ p.nodes_are in
      r.1 ∙ ap list (no_items_left r.0 (omega (arith, count)))

  pub empty_list : HasMore q.pools q.limit (site q i) 0 0 → IsNext tree_cmp (IsPartOf q i 1) null (Some (list no_items))
  empty_list h =
      let none = no_items_left h.items h.nodes_are in
      record {
        is = (record { part = subst (λ ds. IsPart q.pools (site q i) (list ds)) none h.part; nodes_are = refl }, refl);
        least = λ u p less. not_itself tree_cmp tree_order u (list no_items) (list_past u p.0 p.1) less;
      }

  pub no_list : (HasMore q.pools q.limit (site q i) 0 0 → ⊥) → IsNext tree_cmp (IsPartOf q i 1) null None
  no_list none u p less =
      let is = list_past u p less in
      none (record { items = no_items; part = subst (IsPart q.pools (site q i)) is p.part; fits = omega (arith, some); many = omega arith; nodes_are = refl })
