use Rattle.std.proofs.Common.{◌≡◌, ◌∙◌, ◌+◌, [], ap, sym, subst, arith, length}
use Rattle.std.proofs.lemmas.List.{nil_from_length}
use Rattle.jtree.specs.View.{members_of}
use Rattle.plan.specs.Samples.Sizes.{nothing}
use Rattle.enumerate.specs.Internal.Candidates.{used_rows}
use Rattle.enumerate.specs.Internal.Prefixes.{used_at}
use Rattle.enumerate.specs.Internal.Rows.{slots_from}
use Rattle.enumerate.proofs.prefixes.Lemmas.{used_none, before_plain, used_first, no_rows}
use Rattle.enumerate.proofs.lists.Walks.{empty_len}
use Rattle.enumerate.proofs.walk.Walk.prefix_at.Goals as goal
use Rattle.enumerate.proofs.walk.Walk.prefix_at.Goals.{then-is_empty, else-is_empty}

pub returns-then-is_empty-2-clause-prefix : goal.returns-then-is_empty-2-clause-prefix
returns-then-is_empty-2-clause-prefix g c = λ gs fit are.
    let q = c.args.self.now.plan.now in
    let ss = slots_from q c.args.node 0 in
    let members = c.args.members.now in
    let used = used_rows c.args.used.now in
    let plain = c.names_fields.ensures.no_bit c.if-not-names_fields.true in
    let count : length members ≡ 0 + length members = omega arith in
    record {
      before = c.unnamed.ensures ∙ ap (λ n. record { count = n; seen = 0 }) count ∙ sym (before_plain c.args.place ss gs nothing members plain are);
      rows = elim c.if-is_empty.branch [
        | then-is_empty w ↦
            let none = no_rows (used_rows c.args.used.now) c.is_empty.result c.is_empty.ensures w.if-is_empty.true in
            subst (λ us. us ≡ used_at c.args.place ss gs us) (sym none) (sym (used_none c.args.place ss gs))
        | else-is_empty w ↦
            let none : members ≡ [] = nil_from_length members (empty_len (length members) (sym w.is_empty-else-is_empty.ensures ∙ (sym w.value-is ∙ c.if-is_empty-2.true))) in
            sym (used_first c.args.place ss gs used (sym (ap members_of none) ∙ are))
      ];
    }
