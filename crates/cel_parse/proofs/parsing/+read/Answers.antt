use Rattle.std.proofs.Common.{◌≡◌, ◌<◌, ◌-◌, ◌∙◌, suc, [], ◌∷◌, map, length, sym, ap, arith}
use Rattle.std.proofs.lemmas.List.{map-append}
use Rattle.cel_ast.specs.View.{element_of, entry_of}
use Rattle.cel_read.specs.View.{token_lexemes}
use Rattle.cel_parse.specs.Internal.Readers.{found, and_then, go_on, after_parenthesis, after_bracket, after_brace, after_comma}
use Rattle.cel_parse.specs.Internal.Reading.{read_expr, read_rank, join_step, read_element, read_entry}
use Rattle.cel_parse.proofs.LoopLemmas.{begun}
use Rattle.cel_parse.proofs.TurnLemmas.{reads_same, reads_err, items_begun, item_more, item_over, item_broken, is_nil_of, is_first, join_more, join_broken, rank_is, member_begun, member_broken, choice_is, no_choice_is, no_condition}
use Rattle.cel_parse.proofs.parsing.+read.Goals as goal

pub read_expr-returns-in_err-condition-clause-gives : goal.read_expr-returns-in_err-condition-clause-gives
read_expr-returns-in_err-condition-clause-gives t c =
    let p : c.args.depth ≡ suc (c.args.depth - 1) = omega arith in
    reads_err (λ e. e) _ c.from_residual.result c.in_err-condition.field-0.0 c.from_residual.ensures.1 (λ n q. no_condition c.args.depth (c.args.depth - 1) (token_lexemes c.args.tokens.now) p (c.in_err-condition.ensures.gives n q))

pub read_expr-returns-in-Some-clause-gives : goal.read_expr-returns-in-Some-clause-gives
read_expr-returns-in-Some-clause-gives t c =
    let p : c.args.depth ≡ suc (c.args.depth - 1) = omega arith in
    reads_same (λ e. e) _ _ c.read_choice.result (choice_is c.args.depth (c.args.depth - 1) (token_lexemes c.args.tokens.now) _ _ _ p c.in_ok-condition.ensures.gives c.in-Some.ensures.words)
    c.read_choice.ensures.gives

pub read_expr-returns-in-None-clause-gives : goal.read_expr-returns-in-None-clause-gives
read_expr-returns-in-None-clause-gives t c =
    let p : c.args.depth ≡ suc (c.args.depth - 1) = omega arith in
    no_choice_is c.args.depth (c.args.depth - 1) (token_lexemes c.args.tokens.now) _ _ p c.in_ok-condition.ensures.gives c.in-None.ensures.words

pub read_rank-returns-clause-gives : goal.read_rank-returns-clause-gives
read_rank-returns-clause-gives t c =
    let p : c.args.rank ≡ suc (c.args.rank - 1) = omega arith in
    reads_same (λ e. e) _ _ c.read_joins.result (rank_is (read_expr c.args.depth) c.args.rank (c.args.rank - 1) (token_lexemes c.args.tokens.now) _ _ p c.in_ok-first.ensures.gives)
    c.read_joins.ensures.gives

pub read_joins-joins-init : goal.read_joins-joins-init
read_joins-joins-init t c =
    record {
      shorter = omega arith;
      left = begun (join_step c.args.rank (read_rank (read_expr c.args.depth) c.args.rank)) c.args.first c.args.tokens.now;
    }

pub read_joins-returns-in_err-right-clause-gives : goal.read_joins-returns-in_err-right-clause-gives
read_joins-returns-in_err-right-clause-gives t c =
    reads_err (λ e. e) _ c.from_residual.result c.in_err-right.field-0.0 c.from_residual.ensures.1 (λ n q. join_broken c.args.rank (read_rank (read_expr c.args.depth) c.args.rank) c.joins.left (token_lexemes c.joins.rest.now) (token_lexemes c.in-Some.after.now) c.in-Some.operator
    (length c.joins.rest.now) _ c.in-Some.ensures.operator c.in-Some.ensures.words (c.in_err-right.ensures.gives n q) c.joins.invariant.left)

pub read_joins-joins-preserved : goal.read_joins-joins-preserved
read_joins-joins-preserved t c =
    let few : length c.in_ok-right.next.now < length c.joins.rest.now = omega (arith, c.in-Some.ensures.shorter, c.in_ok-right.ensures.shorter) in
    record {
      shorter = omega (arith, few, c.joins.invariant.shorter);
      left = join_more c.args.rank (read_rank (read_expr c.args.depth) c.args.rank) c.joins.left c.in_ok-left.left (token_lexemes c.joins.rest.now) (token_lexemes c.in-Some.after.now)
          (token_lexemes c.in_ok-right.next.now) c.in-Some.operator c.in_ok-right.right (length c.joins.rest.now) (length c.in_ok-right.next.now) _ c.in-Some.ensures.operator c.in-Some.ensures.words
          c.in_ok-right.ensures.gives c.in_ok-left.ensures few c.joins.invariant.left;
    }

pub read_member-turns-init : goal.read_member-turns-init
read_member-turns-init t c =
    record {
      shorter = c.in_ok-first.ensures.shorter;
      left = member_begun (read_expr c.args.depth) (token_lexemes c.args.tokens.now) c.in_ok-first.first c.in_ok-first.after_first.now c.in_ok-first.ensures.gives;
    }

pub read_member-returns-in_err-longer-clause-gives : goal.read_member-returns-in_err-longer-clause-gives
read_member-returns-in_err-longer-clause-gives t c =
    reads_err (λ e. e) _ c.from_residual-in_err-longer.result c.in_err-longer.field-0.0 c.from_residual-in_err-longer.ensures.1 (λ n q. member_broken (read_expr c.args.depth) c.turns.left (token_lexemes c.turns.rest.now) c.goes_on.result (length c.turns.rest.now) _ c.goes_on.ensures c.turns-test.true
    (c.in_err-longer.ensures.gives n q) c.turns.invariant.left)

pub read_arguments-items-init : goal.read_arguments-items-init
read_arguments-items-init t c =
    record {
      shorter = omega arith;
      left = items_begun (read_expr c.args.depth) c.new-args.result.items c.args.tokens.now c.new-args.ensures.items;
    }

pub read_arguments-returns-in_err-arg-clause-gives : goal.read_arguments-returns-in_err-arg-clause-gives
read_arguments-returns-in_err-arg-clause-gives t c =
    reads_err (λ v. v.items) _ c.from_residual.result c.in_err-arg.field-0.0 c.from_residual.ensures.1
    (λ n q. ap (λ r. and_then r (λ es us. go_on (after_parenthesis us) (found es)))
    (item_broken (read_expr c.args.depth) c.items.args.items c.is_empty.result (token_lexemes c.items.rest.now) (token_lexemes c.in-Some.at.now) (length c.items.rest.now) _ (is_nil_of c.items.args.items c.items.args.len c.is_empty.result c.is_empty.ensures c.items.args.ok.0) c.in-Some.ensures.words
    (c.in_err-arg.ensures.gives n q) c.items.invariant.left))

pub read_arguments-items-preserved : goal.read_arguments-items-preserved
read_arguments-items-preserved t c =
    let few : length c.in_ok-arg.next.now < length c.items.rest.now = omega (arith, c.in-Some.ensures.shorter, c.in_ok-arg.ensures.shorter) in
    record {
      shorter = omega (arith, few, c.items.invariant.shorter);
      left = item_more (read_expr c.args.depth) c.items.args.items c.push.new.self.items c.is_empty.result (token_lexemes c.items.rest.now) (token_lexemes c.in-Some.at.now) (token_lexemes c.in_ok-arg.next.now) c.in_ok-arg.arg (length c.items.rest.now)
          (length c.in_ok-arg.next.now) _ (is_nil_of c.items.args.items c.items.args.len c.is_empty.result c.is_empty.ensures c.items.args.ok.0) c.in-Some.ensures.words c.in_ok-arg.ensures.gives c.in_ok-push.ensures.items few c.items.invariant.left;
    }

pub read_arguments-returns-in-Some-after_parenthesis-clause-gives : goal.read_arguments-returns-in-Some-after_parenthesis-clause-gives
read_arguments-returns-in-Some-after_parenthesis-clause-gives t c =
    let whole = item_over (read_expr c.args.depth) c.items.args.items c.is_empty.result (token_lexemes c.items.rest.now) (length c.items.rest.now) _ (is_nil_of c.items.args.items c.items.args.len c.is_empty.result c.is_empty.ensures c.items.args.ok.0) c.in_default.ensures.words c.items.invariant.left in
    ap (λ r. and_then r (λ es us. go_on (after_parenthesis us) (found es))) whole
    ∙ ap (λ o. go_on o (found c.items.args.items)) (sym c.in-Some-after_parenthesis.ensures.words)

pub read_elements-items-init : goal.read_elements-items-init
read_elements-items-init t c =
    record {
      shorter = omega arith;
      left = items_begun (read_element (read_expr c.args.depth)) (map element_of c.new-elements.result.items) c.args.tokens.now (ap (map element_of) c.new-elements.ensures.items);
    }

pub read_elements-returns-in_err-element-clause-gives : goal.read_elements-returns-in_err-element-clause-gives
read_elements-returns-in_err-element-clause-gives t c =
    reads_err (λ v. map element_of v.items) _ c.from_residual.result c.in_err-element.field-0.0 c.from_residual.ensures.1
    (λ n q. ap (λ r. and_then r (λ es us. go_on (after_bracket (after_comma us)) (found es)))
    (item_broken (read_element (read_expr c.args.depth)) (map element_of c.items.elements.items) c.is_empty.result (token_lexemes c.items.rest.now) (token_lexemes c.in-Some.at.now) (length c.items.rest.now) _ (is_first element_of c.items.elements.items c.items.elements.len c.is_empty.result c.is_empty.ensures c.items.elements.ok.0) c.in-Some.ensures.words
    (c.in_err-element.ensures.gives n q) c.items.invariant.left))

pub read_elements-items-preserved : goal.read_elements-items-preserved
read_elements-items-preserved t c =
    let few : length c.in_ok-element.next.now < length c.items.rest.now = omega (arith, c.in-Some.ensures.shorter, c.in_ok-element.ensures.shorter) in
    record {
      shorter = omega (arith, few, c.items.invariant.shorter);
      left = item_more (read_element (read_expr c.args.depth)) (map element_of c.items.elements.items) (map element_of c.push.new.self.items) c.is_empty.result (token_lexemes c.items.rest.now) (token_lexemes c.in-Some.at.now) (token_lexemes c.in_ok-element.next.now) (element_of c.in_ok-element.element) (length c.items.rest.now)
          (length c.in_ok-element.next.now) _ (is_first element_of c.items.elements.items c.items.elements.len c.is_empty.result c.is_empty.ensures c.items.elements.ok.0) c.in-Some.ensures.words c.in_ok-element.ensures.gives (ap (map element_of) c.in_ok-push.ensures.items ∙ map-append element_of c.items.elements.items (c.in_ok-element.element ∷ [])) few c.items.invariant.left;
    }

pub read_elements-returns-in-Some-after_bracket-clause-gives : goal.read_elements-returns-in-Some-after_bracket-clause-gives
read_elements-returns-in-Some-after_bracket-clause-gives t c =
    let whole = item_over (read_element (read_expr c.args.depth)) (map element_of c.items.elements.items) c.is_empty.result (token_lexemes c.items.rest.now) (length c.items.rest.now) _ (is_first element_of c.items.elements.items c.items.elements.len c.is_empty.result c.is_empty.ensures c.items.elements.ok.0) c.in_default.ensures.words c.items.invariant.left in
    ap (λ r. and_then r (λ es us. go_on (after_bracket (after_comma us)) (found es))) whole
    ∙ ap (λ z. go_on (after_bracket z) (found (map element_of c.items.elements.items))) (sym c.after_comma-closing.ensures.words) ∙ ap (λ o. go_on o (found (map element_of c.items.elements.items))) (sym c.in-Some-after_bracket.ensures.words)

pub read_elements-returns-clause-gives : goal.read_elements-returns-clause-gives
read_elements-returns-clause-gives t c =
    let whole = item_over (read_element (read_expr c.args.depth)) (map element_of c.items.elements.items) c.is_empty.result (token_lexemes c.items.rest.now) (length c.items.rest.now) _ (is_first element_of c.items.elements.items c.items.elements.len c.is_empty.result c.is_empty.ensures c.items.elements.ok.0) c.in_default.ensures.words c.items.invariant.left in
    λ n q. ap (λ r. and_then r (λ es us. go_on (after_bracket (after_comma us)) (found es))) whole
    ∙ ap (λ z. go_on (after_bracket z) (found (map element_of c.items.elements.items))) (sym c.after_comma-closing.ensures.words) ∙ ap (λ o. go_on o (found (map element_of c.items.elements.items))) (sym c.in-None.ensures.words)

pub read_entries-items-init : goal.read_entries-items-init
read_entries-items-init t c =
    record {
      shorter = omega arith;
      left = items_begun (read_entry (read_expr c.args.depth) c.args.of_message) (map entry_of c.new-entries.result.items) c.args.tokens.now (ap (map entry_of) c.new-entries.ensures.items);
    }

pub read_entries-returns-in_err-entry-clause-gives : goal.read_entries-returns-in_err-entry-clause-gives
read_entries-returns-in_err-entry-clause-gives t c =
    reads_err (λ v. map entry_of v.items) _ c.from_residual.result c.in_err-entry.field-0.0 c.from_residual.ensures.1
    (λ n q. ap (λ r. and_then r (λ es us. go_on (after_brace (after_comma us)) (found es)))
    (item_broken (read_entry (read_expr c.args.depth) c.args.of_message) (map entry_of c.items.entries.items) c.is_empty.result (token_lexemes c.items.rest.now) (token_lexemes c.in-Some.at.now) (length c.items.rest.now) _ (is_first entry_of c.items.entries.items c.items.entries.len c.is_empty.result c.is_empty.ensures c.items.entries.ok.0) c.in-Some.ensures.words
    (c.in_err-entry.ensures.gives n q) c.items.invariant.left))

pub read_entries-items-preserved : goal.read_entries-items-preserved
read_entries-items-preserved t c =
    let few : length c.in_ok-entry.next.now < length c.items.rest.now = omega (arith, c.in-Some.ensures.shorter, c.in_ok-entry.ensures.shorter) in
    record {
      shorter = omega (arith, few, c.items.invariant.shorter);
      left = item_more (read_entry (read_expr c.args.depth) c.args.of_message) (map entry_of c.items.entries.items) (map entry_of c.push.new.self.items) c.is_empty.result (token_lexemes c.items.rest.now) (token_lexemes c.in-Some.at.now) (token_lexemes c.in_ok-entry.next.now) (entry_of c.in_ok-entry.entry) (length c.items.rest.now)
          (length c.in_ok-entry.next.now) _ (is_first entry_of c.items.entries.items c.items.entries.len c.is_empty.result c.is_empty.ensures c.items.entries.ok.0) c.in-Some.ensures.words c.in_ok-entry.ensures.gives (ap (map entry_of) c.in_ok-push.ensures.items ∙ map-append entry_of c.items.entries.items (c.in_ok-entry.entry ∷ [])) few c.items.invariant.left;
    }

pub read_entries-returns-in-Some-after_brace-clause-gives : goal.read_entries-returns-in-Some-after_brace-clause-gives
read_entries-returns-in-Some-after_brace-clause-gives t c =
    let whole = item_over (read_entry (read_expr c.args.depth) c.args.of_message) (map entry_of c.items.entries.items) c.is_empty.result (token_lexemes c.items.rest.now) (length c.items.rest.now) _ (is_first entry_of c.items.entries.items c.items.entries.len c.is_empty.result c.is_empty.ensures c.items.entries.ok.0) c.in_default.ensures.words c.items.invariant.left in
    ap (λ r. and_then r (λ es us. go_on (after_brace (after_comma us)) (found es))) whole
    ∙ ap (λ z. go_on (after_brace z) (found (map entry_of c.items.entries.items))) (sym c.after_comma-closing.ensures.words) ∙ ap (λ o. go_on o (found (map entry_of c.items.entries.items))) (sym c.in-Some-after_brace.ensures.words)

pub read_entries-returns-clause-gives : goal.read_entries-returns-clause-gives
read_entries-returns-clause-gives t c =
    let whole = item_over (read_entry (read_expr c.args.depth) c.args.of_message) (map entry_of c.items.entries.items) c.is_empty.result (token_lexemes c.items.rest.now) (length c.items.rest.now) _ (is_first entry_of c.items.entries.items c.items.entries.len c.is_empty.result c.is_empty.ensures c.items.entries.ok.0) c.in_default.ensures.words c.items.invariant.left in
    λ n q. ap (λ r. and_then r (λ es us. go_on (after_brace (after_comma us)) (found es))) whole
    ∙ ap (λ z. go_on (after_brace z) (found (map entry_of c.items.entries.items))) (sym c.after_comma-closing.ensures.words) ∙ ap (λ o. go_on o (found (map entry_of c.items.entries.items))) (sym c.in-None.ensures.words)
