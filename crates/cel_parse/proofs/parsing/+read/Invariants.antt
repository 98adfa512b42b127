use Rattle.std.proofs.Common.{◌≤◌, ◌<◌, ◌+◌, ◌*◌, length, map}
use Rattle.cel_ast.specs.View.{element_of, entry_of}
use Rattle.cel_read.specs.View.{token_lexemes}
use Rattle.cel_parse.specs.Internal.Readers.{loop, item_step, read_items}
use Rattle.cel_parse.specs.Internal.Reading.{read_expr, read_rank, join_step, next_step, read_element, read_entry, read_member}
use Rattle.cel_parse.proofs.LoopLemmas.{Left}
use Rattle.cel_parse.proofs.parsing.+read.Given as goal

abbrev pub decreases-read_expr : goal.decreases-read_expr
decreases-read_expr l = 700 * length l.tokens.now + 600

abbrev pub decreases-read_choice : goal.decreases-read_choice
decreases-read_choice l = 700 * length l.tokens.now + 650

abbrev pub decreases-read_rank : goal.decreases-read_rank
decreases-read_rank l = 700 * length l.tokens.now + (10 + 2 * l.rank)

abbrev pub decreases-read_joins : goal.decreases-read_joins
decreases-read_joins l = 700 * length l.tokens.now + (11 + 2 * l.rank)

abbrev pub decreases-read_unary : goal.decreases-read_unary
decreases-read_unary l = 700 * length l.tokens.now + 9

abbrev pub decreases-read_member : goal.decreases-read_member
decreases-read_member l = 700 * length l.tokens.now + 8

abbrev pub decreases-read_next : goal.decreases-read_next
decreases-read_next l = 700 * length l.tokens.now + 7

abbrev pub decreases-read_primary : goal.decreases-read_primary
decreases-read_primary l = 700 * length l.tokens.now + 7

abbrev pub decreases-read_arguments : goal.decreases-read_arguments
decreases-read_arguments l = 700 * length l.tokens.now + 610

abbrev pub decreases-read_elements : goal.decreases-read_elements
decreases-read_elements l = 700 * length l.tokens.now + 612

abbrev pub decreases-read_element : goal.decreases-read_element
decreases-read_element l = 700 * length l.tokens.now + 611

abbrev pub decreases-read_entries : goal.decreases-read_entries
decreases-read_entries l = 700 * length l.tokens.now + 614

abbrev pub decreases-read_entry : goal.decreases-read_entry
decreases-read_entry l = 700 * length l.tokens.now + 613

abbrev pub decreases-read_key : goal.decreases-read_key
decreases-read_key l = 700 * length l.tokens.now + 612

abbrev pub invariant-read_joins-joins : goal.invariant-read_joins-joins
invariant-read_joins-joins l =
    let step = join_step l.rank (read_rank (read_expr l.depth) l.rank) in
    record {
      shorter : length l.rest ≤ length l.fn.tokens;
      left : Left step l.left (token_lexemes l.rest) (length l.rest) (loop step l.fn.first (token_lexemes l.fn.tokens));
    }

abbrev pub decreases-read_joins-joins : goal.decreases-read_joins-joins
decreases-read_joins-joins l = length l.rest

abbrev pub invariant-read_member-turns : goal.invariant-read_member-turns
invariant-read_member-turns l =
    record {
      shorter : length l.rest < length l.fn.tokens;
      left : Left (next_step (read_expr l.depth)) l.left (token_lexemes l.rest) (length l.rest) (read_member (read_expr l.depth) (token_lexemes l.fn.tokens));
    }

abbrev pub decreases-read_member-turns : goal.decreases-read_member-turns
decreases-read_member-turns l = length l.rest

abbrev pub invariant-read_arguments-items : goal.invariant-read_arguments-items
invariant-read_arguments-items l =
    record {
      shorter : length l.rest ≤ length l.fn.tokens;
      left : Left (item_step (read_expr l.depth)) l.args.items (token_lexemes l.rest) (length l.rest) (read_items (read_expr l.depth) (token_lexemes l.fn.tokens));
    }

abbrev pub decreases-read_arguments-items : goal.decreases-read_arguments-items
decreases-read_arguments-items l = length l.rest

abbrev pub invariant-read_elements-items : goal.invariant-read_elements-items
invariant-read_elements-items l =
    record {
      shorter : length l.rest ≤ length l.fn.tokens;
      left : Left (item_step (read_element (read_expr l.depth))) (map element_of l.elements.items) (token_lexemes l.rest) (length l.rest) (read_items (read_element (read_expr l.depth)) (token_lexemes l.fn.tokens));
    }

abbrev pub decreases-read_elements-items : goal.decreases-read_elements-items
decreases-read_elements-items l = length l.rest

abbrev pub invariant-read_entries-items : goal.invariant-read_entries-items
invariant-read_entries-items l =
    record {
      shorter : length l.rest ≤ length l.fn.tokens;
      left : Left (item_step (read_entry (read_expr l.depth) l.of_message)) (map entry_of l.entries.items) (token_lexemes l.rest) (length l.rest) (read_items (read_entry (read_expr l.depth) l.of_message) (token_lexemes l.fn.tokens));
    }

abbrev pub decreases-read_entries-items : goal.decreases-read_entries-items
decreases-read_entries-items l = length l.rest
