use Rattle.std.proofs.Common.{ap, sym, ◌∙◌, ◌≡◌}
use Rattle.std.specs.Prelude.{option_map, Some}
use Rattle.jtree.specs.View.{data_of}
use Rattle.stored.specs.Internal.ItemKeys.{item_key, key_of}
use Rattle.stored.proofs.RepetitionLemmas.{seen_answer, seen_added}
use Rattle.stored.proofs.repetition.is_seen.Goals as goal

pub returns-in_ok-insert-in-Some-clause-answer : goal.returns-in_ok-insert-in-Some-clause-answer
returns-in_ok-insert-in-Some-clause-answer c =
    let own : Some (key_of c.in-Some.key) ≡ item_key c.args.list.now.list_type c.args.list.now.keys.items (data_of c.args.item.now) = ap (option_map key_of) (sym c.in-Some.is) ∙ c.in_ok-key.ensures in
    seen_answer c.args.seen.now c.in-Some.key (item_key c.args.list.now.list_type c.args.list.now.keys.items (data_of c.args.item.now)) c.in_ok-insert-in-Some.field-0 c.in_ok-insert-in-Some.ensures.added own

pub returns-in_ok-insert-in-Some-clause-added : goal.returns-in_ok-insert-in-Some-clause-added
returns-in_ok-insert-in-Some-clause-added c =
    let own : Some (key_of c.in-Some.key) ≡ item_key c.args.list.now.list_type c.args.list.now.keys.items (data_of c.args.item.now) = ap (option_map key_of) (sym c.in-Some.is) ∙ c.in_ok-key.ensures in
    seen_added c.args.seen.now c.insert.new.self c.in-Some.key (item_key c.args.list.now.list_type c.args.list.now.keys.items (data_of c.args.item.now)) c.in_ok-insert-in-Some.ensures.updates.0 own
