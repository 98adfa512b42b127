use Rattle.std.proofs.Common.{◌≡◌, ◌<◌, ◌+◌, [], ◌∷◌, ◌++◌, length, take, Some, sym, ap, ◌∙◌, arith}
use Rattle.jtree.specs.Data.{list}
use Rattle.jtree.specs.View.{data_of, items_of}
use Rattle.std.proofs.lemmas.List.{take_more}
use Rattle.schema.proofs.NodeLemmas.{under_decreases, push_branches}
use Rattle.schema.proofs.validations.+validations.Goals as goal

pub read_junctor-read_branches-requires : goal.read_junctor-read_branches-requires
read_junctor-read_branches-requires t c =
    let below = under_decreases (data_of c.args.schema.now) c.args.keyword.now (list c.in-Some-List.items) (sym c.in-Some-List.ensures ∙ ap (λ x. Some (data_of x)) c.in-Some-List.field-0-is) in
    (omega (arith, below), tt)

pub read_negated-read_validations-requires : goal.read_negated-read_validations-requires
read_negated-read_validations-requires t c =
    let below = under_decreases (data_of c.args.schema.now) _ (data_of c.in-Some.negated.now) (sym c.in-Some.ensures) in
    (omega (arith, below, c.decreases), tt)

pub read_branches-loop-item-preserved : goal.read_branches-loop-item-preserved
read_branches-loop-item-preserved t c =
    let xs = c.deref-item-items.result.now in
    let i = c.loop-item.item-index in
    let x = c.item-item.result in
    let branches = c.loop-item.branches.items in
    let within : i < length xs = omega arith in
    let more : items_of (take (i + 1) xs) ≡ items_of (take i xs ++ x ∷ []) = ap items_of (take_more xs i x within ∙ ap (λ y. take i xs ++ y ∷ []) (sym c.item-item.is)) in
    let pushed : c.push.new.self.items ≡ branches ++ c.in_ok-read_validations.field-0 ∷ [] = c.in_ok-push.ensures.items in
    rw (pushed, more) (push_branches c.args.profile branches c.in_ok-read_validations.field-0 (take i xs) x c.loop-item.invariant c.in_ok-read_validations.ensures)
