use Rattle.std.proofs.Common.{◌≡◌, ◌∙◌, ap, sym, map, arith, rules, true}
use Rattle.std.proofs.lemmas.Slice.Eq.{bytes_eq-Decides}
use Rattle.explain.specs.Fields.View.{field_of}
use Rattle.explain.proofs.FoundLemmas.{found, missing}
use Rattle.explain.proofs.listing.Listing.field.Goals as goal

pub returns-then-eq-clause-found : goal.returns-then-eq-clause-found
returns-then-eq-clause-found c = λ root all.
    let fs = c.deref-field-items.result.now in
    let named = (bytes_eq-Decides c.as_str.result.now c.args.path.now).0 (sym c.eq.ensures ∙ c.if-eq.true) in
    found root fs c.args.self.now c.loop-field.field-index c.field-item.result c.args.path.now (ap (map field_of) c.deref-field-items.ensures.value ∙ c.self.view_is) c.loop-field-test.true c.field-item.is
    (sym c.as_str.ensures ∙ named) all

pub returns-clause-fault : goal.returns-clause-fault
returns-clause-fault c = λ root all.
    let fs = c.deref-field-items.result.now in
    let is : c.is_path_text.result ≡ true = search rules in
    missing root fs c.args.self.now c.args.path.now (ap (map field_of) c.deref-field-items.ensures.value ∙ c.self.view_is) (c.is_path_text.ensures.0 is)
    (λ k d below. c.loop-field.invariant k d (omega arith)) all
