use Rattle.std.proofs.Common.{◌≡◌, ◌∙◌, ◌+◌, drop, sym, ap, arith}
use Rattle.std.specs.Prelude.{option_and_then}
use Rattle.jtree.specs.Path.{under}
use Rattle.schema.specs.Nodes.View.{node_of, fields_of}
use Rattle.explain.specs.Paths.FieldPath as step
use Rattle.plan.specs.Samples.Site.{below}
use Rattle.suggest.specs.View.{texts_at, tree_at}
use Rattle.suggest.specs.Internal.Parts.{general_of, suggestions_of}
use Rattle.suggest.specs.Suggested.Varied.{both, suggestions_at, suggestions_of_fields}
use Rattle.suggest.proofs.VaryLemmas.{field_step, both_grown}
use Rattle.suggest.proofs.varying.+varied.Goals as goal

pub add_fields-loop-field-preserved : goal.add_fields-loop-field-preserved
add_fields-loop-field-preserved t c =
    let G = general_of c.args.variation.now.general.now in
    let ts = texts_at c.args.variation.now.varied.now in
    let v = tree_at c.args.object in
    let site = c.args.site.now in
    let s = tree_at site.hints.schema in
    let fs = c.deref-field-items.result.now in
    let i = c.loop-field.field-index in
    let f = c.field-item.result in
    let name = c.as_str-name.ensures in
    let at_path : c.deref.result.now ≡ below site.path.now (step.field f.name) = c.deref.ensures ∙ (c.in_ok-path.ensures ∙ ap (λ k. below site.path.now (step.field k)) name) in
    let under_name : tree_at c.under-object.result ≡ option_and_then (λ o. under o f.name) v = c.under-object.ensures ∙ ap (λ k. option_and_then (λ o. under o k) v) name in
    let hints = c.field_hints.result in
    let step = field_step G ts v s site.path.now fs i f (omega arith) c.field-item.is (tree_at c.under-object.result) (tree_at hints.default) (tree_at hints.schema) c.deref.result.now
    under_name c.field_hints.ensures.default c.field_hints.ensures.schema at_path in
    let before = suggestions_of c.loop-field.suggestions in
    let here = suggestions_at G ts (tree_at c.under-object.result) (tree_at hints.default) (tree_at hints.schema) c.deref.result.now (node_of f.node) in
    let rest = suggestions_of_fields G ts v s site.path.now (fields_of (drop (i + 1) fs)) in
    both_grown before _ here rest _ c.in_ok-add_at.ensures (ap (both before) (sym step) ∙ c.loop-field.invariant)
