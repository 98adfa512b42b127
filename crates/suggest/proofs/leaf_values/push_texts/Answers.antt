use Rattle.std.proofs.Common.{◌≡◌, ◌∙◌, ◌++◌, ◌∷◌, [], ◌+◌, ℕ, List, true, append-nil, Some, sym, ap, drop, map, arith, rules}
use Rattle.std.specs.Prelude.{filter, codes, unwrap_or, option_and_then, if◌then◌else◌}
use Rattle.std.specs.Borrow.{Bor}
use Rattle.std.proofs.lemmas.List.{at_drop_more, at_drop_all}
use Rattle.jtree.specs.Data.{Data, text}
use Rattle.jtree.specs.View.{data_of}
use Rattle.schema.specs.Nodes.View.{node_of}
use Rattle.schema.specs.Rules.Keywords.{text_under}
use Rattle.suggest.specs.View.{trees_of, texts_at, tree_at}
use Rattle.suggest.specs.Suggested.Formats.{texts_of_format}
use Rattle.suggest.specs.Suggested.LeafValues.{takes, takes_texts_alone}
use Rattle.suggest.proofs.LeafValueLemmas.{one_filtered, format_is}
use Rattle.suggest.proofs.leaf_values.push_texts.Goals as goal

letters_trees : List (Bor (List ℕ)) → List Data
letters_trees ys = map (λ t. text t) (texts_at ys)

pub loop-letters-preserved : goal.loop-letters-preserved
unfolding letters_trees
loop-letters-preserved c =
    let xs = c.texts_of_format-letters-items.result.now in
    let i = c.loop-letters.letters-index in
    let T = takes (node_of c.args.node.now) in
    let acc = trees_of c.loop-letters.values.items in
    let rest = letters_trees (drop (i + 1) xs) in
    let v = data_of c.in_ok-value.value in
    let step = at_drop_more letters_trees xs i (record { ref_ptr = (0, 0); now = [] }) (omega arith) in
    ap (λ ds. ds ++ filter T rest) c.in_ok-push_taken.ensures ∙ (one_filtered T acc v rest
    ∙ (ap (λ y. acc ++ filter T (y ∷ rest)) c.in_ok-value.ensures ∙ (ap (λ ds. acc ++ filter T ds) (sym step) ∙ c.loop-letters.invariant)))

pub returns : goal.returns
unfolding letters_trees
returns c =
    let N = node_of c.args.node.now in
    let T = takes N in
    let xs = c.texts_of_format-letters-items.result.now in
    let i = c.loop-letters.letters-index in
    let f = c.in-Some-Text.format in
    let acc = trees_of c.loop-letters.values.items in
    let init = trees_of c.args.values.now.items in
    let schema = tree_at c.args.schema in
    let under_format : option_and_then (λ s. text_under s (codes "format")) schema ≡ Some f = format_is schema (codes "format") f (sym c.under.ensures ∙ search rules) in
    let asked = texts_of_format (unwrap_or (option_and_then (λ s. text_under s (codes "format")) schema) []) in
    let texts : texts_at xs ≡ asked = c.texts_of_format-letters-items.ensures ∙ ap texts_of_format (c.as_str.ensures ∙ ap (λ o. unwrap_or o []) (sym under_format)) in
    let alone : takes_texts_alone N ≡ true = sym c.takes_texts_alone.ensures ∙ c.if-not-takes_texts_alone.false in
    let all : acc ≡ init ++ filter T (letters_trees xs) = sym (append-nil acc) ∙ (ap (λ ds. acc ++ filter T ds) (sym (at_drop_all letters_trees xs i (omega arith))) ∙ c.loop-letters.invariant) in
    all ∙ ap (λ ds. init ++ ds) (ap (λ ts. filter T (map (λ t. text t) ts)) texts ∙ ap (λ b. if b then filter T (map (λ t. text t) asked) else []) (sym alone))
