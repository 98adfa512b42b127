use Rattle.std.proofs.Common.{◌≡◌, ◌∙◌, ◌++◌, [], sym, ap, length, arith, false}
use Rattle.std.specs.Prelude.{if◌then◌else◌, vec_len}
use Rattle.std.proofs.lemmas.List.{length-map}
use Rattle.jtree.specs.View.{data_of}
use Rattle.schema.specs.Nodes.View.{node_of}
use Rattle.suggest.specs.View.{trees_of, tree_at}
use Rattle.suggest.specs.Internal.Parts.{general_of}
use Rattle.suggest.specs.Suggested.LeafValues.{own_values, format_values, general_values, lists_itself, hinted_from}
use Rattle.suggest.proofs.LeafValueLemmas.{hinted_own, hinted_texts, hinted_none}
use Rattle.suggest.proofs.leaf_values.hinted_values.Goals as goal
use Rattle.suggest.proofs.leaf_values.hinted_values.Goals.{then-own-gt0+then-len-own+in_ok-push_general, else-own-gt0, else-own-gt0-via-then-own-gt0+else-len-own, else-own-gt0-via-else-own-gt0}

pub returns : goal.returns
returns c =
    let N = node_of c.args.node.now in
    let default = tree_at c.args.hints.now.default in
    let schema = tree_at c.args.hints.now.schema in
    let own = own_values N default schema in
    let texts = format_values N schema in
    let general = general_values (general_of c.args.general.now) N in
    let first : trees_of c.push_own.new.values.items ≡ own = c.in_ok-push_own.ensures ∙ ap (λ xs. trees_of xs ++ own) c.new-values.ensures.items in
    let second : trees_of c.push_texts.new.values.items ≡ own ++ texts = c.in_ok-push_texts.ensures ∙ ap (λ ds. ds ++ texts) first in
    let own_length : c.len-own.result ≡ length own = omega (arith, c.len-own.ensures, c.push_own.new.values.ok.0, length-map c.push_own.new.values.items data_of, ap length first) in
    let all_length : vec_len c.push_texts.new.values ≡ length (own ++ texts) = omega (arith, c.push_texts.new.values.ok.0, length-map c.push_texts.new.values.items data_of, ap length second) in
    let is : lists_itself N ≡ false = sym c.lists_itself.ensures ∙ c.if-lists_itself.false in
    let all : trees_of c.if-own-gt0.values.items ≡ hinted_from own texts general = elim c.if-own-gt0.branch [
      | then-own-gt0+then-len-own+in_ok-push_general w ↦
          let same : length (own ++ texts) ≡ length own = omega (arith, own_length, w.if-len-own.true, w.len.ensures, all_length) in
          ap (λ v. trees_of v.items) w.values-is ∙ (w.in_ok-push_general.ensures ∙ (ap (λ ds. ds ++ general) second ∙ hinted_own own texts general (omega (arith, own_length, w.if-own-gt0.true)) same))
      | else-own-gt0 w ↦ elim w.else-own-gt0.branch [
        | else-own-gt0-via-then-own-gt0+else-len-own u ↦ ap (λ v. trees_of v.items) w.values-is ∙ (second ∙ hinted_texts own texts general (λ e. u.if-len-own.false (omega (arith, e, own_length, u.len.ensures, all_length))))
        | else-own-gt0-via-else-own-gt0 u ↦ ap (λ v. trees_of v.items) w.values-is ∙ (second ∙ hinted_none own texts general (omega (arith, own_length, u.if-own-gt0.false)))
      ]
    ] in
    all ∙ ap (λ b. if b then [] else hinted_from own texts general) (sym is)
