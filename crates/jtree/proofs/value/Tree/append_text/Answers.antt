use Rattle.std.proofs.Common.{◌≡◌, List, [], ◌++◌, IsUtf8, sym, ap, ap₂, ◌∙◌, subst}
use Rattle.json.specs.Lex.{tokens}
use Rattle.jtree.proofs.ReadBack.{json_of, read_back, read_all_back, tree_of-json_of}
use Rattle.json.specs.Print.{print}
use Rattle.json.specs.Token.{Token}
use Rattle.json.specs.Tree.{json_tokens}
use Rattle.jtree.proofs.Printed.{print-outline}
use Rattle.jtree.specs.Data.{Data}
use Rattle.jtree.specs.Text.{outline, compact}
use Rattle.jtree.specs.View.{data_of}
use Rattle.jtree.proofs.value.Tree.append_text.Goals as goal

printed : (d : Data) (old new : List Token) → new ≡ old ++ json_tokens (outline d) → old ≡ [] → print new ≡ compact d
printed d old new written none = ap print (written ∙ ap (λ ts. ts ++ json_tokens (outline d)) none) ∙ print-outline d

pub returns-clause-ok : goal.returns-clause-ok
returns-clause-ok c =
    let before = c.in_ok-write_tree.ensures.before ∙ c.new-writer.ensures.before in
    let text = printed (data_of c.args.self.now) _ _ c.in_ok-write_tree.ensures.ok c.new-writer.ensures.tokens in
    c.into_inner.ensures.items ∙ ap₂ (λ xs ys. xs ++ ys) before text

-- the tokens of what was printed
printed_tokens : (d : Data) (old new : List Token) → new ≡ old ++ json_tokens (outline d) → old ≡ [] → tokens (print new) ≡ new → tokens (compact d) ≡ json_tokens (outline d)
printed_tokens d old new written none same =
    ap tokens (sym (printed d old new written none)) ∙ (same ∙ (written ∙ ap (λ ts. ts ++ json_tokens (outline d)) none))

pub returns-clause-reads_back : goal.returns-clause-reads_back
returns-clause-reads_back c = λ integers shallow short.
    let d = data_of c.args.self.now in
    let text = printed d _ _ c.in_ok-write_tree.ensures.ok c.new-writer.ensures.tokens in
    let utf8 : IsUtf8 (compact d) = subst IsUtf8 text c.into_inner.ensures.utf8 in
    let same = printed_tokens d _ _ c.in_ok-write_tree.ensures.ok c.new-writer.ensures.tokens c.into_inner.ensures.reads_back in
    (short, json_of d, (utf8, read_back d (compact d) c.reveal_invariant.ensures shallow same), tree_of-json_of d c.reveal_invariant.ensures integers)

pub returns-clause-reads_all_back : goal.returns-clause-reads_all_back
returns-clause-reads_all_back c = λ shallow short.
    let d = data_of c.args.self.now in
    let text = printed d _ _ c.in_ok-write_tree.ensures.ok c.new-writer.ensures.tokens in
    let utf8 : IsUtf8 (compact d) = subst IsUtf8 text c.into_inner.ensures.utf8 in
    let same = printed_tokens d _ _ c.in_ok-write_tree.ensures.ok c.new-writer.ensures.tokens c.into_inner.ensures.reads_back in
    (short, utf8, read_all_back d (compact d) c.reveal_invariant.ensures shallow same)

pub returns-clause-utf8 : goal.returns-clause-utf8
returns-clause-utf8 c =
    let text = printed (data_of c.args.self.now) _ _ c.in_ok-write_tree.ensures.ok c.new-writer.ensures.tokens in
    subst IsUtf8 text c.into_inner.ensures.utf8
