use Rattle.std.proofs.Common.{◌≡◌, ◌++◌, ◌∙◌, ap, sym, subst, length, false, string_bytes}
use Rattle.std.specs.Prelude.{◌==◌, codes}
use Rattle.std.proofs.lemmas.Result.{IfOk-weaker}
use Rattle.jtree.specs.Data.{list}
use Rattle.jtree.specs.Text.{compact}
use Rattle.crdx.specs.Program.FieldLines.{enum_line}
use Rattle.crdx.proofs.LineLemmas.{enum_line_of_some}
use Rattle.crdx.proofs.running.explaining.enum_line.Goals as goal

pub returns : goal.returns
returns c =
    let choices = c.choices.inside.items.items in
    let some : (length choices == 0) ≡ false = ap (λ vs. length vs == 0) (sym c.as_slice.ensures.value) ∙ sym c.if-is_empty.ensures in
    let line : codes "enum " ++ (string_bytes c.in_ok-choices.choices ++ codes "\n") ≡ enum_line c.args.choices.now =
    ap (λ s. codes "enum " ++ (s ++ codes "\n")) c.in_ok-choices.ensures ∙ subst (λ ds. codes "enum " ++ (compact (list ds) ++ codes "\n") ≡ enum_line ds) c.choices.view_is (enum_line_of_some choices some) in
    IfOk-weaker c.format.result (λ s. string_bytes s ≡ codes "enum " ++ (string_bytes c.in_ok-choices.choices ++ codes "\n")) _ (λ s is. is ∙ line) c.format.ensures.ok
