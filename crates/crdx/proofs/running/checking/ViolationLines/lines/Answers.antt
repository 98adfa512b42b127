use Rattle.std.proofs.Common.{◌≡◌, ◌++◌, refl, string_bytes, ◌∙◌}
use Rattle.std.specs.Prelude.{codes}
use Rattle.std.proofs.lemmas.Result.{IfOk-weaker}
use Rattle.schema.specs.Rules.Breaks.{reported, rule_name}
use Rattle.crdx.specs.Program.ViolationLines.{violation_line}
use Rattle.crdx.proofs.running.checking.ViolationLines.lines.Goals as goal

pub returns : goal.returns
returns c =
    let line = rule_name c.args.self.now.rule ++ (codes " " ++ (string_bytes c.in_ok-pointer.pointer ++ (codes " " ++ (c.phrase.result.now ++ codes "\n")))) in
    let same : line ≡ violation_line (reported c.args.self.now) = rw (c.in_ok-pointer.ensures, c.as_str.ensures.value, c.phrase.ensures) refl in
    IfOk-weaker c.format.result (λ s. string_bytes s ≡ line) (λ s. string_bytes s ≡ violation_line (reported c.args.self.now)) (λ s wrote. wrote ∙ same) c.format.ensures.ok
