use Rattle.std.proofs.Common.{◌≡◌, ◌++◌, ◌∙◌, refl, ap, subst, map, string_bytes}
use Rattle.crdx.specs.Internal.PatternsFound.{refused_of}
use Rattle.crdx.specs.Program.CheckAnswer.{nothing}
use Rattle.crdx.specs.Program.PatternLines.{pattern_lines}
use Rattle.crdx.proofs.running.checking.besides_text.Goals as goal

pub returns-in-Core : goal.returns-in-Core
returns-in-Core c = rw c.in-Core.is (nothing, refl, c.new.ensures.bytes)

pub returns-in_ok-push_str-in-Cluster : goal.returns-in_ok-push_str-in-Cluster
returns-in_ok-push_str-in-Cluster c =
    let why = c.args.arguments.now.why in
    let lines = string_bytes c.in_ok-text-in-Cluster.text in
    let refused = map refused_of c.in_ok-refused-in-Cluster.refused.items in
    let found = c.in_ok-faults-in-Cluster.ensures in
    let patterns : lines ≡ pattern_lines why refused = subst (λ rs. lines ≡ pattern_lines why (map refused_of rs)) c.as_slice.ensures.value c.in_ok-text-in-Cluster.ensures in
    let faults = ap (λ s. lines ++ s) c.as_str.ensures.value ∙ (ap (λ s. s ++ string_bytes c.in_ok-faults-in-Cluster.faults) patterns ∙ ap (λ s. pattern_lines why refused ++ s) found.4) in
    rw c.in-Cluster.is (
      record { refused = refused; in_schema = found.0; in_definition = found.1 },
      (c.in_ok-refused-in-Cluster.ensures, found.2, found.3),
      c.in_ok-push_str-in-Cluster.ensures.bytes ∙ faults,
    )
