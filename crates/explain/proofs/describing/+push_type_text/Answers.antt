use Rattle.std.proofs.Common.{◌≡◌, ◌++◌, ◌∙◌, ap, string_bytes, append_assoc}
use Rattle.std.specs.Prelude.{codes}
use Rattle.std.proofs.lemmas.Result.{on_ok_weaker}
use Rattle.schema.specs.Nodes.View.{node_of}
use Rattle.explain.specs.Fields.TypeText.{type_text}
use Rattle.explain.proofs.describing.+push_type_text.Goals as goal

pub returns-in_ok-push_str-in-Map : goal.returns-in_ok-push_str-in-Map
returns-in_ok-push_str-in-Map t c =
    let old = string_bytes c.args.text.now in
    let same : node_of c.deref.result.now ≡ c.in-Map.map.value = cc in
    rw c.in-Map.is (on_ok_weaker c.push_type_text.result
    (λ e. e ∙ (ap (λ x. x ++ type_text (node_of c.deref.result.now)) c.in_ok-push_str-in-Map.ensures.bytes
    ∙ (append_assoc old (codes "map[string]") (type_text (node_of c.deref.result.now)) ∙ ap (λ N. old ++ (codes "map[string]" ++ type_text N)) same)))
    c.push_type_text.ensures)
