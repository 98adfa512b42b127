use Rattle.std.proofs.Common.{◌≡◌, ◌++◌, OnOk, sym, ap, ◌∙◌, subst}
use Rattle.std.specs.Prelude.{string_bytes, codes}
use Rattle.std.proofs.lemmas.List.{append-nil, append_assoc}
use Rattle.std.proofs.lemmas.Result.{on_ok_weaker}
use Rattle.jtree.specs.Pointer.{name_token, pointer}
use Rattle.schema.specs.Document.Places.{step_path}
use Rattle.schema.specs.Internal.PlaceView.{step_of}
use Rattle.schema.proofs.places.push_step.Goals as goal

pub returns-in_ok-push_name-in-Property : goal.returns-in_ok-push_name-in-Property
returns-in_ok-push_name-in-Property c =
    let r = c.push_name-in-Property.result in
    let old = string_bytes c.args.text.now in
    let new = string_bytes c.push_name-in-Property.new.text in
    let P = name_token (codes "properties") in
    let T = name_token c.in-Property.name.now in
    subst (λ s. OnOk r (new ≡ old ++ pointer (step_path (step_of s)))) (sym c.in-Property.is)
    (on_ok_weaker r (λ e. e ∙ ap (λ x. x ++ T) c.in_ok-push_name-in-Property.ensures ∙ append_assoc old P T ∙ ap (λ x. old ++ (P ++ x)) (sym (append-nil T)))
    c.push_name-in-Property.ensures)

pub returns-in-MapValue : goal.returns-in-MapValue
returns-in-MapValue c =
    let r = c.push_name-in-MapValue.result in
    let old = string_bytes c.args.text.now in
    let new = string_bytes c.push_name-in-MapValue.new.text in
    let T = name_token (codes "additionalProperties") in
    subst (λ s. OnOk r (new ≡ old ++ pointer (step_path (step_of s)))) (sym c.in-MapValue.is)
    (on_ok_weaker r (λ e. e ∙ ap (λ x. old ++ x) (sym (append-nil T))) c.push_name-in-MapValue.ensures)
