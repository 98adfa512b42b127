use Rattle.std.proofs.Common.{◌≡◌, subst, sym, ◌∙◌, Decides}
use Rattle.std.proofs.lemmas.List.{at_drop_all}
use Rattle.explain.specs.Internal.Reading.{IsPathText, is_read}
use Rattle.explain.specs.declared.reading.Stage.TheVariants.{Between}
use Rattle.explain.proofs.ReadingLemmas.{reading}
use Rattle.explain.proofs.reading.is_path_text.Goals as goal

pub returns : goal.returns
returns c =
    let text = c.args.text.now in
    let read : is_read Between text ≡ c.may_end.result =
    sym c.loop-byte.invariant ∙ (at_drop_all (is_read c.loop-byte.stage) c.as_bytes-byte-items.result.now c.loop-byte.byte-index c.loop-byte-test.false ∙ sym c.may_end.ensures)
    in
    subst (λ b. Decides b (IsPathText text)) read (reading text)
