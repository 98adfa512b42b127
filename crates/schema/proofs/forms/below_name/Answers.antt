use Rattle.std.proofs.Common.{◌≡◌, ◌∷◌, ◌++◌, Some, ap, ◌∙◌, subst}
use Rattle.jtree.specs.Path.{name, part_at}
use Rattle.jtree.specs.Pointer.{name_token}
use Rattle.jtree.specs.View.{data_of}
use Rattle.schema.specs.Document.Forms.{form_below}
use Rattle.schema.specs.Internal.Faults.{IsFirstBreak}
use Rattle.schema.specs.Internal.FormBreak.{below}
use Rattle.schema.proofs.forms.below_name.Goals as goal

pub returns-in-Ok : goal.returns-in-Ok
returns-in-Ok c = λ f d e o at h.
    let s = name c.args.name.now in
    let b = subst (IsFirstBreak (form_below f s) e o) c.in-Broken.is h in
    let there : part_at d (s ∷ b.0) ≡ Some (data_of c.in-Broken.broken.found.now) = rw at b.3.1 in
    (s ∷ b.0, c.in-Ok.ensures ∙ ap (λ xs. name_token c.args.name.now ++ xs) (c.as_str.ensures.value ∙ b.1), ap (below s) b.2, (b.3.0, there))
