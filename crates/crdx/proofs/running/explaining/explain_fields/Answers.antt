use Rattle.std.proofs.Common.{◌∙◌, ap, sym}
use Rattle.std.proofs.lemmas.List.Folds.{flat_map-map}
use Rattle.explain.specs.Fields.View.{field_of}
use Rattle.crdx.specs.Program.FieldAnswer.{listed}
use Rattle.crdx.specs.Program.FieldLines.{field_line, field_lines}
use Rattle.crdx.proofs.running.explaining.explain_fields.Goals as goal

pub returns-clause-answer : goal.returns-clause-answer
returns-clause-answer c = rw (c.in_ok-all_lines.ensures ∙ (sym (flat_map-map field_line field_of _) ∙ ap field_lines c.fields.ensures)) (listed c.in_ok-listing.listing c.in_ok-listing.ensures)
