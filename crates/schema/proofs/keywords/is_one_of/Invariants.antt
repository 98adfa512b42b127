use Rattle.std.proofs.Common.{◌≡◌, drop}
use Rattle.std.specs.Prelude.{map}
use Rattle.schema.specs.Document.Texts.{is_among}
use Rattle.schema.proofs.keywords.is_one_of.Given as goal

-- the text is among those that are left exactly where it is among all
abbrev pub invariant-loop-value : goal.invariant-loop-value
invariant-loop-value l = is_among l.text (map (λ w. w.now) (drop l.value-index l.values)) ≡ is_among l.text (map (λ w. w.now) l.values)
