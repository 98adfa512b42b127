use Rattle.std.proofs.Common.{◌≡◌, take, map, string_bytes}
use Rattle.std.specs.Option.{option_copied}
use Rattle.jtree.specs.View.{data_of}
use Rattle.crdx.specs.Output.Line.{lines}
use Rattle.crdx.proofs.running.covering.lines_text.Given as goal

abbrev pub invariant-loop-line : goal.invariant-loop-line
invariant-loop-line l = string_bytes l.text ≡ lines (option_copied l.envelope) (map (λ m. data_of m.tree) (take l.line-index l.lines))
