-- By what the objects of a run on lines are judged.
use Rattle.jtree.specs.View.{data_of}
use Rattle.schema.specs.Nodes.View.{node_of}
use Rattle.crdx.specs.Program.Standard.{Standard, by_node, as_written}
use Rattle.crdx.specs.declared.running.line_answers.Judge.{Judge}
use Rattle.crdx.specs.declared.running.line_answers.Judge.TheVariants.{Node, AsWritten}

abbrev pub standard_of : Judge → Standard
standard_of (Node node) = by_node (node_of node.now)
standard_of (AsWritten judge) = as_written (data_of judge.schema.now)
