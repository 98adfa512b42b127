-- A path of the code as a path, and the part of a document to which a step leads, before `serde_json` reads its numbers.
use Rattle.std.specs.Prelude.{List, Option, map}
use Rattle.json.specs.Json.{Json}
use Rattle.json.specs.Find.{get, at}
use Rattle.jtree.specs.Path.{name, index, Path, Step as PathStep}
use Rattle.jtree.specs.declared.other_number.Step.{Step}
use Rattle.jtree.specs.declared.other_number.Step.TheVariants.{Name, Index}

abbrev pub step_of : Step → PathStep
step_of (Name k) = name k.now
step_of (Index i) = index i

abbrev pub path_of : List Step → Path
path_of steps = map step_of steps

abbrev pub part_of : Json → PathStep → Option Json
part_of j (name k) = get k j
part_of j (index i) = at i j
