-- By what an object is judged: by the rules of crdx, at the node of its body; or, where `validate` is asked under the profile `cluster` and not
-- with `--strict`, by the schema as it is written (this project's own).
use Rattle.std.specs.Prelude.{Bool, false, not}
use Rattle.formats.specs.Formats.{has_named}
use Rattle.formats.specs.Names as formats
use Rattle.jtree.specs.Data.{Data}
use Rattle.judge.specs.Faults.{Asking, some_fails}
use Rattle.judge.specs.Keywords.{Texts, texts}
use Rattle.patterns.specs.Meaning.{matches_pattern}
use Rattle.schema.specs.Nodes.Node.{Node}
use Rattle.std.specs.Option.{is_some}
use Rattle.crdx.specs.declared.arguments.request.ObjectArguments.{ObjectArguments}
use Rattle.crdx.specs.declared.arguments.request.ObjectCommand.{ObjectCommand}
use Rattle.crdx.specs.declared.arguments.request.ObjectCommand.TheVariants.{Validate}
use Rattle.schema.specs.declared.profile.Profile.{Profile}
use Rattle.schema.specs.declared.profile.Profile.TheVariants.{Cluster}

pub data Standard : Type 0 where
  by_node : Node → Standard
  as_written : Data → Standard

abbrev pub is_as_written : Profile → ObjectCommand → Bool
is_as_written Cluster (Validate strict) = not strict
is_as_written _ _ = false

-- whether an object is judged by the schema as it is written
abbrev pub asks_as_written : ObjectArguments → Bool
asks_as_written arguments = is_as_written arguments.common.profile arguments.command

-- texts are tested by patterns in Go's syntax and by the formats of the API server
abbrev pub tests_of_texts : Texts
tests_of_texts = texts matches_pattern (λ name. is_some (formats.named name)) (λ name text. has_named matches_pattern (formats.named name) text)

-- which tests a value fails by the schemas of its place
abbrev pub fails_as_written : Asking
fails_as_written = some_fails tests_of_texts
