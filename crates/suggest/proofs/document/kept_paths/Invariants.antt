use Rattle.std.proofs.Common.{◌≡◌, ◌++◌, drop}
use Rattle.std.specs.Prelude.{filter, not}
use Rattle.schema.specs.Document.Texts.{is_among}
use Rattle.suggest.specs.View.{texts_at}
use Rattle.suggest.proofs.document.kept_paths.Given as goal

abbrev pub invariant-loop-path : goal.invariant-loop-path
invariant-loop-path l = l.kept.items ++ filter (λ t. not (is_among t (texts_at l.without))) (drop l.path-index l.paths) ≡ filter (λ t. not (is_among t (texts_at l.without))) l.paths
