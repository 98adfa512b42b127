-- For private contracts: which kind the kinds of the code stand for.
use Rattle.std.specs.Prelude.{ℕ, List, Bool, Option, Some, None, option_map, not}
use Rattle.jtree.specs.Data.{Data}
use Rattle.schema.specs.Document.Texts.{is_among}
use Rattle.schema.specs.Rules.Kinds as kinds
use Rattle.schema.specs.Rules.Broken.{metadata_keywords}
use Rattle.schema.specs.Rules.Profile.{junctor_keywords, outside_keywords, unsupported_keywords, not_at_root, is_foreign, accepts, is_scalar_value}
use Rattle.schema.specs.Rules.Junctors.{is_branch_keyword, is_presence_keyword}
use Rattle.schema.specs.declared.kinds.Kind.{Kind}
use Rattle.schema.specs.declared.kinds.Kind.TheVariants as kind
use Rattle.schema.specs.declared.keywords.Keywords.{Keywords}
use Rattle.schema.specs.declared.keywords.Keywords.TheVariants as keywords
use Rattle.schema.specs.declared.node.ScalarKind.{ScalarKind}

abbrev pub kind_view : Kind → kinds.Kind
kind_view (kind.Scalar k) = kinds.scalar k
kind_view kind.Open = kinds.open_
kind_view kind.List = kinds.list
kind_view kind.Map = kinds.map
kind_view kind.Object = kinds.object

-- the keywords that the code asks for
abbrev pub is_asked : Keywords → List ℕ → Bool
is_asked keywords.Junctors k = is_among k junctor_keywords
is_asked keywords.Outside k = is_among k outside_keywords
is_asked keywords.Unsupported k = is_among k unsupported_keywords
is_asked keywords.BesideMetadata k = not (is_among k metadata_keywords)
is_asked keywords.BesideBranch k = not (is_branch_keyword k)
is_asked keywords.BesidePresence k = not (is_presence_keyword k)
is_asked (keywords.Foreign kind) k = is_foreign (option_map kind_view kind) k
is_asked keywords.NotAtRoot k = is_among k not_at_root

-- the values that are accepted: of a kind, and without one in a branch
abbrev pub is_accepted : Option ScalarKind → Data → Bool
is_accepted (Some kind) d = accepts kind d
is_accepted None d = is_scalar_value d
