-- Which scalars the suggested values reach: each without `enum` and junctors that accepts a boolean, an integer or a string that is
-- not too long has a candidate of that kind (this project's own). Nothing is said of junctors, whose branches together can ask for a
-- value that is next to none of their bounds, nor of scalars that are asked by their schema as it is written, whose bounds are floats.
use Rattle.std.specs.Prelude.{◌≡◌, ◌≤◌, None, length, chars}
use Rattle.jtree.specs.Data.{Data, boolean, integer, text}
use Rattle.jtree.specs.Order.{kind}
use Rattle.schema.specs.Nodes.Node.{Validations, validations, no_branches, Node, node, scalar}
use Rattle.explain.specs.Paths.FieldPath.{FieldPath}
use Rattle.explain.specs.Paths.PathText.{path_text}
use Rattle.plan.specs.Pools.Pools.{Pools, standard}
use Rattle.plan.specs.Pools.Document.{pools_of}
use Rattle.plan.specs.Samples.Part.{IsPart}
use Rattle.plan.specs.Samples.Site.{plain}
use Rattle.suggest.specs.Suggested.Values.{longest, all_integers, all_lengths}
use Rattle.suggest.specs.Suggested.Document.{suggested_document, nothing_wanted}

-- it has no constraints but bounds and lengths, and is asked by these
abbrev pub HasBoundsAlone : Validations → Type 0
HasBoundsAlone (validations t all any one negated) = (t.choices ≡ None) × (all ≡ no_branches) × (any ≡ no_branches) × (one ≡ no_branches) × (negated ≡ no_branches) × (t.written ≡ None)

-- a scalar with no other constraints
abbrev pub IsBounded : Node → Type 0
IsBounded (node nullable description (scalar kind cs)) = HasBoundsAlone cs
IsBounded _ = ⊥

-- a boolean, an integer where no integers were cut, or a string of at most 64 characters where no texts were
abbrev pub IsWithinReach : Node → Data → Type 0
IsWithinReach root (boolean b) = Unit {0}
IsWithinReach root (integer z) = length (all_integers root) ≤ standard.entries
IsWithinReach root (text s) = (length (chars s) ≤ longest) × (length (all_lengths root) ≤ standard.entries)
IsWithinReach root _ = ⊥

-- the pools that are suggested for a schema alone, by the standard limits
abbrev pub suggested_alone : Data → Node → Pools
suggested_alone raw root = pools_of (suggested_document standard raw root nothing_wanted)

-- the suggested values have a candidate for the node at the path, of the kind of v
pub record HasCandidateLike (raw : Data) (root : Node) (p : FieldPath) (N : Node) (v : Data) : Type 0 where
  pub candidate : Data
  pub alike : kind candidate ≡ kind v
  pub part : IsPart (suggested_alone raw root) (plain (suggested_alone raw root) (path_text p) N) candidate
