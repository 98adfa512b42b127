-- What a cover under way knows of the paths that were wanted.
use Rattle.std.specs.Prelude.{◌≡◌, ◌≤◌, ◌++◌, ℕ, List, length, take, map, All, Contains, Bool, true, false, None}
use Rattle.jtree.specs.View.{data_of}
use Rattle.explain.specs.Fields.Field.{Field}
use Rattle.explain.specs.Paths.FieldPath.{FieldPath}
use Rattle.explain.specs.Paths.PathText.{path_text}
use Rattle.plan.specs.Pools.PlanFault.{HasGoodPaths}
use Rattle.plan.specs.Samples.Question.{Question}
use Rattle.cover.specs.Cover.{IsCoverOf}
use Rattle.cover.specs.There.{is_there}
use Rattle.cover.specs.View.{wanted_of, covered_of}
use Rattle.cover.specs.Wanted.{with_any}
use Rattle.cover.specs.Internal.Ways.{path_of}
use Rattle.cover.specs.declared.covering.Covered.{Covered}
use Rattle.cover.specs.declared.covering.Line.{Line}
use Rattle.cover.specs.declared.covering.Wanted.{Wanted}
use Rattle.cover.specs.declared.known.Front.{Front}
use Rattle.cover.specs.declared.known.Known.{Known}

-- the first lines do not have the path, and where it is missed, it is among what no sample has
pub record IsKnown (c : Covered) (p : FieldPath) (k : Known) : Type 0 where
  pub within : k.lacking ≤ length c.lines.items
  pub lacking : All (λ l. is_there None p (data_of l.tree) ≡ false) (take k.lacking c.lines.items)
  pub missed : k.missed ≡ true → Contains (map wanted_of c.missed.items) (with_any (path_text p))

-- of a beginning of the path
pub record IsKnownAbove (c : Covered) (p : FieldPath) (k : Known) : Type 0 where
  pub front : FieldPath
  pub rest : FieldPath
  pub whole : p ≡ front ++ rest
  pub known : IsKnown c front k

abbrev pub AreKnown : Covered → List Front → Type 0
AreKnown c fronts = All (λ f. IsKnown c (path_of f.steps.items) f.known) fronts

-- lines and what is missed are only added to
pub record IsGrown (old new : Covered) : Type 0 where
  pub lines : (more : List Line) × (new.lines.items ≡ old.lines.items ++ more)
  pub missed : (more : List Wanted) × (new.missed.items ≡ old.missed.items ++ more)

-- what a cover under way is
pub record IsCovering (q : Question) (values : Bool) (fields : List Field) (count : ℕ) (covered : Covered) (fronts : List Front) : Type 0 where
  pub paths : HasGoodPaths q.root q.pools
  pub cover : IsCoverOf values q (λ paths. take count paths) fields (covered_of covered)
  pub known : AreKnown covered fronts
