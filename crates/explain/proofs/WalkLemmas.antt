-- How a walk lists fields.
use Rattle.std.proofs.Common.{◌≡◌, ℕ, List, [], ◌∷◌, ◌++◌, Bool, Option, length, map, take, refl, append_assoc, append-nil}
use Rattle.std.proofs.Math.Seq.{take-append_seam}
use Rattle.jtree.specs.Data.{Data}
use Rattle.schema.specs.Nodes.Node.{Node}
use Rattle.explain.specs.Paths.FieldPath.{FieldStep}
use Rattle.explain.specs.Paths.PathText.{step_text}
use Rattle.explain.specs.Fields.Field.{Field}
use Rattle.explain.specs.Internal.ListedByLevel.{Entry, under, whole, listed_as, listed_at, Progress, noted, added}

listed_under : (at : List ℕ) (s : FieldStep) (es : List Entry) → map (listed_at at) (under s es) ≡ map (listed_at (at ++ step_text s)) es
listed_under at s [] = refl
listed_under at s (e ∷ es) = rw (listed_under at s es) (rw append_assoc refl)

-- the node itself is listed, the fields below it are added, and the text is cut to what it was
pub left : (at : List ℕ) (ts : List Field) (s : FieldStep) (required : Bool) (default : Option Data) (N : Node) (es : List Entry) (q r : Progress) (cut : List ℕ)
    → q ≡ noted (record { path = at ++ step_text s; listed = ts }) (listed_as (at ++ step_text s) required default N ∷ []) → r ≡ added q es → cut ≡ take (length at) r.path
    → record { path = cut; listed = r.listed } ≡ added (record { path = at; listed = ts }) (under s (whole required default N es))
left at ts s required default N es q r cut e f g = rw (g, f, e, take-append_seam, append_assoc, listed_under, append-nil) refl
