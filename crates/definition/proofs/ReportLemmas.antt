-- How a walk reports the faults that it finds.
use Rattle.std.proofs.Common.{◌≡◌, ℕ, List, [], ◌∷◌, ◌++◌, length, map, take, refl, append_assoc}
use Rattle.std.proofs.Math.Seq.{take-append_seam}
use Rattle.jtree.specs.Data.{Items, Members}
use Rattle.jtree.specs.Path.{Step}
use Rattle.jtree.specs.Pointer.{token}
use Rattle.jtree.specs.View.{data_of}
use Rattle.jtree.specs.declared.value.Tree.{Tree}
use Rattle.jtree.specs.declared.value.Tree.TheVariants as tree
use Rattle.definition.specs.Faults.{Break, Reported}
use Rattle.definition.specs.Internal.ByLevel.{own, under, found, Progress, reported_at, added}
use Rattle.definition.specs.declared.part.Part.{Part}

reported_under : (at : List ℕ) (s : Step) (fs : List Break) → map (reported_at at) (under s fs) ≡ map (reported_at (at ++ token s)) fs
reported_under at s [] = refl
reported_under at s (f ∷ fs) = rw (reported_under at s fs) (rw append_assoc refl)

-- the pointer is cut again to what it was
pub left : (at : List ℕ) (rs : List Reported) (s : Step) (fs : List Break) (q : Progress) (cut : List ℕ) → q ≡ added (record { pointer = at ++ token s; reported = rs }) fs
    → cut ≡ take (length at) q.pointer → record { pointer = cut; reported = q.reported } ≡ added (record { pointer = at; reported = rs }) (under s fs)
left at rs s fs q cut e f = rw (f, e, take-append_seam, reported_under) refl

-- what is neither a list nor an object has no faults but its own
pub childless : (p : Part) (t : Tree) → ((ds : Items) → t ≡ tree.List ds → ⊥) → ((ms : Members) → t ≡ tree.Object ms → ⊥) → own p (data_of t) ≡ found p (data_of t)
childless p (tree.List ds) no_list no_object = absurd (no_list ds refl)
childless p (tree.Object ms) no_list no_object = absurd (no_object ms refl)
childless p _ no_list no_object = refl
