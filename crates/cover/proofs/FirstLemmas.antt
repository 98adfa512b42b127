-- The first sample over the narrowed pools is the first one in which the path is there.
use Rattle.std.proofs.Common.{Option, Some, None}
use Rattle.jtree.specs.Data.{Data}
use Rattle.explain.specs.Fields.Declared.{IsDeclared}
use Rattle.explain.specs.Paths.FieldPath.{FieldPath}
use Rattle.plan.specs.Samples.Question.{Question}
use Rattle.enumerate.specs.Live.{IsNextSample}
use Rattle.cover.specs.Internal.First.{IsFirstSample}
use Rattle.cover.specs.Internal.Narrowed.{narrower, MayBeWanted}
use Rattle.cover.proofs.PathLemmas.{OneText}
use Rattle.cover.proofs.NarrowLemmas.{StoredLaw}
use Rattle.cover.proofs.SampleLemmas.{narrow_sample, narrow_there, sample_narrow}

pub own_first : OneText → StoredLaw → (q : Question) (o : Option Data) (p : FieldPath) → IsDeclared q.root p → MayBeWanted q.root q.pools o p → (t : Option Data)
    → IsNextSample (narrower q o p) None t → IsFirstSample q o p t
own_first one law q o p declared may None none = λ v h. none v (record { sample = sample_narrow one q o p v declared may h.0 h.1; past = tt })
own_first one law q o p declared may (Some v) first = record {
  is = (narrow_sample one q o p v declared may first.is.sample, narrow_there one law q o p v declared may first.is.sample);
  least = λ u h before. first.least u (record { sample = sample_narrow one q o p u declared may h.0 h.1; past = tt }) before;
}
