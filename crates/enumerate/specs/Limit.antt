-- A question at another limit, and the last sample of one (this project's own).
use Rattle.std.specs.Prelude.{ℕ, Some}
use Rattle.jtree.specs.Data.{Data}
use Rattle.plan.specs.Samples.Question.{Question}
use Rattle.enumerate.specs.Page.{IsSampleOf, IsPastSample}

-- the same schema and pools, with this limit
abbrev pub at_limit : Question → ℕ → Question
at_limit q limit = record { root = q.root; pools = q.pools; limit = limit }

-- a sample past which there is none
pub record IsLastSample (q : Question) (v : Data) : Type 0 where
  pub sample : IsSampleOf q v
  pub none_past : (u : Data) → IsPastSample q (Some v) u → ⊥
