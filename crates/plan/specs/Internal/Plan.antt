-- The entries of a plan represent the sites of its schema.
use Rattle.std.specs.Prelude.{◌≡◌, ℕ, ◌+◌, ◌≤◌, ◌<◌, List, length}
use Rattle.schema.specs.Nodes.Node.{Node}
use Rattle.plan.specs.Pools.Pools.{Pools}
use Rattle.plan.specs.Samples.Sites.{sites_of}
use Rattle.plan.specs.Internal.Values.{AreValues}
use Rattle.plan.specs.Internal.Arena.{AreRight}
use Rattle.plan.specs.declared.values.Values.{Values}
use Rattle.plan.specs.declared.arena.Entry.{Entry}

pub record IsPlan {Z : Type 0} (holds : Z → ℕ → Type 0) (BITS : ℕ) (root : Node) (P : Pools) (limit : ℕ) (v : Values) (es : List (Entry Z)) (first : ℕ) : Type 0 where
  pub within : limit < BITS
  pub room : 1 ≤ limit
  pub values : AreValues P v
  pub count : length es ≡ length (sites_of P root)
  pub last : first + 1 ≡ length es
  pub right : AreRight holds limit P v (sites_of P root) es
