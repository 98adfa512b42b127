-- The question that a plan answers: a schema's root, pools and a node limit (this project's own).
use Rattle.std.specs.Prelude.{ℕ, refl}
use Rattle.std.specs.Coded.{Coded, code_by, coded×, coded_ℕ}
use Rattle.schema.specs.Nodes.Node.{Node}
use Rattle.schema.specs.Internal.NodeCode.{node_coded}
use Rattle.plan.specs.Pools.Pools.{Pools}
use Rattle.plan.specs.Internal.PoolsCode.{pools_coded}

pub record Question : Type 0 where
  pub root : Node
  pub pools : Pools
  pub limit : ℕ

abbrev pub question_coded : Coded Question
question_coded = code_by (Node × (Pools × ℕ)) (coded× node_coded (coded× pools_coded coded_ℕ)) (λ q. (q.root, (q.pools, q.limit))) (λ p. record { root = p.0; pools = p.1.0; limit = p.1.1 }) (λ _. refl)
