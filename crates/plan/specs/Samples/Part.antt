-- What samples are made of: the parts of a site, and the samples of a schema (this project's own).
use Rattle.std.specs.Prelude.{ℕ, ◌≤◌}
use Rattle.jtree.specs.Data.{Data, IsTree}
use Rattle.jtree.specs.Nodes.{nodes}
use Rattle.schema.specs.Nodes.Node.{Node}
use Rattle.stored.specs.Objects.Becomes.{IsStored}
use Rattle.plan.specs.Pools.Pools.{Pools}
use Rattle.plan.specs.Samples.Site.{Site, root_site}
use Rattle.plan.specs.Samples.Over.{IsOver}

-- a tree that is stored at the site's node, and over the pools at its path
pub record IsPart (P : Pools) (s : Site) (v : Data) : Type 0 where
  pub tree : IsTree v
  pub stored : IsStored s.node v
  pub over : IsOver P s.fixed s.path s.node v

-- a part of the root with at most as many nodes as the limit
pub record IsSample (root : Node) (P : Pools) (limit : ℕ) (v : Data) : Type 0 where
  pub part : IsPart P (root_site root) v
  pub within : nodes v ≤ limit
