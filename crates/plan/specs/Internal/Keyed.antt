-- Items of which no two may be alike, each with a key that distinguishes it.
use Rattle.std.specs.Prelude.{◌≡◌, ◌≢◌, List, Bool, true}
use Rattle.jtree.specs.Data.{Data}
use Rattle.jtree.specs.Nodes.{node_count}
use Rattle.jtree.specs.Internal.Rising.{Among, Rising}
use Rattle.plan.specs.Pools.Pools.{Pools}
use Rattle.plan.specs.Samples.Sites.{Site}
use Rattle.plan.specs.Samples.Part.{IsPart}

-- no element occurs twice
abbrev pub IsApart : {X : Type 0} → List X → Type 0
IsApart xs = Rising (λ x y. x ≢ y) xs

pub record Keyed (P : Pools) (M : Site) (alike : Data → Data → Bool) : Type 0 where
  -- what no two items may share
  pub key : Data → List Data
  -- all there is of it, each once
  pub keys : List (List Data)
  pub apart : IsApart keys
  pub known : (v : Data) → IsPart P M v → Among keys (key v)
  -- a part with any key in place of its own, of as many nodes
  pub given : (v : Data) (k : List Data) → IsPart P M v → Among keys k → (w : Data) × (IsPart P M w × (key w ≡ k) × (node_count w ≡ node_count v))
  -- items are alike exactly where they share it
  pub alike_same_key : (v w : Data) → IsPart P M v → IsPart P M w → alike v w ≡ true → key v ≡ key w
  pub same_key_alike : (v w : Data) → IsPart P M v → IsPart P M w → key v ≡ key w → alike v w ≡ true
