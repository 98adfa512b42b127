-- Why no pools document is suggested: a path that cannot be varied or left out, an object that has nothing to vary there, or pools that
-- would be too large to be read (this project's own).
use Rattle.std.specs.Prelude.{◌≡◌, ◌⊎◌, ℕ, List, [], ◌∷◌, ◌++◌, All, string_bytes}
use Rattle.jtree.specs.Data.{Data}
use Rattle.schema.specs.Nodes.Node.{Node}
use Rattle.plan.specs.declared.pool_limits.PoolLimits.{PoolLimits}
use Rattle.plan.specs.Pools.FixedPaths.{IsFixablePath}
use Rattle.suggest.specs.Suggested.Document.{CanBeRead, single, suggested_document}
use Rattle.suggest.specs.Suggested.Varied.{reach}
use Rattle.suggest.specs.Suggested.Wanted.{Wanted}
use Rattle.suggest.specs.Suggested.Without.{without_paths}
use Rattle.suggest.specs.declared.fault.SuggestFault.{SuggestFault}
use Rattle.suggest.specs.declared.fault.SuggestFault.TheVariants.{BadPath, NotInObject, TooLarge, NoMemory}
use Rattle.suggest.specs.declared.varying.Reach.TheVariants.{Undeclared, Missing, There}

-- the object can be varied at the path of the text
abbrev pub CanVary : Node → Wanted → List ℕ → Type 0
CanVary root w text = reach text (single w.objects) [] root ≡ There

-- the first text that has the fault, where none before it has one
pub record IsFirst (Good Faulty : List ℕ → Type 0) (texts : List (List ℕ)) (text : List ℕ) : Type 0 where
  pub before : List (List ℕ)
  pub rest : List (List ℕ)
  pub is : texts ≡ before ++ text ∷ rest
  pub good : All Good before
  pub faulty : Faulty text

-- the varied paths are judged first, one after the other
abbrev pub AreVaried : Node → Wanted → Type 0
AreVaried root w = All (CanVary root w) w.varied

abbrev pub AreFixable : Node → Wanted → Type 0
AreFixable root w = All (IsFixablePath root) w.without

-- paths are varied in the object without those that never occur
abbrev pub IsSuggestFault : PoolLimits → Data → Node → Wanted → SuggestFault → Type 0
IsSuggestFault limits raw root w (BadPath text) =
    IsFirst (CanVary root (without_paths root w)) (λ t. reach t (single (without_paths root w).objects) [] root ≡ Undeclared) w.varied (string_bytes text)
    ⊎ (AreVaried root (without_paths root w) × IsFirst (IsFixablePath root) (λ t. IsFixablePath root t → ⊥) w.without (string_bytes text))
IsSuggestFault limits raw root w (NotInObject text) =
    IsFirst (CanVary root (without_paths root w)) (λ t. reach t (single (without_paths root w).objects) [] root ≡ Missing) w.varied (string_bytes text)
IsSuggestFault limits raw root w TooLarge = AreVaried root (without_paths root w) × AreFixable root w
    × (CanBeRead limits (suggested_document limits raw root w) → ⊥)
IsSuggestFault limits raw root w NoMemory = Unit {0}
