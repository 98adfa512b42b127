-- The faults of varied paths alone, and those of paths that never occur alone.
use Rattle.std.specs.Prelude.{◌≡◌, [], string_bytes}
use Rattle.schema.specs.Nodes.Node.{Node}
use Rattle.plan.specs.Pools.FixedPaths.{IsFixablePath}
use Rattle.suggest.specs.Suggested.Fault.{CanVary, IsFirst}
use Rattle.suggest.specs.Suggested.Document.{single}
use Rattle.suggest.specs.Suggested.Varied.{reach}
use Rattle.suggest.specs.Suggested.Wanted.{Wanted}
use Rattle.suggest.specs.declared.fault.SuggestFault.{SuggestFault}
use Rattle.suggest.specs.declared.fault.SuggestFault.TheVariants.{BadPath, NotInObject, TooLarge, NoMemory}
use Rattle.suggest.specs.declared.varying.Reach.TheVariants.{Undeclared, Missing}

abbrev pub IsVariedFault : Node → Wanted → SuggestFault → Type 0
IsVariedFault root w (BadPath text) = IsFirst (CanVary root w) (λ t. reach t (single w.objects) [] root ≡ Undeclared) w.varied (string_bytes text)
IsVariedFault root w (NotInObject text) = IsFirst (CanVary root w) (λ t. reach t (single w.objects) [] root ≡ Missing) w.varied (string_bytes text)
IsVariedFault root w NoMemory = Unit {0}
IsVariedFault root w TooLarge = ⊥

abbrev pub IsWithoutFault : Node → Wanted → SuggestFault → Type 0
IsWithoutFault root w (BadPath text) = IsFirst (IsFixablePath root) (λ t. IsFixablePath root t → ⊥) w.without (string_bytes text)
IsWithoutFault root w NoMemory = Unit {0}
IsWithoutFault root w _ = ⊥
