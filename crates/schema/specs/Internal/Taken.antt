-- For private contracts: what a loop takes of its candidates, one by one, and adds to a list.
use Rattle.std.specs.Prelude.{◌≡◌, ◌⊎◌, List, [], ◌∷◌, ◌++◌}
use Rattle.jtree.specs.Data.{Data}

-- the candidates that pass, in their order, each as what it is reported as
abbrev pub Taken : {X Y : Type 0} → (X → Type 0) → (X → Y → Type 0) → List X → List Y → Type 0
Taken Passes Reports [] ys = ys ≡ []
Taken {X} {Y} Passes Reports (x ∷ xs) ys =
    ((y : Y) × (zs : List Y) × (ys ≡ y ∷ zs) × Passes x × Reports x y × Taken Passes Reports xs zs)
    ⊎ ((Passes x → ⊥) × Taken Passes Reports xs ys)

-- after the old elements the new ones report the candidates that pass, in any schema of which this is known
pub record Adds {X Y : Type 0} (Known : Data → Type 0) (Passes : Data → X → Type 0) (Reports : Data → X → Y → Type 0) (candidates : List X) (old new : List Y) : Type 0 where
  pub more : List Y
  pub grown : new ≡ old ++ more
  pub are : (raw : Data) → Known raw → Taken (Passes raw) (Reports raw) candidates more
