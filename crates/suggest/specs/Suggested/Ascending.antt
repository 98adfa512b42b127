-- The elements of a list in ascending order, each once (this project's own): by insertion, where the code sorts and drops repeats.
use Rattle.std.specs.Prelude.{List, [], ◌∷◌}
use Rattle.std.specs.declared.cmp.Ordering.{Ordering}
use Rattle.std.specs.declared.cmp.Ordering.TheVariants.{Less, Equal, Greater}

-- x put into the list y ∷ ys, by how it compares with y; `rest` is ys with x put into it
abbrev pub placed : {X : Type 0} → Ordering → X → X → List X → List X → List X
placed Less x y ys rest = x ∷ y ∷ ys
placed Equal x y ys rest = y ∷ ys
placed Greater x y ys rest = y ∷ rest

-- an ascending list with x in its place, unless it is there already
abbrev pub with_element : {X : Type 0} → (X → X → Ordering) → X → List X → List X
with_element cmp x [] = x ∷ []
with_element cmp x (y ∷ ys) = placed (cmp x y) x y ys (with_element cmp x ys)

abbrev pub ascending : {X : Type 0} → (X → X → Ordering) → List X → List X
ascending cmp [] = []
ascending cmp (x ∷ xs) = with_element cmp x (ascending cmp xs)
