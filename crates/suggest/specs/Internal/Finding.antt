-- What is found step by step.
use Rattle.std.specs.Prelude.{ℤ, List, [], ◌∷◌, Option, Some, None}

abbrev pub none_or_one : Option ℤ → List ℤ
none_or_one None = []
none_or_one (Some z) = z ∷ []
