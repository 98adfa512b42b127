-- What values of the code represent.
use Rattle.std.specs.Prelude.{ℕ, List, Option, map, option_map}
use Rattle.std.specs.Borrow.{Bor}
use Rattle.jtree.specs.Data.{Data}
use Rattle.jtree.specs.View.{data_of}
use Rattle.jtree.specs.declared.value.Tree.{Tree}
use Rattle.suggest.specs.Suggested.Wanted.{Wanted}
use Rattle.suggest.specs.declared.wanted.Wanted.{Wanted as CodeWanted}

abbrev pub trees_of : List Tree → List Data
trees_of ts = map (λ t. data_of t) ts

-- the values to which references point
abbrev pub trees_at : List (Bor Tree) → List Data
trees_at ts = map (λ t. data_of t.now) ts

abbrev pub tree_at : Option (Bor Tree) → Option Data
tree_at t = option_map (λ t. data_of t.now) t

abbrev pub texts_at : List (Bor (List ℕ)) → List (List ℕ)
texts_at ts = map (λ t. t.now) ts

abbrev pub wanted_of : CodeWanted → Wanted
wanted_of w = record { objects = trees_of w.objects.now; varied = texts_at w.varied.now; without = texts_at w.without.now }
