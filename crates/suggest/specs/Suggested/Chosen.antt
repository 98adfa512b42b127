-- Values and names in the order in which they come, each once, and no more than so many (this project's own).
use Rattle.std.specs.Prelude.{ℕ, List, [], ◌∷◌, ◌++◌, length, if◌then◌else◌, ◌&&◌, not, nat_lt}
use Rattle.std.specs.List.{fold}
use Rattle.jtree.specs.Data.{Data}
use Rattle.schema.specs.Document.Texts.{is_among}
use Rattle.plan.specs.Samples.Over.{is_in}

-- v after the values, unless it is one of them or there are so many
abbrev pub with_value : ℕ → List Data → Data → List Data
with_value most vs v = if nat_lt (length vs) most && not (is_in v vs) then vs ++ v ∷ [] else vs

abbrev pub chosen_values : ℕ → List Data → List Data
chosen_values most vs = fold (with_value most) [] vs

abbrev pub with_name : ℕ → List (List ℕ) → List ℕ → List (List ℕ)
with_name most ks k = if nat_lt (length ks) most && not (is_among k ks) then ks ++ k ∷ [] else ks

abbrev pub chosen_names : ℕ → List (List ℕ) → List (List ℕ)
chosen_names most ks = fold (with_name most) [] ks
