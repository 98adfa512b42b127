-- The tokens of a pointer (RFC 6901): `/` and the name, where `~` is written `~0` and `/` is written `~1`; indexes in decimal.
use Rattle.std.specs.Prelude.{ℕ, List, [], ◌∷◌, ◌==◌, if◌then◌else◌, flat_map, decimal}
use Rattle.jtree.specs.Path.{Step, name, index, Path}

abbrev pub escaped : ℕ → List ℕ
escaped b = if b == 126 then 126 ∷ 48 ∷ [] else (if b == 47 then 126 ∷ 49 ∷ [] else b ∷ [])

abbrev pub name_token : List ℕ → List ℕ
name_token k = 47 ∷ flat_map escaped k

abbrev pub index_token : ℕ → List ℕ
index_token i = 47 ∷ decimal i

abbrev pub token : Step → List ℕ
token (name k) = name_token k
token (index i) = index_token i

-- the pointer of a path
abbrev pub pointer : Path → List ℕ
pointer path = flat_map token path
