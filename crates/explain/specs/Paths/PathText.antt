-- The text of a path: each step after a `/`, a name with `~`, `/`, `[` and `{` written `~0`, `~1`, `~2` and `~3`, `[]` for the items
-- of a list and `{}` for the values of a map (this project's own, after RFC 6901).
use Rattle.std.specs.Prelude.{ℕ, List, [], ◌∷◌, ◌==◌, if◌then◌else◌, flat_map, codes}
use Rattle.explain.specs.Paths.FieldPath.{FieldStep, field, item, value, FieldPath}

abbrev pub escaped : ℕ → List ℕ
escaped b =
    if b == 126 then codes "~0" else (if b == 47 then codes "~1" else (if b == 91 then codes "~2" else (if b == 123 then codes "~3" else b ∷ [])))

abbrev pub step_text : FieldStep → List ℕ
step_text (field k) = 47 ∷ flat_map escaped k
step_text item = codes "/[]"
step_text value = codes "/{}"

abbrev pub path_text : FieldPath → List ℕ
path_text p = flat_map step_text p
