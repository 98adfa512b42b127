-- A character that stands for itself: in the kit's syntax a sign of ASCII has a backslash before it, so that it is no operator, inside
-- brackets and outside; the kit reads `\<` and `\>` as bounds of a word, and `<` and `>` as themselves.
use Rattle.std.specs.Prelude.{ℕ, Bool, not, ◌&&◌, [], ◌∷◌, ◌++◌, if◌then◌else◌, codes}
use Rattle.std.specs.List.{flat_map}
use Rattle.std.specs.Char.{is_ascii, is_ascii_alphanumeric}
use Rattle.go_text.specs.Texts.{Text, ◌∈◌}

abbrev pub escaped : ℕ → Text
escaped c = codes "\\" ++ c ∷ []

abbrev pub is_sign : ℕ → Bool
is_sign c = is_ascii c && not (is_ascii_alphanumeric c) && not (c ∈ "<>")

abbrev pub literal : ℕ → Text
literal c = if is_sign c then escaped c else c ∷ []

-- what stands between `\Q` and `\E`
abbrev pub literals : Text → Text
literals t = flat_map literal t
