-- Texts as lists of characters, and the words in which their reading is told. This project's own.
use Rattle.std.specs.Prelude.{ℕ, Bool, false, ◌||◌, ◌==◌, nat_eq, List, [], ◌∷◌, length, drop, Option, Some, None, option_map, if◌then◌else◌, codes}
use Rattle.std.specs.List.{starts_with}
use lib.Pointwise.{pointwise}
use Prim.Native.String.{String}

abbrev pub Text : Type 0
Text = List ℕ

-- What is written for the construct at the front of a text, and the text after it. `None` where it is refused.
abbrev pub Reading : Type 0
Reading = Option (Text × Text)

abbrev pub is_among : ℕ → Text → Bool
is_among c [] = false
is_among c (d ∷ ds) = c == d || is_among c ds

-- the character is one of these
infix 60 ◌∈◌
abbrev pub ◌∈◌ : ℕ → String → Bool
c ∈ s = is_among c (codes s)

-- the text is this word
abbrev pub spells : String → Text → Bool
spells s t = pointwise nat_eq t (codes s)

abbrev pub with_first : ℕ → Text × Text → Text × Text
with_first c x = (c ∷ x.0, x.1)

-- what stands before the first place where the mark stands, and what stands after the mark
abbrev pub cut : Text → Text → Option (Text × Text)
cut mark [] = None
cut mark (c ∷ t) =
    if starts_with nat_eq (c ∷ t) mark then Some ([], drop (length mark) (c ∷ t)) else option_map (with_first c) (cut mark t)
