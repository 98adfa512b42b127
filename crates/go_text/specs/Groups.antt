-- What an opening parenthesis begins. Go's documentation of regexp/syntax: "Grouping", with "Flags".
use Rattle.std.specs.Prelude.{ℕ, ◌&&◌, ◌||◌, Bool, [], ◌∷◌, ◌++◌, length, nat_lt, Option, Some, None, if◌then◌else◌, codes}
use Rattle.std.specs.List.{list_all}
use Rattle.std.specs.Char.{is_ascii_alphanumeric}
use Rattle.go_text.specs.Texts.{Text, Reading, ◌∈◌, with_first, cut}

abbrev pub is_flag : ℕ → Bool
is_flag c = c ∈ "imsU-"

-- the characters at the front that are flags, and the text after them
abbrev pub split_flags : Text → Text × Text
split_flags [] = ([], [])
split_flags (c ∷ t) = if is_flag c then with_first c (split_flags t) else ([], c ∷ t)

-- after the flags: a group with them, or the flags alone
abbrev pub after_flags : Text → Text → Reading
after_flags flags [] = None
after_flags flags (c ∷ t) =
    if c ∈ ":" then Some (codes "(?" ++ flags ++ codes ":", t)
    else if c ∈ ")" then Some (codes "(?" ++ flags ++ codes ")", t)
    else None

abbrev pub flag_group : Text × Text → Reading
flag_group x = after_flags x.0 x.1

abbrev pub is_of_names : ℕ → Bool
is_of_names c = is_ascii_alphanumeric c || c ∈ "_"

abbrev pub are_of_names : Text → Bool
are_of_names t = list_all is_of_names t

abbrev pub is_name : Text → Bool
is_name t = nat_lt 0 (length t) && are_of_names t

-- Names say nothing of what is matched, and Go takes one twice: they are left out.
abbrev pub named_group : Option (Text × Text) → Reading
named_group None = None
named_group (Some (name, t)) = if is_name name then Some (codes "(", t) else None

abbrev pub after_angle : Text → Reading
after_angle [] = None
after_angle (c ∷ t) = if c ∈ "<" then named_group (cut (codes ">") t) else None

-- after `(?`: a name as in `(?P<name>` or `(?<name>`, or flags
abbrev pub special_group : Text → Reading
special_group [] = None
special_group (c ∷ t) =
    if c ∈ "P" then after_angle t
    else if c ∈ "<" then after_angle (c ∷ t)
    else flag_group (split_flags (c ∷ t))

-- after the parenthesis
abbrev pub group : Text → Reading
group [] = Some (codes "(", [])
group (c ∷ t) = if c ∈ "?" then special_group t else Some (codes "(", c ∷ t)
