-- What a keyword of a schema says: nothing where it is absent, or where its value has another JSON form
-- (OpenAPI 3.0, Schema Object).
use Rattle.std.specs.Prelude.{ℕ, ℤ, pos, List, [], ◌∷◌, Bool, true, false, Option, Some, None, option_and_then, not, ◌&&◌, ◌||◌}
use Rattle.std.specs.Option.{is_some}
use Rattle.jtree.specs.Data.{Data, boolean, integer, text, list, object, Items, no_items, item, Members, no_members, member}
use Rattle.jtree.specs.Path.{under}
use Rattle.schema.specs.Document.Texts.{is_among}

abbrev pub text_of : Data → Option (List ℕ)
text_of (text s) = Some s
text_of _ = None

abbrev pub integer_of : Data → Option ℤ
integer_of (integer z) = Some z
integer_of _ = None

-- an integer, 0 or more
abbrev pub count_of : Data → Option ℕ
count_of (integer (pos n)) = Some n
count_of _ = None

abbrev pub items_of : Data → Option Items
items_of (list ds) = Some ds
items_of _ = None

abbrev pub is_true : Option Data → Bool
is_true (Some (boolean b)) = b
is_true _ = false

abbrev pub is_false : Option Data → Bool
is_false (Some (boolean b)) = not b
is_false _ = false

abbrev pub members_in : Option Data → Members
members_in (Some (object ms)) = ms
members_in _ = no_members

abbrev pub items_in : Option Data → Items
items_in (Some (list ds)) = ds
items_in _ = no_items

-- the strings of a list
abbrev pub texts_of : Items → List (List ℕ)
texts_of no_items = []
texts_of (item (text s) ds) = s ∷ texts_of ds
texts_of (item _ ds) = texts_of ds

abbrev pub flag : Data → List ℕ → Bool
flag s k = is_true (under s k)

abbrev pub text_under : Data → List ℕ → Option (List ℕ)
text_under s k = option_and_then text_of (under s k)

abbrev pub integer_under : Data → List ℕ → Option ℤ
integer_under s k = option_and_then integer_of (under s k)

abbrev pub count_under : Data → List ℕ → Option ℕ
count_under s k = option_and_then count_of (under s k)

abbrev pub list_under : Data → List ℕ → Option Items
list_under s k = option_and_then items_of (under s k)

abbrev pub items_under : Data → List ℕ → Items
items_under s k = items_in (under s k)

abbrev pub members_under : Data → List ℕ → Members
members_under s k = members_in (under s k)

abbrev pub texts_under : Data → List ℕ → List (List ℕ)
texts_under s k = texts_of (items_under s k)

-- the keyword is there, whatever its value
abbrev pub has : Data → List ℕ → Bool
has s k = is_some (under s k)

abbrev pub is_text_among : List (List ℕ) → Option Data → Bool
is_text_among values (Some (text t)) = is_among t values
is_text_among values _ = false

-- the keyword is there, and is one of these strings
abbrev pub has_text_among : List (List ℕ) → Data → List ℕ → Bool
has_text_among values s k = is_text_among values (under s k)

-- the keyword is there, and is none of them
abbrev pub has_other_text : List (List ℕ) → Data → List ℕ → Bool
has_other_text values s k = has s k && not (has_text_among values s k)

-- a member has a name that passes a test
abbrev pub has_name : (List ℕ → Bool) → Members → Bool
has_name test no_members = false
has_name test (member k d ms) = test k || has_name test ms

-- a keyword is there that passes a test
abbrev pub has_keyword : (List ℕ → Bool) → Data → Bool
has_keyword test s = has_name test (members_in (Some s))

-- some item passes a test
abbrev pub any_item : (Data → Bool) → Items → Bool
any_item test no_items = false
any_item test (item d ds) = test d || any_item test ds

abbrev pub is_empty : Items → Bool
is_empty no_items = true
is_empty _ = false

-- some of these tests holds
abbrev pub one_holds : List Bool → Bool
one_holds [] = false
one_holds (b ∷ []) = b
one_holds (b ∷ c ∷ bs) = b || one_holds (c ∷ bs)
