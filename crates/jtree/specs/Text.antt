-- The compact JSON text of a tree: no white space, members by the bytes of their names, integers in decimal, other numbers as their
-- text, and in strings the short escapes, `\u00` with two lower-case digits for the other control characters, and all else as it is
-- (RFC 8259).
use Rattle.std.specs.Prelude.{ℕ, List, ◌∷◌, [], ◌++◌, Bool, true, false}
use Rattle.std.specs.Fmt.{signed_decimal}
use Rattle.json.specs.Json as json
use Rattle.json.specs.Print.{quoted, token_text}
use Rattle.json.specs.Token as token
use Rattle.serde_json.specs.Written.{comma_if}
use Rattle.jtree.specs.Data.{Data, null, boolean, integer, number, text, list, object, Items, no_items, item, Members, no_members, member}

-- the JSON document that a tree is
abbrev mutual
  pub outline : Data → json.Json
  outline null = json.null
  outline (boolean b) = json.boolean b
  outline (integer z) = json.number (signed_decimal z)
  outline (number s) = json.number s
  outline (text s) = json.string s
  outline (list ds) = json.array (items_outline ds)
  outline (object ms) = json.object (members_outline ms)

  pub items_outline : Items → json.Items
  items_outline no_items = json.no_items
  items_outline (item d ds) = json.item (outline d) (items_outline ds)

  pub members_outline : Members → json.Members
  members_outline no_members = json.no_members
  members_outline (member k d ms) = json.member k (outline d) (members_outline ms)

-- its text; that of items and of members, with the closing bracket, begins with a comma where others are before them
abbrev mutual
  pub compact : Data → List ℕ
  compact null = token_text token.null
  compact (boolean b) = token_text (token.boolean b)
  compact (integer z) = signed_decimal z
  compact (number s) = s
  compact (text s) = quoted s
  compact (list ds) = 91 ∷ items_text false ds
  compact (object ms) = 123 ∷ members_text false ms

  pub items_text : Bool → Items → List ℕ
  items_text later no_items = 93 ∷ []
  items_text later (item d ds) = comma_if later ++ (compact d ++ items_text true ds)

  pub members_text : Bool → Members → List ℕ
  members_text later no_members = 125 ∷ []
  members_text later (member k d ms) = comma_if later ++ (quoted k ++ 58 ∷ (compact d ++ members_text true ms))
