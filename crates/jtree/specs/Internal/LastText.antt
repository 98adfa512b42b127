-- The way to the last node of a tree, and what precedes and follows its text in the compact text of the tree.
use Rattle.std.specs.Prelude.{◌-◌, ◌^◌, ℕ, List, [], ◌∷◌, ◌++◌, length, min, Bool, true, false, Option, Some, None}
use Rattle.json.specs.Print.{quoted}
use Rattle.serde_json.specs.Written.{comma_if}
use Rattle.jtree.specs.Data.{Data, list, object, Items, no_items, item, Members, no_members, member}
use Rattle.jtree.specs.Text.{compact}

-- one step of the way: the last item
abbrev pub last_item : Items → Option Data
last_item no_items = None
last_item (item d no_items) = Some d
last_item (item d ds) = last_item ds

-- or the last member
abbrev pub last_member : Members → Option Data
last_member no_members = None
last_member (member k d no_members) = Some d
last_member (member k d ms) = last_member ms

abbrev pub last_part : Data → Option Data
last_part (list ds) = last_item ds
last_part (object ms) = last_member ms
last_part d = None

abbrev mutual
  pub text_before : Data → List ℕ
  text_before (list no_items) = []
  text_before (list ds) = 91 ∷ items_before false ds
  text_before (object no_members) = []
  text_before (object ms) = 123 ∷ members_before false ms
  text_before d = []

  pub items_before : Bool → Items → List ℕ
  items_before later no_items = []
  items_before later (item d no_items) = comma_if later ++ text_before d
  items_before later (item d ds) = comma_if later ++ (compact d ++ items_before true ds)

  pub members_before : Bool → Members → List ℕ
  members_before later no_members = []
  members_before later (member k d no_members) = comma_if later ++ (quoted k ++ 58 ∷ text_before d)
  members_before later (member k d ms) = comma_if later ++ (quoted k ++ 58 ∷ (compact d ++ members_before true ms))

-- one closing bracket for each list and object around the last node
abbrev mutual
  pub text_after : Data → List ℕ
  text_after (list ds) = items_after ds
  text_after (object ms) = members_after ms
  text_after d = []

  pub items_after : Items → List ℕ
  items_after no_items = []
  items_after (item d no_items) = text_after d ++ 93 ∷ []
  items_after (item d ds) = items_after ds

  pub members_after : Members → List ℕ
  members_after no_members = []
  members_after (member k d no_members) = text_after d ++ 125 ∷ []
  members_after (member k d ms) = members_after ms

-- how many bytes these are, at most 2^64 - 1
abbrev pub count : List ℕ → ℕ
count rest = min (length rest) (2 ^ 64 - 1)
