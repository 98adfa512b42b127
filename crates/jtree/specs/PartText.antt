-- The compact text of a tree before a part and from that part on: the part that a number of steps, each to the last item
-- or member, lead to.
use Rattle.std.specs.Prelude.{ℕ, zero, suc, List, [], ◌∷◌, ◌++◌, Bool, true, false}
use Rattle.json.specs.Print.{quoted}
use Rattle.serde_json.specs.Written.{comma_if}
use Rattle.jtree.specs.Data.{Data, list, object, Items, no_items, item, Members, no_members, member}
use Rattle.jtree.specs.Text.{compact}

-- where there is no such part, to the end of the last node
abbrev mutual
  pub front_text : ℕ → Data → List ℕ
  front_text zero d = []
  front_text (suc n) (list (item d ds)) = 91 ∷ items_front n false (item d ds)
  front_text (suc n) (object (member k d ms)) = 123 ∷ members_front n false (member k d ms)
  front_text (suc n) d = compact d

  pub items_front : ℕ → Bool → Items → List ℕ
  items_front n later no_items = []
  items_front n later (item d no_items) = comma_if later ++ front_text n d
  items_front n later (item d ds) = comma_if later ++ (compact d ++ items_front n true ds)

  pub members_front : ℕ → Bool → Members → List ℕ
  members_front n later no_members = []
  members_front n later (member k d no_members) = comma_if later ++ (quoted k ++ 58 ∷ front_text n d)
  members_front n later (member k d ms) = comma_if later ++ (quoted k ++ 58 ∷ (compact d ++ members_front n true ms))

abbrev mutual
  pub part_text : ℕ → Data → List ℕ
  part_text zero d = compact d
  part_text (suc n) (list ds) = items_part n ds
  part_text (suc n) (object ms) = members_part n ms
  part_text (suc n) d = []

  pub items_part : ℕ → Items → List ℕ
  items_part n no_items = []
  items_part n (item d no_items) = part_text n d ++ 93 ∷ []
  items_part n (item d ds) = items_part n ds

  pub members_part : ℕ → Members → List ℕ
  members_part n no_members = []
  members_part n (member k d no_members) = part_text n d ++ 125 ∷ []
  members_part n (member k d ms) = members_part n ms
