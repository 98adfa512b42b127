-- Values without what stands at the paths that never occur: members of declared fields, items of lists and values of maps whose path is one
-- of these. What is not declared stays, and so does all else (this project's own).
use Rattle.std.specs.Prelude.{ℕ, List, [], Option, Some, None, if◌then◌else◌, map, option_map}
use Rattle.jtree.specs.Data.{Data, Items, no_items, item, Members, no_members, member}
use Rattle.jtree.specs.Data as tree
use Rattle.schema.specs.Document.Texts.{is_among}
use Rattle.schema.specs.Nodes.Node.{Node, node, object, list, Fields}
use Rattle.schema.specs.Nodes.Node as nodes
use Rattle.schema.specs.Nodes.ByPlace.{field_at}
use Rattle.explain.specs.Paths.FieldPath as step
use Rattle.plan.specs.Samples.Site.{below}
use Rattle.suggest.specs.Suggested.Wanted.{Wanted}

-- the node of a part, and the text of its path
pub record Place : Type 0 where
  pub path : List ℕ
  pub node : Node

-- of a member of an object, where its name is declared
abbrev pub place_of_field : List ℕ → Fields → List ℕ → Option Place
place_of_field path fs k = option_map (λ f. record { path = below path (step.field k); node = f.node }) (field_at k fs)

-- of each value of a map, and of each item of a list
abbrev pub place_of_value : List ℕ → Node → Place
place_of_value path N = record { path = below path step.value; node = N }

abbrev pub place_of_item : List ℕ → Node → Place
place_of_item path N = record { path = below path step.item; node = N }

-- what is left of the value d where it has this place, and `rest` gives what is left below it
abbrev pub left_at : List (List ℕ) → Option Place → (Place → Data) → Data → Option Data
left_at ts None rest d = Some d
left_at ts (Some P) rest d = if is_among P.path ts then None else Some (rest P)

abbrev pub left_member : List ℕ → Option Data → Members → Members
left_member k None ms = ms
left_member k (Some d) ms = member k d ms

abbrev pub left_item : Option Data → Items → Items
left_item None ds = ds
left_item (Some d) ds = item d ds

-- ts are the texts of the paths that never occur, and `path` is that of the node
abbrev mutual
  pub taken_out : List (List ℕ) → List ℕ → Node → Data → Data
  taken_out ts path (node nullable description (object fs preserves type bounds cs)) (tree.object ms) = tree.object (members_left ts (place_of_field path fs) ms)
  taken_out ts path (node nullable description (nodes.map N type bounds)) (tree.object ms) = tree.object (members_left ts (λ k. Some (place_of_value path N)) ms)
  taken_out ts path (node nullable description (list N type keys bounds)) (tree.list ds) = tree.list (items_left ts (place_of_item path N) ds)
  taken_out ts path N v = v

  -- each member by the place of its name
  pub members_left : List (List ℕ) → (List ℕ → Option Place) → Members → Members
  members_left ts places no_members = no_members
  members_left ts places (member k d ms) = left_member k (left_at ts (places k) (λ P. taken_out ts P.path P.node d) d) (members_left ts places ms)

  pub items_left : List (List ℕ) → Place → Items → Items
  items_left ts P no_items = no_items
  items_left ts P (item d ds) = left_item (left_at ts (Some P) (λ P. taken_out ts P.path P.node d) d) (items_left ts P ds)

-- what pools are asked for, with the objects without these paths
abbrev pub without_paths : Node → Wanted → Wanted
without_paths root w = record w { objects = map (λ v. taken_out w.without [] root v) w.objects }
