-- What defaulting makes of the parts of a value, as a walk over them fills it.
use Rattle.std.specs.Prelude.{◌≡◌, ℕ, List, ◌++◌, Option, Some, None, option_map, IfSome, MatchOption}
use Rattle.std.specs.List.{All}
use Rattle.std.specs.Option.{option_to_list}
use Rattle.std.specs.declared.cmp.Ordering.TheVariants.{Less}
use Rattle.jtree.specs.Data.{Data, Items, no_items, item, Members, no_members, member, IsTree, AreTrees, AreMembers, IsNameBefore}
use Rattle.jtree.specs.Path.{member_at, item_at}
use Rattle.jtree.specs.Order.{text_cmp}
use Rattle.jtree.specs.View.{data_of, items_of, members_of}
use Rattle.jtree.specs.declared.value.Tree.{Tree}
use Rattle.jtree.specs.declared.value.Member.{Member}
use Rattle.schema.specs.declared.node.Field.{Field}
use Rattle.schema.specs.Nodes.View.{fields_of}
use Rattle.schema.specs.Nodes.Node.{Node, Fields, IsBeforeFields, AreOrdered}
use Rattle.schema.specs.Nodes.ByPlace.{field_at}
use Rattle.stored.specs.Objects.Parts.{Part, at}
use Rattle.stored.specs.Objects.Becomes.{leads_filled, filled_under, admitted}
use Rattle.stored.specs.Internal.Becoming.{PartBecomes}

-- ---- items

abbrev pub joined_items : Items → Items → Items
joined_items no_items es = es
joined_items (item d ds) es = item d (joined_items ds es)

pub record AreFilledItems (N : Node) (ds es : Items) : Type 0 where
  pub trees : AreTrees es
  pub each : (i : ℕ) → PartBecomes leads_filled (option_map (at N) (item_at i ds)) (item_at i es)

-- ---- members

abbrev pub joined : Members → Members → Members
joined no_members ns = ns
joined (member k d ms) ns = member k d (joined ms ns)

-- the members with this, or nothing, in front
abbrev pub in_front : List ℕ → Option Data → Members → Members
in_front k None ms = ms
in_front k (Some d) ms = member k d ms

-- under each name its part has become what is there, and the names are not before others than those that they were before
pub record AreFilled (parts : List ℕ → Option Part) (IsBefore : List ℕ → Type 0) (ns : Members) : Type 0 where
  pub sorted : AreMembers ns
  pub after : (k : List ℕ) → IsBefore k → IsNameBefore k ns
  pub each : (k : List ℕ) → PartBecomes leads_filled (parts k) (member_at k ns)

abbrev pub field_parts : Fields → Members → List ℕ → Option Part
field_parts fs ms k = filled_under (field_at k fs) (member_at k ms)

abbrev pub AreFilledFields : Fields → Members → Members → Type 0
AreFilledFields fs ms ns = AreFilled (field_parts fs ms) (λ k. IsBeforeFields k fs × IsNameBefore k ms) ns

abbrev pub value_parts : Node → Members → List ℕ → Option Part
value_parts N ms k = option_map (at N) (admitted N (member_at k ms))

abbrev pub AreFilledValues : Node → Members → Members → Type 0
AreFilledValues N ms ns = AreFilled (value_parts N ms) (λ k. IsNameBefore k ms) ns

-- ---- one member

abbrev pub tree_in : Option Member → Option Data
tree_in m = option_map (λ x. data_of x.tree) m

-- the member into which a part has been filled, if any
pub record IsFilledAt (k : List ℕ) (q : Option Part) (filled : Option Member) : Type 0 where
  pub becomes : PartBecomes leads_filled q (tree_in filled)
  pub member : IfSome filled (λ m. (m.name ≡ k) × IsTree (data_of m.tree))

-- The members before a name have been passed on, and that of the name is found.
pub record IsPassed (k : List ℕ) (before after : List Member) (passed_before passed_after : List Member) (found : Option Member) : Type 0 where
  pub passed : List Member
  pub are_before : All (λ m. text_cmp m.name k ≡ Less) passed
  pub out : passed_after ≡ passed_before ++ passed
  pub left : before ≡ passed ++ (option_to_list found ++ after)
  pub named : MatchOption found (IsNameBefore k (members_of after)) (λ m. m.name ≡ k)

-- ---- walks

-- Whatever the rest of the items is filled with, the whole is filled with that after what there is.
abbrev pub FillsItems : Node → Items → List Tree → List Tree → Type 0
FillsItems N ds rest filled = (es : Items) → AreFilledItems N (items_of rest) es → AreFilledItems N ds (joined_items (items_of filled) es)

-- and so for the values of a map
pub record FillsValues (N : Node) (ms : Members) (rest filled : List Member) : Type 0 where
  pub sorted : AreMembers (members_of rest)
  pub onward : (ns : Members) → AreFilledValues N (members_of rest) ns → AreFilledValues N ms (joined (members_of filled) ns)

-- and for declared fields
pub record FillsFields (fs : Fields) (ms : Members) (fields : List Field) (rest filled : List Member) : Type 0 where
  pub ordered : AreOrdered (fields_of fields)
  pub sorted : AreMembers (members_of rest)
  pub onward : (ns : Members) → AreFilledFields (fields_of fields) (members_of rest) ns → AreFilledFields fs ms (joined (members_of filled) ns)
