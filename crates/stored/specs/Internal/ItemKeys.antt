-- For private contracts: what distinguishes the items of a list, and the order by it, in which items that ascend are apart.
use Rattle.std.specs.Prelude.{◌≡◌, ◌<◌, ℕ, List, [], ◌∷◌, Bool, true, false, Option, Some, None, option_map, map, length, ◌&&◌}
use Rattle.std.proofs.Common.{get_or}
use Rattle.std.specs.BTreeSet.{BTreeSet, contains}
use Rattle.std.specs.Cmp.Lexicographic.{slice_cmp}
use Rattle.std.specs.Option.{option_cmp}
use Rattle.std.specs.Ordering.{is_eq, is_lt, on}
use Rattle.std.specs.Global.{Vec}
use Rattle.std.specs.declared.cmp.Ordering.{Ordering}
use Rattle.jtree.specs.Data.{Data, Items, no_items, item, Members}
use Rattle.jtree.specs.Data as tree
use Rattle.jtree.specs.Equality.{keyed, keyed_cmp}
use Rattle.jtree.specs.Path.{member_at, item_at}
use Rattle.jtree.specs.declared.equality.Equality.{Equality}
use Rattle.jtree.specs.declared.equality.TreeKey.{TreeKey}
use Rattle.schema.specs.declared.node.ListType.{ListType}
use Rattle.schema.specs.declared.node.ListType.TheVariants.{Atomic, Set, Map}
use Rattle.stored.specs.Objects.Fault.{are_alike, any_before, has_alike_before}

-- in a set the item itself, in a map list the values of an object under the keys, each with what it is compared by
abbrev pub ItemKey : Type 0
ItemKey = List (Option (Equality × Data))

abbrev pub value_at : Equality → Members → List ℕ → Option (Equality × Data)
value_at e ms k = option_map (λ d. (e, d)) (member_at k ms)

abbrev pub item_key : ListType → List (List ℕ) → Data → Option ItemKey
item_key (Set e) keys v = Some (Some (e, v) ∷ [])
item_key (Map e) keys (tree.object ms) = Some (map (value_at e ms) keys)
item_key _ _ _ = None

-- the values one after the other, one that is absent before all others
abbrev pub values_cmp : ItemKey → ItemKey → Ordering
values_cmp k l = slice_cmp (option_cmp keyed_cmp) k l

-- an item without a key comes first
abbrev pub item_cmp : ListType → List (List ℕ) → Data → Data → Ordering
item_cmp type keys v w = option_cmp values_cmp (item_key type keys v) (item_key type keys w)

abbrev pub has_key : Option ItemKey → ItemKey → Bool
has_key None k = false
has_key (Some l) k = is_eq (values_cmp l k)

-- the key of an item, if it has one, passes a test
abbrev pub passes : (ItemKey → Bool) → Option ItemKey → Bool
passes test None = false
passes test (Some k) = test k

-- ---- items that ascend

abbrev pub is_before_first : (Data → Data → Ordering) → Data → Items → Bool
is_before_first cmp d no_items = true
is_before_first cmp d (item e es) = is_lt (cmp d e)

-- each item comes before the next one
abbrev pub ascend : (Data → Data → Ordering) → Items → Bool
ascend cmp no_items = true
ascend cmp (item d ds) = is_before_first cmp d ds && ascend cmp ds

-- one pass shows that no item repeats another
abbrev pub are_ordered : ListType → List (List ℕ) → Items → Bool
are_ordered Atomic keys ds = true
are_ordered type keys ds = ascend (item_cmp type keys) ds

-- ---- in the code

abbrev pub CodeKey : Type 0
CodeKey = Vec (Option TreeKey)

abbrev pub key_of : CodeKey → ItemKey
key_of k = map (option_map keyed) k.items

abbrev pub key_cmp : CodeKey → CodeKey → Ordering
key_cmp k l = slice_cmp (option_cmp (on keyed keyed_cmp)) k.items l.items

-- the set has the keys that pass the test
abbrev pub HasKeys : BTreeSet CodeKey → (ItemKey → Bool) → Type 0
HasKeys seen test = (k : CodeKey) → contains key_cmp seen k ≡ test (key_of k)

-- of the items so far it is known whether they repeat another, and the set has their keys
pub record AreSeen (type : ListType) (keys : List (List ℕ)) (ds : Items) (i : ℕ) (repeated : List Bool) (seen : BTreeSet CodeKey) : Type 0 where
  pub count : length repeated ≡ i
  pub each : (j : ℕ) (b : Bool) → j < i → get_or repeated j b ≡ has_alike_before (are_alike type keys) j ds (item_at j ds)
  pub held : HasKeys seen (λ k. any_before (λ e. has_key (item_key type keys e) k) i ds)
