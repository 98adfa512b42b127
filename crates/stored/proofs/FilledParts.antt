-- What is filled part by part is filled by paths.
use Rattle.std.proofs.Common.{◌≡◌, ℕ, zero, suc, List, [], ◌∷◌, ◌++◌, Bool, false, Option, Some, None, refl, sym, ap, ◌∙◌, subst, inl, inr}
use Rattle.std.specs.Prelude.{option_map, IfSome}
use Rattle.std.specs.List.{All}
use Rattle.std.specs.Option.{option_to_list}
use Rattle.std.proofs.lemmas.List.Elements.{All-head, All-tail}
use Rattle.std.specs.Str.{bytes_eq}
use Rattle.std.specs.declared.cmp.Ordering.TheVariants.{Less}
use Rattle.std.proofs.lemmas.Cmp.{nat_list_cmp_total}
use Rattle.jtree.specs.Data.{Data, Items, no_items, item, Members, no_members, member, IsTree, AreTrees, AreMembers, IsNameBefore}
use Rattle.jtree.specs.Data as tree
use Rattle.jtree.specs.Path.{Step, name, index, member_at, item_at, part_by}
use Rattle.jtree.specs.Order.{text_cmp}
use Rattle.jtree.specs.View.{data_of, items_of, members_of}
use Rattle.jtree.specs.declared.value.Tree.{Tree}
use Rattle.jtree.specs.declared.value.Tree.TheVariants as code
use Rattle.jtree.specs.declared.value.Member.{Member}
use Rattle.jtree.specs.Internal.Lookups.{bool_cases, same_name, own_name, earlier_name, member_first, member_later, before_none, IsNameBefore-trans}
use Rattle.schema.specs.Nodes.Node.{Node, node, object, map, list, Fields, no_fields, field, IsBeforeFields, AreOrdered}
use Rattle.schema.specs.Nodes.ByPlace.{Declared, field_at}
use Rattle.schema.specs.Nodes.View.{sort_of}
use Rattle.schema.specs.declared.node.Sort.{Sort}
use Rattle.schema.specs.declared.node.Sort.TheVariants as sort
use Rattle.schema.specs.declared.node.ObjectNode.{ObjectNode}
use Rattle.schema.specs.declared.node.MapNode.{MapNode}
use Rattle.schema.specs.declared.node.ListNode.{ListNode}
use Rattle.stored.specs.Objects.Parts.{Part, pair, whole, at}
use Rattle.stored.specs.Objects.Becomes.{leads_filled, filled_under, IsFilled, admitted}
use Rattle.stored.specs.Internal.Becoming.{PartBecomes}
use Rattle.stored.specs.Internal.Defaulting.{joined_items, AreFilledItems, joined, in_front, AreFilled, field_parts, AreFilledFields, value_parts, AreFilledValues, tree_in}
use Rattle.stored.proofs.BecomingLemmas.{free_stays, by_steps}

-- ---- values without parts that have nodes

pub whole_filled : (N : Node) (v : Data) → pair N v ≡ whole → IsFilled N v v
whole_filled N v e = by_steps leads_filled N v v refl (λ s. rw (e, e) (free_stays leads_filled (part_by v s)))

pub whole_tree : (N : Node) (t : Tree) → ((ds : Items) → t ≡ code.List ds → ⊥) → ((ms : Members) → t ≡ code.Object ms → ⊥) → pair N (data_of t) ≡ whole
whole_tree (node n d (object fs preserves type bounds cs)) (code.Object ms) no_list no_object = absurd (no_object ms refl)
whole_tree (node n d (map N type bounds)) (code.Object ms) no_list no_object = absurd (no_object ms refl)
whole_tree (node n d (list N type keys bounds)) (code.List ds) no_list no_object = absurd (no_list ds refl)
whole_tree _ t no_list no_object = refl

pub whole_object : (n : Bool) (d : Option (List ℕ)) (S : Sort) (ms : Members) → ((o : ObjectNode) → S ≡ sort.Object o → ⊥) → ((m : MapNode) → S ≡ sort.Map m → ⊥) → pair (node n d (sort_of S)) (tree.object ms) ≡ whole
whole_object n d (sort.Object o) ms no_object no_map = absurd (no_object o refl)
whole_object n d (sort.Map m) ms no_object no_map = absurd (no_map m refl)
whole_object n d _ ms no_object no_map = refl

pub whole_list : (n : Bool) (d : Option (List ℕ)) (S : Sort) (ds : Items) → ((l : ListNode) → S ≡ sort.List l → ⊥) → pair (node n d (sort_of S)) (tree.list ds) ≡ whole
whole_list n d (sort.List l) ds no_list = absurd (no_list l refl)
whole_list n d _ ds no_list = refl

-- ---- lists

item_steps : (n : Bool) (d : Option (List ℕ)) (l : ListNode) (ds es : Items) → AreFilledItems l.item ds es
    → (s : Step) → PartBecomes leads_filled (leads_filled (node n d (sort_of (sort.List l))) (tree.list ds) s) (part_by (tree.list es) s)
item_steps n d l ds es f (name k) path = refl
item_steps n d l ds es f (index i) path = f.each i path

pub items_filled : (n : Bool) (d : Option (List ℕ)) (l : ListNode) (ds es : Items) → AreFilledItems l.item ds es → IsFilled (node n d (sort_of (sort.List l))) (tree.list ds) (tree.list es)
items_filled n d l ds es f = by_steps leads_filled (node n d (sort_of (sort.List l))) (tree.list ds) (tree.list es) refl (item_steps n d l ds es f)

-- one item more
item_each : (N : Node) (d e : Data) (ds es : Items) → IsFilled N d e → ((i : ℕ) → PartBecomes leads_filled (option_map (at N) (item_at i ds)) (item_at i es))
    → (i : ℕ) → PartBecomes leads_filled (option_map (at N) (item_at i (item d ds))) (item_at i (item e es))
item_each N d e ds es here rest zero = here
item_each N d e ds es here rest (suc i) = rest i

pub item_filled : (N : Node) (d e : Data) (ds es : Items) → IsTree e → IsFilled N d e → AreFilledItems N ds es → AreFilledItems N (item d ds) (item e es)
item_filled N d e ds es t here rest = record { trees = (t, rest.trees); each = item_each N d e ds es here rest.each }

-- ---- objects and maps

member_steps : (N : Node) (parts : List ℕ → Option Part) (ms ns : Members) → ((k : List ℕ) → leads_filled N (tree.object ms) (name k) ≡ parts k) → ((i : ℕ) → leads_filled N (tree.object ms) (index i) ≡ None)
    → ((k : List ℕ) → PartBecomes leads_filled (parts k) (member_at k ns)) → (s : Step) → PartBecomes leads_filled (leads_filled N (tree.object ms) s) (part_by (tree.object ns) s)
member_steps N parts ms ns named indexed each (name k) = subst (λ q. PartBecomes leads_filled q (member_at k ns)) (sym (named k)) (each k)
member_steps N parts ms ns named indexed each (index i) = subst (λ q. PartBecomes leads_filled q None) (sym (indexed i)) (λ path. refl)

pub fields_filled : (n : Bool) (d : Option (List ℕ)) (o : ObjectNode) (ms ns : Members) → AreFilledFields o.fields ms ns → IsFilled (node n d (sort_of (sort.Object o))) (tree.object ms) (tree.object ns)
fields_filled n d o ms ns f =
    let N = node n d (sort_of (sort.Object o)) in
    by_steps leads_filled N (tree.object ms) (tree.object ns) refl (member_steps N (field_parts o.fields ms) ms ns (λ k. refl) (λ i. refl) f.each)

pub values_filled : (n : Bool) (d : Option (List ℕ)) (m : MapNode) (ms ns : Members) → AreFilledValues m.value ms ns → IsFilled (node n d (sort_of (sort.Map m))) (tree.object ms) (tree.object ns)
values_filled n d m ms ns f =
    let N = node n d (sort_of (sort.Map m)) in
    by_steps leads_filled N (tree.object ms) (tree.object ns) refl (member_steps N (value_parts m.value ms) ms ns (λ k. refl) (λ i. refl) f.each)

-- ---- one name more

pub in_front_other : (k l : List ℕ) (o : Option Data) (ms : Members) → bytes_eq k l ≡ false → member_at k (in_front l o ms) ≡ member_at k ms
in_front_other k l None ms other = refl
in_front_other k l (Some d) ms other = member_later k l d ms other

in_front_here : (l : List ℕ) (o : Option Data) (ms : Members) → IsNameBefore l ms → AreMembers ms → member_at l (in_front l o ms) ≡ o
in_front_here l None ms before sorted = before_none l ms before sorted
in_front_here l (Some d) ms before sorted = member_first l d ms

in_front_sorted : (l : List ℕ) (o : Option Data) (ms : Members) → IsNameBefore l ms → IfSome o IsTree → AreMembers ms → AreMembers (in_front l o ms)
in_front_sorted l None ms before t sorted = sorted
in_front_sorted l (Some d) ms before t sorted = (t, before, sorted)

in_front_after : (k l : List ℕ) (o : Option Data) (ms : Members) → text_cmp k l ≡ Less → IsNameBefore k ms → IsNameBefore k (in_front l o ms)
in_front_after k l None ms first before = before
in_front_after k l (Some d) ms first before = first

-- The parts further on have been filled, and now that under a name before them.
pub front : (parts later : List ℕ → Option Part) (IsBefore IsBeforeLater : List ℕ → Type 0) (l : List ℕ) (o : Option Data) (ns : Members)
    → AreFilled later IsBeforeLater ns → IsBeforeLater l → IfSome o IsTree → PartBecomes leads_filled (parts l) o
    → ((k : List ℕ) → bytes_eq k l ≡ false → parts k ≡ later k) → ((k : List ℕ) → IsBefore k → (text_cmp k l ≡ Less) × IsBeforeLater k)
    → AreFilled parts IsBefore (in_front l o ns)
front parts later IsBefore IsBeforeLater l o ns f before t here others less = record {
  sorted = in_front_sorted l o ns (f.after l before) t f.sorted;
  after = λ k b. in_front_after k l o ns (less k b).0 (f.after k (less k b).1);
  each = λ k. elim (bool_cases (bytes_eq k l)) [
    | inl same ↦ subst (λ n. PartBecomes leads_filled (parts n) (member_at n (in_front l o ns))) (sym (same_name k l same)) (rw (in_front_here l o ns (f.after l before) f.sorted) here)
    | inr other ↦ rw (in_front_other k l o ns other, others k other) (f.each k)
  ];
}

-- ---- maps

pub no_values : (N : Node) → AreFilledValues N no_members no_members
no_values N = record { sorted = tt; after = λ k b. tt; each = λ k path. refl }

pub value_filled : (N : Node) (k : List ℕ) (d : Data) (o : Option Data) (ms ns : Members) → AreMembers (member k d ms) → IfSome o IsTree
    → PartBecomes leads_filled (option_map (at N) (admitted N (Some d))) o → AreFilledValues N ms ns → AreFilledValues N (member k d ms) (in_front k o ns)
value_filled N k d o ms ns sorted t here f =
    front (value_parts N (member k d ms)) (value_parts N ms) (λ l. IsNameBefore l (member k d ms)) (λ l. IsNameBefore l ms) k o ns f sorted.1 t
    (rw member_first here) (λ l other. rw other refl) (λ l b. (b, IsNameBefore-trans l k ms b sorted.1))

-- ---- declared fields

IsBeforeFields-trans : (k l : List ℕ) (fs : Fields) → text_cmp k l ≡ Less → IsBeforeFields l fs → IsBeforeFields k fs
IsBeforeFields-trans k l no_fields kl h = tt
IsBeforeFields-trans k l (field m N required default fs) kl h = nat_list_cmp_total.trans k l m kl h

pub undeclared_before : (k : List ℕ) (fs : Fields) → IsBeforeFields k fs → AreOrdered fs → field_at k fs ≡ None
undeclared_before k no_fields before ordered = refl
undeclared_before k (field l N required default fs) before ordered = rw (earlier_name k l before) (undeclared_before k fs (IsBeforeFields-trans k l fs before ordered.1) ordered.2)

pub no_more_fields : (ms : Members) → AreMembers ms → AreFilledFields no_fields ms ms
no_more_fields ms sorted = record { sorted = sorted; after = λ k b. b.1; each = λ k. free_stays leads_filled (member_at k ms) }

-- a member before all fields stays
pub member_stays : (fs : Fields) (k : List ℕ) (d : Data) (ms ns : Members) → AreOrdered fs → AreMembers (member k d ms) → IsBeforeFields k fs
    → AreFilledFields fs ms ns → AreFilledFields fs (member k d ms) (member k d ns)
member_stays fs k d ms ns ordered sorted before f =
    front (field_parts fs (member k d ms)) (field_parts fs ms) (λ l. IsBeforeFields l fs × IsNameBefore l (member k d ms)) (λ l. IsBeforeFields l fs × IsNameBefore l ms)
    k (Some d) ns f (before, sorted.1) sorted.0
    (rw (undeclared_before k fs before ordered, member_first k d ms) (free_stays leads_filled (Some d)))
    (λ l other. rw other refl) (λ l b. (b.1, (b.0, IsNameBefore-trans l k ms b.1 sorted.1)))

pub field_filled : (k : List ℕ) (f : Declared) (fs : Fields) (found o : Option Data) (ms ns : Members) → AreOrdered (field k f.node f.required f.default fs) → IsNameBefore k ms → AreMembers ms
    → IfSome o IsTree → PartBecomes leads_filled (filled_under (Some f) found) o → AreFilledFields fs ms ns → AreFilledFields (field k f.node f.required f.default fs) (in_front k found ms) (in_front k o ns)
field_filled k f fs found o ms ns ordered before sorted t here rest =
    front (field_parts (field k f.node f.required f.default fs) (in_front k found ms)) (field_parts fs ms)
    (λ l. (text_cmp l k ≡ Less) × IsNameBefore l (in_front k found ms)) (λ l. IsBeforeFields l fs × IsNameBefore l ms)
    k o ns rest (ordered.1, before) t (rw (own_name k, in_front_here k found ms before sorted) here)
    (λ l other. rw (other, in_front_other l k found ms other) refl)
    (λ l b. (b.0, (IsBeforeFields-trans l k fs b.0 ordered.1, IsNameBefore-trans l k ms b.0 before)))

-- all members before the first field stay
pub passed_stay : (k : List ℕ) (f : Declared) (fs : Fields) (xs ys : List Member) (ns : Members) → AreOrdered (field k f.node f.required f.default fs) → AreMembers (members_of (xs ++ ys)) → All (λ m. text_cmp m.name k ≡ Less) xs
    → AreFilledFields (field k f.node f.required f.default fs) (members_of ys) ns → AreFilledFields (field k f.node f.required f.default fs) (members_of (xs ++ ys)) (joined (members_of xs) ns)
passed_stay k f fs [] ys ns ordered sorted less rest = rest
passed_stay k f fs (x ∷ xs) ys ns ordered sorted less rest =
    member_stays (field k f.node f.required f.default fs) x.name (data_of x.tree) (members_of (xs ++ ys)) (joined (members_of xs) ns) ordered sorted
    (All-head (λ m. text_cmp m.name k ≡ Less) x xs less)
    (passed_stay k f fs xs ys ns ordered sorted.2 (All-tail (λ m. text_cmp m.name k ≡ Less) x xs less) rest)

-- ---- what comes after what there is

pub joined_item : (xs : List Tree) (t : Tree) (es : Items) → joined_items (items_of (xs ++ t ∷ [])) es ≡ joined_items (items_of xs) (item (data_of t) es)
joined_item [] t es = refl
joined_item (x ∷ xs) t es = λ i. item (data_of x) (joined_item xs t es i)

pub joined_end : (ds : Items) → joined_items ds no_items ≡ ds
joined_end no_items = refl
joined_end (item d ds) = λ i. item d (joined_end ds i)

pub joined_members : (xs ys : List Member) (ns : Members) → joined (members_of (xs ++ ys)) ns ≡ joined (members_of xs) (joined (members_of ys) ns)
joined_members [] ys ns = refl
joined_members (x ∷ xs) ys ns = λ i. member x.name (data_of x.tree) (joined_members xs ys ns i)

pub joined_none : (ms : Members) → joined ms no_members ≡ ms
joined_none no_members = refl
joined_none (member k d ms) = λ i. member k d (joined_none ms i)

pub joined_some : (k : List ℕ) (xs : List Member) (o : Option Member) (ns : Members) → IfSome o (λ m. (m.name ≡ k) × IsTree (data_of m.tree))
    → joined (members_of (xs ++ option_to_list o)) ns ≡ joined (members_of xs) (in_front k (tree_in o) ns)
joined_some k xs None ns h = joined_members xs [] ns
joined_some k xs (Some m) ns h = joined_members xs (m ∷ []) ns ∙ ap (λ n. joined (members_of xs) (member n (data_of m.tree) ns)) h.0

pub some_tree : (k : List ℕ) (o : Option Member) → IfSome o (λ m. (m.name ≡ k) × IsTree (data_of m.tree)) → IfSome (tree_in o) IsTree
some_tree k None h = tt
some_tree k (Some m) h = h.1
