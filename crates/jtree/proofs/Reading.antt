-- From a JSON value to a tree, a part at a time.
use Rattle.std.proofs.Common.{◌≡◌, ◌<◌, ℕ, zero, suc, length, get_or, arith, List, [], ◌∷◌, ◌++◌, Option, Some, None, option_map, option_and_then, string_bytes, string_cmp, nat_cmp, Less, refl, ap, ◌∙◌}
use Rattle.std.specs.Cmp.Lexicographic.{slice_cmp}
use Rattle.std.specs.List.{AllByRecursion}
use Rattle.std.specs.List.Sorted.{IsStrictlySortedBy}
use Rattle.std.specs.Map.{keys_of}
use Rattle.serde_json.specs.View.{view, items_view, members_view}
use Rattle.serde_json.specs.declared.value.Value.{Value}
use Rattle.serde_json.proofs.Views.{Entry}
use Rattle.jtree.specs.Data.{Data, Items, no_items, item, Members, no_members, member, IsTree, AreTrees, IsNameBefore, AreMembers}
use Rattle.jtree.specs.Reads.{tree_of, items_tree, members_tree}
use Rattle.jtree.specs.View.{data_of, items_of, members_of}
use Rattle.jtree.specs.declared.value.Tree.{Tree}
use Rattle.jtree.specs.declared.value.Member.{Member}

-- the value of each member is a tree
abbrev pub HaveTrees : Members → Type 0
HaveTrees no_members = Unit {0}
HaveTrees (member k d ms) = IsTree d × HaveTrees ms

-- ---- one more part

abbrev pub joined_items : Option Data → Option Items → Option Items
joined_items o rest = option_and_then (λ d. option_map (item d) rest) o

abbrev pub joined_members : List ℕ → Option Data → Option Members → Option Members
joined_members k o rest = option_and_then (λ d. option_map (member k d) rest) o

-- the last of the parts that were read
abbrev pub and_item : Items → Data → Items
and_item no_items e = item e no_items
and_item (item d ds) e = item d (and_item ds e)

abbrev pub and_member : Members → List ℕ → Data → Members
and_member no_members l e = member l e no_members
and_member (member k d ms) l e = member k d (and_member ms l e)

pub joined_items-and : (o : Option Data) (rest : Option Items) (e : Data) → joined_items o (option_map (λ ds. and_item ds e) rest) ≡ option_map (λ ds. and_item ds e) (joined_items o rest)
joined_items-and (Some d) (Some ds) e = refl
joined_items-and _ _ e = refl

joined_members-and : (k : List ℕ) (o : Option Data) (rest : Option Members) (l : List ℕ) (e : Data) → joined_members k o (option_map (λ ms. and_member ms l e) rest) ≡ option_map (λ ms. and_member ms l e) (joined_members k o rest)
joined_members-and k (Some d) (Some ms) l e = refl
joined_members-and k _ _ l e = refl

pub items_read : (vs : List Value) (v : Value) (e : Data) → tree_of (view v) ≡ Some e → items_tree (items_view (vs ++ v ∷ [])) ≡ option_map (λ ds. and_item ds e) (items_tree (items_view vs))
items_read [] v e h = rw h
items_read (w ∷ vs) v e h = ap (joined_items (tree_of (view w))) (items_read vs v e h) ∙ joined_items-and (tree_of (view w)) (items_tree (items_view vs)) e

pub members_read : (es : List Entry) (f : Entry) (e : Data) → tree_of (view f.1) ≡ Some e → members_tree (members_view (es ++ f ∷ [])) ≡ option_map (λ ms. and_member ms (string_bytes f.0) e) (members_tree (members_view es))
members_read [] f e h = rw h
members_read (g ∷ es) f e h = ap (joined_members (string_bytes g.0) (tree_of (view g.1))) (members_read es f e h) ∙ joined_members-and (string_bytes g.0) (tree_of (view g.1)) (members_tree (members_view es)) (string_bytes f.0) e

pub items_of-and : (ts : List Tree) (t : Tree) → and_item (items_of ts) (data_of t) ≡ items_of (ts ++ t ∷ [])
items_of-and [] t = refl
items_of-and (u ∷ ts) t = ap (item (data_of u)) (items_of-and ts t)

pub members_of-and : (ms : List Member) (m : Member) → and_member (members_of ms) m.name (data_of m.tree) ≡ members_of (ms ++ m ∷ [])
members_of-and [] m = refl
members_of-and (n ∷ ms) m = ap (member n.name (data_of n.tree)) (members_of-and ms m)

pub one_more_item : (vs : List Value) (v : Value) (ts : List Tree) (t : Tree) → items_tree (items_view vs) ≡ Some (items_of ts) → tree_of (view v) ≡ Some (data_of t)
    → items_tree (items_view (vs ++ v ∷ [])) ≡ Some (items_of (ts ++ t ∷ []))
one_more_item vs v ts t read one = items_read vs v (data_of t) one ∙ ap (option_map (λ ds. and_item ds (data_of t))) read ∙ ap (λ ds. Some ds) (items_of-and ts t)

pub one_more_member : (es : List Entry) (f : Entry) (ms : List Member) (m : Member) → members_tree (members_view es) ≡ Some (members_of ms) → tree_of (view f.1) ≡ Some (data_of m.tree)
    → m.name ≡ string_bytes f.0 → members_tree (members_view (es ++ f ∷ [])) ≡ Some (members_of (ms ++ m ∷ []))
one_more_member es f ms m read one named =
    members_read es f (data_of m.tree) one ∙ ap (option_map (λ ns. and_member ns (string_bytes f.0) (data_of m.tree))) read
    ∙ rw (← named) (ap (λ ns. Some ns) (members_of-and ms m))

pub AreTrees-push : (ts : List Tree) (t : Tree) → AreTrees (items_of ts) → IsTree (data_of t) → AreTrees (items_of (ts ++ t ∷ []))
AreTrees-push [] t h one = (one, tt)
AreTrees-push (u ∷ ts) t h one = (h.0, AreTrees-push ts t h.1 one)

pub HaveTrees-push : (ms : List Member) (m : Member) → HaveTrees (members_of ms) → IsTree (data_of m.tree) → HaveTrees (members_of (ms ++ m ∷ []))
HaveTrees-push [] m h one = (one, tt)
HaveTrees-push (n ∷ ms) m h one = (h.0, HaveTrees-push ms m h.1 one)

-- ---- a part that is not a tree

pub joined_items-none : (o : Option Data) → joined_items o None ≡ None
joined_items-none None = refl
joined_items-none (Some d) = refl

pub joined_members-none : (k : List ℕ) (o : Option Data) → joined_members k o None ≡ None
joined_members-none k None = refl
joined_members-none k (Some d) = refl

pub no_items_tree : (vs : List Value) (i : ℕ) (v : Value) → i < length vs → tree_of (view (get_or vs i v)) ≡ None → items_tree (items_view vs) ≡ None
no_items_tree [] i v within h = absurd (omega arith)
no_items_tree (u ∷ vs) zero v within h = rw h
no_items_tree (u ∷ vs) (suc i) v within h = ap (joined_items (tree_of (view u))) (no_items_tree vs i v (omega arith) h) ∙ joined_items-none (tree_of (view u))

pub no_members_tree : (es : List Entry) (f : Entry) (fs : List Entry) → tree_of (view f.1) ≡ None → members_tree (members_view (es ++ f ∷ fs)) ≡ None
no_members_tree [] f fs h = rw h
no_members_tree (g ∷ es) f fs h = ap (joined_members (string_bytes g.0) (tree_of (view g.1))) (no_members_tree es f fs h) ∙ joined_members-none (string_bytes g.0) (tree_of (view g.1))

-- ---- names are in order

joined_parts : (k : List ℕ) (o : Option Data) (rest : Option Members) (ms : Members) → joined_members k o rest ≡ Some ms
    → (d : Data) × (ns : Members) × (rest ≡ Some ns) × (ms ≡ member k d ns)
joined_parts k None rest ms h = cc
joined_parts k (Some d) None ms h = cc
joined_parts k (Some d) (Some ns) ms h = (d, ns, refl, cc)

before_names : (k : List ℕ) (es : List Entry) (ms : Members) → members_tree (members_view es) ≡ Some ms → AllByRecursion (λ y. slice_cmp nat_cmp k (string_bytes y) ≡ Less) (keys_of es) → IsNameBefore k ms
before_names k [] ms h above = let e : ms ≡ no_members = cc in rw e tt
before_names k (e ∷ es) ms h above = let p = joined_parts (string_bytes e.0) (tree_of (view e.1)) (members_tree (members_view es)) ms h in rw p.3 above.0

pub AreMembers-sorted : (es : List Entry) (ms : Members) → members_tree (members_view es) ≡ Some ms → IsStrictlySortedBy string_cmp (keys_of es) → HaveTrees ms → AreMembers ms
unfolding IsStrictlySortedBy
AreMembers-sorted [] ms h sorted trees = let e : ms ≡ no_members = cc in rw e tt
AreMembers-sorted (e ∷ es) ms h sorted trees =
    let p = joined_parts (string_bytes e.0) (tree_of (view e.1)) (members_tree (members_view es)) ms h in
    let had = rw p.3 at trees in
    rw p.3 (had.0, before_names (string_bytes e.0) es p.1 p.2 sorted.0, AreMembers-sorted es p.1 p.2 sorted.1 had.1)
