-- The items of a set: scalars, each its own key.
use Rattle.std.specs.Prelude.{◌≡◌, ℕ, List, [], ◌∷◌, length, map, true}
use Rattle.std.proofs.Common.{refl, ap, sym, subst, ◌∙◌}
use Rattle.std.proofs.lemmas.Bool.{and_parts}
use Rattle.std.proofs.lemmas.List.{length-map}
use Rattle.jtree.specs.Data.{Data}
use Rattle.jtree.specs.Data as tree
use Rattle.jtree.specs.Equality.{equal_by}
use Rattle.jtree.specs.Nodes.{node_count}
use Rattle.jtree.specs.Internal.EqualityLaws.{equal_itself}
use Rattle.jtree.specs.declared.equality.Equality.{Equality}
use Rattle.jtree.specs.Internal.Rising.{contained, contains}
use Rattle.schema.specs.Nodes.Node.{Node, node, scalar, object, list, open_}
use Rattle.schema.specs.Nodes.Node as nodes
use Rattle.schema.specs.Nodes.Items.{IsPlainScalar}
use Rattle.schema.specs.declared.node.ScalarKind.{ScalarKind}
use Rattle.schema.specs.declared.node.ScalarKind.TheVariants.{Boolean, Integer, Number, String, IntOrString}
use Rattle.stored.specs.Objects.Tests.{accepts_scalar}
use Rattle.stored.specs.Objects.StoredByParts.{IsValidHere}
use Rattle.plan.specs.Pools.Pools.{Pools}
use Rattle.plan.specs.Samples.Sites.{Site}
use Rattle.plan.specs.Samples.Part.{IsPart}
use Rattle.plan.specs.Samples.Candidates.{sort_at, HasCount}
use Rattle.plan.specs.Internal.Keyed.{Keyed}
use Rattle.plan.specs.declared.sort.Sort.TheVariants.{Leaf}
use Rattle.plan.proofs.ApartLemmas.{map_among, among_map, map_apart}
use Rattle.plan.proofs.OneValue.{one_part}
use Rattle.plan.proofs.TupleLemmas.{all_apart}
use Rattle.plan.specs.Internal.Laws.{StoredLaw}

pub plain_leaf : (N : Node) → IsPlainScalar N → sort_at N ≡ Leaf
plain_leaf (node n t (scalar kind cs)) plain = refl
plain_leaf (node n t (object fs preserves type b cs)) plain = absurd plain
plain_leaf (node n t (nodes.map M type b)) plain = absurd plain
plain_leaf (node n t (list M type keys b)) plain = absurd plain
plain_leaf (node n t open_) plain = absurd plain

one_node : (kind : ScalarKind) (v : Data) → accepts_scalar kind v ≡ true → node_count v ≡ 1
one_node Boolean (tree.boolean b) e = refl
one_node Integer (tree.integer z) e = refl
one_node Number (tree.integer z) e = refl
one_node Number (tree.number s) e = refl
one_node String (tree.text s) e = refl
one_node IntOrString (tree.integer z) e = refl
one_node IntOrString (tree.text s) e = refl
one_node kind v e = absurd (cc)

pub valid_one : (N : Node) (v : Data) → IsPlainScalar N → IsValidHere N v → node_count v ≡ 1
valid_one (node n t (scalar kind cs)) tree.null plain h = refl
valid_one (node n t (scalar kind cs)) v plain h = one_node kind v h.0
valid_one N v plain h = absurd plain

-- a part of a scalar is one node
pub scalar_one : StoredLaw → (P : Pools) (s : Site) → IsPlainScalar s.node → (v : Data) → IsPart P s v → node_count v ≡ 1
scalar_one stored P s plain v h = valid_one s.node v plain ((stored s.node v).0 h.stored).0

valid_no_null : (N : Node) → IsPlainScalar N → IsValidHere N tree.null → ⊥
valid_no_null (node n t (scalar kind cs)) plain valid = let no = sym plain ∙ (and_parts _ _ valid).0 in cc
valid_no_null (node n t (object fs preserves type b cs)) plain valid = plain
valid_no_null (node n t (nodes.map M type b)) plain valid = plain
valid_no_null (node n t (list M type keys b)) plain valid = plain
valid_no_null (node n t open_) plain valid = plain

pub scalar_no_null : StoredLaw → (P : Pools) (s : Site) → IsPlainScalar s.node → IsPart P s tree.null → ⊥
scalar_no_null stored P s plain h = valid_no_null s.node plain ((stored s.node tree.null).0 h.stored).0

pub set_keyed : StoredLaw → (e : Equality) (P : Pools) (M : Site) (count : ℕ) → IsPlainScalar M.node → HasCount (IsPart P M) count → (K : Keyed P M (equal_by e)) × (length K.keys ≡ count)
set_keyed stored e P M count plain h =
    let vs = h.values in
    let one : Data → List Data = λ v. v ∷ [] in
    let size = scalar_one stored P M plain in (
      record {
        key = one;
        keys = map one vs;
        apart = map_apart one vs (λ v w e. cc) (all_apart (IsPart P M) vs h.are);
        known = λ v p. map_among one vs v (contained vs v ((h.are.each v).1 p));
        given = λ v k p a.
            let w = among_map one vs k a in
            let q = (h.are.each w.0).0 (contains vs w.0 w.1.0) in
            (w.0, (q, w.1.1, size w.0 q ∙ sym (size v p)));
        alike_same_key = λ v w p q same. ap one (one_part stored e P M plain v w p q same);
        same_key_alike = λ v w p q same. let one : v ≡ w = cc in subst (λ u. equal_by e v u ≡ true) one (equal_itself e v);
      },
      length-map vs one ∙ h.count_is,
    )
