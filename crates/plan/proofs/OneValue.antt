-- The parts of a plain scalar that count as the same, by whichever equality, are the same.
use Rattle.std.specs.Prelude.{◌≡◌, ℕ, List, [], true, false, Option, Some, None, ◌&&◌, unwrap_or}
use Rattle.std.proofs.Common.{sym, subst, ◌∙◌, inl, inr}
use Rattle.std.proofs.lemmas.Bool.{and_parts, or_cases, false_from_ne_true}
use Rattle.std.specs.Cmp.{Equal-is}
use Rattle.jtree.specs.Data.{Data}
use Rattle.jtree.specs.Data as tree
use Rattle.jtree.specs.Equality.{equal_by}
use Rattle.jtree.specs.Internal.EqualityLaws.{equal_itself}
use Rattle.jtree.specs.Internal.Lookups.{bool_cases}
use Rattle.jtree.specs.Internal.OrderLaws.{tree_same}
use Rattle.jtree.specs.Order.{tree_cmp}
use Rattle.jtree.specs.SameValue.{same_value}
use Rattle.jtree.specs.declared.equality.Equality.{Equality}
use Rattle.jtree.specs.declared.equality.Equality.TheVariants.{Exact, ByValue}
use Rattle.schema.specs.Nodes.Items.{IsPlainScalar}
use Rattle.schema.specs.Nodes.Node.{Node, node, scalar, object, list, open_}
use Rattle.schema.specs.Nodes.Node as nodes
use Rattle.schema.specs.declared.node.ScalarKind.{ScalarKind}
use Rattle.schema.specs.declared.node.ScalarKind.TheVariants.{Boolean, Integer, Number, String, IntOrString}
use Rattle.stored.specs.Objects.Fault.{is_null}
use Rattle.stored.specs.Objects.Tests.{is_same, accepts_scalar}
use Rattle.stored.specs.Objects.StoredByParts.{IsValidHere}
use Rattle.plan.specs.Pools.Pools.{Pools, list_at}
use Rattle.plan.specs.Samples.Leasts.{leasts}
use Rattle.plan.specs.Samples.Over.{listed_for, listed, is_in, IsOver}
use Rattle.plan.specs.Samples.Part.{IsPart}
use Rattle.plan.specs.Samples.Sites.{Site}
use Rattle.plan.specs.Internal.Laws.{StoredLaw}
use Rattle.plan.proofs.LeastLemmas.{one_number}
use Rattle.plan.proofs.TupleLemmas.{same_tree}

-- among which values those of a scalar are the least: the ones that are fixed, or else what is listed
abbrev values_at : Pools → Option (List Data) → List ℕ → Node → List Data
values_at P (Some ds) path N = ds
values_at P None path N = unwrap_or (list_at path P) (listed_for P N)

over_in : (P : Pools) (fixed : Option (List Data)) (path : List ℕ) (N : Node) (v : Data) → IsPlainScalar N → IsOver P fixed path N v → is_in v (leasts (values_at P fixed path N)) ≡ true
over_in P (Some ds) path N v plain h = h [] []
over_in P None path (node n t (scalar kind cs)) v plain h = elim (or_cases (is_in v (listed P path (node n t (scalar kind cs)))) (is_null v && n) (h [] [])) [
  | inl here ↦ here
  | inr null ↦ absurd (let no : false ≡ true = sym plain ∙ (and_parts (is_null v) n null).1 in cc)
]
over_in P None path (node n t (object fs preserves type b cs)) v plain h = absurd plain
over_in P None path (node n t (nodes.map M type b)) v plain h = absurd plain
over_in P None path (node n t (list M type keys b)) v plain h = absurd plain
over_in P None path (node n t open_) v plain h = absurd plain

exact : (v w : Data) → is_same v w ≡ true → v ≡ w
exact v w same = tree_same v w ((Equal-is (tree_cmp v w)).0 same)

-- of the least ones no two scalars have one value
one_scalar : (kind : ScalarKind) (ds : List Data) (v w : Data) → accepts_scalar kind v ≡ true → is_in v (leasts ds) ≡ true → is_in w (leasts ds) ≡ true → same_value v w ≡ true → v ≡ w
one_scalar Boolean ds (tree.boolean b) w e p q same = exact (tree.boolean b) w same
one_scalar Integer ds (tree.integer z) w e p q same = exact (tree.integer z) w same
one_scalar Number ds (tree.integer z) w e p q same = exact (tree.integer z) w same
one_scalar Number ds (tree.number s) (tree.number t) e p q same = one_number ds s t p q same
one_scalar Number ds (tree.number s) w e p q same = exact (tree.number s) w same
one_scalar String ds (tree.text s) w e p q same = exact (tree.text s) w same
one_scalar IntOrString ds (tree.integer z) w e p q same = exact (tree.integer z) w same
one_scalar IntOrString ds (tree.text s) w e p q same = exact (tree.text s) w same
one_scalar kind ds v w e p q same = absurd (cc)

one_valid : (N : Node) (ds : List Data) (v w : Data) → IsPlainScalar N → IsValidHere N v → is_in v (leasts ds) ≡ true → is_in w (leasts ds) ≡ true → same_value v w ≡ true → v ≡ w
one_valid (node n t (scalar kind cs)) ds tree.null w plain h p q same = exact tree.null w same
one_valid (node n t (scalar kind cs)) ds v w plain h p q same = one_scalar kind ds v w h.0 p q same
one_valid N ds v w plain h p q same = absurd plain

by_equality : (e : Equality) (N : Node) (ds : List Data) (v w : Data) → IsPlainScalar N → IsValidHere N v → is_in v (leasts ds) ≡ true → is_in w (leasts ds) ≡ true → equal_by e v w ≡ true → v ≡ w
by_equality Exact N ds v w plain h p q same = exact v w same
by_equality ByValue N ds v w plain h p q same = one_valid N ds v w plain h p q same

pub one_part : StoredLaw → (e : Equality) (P : Pools) (s : Site) → IsPlainScalar s.node → (v w : Data) → IsPart P s v → IsPart P s w → equal_by e v w ≡ true → v ≡ w
one_part stored e P s plain v w p q same =
    by_equality e s.node (values_at P s.fixed s.path s.node) v w plain ((stored s.node v).0 p.stored).0
    (over_in P s.fixed s.path s.node v plain p.over) (over_in P s.fixed s.path s.node w plain q.over) same

-- so the tests by an equality and by the trees agree
pub one_test : StoredLaw → (e : Equality) (P : Pools) (s : Site) → IsPlainScalar s.node → (v w : Data) → IsPart P s v → IsPart P s w → equal_by e v w ≡ is_same v w
one_test stored e P s plain v w p q = elim (bool_cases (is_same v w)) [
  | inl same ↦ subst (λ u. equal_by e v u ≡ true) ((same_tree v w).0 same) (equal_itself e v) ∙ sym same
  | inr other ↦ false_from_ne_true (equal_by e v w) (λ t. let same : is_same v w ≡ true = (same_tree v w).1 (one_part stored e P s plain v w p q t) in let no : true ≡ false = sym same ∙ other in cc) ∙ sym other
]
