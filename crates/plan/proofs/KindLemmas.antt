-- Scalars of which nothing is asked but their kind: those of one kind have the same candidates.
use Rattle.std.proofs.Common.{◌≡◌, ◌≤◌, ◌↔◌, ℕ, List, Option, None, false, refl, sym, subst, arith}
use Rattle.jtree.specs.Data.{Data}
use Rattle.jtree.specs.Data as tree
use Rattle.jtree.specs.Nodes.{node_count}
use Rattle.schema.specs.Nodes.Node.{Node, node, scalar, Validations}
use Rattle.schema.specs.declared.node.ScalarKind.{ScalarKind}
use Rattle.stored.specs.Objects.Becomes.{IsStored}
use Rattle.stored.specs.Objects.StoredByParts.{StoredByParts}
use Rattle.plan.specs.Internal.Values.{AreStored, no_validations, of_kind}

-- the description is asked of nothing
parts_alike : (kind : ScalarKind) (cs : Validations) (d e : Option (List ℕ)) (v : Data) → StoredByParts (node false d (scalar kind cs)) v ≡ StoredByParts (node false e (scalar kind cs)) v
parts_alike kind cs d e tree.null = refl
parts_alike kind cs d e (tree.boolean b) = refl
parts_alike kind cs d e (tree.integer z) = refl
parts_alike kind cs d e (tree.number s) = refl
parts_alike kind cs d e (tree.text s) = refl
parts_alike kind cs d e (tree.list ds) = refl
parts_alike kind cs d e (tree.object ms) = refl

pub bare_alike : ((N : Node) (v : Data) → IsStored N v ↔ StoredByParts N v) → (kind : ScalarKind) (d : Option (List ℕ)) (v : Data) → IsStored (of_kind kind) v ↔ IsStored (node false d (scalar kind no_validations)) v
bare_alike law kind d v =
    let same = parts_alike kind no_validations None d v in (
      (λ s. (law (node false d (scalar kind no_validations)) v).1 (subst (λ X. X) same ((law (of_kind kind) v).0 s))),
      λ s. (law (of_kind kind) v).1 (subst (λ X. X) (sym same) ((law (node false d (scalar kind no_validations)) v).0 s)),
    )

-- one whose values are one node each has the same candidates within any limit
pub stored_alike : (limit : ℕ) (N M : Node) (ds vs : List Data) → 1 ≤ limit → ((v : Data) → IsStored N v ↔ IsStored M v) → ((v : Data) → IsStored M v → node_count v ≡ 1) → AreStored 1 N ds vs → AreStored limit M ds vs
stored_alike limit N M ds vs some alike one s = record {
  each = λ v. (
    (λ c. let h = (s.each v).0 c in (h.0, (h.1.0, (alike v).0 h.1.1, omega (arith, h.1.2)))),
    λ h. (s.each v).1 (h.0, (h.1.0, (alike v).1 h.1.1, omega (arith, one v h.1.1))),
  );
  ascending = s.ascending;
}
