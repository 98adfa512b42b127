-- The paths of the narrowed pools are good.
use Rattle.std.proofs.Common.{◌≡◌, ◌≢◌, [], ◌∷◌, ◌++◌, Option, Some, refl, sym, subst, inl, inr, All}
use Rattle.std.proofs.lemmas.List.Elements.{All-cons, All-nil, All-contains, Contains-append_cases}
use Rattle.jtree.specs.Data.{Data}
use Rattle.jtree.specs.Internal.Lookups.{option_cases}
use Rattle.schema.specs.Nodes.Node.{Node}
use Rattle.schema.specs.Nodes.ByPlace.{node_below, node_at}
use Rattle.explain.specs.Paths.FieldPath.{FieldStep, FieldPath, place_step, place_of}
use Rattle.explain.specs.Paths.PathText.{path_text}
use Rattle.explain.specs.Fields.Declared.{IsDeclared}
use Rattle.plan.specs.Pools.Pools.{Pools}
use Rattle.plan.specs.Pools.PlanFault.{IsDeclaredPath, HasGoodPaths}
use Rattle.plan.specs.Samples.Site.{below}
use Rattle.plan.specs.Pools.Along.{beginnings}
use Rattle.cover.specs.Internal.Narrowed.{narrowed, MayBeWanted}
use Rattle.cover.proofs.PoolLemmas.{list_name}
use Rattle.cover.proofs.SampleLemmas.{no_item}
use Rattle.cover.proofs.PathLemmas.{text_below, append_one}

-- a node on the way
node_before : (N : Node) (a b : FieldPath) (M : Node) → node_at N (place_of (a ++ b)) ≡ Some M → (L : Node) × (node_at N (place_of a) ≡ Some L)
node_before N [] b M e = (N, refl)
node_before N (s ∷ a) b M e = elim (option_cases (node_below N (place_step s))) [
  | inl none ↦ absurd (let h = rw none at e in cc)
  | inr some ↦
      let there = node_before some.0 a b M (rw some.1 at e) in
      (there.0, rw some.1 there.1)
]

pub not_empty : (a : FieldPath) (s : FieldStep) → a ++ s ∷ [] ≢ []
not_empty [] s e = cc
not_empty (t ∷ a) s e = cc

declared_before : (root : Node) (a : FieldPath) (s : FieldStep) (b : FieldPath) (M : Node) → node_at root (place_of (a ++ s ∷ b)) ≡ Some M → IsDeclared root (a ++ s ∷ [])
declared_before root a s b M e = (not_empty a s, node_before root (a ++ s ∷ []) b M (subst (λ p. node_at root (place_of p) ≡ Some M) (sym (append_one a s b)) e))

beginnings_declared : (root : Node) (front p : FieldPath) (M : Node) → node_at root (place_of (front ++ p)) ≡ Some M → All (IsDeclaredPath root) (beginnings (path_text front) p)
beginnings_declared root front [] M e = All-nil (IsDeclaredPath root)
beginnings_declared root front (s ∷ p) M e = All-cons (IsDeclaredPath root) (below (path_text front) s) (beginnings (below (path_text front) s) p)
    (front ++ s ∷ [], sym (text_below front s), declared_before root front s p M e)
    (subst (λ t. All (IsDeclaredPath root) (beginnings t p)) (sym (text_below front s))
    (beginnings_declared root (front ++ s ∷ []) p M (subst (λ q. node_at root (place_of q) ≡ Some M) (sym (append_one front s p)) e)))

pub narrowed_good : (root : Node) (P : Pools) (o : Option Data) (p : FieldPath) → IsDeclared root p → MayBeWanted root P o p → HasGoodPaths root P → HasGoodPaths root (narrowed P o p)
narrowed_good root P o p declared may good = record {
  paths = good.paths;
  fixed = λ text has. elim (list_name P o [] p text has) [
    | inl end ↦ (p, sym end.2, (declared, no_item root P o p may end.0 end.1))
    | inr old ↦ good.fixed text old
  ];
  present = λ text has. elim (Contains-append_cases P.present (beginnings [] p) text has) [
    | inl old ↦ good.present text old
    | inr new ↦ All-contains (IsDeclaredPath root) (beginnings [] p) text (beginnings_declared root [] p declared.1.0 declared.1.1) new
  ];
}
