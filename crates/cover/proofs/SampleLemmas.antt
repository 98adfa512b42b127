-- The samples of a narrowed question are those of the question in which the path is there.
use Rattle.std.proofs.Common.{◌≡◌, ◌≢◌, [], ◌∷◌, ◌++◌, true, Option, Some, None, refl, sym, ap, subst, ◌∙◌}
use Rattle.jtree.specs.Data.{Data, Members}
use Rattle.jtree.specs.Order.{tree_cmp}
use Rattle.schema.specs.Nodes.Node.{Node}
use Rattle.schema.specs.Nodes.ByPlace.{node_at}
use Rattle.explain.specs.Fields.Declared.{IsDeclared}
use Rattle.explain.specs.Paths.FieldPath.{FieldPath, place_of}
use Rattle.explain.specs.Paths.PathText.{path_text}
use Rattle.plan.specs.Pools.FixedPaths.{IsMapItem}
use Rattle.plan.specs.Pools.Pools.{Pools, fixed_at}
use Rattle.plan.specs.Samples.Over.{IsOverAlong}
use Rattle.plan.specs.Samples.Question.{Question}
use Rattle.plan.specs.Samples.Site.{plain}
use Rattle.plan.specs.Samples.Part.{IsPart}
use Rattle.enumerate.specs.Least.{IsLeast}
use Rattle.enumerate.specs.Page.{IsSampleOf}
use Rattle.cover.specs.Cover.{Has}
use Rattle.cover.specs.There.{is_there}
use Rattle.cover.specs.Wanted.{Wanted}
use Rattle.cover.specs.Internal.First.{IsSampleWith}
use Rattle.plan.specs.Pools.Along.{beginnings, with_lists}
use Rattle.cover.specs.Internal.Narrowed.{rest_at, kept_fixed, changes, narrowed, narrower, MayBeWanted}
use Rattle.cover.proofs.PathLemmas.{OneText, is_left}
use Rattle.cover.proofs.PoolLemmas.{asked_more, fixed_kept}
use Rattle.cover.proofs.NarrowLemmas.{StoredLaw, IsLeftAt, Narrows, narrow_along, wide_along, there_over}

end_of : (p : FieldPath) → IsLeftAt p [] (Some p)
end_of p x = (λ e. let same : p ≡ x = cc in sym same, λ e. ap Some (sym e))

pub no_item : (root : Node) (P : Pools) (o : Option Data) (p : FieldPath) → MayBeWanted root P o p → (w : Data) → o ≡ Some w → IsMapItem root p → ⊥
no_item root P None p may w e = absurd (cc)
no_item root P (Some v) p may w e = may.0

part_of : (root : Node) (P : Pools) (o : Option Data) (p : FieldPath) → MayBeWanted root P o p → (w : Data) → o ≡ Some w → (N : Node) → node_at root (place_of p) ≡ Some N
    → IsPart P (plain P (path_text p) N) w
part_of root P None p may w e N at = absurd (cc)
part_of root P (Some v) p may w e N at = let same : v ≡ w = cc in subst (IsPart P (plain P (path_text p) N)) same (may.1 N at)

-- the fixed values of the narrowed pools
abbrev fixed_in : Pools → Option Data → FieldPath → Members
fixed_in P o p = with_lists (changes o P [] p) P.fixed

narrows : OneText → (root : Node) (P : Pools) (o : Option Data) (p : FieldPath) → IsDeclared root p → MayBeWanted root P o p
    → Narrows o root P (fixed_in P o p) (P.present ++ beginnings [] p) p (rest_at [] p)
narrows one root P o p declared may = record {
  narrowed = record { asked = asked_more P o p; fixed = fixed_kept one P o p };
  is_left = is_left one p;
  no_item = no_item root P o p may;
}

-- the end of a declared path is not the root, where nothing is fixed
root_free : (o : Option Data) (p : FieldPath) → p ≢ [] → kept_fixed o (Some p) None ≡ None
root_free o [] some = absurd (some refl)
root_free o (s ∷ p) some = refl

no_root : (o : Option Data) (root : Node) (P : Pools) (p : FieldPath) → IsDeclared root p → (w : Data) → o ≡ Some w → Some p ≡ Some [] → None ≡ fixed_at [] P
no_root o root P p declared w e end = let empty : p ≡ [] = cc in absurd (declared.0 empty)

-- a sample of the narrowed question is one in which the path is there
pub narrow_there : OneText → StoredLaw → (q : Question) (o : Option Data) (p : FieldPath) (v : Data) → IsDeclared q.root p → MayBeWanted q.root q.pools o p
    → IsSampleOf (narrower q o p) v → is_there o p v ≡ true
narrow_there one law q o p v declared may s =
    there_over law o q.root q.pools (fixed_in q.pools o p) (q.pools.present ++ beginnings [] p) p (rest_at [] p) (narrows one q.root q.pools o p declared may) p [] None q.root declared.1.0 v
    refl declared.1.1 refl s.part.tree s.part.stored
    (λ path x. subst (λ f. IsOverAlong (narrowed q.pools o p) f [] q.root v path x) (sym (root_free o p declared.0)) (s.part.over path x))

pub narrow_sample : OneText → (q : Question) (o : Option Data) (p : FieldPath) (v : Data) → IsDeclared q.root p → MayBeWanted q.root q.pools o p → IsSampleOf (narrower q o p) v → IsSampleOf q v
narrow_sample one q o p v declared may s = record {
  part = record {
    tree = s.part.tree;
    stored = s.part.stored;
    over = λ path x. wide_along o q.root q.pools (fixed_in q.pools o p) (q.pools.present ++ beginnings [] p) p (rest_at [] p) (narrows one q.root q.pools o p declared may)
        (part_of q.root q.pools o p may) path x [] (Some p) None q.root v refl (end_of p) (no_root o q.root q.pools p declared)
        (subst (λ f. IsOverAlong (narrowed q.pools o p) f [] q.root v path x) (sym (root_free o p declared.0)) (s.part.over path x));
  };
  within = s.within;
}

-- and each of those is one of the narrowed question
pub sample_narrow : OneText → (q : Question) (o : Option Data) (p : FieldPath) (v : Data) → IsDeclared q.root p → MayBeWanted q.root q.pools o p → IsSampleOf q v → is_there o p v ≡ true
    → IsSampleOf (narrower q o p) v
sample_narrow one q o p v declared may s there = record {
  part = record {
    tree = s.part.tree;
    stored = s.part.stored;
    over = λ path x. subst (λ f. IsOverAlong (narrowed q.pools o p) f [] q.root v path x) (root_free o p declared.0)
        (narrow_along o q.root q.pools (fixed_in q.pools o p) (q.pools.present ++ beginnings [] p) p (rest_at [] p) (narrows one q.root q.pools o p declared may)
        path x [] (Some p) None q.root v refl (end_of p) there (s.part.over path x));
  };
  within = s.within;
}

-- ---- of texts

pub has_text : (q : Question) (w : Wanted) (p : FieldPath) (v : Data) → path_text p ≡ w.path → IsSampleOf q v → is_there w.value p v ≡ true → Has q w v
has_text q w p v e s there = (s, (p, e, there))

pub text_there : OneText → (q : Question) (w : Wanted) (p : FieldPath) (v : Data) → path_text p ≡ w.path → Has q w v → is_there w.value p v ≡ true
text_there one q w p v e h = subst (λ x. is_there w.value x v ≡ true) (one h.1.0 p (h.1.1 ∙ sym e)) h.1.2

-- ---- the first sample

pub first_has : OneText → (q : Question) (w : Wanted) (p : FieldPath) (v : Data) → path_text p ≡ w.path → IsLeast tree_cmp (IsSampleWith q w.value p) v → IsLeast tree_cmp (Has q w) v
first_has one q w p v e first = record {
  is = has_text q w p v e first.is.0 first.is.1;
  least = λ u h before. first.least u (h.0, text_there one q w p u e h) before;
}
