-- An object all of whose numbers are integers has no number that would have to be the least of its value.
use Rattle.std.proofs.Common.{◌≡◌, ℕ, zero, suc, List, [], ◌∷◌, ◌++◌, ◌∙◌, Option, Some, None, option_map, refl, sym, ap, subst, inl, inr}
use Rattle.std.specs.Str.{bytes_eq}
use Rattle.std.proofs.lemmas.Option.{none-some, same_Some}
use Rattle.jtree.specs.Data.{Data, Items, no_items, item, Members, no_members, member}
use Rattle.jtree.specs.Data as tree
use Rattle.jtree.specs.OnlyIntegers.{HasOnlyIntegers, ItemsHaveOnlyIntegers, MembersHaveOnlyIntegers}
use Rattle.jtree.specs.Path.{Step, name, index, Path, member_at, item_at, part_by}
use Rattle.jtree.specs.Internal.Lookups.{bool_cases, option_cases}
use Rattle.schema.specs.Nodes.Node.{Node}
use Rattle.stored.specs.Objects.Parts.{Part, at, free, pair, node_by, part_of, value_of, part_by_step, part_by_path, leads}
use Rattle.plan.specs.Pools.Pools.{Pools}
use Rattle.suggest.specs.Suggested.Leasts.{IsLeastAt}
use Rattle.suggest.specs.Suggested.VariedSamples.{steps_of_names, IntegersAreLeast}

-- ---- the value of a part

mapped : (f : Data → Part) → ((w : Data) → value_of (f w) ≡ w) → (o : Option Data) (r : Part) → option_map f o ≡ Some r → o ≡ Some (value_of r)
mapped f same None r e = absurd (none-some r e)
mapped f same (Some w) r e = ap Some (sym (same w) ∙ ap value_of (same_Some (f w) r e))

value_kept : (o : Option Node) (w : Data) → value_of (part_of o w) ≡ w
value_kept None w = refl
value_kept (Some N) w = refl

value_step : (q r : Part) (s : Step) → part_by_step leads q s ≡ Some r → part_by (value_of q) s ≡ Some (value_of r)
value_step (at N v) r s e = mapped (part_of (node_by (pair N v) s)) (value_kept (node_by (pair N v) s)) (part_by v s) r e
value_step (free v) r s e = mapped free (λ w. refl) (part_by v s) r e

-- ---- parts have integers alone

of_member : (ms : Members) (k : List ℕ) (w : Data) → member_at k ms ≡ Some w → MembersHaveOnlyIntegers ms → HasOnlyIntegers w
of_member no_members k w found h = absurd (none-some w found)
of_member (member l d ms) k w found h = elim (bool_cases (bytes_eq k l)) [
  | inl same ↦ let here : Some d ≡ Some w = rw same at found in subst HasOnlyIntegers (same_Some d w here) h.0
  | inr other ↦ of_member ms k w (rw other at found) h.1
]

of_item : (ds : Items) (i : ℕ) (w : Data) → item_at i ds ≡ Some w → ItemsHaveOnlyIntegers ds → HasOnlyIntegers w
of_item no_items i w found h = absurd (none-some w found)
of_item (item d ds) zero w found h = subst HasOnlyIntegers (same_Some d w found) h.0
of_item (item d ds) (suc i) w found h = of_item ds i w found h.1

of_part : (v w : Data) (s : Step) → part_by v s ≡ Some w → HasOnlyIntegers v → HasOnlyIntegers w
of_part (tree.object ms) w (name k) found h = of_member ms k w found h
of_part (tree.list ds) w (index i) found h = of_item ds i w found h
of_part (tree.object ms) w (index i) found h = absurd (none-some w found)
of_part (tree.list ds) w (name k) found h = absurd (none-some w found)
of_part tree.null w s found h = absurd (none-some w found)
of_part (tree.boolean b) w s found h = absurd (none-some w found)
of_part (tree.integer z) w s found h = absurd (none-some w found)
of_part (tree.number n) w s found h = absurd (none-some w found)
of_part (tree.text t) w s found h = absurd (none-some w found)

along : (path : Path) (q r : Part) → part_by_path leads q path ≡ Some r → HasOnlyIntegers (value_of q) → HasOnlyIntegers (value_of r)
along [] q r found h = subst (λ x. HasOnlyIntegers (value_of x)) (same_Some q r found) h
along (s ∷ path) q r found h = elim (option_cases (part_by_step leads q s)) [
  | inl none ↦ absurd (none-some r (rw none at found))
  | inr some ↦ along path some.0 r (rw some.1 at found) (of_part (value_of q) (value_of some.0) s (value_step q some.0 s some.1) h)
]

least_here : (P : Pools) (text : List ℕ) (N : Node) (v : Data) → HasOnlyIntegers v → IsLeastAt P text N v
least_here P text N (tree.number s) h = absurd h
least_here P text N tree.null h = tt
least_here P text N (tree.boolean b) h = tt
least_here P text N (tree.integer z) h = tt
least_here P text N (tree.text s) h = tt
least_here P text N (tree.list ds) h = tt
least_here P text N (tree.object ms) h = tt

pub integers_are_least : IntegersAreLeast
integers_are_least root P ts v h ks path p N w varied follows found = least_here P _ N w (along (steps_of_names ks ++ path) (at root v) (at N w) found h)
