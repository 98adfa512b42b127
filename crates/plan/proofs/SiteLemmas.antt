-- The sizes of a site, from those of its content.
use Rattle.std.specs.Prelude.{◌≡◌, ℕ, ◌+◌, ◌≤◌, ◌⊎◌, ◌↔◌, true, Some}
use Rattle.std.proofs.Common.{refl, ap, sym, ◌∙◌, subst, inl, inr, arith}
use Rattle.jtree.specs.Data.{Data, Items}
use Rattle.jtree.specs.Data as tree
use Rattle.jtree.specs.Nodes.{node_count, items_count}
use Rattle.schema.specs.Nodes.Node.{IsNode}
use Rattle.plan.specs.Pools.Pools.{Pools}
use Rattle.plan.specs.Sets.{IsSum}
use Rattle.plan.specs.Samples.Part.{IsPart}
use Rattle.plan.specs.Samples.Sites.{Site, item_site, slots}
use Rattle.plan.specs.Samples.Candidates.{sort_of}
use Rattle.plan.specs.Samples.Sizes.{HasSize, CanFill, HasMore, nothing, ending_of, filled_nodes, IsUpTo}
use Rattle.plan.specs.Samples.RuleOfParts.{members_in, admits_null}
use Rattle.plan.specs.Internal.PartLaws.{PartLaws}
use Rattle.plan.specs.declared.sort.Sort.TheVariants.{Row}
use Rattle.plan.proofs.FillingLemmas.{in_nodes}

-- one node, and its content; or null
abbrev pub IsWhole : Pools → Site → (ℕ → Type 0) → ℕ → Type 0
IsWhole P s Inside n = ((admits_null P s ≡ true) × (n ≡ 1)) ⊎ IsSum (λ i. i ≡ 1) Inside n

-- what a set of the sizes of the whole holds, from a set of the sizes of its content
pub whole_up_to : (limit : ℕ) (s : Site) (P : Pools) (Inside S W : ℕ → Type 0) → 1 ≤ limit → ((n : ℕ) → n ≤ limit → HasSize P s n ↔ IsWhole P s Inside n) → IsUpTo limit S Inside
    → ((n : ℕ) → W n ↔ (((admits_null P s ≡ true) × (n ≡ 1)) ⊎ ((n ≤ limit) × IsSum (λ i. i ≡ 1) S n))) → IsUpTo limit W (HasSize P s)
whole_up_to limit s P Inside S W room law inside whole n = (
  (λ h. elim ((whole n).0 h) as (λ _. (n ≤ limit) × HasSize P s n) [
    | inl x ↦ let l : n ≤ limit = omega (arith, x.1) in (l, (law n l).1 (inl x))
    | inr x ↦ let y = x.1 in (x.0, (law n x.0).1 (inr (y.0, (y.1.0, (y.1.1.0, ((inside y.1.0).0 y.1.1.1).1, y.1.1.2)))))
  ]),
  λ h.
      (whole n).1 (elim ((law n h.0).0 h.1) as (λ _. ((admits_null P s ≡ true) × (n ≡ 1)) ⊎ ((n ≤ limit) × IsSum (λ i. i ≡ 1) S n)) [
        | inl x ↦ inl x
        | inr y ↦ let l : n ≤ limit = h.0 in inr (l, (y.0, (y.1.0, (y.1.1.0, (inside y.1.0).1 (omega (arith, y.1.1.2), y.1.1.1), y.1.1.2))))
      ]),
)

null_size : (v : Data) (n : ℕ) → v ≡ tree.null → node_count v ≡ n → n ≡ 1
null_size v n is count = sym count ∙ ap node_count is

-- the sizes of a row
pub row_sizes : PartLaws → (P : Pools) (s : Site) → IsNode s.node → sort_of s ≡ Row → (n : ℕ) → HasSize P s n ↔ IsWhole P s (CanFill P (slots P s) (ending_of P s) nothing) n
row_sizes laws P s o is n = (
  (λ h. elim ((laws.row P s h.part o is).0 h.is) as (λ _. IsWhole P s (CanFill P (slots P s) (ending_of P s) nothing) n) [
    | inl null ↦ inl (null.1, null_size h.part n null.0 h.nodes_are)
    | inr q ↦
        let total = in_nodes P (slots P s) q.fillings q.are in
        let count = sym (ap node_count q.is) ∙ h.nodes_are in
        inr (1, (filled_nodes q.fillings, (refl, record { fillings = q.fillings; are = q.are; ends = q.ends; nodes_are = refl }, omega (arith, total, count))))
  ]),
  λ w. elim w as (λ _. HasSize P s n) [
    | inl x ↦ record { part = tree.null; is = (laws.row P s tree.null o is).1 (inl (refl, x.0)); nodes_are = sym x.1 }
    | inr y ↦
        let f = y.1.1.1 in
        let v = tree.object (members_in (slots P s) f.fillings) in
        let total = in_nodes P (slots P s) f.fillings f.are in
        record { part = v; is = (laws.row P s v o is).1 (inr (record { fillings = f.fillings; is = refl; are = f.are; ends = f.ends })); nodes_are = omega (arith, total, f.nodes_are, y.1.1.0, y.1.1.2) }
  ],
)

-- the sizes of a list
pub list_sizes : PartLaws → (P : Pools) (s M : Site) → item_site P s ≡ Some M → (limit n : ℕ) → n ≤ limit → HasSize P s n ↔ IsWhole P s (HasMore P limit s 0) n
list_sizes laws P s M is limit n l = (
  (λ h. elim ((laws.list P s M h.part is).0 h.is) as (λ _. IsWhole P s (HasMore P limit s 0) n) [
    | inl null ↦ inl (null.1, null_size h.part n null.0 h.nodes_are)
    | inr q ↦
        let count : 1 + items_count q.items ≡ n = sym (ap node_count q.is) ∙ h.nodes_are in
        inr (1, (items_count q.items, (refl, record { items = q.items; part = subst (IsPart P s) q.is h.is; fits = omega (arith, count, l); many = omega arith; nodes_are = refl }, omega (arith, count))))
  ]),
  λ w. elim w as (λ _. HasSize P s n) [
    | inl x ↦ record { part = tree.null; is = (laws.list P s M tree.null is).1 (inl (refl, x.0)); nodes_are = sym x.1 }
    | inr y ↦ let q = y.1.1.1 in record { part = tree.list q.items; is = q.part; nodes_are = omega (arith, q.nodes_are, y.1.1.0, y.1.1.2) }
  ],
)
