-- What holds of the integers that are suggested: each has 64 bits.
use Rattle.std.proofs.Common.{◌≡◌, ℤ, pos, ◌+ℤ◌, ◌-ℤ◌, List, [], ◌∷◌, ◌++◌, true, Option, Some, None, refl, inl, inr}
use Rattle.std.specs.Prelude.{filter, codes}
use Rattle.std.specs.Ordering.{int_cmp}
use Rattle.jtree.specs.Data.{Members}
use Rattle.jtree.specs.Path.{member_at}
use Rattle.jtree.specs.Internal.Lookups.{bool_cases}
use Rattle.jtree.specs.Internal.Rising.{Among, among_parts}
use Rattle.schema.specs.Nodes.Node.{Validations, validations, Branches, no_branches, branch, Node, node, scalar, object, map as map_node, list as list_node, open_, Fields, no_fields, field}
use Rattle.schema.specs.declared.node.Constraints.{Constraints}
use Rattle.suggest.specs.Suggested.Scalars.{in_scalar, in_branches, in_scalars, in_fields}
use Rattle.suggest.specs.Suggested.Values.{fits_64_bits, with_neighbours, whole_bound, written_bounds, bounds_with_neighbours, all_integers}
use Rattle.suggest.proofs.AscendingLemmas.{ascending_only}

-- ---- what holds of all that is found

mutual
  scalar_each : {X : Type 0} (P : X → Type 0) (f : Constraints → List X) → ((t : Constraints) (x : X) → Among (f t) x → P x) → (cs : Validations) (x : X) → Among (in_scalar f cs) x → P x
  scalar_each P f each (validations t all any one negated) x a = elim (among_parts (f t) (in_branches f all ++ (in_branches f any ++ (in_branches f one ++ in_branches f negated))) x a) [
    | inl h ↦ each t x h
    | inr b ↦ elim (among_parts (in_branches f all) (in_branches f any ++ (in_branches f one ++ in_branches f negated)) x b) [
      | inl h ↦ branches_each P f each all x h
      | inr c ↦ elim (among_parts (in_branches f any) (in_branches f one ++ in_branches f negated) x c) [
        | inl h ↦ branches_each P f each any x h
        | inr d ↦ elim (among_parts (in_branches f one) (in_branches f negated) x d) [ inl h ↦ branches_each P f each one x h | inr h ↦ branches_each P f each negated x h ]
      ]
    ]
  ]

  branches_each : {X : Type 0} (P : X → Type 0) (f : Constraints → List X) → ((t : Constraints) (x : X) → Among (f t) x → P x) → (bs : Branches) (x : X) → Among (in_branches f bs) x → P x
  branches_each P f each no_branches x a = absurd a
  branches_each P f each (branch c cs) x a = elim (among_parts (in_scalar f c) (in_branches f cs) x a) [ inl h ↦ scalar_each P f each c x h | inr h ↦ branches_each P f each cs x h ]

mutual
  node_each : {X : Type 0} (P : X → Type 0) (f : Constraints → List X) → ((t : Constraints) (x : X) → Among (f t) x → P x) → (N : Node) (x : X) → Among (in_scalars f N) x → P x
  node_each P f each (node n d (scalar kind cs)) x a = scalar_each P f each cs x a
  node_each P f each (node n d (object fs preserves type bounds cs)) x a = fields_each P f each fs x a
  node_each P f each (node n d (map_node N type bounds)) x a = node_each P f each N x a
  node_each P f each (node n d (list_node N type keys bounds)) x a = node_each P f each N x a
  node_each P f each (node n d open_) x a = absurd a

  fields_each : {X : Type 0} (P : X → Type 0) (f : Constraints → List X) → ((t : Constraints) (x : X) → Among (f t) x → P x) → (fs : Fields) (x : X) → Among (in_fields f fs) x → P x
  fields_each P f each no_fields x a = absurd a
  fields_each P f each (field k N required default fs) x a = elim (among_parts (in_scalars f N) (in_fields f fs) x a) [ inl h ↦ node_each P f each N x h | inr h ↦ fields_each P f each fs x h ]

-- ---- each integer has 64 bits

kept : (zs : List ℤ) (z : ℤ) → Among (filter fits_64_bits zs) z → fits_64_bits z ≡ true
kept [] z a = absurd a
kept (y ∷ zs) z a = elim (bool_cases (fits_64_bits y)) [
  | inl t ↦ elim (rw t at a) [ inl e ↦ rw (← e) t | inr b ↦ kept zs z b ]
  | inr f ↦ kept zs z (rw f at a)
]

neighbours_fit : (o : Option ℤ) (z : ℤ) → Among (with_neighbours o) z → fits_64_bits z ≡ true
neighbours_fit None z a = absurd a
neighbours_fit (Some b) z a = kept ((b -ℤ pos 1) ∷ b ∷ (b +ℤ pos 1) ∷ []) z a

written_fit : (o : Option Members) (z : ℤ) → Among (written_bounds o) z → fits_64_bits z ≡ true
written_fit None z a = absurd a
written_fit (Some ks) z a = elim (among_parts (with_neighbours (whole_bound (member_at (codes "minimum") ks))) (with_neighbours (whole_bound (member_at (codes "maximum") ks))) z a) [
  | inl h ↦ neighbours_fit (whole_bound (member_at (codes "minimum") ks)) z h
  | inr h ↦ neighbours_fit (whole_bound (member_at (codes "maximum") ks)) z h
]

bounds_fit : (t : Constraints) (z : ℤ) → Among (bounds_with_neighbours t) z → fits_64_bits z ≡ true
bounds_fit t z a = elim (among_parts (with_neighbours t.minimum) (with_neighbours t.maximum ++ written_bounds t.written) z a) [
  | inl h ↦ neighbours_fit t.minimum z h
  | inr h ↦ elim (among_parts (with_neighbours t.maximum) (written_bounds t.written) z h) [ inl m ↦ neighbours_fit t.maximum z m | inr w ↦ written_fit t.written z w ]
]

-- 0 and 1 fit too
pub integer_fits : (root : Node) (z : ℤ) → Among (all_integers root) z → fits_64_bits z ≡ true
integer_fits root z a = elim (ascending_only int_cmp (pos 0 ∷ pos 1 ∷ in_scalars bounds_with_neighbours root) z a) [
  | inl e ↦ rw (← e) refl
  | inr (inl e) ↦ rw (← e) refl
  | inr (inr b) ↦ node_each (λ z. fits_64_bits z ≡ true) bounds_with_neighbours bounds_fit root z b
]
