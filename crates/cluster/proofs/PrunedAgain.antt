-- Pruning what is pruned, and which members are left.
use Rattle.std.proofs.Common.{◌≡◌, ℕ, List, Bool, true, false, Option, Some, refl, ap, ◌∙◌, inl, inr}
use Rattle.std.specs.Prelude.{if◌then◌else◌}
use Rattle.std.specs.Str.{bytes_eq}
use Rattle.jtree.specs.Data.{Data, list, object, Items, no_items, item, Members, no_members, member}
use Rattle.jtree.specs.Path.{member_at}
use Rattle.jtree.specs.Internal.Lookups.{bool_cases, same_name}
use Rattle.cluster.specs.Keywords.{member_schema, item_schema, keeps_undeclared, is_embedded}
use Rattle.cluster.specs.Pruned.{is_kept, is_entered, kept_members, items_keep, pruned, pruned_members, pruned_items}

kept_again : (r : Bool) (s : Option Data) (ms : Members) → kept_members r s (kept_members r s ms) ≡ kept_members r s ms
kept_again r s no_members = refl
kept_again r s (member k d ms) = elim (bool_cases (is_kept r s k)) [
  | inl t ↦ rw t (rw t (ap (member k d) (kept_again r s ms)))
  | inr f ↦ rw f (kept_again r s ms)
]

-- dropping and pruning the members that stay, in either order
kept_pruned : (r : Bool) (s : Option Data) (ms : Members) → pruned_members r s (kept_members r s ms) ≡ kept_members r s (pruned_members r s ms)
kept_pruned r s no_members = refl
kept_pruned r s (member k d ms) = elim (bool_cases (is_kept r s k)) [
  | inl t ↦ rw t (ap (member k (if is_entered r s k then pruned (is_embedded (member_schema k s)) (keeps_undeclared (member_schema k s)) (member_schema k s) d else d)) (kept_pruned r s ms))
  | inr f ↦ rw f (kept_pruned r s ms)
]

mutual
  pub again : (r keeps : Bool) (s : Option Data) (v : Data) → pruned r keeps s (pruned r keeps s v) ≡ pruned r keeps s v
  again r true s (object ms) = ap object (members_again r s ms)
  again r false s (object ms) =
      ap object (ap (kept_members r s) (kept_pruned r s (pruned_members r s ms)) ∙ (kept_again r s (pruned_members r s (pruned_members r s ms)) ∙ ap (kept_members r s) (members_again r s ms)))
  again r keeps s (list ds) = ap list (items_again (items_keep keeps s) (item_schema s) ds)
  again r keeps s _ = refl

  members_again : (r : Bool) (s : Option Data) (ms : Members) → pruned_members r s (pruned_members r s ms) ≡ pruned_members r s ms
  members_again r s no_members = refl
  members_again r s (member k d ms) = elim (bool_cases (is_entered r s k)) [
    | inl t ↦ rw t (λ i. member k (again (is_embedded (member_schema k s)) (keeps_undeclared (member_schema k s)) (member_schema k s) d i) (members_again r s ms i))
    | inr f ↦ rw f (ap (member k d) (members_again r s ms))
  ]

  items_again : (keeps : Bool) (s : Option Data) (ds : Items) → pruned_items keeps s (pruned_items keeps s ds) ≡ pruned_items keeps s ds
  items_again keeps s no_items = refl
  items_again keeps s (item d ds) = λ i. item (again (is_embedded s) keeps s d i) (items_again keeps s ds i)

-- ---- what is left

left_is_kept : (r : Bool) (s : Option Data) (ms : Members) (k : List ℕ) (d : Data) → member_at k (kept_members r s ms) ≡ Some d → is_kept r s k ≡ true
left_is_kept r s no_members k d e = cc
left_is_kept r s (member l x ms) k d e = elim (bool_cases (is_kept r s l)) [
  | inl t ↦ elim (bool_cases (bytes_eq k l)) [
    | inl same ↦ ap (is_kept r s) (same_name k l same) ∙ t
    | inr other ↦ left_is_kept r s ms k d (rw other at (rw t at e))
  ]
  | inr f ↦ left_is_kept r s ms k d (rw f at e)
]

members_of_object : Data → Members
members_of_object (object ms) = ms
members_of_object _ = no_members

pub only_kept : (r : Bool) (s : Option Data) (ms ns : Members) → pruned r false s (object ms) ≡ object ns → (k : List ℕ) (d : Data) → member_at k ns ≡ Some d → is_kept r s k ≡ true
unfolding members_of_object
only_kept r s ms ns is k d e = left_is_kept r s (pruned_members r s ms) k d (ap (member_at k) (ap members_of_object is) ∙ e)
