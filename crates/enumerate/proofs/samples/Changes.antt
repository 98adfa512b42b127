-- Where a tree differs from the one before it.
use Rattle.std.specs.Prelude.{◌≡◌, ℕ, zero, suc, ◌+◌, List, Option, Some, None, drop}
use Rattle.std.proofs.Common.{refl, ap, sym, ◌∙◌, subst, arith, [], ◌∷◌, ◌++◌}
use Rattle.jtree.specs.Data.{Data, Items, no_items, item, Members, no_members, member, object, list}
use Rattle.jtree.specs.Last.{with_part, items_with_part, members_with_part}
use Rattle.jtree.specs.Nodes.{items_count}
use Rattle.jtree.specs.View.{data_of, items_of, members_of}
use Rattle.jtree.specs.declared.value.Member.{Member}
use Rattle.jtree.specs.declared.value.Tree.{Tree}
use Rattle.plan.specs.Pools.Pools.{Pools}
use Rattle.plan.specs.Samples.NoDeadEnd.{items_then}
use Rattle.plan.specs.Samples.RuleOfParts.{members_in}
use Rattle.plan.specs.Samples.Sites.{Slot}
use Rattle.plan.specs.Samples.Sizes.{AreFillings, filled_nodes}
use Rattle.enumerate.specs.Internal.Changes.{DiffersAt, DiffersAfter}
use Rattle.enumerate.specs.Internal.Rows.{IsGrownAt}
use Rattle.enumerate.specs.declared.row.RowSlot.{RowSlot}
use Rattle.enumerate.specs.declared.row.Ahead.{Ahead}
use Rattle.enumerate.specs.Internal.Prefixes.{members_to}
use Rattle.enumerate.specs.declared.walk.NextParts.{NextParts}
use Rattle.enumerate.specs.declared.walk.NextParts.TheVariants.{Made, Last}
use Rattle.plan.specs.Samples.Question.{Question}
use Rattle.enumerate.proofs.lists.Lemmas.{some_nodes, items_pushed, then_nodes, then_none}
use Rattle.enumerate.proofs.lists.Walks.{WereLast}
use Rattle.enumerate.proofs.rows.Slots.{no_members_in}
use Rattle.enumerate.proofs.rows.Walks.{members_pushed}

-- all of it may differ
pub differs : (old new : Data) → DiffersAt 0 old new
differs old new = record { few = omega (arith, some_nodes old); part = old; is = refl }

-- where parts grew, or there were none to grow
pub grown_differs : (room : ℕ) (old : Data) (made : NextParts) (q : Question) (t : RowSlot) (a : Ahead) (from : ℕ) (base new : List Member) → IsGrownAt made q t a from base new → DiffersAfter room old made (object (members_of new))
grown_differs room old (Made n) q t a from base new h = (λ _. subst (λ k. DiffersAt k old (object (members_of new))) (sym h.1) (differs old (object (members_of new))), λ _. h.1)
grown_differs room old (Last n) q t a from base new h = tt

-- ---- in the last member

abbrev members_then : List Member → List ℕ → Data → Members
members_then [] k d = member k d no_members
members_then (a ∷ front) k d = member a.name (data_of a.tree) (members_then front k d)

ends : (front : List Member) (one : Member) → members_of (front ++ one ∷ []) ≡ members_then front one.name (data_of one.tree)
ends [] one = refl
ends (a ∷ front) one = ap (λ ms. member a.name (data_of a.tree) ms) (ends front one)

put : (n : ℕ) (front : List Member) (k : List ℕ) (d v : Data) → members_with_part n (members_then front k d) v ≡ members_then front k (with_part n d v)
put n [] k d v = refl
put n (a ∷ []) k d v = refl
put n (a ∷ b ∷ front) k d v = ap (λ ms. member a.name (data_of a.tree) ms) (put n (b ∷ front) k d v)

pub differs_in_member : (n : ℕ) (front : List Member) (old new : Member) → old.name ≡ new.name → DiffersAt n (data_of old.tree) (data_of new.tree)
    → DiffersAt (n + 1) (object (members_of (front ++ old ∷ []))) (object (members_of (front ++ new ∷ [])))
differs_in_member n front old new name h =
    let next : n + 1 ≡ suc n = omega arith in
    let v = h.part in
    record {
      few = omega (arith, h.few, members_pushed front old);
      part = v;
      is = ap (λ k. with_part k (object (members_of (front ++ new ∷ []))) v) next
          ∙ ap (λ ms. object (members_with_part n ms v)) (ends front new)
          ∙ ap object (put n front new.name (data_of new.tree) v)
          ∙ (λ k. object (members_then front (sym name k) (h.is k)))
          ∙ ap object (sym (ends front old));
    }

-- ---- in the last item

put_item : (n : ℕ) (front : Items) (u v : Data) → items_with_part n (items_then front (item u no_items)) v ≡ items_then front (item (with_part n u v) no_items)
put_item n no_items u v = refl
put_item n (item d no_items) u v = refl
put_item n (item d (item e front)) u v = ap (λ ds. item d ds) (put_item n (item e front) u v)

pub differs_in_item : (n : ℕ) (front olds news : List Tree) (old new : Tree) → olds ≡ front ++ old ∷ [] → news ≡ front ++ new ∷ [] → DiffersAt n (data_of old) (data_of new)
    → DiffersAt (n + 1) (list (items_of olds)) (list (items_of news))
differs_in_item n front olds news old new was is h =
    let next : n + 1 ≡ suc n = omega arith in
    let v = h.part in
    let whole = items_pushed front olds old was in
    record {
      few = omega (arith, h.few, ap items_count whole, then_nodes (items_of front) (item (data_of old) no_items));
      part = v;
      is = ap (λ k. with_part k (list (items_of news)) v) next
          ∙ ap (λ ds. list (items_with_part n ds v)) (items_pushed front news new is)
          ∙ ap list (put_item n (items_of front) (data_of new) v)
          ∙ ap (λ d. list (items_then (items_of front) (item d no_items))) h.is
          ∙ ap list (sym whole);
    }

-- ---- in a row of which nothing was removed

pub all_to : (P : Pools) (place : ℕ) (ss : List Slot) (gs : List (Option Data)) → AreFillings P ss gs → filled_nodes (drop place gs) ≡ 0 → members_to place ss gs ≡ members_in ss gs
all_to P zero ss gs are none = sym (no_members_in P ss gs are none)
all_to P (suc place) [] [] are none = refl
all_to P (suc place) [] (g ∷ gs) are none = absurd are
all_to P (suc place) (s ∷ ss) [] are none = absurd are
all_to P (suc place) (s ∷ ss) (None ∷ gs) are none = all_to P place ss gs are.1 none
all_to P (suc place) (s ∷ ss) (Some v ∷ gs) are none = ap (λ ms. member s.name v ms) (all_to P place ss gs are.1 none)

-- ---- where nothing was removed after the part

pub if_last : (room n m : ℕ) (old new : Data) → (room ≡ 0 → m ≡ n + 1) → ((room ≡ 0 → ⊥) → m ≡ 0) → (room ≡ 0 → DiffersAt (n + 1) old new) → DiffersAt m old new
if_last zero n m old new last other h = subst (λ k. DiffersAt k old new) (sym (last refl)) (h refl)
if_last (suc room) n m old new last other h = subst (λ k. DiffersAt k old new) (sym (other (λ e. cc))) (differs old new)

pub if_all : (room n : ℕ) (old mid new : Data) → (room ≡ 0 → DiffersAt n mid new) → ((room ≡ 0 → ⊥) → n ≡ 0) → (room ≡ 0 → mid ≡ old) → DiffersAt n old new
if_all zero n old mid new h other same = subst (λ d. DiffersAt n d new) (same refl) (h refl)
if_all (suc room) n old mid new h other same = subst (λ k. DiffersAt k old new) (sym (other (λ e. cc))) (differs old new)

none_there : (ds : Items) → items_count ds ≡ 0 → ds ≡ no_items
none_there no_items none = refl
none_there (item d ds) none = absurd (omega (arith, none, some_nodes d))

pub none_added : (ts : List Tree) → items_count (items_of ts) ≡ 0 → ts ≡ []
none_added [] none = refl
none_added (t ∷ ts) none = absurd (omega (arith, none, some_nodes (data_of t)))

pub no_member : (ms : List Member) → members_of ms ≡ no_members → ms ≡ []
no_member [] none = refl
no_member (one ∷ ms) none = absurd (cc)

-- the items that are left are all
pub all_items : (q : Question) (i : ℕ) (old left : Items) → WereLast q i 0 old left → old ≡ left
all_items q i old left w = w.is ∙ ap (items_then left) (none_there w.after w.nodes_are) ∙ then_none left
