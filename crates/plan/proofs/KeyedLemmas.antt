-- Lists in which no two items are alike have the sizes of lists of at most as many items as there are keys.
use Rattle.std.specs.Prelude.{◌≡◌, ℕ, zero, suc, ◌+◌, ◌≤◌, ◌↔◌, List, Bool, true, false, Option, Some, None, not, nat_lt}
use Rattle.std.specs.Bool.{Decides}
use Rattle.std.proofs.Common.{refl, ap, sym, ◌∙◌, subst, inl, inr, arith, [], ◌∷◌, length}
use Rattle.std.proofs.lemmas.Bool.{and_parts, or_cases, or_parts, or_from, or_left, or_right, not-true, false_from_ne_true, iff_false}
use Rattle.std.proofs.lemmas.Bool.Decides.{nat_tests}
use Rattle.jtree.specs.Data.{Data, Items, no_items, item}
use Rattle.jtree.specs.Nodes.{node_count, items_count}
use Rattle.jtree.specs.Internal.Rising.{Among}
use Rattle.schema.specs.Rules.Keywords.{any_item}
use Rattle.schema.specs.declared.node.Bounds.{Bounds}
use Rattle.stored.specs.Objects.Fault as fault
use Rattle.stored.specs.Objects.Tests.{is_above}
use Rattle.stored.specs.Objects.StoredByParts.{are_apart, IsWithin}
use Rattle.plan.specs.Pools.Pools.{Pools}
use Rattle.plan.specs.Samples.Sites.{Site}
use Rattle.plan.specs.Samples.Part.{IsPart}
use Rattle.plan.specs.Samples.Sizes.{items_from}
use Rattle.plan.specs.Samples.RuleOfParts.{AreParts}
use Rattle.plan.specs.Samples.NoDeadEnd.{items_then}
use Rattle.plan.specs.Internal.Lists.{HasMoreFree, HasMoreApart, most_or, cut}
use Rattle.plan.specs.Internal.Keyed.{IsApart, Keyed}
use Rattle.plan.proofs.ApartLemmas.{apart_length, one_free}
use Rattle.plan.proofs.TupleLemmas.{same_tuple, tuple_laws}
use Rattle.plan.proofs.ListLemmas.{from_are, from_count}

-- ---- bounds cut to a number of items

most_cut : (o : Option ℕ) (n m : ℕ) → (nat_lt (most_or o n) m ≡ false) ↔ ((is_above o m ≡ false) × (m ≤ n))
most_cut None n m = ((λ h. (refl, grind (arith, nat_tests))), λ h. grind (arith, nat_tests))
most_cut (Some k) n m = ((λ h. (grind (arith, nat_tests), grind (arith, nat_tests))), λ h. grind (arith, nat_tests))

-- ---- items one after the other

then_none : (ds : Items) → items_then ds no_items ≡ ds
then_none no_items = refl
then_none (item d ds) = ap (λ es. item d es) (then_none ds)

pub then_are : (P : Pools) (M : Site) (ds es : Items) → AreParts P M ds → AreParts P M es → AreParts P M (items_then ds es)
then_are P M no_items es h k = k
then_are P M (item d ds) es h k = (h.0, then_are P M ds es h.1 k)

pub then_count : (ds es : Items) → fault.items_count (items_then ds es) ≡ fault.items_count ds + fault.items_count es
then_count no_items es = omega arith
then_count (item d ds) es = omega (arith, then_count ds es)

-- items of m nodes follow those before them, no two alike, so that the bounds hold
abbrev pub CompletesApart : Pools → Site → (Data → Data → Bool) → Bounds → Items → ℕ → Type 0
CompletesApart P M alike b front m = (back : Items) × (AreParts P M back × (are_apart alike (items_then front back) ≡ true) × IsWithin b (fault.items_count (items_then front back)) × (items_count back ≡ m))

-- ---- where no two items are alike

none_alike : (alike : Data → Data → Bool) → ((v w : Data) → alike v w ≡ false) → (d : Data) (ds : Items) → any_item (alike d) ds ≡ false
none_alike alike never d no_items = refl
none_alike alike never d (item e ds) = or_from (alike d e) (any_item (alike d) ds) (never d e) (none_alike alike never d ds)

all_apart : (alike : Data → Data → Bool) → ((v w : Data) → alike v w ≡ false) → (ds : Items) → are_apart alike ds ≡ true
all_apart alike never no_items = refl
all_apart alike never (item d ds) = rw (none_alike alike never d ds) (all_apart alike never ds)

pub more_free : (P : Pools) (limit : ℕ) (M : Site) (alike : Data → Data → Bool) (b : Bounds) (t m : ℕ) → ((v w : Data) → alike v w ≡ false) → HasMoreApart P limit M alike b t m ↔ HasMoreFree P limit M b t m
more_free P limit M alike b t m never = (
  (λ h. record { items = h.items; are = h.are; within = h.within; fits = h.fits; many = h.many; nodes_are = h.nodes_are }),
  λ h. record { items = h.items; are = h.are; apart = all_apart alike never h.items; within = h.within; fits = h.fits; many = h.many; nodes_are = h.nodes_are },
)

pub completes_free : (P : Pools) (limit : ℕ) (M : Site) (alike : Data → Data → Bool) (b : Bounds) (front : Items) (m : ℕ) → ((v w : Data) → alike v w ≡ false) → HasMoreApart P limit M alike b (fault.items_count front) m
    → CompletesApart P M alike b front m
completes_free P limit M alike b front m never h =
    let t = fault.items_count front in
    let back = items_from t h.items in
    let c = from_count t h.items h.many in
    (back, (from_are P M t h.items h.are, all_apart alike never (items_then front back), rw (then_count front back, c) h.within, h.nodes_are))

-- ---- where each item has a key

item_keys : (Data → List Data) → Items → List (List Data)
item_keys key no_items = []
item_keys key (item d ds) = key d ∷ item_keys key ds

keys_length : (key : Data → List Data) (ds : Items) → length (item_keys key ds) ≡ fault.items_count ds
unfolding item_keys
keys_length key no_items = refl
keys_length key (item d ds) = omega (arith, keys_length key ds)

-- nothing passes that passed neither before nor is new
none_passes : (test : Data → Bool) (front back : Items) (w : Data) → any_item test (items_then front back) ≡ false → test w ≡ false → any_item test (items_then front (item w back)) ≡ false
none_passes test no_items back w a b = or_from (test w) (any_item test back) b a
none_passes test (item d front) back w a b =
    let these = or_parts (test d) (any_item test (items_then front back)) a in
    or_from (test d) (any_item test (items_then front (item w back))) these.0 (none_passes test front back w these.1 b)

item_nodes : (v w : Data) (ds es : Items) → node_count v ≡ node_count w → ((t : ℕ) → items_count (items_from t ds) ≡ items_count (items_from t es)) → (t : ℕ) → items_count (items_from t (item v ds)) ≡ items_count (items_from t (item w es))
item_nodes v w ds es e h zero = omega (arith, h 0)
item_nodes v w ds es e h (suc t) = h t

module _ {P : Pools} {M : Site} {alike : Data → Data → Bool} (K : Keyed P M alike) where
  known_keys : (ds : Items) → AreParts P M ds → (q : List Data) → Among (item_keys K.key ds) q → Among K.keys q
  unfolding item_keys
  known_keys no_items h q a = absurd a
  known_keys (item d ds) h q (inl e) = subst (Among K.keys) e (K.known d h.0)
  known_keys (item d ds) h q (inr a) = known_keys ds h.1 q a

  any_alike : (d : Data) (ds : Items) → IsPart P M d → AreParts P M ds → Decides (any_item (alike d) ds) (Among (item_keys K.key ds) (K.key d))
  unfolding item_keys
  any_alike d no_items p h = ((λ t. absurd (cc)), λ a. absurd a)
  any_alike d (item e ds) p h =
      let r = any_alike d ds p h.1 in (
        (λ t. elim (or_cases (alike d e) (any_item (alike d) ds) t) [ inl here ↦ inl (sym (K.alike_same_key d e p h.0 here)) | inr later ↦ inr (r.0 later) ]),
        λ a. elim a [ inl same ↦ or_left (alike d e) (any_item (alike d) ds) (K.same_key_alike d e p h.0 (sym same)) | inr m ↦ or_right (alike d e) (any_item (alike d) ds) (r.1 m) ],
      )

  keys_apart : (ds : Items) → AreParts P M ds → are_apart alike ds ≡ true → IsApart (item_keys K.key ds)
  unfolding item_keys
  keys_apart no_items h a = tt
  keys_apart (item d ds) h a =
      let these = and_parts (not (any_item (alike d) ds)) (are_apart alike ds) a in
      ((λ v m e. iff_false (any_alike d ds h.0 h.1) (not-true (any_item (alike d) ds) these.0) (subst (Among (item_keys K.key ds)) (sym e) m)), keys_apart ds h.1 these.1)

  apart_count : (ds : Items) → AreParts P M ds → are_apart alike ds ≡ true → fault.items_count ds ≤ length K.keys
  apart_count ds h a = omega (arith, keys_length K.key ds, apart_length same_tuple tuple_laws (item_keys K.key ds) K.keys (keys_apart ds h a) (known_keys ds h))

  pub at_most : (n : ℕ) → length K.keys ≡ n → (ds : Items) → AreParts P M ds → are_apart alike ds ≡ true → fault.items_count ds ≤ n
  at_most n l ds h a = omega (arith, apart_count ds h a, l)

  -- one item more, with a key that no other has
  one_apart : (front back : Items) (w : Data) → AreParts P M front → AreParts P M back → IsPart P M w → are_apart alike (items_then front back) ≡ true → (Among (item_keys K.key (items_then front back)) (K.key w) → ⊥)
      → are_apart alike (items_then front (item w back)) ≡ true
  unfolding item_keys
  one_apart no_items back w f h p a free = rw (false_from_ne_true (any_item (alike w) back) (λ t. free ((any_alike w back p h).0 t))) a
  one_apart (item d front) back w f h p a free =
      let these = and_parts (not (any_item (alike d) (items_then front back))) (are_apart alike (items_then front back)) a in
      let other = false_from_ne_true (alike d w) (λ t. free (inl (K.alike_same_key d w f.0 p t))) in
      rw (none_passes (alike d) front back w (not-true (any_item (alike d) (items_then front back)) these.0) other) (one_apart front back w f.1 h p these.1 (λ m. free (inr m)))

  -- items of the same nodes after others, no two alike
  record Rekeyed (front ds : Items) : Type 0 where
    pub items : Items
    pub are : AreParts P M items
    pub apart : are_apart alike (items_then front items) ≡ true
    pub count_is : fault.items_count items ≡ fault.items_count ds
    pub nodes_are : (t : ℕ) → items_count (items_from t items) ≡ items_count (items_from t ds)

  rekeyed : (front ds : Items) → AreParts P M front → AreParts P M ds → are_apart alike front ≡ true → fault.items_count front + fault.items_count ds ≤ length K.keys → Rekeyed front ds
  rekeyed front no_items f h a l = record { items = no_items; are = tt; apart = rw then_none a; count_is = refl; nodes_are = λ t. refl }
  rekeyed front (item d ds) f h a l =
      let r = rekeyed front ds f h.1 a (omega arith) in
      let taken = item_keys K.key (items_then front r.items) in
      let k = one_free same_tuple tuple_laws K.keys taken K.apart (omega (arith, keys_length K.key (items_then front r.items), then_count front r.items, r.count_is)) in
      let w = K.given d k.0 h.0 k.1 in
      record {
        items = item w.0 r.items;
        are = (w.1.0, r.are);
        apart = one_apart front r.items w.0 f r.are w.1.0 r.apart (λ m. k.2 (subst (Among taken) {x = K.key w.0} w.1.1 m));
        count_is = ap (λ n. 1 + n) r.count_is;
        nodes_are = item_nodes w.0 d r.items ds w.1.2 r.nodes_are;
      }

  pub more_apart : (limit : ℕ) (b : Bounds) (t m : ℕ) → HasMoreApart P limit M alike b t m ↔ HasMoreFree P limit M (cut (length K.keys) b) t m
  more_apart limit b t m = (
    (λ h. record { items = h.items; are = h.are; within = (h.within.0, (most_cut b.most (length K.keys) (fault.items_count h.items)).1 (h.within.1, apart_count h.items h.are h.apart)); fits = h.fits; many = h.many; nodes_are = h.nodes_are }),
    λ h.
        let most = (most_cut b.most (length K.keys) (fault.items_count h.items)).0 h.within.1 in
        let r = rekeyed no_items h.items tt h.are refl (omega (arith, most.1)) in
        record { items = r.items; are = r.are; apart = r.apart; within = rw r.count_is (h.within.0, most.0); fits = omega (arith, h.fits, r.nodes_are 0); many = omega (arith, h.many, r.count_is); nodes_are = r.nodes_are t ∙ h.nodes_are },
  )

  pub completes_apart : (limit : ℕ) (b : Bounds) (front : Items) (m : ℕ) → AreParts P M front → are_apart alike front ≡ true → HasMoreApart P limit M alike b (fault.items_count front) m → CompletesApart P M alike b front m
  completes_apart limit b front m f a h =
      let t = fault.items_count front in
      let c = from_count t h.items h.many in
      let r = rekeyed front (items_from t h.items) f (from_are P M t h.items h.are) a (omega (arith, c, apart_count h.items h.are h.apart)) in
      (r.items, (r.are, r.apart, rw (then_count front r.items, r.count_is, c) h.within, r.nodes_are 0 ∙ h.nodes_are))
