-- The nodes of a schema are ordered, the items of their lists can be distinguished, and the junctors of their objects name few fields.
use Rattle.std.specs.Prelude.{◌≡◌, ◌⊎◌, ℕ, List, [], ◌∷◌, Bool, false, Option, Some, None, All}
use Rattle.std.proofs.Common.{refl, subst, inl, inr}
use Rattle.std.proofs.lemmas.Option.{same_Some}
use Rattle.std.specs.Str.{bytes_eq}
use Rattle.std.specs.declared.cmp.Ordering.TheVariants.{Less}
use Rattle.jtree.specs.Data.{Data, no_members}
use Rattle.jtree.specs.Order.{text_cmp}
use Rattle.jtree.specs.Internal.Lookups.{own_name, later_name}
use Rattle.jtree.specs.Internal.Rising.{Among, contains, among_left, among_right, among_parts, each_of}
use Rattle.schema.specs.Document.Places.{Place, property, map_value, items}
use Rattle.schema.specs.Nodes.Node.{Node, node, Sort, scalar, object, map, list, open_, Fields, no_fields, field, IsNode, IsSort, AreOrdered}
use Rattle.schema.specs.Nodes.ByPlace.{Declared, field_at, node_at}
use Rattle.schema.specs.Nodes.Shape as shape
use Rattle.schema.specs.Nodes.Items.{HasKeys, AreDistinct, HasSoundItems}
use Rattle.schema.specs.Nodes.Junctors.{HasSoundJunctors}
use Rattle.schema.specs.declared.node.ListType.{ListType}
use Rattle.schema.specs.declared.node.ListType.TheVariants.{Atomic, Set, Map}
use Rattle.stored.specs.Schemas.Accepted.{IsSchema}
use Rattle.explain.specs.Paths.FieldPath as step
use Rattle.plan.specs.Pools.Pools.{Pools, fixed_at}
use Rattle.plan.specs.Samples.Sites.{Site, below, where_fixed, fixed_item, item_site, item_site_at, sites_from, sites_below, sites_of_fields, sites_of, item_keys, field_slots}
use Rattle.plan.specs.Internal.Building.{IsSound, AreFieldsSound}
use Rattle.plan.specs.Internal.Laws.{SchemaLaws}
use Rattle.plan.proofs.PartLemmas.{slot_of_field, fields_in_order}

-- ---- from places to nodes

abbrev IsSoundBelow : Node → Type 0
IsSoundBelow N = (p : Place) (M : Node) → node_at N p ≡ Some M → HasSoundItems M × HasSoundJunctors M

no_pools : Pools
no_pools = record { integers = []; numbers = []; strings = []; names = []; any = []; paths = no_members; present = []; fixed = no_members }

-- a field after the first has another name
pub later_field : (l : List ℕ) (N : Node) (required : Bool) (default : Option Data) (fs : Fields) → AreOrdered (field l N required default fs) → (k : List ℕ) (f : Declared) → field_at k fs ≡ Some f → bytes_eq k l ≡ false
later_field l N required default fs o k f is =
    let s = slot_of_field no_pools [] [] [] fs k f is in
    later_name k l (subst (λ n. text_cmp l n ≡ Less) s.1.1.0 ((fields_in_order no_pools [] [] [] (field l N required default fs) o).0 s.0 (contains (field_slots no_pools [] [] [] fs) s.0 s.1.0)))

mutual
  sound_from : (N : Node) → IsNode N → IsSoundBelow N → IsSound N
  sound_from (node n t (object fs preserves type b cs)) o h = let own = h [] _ refl in (own.0, own.1, fields_sound fs o (λ k f is p M found. h (property k ∷ p) M (rw is found)))
  sound_from (node n t (map N type b)) o h = let own = h [] _ refl in (own.0, own.1, sound_from N o (λ p. h (map_value ∷ p)))
  sound_from (node n t (list N type keys b)) o h = let own = h [] _ refl in (own.0, own.1, sound_from N o (λ p. h (items ∷ p)))
  sound_from (node n t (scalar kind cs)) o h = let own = h [] _ refl in (own.0, own.1, tt)
  sound_from (node n t open_) o h = (tt, tt, tt)

  fields_sound : (fs : Fields) → AreOrdered fs → ((k : List ℕ) (f : Declared) → field_at k fs ≡ Some f → IsSoundBelow f.node) → AreFieldsSound fs
  fields_sound no_fields o h = tt
  fields_sound (field l N required default fs) o h = (
    sound_from N o.0 (h l (record { node = N; required = required; default = default }) (rw (own_name l) refl)),
    fields_sound fs o.2 (λ k f is. h k f (rw (later_field l N required default fs o k f is) is)),
  )

pub schema_sound : SchemaLaws → (root : Node) → IsSchema root → IsNode root × IsSound root
schema_sound laws root h =
    let is = h.1 in
    let of : shape.IsRootOf root h.0 = record { forms = is.forms; unbroken = λ p r b. is.unbroken p r (inl b); nodes = is.nodes } in
    (is.nodes.ordered, sound_from root is.nodes.ordered (λ p M found. (laws.0 h.0 root of p M found, laws.1 h.0 root of p M found)))

-- ---- each site

itself : (P : Pools) (fixed : Option (List Data)) (path : List ℕ) (N : Node) (keys : List (List ℕ)) → Among (sites_from P fixed path N keys) (record { node = N; keys = keys; path = path; fixed = fixed })
itself P fixed path (node n t sort) keys = among_right (where_fixed fixed [] (sites_below P path sort)) _ _ (inl refl)

own_item : (P : Pools) (fixed : Option (List Data)) (path : List ℕ) (n : Bool) (t : Option (List ℕ)) (sort : Sort) (M : Site) → where_fixed fixed None (item_site_at P path (node n t sort)) ≡ Some M → Among (where_fixed fixed [] (sites_below P path sort)) M
own_item P None path n t (list N type keys b) M is =
    let below_item = fixed_item P type (below path step.item) in
    subst (Among (sites_from P below_item (below path step.item) N (item_keys type keys))) (same_Some _ M is) (itself P below_item (below path step.item) N (item_keys type keys))
own_item P None path n t sort M is = absurd (cc)
own_item P (Some ds) path n t sort M is = absurd (cc)

-- there are no keys, or they are those of the items of a map list
abbrev pub AreKeysOf : Node → List (List ℕ) → Type 0
AreKeysOf N keys = (keys ≡ []) ⊎ HasKeys N keys

keys_of_items : (type : ListType) (keys : List (List ℕ)) (N : Node) → AreDistinct type keys N → AreKeysOf N (item_keys type keys)
keys_of_items (Map e) keys N h = inr h
keys_of_items (Set e) keys N h = inl refl
keys_of_items Atomic keys N h = inl refl

-- its node is ordered, its items and those below it can be distinguished, the site of its items is one of all, and its keys are its own
abbrev pub IsSoundSite : Pools → List Site → Site → Type 0
IsSoundSite P all s = IsNode s.node × IsSound s.node × ((M : Site) → item_site P s ≡ Some M → Among all M) × AreKeysOf s.node s.keys

module _ (P : Pools) (all : List Site) where
  abbrev AreOf : List Site → Type 0
  AreOf ss = (s : Site) → Among ss s → Among all s

  mutual
    site_sound : (fixed : Option (List Data)) (path : List ℕ) (N : Node) (keys : List (List ℕ)) → IsNode N → IsSound N → AreKeysOf N keys → AreOf (sites_from P fixed path N keys) → (s : Site) → Among (sites_from P fixed path N keys) s → IsSoundSite P all s
    site_sound fixed path (node n t sort) keys o h k of s a =
        let own : Site = record { node = node n t sort; keys = keys; path = path; fixed = fixed } in
        let below_it = where_fixed fixed [] (sites_below P path sort) in
        let of_below : AreOf below_it = λ u b. of u (among_left below_it (own ∷ []) u b) in
        let here : IsSoundSite P all own = (o, h, (λ M is. of_below M (own_item P fixed path n t sort M is)), k) in
        elim (among_parts below_it (own ∷ []) s a) [
          | inl under ↦ site_below_sound fixed path n t sort o h of_below s under
          | inr last ↦ elim last [ inl e ↦ subst (IsSoundSite P all) e here | inr none ↦ absurd none ]
        ]

    site_below_sound : (fixed : Option (List Data)) (path : List ℕ) (n : Bool) (t : Option (List ℕ)) (sort : Sort) → IsSort sort → IsSound (node n t sort) → AreOf (where_fixed fixed [] (sites_below P path sort)) → (s : Site) → Among (where_fixed fixed [] (sites_below P path sort)) s → IsSoundSite P all s
    site_below_sound (Some ds) path n t sort o h of s a = absurd a
    site_below_sound None path n t (object fs preserves type b cs) o h of s a = field_site_sound path fs o h.2 of s a
    site_below_sound None path n t (map N type b) o h of s a = site_sound (fixed_at (below path step.value) P) (below path step.value) N [] o h.2 (inl refl) of s a
    site_below_sound None path n t (list N type keys b) o h of s a = site_sound (fixed_item P type (below path step.item)) (below path step.item) N (item_keys type keys) o h.2 (keys_of_items type keys N h.0) of s a
    site_below_sound None path n t (scalar kind cs) o h of s a = absurd a
    site_below_sound None path n t open_ o h of s a = absurd a

    field_site_sound : (path : List ℕ) (fs : Fields) → AreOrdered fs → AreFieldsSound fs → AreOf (sites_of_fields P path fs) → (s : Site) → Among (sites_of_fields P path fs) s → IsSoundSite P all s
    field_site_sound path no_fields o h of s a = absurd a
    field_site_sound path (field l N required default fs) o h of s a =
        let first = sites_from P (fixed_at (below path (step.field l)) P) (below path (step.field l)) N [] in
        let later = sites_of_fields P path fs in
        elim (among_parts first later s a) [
          | inl here ↦ site_sound (fixed_at (below path (step.field l)) P) (below path (step.field l)) N [] o.0 h.0 (inl refl) (λ u b. of u (among_left first later u b)) s here
          | inr there ↦ field_site_sound path fs o.2 h.1 (λ u b. of u (among_right first later u b)) s there
        ]

pub sites_sound : (P : Pools) → SchemaLaws → (root : Node) → IsSchema root → All (IsSoundSite P (sites_of P root)) (sites_of P root)
sites_sound P laws root h = let r = schema_sound laws root h in each_of _ (sites_of P root) (site_sound P (sites_of P root) None [] root [] r.0 r.1 (inl refl) (λ s a. a))

pub sound_here : (N : Node) → IsSound N → HasSoundItems N
sound_here (node n t sort) h = h.0
