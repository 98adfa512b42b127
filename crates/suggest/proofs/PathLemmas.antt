-- Where what is suggested is in the schema: each list is at a leaf, and each fixed value and each path that is always there is at a path of names.
use Rattle.std.proofs.Common.{◌≡◌, ℕ, List, [], ◌∷◌, ◌++◌, ◌∙◌, Bool, Option, Some, None, map, refl, sym, ap, subst, append_assoc, append-nil, inl, inr}
use Rattle.std.specs.Prelude.{option_map, option_and_then}
use Rattle.std.specs.Option.{option_to_list}
use Rattle.std.specs.Str.{bytes_eq}
use Rattle.std.proofs.lemmas.Cmp.{nat_list_cmp_total}
use Rattle.std.proofs.lemmas.Option.{none-some}
use Rattle.jtree.specs.Data.{Data}
use Rattle.jtree.specs.Path.{under}
use Rattle.jtree.specs.Internal.Lookups.{bool_cases, same_name, own_name, later_name}
use Rattle.jtree.specs.Internal.Rising.{Among, among_parts}
use Rattle.jtree.specs.Order.{text_cmp}
use Rattle.std.specs.declared.cmp.Ordering.TheVariants.{Less}
use Rattle.schema.specs.Document.Texts.{is_among}
use Rattle.schema.specs.Nodes.Node.{Validations, Node, node, scalar, object, map as map_node, list as list_node, open_, Fields, no_fields, field, IsNode, AreOrdered}
use Rattle.schema.specs.Nodes.ByPlace.{Declared, field_at, node_below, node_at}
use Rattle.schema.specs.declared.node.Bounds.{Bounds}
use Rattle.schema.specs.declared.node.MapType.{MapType}
use Rattle.explain.specs.Paths.FieldPath.{FieldStep, FieldPath, place_step, place_of}
use Rattle.explain.specs.Paths.FieldPath as step
use Rattle.explain.specs.Paths.PathText.{step_text, path_text}
use Rattle.plan.specs.Samples.Candidates.{sort_at}
use Rattle.plan.specs.Samples.Site.{below}
use Rattle.plan.specs.declared.sort.Sort.TheVariants.{Leaf}
use Rattle.suggest.specs.Suggested.LeafValues.{General, leaf_values}
use Rattle.suggest.specs.Suggested.Lists.{Entry, entry_of, schema_of_field, schema_of_items, schema_of_values, lists_at, lists_of_fields}
use Rattle.suggest.specs.Suggested.ValuesBelow.{field_values, item_values, member_values}
use Rattle.suggest.specs.Suggested.Varied.{Suggestions, leads_on, lists_alone, as_in_object, suggestions_at, suggestions_below, suggestions_of_fields}

-- ---- fields that follow others

pub later_other : (k l : List ℕ) (N : Node) (required : Bool) (default : Option Data) (fs : Fields) (f : Declared) → AreOrdered (field l N required default fs) → field_at k fs ≡ Some f → text_cmp l k ≡ Less
later_other k l N required default no_fields f ordered found = absurd (none-some f found)
later_other k l N required default (field m M r d fs) f ordered found = elim (bool_cases (bytes_eq k m)) [
  | inl t ↦ subst (λ n. text_cmp l n ≡ Less) (sym (same_name k m t)) ordered.1
  | inr o ↦ nat_list_cmp_total.trans l m k ordered.1 (later_other k m M r d fs f ordered.2 (rw o at found))
]

-- something holds of the path and the node of one of the fields
pub record Under (R : List ℕ → Node → Type 0) (front : List ℕ) (fs : Fields) : Type 0 where
  pub name : List ℕ
  pub declared : Declared
  pub found : field_at name fs ≡ Some declared
  pub here : R (below front (step.field name)) declared.node

under_first : (R : List ℕ → Node → Type 0) (front k : List ℕ) (N : Node) (required : Bool) (default : Option Data) (fs : Fields) → R (below front (step.field k)) N → Under R front (field k N required default fs)
under_first R front k N required default fs here = record { name = k; declared = record { node = N; required = required; default = default }; found = rw own_name refl; here = here }

under_later : (R : List ℕ → Node → Type 0) (front k : List ℕ) (N : Node) (required : Bool) (default : Option Data) (fs : Fields) → AreOrdered (field k N required default fs) → Under R front fs → Under R front (field k N required default fs)
under_later R front k N required default fs ordered u =
    let other = later_name u.name k (later_other u.name k N required default fs u.declared ordered u.found) in
    record { name = u.name; declared = u.declared; found = rw other u.found; here = u.here }

-- ---- a leaf

pub record IsLeafAt (front : List ℕ) (N : Node) (text : List ℕ) : Type 0 where
  pub path : FieldPath
  pub node : Node
  pub there : node_at N (place_of path) ≡ Some node
  pub leaf : sort_at node ≡ Leaf
  pub is : text ≡ front ++ path_text path

leaf_above : (front : List ℕ) (N M : Node) (s : FieldStep) (text : List ℕ) → node_below N (place_step s) ≡ Some M → IsLeafAt (below front s) M text → IsLeafAt front N text
leaf_above front N M s text leads l = record {
  path = s ∷ l.path;
  node = l.node;
  there = ap (option_and_then (λ L. node_at L (place_of l.path))) leads ∙ l.there;
  leaf = l.leaf;
  is = l.is ∙ append_assoc front (step_text s) (path_text l.path);
}

pub record IsListed (G : General) (vs : List Data) (front : List ℕ) (N : Node) (e : Entry) : Type 0 where
  pub leaf : IsLeafAt front N e.path
  pub standing : List Data
  pub default : Option Data
  pub schema : Option Data
  pub values : e.values ≡ leaf_values G standing default schema leaf.node
  pub none : vs ≡ [] → standing ≡ []
  pub some : e.values ≡ [] → ⊥

listed_above : (G : General) (vs ws : List Data) (front : List ℕ) (N M : Node) (s : FieldStep) (e : Entry) → (vs ≡ [] → ws ≡ []) → node_below N (place_step s) ≡ Some M → IsListed G ws (below front s) M e → IsListed G vs front N e
unfolding leaf_above
listed_above G vs ws front N M s e none leads l =
    record { leaf = leaf_above front N M s e.path leads l.leaf; standing = l.standing; default = l.default; schema = l.schema; values = l.values; none = λ h. l.none (none h); some = l.some }

listed_before : (G : General) (vs ws : List Data) (front : List ℕ) (N : Node) (e : Entry) → (vs ≡ [] → ws ≡ []) → IsListed G ws front N e → IsListed G vs front N e
listed_before G vs ws front N e none l = record { leaf = l.leaf; standing = l.standing; default = l.default; schema = l.schema; values = l.values; none = λ h. l.none (none h); some = l.some }

pub entry_among : (path : List ℕ) (values : List Data) (e : Entry) → Among (entry_of path values) e → (e.path ≡ path) × (e.values ≡ values) × (e.values ≡ [] → ⊥)
entry_among path [] e a = absurd a
entry_among path (v ∷ vs) e (inl same) = let values : e.values ≡ v ∷ vs = ap (λ x. x.values) (sym same) in (ap (λ x. x.path) (sym same), values, λ none. cc)
entry_among path (v ∷ vs) e (inr a) = absurd a

listed_here : (G : General) (vs : List Data) (default schema : Option Data) (front : List ℕ) (N : Node) (e : Entry) → sort_at N ≡ Leaf → Among (entry_of front (leaf_values G vs default schema N)) e → IsListed G vs front N e
listed_here G vs default schema front N e leaf a =
    let h = entry_among front (leaf_values G vs default schema N) e a in
    record { leaf = record { path = []; node = N; there = refl; leaf = leaf; is = h.0 ∙ sym (append-nil front) }; standing = vs; default = default; schema = schema; values = h.1; none = λ x. x; some = h.2 }

mutual
  pub lists_listed : (G : General) (vs : List Data) (default schema : Option Data) (front : List ℕ) (N : Node) → IsNode N → (e : Entry) → Among (lists_at G vs default schema front N) e → IsListed G vs front N e
  lists_listed G vs default schema front (node n d (scalar kind cs)) ordered e a = listed_here G vs default schema front (node n d (scalar kind cs)) e refl a
  lists_listed G vs default schema front (node n d open_) ordered e a = listed_here G vs default schema front (node n d open_) e refl a
  lists_listed G vs default schema front (node n d (object fs preserves type bounds cs)) ordered e a =
      let u = fields_listed G vs schema front fs ordered e a in
      listed_above G vs vs front (node n d (object fs preserves type bounds cs)) u.declared.node (step.field u.name) e (λ x. x) (ap (option_map (λ f. f.node)) u.found) u.here
  lists_listed G vs default schema front (node n d (map_node N type bounds)) ordered e a =
      listed_above G vs (member_values vs) front (node n d (map_node N type bounds)) N step.value e (λ h. ap member_values h) refl (lists_listed G (member_values vs) None (schema_of_values schema) (below front step.value) N ordered e a)
  lists_listed G vs default schema front (node n d (list_node N type keys bounds)) ordered e a =
      listed_above G vs (item_values vs) front (node n d (list_node N type keys bounds)) N step.item e (λ h. ap item_values h) refl (lists_listed G (item_values vs) None (schema_of_items schema) (below front step.item) N ordered e a)

  pub fields_listed : (G : General) (vs : List Data) (schema : Option Data) (front : List ℕ) (fs : Fields) → AreOrdered fs → (e : Entry) → Among (lists_of_fields G vs schema front fs) e → Under (λ at M. IsListed G vs at M e) front fs
  fields_listed G vs schema front no_fields ordered e a = absurd a
  fields_listed G vs schema front (field k N required default fs) ordered e a =
      elim (among_parts (lists_at G (field_values k vs) default (schema_of_field schema k) (below front (step.field k)) N) (lists_of_fields G vs schema front fs) e a) [
        | inl h ↦ under_first (λ at M. IsListed G vs at M e) front k N required default fs
            (listed_before G vs (field_values k vs) (below front (step.field k)) N e (λ x. ap (field_values k) x) (lists_listed G (field_values k vs) default (schema_of_field schema k) (below front (step.field k)) N ordered.0 e h))
        | inr h ↦ under_later (λ at M. IsListed G vs at M e) front k N required default fs ordered (fields_listed G vs schema front fs ordered.2 e h)
      ]

-- ---- a path of names

pub record IsNamedAt (front : List ℕ) (N : Node) (text : List ℕ) : Type 0 where
  pub names : List (List ℕ)
  pub node : Node
  pub there : node_at N (place_of (map step.field names)) ≡ Some node
  pub is : text ≡ front ++ path_text (map step.field names)

named_here : (front : List ℕ) (N : Node) (text : List ℕ) → text ≡ front → IsNamedAt front N text
named_here front N text e = record { names = []; node = N; there = refl; is = e ∙ sym (append-nil front) }

named_above : (front : List ℕ) (N M : Node) (k text : List ℕ) → node_below N (place_step (step.field k)) ≡ Some M → IsNamedAt (below front (step.field k)) M text → IsNamedAt front N text
named_above front N M k text leads l = record {
  names = k ∷ l.names;
  node = l.node;
  there = ap (option_and_then (λ L. node_at L (place_of (map step.field l.names)))) leads ∙ l.there;
  is = l.is ∙ append_assoc front (step_text (step.field k)) (path_text (map step.field l.names));
}

-- ---- what is suggested of an object

-- where the lists, the fixed values and the paths that are always there are
record AreAt (front : List ℕ) (N : Node) (s : Suggestions) : Type 0 where
  pub lists : (e : Entry) → Among s.lists e → IsLeafAt front N e.path
  pub fixed : (e : Entry) → Among s.fixed e → IsNamedAt front N e.path
  pub present : (t : List ℕ) → Among s.present t → IsNamedAt front N t

pub record AreUnder (front : List ℕ) (fs : Fields) (s : Suggestions) : Type 0 where
  pub lists : (e : Entry) → Among s.lists e → Under (λ at M. IsLeafAt at M e.path) front fs
  pub fixed : (e : Entry) → Among s.fixed e → Under (λ at M. IsNamedAt at M e.path) front fs
  pub present : (t : List ℕ) → Among s.present t → Under (λ at M. IsNamedAt at M t) front fs

free_at : (G : General) (v default schema : Option Data) (front : List ℕ) (N : Node) → IsNode N → AreAt front N (lists_alone G (option_to_list v) default schema front N)
free_at G v default schema front N ordered = record {
  lists = λ e a. (lists_listed G (option_to_list v) default schema front N ordered e a).leaf;
  fixed = λ e a. absurd a;
  present = λ t a. absurd a;
}

kept_at : (front : List ℕ) (v : Option Data) (N : Node) → AreAt front N (as_in_object front v)
kept_at front None N = record {
  lists = λ e a. absurd a;
  fixed = λ e a. elim a [ inl same ↦ named_here front N e.path (ap (λ x. x.path) (sym same)) | inr n ↦ absurd n ];
  present = λ t a. absurd a;
}
kept_at front (Some v) N = record {
  lists = λ e a. absurd a;
  fixed = λ e a. elim a [ inl same ↦ named_here front N e.path (ap (λ x. x.path) (sym same)) | inr n ↦ absurd n ];
  present = λ t a. elim a [ inl same ↦ named_here front N t (sym same) | inr n ↦ absurd n ];
}

object_at : (front : List ℕ) (n : Bool) (d : Option (List ℕ)) (fs : Fields) (preserves : Bool) (type : MapType) (bounds : Bounds) (cs : Validations) (s : Suggestions) → AreUnder front fs s
    → AreAt front (node n d (object fs preserves type bounds cs)) s
object_at front n d fs preserves type bounds cs s u = record {
  lists = λ e a. let h = u.lists e a in leaf_above front (node n d (object fs preserves type bounds cs)) h.declared.node (step.field h.name) e.path (ap (option_map (λ f. f.node)) h.found) h.here;
  fixed = λ e a. let h = u.fixed e a in named_above front (node n d (object fs preserves type bounds cs)) h.declared.node h.name e.path (ap (option_map (λ f. f.node)) h.found) h.here;
  present = λ t a. let h = u.present t a in named_above front (node n d (object fs preserves type bounds cs)) h.declared.node h.name t (ap (option_map (λ f. f.node)) h.found) h.here;
}

pub object_leaf : (front : List ℕ) (n : Bool) (d : Option (List ℕ)) (fs : Fields) (preserves : Bool) (type : MapType) (bounds : Bounds) (cs : Validations) (text : List ℕ) → Under (λ at M. IsLeafAt at M text) front fs
    → IsLeafAt front (node n d (object fs preserves type bounds cs)) text
object_leaf front n d fs preserves type bounds cs text h = leaf_above front (node n d (object fs preserves type bounds cs)) h.declared.node (step.field h.name) text (ap (option_map (λ f. f.node)) h.found) h.here

asked_at : (front : List ℕ) (N : Node) (s : Suggestions) → AreAt front N s → AreAt front N (record { lists = s.lists; names = s.names; fixed = s.fixed; present = front ∷ s.present })
asked_at front N s h = record {
  lists = h.lists;
  fixed = h.fixed;
  present = λ t a. elim a [ inl same ↦ named_here front N t (sym same) | inr b ↦ h.present t b ];
}

nothing_at : (front : List ℕ) (N : Node) → AreAt front N (record { lists = []; names = []; fixed = []; present = [] })
nothing_at front N = record { lists = λ e a. absurd a; fixed = λ e a. absurd a; present = λ t a. absurd a }

said_is_at : (G : General) (ts : List (List ℕ)) (v default schema : Option Data) (front : List ℕ) (N : Node) → IsNode N → AreAt front N (suggestions_below G ts v schema front N) → AreAt front N (suggestions_at G ts v default schema front N)
said_is_at G ts v default schema front N ordered below_at = elim (bool_cases (is_among front ts)) [
  | inl t ↦ rw t (free_at G v default schema front N ordered)
  | inr f ↦ rw f (elim (bool_cases (leads_on front ts)) [
    | inl l ↦ rw l (asked_at front N (suggestions_below G ts v schema front N) below_at)
    | inr o ↦ rw o (kept_at front v N)
  ])
]

mutual
  below_is_at : (G : General) (ts : List (List ℕ)) (v schema : Option Data) (front : List ℕ) (N : Node) → IsNode N → AreAt front N (suggestions_below G ts v schema front N)
  below_is_at G ts v schema front (node n d (object fs preserves type bounds cs)) ordered = object_at front n d fs preserves type bounds cs (suggestions_of_fields G ts v schema front fs) (said_is_under G ts v schema front fs ordered)
  below_is_at G ts v schema front (node n d (scalar kind cs)) ordered = nothing_at front _
  below_is_at G ts v schema front (node n d open_) ordered = nothing_at front _
  below_is_at G ts v schema front (node n d (map_node N type bounds)) ordered = nothing_at front _
  below_is_at G ts v schema front (node n d (list_node N type keys bounds)) ordered = nothing_at front _

  pub said_is_under : (G : General) (ts : List (List ℕ)) (v schema : Option Data) (front : List ℕ) (fs : Fields) → AreOrdered fs → AreUnder front fs (suggestions_of_fields G ts v schema front fs)
  said_is_under G ts v schema front no_fields ordered = record { lists = λ e a. absurd a; fixed = λ e a. absurd a; present = λ t a. absurd a }
  said_is_under G ts v schema front (field k N required default fs) ordered =
      let w = option_and_then (λ o. under o k) v in
      let at = below front (step.field k) in
      let here = said_is_at G ts w default (schema_of_field schema k) at N ordered.0 (below_is_at G ts w (schema_of_field schema k) at N ordered.0) in
      let later = said_is_under G ts v schema front fs ordered.2 in
      let first = suggestions_at G ts w default (schema_of_field schema k) at N in
      let rest = suggestions_of_fields G ts v schema front fs in
      record {
        lists = λ e a. elim (among_parts first.lists rest.lists e a) [
          | inl h ↦ under_first (λ at M. IsLeafAt at M e.path) front k N required default fs (here.lists e h)
          | inr h ↦ under_later (λ at M. IsLeafAt at M e.path) front k N required default fs ordered (later.lists e h)
        ];
        fixed = λ e a. elim (among_parts first.fixed rest.fixed e a) [
          | inl h ↦ under_first (λ at M. IsNamedAt at M e.path) front k N required default fs (here.fixed e h)
          | inr h ↦ under_later (λ at M. IsNamedAt at M e.path) front k N required default fs ordered (later.fixed e h)
        ];
        present = λ t a. elim (among_parts first.present rest.present t a) [
          | inl h ↦ under_first (λ at M. IsNamedAt at M t) front k N required default fs (here.present t h)
          | inr h ↦ under_later (λ at M. IsNamedAt at M t) front k N required default fs ordered (later.present t h)
        ];
      }
