-- A schema has one tree of nodes at most.
use Rattle.std.proofs.Common.{◌≡◌, ℕ, List, [], ◌∷◌, Bool, true, false, Option, Some, None, refl, sym, ap, ◌∙◌, subst, inl, inr}
use Rattle.std.specs.Prelude.{option_map}
use Rattle.std.specs.Str.{bytes_eq}
use Rattle.std.specs.declared.cmp.Ordering.TheVariants.{Less}
use Rattle.std.proofs.lemmas.Option.{option_and_then_some, same_Some}
use Rattle.std.proofs.lemmas.Cmp.{nat_list_cmp_total}
use Rattle.jtree.specs.Data.{Data, Items, no_items, item}
use Rattle.jtree.specs.Order.{text_cmp}
use Rattle.jtree.specs.Internal.Lookups.{bool_cases, same_name, own_name, later_name, earlier_name, not_itself}
use Rattle.schema.specs.Document.Places.{Step, property, map_value, items, schema_by}
use Rattle.schema.specs.Document.Raw.{Raw, raw_by}
use Rattle.schema.specs.Rules.Kinds as kinds
use Rattle.schema.specs.Rules.Kinds.{IsOfKind}
use Rattle.schema.specs.Nodes.Validations.{AreConstraintsOf, AreValidationsOf, AreObjectJunctorsOf, AreBranchesOf}
use Rattle.schema.specs.Nodes.Node.{Validations, validations, Branches, no_branches, branch, Node, node, Sort, scalar, object, map, list, open_, Fields, no_fields, field, IsNode, IsBeforeFields, AreOrdered}
use Rattle.schema.specs.Nodes.ByPlace.{sort_kind, AreBoundsOf, HasKeywords, IsNodeHere, AreFieldsHere, Declared, field_at, node_below, IsNodePlace, AreNodesOf}
use Rattle.schema.specs.declared.node.Bounds.{Bounds}
use Rattle.schema.specs.declared.node.Constraints.{Constraints}
use Rattle.schema.specs.declared.node.ScalarKind.{ScalarKind}
use Rattle.schema.specs.declared.node.MapType.{MapType}
use Rattle.schema.proofs.KindLemmas.{one_kind}
use Rattle.schema.proofs.ShapeLemmas.{place_more, place_rest}
use Rattle.schema.specs.declared.profile.Profile.{Profile}
use Rattle.schema.specs.declared.profile.Profile.TheVariants.{Core}

-- ---- sorts by their kinds

abbrev pub scalar_of : kinds.Kind → Option ScalarKind
scalar_of (kinds.scalar k) = Some k
scalar_of _ = None

abbrev pub scalar_in : Sort → Option ScalarKind
scalar_in (scalar kind cs) = Some kind
scalar_in _ = None

pub scalar_kind_is : (A : Sort) → scalar_of (sort_kind A) ≡ scalar_in A
scalar_kind_is (scalar kind cs) = refl
scalar_kind_is _ = refl

-- ---- keywords say what is asked of a value

same_bounds : (b c : Bounds) (s : Data) (least most : List ℕ) → AreBoundsOf b s least most → AreBoundsOf c s least most → b ≡ c
same_bounds b c s least most h k = λ i. record { least = (h.0 ∙ sym k.0) i; most = (h.1 ∙ sym k.1) i }

same_constraints : (profile : Profile) (t u : Constraints) (s : Data) → AreConstraintsOf profile t s → AreConstraintsOf profile u s → t ≡ u
same_constraints profile t u s h k = λ i. record {
  choices = (h.choices ∙ sym k.choices) i;
  minimum = (h.minimum ∙ sym k.minimum) i;
  maximum = (h.maximum ∙ sym k.maximum) i;
  exclusive_minimum = (h.exclusive_minimum ∙ sym k.exclusive_minimum) i;
  exclusive_maximum = (h.exclusive_maximum ∙ sym k.exclusive_maximum) i;
  lengths = record { least = (h.least_length ∙ sym k.least_length) i; most = (h.most_length ∙ sym k.most_length) i };
  written = (h.written ∙ sym k.written) i;
  required = (h.required ∙ sym k.required) i;
}

mutual
  same_validations : (profile : Profile) (c d : Validations) (s : Data) → AreValidationsOf profile c s → AreValidationsOf profile d s → c ≡ d
  same_validations profile (validations t a b e n) (validations u f g j m) s h k = λ i.
      validations (same_constraints profile t u s h.0 k.0 i) (same_branches profile a f _ h.1 k.1 i) (same_branches profile b g _ h.2 k.2 i) (same_branches profile e j _ h.3 k.3 i) (same_branches profile n m _ h.4 k.4 i)

  same_branches : (profile : Profile) (cs ds : Branches) (ss : Items) → AreBranchesOf profile cs ss → AreBranchesOf profile ds ss → cs ≡ ds
  same_branches profile no_branches no_branches no_items h k = refl
  same_branches profile (branch c cs) (branch d ds) (item s ss) h k = λ i. branch (same_validations profile c d s h.0 k.0 i) (same_branches profile cs ds ss h.1 k.1 i)
  same_branches profile no_branches _ (item s ss) h k = absurd h
  same_branches profile (branch c cs) _ no_items h k = absurd h
  same_branches profile _ _ _ h k = absurd k

same_object_junctors : (c d : Validations) (s : Data) → AreObjectJunctorsOf c s → AreObjectJunctorsOf d s → c ≡ d
same_object_junctors (validations t a b e n) (validations u f g j m) s h k = λ i.
    validations ((h.0 ∙ sym k.0) i) (same_branches Core a f _ h.1 k.1 i) (same_branches Core b g _ h.2 k.2 i) (same_branches Core e j _ h.3 k.3 i) (same_branches Core n m _ h.4 k.4 i)

-- ---- fields by their names

field_first : (k l : List ℕ) (N : Node) (r : Bool) (e : Option Data) (fs : Fields) → bytes_eq k l ≡ true
    → field_at k (field l N r e fs) ≡ Some (record { node = N; required = r; default = e })
field_first k l N r e fs is = rw is refl

field_later : (k l : List ℕ) (N : Node) (r : Bool) (e : Option Data) (fs : Fields) → bytes_eq k l ≡ false → field_at k (field l N r e fs) ≡ field_at k fs
field_later k l N r e fs other = rw other refl

fields_trans : (k l : List ℕ) (fs : Fields) → text_cmp k l ≡ Less → IsBeforeFields l fs → IsBeforeFields k fs
fields_trans k l no_fields less before = tt
fields_trans k l (field m N r e fs) less before = nat_list_cmp_total.trans k l m less before

-- a name before all fields is before each of them
before_field : (k : List ℕ) (fs : Fields) (l : List ℕ) (f : Declared) → IsBeforeFields k fs → AreOrdered fs → field_at l fs ≡ Some f → text_cmp k l ≡ Less
before_field k no_fields l f before ordered at = cc
before_field k (field m N r e fs) l f before ordered at = elim (bool_cases (bytes_eq l m)) [
  | inl t ↦ subst (λ n. text_cmp k n ≡ Less) (sym (same_name l m t)) before
  | inr other ↦ before_field k fs l f (fields_trans k m fs before ordered.1) ordered.2 (sym (field_later l m N r e fs other) ∙ at)
]

-- ---- nodes one step below

pub found_node : (o : Option Declared) (M : Node) → option_map (λ f. f.node) o ≡ Some M → (f : Declared) × (o ≡ Some f) × (f.node ≡ M)
found_node None M h = cc
found_node (Some f) M h = (f, refl, same_Some f.node M h)

ordered_field : (k : List ℕ) (fs : Fields) (f : Declared) → AreOrdered fs → field_at k fs ≡ Some f → IsNode f.node
ordered_field k no_fields f ordered found = cc
ordered_field k (field l N r e fs) f ordered found = elim (bool_cases (bytes_eq k l)) [
  | inl t ↦ subst (λ g. IsNode g.node) (same_Some (record { node = N; required = r; default = e }) f (sym (field_first k l N r e fs t) ∙ found)) ordered.0
  | inr other ↦ ordered_field k fs f ordered.2 (sym (field_later k l N r e fs other) ∙ found)
]

ordered_below : (N M : Node) (step : Step) → IsNode N → node_below N step ≡ Some M → IsNode M
ordered_below (node n d (object fs p t b cs)) M (property k) ordered leads =
    let f = found_node (field_at k fs) M leads in
    subst IsNode f.2 (ordered_field k fs f.0 ordered f.1)
ordered_below (node n d (map N t b)) M map_value ordered leads = subst IsNode (same_Some N M leads) ordered
ordered_below (node n d (list N t k b)) M items ordered leads = subst IsNode (same_Some N M leads) ordered
ordered_below _ _ _ ordered leads = cc

-- the two are the nodes of one schema
abbrev AreOfOne : (profile : Profile) → Node → Node → Type 0
AreOfOne profile N M = (root : Bool) × (s : Data) × AreNodesOf root N (raw_by profile s) × AreNodesOf root M (raw_by profile s)

turned : (profile : Profile) (N M : Node) → AreOfOne profile N M → AreOfOne profile M N
turned profile N M h = (h.0, h.1, h.3, h.2)

pub here : (profile : Profile) (root : Bool) (N : Node) (s : Data) → AreNodesOf root N (raw_by profile s) → IsNodeHere profile N s × AreFieldsHere N s
here profile root N s h =
    let first = h.each [] s (refl, λ is e. absurd (cc)) refl in
    subst (λ M. IsNodeHere profile M s × AreFieldsHere M s) (sym (same_Some N first.0 first.1)) (first.2, first.3)

nodes_below : (profile : Profile) (root : Bool) (N M : Node) (s d : Data) (step : Step) → AreNodesOf root N (raw_by profile s) → IsNodePlace root (step ∷ []) → node_below N step ≡ Some M
    → schema_by s step ≡ Some d → AreNodesOf false M (raw_by profile d)
nodes_below profile root N M s d step h place leads by = record {
  ordered = ordered_below N M step h.ordered leads;
  each = λ p t below found.
      let got = h.each (step ∷ p) t (place_more root step p place below) (rw by found) in
      (got.0, rw leads at got.1, got.2, got.3);
  only = λ p K at_p.
      let got = h.only (step ∷ p) K (rw leads at_p) in
      (place_rest root step p got.0, (got.1.0, rw by at got.1.1));
}

-- the schema of the node to which a step leads
pub schema_below : (profile : Profile) (root : Bool) (N M : Node) (s : Data) (step : Step) → AreNodesOf root N (raw_by profile s) → node_below N step ≡ Some M
    → (d : Data) × IsNodePlace root (step ∷ []) × (schema_by s step ≡ Some d) × AreNodesOf false M (raw_by profile d)
schema_below profile root N M s step h leads =
    let first = h.only (step ∷ []) M (rw leads refl) in
    option_and_then_some (λ t. Some t) (schema_by s step) first.1.0 first.1.1 (λ d by _. (d, first.0, by, nodes_below profile root N M s d step h first.0 leads by))

-- the node of the schema to which a step leads
pub node_of_below : (profile : Profile) (root : Bool) (N : Node) (s d : Data) (step : Step) → AreNodesOf root N (raw_by profile s) → IsNodePlace root (step ∷ []) → schema_by s step ≡ Some d
    → (M : Node) × (node_below N step ≡ Some M) × AreNodesOf false M (raw_by profile d)
node_of_below profile root N s d step h place by =
    let first = h.each (step ∷ []) d place (rw by refl) in
    option_and_then_some (λ K. Some K) (node_below N step) first.0 first.1 (λ M leads _. (M, leads, nodes_below profile root N M s d step h place leads by))

-- where a step leads in one tree, it leads in the other
both_below : (profile : Profile) (N M K : Node) (step : Step) → AreOfOne profile N M → node_below N step ≡ Some K → (L : Node) × (node_below M step ≡ Some L) × AreOfOne profile K L
both_below profile N M K step both leads =
    let d = schema_below profile both.0 N K both.1 step both.2 leads in
    let L = node_of_below profile both.0 M both.1 d.0 step both.3 d.1 d.2 in
    (L.0, L.1, (false, d.0, d.3, L.2))

-- ---- fields one by one

-- each field has one in the other list that is the same but for the nodes, which are nodes of one schema
abbrev AreAlike : (profile : Profile) → Fields → Fields → Type 0
AreAlike profile fs gs = (k : List ℕ) (f : Declared) → field_at k fs ≡ Some f
    → (g : Declared) × (field_at k gs ≡ Some g) × (f.required ≡ g.required) × (f.default ≡ g.default) × AreOfOne profile f.node g.node

after_first : (k l : List ℕ) (N : Node) (r : Bool) (e : Option Data) (fs : Fields) (f : Declared) → AreOrdered (field l N r e fs) → field_at k (field l N r e fs) ≡ Some f
    → bytes_eq k l ≡ false → text_cmp l k ≡ Less
after_first k l N r e fs f ordered found other = before_field l fs k f ordered.1 ordered.2 (sym (field_later k l N r e fs other) ∙ found)

same_first : (profile : Profile) (k l : List ℕ) (N M : Node) (r q : Bool) (e o : Option Data) (fs gs : Fields) → AreOrdered (field k N r e fs) → AreOrdered (field l M q o gs)
    → AreAlike profile (field k N r e fs) (field l M q o gs) → AreAlike profile (field l M q o gs) (field k N r e fs) → k ≡ l
same_first profile k l N M r q e o fs gs u v a b = elim (bool_cases (bytes_eq k l)) [
  | inl t ↦ same_name k l t
  | inr differ ↦
      let g = a k (record { node = N; required = r; default = e }) (field_first k k N r e fs (own_name k)) in
      let f = b l (record { node = M; required = q; default = o }) (field_first l l M q o gs (own_name l)) in
      let l_first : text_cmp l k ≡ Less = after_first k l M q o gs g.0 v g.1 differ in
      let k_first : text_cmp k l ≡ Less = after_first l k N r e fs f.0 u f.1 (earlier_name l k l_first) in
      absurd (not_itself k k refl (nat_list_cmp_total.trans k l k k_first l_first))
]

rest_alike : (profile : Profile) (k l : List ℕ) (N M : Node) (r q : Bool) (e o : Option Data) (fs gs : Fields) → k ≡ l → AreOrdered (field k N r e fs)
    → AreAlike profile (field k N r e fs) (field l M q o gs) → AreAlike profile fs gs
rest_alike profile k l N M r q e o fs gs same u a m f found =
    let other : bytes_eq m k ≡ false = later_name m k (before_field k fs m f u.1 u.2 found) in
    let g = a m f (field_later m k N r e fs other ∙ found) in
    (g.0, sym (field_later m l M q o gs (subst (λ n. bytes_eq m n ≡ false) same other)) ∙ g.1, g.2, g.3, g.4)

fields_alike : (profile : Profile) (n m : Bool) (d e : Option (List ℕ)) (fs gs : Fields) (p q : Bool) (t u : MapType) (b c : Bounds) (cs ds : Validations)
    → AreOfOne profile (node n d (object fs p t b cs)) (node m e (object gs q u c ds)) → AreAlike profile fs gs
fields_alike profile n m d e fs gs p q t u b c cs ds both = λ k f found.
    let N = node n d (object fs p t b cs) in
    let M = node m e (object gs q u c ds) in
    let below = both_below profile N M f.node (property k) both (rw found refl) in
    let g = found_node (field_at k gs) below.0 below.1 in
    let x = (here profile both.0 N both.1 both.2).1 k f found in
    let y = (here profile both.0 M both.1 both.3).1 k g.0 g.1 in
    (g.0, g.1, x.0 ∙ sym y.0, x.1 ∙ sym y.1, subst (AreOfOne profile f.node) (sym g.2) below.2)

-- ---- the whole

mutual
  same_node : (profile : Profile) (N M : Node) → AreOfOne profile N M → N ≡ M
  same_node profile (node n d A) (node m e B) both =
      let s = both.1 in
      let x = (here profile both.0 (node n d A) s both.2).0 in
      let y = (here profile both.0 (node m e B) s both.3).0 in
      let kind_is = one_kind profile s (sort_kind A) (sort_kind B) x.2 y.2 in
      let scalar_is = sym (scalar_kind_is A) ∙ (ap scalar_of kind_is ∙ scalar_kind_is B) in
      λ i. node ((x.0 ∙ sym y.0) i) ((x.1 ∙ sym y.1) i) (same_sort profile A B n m d e s kind_is scalar_is x.3 y.3 both i)

  same_sort : (profile : Profile) (A B : Sort) (n m : Bool) (d e : Option (List ℕ)) (s : Data) → sort_kind A ≡ sort_kind B → scalar_in A ≡ scalar_in B → HasKeywords profile A s → HasKeywords profile B s
      → AreOfOne profile (node n d A) (node m e B) → A ≡ B
  same_sort profile (scalar k v) (scalar l w) n m d e s kind_is scalar_is x y both = λ i. scalar (same_Some k l scalar_is i) (same_validations profile v w s x y i)
  same_sort profile (object fs p t b cs) (object gs q u c ds) n m d e s kind_is scalar_is x y both =
      let alike = fields_alike profile n m d e fs gs p q t u b c cs ds both in
      let back = fields_alike profile m n e d gs fs q p u t c b ds cs (turned profile (node n d (object fs p t b cs)) (node m e (object gs q u c ds)) both) in
      λ i. object (same_fields profile fs gs both.2.ordered both.3.ordered alike back i) ((x.0 ∙ sym y.0) i) ((x.1 ∙ sym y.1) i) (same_bounds b c s _ _ x.2 y.2 i) (same_object_junctors cs ds s x.3 y.3 i)
  same_sort profile (map N t b) (map M u c) n m d e s kind_is scalar_is x y both =
      let below = both_below profile (node n d (map N t b)) (node m e (map M u c)) N map_value both refl in
      λ i. map (same_node profile N M (subst (AreOfOne profile N) (sym (same_Some M below.0 below.1)) below.2) i) ((x.0 ∙ sym y.0) i) (same_bounds b c s _ _ x.1 y.1 i)
  same_sort profile (list N t k b) (list M u l c) n m d e s kind_is scalar_is x y both =
      let below = both_below profile (node n d (list N t k b)) (node m e (list M u l c)) N items both refl in
      λ i. list (same_node profile N M (subst (AreOfOne profile N) (sym (same_Some M below.0 below.1)) below.2) i) ((x.0 ∙ sym y.0) i) ((x.1 ∙ sym y.1) i) (same_bounds b c s _ _ x.2 y.2 i)
  same_sort profile open_ open_ n m d e s kind_is scalar_is x y both = refl
  same_sort profile A B n m d e s kind_is scalar_is x y both = cc

  same_fields : (profile : Profile) (fs gs : Fields) → AreOrdered fs → AreOrdered gs → AreAlike profile fs gs → AreAlike profile gs fs → fs ≡ gs
  same_fields profile no_fields no_fields u v a b = refl
  same_fields profile no_fields (field l M q o gs) u v a b = let is = (b l (record { node = M; required = q; default = o }) (field_first l l M q o gs (own_name l))).1 in cc
  same_fields profile (field k N r e fs) no_fields u v a b = let is = (a k (record { node = N; required = r; default = e }) (field_first k k N r e fs (own_name k))).1 in cc
  same_fields profile (field k N r e fs) (field l M q o gs) u v a b =
      let same = same_first profile k l N M r q e o fs gs u v a b in
      let g = a k (record { node = N; required = r; default = e }) (field_first k k N r e fs (own_name k)) in
      let first = same_Some g.0 (record { node = M; required = q; default = o }) (sym g.1 ∙ field_first k l M q o gs (subst (λ n. bytes_eq k n ≡ true) same (own_name k))) in
      let node_is = same_node profile N M (subst (λ f. AreOfOne profile N f.node) first g.4) in
      let rest = same_fields profile fs gs u.2 v.2 (rest_alike profile k l N M r q e o fs gs same u a) (rest_alike profile l k M N q r o e gs fs (sym same) v b) in
      λ i. field (same i) (node_is i) ((g.2 ∙ ap (λ f. f.required) first) i) ((g.3 ∙ ap (λ f. f.default) first) i) (rest i)

pub one_node : (profile : Profile) (N M : Node) (s : Data) (root : Bool) → AreNodesOf root N (raw_by profile s) → AreNodesOf root M (raw_by profile s) → N ≡ M
one_node profile N M s root h j = same_node profile N M (root, s, h, j)
