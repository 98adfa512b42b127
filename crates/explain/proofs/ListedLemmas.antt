-- The walk by levels lists the declared paths, in order, each with its field.
use Rattle.std.proofs.Common.{◌≡◌, ◌≢◌, ◌⊎◌, ℕ, List, [], ◌∷◌, Bool, false, Option, Some, None, map, refl, sym, ap, subst, ◌∙◌, inl, inr}
use Rattle.std.specs.Str.{bytes_eq}
use Rattle.std.specs.declared.cmp.Ordering.TheVariants.{Less, Equal}
use Rattle.std.proofs.lemmas.Cmp.{nat_list_cmp_total, tied_itself}
use Rattle.std.proofs.lemmas.Option.{same_Some}
use Rattle.jtree.specs.Data.{Data}
use Rattle.jtree.specs.Order.{text_cmp}
use Rattle.jtree.specs.Internal.Lookups.{bool_cases, option_cases, same_name, own_name, later_name}
use Rattle.jtree.specs.Internal.Rising.{Among, Rising, among_left, among_right, among_parts, rising_join, contains, each_of, all_pairs}
use Rattle.schema.specs.Nodes.Node.{Node, node, Sort, scalar, object, map as map_of, list, open_, Fields, no_fields, IsNode, IsBeforeFields, AreOrdered}
use Rattle.schema.specs.Nodes.Node as nodes
use Rattle.schema.specs.Nodes.ByPlace.{Declared, field_at, node_below, node_at}
use Rattle.stored.specs.Objects.Fault.{is_required}
use Rattle.explain.specs.Paths.FieldPath.{FieldStep, field, item, value, FieldPath, place_step, place_of}
use Rattle.explain.specs.Paths.FieldOrder.{step_cmp, path_cmp}
use Rattle.explain.specs.Fields.Field.{Field, declaration, default_of, described}
use Rattle.explain.specs.Fields.Field as fields
use Rattle.explain.specs.Fields.Declared.{IsDeclared, AreDeclared, AreFields}
use Rattle.explain.specs.Internal.ListedByLevel.{Entry, after_step, under, whole, below, below_fields, listed_at}

-- ---- fields are in the order of their names

before_trans : (k l : List ℕ) (fs : Fields) → text_cmp k l ≡ Less → IsBeforeFields l fs → IsBeforeFields k fs
before_trans k l no_fields less before = tt
before_trans k l (nodes.field m N required default fs) less before = nat_list_cmp_total.trans k l m less before

-- a field further on has a later name
name_after : (l : List ℕ) (fs : Fields) (k : List ℕ) (f : Declared) → IsBeforeFields l fs → AreOrdered fs → field_at k fs ≡ Some f → text_cmp l k ≡ Less
name_after l no_fields k f before ordered is = cc
name_after l (nodes.field m N required default fs) k f before ordered is = elim (bool_cases (bytes_eq k m)) [
  | inl t ↦ subst (λ n. text_cmp l n ≡ Less) (sym (same_name k m t)) before
  | inr o ↦ name_after l fs k f (before_trans l m fs before ordered.1) ordered.2 (rw o at is)
]

-- ---- an entry has the node at its path

record IsEntry (root : Node) (e : Entry) : Type 0 where
  node_is : node_at root (place_of e.path) ≡ Some e.node
  required_is : is_required (declaration root e.path) ≡ e.required
  default_is : default_of (declaration root e.path) ≡ e.default
  some : e.path ≢ []

-- that of the step itself, or one below it
abbrev IsPart : FieldStep → Bool → Option Data → Node → Entry → Type 0
IsPart s required default N e =
    (e ≡ record { path = s ∷ []; required = required; default = default; node = N }) ⊎ ((f : Entry) × IsEntry N f × (e ≡ after_step s f))

among_under : (s : FieldStep) (es : List Entry) (e : Entry) → Among (under s es) e → (f : Entry) × Among es f × (e ≡ after_step s f)
among_under s [] e a = elim a [ ]
among_under s (f ∷ es) e (inl h) = (f, inl refl, sym h)
among_under s (f ∷ es) e (inr a) = let r = among_under s es e a in (r.0, inr r.1, r.2)

in_part : (s : FieldStep) (required : Bool) (default : Option Data) (N : Node) → ((f : Entry) → Among (below N) f → IsEntry N f) → (e : Entry)
    → Among (under s (whole required default N (below N))) e → IsPart s required default N e
in_part s required default N each e a = elim a [
  | inl h ↦ inl (sym h)
  | inr b ↦ let r = among_under s (below N) e b in inr (r.0, each r.0 r.1, r.2)
]

own_entry : (root : Node) (s : FieldStep) (required : Bool) (default : Option Data) (N : Node) → node_below root (place_step s) ≡ Some N → is_required (declaration root (s ∷ [])) ≡ required
    → default_of (declaration root (s ∷ [])) ≡ default → IsEntry root (record { path = s ∷ []; required = required; default = default; node = N })
own_entry root s required default N leads r d = record { node_is = rw leads refl; required_is = r; default_is = d; some = λ e. cc }

declared_below : (root : Node) (s : FieldStep) (N : Node) (p : FieldPath) → node_below root (place_step s) ≡ Some N → p ≢ [] → declaration root (s ∷ p) ≡ declaration N p
declared_below root s N [] leads some = absurd (some refl)
declared_below root (field k) N (t ∷ p) leads some = rw leads refl
declared_below root item N (t ∷ p) leads some = rw leads refl
declared_below root value N (t ∷ p) leads some = rw leads refl

-- an entry below the node to which a step leads is an entry after the step
deeper : (root : Node) (s : FieldStep) (N : Node) (f : Entry) → node_below root (place_step s) ≡ Some N → IsEntry N f → IsEntry root (after_step s f)
deeper root s N f leads e = let same = declared_below root s N f.path leads e.some in record {
  node_is = rw leads e.node_is;
  required_is = rw same e.required_is;
  default_is = rw same e.default_is;
  some = λ x. cc;
}

part_entry : (root : Node) (s : FieldStep) (required : Bool) (default : Option Data) (N : Node) → node_below root (place_step s) ≡ Some N → is_required (declaration root (s ∷ [])) ≡ required
    → default_of (declaration root (s ∷ [])) ≡ default → (e : Entry) → IsPart s required default N e → IsEntry root e
part_entry root s required default N leads r d e (inl own) = subst (IsEntry root) (sym own) (own_entry root s required default N leads r d)
part_entry root s required default N leads r d e (inr b) = subst (IsEntry root) (sym b.2) (deeper root s N b.0 leads b.1)

mutual
  each_entry : (N : Node) → IsNode N → (e : Entry) → Among (below N) e → IsEntry N e
  each_entry (node nullable description (object fs preserves type bounds cs)) n e a =
      let r = each_field fs n e a in
      part_entry (node nullable description (object fs preserves type bounds cs)) (field r.0) r.1.required r.1.default r.1.node (rw r.2 refl) (rw r.2 refl) (rw r.2 refl) e r.3
  each_entry (node nullable description (map_of N type bounds)) n e a =
      part_entry (node nullable description (map_of N type bounds)) value false None N refl refl refl e (in_part value false None N (each_entry N n) e a)
  each_entry (node nullable description (list N type keys bounds)) n e a =
      part_entry (node nullable description (list N type keys bounds)) item false None N refl refl refl e (in_part item false None N (each_entry N n) e a)
  each_entry (node nullable description (scalar kind cs)) n e a = elim a [ ]
  each_entry (node nullable description open_) n e a = elim a [ ]

  each_field : (fs : Fields) → AreOrdered fs → (e : Entry) → Among (below_fields fs) e → (k : List ℕ) × (f : Declared) × (field_at k fs ≡ Some f) × IsPart (field k) f.required f.default f.node e
  each_field no_fields o e a = elim a [ ]
  each_field (nodes.field k N required default fs) o e a = elim (among_parts (under (field k) (whole required default N (below N))) (below_fields fs) e a) [
    | inl h ↦ (k, record { node = N; required = required; default = default }, rw (own_name k) refl, in_part (field k) required default N (each_entry N o.0) e h)
    | inr h ↦
        let r = each_field fs o.2 e h in
        let other = later_name r.0 k (name_after k fs r.0 r.1 o.1 o.2 r.2) in
        (r.0, r.1, rw other r.2, r.3)
  ]

-- ---- each declared path is listed

under_among : (s : FieldStep) (es : List Entry) (e : Entry) → Among es e → Among (under s es) (after_step s e)
under_among s [] e a = elim a [ ]
under_among s (f ∷ es) e (inl h) = inl (ap (after_step s) h)
under_among s (f ∷ es) e (inr a) = inr (under_among s es e a)

abbrev part : FieldStep → Bool → Option Data → Node → List Entry
part s required default N = under s (whole required default N (below N))

field_part : (fs : Fields) (k : List ℕ) (f : Declared) → field_at k fs ≡ Some f → (e : Entry) → Among (part (field k) f.required f.default f.node) e → Among (below_fields fs) e
field_part no_fields k f is e a = cc
field_part (nodes.field l N required default fs) k f is e a = elim (bool_cases (bytes_eq k l)) [
  | inl h ↦
      let own : record { node = N; required = required; default = default } ≡ f = same_Some _ f (rw h at is) in
      among_left (part (field l) required default N) (below_fields fs) e
      (subst (λ n. Among (part (field n) required default N) e) (same_name k l h) (subst (λ g. Among (part (field k) g.required g.default g.node) e) (sym own) a))
  | inr h ↦ among_right (part (field l) required default N) (below_fields fs) e (field_part fs k f (rw h at is) e a)
]

-- the node at a step, and what is below it, is listed
abbrev IsListed : Node → FieldStep → Node → Type 0
IsListed N s L = (required : Bool) × (default : Option Data) × ((e : Entry) → Among (part s required default L) e → Among (below N) e)

step_listed : (N : Node) (s : FieldStep) (L : Node) → node_below N (place_step s) ≡ Some L → IsListed N s L
step_listed (node nullable description (object fs preserves type bounds cs)) (field k) L leads = elim (option_cases (field_at k fs)) [
  | inl none ↦ let x = rw none at leads in cc
  | inr f ↦
      let same : f.0.node ≡ L = same_Some f.0.node L (rw f.1 at leads) in
      (f.0.required, f.0.default, λ e a. field_part fs k f.0 f.1 e (subst (λ M. Among (part (field k) f.0.required f.0.default M) e) (sym same) a))
]
step_listed (node nullable description (map_of N type bounds)) value L leads = (false, None, λ e a. subst (λ M. Among (part value false None M) e) (sym (same_Some N L leads)) a)
step_listed (node nullable description (list N type keys bounds)) item L leads = (false, None, λ e a. subst (λ M. Among (part item false None M) e) (sym (same_Some N L leads)) a)
step_listed _ _ L leads = cc

path_listed : (p : FieldPath) (N M : Node) → p ≢ [] → node_at N (place_of p) ≡ Some M → (e : Entry) × Among (below N) e × (e.path ≡ p)
path_listed [] N M some leads = absurd (some refl)
path_listed (s ∷ []) N M some leads = elim (option_cases (node_below N (place_step s))) [
  | inl none ↦ let x = rw none at leads in cc
  | inr L ↦ let l = step_listed N s L.0 L.1 in let own : Entry = record { path = s ∷ []; required = l.0; default = l.1; node = L.0 } in (own, l.2 own (inl refl), refl)
]
path_listed (s ∷ t ∷ p) N M some leads = elim (option_cases (node_below N (place_step s))) [
  | inl none ↦ let x = rw none at leads in cc
  | inr L ↦
      let l = step_listed N s L.0 L.1 in
      let more : t ∷ p ≢ [] = λ x. cc in
      let e = path_listed (t ∷ p) L.0 M more (rw L.1 at leads) in
      (after_step s e.0, l.2 (after_step s e.0) (inr (under_among s (below L.0) e.0 e.1)), ap (λ q. s ∷ q) e.2)
]

-- ---- in order

abbrev Precedes : Entry → Entry → Type 0
Precedes e f = path_cmp e.path f.path ≡ Less

step_itself : (s : FieldStep) → step_cmp s s ≡ Equal
step_itself (field k) = tied_itself nat_list_cmp_total k
step_itself item = refl
step_itself value = refl

after_step_same : (s : FieldStep) (p q : FieldPath) → path_cmp (s ∷ p) (s ∷ q) ≡ path_cmp p q
after_step_same s p q = let tied = step_itself s in rw tied refl

rising_under : (s : FieldStep) (es : List Entry) → Rising Precedes es → Rising Precedes (under s es)
rising_under s [] r = tt
rising_under s (e ∷ es) r = (
  λ v a. let x = among_under s es v a in subst (λ w. Precedes (after_step s e) w) (sym x.2) (after_step_same s e.path x.0.path ∙ r.0 x.0 x.1),
  rising_under s es r.1,
)

begins_first : (p : FieldPath) → p ≢ [] → path_cmp [] p ≡ Less
begins_first [] some = absurd (some refl)
begins_first (s ∷ p) some = refl

rising_part : (s : FieldStep) (required : Bool) (default : Option Data) (N : Node) → IsNode N → Rising Precedes (below N) → Rising Precedes (part s required default N)
rising_part s required default N n r = rising_under s (whole required default N (below N)) (λ e a. begins_first e.path (each_entry N n e a).some, r)

part_begins : (s : FieldStep) (required : Bool) (default : Option Data) (N : Node) (e : Entry) → IsPart s required default N e → (p : FieldPath) × (e.path ≡ s ∷ p)
part_begins s required default N e (inl own) = ([], ap (λ x. x.path) own)
part_begins s required default N e (inr b) = (b.0.path, ap (λ x. x.path) b.2)

names_ascend : (k l : List ℕ) (p q : FieldPath) → text_cmp k l ≡ Less → path_cmp (field k ∷ p) (field l ∷ q) ≡ Less
names_ascend k l p q less = rw less refl

mutual
  node_rising : (N : Node) → IsNode N → Rising Precedes (below N)
  node_rising (node nullable description (object fs preserves type bounds cs)) n = fields_rising fs n
  node_rising (node nullable description (map_of N type bounds)) n = rising_part value false None N n (node_rising N n)
  node_rising (node nullable description (list N type keys bounds)) n = rising_part item false None N n (node_rising N n)
  node_rising (node nullable description (scalar kind cs)) n = tt
  node_rising (node nullable description open_) n = tt

  fields_rising : (fs : Fields) → AreOrdered fs → Rising Precedes (below_fields fs)
  fields_rising no_fields o = tt
  fields_rising (nodes.field k N required default fs) o =
      rising_join Precedes (part (field k) required default N) (below_fields fs) (rising_part (field k) required default N o.0 (node_rising N o.0)) (fields_rising fs o.2)
      (λ v w a b.
      let x = among_under (field k) (whole required default N (below N)) v a in
      let y = each_field fs o.2 w b in
      let z = part_begins (field y.0) y.1.required y.1.default y.1.node w y.3 in
      rw (x.2, z.1) (names_ascend k y.0 x.0.path z.0 (name_after k fs y.0 y.1 o.1 o.2 y.2)))

-- ---- all of it

abbrev paths : List Entry → List FieldPath
paths es = map (λ e. e.path) es

among_path : (es : List Entry) (p : FieldPath) → Among (paths es) p → (e : Entry) × Among es e × (e.path ≡ p)
among_path [] p a = elim a [ ]
among_path (e ∷ es) p (inl h) = (e, inl refl, h)
among_path (e ∷ es) p (inr a) = let r = among_path es p a in (r.0, inr r.1, r.2)

path_among : (es : List Entry) (e : Entry) → Among es e → Among (paths es) e.path
path_among [] e a = elim a [ ]
path_among (f ∷ es) e (inl h) = inl (ap (λ x. x.path) h)
path_among (f ∷ es) e (inr a) = inr (path_among es e a)

rising_paths : (es : List Entry) → Rising Precedes es → Rising (λ p q. path_cmp p q ≡ Less) (paths es)
rising_paths [] r = tt
rising_paths (e ∷ es) r = (
  λ p a. let x = among_path es p a in subst (λ q. path_cmp e.path q ≡ Less) x.2 (r.0 x.0 x.1),
  rising_paths es r.1,
)

are_declared : (root : Node) → IsNode root → AreDeclared root (paths (below root))
are_declared root n = record {
  each = each_of (IsDeclared root) (paths (below root)) (λ p a.
      let x = among_path (below root) p a in
      let e = each_entry root n x.0 x.1 in
      subst (IsDeclared root) x.2 (e.some, (x.0.node, e.node_is)));
  all = λ p d.
      let x = path_listed p root d.1.0 d.0 d.1.1 in
      contains (paths (below root)) p (subst (Among (paths (below root))) x.2 (path_among (below root) x.0 x.1));
  ascending = all_pairs (λ p q. path_cmp p q ≡ Less) (paths (below root)) (rising_paths (below root) (node_rising root n));
}

entry_field : (root : Node) (e : Entry) → IsEntry root e → fields.field_at root e.path ≡ Some (listed_at [] e)
entry_field root e is = rw is.node_is (ap Some (rw (is.required_is, is.default_is) refl))

entry_fields : (root : Node) (es : List Entry) → ((e : Entry) → Among es e → IsEntry root e) → map (fields.field_at root) (paths es) ≡ map Some (map (listed_at []) es)
entry_fields root [] each = refl
entry_fields root (e ∷ es) each =
    let first = entry_field root e (each e (inl refl)) in
    let more = entry_fields root es (λ f a. each f (inr a)) in
    λ i. first i ∷ more i

pub are_fields : (root : Node) → IsNode root → AreFields root (map (listed_at []) (below root))
are_fields root n = (paths (below root), are_declared root n, entry_fields root (below root) (each_entry root n))
