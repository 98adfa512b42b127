-- No sample has a path that is left out: what is fixed at it is nothing, and what is fixed above it has nothing there.
use Rattle.std.proofs.Common.{◌≡◌, ◌≢◌, ◌⊎◌, ℕ, zero, suc, List, [], ◌∷◌, ◌++◌, Bool, true, false, ◌||◌, if◌then◌else◌, Option, Some, None, map, option_map, option_and_then, refl, sym, ap, ◌∙◌, subst, inl, inr, append_assoc, append-nil}
use Rattle.std.specs.Str.{bytes_eq}
use Rattle.std.proofs.lemmas.Option.{none-some, same_Some}
use Rattle.jtree.specs.Data.{Data, Items, no_items, item as item_of, Members, no_members, member}
use Rattle.jtree.specs.Data as tree
use Rattle.jtree.specs.Path.{Step, name, index, Path, member_at, item_at, part_by, part_at, under}
use Rattle.jtree.specs.Internal.Lookups.{bool_cases, option_cases, same_name}
use Rattle.jtree.specs.Internal.Rising.{Among, contained}
use Rattle.schema.specs.Document.Texts.{is_among}
use Rattle.schema.specs.Nodes.Node.{Node, node, scalar, object, list, open_, Fields, IsNode}
use Rattle.schema.specs.Nodes.Node as nodes
use Rattle.schema.specs.Nodes.ByPlace.{Declared, field_at, node_below, node_at}
use Rattle.schema.specs.declared.node.ListType.TheVariants.{Atomic, Set, Map}
use Rattle.explain.specs.Paths.FieldPath.{FieldStep, field, item, value, FieldPath, place_step, place_of}
use Rattle.explain.specs.Paths.PathText.{step_text, path_text}
use Rattle.explain.specs.Fields.Declared.{IsDeclared}
use Rattle.plan.specs.declared.pool_limits.PoolLimits.{PoolLimits}
use Rattle.plan.specs.Pools.Pools.{Pools, fixed_at}
use Rattle.plan.specs.Pools.Document.{pools_of}
use Rattle.plan.specs.Pools.FixedPaths.{IsMapItem}
use Rattle.plan.specs.Samples.Site.{below, fixed_below}
use Rattle.plan.specs.Internal.LeastLaws.{in_leasts}
use Rattle.plan.specs.Samples.Over.{is_in, StepFollows, IsOverAlong}
use Rattle.suggest.specs.Suggested.Document.{general_of, for_variation, without_entry, single, suggestions_by, suggested_document}
use Rattle.suggest.specs.Suggested.LeftOut.{Follows, NoSampleHasALeftOutPath}
use Rattle.suggest.specs.Suggested.LeafValues.{General}
use Rattle.suggest.specs.Suggested.Lists.{schema_of_field}
use Rattle.suggest.specs.Suggested.Varied.{as_in_object, suggestions_at, suggestions_below, leads_on}
use Rattle.suggest.specs.Suggested.Wanted.{Wanted}
use Rattle.suggest.specs.Suggested.Without.{Place, place_of_field, place_of_value, place_of_item, left_at, left_member, taken_out, members_left, items_left, without_paths}
use Rattle.suggest.proofs.VariedSampleLemmas.{leads_at, kept_at, own_among, own_values, found_field, field_node, same_tree}
use Rattle.suggest.proofs.EntryLemmas.{other_name, later_or, values_at, values_append, pool_fixed}
use Rattle.suggest.proofs.FreeLemmas.{or_right}
use Rattle.suggest.proofs.SuggestionLemmas.{OneText, further, field_says, nothing_here, not_below_itself}

-- ---- a step into what is left of a value

past_left : (k l : List ℕ) (o : Option Data) (ms : Members) → bytes_eq k l ≡ false → member_at k (left_member l o ms) ≡ member_at k ms
past_left k l None ms other = refl
past_left k l (Some d) ms other = rw other refl

abbrev left_part : List (List ℕ) → Place → Option Data → Option Data
left_part ts P o = if is_among P.path ts then None else option_map (λ d. taken_out ts P.path P.node d) o

none_left : (b : Bool) (f : Data → Data) → (if b then None else option_map f None) ≡ None
none_left true f = refl
none_left false f = refl

member_left : (ts : List (List ℕ)) (places : List ℕ → Option Place) (k : List ℕ) (P : Place) (ms : Members) → places k ≡ Some P → member_at k (members_left ts places ms) ≡ left_part ts P (member_at k ms)
member_left ts places k P no_members is = sym (none_left (is_among P.path ts) (λ d. taken_out ts P.path P.node d))
member_left ts places k P (member l d ms) is = elim (bool_cases (bytes_eq k l)) [
  | inl same ↦
      let here : places l ≡ Some P = subst (λ n. places n ≡ Some P) (same_name k l same) is in
      elim (bool_cases (is_among P.path ts)) [
        | inl gone ↦ rw (here, gone) (member_left ts places k P ms is ∙ rw gone refl)
        | inr stays ↦ rw (here, stays, same) refl
      ]
  | inr other ↦ past_left k l (left_at ts (places l) (λ P. taken_out ts P.path P.node d) d) (members_left ts places ms) other ∙ (member_left ts places k P ms is ∙ rw other refl)
]

item_left : (ts : List (List ℕ)) (P : Place) (i : ℕ) (ds : Items) → item_at i (items_left ts P ds) ≡ left_part ts P (item_at i ds)
item_left ts P i no_items = sym (none_left (is_among P.path ts) (λ d. taken_out ts P.path P.node d))
item_left ts P zero (item_of d ds) = elim (bool_cases (is_among P.path ts)) [ inl gone ↦ rw gone (item_left ts P zero ds ∙ rw gone refl) | inr stays ↦ rw stays refl ]
item_left ts P (suc i) (item_of d ds) = elim (bool_cases (is_among P.path ts)) [ inl gone ↦ rw gone (item_left ts P (suc i) ds ∙ rw gone refl) | inr stays ↦ rw stays (item_left ts P i ds ∙ rw stays refl) ]

-- it leads to what is left of a part whose path is not left out
record IsLeft (ts : List (List ℕ)) (path : List ℕ) (N : Node) (o : Option Data) (w : Data) : Type 0 where
  pub stays : is_among path ts ≡ false
  pub part : Data
  pub there : o ≡ Some part
  pub is : w ≡ taken_out ts path N part

part_left : (ts : List (List ℕ)) (P : Place) (o : Option Data) (w : Data) → left_part ts P o ≡ Some w → IsLeft ts P.path P.node o w
part_left ts P None w found = absurd (let none = none_left (is_among P.path ts) (λ d. taken_out ts P.path P.node d) in cc)
part_left ts P (Some d) w found = elim (bool_cases (is_among P.path ts)) [
  | inl gone ↦ absurd (let h : None ≡ Some w = rw gone at found in cc)
  | inr stays ↦ let h : Some (taken_out ts P.path P.node d) ≡ Some w = rw stays at found in record { stays = stays; part = d; there = refl; is = sym (same_Some _ w h) }
]

step_left : (ts : List (List ℕ)) (path : List ℕ) (N M : Node) (v w : Data) (s : Step) (t : FieldStep) → StepFollows s t → node_below N (place_step t) ≡ Some M → part_by (taken_out ts path N v) s ≡ Some w
    → IsLeft ts (below path t) M (part_by v s) w
step_left ts path (node nullable description (object fs preserves type bounds cs)) M (tree.object ms) w (name j) (field k) follows down found =
    let P : Place = record { path = below path (field k); node = M } in
    let place : place_of_field path fs j ≡ Some P = subst (λ n. place_of_field path fs n ≡ Some P) (sym follows) (places (field_at k fs) (below path (field k)) M down) in
    part_left ts P (member_at j ms) w (sym (member_left ts (place_of_field path fs) j P ms place) ∙ found) where
      places : (o : Option Declared) (at : List ℕ) (M : Node) → option_map (λ f. f.node) o ≡ Some M → option_map {U = Place} (λ f. record { path = at; node = f.node }) o ≡ Some (record { path = at; node = M })
      places None at M e = absurd (cc)
      places (Some f) at M e = ap (λ K. Some (record { path = at; node = K })) (same_Some f.node M e)
step_left ts path (node nullable description (nodes.map N type bounds)) M (tree.object ms) w (name j) value follows down found =
    let is : N ≡ M = same_Some N M down in
    subst (λ K. IsLeft ts (below path value) K (member_at j ms) w) is (part_left ts (place_of_value path N) (member_at j ms) w (sym (member_left ts (λ k. Some (place_of_value path N)) j (place_of_value path N) ms refl) ∙ found))
step_left ts path (node nullable description (list N type keys bounds)) M (tree.list ds) w (index i) item follows down found =
    let is : N ≡ M = same_Some N M down in
    subst (λ K. IsLeft ts (below path item) K (item_at i ds) w) is (part_left ts (place_of_item path N) (item_at i ds) w (sym (item_left ts (place_of_item path N) i ds) ∙ found))
step_left ts path N M v w (name j) item follows down found = absurd follows
step_left ts path N M v w (index i) (field k) follows down found = absurd follows
step_left ts path N M v w (index i) value follows down found = absurd follows
step_left ts path N M v w s t follows down found = absurd (cc)

-- ---- what is left of a value has nothing where a path leads that is left out

-- a value where a step and more lead
pub record IsStepThere (path : Path) (o : Option Data) (w : Data) : Type 0 where
  pub next : Data
  pub there : o ≡ Some next
  pub rest : part_at next path ≡ Some w

pub step_there : (path : Path) (o : Option Data) (w : Data) → option_and_then (λ d. part_at d path) o ≡ Some w → IsStepThere path o w
step_there path None w found = absurd (cc)
step_there path (Some d) w found = record { next = d; there = refl; rest = found }

pub record IsNodeThere (p : FieldPath) (o : Option Node) (M : Node) : Type 0 where
  pub next : Node
  pub down : o ≡ Some next
  pub rest : node_at next (place_of p) ≡ Some M

pub node_there : (p : FieldPath) (o : Option Node) (M : Node) → option_and_then (λ K. node_at K (place_of p)) o ≡ Some M → IsNodeThere p o M
node_there p None M found = absurd (cc)
node_there p (Some K) M found = record { next = K; down = refl; rest = found }

pub none_left_out : (ts : List (List ℕ)) (path : Path) (p : FieldPath) (at : List ℕ) (N M : Node) (v w : Data) → (p ≡ [] → is_among at ts ≡ false) → is_among (at ++ path_text p) ts ≡ true → node_at N (place_of p) ≡ Some M → Follows path p
    → part_at (taken_out ts at N v) path ≡ Some w → ⊥
none_left_out ts [] [] at N M v w stays gone down follows found = let h : is_among at ts ≡ true = subst (λ t. is_among t ts ≡ true) (append-nil at) gone in let no = stays refl in cc
none_left_out ts [] (t ∷ p) at N M v w stays gone down follows found = absurd follows
none_left_out ts (s ∷ path) [] at N M v w stays gone down follows found = absurd follows
none_left_out ts (s ∷ path) (t ∷ p) at N M v w stays gone down follows found =
    let K = node_there p (node_below N (place_step t)) M down in
    let u = step_there path (part_by (taken_out ts at N v) s) w found in
    let l = step_left ts at N K.next v u.next s t follows.0 K.down u.there in
    none_left_out ts path p (below at t) K.next M l.part w (λ e. l.stays) (subst (λ x. is_among x ts ≡ true) (sym (further at t p)) gone) K.rest follows.1 (subst (λ x. part_at x path ≡ Some w) l.is u.rest)

-- ---- what is fixed

without_values : (text : List ℕ) (ts : List (List ℕ)) → values_at text (map without_entry ts) ≡ (if is_among text ts then Some [] else None)
without_values text [] = refl
without_values text (t ∷ ts) = ap (λ o. later_or o (if bytes_eq text t then Some [] else None)) (without_values text ts) ∙ joined (is_among text ts) (bytes_eq text t) where
  joined : (a b : Bool) → later_or {A = List Data} (if a then Some [] else None) (if b then Some [] else None) ≡ (if (b || a) then Some [] else None)
  joined true true = refl
  joined true false = refl
  joined false true = refl
  joined false false = refl

-- a fixed value is what is left of a value at the node, or there is none
record IsFixedLeft (ts : List (List ℕ)) (path : List ℕ) (N : Node) (vs : List Data) : Type 0 where
  pub value : Data
  pub are : vs ≡ taken_out ts path N value ∷ []

abbrev AreFixedLeft : List (List ℕ) → List ℕ → Node → List Data → Type 0
AreFixedLeft ts path N vs = (vs ≡ []) ⊎ IsFixedLeft ts path N vs

-- the value under a name of what is left
under_left : (ts : List (List ℕ)) (path : List ℕ) (N M : Node) (x : Option Data) (k : List ℕ) → node_below N (place_step (field k)) ≡ Some M
    → (y : Option Data) × (option_and_then (λ w. under w k) (option_map (λ d. taken_out ts path N d) x) ≡ option_map (λ d. taken_out ts (below path (field k)) M d) y)
under_left ts path N M None k down = (None, refl)
under_left ts path N M (Some d) k down = elim (option_cases (under (taken_out ts path N d) k)) [
  | inl none ↦ (None, none)
  | inr some ↦ let l = step_left ts path N M d some.0 (name k) (field k) refl down some.1 in (Some l.part, some.1 ∙ ap Some l.is)
]

kept_left : OneText → (ts : List (List ℕ)) (path : List ℕ) (N M : Node) (x : Option Data) (p : FieldPath) (vs : List Data) → node_at N (place_of p) ≡ Some M
    → values_at (path ++ path_text p) (as_in_object path (option_map (λ d. taken_out ts path N d) x)).fixed ≡ Some vs → AreFixedLeft ts (path ++ path_text p) M vs
kept_left one ts path N M None p vs down found = elim (bool_cases (bytes_eq (path ++ path_text p) path)) [
  | inl same ↦ inl (sym (same_Some [] vs (rw same at found)))
  | inr other ↦ absurd (let none : None ≡ Some vs = rw other at found in cc)
]
kept_left one ts path N M (Some d) [] vs down found =
    let here = subst (λ t. values_at t (as_in_object path (Some (taken_out ts path N d))).fixed ≡ Some vs) (append-nil path) found in
    let are : taken_out ts path N d ∷ [] ≡ vs = same_Some (taken_out ts path N d ∷ []) vs (sym (own_values path (taken_out ts path N d ∷ [])) ∙ here) in
    inr (record { value = d; are = sym are ∙ λ i. taken_out ts (sym (append-nil path) i) (same_Some N M down i) d ∷ [] })
kept_left one ts path N M (Some d) (t ∷ p) vs down found =
    let other = other_name (path ++ path_text (t ∷ p)) path (not_below_itself one path t p) in
    absurd (let none : None ≡ Some vs = rw other at found in cc)

fixed_left : OneText → (ts ws : List (List ℕ)) (G : General) (p : FieldPath) (path : List ℕ) (N M : Node) (x schema : Option Data) (vs : List Data) → IsNode N → node_at N (place_of p) ≡ Some M
    → values_at (path ++ path_text p) (suggestions_below G ts (option_map (λ d. taken_out ws path N d) x) schema path N).fixed ≡ Some vs → AreFixedLeft ws (path ++ path_text p) M vs
fixed_left one ts ws G [] path N M x schema vs ordered down found =
    let none = (nothing_here one G ts (option_map (λ d. taken_out ws path N d) x) schema path N).fixed in
    let here = subst (λ t. values_at t (suggestions_below G ts (option_map (λ d. taken_out ws path N d) x) schema path N).fixed ≡ Some vs) (append-nil path) found in
    absurd (cc)
fixed_left one ts ws G (field k ∷ p) path (node nullable description (object fs preserves type bounds cs)) M x schema vs ordered down found =
    let v = option_map (λ d. taken_out ws path (node nullable description (object fs preserves type bounds cs)) d) x in
    let f = found_field fs k p M down in
    let at = below path (field k) in
    let y = under_left ws path (node nullable description (object fs preserves type bounds cs)) f.0.node x k (ap (option_map (λ f. f.node)) f.1) in
    let u = option_map (λ d. taken_out ws at f.0.node d) y.0 in
    let said = sym (field_says one G ts v schema path fs k f.0 p ordered f.1).fixed ∙ found in
    let here : values_at (at ++ path_text p) (suggestions_at G ts u f.0.default (schema_of_field schema k) at f.0.node).fixed ≡ Some vs =
    subst (λ t. values_at t (suggestions_at G ts u f.0.default (schema_of_field schema k) at f.0.node).fixed ≡ Some vs) (sym (further path (field k) p))
    (subst (λ o. values_at (path ++ path_text (field k ∷ p)) (suggestions_at G ts o f.0.default (schema_of_field schema k) at f.0.node).fixed ≡ Some vs) y.1 said) in
    subst (λ t. AreFixedLeft ws t M vs) (further path (field k) p) (elim (bool_cases (is_among at ts)) [
      | inl varied ↦ absurd (let none : None ≡ Some vs = rw varied at here in cc)
      | inr other ↦ elim (bool_cases (leads_on at ts)) [
        | inl more ↦ fixed_left one ts ws G p at f.0.node M y.0 (schema_of_field schema k) vs (field_node fs k f.0 ordered f.1) f.2
            (subst (λ S. values_at (at ++ path_text p) S.fixed ≡ Some vs) (leads_at G ts u f.0.default (schema_of_field schema k) at f.0.node other more) here)
        | inr ends ↦ kept_left one ws at f.0.node M y.0 p vs f.2 (subst (λ S. values_at (at ++ path_text p) S.fixed ≡ Some vs) (kept_at G ts u f.0.default (schema_of_field schema k) at f.0.node other ends) here)
      ]
    ])
fixed_left one ts ws G (item ∷ p) path (node nullable description (object fs preserves type bounds cs)) M x schema vs ordered down found = absurd (none-some M down)
fixed_left one ts ws G (value ∷ p) path (node nullable description (object fs preserves type bounds cs)) M x schema vs ordered down found = absurd (none-some M down)
fixed_left one ts ws G (t ∷ p) path (node nullable description (nodes.map N type bounds)) M x schema vs ordered down found = absurd (none-some vs found)
fixed_left one ts ws G (t ∷ p) path (node nullable description (list N type keys bounds)) M x schema vs ordered down found = absurd (none-some vs found)
fixed_left one ts ws G (t ∷ p) path (node nullable description (scalar kind cs)) M x schema vs ordered down found = absurd (none-some vs found)
fixed_left one ts ws G (t ∷ p) path (node nullable description open_) M x schema vs ordered down found = absurd (none-some vs found)

single_left : (f : Data → Data) (vs : List Data) → single (map f vs) ≡ option_map f (single vs)
single_left f [] = refl
single_left f (v ∷ []) = refl
single_left f (v ∷ u ∷ vs) = refl

said_left : OneText → (ts : List (List ℕ)) (G : General) (w : Wanted) (raw : Data) (root M : Node) (p : FieldPath) (vs : List Data) → IsNode root → node_at root (place_of p) ≡ Some M
    → values_at (path_text p) (suggestions_by ts G (without_paths root w) raw root).fixed ≡ Some vs → AreFixedLeft w.without (path_text p) M vs
said_left one [] G w raw root M p vs ordered there found = absurd (cc)
said_left one (t ∷ ts) G w raw root M p vs ordered there found = fixed_left one (t ∷ ts) w.without (for_variation G) p [] root M (single w.objects) (Some raw) vs ordered there
    (subst (λ v. values_at (path_text p) (suggestions_below (for_variation G) (t ∷ ts) v (Some raw) [] root).fixed ≡ Some vs) (single_left (λ v. taken_out w.without [] root v) w.objects) found)

-- ---- what is fixed at a path has nothing where a path leads from there that is left out

abbrev pools : PoolLimits → Data → Node → Wanted → Pools
pools limits raw root w = pools_of (suggested_document limits raw root w)

pub fixed_is : (limits : PoolLimits) (raw : Data) (root : Node) (w : Wanted) (text : List ℕ)
    → fixed_at text (pools limits raw root w) ≡ later_or (if is_among text w.without then Some [] else None) (values_at text (suggestions_by w.varied (general_of limits root) (without_paths root w) raw root).fixed)
fixed_is limits raw root w text =
    let S = suggestions_by w.varied (general_of limits root) (without_paths root w) raw root in
    pool_fixed limits root w.without S text ∙ (values_append text S.fixed (map without_entry w.without) ∙ ap (λ o. later_or o (values_at text S.fixed)) (without_values text w.without))

left_out_fixed : (limits : PoolLimits) (raw : Data) (root : Node) (w : Wanted) (text : List ℕ) → is_among text w.without ≡ true → fixed_at text (pools limits raw root w) ≡ Some []
left_out_fixed limits raw root w text gone = fixed_is limits raw root w text ∙ rw gone refl

fixed_clear : OneText → (limits : PoolLimits) (raw : Data) (root : Node) (w : Wanted) (q p : FieldPath) (path : Path) (N M : Node) (vs : List Data) (u : Data) → IsNode root → node_at root (place_of q) ≡ Some N
    → fixed_at (path_text q) (pools limits raw root w) ≡ Some vs → is_in u vs ≡ true → node_at N (place_of p) ≡ Some M → is_among (path_text q ++ path_text p) w.without ≡ true → Follows path p → part_at u path ≡ None
fixed_clear one limits raw root w q p path N M vs u ordered there fixed listed down gone follows = elim (bool_cases (is_among (path_text q) w.without)) [
  | inl here ↦
      let none : [] ≡ vs = same_Some [] vs (sym (left_out_fixed limits raw root w (path_text q) here) ∙ fixed) in
      let no : is_in u [] ≡ true = subst (λ ds. is_in u ds ≡ true) (sym none) listed in
      absurd (cc)
  | inr stays ↦
      let said : values_at (path_text q) (suggestions_by w.varied (general_of limits root) (without_paths root w) raw root).fixed ≡ Some vs = rw stays at (sym (fixed_is limits raw root w (path_text q)) ∙ fixed) in
      elim (said_left one w.varied (general_of limits root) w raw root N q vs ordered there said) [
        | inl none ↦ absurd (let no : is_in u [] ≡ true = subst (λ ds. is_in u ds ≡ true) none listed in cc)
        | inr l ↦
            let same : u ≡ taken_out w.without (path_text q) N l.value = same_tree u (taken_out w.without (path_text q) N l.value) (subst (λ ds. is_in u ds ≡ true) l.are listed) in
            elim (option_cases (part_at u path)) [
              | inl none ↦ none
              | inr some ↦ absurd (none_left_out w.without path p (path_text q) N M l.value some.0 (λ e. stays) gone down follows (subst (λ x. part_at x path ≡ Some some.0) same some.1))
            ]
      ]
]

-- ---- along the path of a sample

-- what is fixed here is what the pools fix, or nothing where the path goes on
abbrev IsFixedHere : Pools → Option (List Data) → List ℕ → FieldPath → Type 0
IsFixedHere P fixed text p = (fixed ≡ fixed_at text P) ⊎ ((fixed ≡ None) × (p ≢ []))

ends_text : (q : FieldPath) (t : FieldStep) → path_text (q ++ t ∷ []) ≡ below (path_text q) t
ends_text [] t = append-nil (step_text t)
ends_text (s ∷ q) t = ap (λ x. step_text s ++ x) (ends_text q t) ∙ sym (append_assoc (step_text s) (path_text q) (step_text t))

ends_at : (q : FieldPath) (t : FieldStep) (root N K : Node) → node_at root (place_of q) ≡ Some N → node_below N (place_step t) ≡ Some K → node_at root (place_of (q ++ t ∷ [])) ≡ Some K
ends_at [] t root N K there down = ap (option_and_then (λ L. Some L)) (subst (λ L. node_below L (place_step t) ≡ Some K) (sym (same_Some root N there)) down)
ends_at (s ∷ q) t root N K there down =
    let n = node_there q (node_below root (place_step s)) N there in
    ap (option_and_then (λ L. node_at L (place_of (q ++ t ∷ [])))) n.down ∙ ends_at q t n.next N K n.rest down

next_fixed : (P : Pools) (root N K : Node) (q p : FieldPath) (t : FieldStep) → node_at root (place_of q) ≡ Some N → node_below N (place_step t) ≡ Some K → (IsMapItem root (q ++ t ∷ p) → ⊥)
    → IsFixedHere P (fixed_below P (path_text q) N t) (below (path_text q) t) p
next_fixed P root (node nullable description (list N (Map e) keys bounds)) K q p item there down other =
    inr (refl, λ same. other (q, (ap (λ x. q ++ item ∷ x) same, (node nullable description (list N (Map e) keys bounds), (there, refl)))))
next_fixed P root (node nullable description (list N (Map e) keys bounds)) K q p (field k) there down other = absurd (cc)
next_fixed P root (node nullable description (list N (Map e) keys bounds)) K q p value there down other = absurd (cc)
next_fixed P root (node nullable description (list N Atomic keys bounds)) K q p t there down other = inl refl
next_fixed P root (node nullable description (list N (Set e) keys bounds)) K q p t there down other = inl refl
next_fixed P root (node nullable description (scalar kind cs)) K q p t there down other = inl refl
next_fixed P root (node nullable description open_) K q p t there down other = inl refl
next_fixed P root (node nullable description (object fs preserves type bounds cs)) K q p t there down other = inl refl
next_fixed P root (node nullable description (nodes.map N type bounds)) K q p t there down other = inl refl

along : OneText → (limits : PoolLimits) (raw : Data) (root : Node) (w : Wanted) → IsNode root → (path : Path) (p q : FieldPath) (N M : Node) (v : Data) (fixed : Option (List Data)) → node_at root (place_of q) ≡ Some N
    → node_at N (place_of p) ≡ Some M → is_among (path_text q ++ path_text p) w.without ≡ true → (IsMapItem root (q ++ p) → ⊥) → Follows path p → IsFixedHere (pools limits raw root w) fixed (path_text q) p
    → IsOverAlong (pools limits raw root w) fixed (path_text q) N v path p → part_at v path ≡ None
along one limits raw root w ordered path p q N M v (Some vs) there down gone other follows (inl here) over = fixed_clear one limits raw root w q p path N M vs v ordered there (sym here) (in_leasts v vs over).0 down gone follows
along one limits raw root w ordered path p q N M v (Some vs) there down gone other follows (inr here) over = absurd (let no = here.0 in cc)
along one limits raw root w ordered [] [] q N M v None there down gone other follows (inl here) over =
    let none = left_out_fixed limits raw root w (path_text q) (subst (λ t. is_among t w.without ≡ true) (append-nil (path_text q)) gone) in
    absurd (cc)
along one limits raw root w ordered [] [] q N M v None there down gone other follows (inr here) over = absurd (here.1 refl)
along one limits raw root w ordered [] (t ∷ p) q N M v None there down gone other follows here over = absurd follows
along one limits raw root w ordered (s ∷ path) [] q N M v None there down gone other follows here over = absurd follows
along one limits raw root w ordered (s ∷ path) (t ∷ p) q N M v None there down gone other follows here over = elim (option_cases (part_by v s)) [
  | inl none ↦ rw none refl
  | inr some ↦
      let K = node_there p (node_below N (place_step t)) M down in
      let at = ends_text q t in
      let text : is_among (path_text (q ++ t ∷ []) ++ path_text p) w.without ≡ true =
      subst (λ x. is_among (x ++ path_text p) w.without ≡ true) (sym at) (subst (λ x. is_among x w.without ≡ true) (sym (further (path_text q) t p)) gone) in
      let next = subst (λ x. IsFixedHere (pools limits raw root w) (fixed_below (pools limits raw root w) (path_text q) N t) x p) (sym at)
      (next_fixed (pools limits raw root w) root N K.next q p t there K.down other) in
      let rest = subst (λ x. IsOverAlong (pools limits raw root w) (fixed_below (pools limits raw root w) (path_text q) N t) x K.next some.0 path p) (sym at) (over K.next some.0 follows.0 K.down some.1) in
      ap (option_and_then (λ d. part_at d path)) some.1 ∙ along one limits raw root w ordered path p (q ++ t ∷ []) K.next M some.0 (fixed_below (pools limits raw root w) (path_text q) N t) (ends_at q t root N K.next there K.down) K.rest text
      (subst (λ x. IsMapItem root x → ⊥) (sym (append_assoc q (t ∷ []) p)) other) follows.1 next rest
]

among_true : (ts : List (List ℕ)) (t : List ℕ) → Among ts t → is_among t ts ≡ true
among_true [] t a = absurd a
among_true (s ∷ ts) t (inl e) = subst (λ x. is_among t (x ∷ ts) ≡ true) (sym e) (own_among t ts)
among_true (s ∷ ts) t (inr a) = or_right (bytes_eq t s) (is_among t ts) (among_true ts t a)

pub none_has : OneText → NoSampleHasALeftOutPath
none_has one limits raw root w limit v p path ordered gone fixable sample follows =
    let same : fixable.0 ≡ p = one fixable.0 p fixable.1 in
    let declared = subst (IsDeclared root) same fixable.2.0 in
    let other = subst (λ x. IsMapItem root x → ⊥) same fixable.2.1 in
    along one limits raw root w ordered path p [] root declared.1.0 v None refl declared.1.1 (among_true w.without (path_text p) (contained w.without (path_text p) gone)) other follows (inr (refl, declared.0)) (sample.part.over path p)
