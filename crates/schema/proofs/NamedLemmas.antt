-- The names that branches ask for, as they are found one by one, and by their places.
use Rattle.std.proofs.Common.{◌≡◌, ◌≢◌, ◌⊎◌, ◌↔◌, ◌<◌, ◌≤◌, ℕ, zero, suc, List, [], ◌∷◌, ◌++◌, length, Bool, true, false, Option, Some, None, refl, sym, ap, ◌∙◌, subst, inl, inr, arith}
use Rattle.std.specs.Prelude.{IsTrue, ◌||◌, codes, if◌then◌else◌, option_and_then, All}
use Rattle.std.specs.Option.{option_or}
use Rattle.std.specs.Str.{bytes_eq}
use Rattle.std.proofs.lemmas.Bool.{or_left, or_right}
use Rattle.std.proofs.lemmas.Slice.Eq.{bytes_eq-Decides}
use Rattle.std.proofs.lemmas.Cmp.{nat_list_eq_equiv}
use Rattle.std.proofs.lemmas.Option.{option_and_then_some, same_Some}
use Rattle.std.proofs.lemmas.Map.Made.{is_member-Decides, IsDistinct-from_AllPairs, length-le_from_is_member}
use Rattle.jtree.specs.Data.{Data, list, object, Items, no_items, item, Members, no_members, member, IsTree, AreTrees, AreMembers}
use Rattle.jtree.specs.Path.{name, index, under, member_at, item_at, part_at}
use Rattle.jtree.specs.Internal.Lookups.{bool_cases, option_cases, same_name, own_name, member_first, member_later, member_tail}
use Rattle.jtree.specs.Internal.Rising.{Among, Rising, rising, all_pairs, contained, contains, each_of, among_left, among_right, among_parts}
use Rattle.schema.specs.Document.Texts.{is_among}
use Rattle.schema.specs.Document.Places.{Step, Place, property, all_of, any_of, one_of, negation, items, map_value, schema_by, schema_at, only_object, is_inside, is_junctor, core}
use Rattle.schema.specs.Internal.Named.{NamePart, names, some_branches, one_branch, no_name, name_part, part_names, item_names, member_names, other_of, has_others}
use Rattle.schema.specs.Rules.Keywords.{texts_of, items_in, texts_under}
use Rattle.schema.specs.Rules.Junctors.{NamesField, NamesTooMany}

-- ---- texts in lists

pub among_text : (k : List ℕ) (ks : List (List ℕ)) → is_among k ks ≡ true → Among ks k
among_text k [] h = cc
among_text k (l ∷ ks) h = elim (bool_cases (bytes_eq k l)) [
  | inl t ↦ inl (sym (same_name k l t))
  | inr f ↦ inr (among_text k ks (subst (λ b. (b || is_among k ks) ≡ true) f h))
]

pub text_among : (k : List ℕ) (ks : List (List ℕ)) → Among ks k → is_among k ks ≡ true
text_among k [] a = absurd a
text_among k (l ∷ ks) (inl e) = or_left _ _ (subst (λ m. bytes_eq k m ≡ true) (sym e) (own_name k))
text_among k (l ∷ ks) (inr a) = or_right (bytes_eq k l) _ (text_among k ks a)

-- ---- the first that is not known

pub other_joined : (known xs ys : List (List ℕ)) → other_of known (xs ++ ys) ≡ option_or (other_of known xs) (other_of known ys)
other_joined known [] ys = refl
other_joined known (x ∷ xs) ys = elim (is_among x known) as (λ b. (if b then other_of known (xs ++ ys) else Some x) ≡ option_or (if b then other_of known xs else Some x) (other_of known ys)) [
  | true ↦ other_joined known xs ys
  | false ↦ refl
]

-- one after another
pub other_later : (known xs ys : List (List ℕ)) → other_of known xs ≡ None → other_of known ys ≡ other_of known (xs ++ ys)
other_later known xs ys none = sym (other_joined known xs ys ∙ rw none refl)

pub other_first : (known xs ys : List (List ℕ)) (k : List ℕ) → other_of known xs ≡ Some k → Some k ≡ other_of known (xs ++ ys)
other_first known xs ys k is = sym (other_joined known xs ys ∙ rw is refl)

other_found : (known ks : List (List ℕ)) (k : List ℕ) → other_of known ks ≡ Some k → Among ks k × (is_among k known ≡ false)
other_found known [] k h = cc
other_found known (l ∷ ks) k h = elim (bool_cases (is_among l known)) [
  | inl t ↦ let rest = other_found known ks k (rw t at h) in (inr rest.0, rest.1)
  | inr f ↦ let same : l ≡ k = same_Some l k (rw f at h) in (inl same, subst (λ m. is_among m known ≡ false) same f)
]

other_none : (known ks : List (List ℕ)) (k : List ℕ) → other_of known ks ≡ None → Among ks k → is_among k known ≡ true
other_none known [] k h a = absurd a
other_none known (l ∷ ks) k h a = elim (bool_cases (is_among l known)) [
  | inl t ↦ elim a [ inl e ↦ subst (λ m. is_among m known ≡ true) e t | inr b ↦ other_none known ks k (rw t at h) b ]
  | inr f ↦ let none : Some l ≡ None = rw f at h in cc
]

-- ---- so many names

abbrev Apart : List (List ℕ) → Type 0
Apart ks = Rising (λ k l. k ≢ l) ks

-- so many names, which differ from one another and from those that are known
record Others (n : ℕ) (known ks : List (List ℕ)) : Type 0 where
  others : List (List ℕ)
  many : length others ≡ n
  apart : Apart others
  are : (k : List ℕ) → Among others k → Among ks k × (is_among k known ≡ false)

apart_from : (l k : List ℕ) (known : List (List ℕ)) → is_among l (k ∷ known) ≡ false → k ≡ l → ⊥
apart_from l k known h e = let is : is_among l (k ∷ known) ≡ true = or_left (bytes_eq l k) _ (subst (λ m. bytes_eq l m ≡ true) (sym e) (own_name l)) in cc

unknown : (b c : Bool) → (b || c) ≡ false → c ≡ false
unknown true c h = cc
unknown false c h = h

some_others : (n : ℕ) (known ks : List (List ℕ)) → has_others n known ks ≡ true → Others n known ks
some_others zero known ks h = record { others = []; many = refl; apart = tt; are = λ k a. absurd a }
some_others (suc n) known ks h = elim (option_cases (other_of known ks)) [
  | inl none ↦ let never : false ≡ true = rw none at h in cc
  | inr o ↦
      let found = other_found known ks o.0 o.1 in
      let rest = some_others n (o.0 ∷ known) ks (rw o.1 at h) in
      record {
        others = o.0 ∷ rest.others;
        many = ap suc rest.many;
        apart = (λ l a. apart_from l o.0 known (rest.are l a).1, rest.apart);
        are = λ l a. elim a [
          | inl e ↦ subst (λ m. Among ks m × (is_among m known ≡ false)) e found
          | inr b ↦ ((rest.are l b).0, unknown (bytes_eq l o.0) _ (rest.are l b).1)
        ];
      }
]

-- fewer are all besides those that are known
record Fewer (n : ℕ) (known ks : List (List ℕ)) : Type 0 where
  others : List (List ℕ)
  few : length others < n
  all : (k : List ℕ) → Among ks k → (is_among k known ≡ true) ⊎ Among others k

known_or : (l k : List ℕ) (known ls : List (List ℕ)) → (is_among l (k ∷ known) ≡ true) ⊎ Among ls l → (is_among l known ≡ true) ⊎ Among (k ∷ ls) l
known_or l k known ls (inr a) = inr (inr a)
known_or l k known ls (inl t) = elim (among_text l (k ∷ known) t) [
  | inl e ↦ inr (inl e)
  | inr a ↦ inl (text_among l known a)
]

few_others : (n : ℕ) (known ks : List (List ℕ)) → has_others n known ks ≡ false → Fewer n known ks
few_others zero known ks h = cc
few_others (suc n) known ks h = elim (option_cases (other_of known ks)) [
  | inl none ↦ record { others = []; few = omega arith; all = λ k a. inl (other_none known ks k none a) }
  | inr o ↦
      let rest = few_others n (o.0 ∷ known) ks (rw o.1 at h) in
      record { others = o.0 ∷ rest.others; few = omega (arith, rest.few); all = λ l a. known_or l o.0 known rest.others (rest.all l a) }
]

-- entries of a list that differ from one another are no more than the list has
apart_length : (xs ys : List (List ℕ)) → Apart xs → ((k : List ℕ) → Among xs k → Among ys k) → length xs ≤ length ys
apart_length xs ys a h =
    length-le_from_is_member nat_list_eq_equiv xs ys (IsDistinct-from_AllPairs bytes_eq-Decides xs (all_pairs (λ k l. k ≢ l) xs a))
    (λ k m. (is_member-Decides bytes_eq-Decides ys k).1 (contains ys k (h k (contained xs k ((is_member-Decides bytes_eq-Decides xs k).0 m)))))

no_more : (n : ℕ) (ks ls : List (List ℕ)) → has_others n [] ks ≡ false → Apart ls → ((k : List ℕ) → Among ls k → Among ks k) → length ls < n
no_more n ks ls h a are =
    let few = few_others n [] ks h in
    let within = apart_length ls few.others a (λ k b. elim (few.all k (are k b)) [ inl never ↦ absurd (cc) | inr c ↦ c ]) in
    omega (arith, few.few, within)

-- ---- the places of names

-- so many steps into branches on, a schema requires the name; in a branch, at least none
pub record IsNamed (in_branch : Bool) (s : Data) (k : List ℕ) : Type 0 where
  pub place : Place
  pub alone : core place ≡ []
  pub inside : (in_branch || is_inside place) ≡ true
  pub schema : Data
  pub at : schema_at s place ≡ Some schema
  pub required : Among (texts_under schema (codes "required")) k

pub step_named : (in_branch : Bool) (s t : Data) (step : Step) (k : List ℕ) → is_junctor step ≡ true → schema_by s step ≡ Some t → IsNamed true t k → IsNamed in_branch s k
step_named in_branch s t step k into by n = record {
  place = step ∷ n.place;
  alone = rw into n.alone;
  inside = or_right in_branch _ (rw into refl);
  schema = n.schema;
  at = rw by n.at;
  required = n.required;
}

-- what the value of a keyword has of names
abbrev PartHas : NamePart → Data → List ℕ → Type 0
PartHas names d k = Among (texts_of (items_in (Some d))) k
PartHas some_branches d k = (ds : Items) × (d ≡ list ds) × (i : ℕ) × (ms : Members) × (item_at i ds ≡ Some (object ms)) × IsNamed true (object ms) k
PartHas one_branch d k = (ms : Members) × (d ≡ object ms) × IsNamed true (object ms) k
PartHas no_name d k = ⊥

-- each keyword has its part
by_keyword : (Q : NamePart → List ℕ → Type 0) (in_branch : Bool) (w : List ℕ) → (in_branch ≡ true → Q names (codes "required")) → ((v : List ℕ) → Q no_name v)
    → Q some_branches (codes "allOf") → Q some_branches (codes "anyOf") → Q some_branches (codes "oneOf") → Q one_branch (codes "not") → Q (name_part in_branch w) w
by_keyword Q in_branch w required other all any one negated = elim (bool_cases (bytes_eq w (codes "required"))) [
  | inl t ↦ rw t (subst (Q (if in_branch then names else no_name)) (sym (same_name w _ t)) (elim in_branch as (λ b. (b ≡ true → Q names (codes "required")) → Q (if b then names else no_name) (codes "required")) [
    | true ↦ λ r. r refl
    | false ↦ λ r. other (codes "required")
  ] required))
  | inr f ↦ rw f (elim (bool_cases (bytes_eq w (codes "allOf"))) [
    | inl t ↦ rw t (subst (Q some_branches) (sym (same_name w _ t)) all)
    | inr g ↦ rw g (elim (bool_cases (bytes_eq w (codes "anyOf"))) [
      | inl t ↦ rw t (subst (Q some_branches) (sym (same_name w _ t)) any)
      | inr h ↦ rw h (elim (bool_cases (bytes_eq w (codes "oneOf"))) [
        | inl t ↦ rw t (subst (Q some_branches) (sym (same_name w _ t)) one)
        | inr i ↦ rw i (elim (bool_cases (bytes_eq w (codes "not"))) [
          | inl t ↦ rw t (subst (Q one_branch) (sym (same_name w _ t)) negated)
          | inr j ↦ rw j (other w)
        ])
      ])
    ])
  ])
]

-- what a keyword of a schema names is named in it
abbrev Named : Bool → NamePart → List ℕ → Type 0
Named in_branch part w = (ns : Members) (d : Data) (k : List ℕ) → member_at w ns ≡ Some d → PartHas part d k → IsNamed in_branch (object ns) k

named_here : (in_branch : Bool) → in_branch ≡ true → Named in_branch names (codes "required")
named_here in_branch is ns d k at has = record { place = []; alone = refl; inside = or_left in_branch _ is; schema = object ns; at = refl; required = rw at has }

keyword_named : (in_branch : Bool) (w : List ℕ) → Named in_branch (name_part in_branch w) w
keyword_named in_branch w = by_keyword (Named in_branch) in_branch w
    (named_here in_branch)
    (λ v ns d k at has. absurd has)
    (λ ns d k at has. step_named in_branch (object ns) (object has.3) (all_of has.2) k refl (rw (at, has.1, has.4) refl) has.5)
    (λ ns d k at has. step_named in_branch (object ns) (object has.3) (any_of has.2) k refl (rw (at, has.1, has.4) refl) has.5)
    (λ ns d k at has. step_named in_branch (object ns) (object has.3) (one_of has.2) k refl (rw (at, has.1, has.4) refl) has.5)
    (λ ns d k at has. step_named in_branch (object ns) (object has.0) negation k refl (rw (at, has.1) refl) has.2)

mutual
  part_down : (part : NamePart) (d : Data) (k : List ℕ) → IsTree d → Among (part_names part d) k → PartHas part d k
  part_down names (list ds) k o a = a
  part_down some_branches (list ds) k o a = let r = items_down ds k o a in (ds, refl, r.0, r.1, r.2, r.3)
  part_down one_branch (object ms) k o a = (ms, refl, members_down true ms ms k o (λ w e at. at) a)
  part_down part d k o a = absurd a

  items_down : (ds : Items) (k : List ℕ) → AreTrees ds → Among (item_names ds) k → (i : ℕ) × (ms : Members) × (item_at i ds ≡ Some (object ms)) × IsNamed true (object ms) k
  items_down no_items k o a = absurd a
  items_down (item d ds) k o a = elim (among_parts (part_names one_branch d) (item_names ds) k a) [
    | inl l ↦ let r = part_down one_branch d k o.0 l in (0, r.0, ap Some r.1, r.2)
    | inr l ↦ let r = items_down ds k o.1 l in (suc r.0, r.1, r.2, r.3)
  ]

  members_down : (in_branch : Bool) (ns ms : Members) (k : List ℕ) → AreMembers ms → ((w : List ℕ) (e : Data) → member_at w ms ≡ Some e → member_at w ns ≡ Some e)
      → Among (member_names in_branch ms) k → IsNamed in_branch (object ns) k
  members_down in_branch ns no_members k o of a = absurd a
  members_down in_branch ns (member w d ms) k o of a = elim (among_parts (part_names (name_part in_branch w) d) (member_names in_branch ms) k a) [
    | inl l ↦ keyword_named in_branch w ns d k (of w d (member_first w d ms)) (part_down (name_part in_branch w) d k o.0 l)
    | inr l ↦ members_down in_branch ns ms k o.2 (λ v e at. of v e (member_tail w d ms v e o at)) l
  ]

-- ---- and names of places are found

member_up : (in_branch : Bool) (ms : Members) (w : List ℕ) (d : Data) (k : List ℕ) → member_at w ms ≡ Some d → Among (part_names (name_part in_branch w) d) k → Among (member_names in_branch ms) k
member_up in_branch no_members w d k at a = cc
member_up in_branch (member v e ms) w d k at a = elim (bool_cases (bytes_eq w v)) [
  | inl t ↦
      let same : e ≡ d = same_Some e d (rw t at at) in
      among_left (part_names (name_part in_branch v) e) (member_names in_branch ms) k
      (subst (λ x. Among (part_names (name_part in_branch v) x) k) (sym same) (subst (λ x. Among (part_names (name_part in_branch x) d) k) (same_name w v t) a))
  | inr f ↦ among_right (part_names (name_part in_branch v) e) (member_names in_branch ms) k (member_up in_branch ms w d k (sym (member_later w v e ms f) ∙ at) a)
]

item_up : (ds : Items) (i : ℕ) (d : Data) (k : List ℕ) → item_at i ds ≡ Some d → Among (part_names one_branch d) k → Among (item_names ds) k
item_up no_items i d k at a = cc
item_up (item e ds) zero d k at a = among_left (part_names one_branch e) (item_names ds) k (subst (λ x. Among (part_names one_branch x) k) (sym (same_Some e d at)) a)
item_up (item e ds) (suc i) d k at a = among_right (part_names one_branch e) (item_names ds) k (item_up ds i d k at a)

texts_there : (o : Option Data) (k : List ℕ) → Among (texts_of (items_in o)) k → (d : Data) × (o ≡ Some d) × Among (part_names names d) k
texts_there (Some (list ds)) k a = (list ds, refl, a)
texts_there _ k a = absurd a

object_only : (d e : Data) → only_object d ≡ Some e → (ms : Members) × (d ≡ object ms) × (e ≡ object ms)
object_only (object ms) e h = (ms, refl, sym (same_Some (object ms) e h))
object_only d e h = cc

item_found : (d : Data) (i : ℕ) (e : Data) → part_at d (index i ∷ []) ≡ Some e → (ds : Items) × (d ≡ list ds) × (item_at i ds ≡ Some e)
item_found (list ds) i e h = option_and_then_some (λ x. Some x) (item_at i ds) e h (λ x found rest. (ds, refl, found ∙ rest))
item_found d i e h = cc

-- the names of a branch are those of the schema
abbrev Below : Data → List ℕ → Type 0
Below e k = (ms : Members) → e ≡ object ms → Among (member_names true ms) k

branch_up : (in_branch : Bool) (ms : Members) (w : List ℕ) (i : ℕ) (e : Data) (k : List ℕ) → name_part in_branch w ≡ some_branches
    → option_and_then only_object (part_at (object ms) (name w ∷ index i ∷ [])) ≡ Some e → Below e k → Among (member_names in_branch ms) k
branch_up in_branch ms w i e k part by below =
    option_and_then_some only_object (part_at (object ms) (name w ∷ index i ∷ [])) e by (λ d found only.
    option_and_then_some (λ x. part_at x (index i ∷ [])) (member_at w ms) d found (λ v at rest.
    let o = object_only d e only in
    let l = item_found v i d rest in
    let a = item_up l.0 i d k l.2 (subst (λ x. Among (part_names one_branch x) k) (sym o.1) (below o.0 o.2)) in
    member_up in_branch ms w v k at (subst (λ x. Among (part_names (name_part in_branch w) x) k) (sym l.1) (rw part a))))

negation_up : (in_branch : Bool) (ms : Members) (e : Data) (k : List ℕ) → schema_by (object ms) negation ≡ Some e → Below e k → Among (member_names in_branch ms) k
negation_up in_branch ms e k by below =
    option_and_then_some only_object (part_at (object ms) (name (codes "not") ∷ [])) e by (λ d found only.
    option_and_then_some (λ x. Some x) (member_at (codes "not") ms) d found (λ v at rest.
    let o = object_only d e only in
    member_up in_branch ms (codes "not") d k (at ∙ rest) (subst (λ x. Among (part_names one_branch x) k) (sym o.1) (below o.0 o.2))))

must_be : (b : Bool) → (b || false) ≡ true → b ≡ true
must_be true h = refl
must_be false h = h

required_up : (in_branch : Bool) (ms : Members) (k : List ℕ) → in_branch ≡ true → Among (texts_under (object ms) (codes "required")) k → Among (member_names in_branch ms) k
required_up in_branch ms k is a =
    let t = texts_there (under (object ms) (codes "required")) k a in
    member_up in_branch ms (codes "required") t.0 k t.1 (rw is t.2)

place_up : (p : Place) (in_branch : Bool) (ms : Members) (t : Data) (k : List ℕ) → core p ≡ [] → (in_branch || is_inside p) ≡ true → schema_at (object ms) p ≡ Some t
    → Among (texts_under t (codes "required")) k → Among (member_names in_branch ms) k
place_up [] in_branch ms t k alone inside at a = required_up in_branch ms k (must_be in_branch inside) (subst (λ x. Among (texts_under x (codes "required")) k) (sym (same_Some (object ms) t at)) a)
place_up (property w ∷ p) in_branch ms t k alone inside at a = cc
place_up (map_value ∷ p) in_branch ms t k alone inside at a = cc
place_up (items ∷ p) in_branch ms t k alone inside at a = cc
place_up (all_of i ∷ p) in_branch ms t k alone inside at a =
    option_and_then_some (λ x. schema_at x p) (schema_by (object ms) (all_of i)) t at (λ e by rest.
    branch_up in_branch ms (codes "allOf") i e k refl by (λ ns same. place_up p true ns t k alone refl (subst (λ x. schema_at x p ≡ Some t) same rest) a))
place_up (any_of i ∷ p) in_branch ms t k alone inside at a =
    option_and_then_some (λ x. schema_at x p) (schema_by (object ms) (any_of i)) t at (λ e by rest.
    branch_up in_branch ms (codes "anyOf") i e k refl by (λ ns same. place_up p true ns t k alone refl (subst (λ x. schema_at x p ≡ Some t) same rest) a))
place_up (one_of i ∷ p) in_branch ms t k alone inside at a =
    option_and_then_some (λ x. schema_at x p) (schema_by (object ms) (one_of i)) t at (λ e by rest.
    branch_up in_branch ms (codes "oneOf") i e k refl by (λ ns same. place_up p true ns t k alone refl (subst (λ x. schema_at x p ≡ Some t) same rest) a))
place_up (negation ∷ p) in_branch ms t k alone inside at a =
    option_and_then_some (λ x. schema_at x p) (schema_by (object ms) negation) t at (λ e by rest.
    negation_up in_branch ms e k by (λ ns same. place_up p true ns t k alone refl (subst (λ x. schema_at x p ≡ Some t) same rest) a))

-- ---- more than four

names_are : (ms : Members) (k : List ℕ) → NamesField (object ms) k → Among (member_names false ms) k
names_are ms k (p, inside, alone, t, at, required) = place_up p false ms t k alone inside at (among_text k _ required)

are_names : (ms : Members) (k : List ℕ) → AreMembers ms → Among (member_names false ms) k → NamesField (object ms) k
are_names ms k o a = let n = members_down false ms ms k o (λ w e at. at) a in (n.place, n.inside, n.alone, n.schema, n.at, text_among k _ n.required)

pub all_among : (P : List ℕ → Type 0) (ks : List (List ℕ)) → All P ks → (k : List ℕ) → Among ks k → P k
all_among P ks h k a = let c = contains ks k a in subst P c.2 (h c.0 k c.1)

pub too_many : (ms : Members) (b : Bool) → AreMembers ms → b ≡ has_others 5 [] (member_names false ms) → IsTrue b ↔ NamesTooMany (object ms)
too_many ms b o reported = (
  λ t.
      let five = some_others 5 [] (member_names false ms) (sym reported ∙ t) in
      (five.others, all_pairs (λ k l. k ≢ l) five.others five.apart, each_of (NamesField (object ms)) five.others (λ k a. are_names ms k o (five.are k a).0), omega (arith, five.many)),
  λ n. elim (bool_cases (has_others 5 [] (member_names false ms))) [
    | inl t ↦ reported ∙ t
    | inr f ↦
        let within = no_more 5 (member_names false ms) n.0 f (rising (λ k l. k ≢ l) n.0 n.1) (λ k a. names_are ms k (all_among (NamesField (object ms)) n.0 n.2 k a)) in
        absurd (omega (arith, n.3, within))
  ],
)
