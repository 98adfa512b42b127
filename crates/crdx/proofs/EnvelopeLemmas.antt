-- The members of some names taken off and put back.
use Rattle.std.proofs.Common.{◌≡◌, ℕ, zero, suc, List, [], ◌∷◌, Bool, true, false, Option, Some, None, refl, sym, ap, ap₂, subst, ◌∙◌, inl, inr, get_or}
use Rattle.std.specs.Prelude.{if◌then◌else◌, not, ◌||◌, codes}
use Rattle.std.specs.Str.{bytes_eq}
use Rattle.std.specs.declared.cmp.Ordering.TheVariants.{Less}
use Rattle.std.proofs.lemmas.Map.Lookups.{exact_bytes}
use Rattle.std.proofs.lemmas.Option.{same_Some}
use Rattle.jtree.specs.Data.{Data, null, boolean, integer, number, text, list, object, Members, no_members, member, IsNameBefore, AreMembers, IsTree}
use Rattle.jtree.specs.Order.{text_cmp}
use Rattle.jtree.specs.MemberPlace.{IsPlace, with_member, without_member}
use Rattle.jtree.specs.Internal.MemberLaws.{before_of, with_member_at, changed_here, changed_elsewhere, changed_sorted}
use Rattle.jtree.specs.Path.{member_at}
use Rattle.jtree.specs.View.{data_of, members_of}
use Rattle.jtree.specs.declared.value.Member.{Member}
use Rattle.jtree.specs.Internal.Lookups.{bool_cases, option_cases, ordering_cases, same_name, own_name, IsNameBefore-trans, before_none, member_first, member_later, past_name}
use Rattle.schema.specs.Document.Places.{is_envelope_name}
use Rattle.crdx.specs.Output.Envelope.{with_members, members_of_envelope, in_envelope}
use Rattle.crdx.specs.Internal.Members.{in_front}
use Rattle.crdx.specs.Program.Envelope.{members_where, body_of, envelope_in, first_of, IsJoined, onto}
use Rattle.crdx.specs.declared.walk.line.Envelope.{Envelope}

-- ---- one member

-- the value under a name is a tree
member_tree : (ms : Members) (k : List ℕ) (w : Data) → AreMembers ms → member_at k ms ≡ Some w → IsTree w
member_tree no_members k w sorted e = cc
member_tree (member l d ms) k w sorted e = elim (bool_cases (bytes_eq k l)) [
  | inl t ↦ subst IsTree (same_Some d w (rw t at e)) sorted.0
  | inr f ↦ member_tree ms k w sorted.2 (sym (member_later k l d ms f) ∙ e)
]

pub taken : (k : List ℕ) (xs : List Member) (i : ℕ) (x : Member) (ms : Members) → IsPlace true k xs i → x ≡ get_or xs i x → onto (Some x) ms ≡ in_front k (member_at k (members_of xs)) ms
taken k [] i x ms p is = let e = p.0 in cc
taken k (y ∷ xs) zero x ms p is = rw (exact_bytes k y.name p, own_name y.name, is) refl
taken k (y ∷ xs) (suc i) x ms p is = rw (past_name k y.name p.0) (taken k xs i x ms p.1 is)

-- the value under a name once a member is taken off, or put in
pub taken_at : (k : List ℕ) (ms : Members) → AreMembers ms → (j : List ℕ) → member_at j (without_member k ms) ≡ (if bytes_eq j k then None else member_at j ms)
taken_at k ms sorted j = elim (bool_cases (bytes_eq j k)) [
  | inl t ↦ rw t (rw (same_name j k t) (changed_here k None ms sorted))
  | inr f ↦ rw f (changed_elsewhere j k None ms f)
]

pub put_at : (m : Member) (ms : Members) (j : List ℕ) → member_at j (with_member m.name (data_of m.tree) ms) ≡ first_of (member_at j (onto (Some m) no_members)) (member_at j ms)
put_at m ms j = elim (bool_cases (bytes_eq j m.name)) [
  | inl t ↦ rw t (rw (same_name j m.name t) (with_member_at m.name (data_of m.tree) ms m.name ∙ member_first m.name (data_of m.tree) ms))
  | inr f ↦ rw f (changed_elsewhere j m.name (Some (data_of m.tree)) ms f)
]

onto_at : (o : Option Member) (ms : Members) (j : List ℕ) → member_at j (onto o ms) ≡ first_of (member_at j (onto o no_members)) (member_at j ms)
onto_at None ms j = refl
onto_at (Some m) ms j = elim (bool_cases (bytes_eq j m.name)) [ inl t ↦ rw t refl | inr f ↦ rw f refl ]

first_again : (a b c : Option Data) → first_of (first_of a b) c ≡ first_of a (first_of b c)
first_again None b c = refl
first_again (Some d) b c = refl

-- three members that are put in one after the other
pub three_put : (a k m : Option Member) (old one two three : Members)
    → ((j : List ℕ) → member_at j one ≡ first_of (member_at j (onto m no_members)) (member_at j old))
    → ((j : List ℕ) → member_at j two ≡ first_of (member_at j (onto k no_members)) (member_at j one))
    → ((j : List ℕ) → member_at j three ≡ first_of (member_at j (onto a no_members)) (member_at j two))
    → (j : List ℕ) → member_at j three ≡ first_of (member_at j (onto a (onto k (onto m no_members)))) (member_at j old)
three_put a k m old one two three first second third j =
    let first_at = λ (o : Option Member). member_at j (onto o no_members) in
    let split = ap (λ v. first_of v (member_at j old)) (onto_at a (onto k (onto m no_members)) j ∙ ap (first_of (first_at a)) (onto_at k (onto m no_members) j)) in
    third j ∙ (ap (first_of (first_at a)) (second j ∙ (ap (first_of (first_at k)) (first j) ∙ sym (first_again (first_at k) (first_at m) (member_at j old))))
    ∙ (sym (first_again (first_at a) (first_of (first_at k) (first_at m)) (member_at j old)) ∙ sym split))

-- ---- objects by the value under each name

-- after the same first name
same_rest : (k l : List ℕ) (d e : Data) (ms ns : Members) → k ≡ l → AreMembers (member k d ms) → AreMembers (member l e ns) → (j : List ℕ)
    → member_at j (member k d ms) ≡ member_at j (member l e ns) → member_at j ms ≡ member_at j ns
same_rest k l d e ms ns is t u j h = elim (bool_cases (bytes_eq j k)) [
  | inl same ↦
      let j_is = same_name j k same in
      rw j_is (before_none k ms t.1 t.2 ∙ sym (before_none k ns (subst (λ n. IsNameBefore n ns) (sym is) u.1) u.2))
  | inr other ↦ sym (member_later j k d ms other) ∙ (h ∙ member_later j l e ns (subst (λ n. bytes_eq j n ≡ false) is other))
]

-- objects with the same under each name are the same
same_members : (ms ns : Members) → AreMembers ms → AreMembers ns → ((k : List ℕ) → member_at k ms ≡ member_at k ns) → ms ≡ ns
same_members no_members no_members t u h = refl
same_members no_members (member l e ns) t u h = let n = rw (member_first l e ns) at (h l) in cc
same_members (member k d ms) no_members t u h = let n = rw (member_first k d ms) at (h k) in cc
same_members (member k d ms) (member l e ns) t u h = elim (ordering_cases (text_cmp k l)) [
  | inl before ↦ let n = rw (member_first k d ms, before_none k (member l e ns) before u) at (h k) in cc
  | inr (inl same) ↦
      let is : k ≡ l = exact_bytes k l same in
      let second : member_at k (member l e ns) ≡ Some e = subst (λ n. member_at n (member l e ns) ≡ Some e) (sym is) (member_first l e ns) in
      let first : d ≡ e = same_Some d e (rw (member_first k d ms, second) at (h k)) in
      let rest = same_members ms ns t.2 u.2 (λ j. same_rest k l d e ms ns is t u j (h j)) in
      λ i. member (is i) (first i) (rest i)
  | inr (inr past) ↦ let n = rw (member_first l e ns, before_none l (member k d ms) (before_of k l past) t) at (h l) in cc
]

where_at : (test : List ℕ → Bool) (ms : Members) (j : List ℕ) → member_at j (members_where test ms) ≡ (if test j then member_at j ms else None)
where_at test no_members j = elim (bool_cases (test j)) [ inl t ↦ rw t refl | inr f ↦ rw f refl ]
where_at test (member l d ms) j = elim (bool_cases (bytes_eq j l)) [
  | inl same ↦ elim (bool_cases (test l)) [
    | inl t ↦ rw (same_name j l same, t, own_name l) refl
    | inr f ↦ rw (same_name j l same, f) (where_at test ms l ∙ rw f refl)
  ]
  | inr other ↦ elim (bool_cases (test l)) [
    | inl t ↦ rw (t, other) (where_at test ms j)
    | inr f ↦ rw (f, other) (where_at test ms j)
  ]
]

where_before : (test : List ℕ → Bool) (k : List ℕ) (ms : Members) → IsNameBefore k ms → AreMembers ms → IsNameBefore k (members_where test ms)
where_before test k no_members before sorted = tt
where_before test k (member l d ms) before sorted = elim (bool_cases (test l)) [
  | inl t ↦ rw t before
  | inr f ↦ rw f (where_before test k ms (IsNameBefore-trans k l ms before sorted.1) sorted.2)
]

where_sorted : (test : List ℕ → Bool) (ms : Members) → AreMembers ms → AreMembers (members_where test ms)
where_sorted test no_members sorted = tt
where_sorted test (member l d ms) sorted = elim (bool_cases (test l)) [
  | inl t ↦ rw t (sorted.0, where_before test l ms sorted.1 sorted.2, where_sorted test ms sorted.2)
  | inr f ↦ rw f (where_sorted test ms sorted.2)
]

-- ---- the envelope

abbrev pub api_version : List ℕ
api_version = codes "apiVersion"

abbrev pub kind : List ℕ
kind = codes "kind"

abbrev pub metadata : List ℕ
metadata = codes "metadata"

beside_three : (a k m : Bool) (v : Option Data) → (if m then None else (if k then None else (if a then None else v))) ≡ (if not (a || (k || (m || false))) then v else None)
beside_three true true true v = refl
beside_three true true false v = refl
beside_three true false true v = refl
beside_three true false false v = refl
beside_three false true true v = refl
beside_three false true false v = refl
beside_three false false true v = refl
beside_three false false false v = refl

pub body_is : (ms : Members) → AreMembers ms → without_member metadata (without_member kind (without_member api_version ms)) ≡ members_where (λ k. not (is_envelope_name k)) ms
body_is ms sorted =
    let one = changed_sorted api_version None ms tt sorted in
    let two = changed_sorted kind None (without_member api_version ms) tt one in
    let three = changed_sorted metadata None (without_member kind (without_member api_version ms)) tt two in
    same_members _ _ three (where_sorted _ ms sorted) (λ j.
    taken_at metadata (without_member kind (without_member api_version ms)) two j
    ∙ (ap (λ v. if bytes_eq j metadata then None else v) (taken_at kind (without_member api_version ms) one j ∙ ap (λ v. if bytes_eq j kind then None else v) (taken_at api_version ms sorted j))
    ∙ (beside_three (bytes_eq j api_version) (bytes_eq j kind) (bytes_eq j metadata) (member_at j ms) ∙ sym (where_at (λ k. not (is_envelope_name k)) ms j))))

front_at : (k : List ℕ) (o : Option Data) (ms : Members) (j : List ℕ) → member_at j (in_front k o ms) ≡ (if bytes_eq j k then first_of o (member_at j ms) else member_at j ms)
front_at k None ms j = elim (bool_cases (bytes_eq j k)) [ inl t ↦ rw t refl | inr f ↦ rw f refl ]
front_at k (Some d) ms j = elim (bool_cases (bytes_eq j k)) [ inl t ↦ rw t refl | inr f ↦ rw f refl ]

front_before : (j k : List ℕ) (o : Option Data) (ms : Members) → text_cmp j k ≡ Less → IsNameBefore j ms → IsNameBefore j (in_front k o ms)
front_before j k None ms less before = before
front_before j k (Some d) ms less before = less

front_sorted : (k : List ℕ) (ms ns : Members) → AreMembers ms → IsNameBefore k ns → AreMembers ns → AreMembers (in_front k (member_at k ms) ns)
front_sorted k ms ns all before sorted = elim (option_cases (member_at k ms)) [
  | inl none ↦ rw none sorted
  | inr some ↦ rw some.1 (member_tree ms k some.0 all some.1, before, sorted)
]

first_alone : (o : Option Data) → first_of o None ≡ o
first_alone None = refl
first_alone (Some d) = refl

-- under a name of the envelope is what the members have there
three_names : (ms : Members) (j : List ℕ)
    → (if bytes_eq j api_version then first_of (member_at api_version ms) (if bytes_eq j kind then first_of (member_at kind ms) (if bytes_eq j metadata then first_of (member_at metadata ms) None else None)
    else (if bytes_eq j metadata then first_of (member_at metadata ms) None else None)) else (if bytes_eq j kind then first_of (member_at kind ms) (if bytes_eq j metadata then first_of (member_at metadata ms) None else None)
    else (if bytes_eq j metadata then first_of (member_at metadata ms) None else None)))
    ≡ (if is_envelope_name j then member_at j ms else None)
three_names ms j = elim (bool_cases (bytes_eq j api_version)) [
  | inl a ↦ rw (same_name j api_version a) (first_alone (member_at api_version ms))
  | inr a ↦ elim (bool_cases (bytes_eq j kind)) [
    | inl k ↦ rw (same_name j kind k) (first_alone (member_at kind ms))
    | inr k ↦ elim (bool_cases (bytes_eq j metadata)) [
      | inl m ↦ rw (same_name j metadata m) (first_alone (member_at metadata ms))
      | inr m ↦ rw (a, k, m) refl
    ]
  ]
]

pub envelope_is : (ms : Members) → AreMembers ms
    → in_front api_version (member_at api_version ms) (in_front kind (member_at kind ms) (in_front metadata (member_at metadata ms) no_members)) ≡ members_where is_envelope_name ms
envelope_is ms sorted =
    let last = in_front metadata (member_at metadata ms) no_members in
    let later = in_front kind (member_at kind ms) last in
    let all = in_front api_version (member_at api_version ms) later in
    let last_sorted = front_sorted metadata ms no_members sorted tt tt in
    let later_sorted = front_sorted kind ms last sorted (front_before kind metadata (member_at metadata ms) no_members refl tt) last_sorted in
    let before = front_before api_version kind (member_at kind ms) last refl (front_before api_version metadata (member_at metadata ms) no_members refl tt) in
    let at_last = λ (j : List ℕ). front_at metadata (member_at metadata ms) no_members j in
    let at_later = λ (j : List ℕ). front_at kind (member_at kind ms) last j ∙ ap (λ v. if bytes_eq j kind then first_of (member_at kind ms) v else v) (at_last j) in
    let at_all = λ (j : List ℕ). front_at api_version (member_at api_version ms) later j ∙ ap (λ v. if bytes_eq j api_version then first_of (member_at api_version ms) v else v) (at_later j) in
    same_members all _ (front_sorted api_version ms later sorted before later_sorted) (where_sorted is_envelope_name ms sorted) (λ j.
    at_all j ∙ (three_names ms j ∙ sym (where_at is_envelope_name ms j)))

-- ---- joined

one_of : (b : Bool) (v : Option Data) → first_of (if b then v else None) (if not b then v else None) ≡ v
one_of true v = first_alone v
one_of false v = refl

-- an object that is joined with its envelope is whole again
back : (v w : Data) → IsTree v → IsJoined (body_of v) (envelope_in v) w → w ≡ v
back (object ms) w t is = is.1 ∙ ap object (same_members is.0 ms is.2 t (λ j. is.3 j ∙ (ap₂ first_of (where_at is_envelope_name ms j) (where_at (λ k. not (is_envelope_name k)) ms j) ∙ one_of (is_envelope_name j) (member_at j ms))))
back null w t is = is
back (boolean b) w t is = is
back (integer z) w t is = is
back (number s) w t is = is
back (text s) w t is = is
back (list ds) w t is = is

pub tree_back : (old new : Data) (ps : Members) → IsJoined old ps new → (v : Data) → IsTree v → body_of v ≡ old → envelope_in v ≡ ps → new ≡ v
tree_back old new ps is v t body envelope = back v new t (subst (λ b. IsJoined b (envelope_in v) new) (sym body) (subst (λ e. IsJoined old e new) (sym envelope) is))

-- ---- in an envelope

with_members_at : (ps ms : Members) (j : List ℕ) → member_at j (with_members ps ms) ≡ first_of (member_at j ps) (member_at j ms)
with_members_at no_members ms j = refl
with_members_at (member k d ps) ms j = elim (bool_cases (bytes_eq j k)) [
  | inl t ↦ rw t (rw (same_name j k t) (with_member_at k d (with_members ps ms) k ∙ member_first k d (with_members ps ms)))
  | inr f ↦ rw f (changed_elsewhere j k (Some d) (with_members ps ms) f ∙ with_members_at ps ms j)
]

with_members_sorted : (ps ms : Members) → AreMembers ps → AreMembers ms → AreMembers (with_members ps ms)
with_members_sorted no_members ms t sorted = sorted
with_members_sorted (member k d ps) ms t sorted = changed_sorted k (Some d) (with_members ps ms) t.0 (with_members_sorted ps ms t.2 sorted)

envelope_sorted : (e : Envelope) → AreMembers (members_of_envelope e)
envelope_sorted e = (tt, refl, (tt, refl, ((tt, tt, tt), tt, tt)))

-- a tree that is joined with the members of an envelope is in it
pub joined_is : (e : Envelope) (v w : Data) → IsTree v → IsJoined v (members_of_envelope e) w → w ≡ in_envelope e v
joined_is e (object ms) w t is =
    is.1 ∙ ap object (same_members is.0 (with_members (members_of_envelope e) ms) is.2 (with_members_sorted (members_of_envelope e) ms (envelope_sorted e) t)
    (λ j. is.3 j ∙ sym (with_members_at (members_of_envelope e) ms j)))
joined_is e null w t is = is
joined_is e (boolean b) w t is = is
joined_is e (integer z) w t is = is
joined_is e (number s) w t is = is
joined_is e (text s) w t is = is
joined_is e (list ds) w t is = is
