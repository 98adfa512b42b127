-- What is found with the keywords of a place are all reasons of a rule there.
use Rattle.std.proofs.Common.{◌≡◌, ◌<◌, ◌+◌, ℕ, suc, List, [], ◌∷◌, ◌++◌, length, take, get_or, map, true, false, Option, Some, None, refl, sym, ap, ◌∙◌, subst, inl, inr, arith}
use Rattle.std.specs.Prelude.{◌↔◌, option_map, IsTrue}
use Rattle.std.specs.List.{slice_get, range_with_len}
use Rattle.std.specs.Option.{is_some}
use Rattle.std.specs.Str.{bytes_eq}
use Rattle.std.specs.declared.cmp.Ordering.TheVariants.{Less}
use Rattle.std.proofs.lemmas.List.{append-nil, map-append, take_more}
use Rattle.std.proofs.lemmas.Grind.{flat_map-append}
use Rattle.std.proofs.lemmas.List.FromFn.{get_or-range_with_len}
use Rattle.std.proofs.lemmas.Option.{same_Some, slice_get-map, slice_get_within, slice_get-get_or, get_or_from_slice_get}
use Rattle.jtree.specs.Data.{Data, object, AreMembers}
use Rattle.jtree.specs.Order.{text_cmp}
use Rattle.jtree.specs.Path.{member_at}
use Rattle.jtree.specs.View.{members_of}
use Rattle.jtree.specs.declared.value.Member.{Member}
use Rattle.jtree.specs.Internal.Lookups.{bool_cases, same_name, own_name, before_each}
use Rattle.jtree.specs.Internal.Rising.{Among, Rising, index_of, contained, contains, each_of, all_pairs, among_left, among_right, among_parts, rising_join}
use Rattle.schema.specs.Document.Raw.{Raw, raw_by}
use Rattle.schema.specs.Internal.PlaceView.{place_of}
use Rattle.schema.specs.Internal.Subschemas.{IsSubschema}
use Rattle.schema.specs.Internal.Taken.{Taken}
use Rattle.schema.specs.Internal.Findings.{findings_at, findings_among, ExplainedBy, AddsFindings}
use Rattle.schema.specs.Rules.Keywords.{has}
use Rattle.schema.specs.Rules.Reasons.{Explains, HasReason}
use Rattle.schema.specs.Rules.ReasonTable.{all_reasons, StandsAt, Precedes}
use Rattle.schema.specs.Rules.Explained.{finding, IsBefore, AreFindings}
use Rattle.schema.specs.declared.listing.Subschema.{Subschema}
use Rattle.schema.specs.declared.violation.Rule.{Rule}
use Rattle.schema.specs.declared.reason.Reason.{Reason}
use Rattle.schema.specs.declared.reason.Reason.TheVariants.{NotInBranches, TypeInBranch, NotSupported, KeysOfOtherList, NoKeys, NoItems, ItemsNotObjects, ItemsNotScalars, NullableItems, RepeatedKey, UndeclaredKey, KeyNotScalar, NullableKey, OptionalKey, MisplacedJunctor, NotInScalarBranches, NotInPresenceBranches, TooManyNames, EmptyEnum, EnumNotScalars, EnumOfOtherKind, UndeclaredField, RootNotObject, NotAtRoot, UnknownType, NotWithPreserving, NotOfScalars, NotOfLists, NotOfObjects, NotOfOpenPlaces, AdditionalPropertiesTrue}
use Rattle.schema.specs.declared.reason.Finding.{Finding}
use Rattle.schema.proofs.TakenLemmas.{Same, same_each, same_all, same_rising, adds_join, adds_one, adds_nothing}
use Rattle.schema.specs.declared.profile.Profile.{Profile}

-- ---- one more reason, and one more keyword

more_findings : (k : List ℕ) (reasons : List Reason) (i : ℕ) (d : Reason) → i < length reasons
    → findings_at k (take (i + 1) reasons) ≡ findings_at k (take i reasons) ++ (finding k (get_or reasons i d) ∷ [])
more_findings k reasons i d within = ap (findings_at k) (take_more reasons i d within) ∙ map-append (finding k) (take i reasons) (get_or reasons i d ∷ [])

pub found_reason : (profile : Profile) (v : Subschema) (r : Rule) (k : List ℕ) (reasons : List Reason) (i : ℕ) (d : Reason) (old mid : List Finding) (f : Finding) → i < length reasons
    → f ≡ finding k (get_or reasons i d) → ((raw : Data) → IsSubschema raw v → IsTrue true ↔ ExplainedBy profile v r raw (finding k (get_or reasons i d)))
    → AddsFindings profile v r (findings_at k (take i reasons)) old mid → AddsFindings profile v r (findings_at k (take (i + 1) reasons)) old (mid ++ (f ∷ []))
found_reason profile v r k reasons i d old mid f within same is h =
    subst (λ fs. AddsFindings profile v r fs old (mid ++ (f ∷ []))) (sym (more_findings k reasons i d within))
    (adds_join (findings_at k (take i reasons)) (finding k (get_or reasons i d) ∷ []) old mid (mid ++ (f ∷ [])) (λ raw known. known) h
    (adds_one (finding k (get_or reasons i d)) f mid (λ raw known. ((is raw known).0 refl, sym same))))

pub passed_reason : (profile : Profile) (v : Subschema) (r : Rule) (k : List ℕ) (reasons : List Reason) (i : ℕ) (d : Reason) (old mid : List Finding) → i < length reasons
    → ((raw : Data) → IsSubschema raw v → IsTrue false ↔ ExplainedBy profile v r raw (finding k (get_or reasons i d)))
    → AddsFindings profile v r (findings_at k (take i reasons)) old mid → AddsFindings profile v r (findings_at k (take (i + 1) reasons)) old mid
passed_reason profile v r k reasons i d old mid within is h =
    subst (λ fs. AddsFindings profile v r fs old mid) (sym (more_findings k reasons i d within))
    (adds_join (findings_at k (take i reasons)) (finding k (get_or reasons i d) ∷ []) old mid mid (λ raw known. known) h
    (adds_nothing (finding k (get_or reasons i d)) mid (λ raw known holds. let never : false ≡ true = (is raw known).1 holds in cc)))

pub found_member : (profile : Profile) (v : Subschema) (r : Rule) (members : List Member) (i : ℕ) (m : Member) (mid new : List Finding) → i < length members → m ≡ get_or members i m
    → AddsFindings profile v r (findings_at m.name all_reasons) mid new
    → AddsFindings profile v r (findings_among (take i members)) [] mid → AddsFindings profile v r (findings_among (take (i + 1) members)) [] new
found_member profile v r members i m mid new within at here h =
    let cands = λ (n : Member). findings_at n.name all_reasons in
    let more : take (i + 1) members ≡ take i members ++ (m ∷ []) = take_more members i m within ∙ ap (λ n. take i members ++ (n ∷ [])) (sym at) in
    let split : findings_among (take (i + 1) members) ≡ findings_among (take i members) ++ cands m =
    ap findings_among more ∙ flat_map-append cands (take i members) (m ∷ []) ∙ ap (λ fs. findings_among (take i members) ++ fs) (append-nil (cands m)) in
    subst (λ fs. AddsFindings profile v r fs [] new) (sym split) (adds_join (findings_among (take i members)) (cands m) [] mid new (λ raw known. known) h here)

-- ---- the table of the reasons

abbrev listed : (c : Reason) → (n : ℕ) × StandsAt c n
listed NotInBranches = (0, refl)
listed TypeInBranch = (1, refl)
listed NotSupported = (2, refl)
listed KeysOfOtherList = (3, refl)
listed NoKeys = (4, refl)
listed NoItems = (5, refl)
listed ItemsNotObjects = (6, refl)
listed ItemsNotScalars = (7, refl)
listed NullableItems = (8, refl)
listed RepeatedKey = (9, refl)
listed UndeclaredKey = (10, refl)
listed KeyNotScalar = (11, refl)
listed NullableKey = (12, refl)
listed OptionalKey = (13, refl)
listed MisplacedJunctor = (14, refl)
listed NotInScalarBranches = (15, refl)
listed NotInPresenceBranches = (16, refl)
listed TooManyNames = (17, refl)
listed EmptyEnum = (18, refl)
listed EnumNotScalars = (19, refl)
listed EnumOfOtherKind = (20, refl)
listed UndeclaredField = (21, refl)
listed RootNotObject = (22, refl)
listed NotAtRoot = (23, refl)
listed UnknownType = (24, refl)
listed NotWithPreserving = (25, refl)
listed NotOfScalars = (26, refl)
listed NotOfLists = (27, refl)
listed NotOfObjects = (28, refl)
listed NotOfOpenPlaces = (29, refl)
listed AdditionalPropertiesTrue = (30, refl)

pub reason_stands_once : (c : Reason) → (n : ℕ) × StandsAt c n × ((m : ℕ) → StandsAt c m → m ≡ n)
reason_stands_once c = (
  (listed c).0,
  (listed c).1,
  λ m at.
      let place = λ (d : Reason). (listed d).0 in
      let places : map place all_reasons ≡ range_with_len 0 31 = refl in
      let placed : slice_get (range_with_len 0 31) m ≡ Some (place c) = subst (λ ns. slice_get ns m ≡ Some (place c)) places (slice_get-map place all_reasons m ∙ ap (option_map place) at) in
      let within : m < 31 = slice_get_within (range_with_len 0 31) m (place c) placed in
      let found : m ≡ place c = omega (arith, get_or-range_with_len 0 31 m 0 within, get_or_from_slice_get (range_with_len 0 31) m (place c) 0 placed) in
      found,
)

standing : (reasons : List Reason) (n : ℕ) (c : Reason) → slice_get reasons n ≡ Some c → Among reasons c
standing reasons n c at = contained reasons c (n, slice_get_within reasons n c at, get_or_from_slice_get reasons n c c at)

-- what stands in the table from a place on
after : (reasons : List Reason) (i : ℕ) → ((j : ℕ) → slice_get all_reasons (i + j) ≡ slice_get reasons j) → Rising Precedes reasons
after [] i at = tt
after (c ∷ reasons) i at = (
  λ d a. let r = index_of reasons d d a in let here : i ≡ i + 0 = omega arith in (i, i + suc r.0, omega arith, ap (slice_get all_reasons) here ∙ at 0, at (suc r.0) ∙ slice_get-get_or reasons r.0 d r.1 ∙ ap Some r.2),
  after reasons (suc i) (λ j. let moved : suc i + j ≡ i + suc j = omega arith in ap (slice_get all_reasons) moved ∙ at (suc j)),
)

table_rising : Rising Precedes all_reasons
table_rising = after all_reasons 0 (λ j. let same : 0 + j ≡ j = omega arith in ap (slice_get all_reasons) same)

among_findings : (k : List ℕ) (reasons : List Reason) (c : Reason) → Among reasons c → Among (findings_at k reasons) (finding k c)
among_findings k [] c a = a
among_findings k (d ∷ reasons) c (inl e) = inl (ap (finding k) e)
among_findings k (d ∷ reasons) c (inr a) = inr (among_findings k reasons c a)

from_findings : (k : List ℕ) (reasons : List Reason) (f : Finding) → Among (findings_at k reasons) f → (c : Reason) × Among reasons c × (finding k c ≡ f)
from_findings k [] f a = elim a [ ]
from_findings k (d ∷ reasons) f (inl e) = (d, inl refl, e)
from_findings k (d ∷ reasons) f (inr a) = let g = from_findings k reasons f a in (g.0, inr g.1, g.2)

reasons_rising : (k : List ℕ) (reasons : List Reason) → Rising Precedes reasons → Rising IsBefore (findings_at k reasons)
reasons_rising k [] h = tt
reasons_rising k (c ∷ reasons) h = (
  λ g a. let f = from_findings k reasons g a in subst (IsBefore (finding k c)) f.2 (inr (refl, h.0 f.0 f.1)),
  reasons_rising k reasons h.1,
)

-- ---- the keywords of a place

member_there : (members : List Member) (m : Member) → Among members m → is_some (member_at m.name (members_of members)) ≡ true
member_there [] m a = absurd a
member_there (n ∷ members) m (inl e) = rw (subst (λ x. bytes_eq m.name x.name ≡ true) (sym e) (own_name m.name)) refl
member_there (n ∷ members) m (inr a) = elim (bool_cases (bytes_eq m.name n.name)) [
  | inl same ↦ rw same refl
  | inr other ↦ rw other (member_there members m a)
]

there_member : (members : List Member) (k : List ℕ) → is_some (member_at k (members_of members)) ≡ true → (m : Member) × Among members m × (m.name ≡ k)
there_member [] k h = absurd (cc)
there_member (n ∷ members) k h = elim (bool_cases (bytes_eq k n.name)) [
  | inl same ↦ (n, inl refl, sym (same_name k n.name same))
  | inr other ↦ let f = there_member members k (rw other at h) in (f.0, inr f.1, f.2)
]

some_value : (o : Option Data) → is_some o ≡ true → (d : Data) × (o ≡ Some d)
some_value (Some d) h = (d, refl)
some_value None h = absurd (cc)

name_before : (members : List Member) (n m : Member) → AreMembers (members_of (n ∷ members)) → Among members m → text_cmp n.name m.name ≡ Less
name_before members n m are a =
    let d = some_value _ (member_there members m a) in
    before_each n.name (members_of members) m.name d.0 are.1 are.2 d.1

from_among : (members : List Member) (f : Finding) → Among (findings_among members) f → (m : Member) × (c : Reason) × Among members m × (finding m.name c ≡ f)
from_among [] f a = elim a [ ]
from_among (n ∷ members) f a = elim (among_parts (findings_at n.name all_reasons) (findings_among members) f a) [
  | inl here ↦ let g = from_findings n.name all_reasons f here in (n, g.0, inl refl, g.2)
  | inr later ↦ let g = from_among members f later in (g.0, g.1, inr g.2, g.3)
]

to_among : (members : List Member) (m : Member) (c : Reason) → Among members m → Among (findings_among members) (finding m.name c)
to_among [] m c a = elim a [ ]
to_among (n ∷ members) m c (inl e) =
    among_left (findings_at n.name all_reasons) (findings_among members) (finding m.name c)
    (subst (λ x. Among (findings_at n.name all_reasons) (finding x.name c)) e (among_findings n.name all_reasons c (standing all_reasons (listed c).0 c (listed c).1)))
to_among (n ∷ members) m c (inr a) = among_right (findings_at n.name all_reasons) (findings_among members) (finding m.name c) (to_among members m c a)

keyword_before : (k l : List ℕ) (c d : Reason) → text_cmp k l ≡ Less → IsBefore (finding k c) (finding l d)
keyword_before k l c d less = inl less

among_rising : (members : List Member) → AreMembers (members_of members) → Rising IsBefore (findings_among members)
among_rising [] are = tt
among_rising (n ∷ members) are =
    rising_join IsBefore (findings_at n.name all_reasons) (findings_among members) (reasons_rising n.name all_reasons table_rising) (among_rising members are.2) (λ f g here there.
    let a = from_findings n.name all_reasons f here in
    let b = from_among members g there in
    let less : IsBefore (finding n.name a.0) (finding b.0.name b.1) = keyword_before n.name b.0.name a.0 b.1 (name_before members n b.0 are b.2) in
    subst (λ x. IsBefore x g) a.2 (subst (λ x. IsBefore (finding n.name a.0) x) b.3 less))

-- ---- all reasons of a rule at a place

pub findings_are : (profile : Profile) (v : Subschema) (r : Rule) (members : List Member) (findings : List Finding) → AreMembers v.schema.now → members_of members ≡ v.schema.now
    → AddsFindings profile v r (findings_among members) [] findings → (raw : Data) → IsSubschema raw v → AreFindings (raw_by profile raw) (place_of v.place.items) r findings
findings_are profile v r members findings are whole h raw is =
    let p = place_of v.place.items in
    let s = object v.schema.now in
    let P = ExplainedBy profile v r raw in
    let cands = findings_among members in
    let taken : Taken P Same cands findings = subst (Taken P Same cands) (sym h.grown) (h.are raw is) in
    let there = λ (k : List ℕ). subst (λ ms. is_some (member_at k ms) ≡ true) whole in
    record {
      each = each_of (λ f. HasReason (raw_by profile raw) p r f.keyword f.reason) findings (λ f a.
          let x = same_each P cands findings f taken a in
          let m = from_among members f x.0 in
          let explains : Explains (raw_by profile raw) p s r m.0.name m.1 = subst P (sym m.3) x.1 in
          subst (λ g. HasReason (raw_by profile raw) p r g.keyword g.reason) m.3 (s, is.is, (there m.0.name (member_there members m.0 m.2), explains)));
      all = λ k c reason.
          let (t, at, (has_it, explains)) = reason in
          let same : t ≡ s = same_Some t s (sym at ∙ is.is) in
          let own : has s k ≡ true = subst (λ u. has u k ≡ true) same has_it in
          let m = there_member members k (subst (λ ms. is_some (member_at k ms) ≡ true) (sym whole) own) in
          let cand : Among cands (finding k c) = subst (λ l. Among cands (finding l c)) m.2 (to_among members m.0 c m.1) in
          contains findings (finding k c) (same_all P cands findings (finding k c) taken cand (subst (λ u. Explains (raw_by profile raw) p u r k c) same explains));
      ascending = all_pairs IsBefore findings (same_rising P IsBefore cands findings taken (among_rising members (subst AreMembers (sym whole) are)));
    }
