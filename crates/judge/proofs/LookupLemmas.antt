-- How a value meets a schema, by the names of keywords; and how deep what is found there nests.
use Rattle.std.proofs.Common.{◌≡◌, ◌≤◌, ℕ, zero, suc, List, [], ◌∷◌, true, ◌&&◌, Option, Some, None, option_map, codes, refl, ap, subst, ◌∙◌, arith, inl, inr}
use Rattle.std.specs.Str.{bytes_eq}
use Rattle.std.proofs.lemmas.Option.{same_Some}
use Rattle.jtree.specs.Data.{Data, null, list, object, Items, no_items, item, Members, no_members, member, IsTree, AreTrees, AreMembers, depth, members_depth}
use Rattle.jtree.specs.Path.{member_at, item_at}
use Rattle.jtree.specs.Internal.Lookups.{bool_cases}
use Rattle.judge.specs.Keywords.{Texts, meets_all, passes_if_asked, all_tests}
use Rattle.judge.specs.Asked.{member_schema, named}
use Rattle.judge.specs.Meets.{meets, branches, parts, Part, fields, field_list, under, first_there, passes_all, many_of, named_of, one_of, junctors, asked_of_member, meets_if, members_pass, items_pass, parts_pass, branches_pass}
use Rattle.judge.specs.Internal.MeetsByName.{branches_if, junctors_of, passes_each, branches_at, members_at, parts_at, meets_at}
use Rattle.judge.specs.declared.test.Test.{Test}

module _ (m : Texts) where
  part_of : Data → Part
  part_of d = record { one = meets m d; many = branches m d; named = fields m d }

  under_parts : (k : List ℕ) (ks : Members) → under k (parts m ks) ≡ option_map part_of (member_at k ks)
  unfolding part_of
  under_parts k no_members = refl
  under_parts k (member l d ks) = elim (bool_cases (bytes_eq k l)) [ inl e ↦ rw e refl | inr e ↦ rw e (under_parts k ks) ]

  under_fields : (k : List ℕ) (ks : Members) → under k (field_list m ks) ≡ option_map (meets m) (member_at k ks)
  under_fields k no_members = refl
  under_fields k (member l d ks) = elim (bool_cases (bytes_eq k l)) [ inl e ↦ rw e refl | inr e ↦ rw e (under_fields k ks) ]

  -- what is under a name, as a list of schemas, as a schema, and as schemas by name

  many_is : (o : Option Data) → many_of (option_map part_of o) ≡ branches_if m o
  unfolding part_of
  many_is None = refl
  many_is (Some d) = refl

  one_is : (o : Option Data) → one_of (option_map part_of o) ≡ option_map (meets m) o
  unfolding part_of
  one_is None = refl
  one_is (Some d) = refl

  named_is : (k : List ℕ) (o : Option Data) → named_of k (option_map part_of o) ≡ option_map (meets m) (named k o)
  unfolding part_of
  named_is k None = refl
  named_is k (Some (object ps)) = under_fields k ps
  named_is k (Some _) = refl

  first_is : (o p : Option Data) → first_there (option_map (meets m) o) (option_map (meets m) p) ≡ option_map (meets m) (first_there o p)
  first_is None p = refl
  first_is (Some d) p = refl

  many_under : (k : List ℕ) (ks : Members) → many_of (under k (parts m ks)) ≡ branches_if m (member_at k ks)
  many_under k ks = ap many_of (under_parts k ks) ∙ many_is (member_at k ks)

  one_under : (k : List ℕ) (ks : Members) → one_of (under k (parts m ks)) ≡ option_map (meets m) (member_at k ks)
  one_under k ks = ap one_of (under_parts k ks) ∙ one_is (member_at k ks)

  pub junctors_is : (ks : Members) → junctors (parts m ks) ≡ junctors_of m ks
  junctors_is ks = λ i. record { any = many_under (codes "anyOf") ks i; one = many_under (codes "oneOf") ks i; none = one_under (codes "not") ks i }

  member_is : (ks : Members) (k : List ℕ) → asked_of_member (parts m ks) k ≡ option_map (meets m) (member_schema k (object ks))
  member_is ks k =
      let properties = member_at (codes "properties") ks in
      let others = member_at (codes "additionalProperties") ks in
      ap (λ o. first_there o (one_of (under (codes "additionalProperties") (parts m ks)))) (ap (named_of k) (under_parts (codes "properties") ks) ∙ named_is k properties)
      ∙ (ap (first_there (option_map (meets m) (named k properties))) (one_under (codes "additionalProperties") ks) ∙ first_is (named k properties) others)

  passes_is : (ks : Members) (ts : List Test) (v : Data) → passes_all m ks (junctors_of m ks) ts v ≡ passes_each m ks ts v
  passes_is ks [] v = refl
  passes_is ks (t ∷ ts) v = ap (λ b. passes_if_asked m ks (junctors_of m ks) t v && b) (passes_is ks ts v)

  members_is : (ks ms : Members) → members_pass (asked_of_member (parts m ks)) ms ≡ members_at m ks ms
  members_is ks no_members = refl
  members_is ks (member k w ms) =
      ap (λ o. meets_if o w && members_pass (asked_of_member (parts m ks)) ms) (member_is ks k)
      ∙ ap (λ b. meets_if (option_map (meets m) (member_schema k (object ks))) w && b) (members_is ks ms)

  pub parts_is : (ks : Members) (v : Data) → parts_pass (parts m ks) v ≡ parts_at m ks v
  parts_is ks (object ms) = members_is ks ms
  parts_is ks (list ds) = ap (λ o. items_pass o ds) (one_under (codes "items") ks)
  parts_is ks _ = refl

  branches_is : (ks : Members) (v : Data) → branches_pass (parts m ks) v ≡ branches_at m ks v
  branches_is ks null = refl
  branches_is ks v = ap (λ bs. meets_all bs v) (many_under (codes "allOf") ks)

  pub meets_is : (ks : Members) (v : Data) → meets m (object ks) v ≡ meets_at m ks v
  meets_is ks v =
      ap (λ js. passes_all m ks js all_tests v && (branches_pass (parts m ks) v && parts_pass (parts m ks) v)) (junctors_is ks)
      ∙ (ap (λ b. b && (branches_pass (parts m ks) v && parts_pass (parts m ks) v)) (passes_is ks all_tests v)
      ∙ (ap (λ b. passes_each m ks all_tests v && (b && parts_pass (parts m ks) v)) (branches_is ks v)
      ∙ ap (λ b. passes_each m ks all_tests v && (branches_at m ks v && b)) (parts_is ks v)))

-- ---- the parts of a tree are trees, and a member nests less deep

pub item_tree : (i : ℕ) (ds : Items) (w : Data) → AreTrees ds → item_at i ds ≡ Some w → IsTree w
item_tree i no_items w t e = cc
item_tree zero (item d ds) w t e = subst IsTree (same_Some d w e) t.0
item_tree (suc i) (item d ds) w t e = item_tree i ds w t.1 e

pub member_tree : (k : List ℕ) (ms : Members) → AreMembers ms → (w : Data) → member_at k ms ≡ Some w → IsTree w
member_tree k no_members t w e = cc
member_tree k (member l d ms) t w e = elim (bool_cases (bytes_eq k l)) [
  | inl h ↦ subst IsTree (same_Some d w (rw h at e)) t.0
  | inr h ↦ member_tree k ms t.2 w (rw h at e)
]

pub member_depth : (k : List ℕ) (ks : Members) (d : Data) → member_at k ks ≡ Some d → depth d ≤ members_depth ks
member_depth k no_members d e = cc
member_depth k (member l x ks) d e = elim (bool_cases (bytes_eq k l)) [
  | inl h ↦ let same : x ≡ d = same_Some x d (rw h at e) in subst (λ y. depth y ≤ members_depth (member l x ks)) same (omega arith)
  | inr h ↦ let later = member_depth k ks d (rw h at e) in omega arith
]

named_depth : (k : List ℕ) (o : Option Data) (ks : Members) → ((d : Data) → o ≡ Some d → depth d ≤ members_depth ks) → (s : Data) → named k o ≡ Some s → depth s ≤ members_depth ks
named_depth k None ks h s e = cc
named_depth k (Some (object ps)) ks h s e = let whole = h (object ps) refl in let part = member_depth k ps s e in omega arith
named_depth k (Some _) ks h s e = cc

first_depth : (o p : Option Data) (n : ℕ) → ((s : Data) → o ≡ Some s → depth s ≤ n) → ((s : Data) → p ≡ Some s → depth s ≤ n) → (s : Data) → first_there o p ≡ Some s → depth s ≤ n
first_depth None p n g h s e = h s e
first_depth (Some d) p n g h s e = g s e

pub schema_depth : (k : List ℕ) (ks : Members) (s : Data) → member_schema k (object ks) ≡ Some s → depth s ≤ members_depth ks
schema_depth k ks s e =
    first_depth (named k (member_at (codes "properties") ks)) (member_at (codes "additionalProperties") ks) (members_depth ks)
    (λ t f. named_depth k (member_at (codes "properties") ks) ks (λ d g. member_depth (codes "properties") ks d g) t f)
    (λ t f. member_depth (codes "additionalProperties") ks t f) s e

-- ---- items with no schema

pub none_pass : (ds : Items) → items_pass None ds ≡ true
none_pass no_items = refl
none_pass (item w ds) = none_pass ds
