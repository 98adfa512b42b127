-- The paths of pools: which are good, and which is the first that is not.
use Rattle.std.proofs.Common.{◌≡◌, ◌≢◌, ◌⊎◌, ℕ, List, [], ◌∷◌, ◌++◌, Option, Some, None, Contains, refl, ap, sym, ◌∙◌, subst, inl, inr}
use Rattle.std.specs.Prelude.{MatchOption}
use Rattle.std.specs.Borrow.{Bor}
use Rattle.std.specs.Option.{option_or}
use Rattle.std.specs.Str.{bytes_eq}
use Rattle.std.specs.declared.cmp.Ordering.TheVariants.{Less}
use Rattle.std.proofs.lemmas.Cmp.{nat_list_cmp_total}
use Rattle.std.proofs.lemmas.Option.{same_Some}
use Rattle.std.proofs.lemmas.List.Elements.{Contains-append_left, Contains-push, Contains-push_cases}
use Rattle.jtree.specs.Data.{Data, Members, member, AreMembers}
use Rattle.jtree.specs.Order.{text_cmp}
use Rattle.jtree.specs.Internal.Lookups.{bool_cases, same_name, not_itself, member_first, member_later, member_tail, before_each}
use Rattle.schema.specs.Nodes.Node.{Node}
use Rattle.schema.specs.Nodes.ByPlace.{node_at}
use Rattle.explain.specs.Paths.FieldPath.{FieldPath, place_of}
use Rattle.explain.specs.Paths.PathText.{path_text}
use Rattle.explain.specs.Fields.Declared.{IsDeclared}
use Rattle.explain.specs.Fields.PathFault.{IsTextOf, IsPathFault}
use Rattle.explain.specs.declared.fault.XFault.{XFault}
use Rattle.explain.specs.declared.fault.XFault.TheVariants.{BadPath as BadText, NoSuchField}
use Rattle.plan.specs.Pools.Pools.{Pools}
use Rattle.plan.specs.Pools.FixedPaths.{IsFixablePath}
use Rattle.plan.specs.Pools.PlanFault.{IsLeafPath, IsDeclaredPath, HasName, AreGood, IsFirstBad, HasGoodPaths, IsFirstBadPath, in_paths, in_fixed, in_present}
use Rattle.plan.specs.Internal.PathLists.{IsBeforeText}
use Rattle.plan.specs.Samples.Candidates.{sort_at}
use Rattle.plan.specs.declared.sort.Sort.TheVariants.{Leaf}

-- ---- of one path

abbrev pub OneText : Type 0
OneText = (p q : FieldPath) → path_text p ≡ path_text q → p ≡ q

pub leaf_found : (root N : Node) (text : List ℕ) → IsTextOf (λ p. IsDeclared root p × (node_at root (place_of p) ≡ Some N)) text → sort_at N ≡ Leaf → IsLeafPath root text
leaf_found root N text t leaf = (t.0, t.1, (t.2.0, (N, (t.2.1, leaf))))

pub found_leaf : OneText → (root N : Node) (text : List ℕ) → IsTextOf (λ p. IsDeclared root p × (node_at root (place_of p) ≡ Some N)) text → IsLeafPath root text → sort_at N ≡ Leaf
found_leaf one root N text t leaf =
    let same : leaf.0 ≡ t.0 = one leaf.0 t.0 (leaf.1 ∙ sym t.1) in
    let node : leaf.2.1.0 ≡ N = same_Some leaf.2.1.0 N (sym leaf.2.1.1.0 ∙ (ap (λ p. node_at root (place_of p)) same ∙ t.2.1)) in
    subst (λ M. sort_at M ≡ Leaf) node leaf.2.1.1.1

pub no_path : OneText → (root : Node) (text : List ℕ) (e : XFault) → IsPathFault (IsDeclared root) text e → IsDeclaredPath root text → ⊥
no_path one root text BadText none h = none h.0 h.1
no_path one root text NoSuchField t h = t.2 (subst (IsDeclared root) (one h.0 t.0 (h.1 ∙ sym t.1)) h.2)

-- ---- of the names of an object

-- what holds of the rest holds of all
pub record IsAsRest (Good : List ℕ → Type 0) (rest all : Members) : Type 0 where
  pub ordered : AreMembers rest
  pub good : AreGood (HasName rest) Good → AreGood (HasName all) Good
  pub bad : (text : List ℕ) → IsFirstBad (HasName rest) Good text → IsFirstBad (HasName all) Good text

named_cases : (k : List ℕ) (d : Data) (ms : Members) (text : List ℕ) → HasName (member k d ms) text → (text ≡ k) ⊎ HasName ms text
named_cases k d ms text n = elim (bool_cases (bytes_eq text k)) [
  | inl t ↦ inl (same_name text k t)
  | inr f ↦ inr (n.0, sym (member_later text k d ms f) ∙ n.1)
]

good_passed : (Good : List ℕ → Type 0) (k : List ℕ) (d : Data) (ms : Members) → Good k → AreGood (HasName ms) Good → AreGood (HasName (member k d ms)) Good
good_passed Good k d ms here good text n = elim (named_cases k d ms text n) [
  | inl same ↦ subst Good (sym same) here
  | inr later ↦ good text later
]

bad_passed : (Good : List ℕ → Type 0) (k : List ℕ) (d : Data) (ms : Members) → AreMembers (member k d ms) → Good k → (text : List ℕ) → IsFirstBad (HasName ms) Good text
    → IsFirstBad (HasName (member k d ms)) Good text
bad_passed Good k d ms o here text b = (
  ((b.0.0.0, member_tail k d ms text b.0.0.0 o b.0.0.1), b.0.1),
  λ other bad. elim (named_cases k d ms other bad.0) [
    | inl same ↦ absurd (bad.1 (subst Good (sym same) here))
    | inr later ↦ b.1 other (later, bad.1)
  ],
)

pub rest_passed : (Good : List ℕ → Type 0) (k : List ℕ) (d : Data) (rest all : Members) → IsAsRest Good (member k d rest) all → Good k → IsAsRest Good rest all
rest_passed Good k d rest all r here = record {
  ordered = r.ordered.2;
  good = λ g. r.good (good_passed Good k d rest here g);
  bad = λ text b. r.bad text (bad_passed Good k d rest r.ordered here text b);
}

bad_here : (Good : List ℕ → Type 0) (k : List ℕ) (d : Data) (ms : Members) → AreMembers (member k d ms) → (Good k → ⊥) → IsFirstBad (HasName (member k d ms)) Good k
bad_here Good k d ms o bad = (
  ((d, member_first k d ms), bad),
  λ other b. elim (named_cases k d ms other b.0) [
    | inl same ↦ not_itself other k same
    | inr later ↦ λ less. not_itself k k refl (nat_list_cmp_total.trans k other k (before_each k ms other later.0 o.1 o.2 later.1) less)
  ],
)

pub first_bad : (Good : List ℕ → Type 0) (k : List ℕ) (d : Data) (rest all : Members) → IsAsRest Good (member k d rest) all → (Good k → ⊥) → IsFirstBad (HasName all) Good k
first_bad Good k d rest all r bad = r.bad k (bad_here Good k d rest r.ordered bad)

-- ---- of a list of texts

-- what is known of the first bad one of some texts
abbrev pub IsFirstOf : (List ℕ → Type 0) → List (List ℕ) → Option (List ℕ) → Type 0
IsFirstOf Good xs first = MatchOption first (AreGood (Contains xs) Good) (IsFirstBad (Contains xs) Good)

-- one good text more
pub good_more : (Good : List ℕ → Type 0) (xs : List (List ℕ)) (x : List ℕ) (first : Option (List ℕ)) → IsFirstOf Good xs first → Good x → IsFirstOf Good (xs ++ x ∷ []) first
good_more Good xs x None h good = λ text c. elim (Contains-push_cases xs x text c) [ inl before ↦ h text before | inr here ↦ subst Good here good ]
good_more Good xs x (Some y) h good = (
  (Contains-append_left xs (x ∷ []) y h.0.0, h.0.1),
  λ other b. elim (Contains-push_cases xs x other b.0) [ inl before ↦ h.1 other (before, b.1) | inr here ↦ absurd (b.1 (subst Good here good)) ],
)

-- a bad text more that comes before the others
pub first_more : (Good : List ℕ → Type 0) (xs : List (List ℕ)) (x : List ℕ) (first : Option (List ℕ)) → IsFirstOf Good xs first → (Good x → ⊥) → IsBeforeText x first → IsFirstOf Good (xs ++ x ∷ []) (Some x)
first_more Good xs x None h bad before = (
  (Contains-push xs x, bad),
  λ other b. elim (Contains-push_cases xs x other b.0) [ inl there ↦ absurd (b.1 (h other there)) | inr here ↦ not_itself other x (sym here) ],
)
first_more Good xs x (Some y) h bad before = (
  (Contains-push xs x, bad),
  λ other b. elim (Contains-push_cases xs x other b.0) [ inl there ↦ λ less. h.1 other (there, b.1) (nat_list_cmp_total.trans other x y less before) | inr here ↦ not_itself other x (sym here) ],
)

-- a text more that does not
pub later_more : (Good : List ℕ → Type 0) (xs : List (List ℕ)) (x : List ℕ) (first : Option (List ℕ)) → IsFirstOf Good xs first → (IsBeforeText x first → ⊥) → IsFirstOf Good (xs ++ x ∷ []) first
later_more Good xs x None h after = absurd (after tt)
later_more Good xs x (Some y) h after = (
  (Contains-append_left xs (x ∷ []) y h.0.0, h.0.1),
  λ other b. elim (Contains-push_cases xs x other b.0) [ inl there ↦ h.1 other (there, b.1) | inr here ↦ subst (λ t. text_cmp t y ≢ Less) here after ],
)

-- ---- of all members

abbrev IsFirstIn : (List ℕ → Type 0) → (List ℕ → Type 0) → Option (Bor (List ℕ)) → Type 0
IsFirstIn Has Good o = MatchOption o (AreGood Has Good) (λ text. IsFirstBad Has Good text.now)

pub first_of_all : (root : Node) (P : Pools) (paths fixed present : Option (Bor (List ℕ))) → IsFirstIn (HasName P.paths) (IsLeafPath root) paths → IsFirstIn (HasName P.fixed) (IsFixablePath root) fixed → IsFirstIn (Contains P.present) (IsDeclaredPath root) present
    → MatchOption (option_or (option_or paths fixed) present) (HasGoodPaths root P) (λ text. IsFirstBadPath root P text.now)
first_of_all root P (Some text) fixed present a b c = in_paths a
first_of_all root P None (Some text) present a b c = in_fixed a b
first_of_all root P None None (Some text) a b c = in_present a b c
first_of_all root P None None None a b c = record { paths = a; fixed = b; present = c }
