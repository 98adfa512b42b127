-- Walks that fill the parts of a value one after the other.
use Rattle.std.proofs.Common.{◌≡◌, ℕ, List, [], ◌∷◌, ◌++◌, Option, Some, None, length, arith, refl, subst}
use Rattle.std.specs.Prelude.{option_map, MatchOption}
use Rattle.std.specs.Option.{option_to_list}
use Rattle.jtree.specs.Data.{Items, no_items, item, Members, no_members, member, IsTree, AreMembers, IsNameBefore}
use Rattle.jtree.specs.View.{data_of, items_of, members_of}
use Rattle.jtree.specs.declared.value.Tree.{Tree}
use Rattle.jtree.specs.declared.value.Member.{Member}
use Rattle.schema.specs.Nodes.Node.{Node, Fields}
use Rattle.schema.specs.Nodes.View.{fields_of}
use Rattle.schema.specs.declared.node.Field.{Field}
use Rattle.stored.specs.Objects.Parts.{at}
use Rattle.stored.specs.Objects.Becomes.{IsFilled, admitted, filled_under}
use Rattle.stored.specs.Internal.Fields.{declared_of}
use Rattle.stored.specs.Internal.Defaulting.{AreFilledItems, joined, in_front, AreFilledFields, AreFilledValues, tree_in, IsFilledAt, IsPassed, FillsItems, FillsValues, FillsFields}
use Rattle.stored.proofs.FilledParts.{item_filled, joined_item, joined_end, joined_members, joined_none, joined_some, some_tree, no_values, value_filled, no_more_fields, field_filled, passed_stay}

-- a list of no length is over
pub no_more : {X : Type 0} (xs : List X) (n : ℕ) → n ≡ length xs → n ≡ 0 → xs ≡ []
no_more [] n is none = refl
no_more (x ∷ xs) n is none = absurd (omega arith)

-- ---- items

pub items_more : (N : Node) (ds : Items) (d : Tree) (t : Tree) (rest all filled more : List Tree) → all ≡ d ∷ rest → more ≡ filled ++ t ∷ [] → IsTree (data_of t) → IsFilled N (data_of d) (data_of t)
    → FillsItems N ds all filled → FillsItems N ds rest more
items_more N ds d t rest all filled more is pushed tree here fills es f =
    rw (pushed, joined_item filled t es) (fills (item (data_of t) es) (rw is (item_filled N (data_of d) (data_of t) (items_of rest) es tree here f)))

pub items_end : (N : Node) (ds : Items) (rest filled : List Tree) → rest ≡ [] → FillsItems N ds rest filled → AreFilledItems N ds (items_of filled)
items_end N ds rest filled none fills =
    subst (AreFilledItems N ds) (joined_end (items_of filled)) (fills no_items (rw none (record { trees = tt; each = λ i path. refl })))

-- ---- values

pub values_more : (N : Node) (ms : Members) (m : Member) (rest all filled more : List Member) (o : Option Member) → all ≡ m ∷ rest → more ≡ filled ++ option_to_list o
    → IsFilledAt m.name (option_map (at N) (admitted N (Some (data_of m.tree)))) o → FillsValues N ms all filled → FillsValues N ms rest more
values_more N ms m rest all filled more o is pushed here fills =
    let sorted : AreMembers (members_of (m ∷ rest)) = subst (λ xs. AreMembers (members_of xs)) is fills.sorted in
    record {
      sorted = sorted.2;
      onward = λ ns f.
          rw (pushed, joined_some m.name filled o ns here.member)
          (fills.onward (in_front m.name (tree_in o) ns) (rw is (value_filled N m.name (data_of m.tree) (tree_in o) (members_of rest) ns sorted (some_tree m.name o here.member) here.becomes f)));
    }

pub values_end : (N : Node) (ms : Members) (rest filled : List Member) → rest ≡ [] → FillsValues N ms rest filled → AreFilledValues N ms (members_of filled)
values_end N ms rest filled none fills =
    subst (AreFilledValues N ms) (joined_none (members_of filled)) (fills.onward no_members (rw none (no_values N)))

-- ---- declared fields

members_joined : (xs ys : List Member) → members_of (xs ++ ys) ≡ joined (members_of xs) (members_of ys)
members_joined [] ys = refl
members_joined (x ∷ xs) ys = λ i. member x.name (data_of x.tree) (members_joined xs ys i)

sorted_rest : (xs ys : List Member) → AreMembers (members_of (xs ++ ys)) → AreMembers (members_of ys)
sorted_rest [] ys sorted = sorted
sorted_rest (x ∷ xs) ys sorted = sorted_rest xs ys sorted.2

found_members : (k : List ℕ) (found : Option Member) (rest : List Member) → MatchOption found (IsNameBefore k (members_of rest)) (λ m. m.name ≡ k)
    → members_of (option_to_list found ++ rest) ≡ in_front k (tree_in found) (members_of rest)
found_members k None rest named = refl
found_members k (Some m) rest named = λ i. member (named i) (data_of m.tree) (members_of rest)

found_before : (k : List ℕ) (found : Option Member) (rest : List Member) → MatchOption found (IsNameBefore k (members_of rest)) (λ m. m.name ≡ k)
    → AreMembers (members_of (option_to_list found ++ rest)) → IsNameBefore k (members_of rest)
found_before k None rest named sorted = named
found_before k (Some m) rest named sorted = subst (λ n. IsNameBefore n (members_of rest)) named sorted.1

found_sorted : (found : Option Member) (rest : List Member) → AreMembers (members_of (option_to_list found ++ rest)) → AreMembers (members_of rest)
found_sorted found rest sorted = sorted_rest (option_to_list found) rest sorted

pub fields_more : (fs : Fields) (ms : Members) (f : Field) (later fields : List Field) (all rest filled passed more : List Member) (found o : Option Member) → fields ≡ f ∷ later
    → IsPassed f.name all rest filled passed found → IsFilledAt f.name (filled_under (Some (declared_of f)) (tree_in found)) o → more ≡ passed ++ option_to_list o
    → FillsFields fs ms fields all filled → FillsFields fs ms later rest more
fields_more fs ms f later fields all rest filled passed more found o is p here pushed fills =
    let xs = p.passed in
    let ys = option_to_list found ++ rest in
    let ordered = rw is at fills.ordered in
    let sorted : AreMembers (members_of (xs ++ ys)) = subst (λ zs. AreMembers (members_of zs)) p.left fills.sorted in
    let later_sorted : AreMembers (members_of ys) = sorted_rest xs ys sorted in
    let before = found_before f.name found rest p.named later_sorted in
    record {
      ordered = ordered.2;
      sorted = found_sorted found rest later_sorted;
      onward = λ ns g.
          let front_of = in_front f.name (tree_in o) ns in
          let field_is : AreFilledFields (fields_of (f ∷ later)) (members_of ys) front_of =
          rw (found_members f.name found rest p.named)
          (field_filled f.name (declared_of f) (fields_of later) (tree_in found) (tree_in o) (members_of rest) ns ordered before (found_sorted found rest later_sorted) (some_tree f.name o here.member) here.becomes g)
          in
          let whole_is : AreFilledFields (fields_of fields) (members_of all) (joined (members_of xs) front_of) =
          rw (is, p.left) (passed_stay f.name (declared_of f) (fields_of later) xs ys front_of ordered sorted p.are_before field_is)
          in
          rw (pushed, joined_some f.name passed o ns here.member, p.out, joined_members filled xs front_of) (fills.onward (joined (members_of xs) front_of) whole_is);
    }

pub fields_end : (fs : Fields) (ms : Members) (fields : List Field) (rest filled whole : List Member) → fields ≡ [] → whole ≡ filled ++ rest → FillsFields fs ms fields rest filled → AreFilledFields fs ms (members_of whole)
fields_end fs ms fields rest filled whole none is fills = rw (is, members_joined filled rest) (fills.onward (members_of rest) (rw none (no_more_fields (members_of rest) fills.sorted)))
