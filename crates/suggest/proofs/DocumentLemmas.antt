-- Lists of trees as the code makes them, the members of a document, and what is suggested with its pools.
use Rattle.std.proofs.Common.{◌≡◌, ◌∙◌, ℕ, suc, length, List, [], ◌∷◌, ◌++◌, Bool, true, not, ◌==◌, Some, None, map, refl, ap, arith}
use Rattle.std.proofs.lemmas.Bool.Decides.{nat_tests}
use Rattle.std.specs.Borrow.{Bor}
use Rattle.std.specs.Prelude.{codes}
use Rattle.jtree.specs.Data.{Data, text, list, object, item, IsTree, AreTrees, Members, no_members, member}
use Rattle.jtree.specs.View as view
use Rattle.jtree.specs.View.{data_of, members_of}
use Rattle.jtree.specs.declared.value.Member.{Member}
use Rattle.jtree.specs.declared.value.Tree.{Tree}
use Rattle.schema.specs.Nodes.Node.{Node}
use Rattle.plan.specs.declared.pool_limits.PoolLimits.{PoolLimits}
use Rattle.suggest.specs.View.{texts_at}
use Rattle.jtree.specs.MemberPlace.{with_member}
use Rattle.suggest.specs.Suggested.Document.{items_of, document_with, general_of, single, suggestions_by}
use Rattle.suggest.specs.Suggested.Varied.{lists_alone, suggestions_below}
use Rattle.suggest.specs.Suggested.Wanted.{Wanted}
use Rattle.suggest.specs.Internal.Parts.{with_lists_member, with_texts_member, with_values_member, general_with, suggestions_from}

pub items_are : (ts : List Tree) → view.items_of ts ≡ items_of (map (λ t. data_of t) ts)
items_are [] = refl
items_are (t ∷ ts) = ap (item (data_of t)) (items_are ts)

pub one_tree_more : (ts : List Tree) (t : Tree) → AreTrees (view.items_of ts) → IsTree (data_of t) → AreTrees (view.items_of (ts ++ t ∷ []))
one_tree_more [] t h one = (one, tt)
one_tree_more (u ∷ ts) t h one = (h.0, one_tree_more ts t h.1 one)

-- ---- the members of a document, each put where it belongs

pub some_lists : (k : List ℕ) (ls : List Member) (ms : Members) → (length ls ≡ 0 → ⊥) → with_lists_member k (members_of ls) ms ≡ with_member k (object (members_of ls)) ms
some_lists k [] ms some = absurd (some refl)
some_lists k (l ∷ ls) ms some = refl

pub in_place : (any : List Data) (fixed : Members) (integers : List Data) (names : List (List ℕ)) (numbers : List Data) (paths : Members) (present : List (List ℕ)) (strings : List Data)
    → object (with_member (codes "strings") (list (items_of strings)) (with_texts_member (codes "present") present (with_lists_member (codes "paths") paths (
    with_values_member (codes "numbers") numbers (with_member (codes "names") (list (items_of (map (λ t. text t) names))) (with_member (codes "integers") (list (items_of integers)) (
    with_lists_member (codes "fixed") fixed (with_member (codes "any") (list (items_of any)) no_members)))))))) ≡ document_with any fixed integers names numbers paths present strings
in_place any no_members integers names [] no_members [] strings = refl
in_place any no_members integers names [] no_members (t ∷ ts) strings = refl
in_place any no_members integers names [] (member k d ms) [] strings = refl
in_place any no_members integers names [] (member k d ms) (t ∷ ts) strings = refl
in_place any no_members integers names (v ∷ vs) no_members [] strings = refl
in_place any no_members integers names (v ∷ vs) no_members (t ∷ ts) strings = refl
in_place any no_members integers names (v ∷ vs) (member k d ms) [] strings = refl
in_place any no_members integers names (v ∷ vs) (member k d ms) (t ∷ ts) strings = refl
in_place any (member l e ns) integers names [] no_members [] strings = refl
in_place any (member l e ns) integers names [] no_members (t ∷ ts) strings = refl
in_place any (member l e ns) integers names [] (member k d ms) [] strings = refl
in_place any (member l e ns) integers names [] (member k d ms) (t ∷ ts) strings = refl
in_place any (member l e ns) integers names (v ∷ vs) no_members [] strings = refl
in_place any (member l e ns) integers names (v ∷ vs) no_members (t ∷ ts) strings = refl
in_place any (member l e ns) integers names (v ∷ vs) (member k d ms) [] strings = refl
in_place any (member l e ns) integers names (v ∷ vs) (member k d ms) (t ∷ ts) strings = refl

pub some_values : (k : List ℕ) (vs : List Data) (ms : Members) → (length vs ≡ 0 → ⊥) → with_values_member k vs ms ≡ with_member k (list (items_of vs)) ms
some_values k [] ms some = absurd (some refl)
some_values k (v ∷ vs) ms some = refl

-- ---- what is suggested with the pools that suit

some_more : (n : ℕ) → not (suc n == 0) ≡ true
some_more n = grind (arith, nat_tests)

pub said_around : (varied : List (Bor (List ℕ))) (beside : Bool) (limits : PoolLimits) (raw : Data) (root : Node) (w : Wanted) → beside ≡ not (length varied == 0)
    → suggestions_from (texts_at varied) (general_with beside limits root) w raw root ≡ suggestions_by (texts_at varied) (general_of limits root) w raw root
said_around [] beside limits raw root w is = ap (λ b. lists_alone (general_with b limits root) w.objects None (Some raw) [] root) is
said_around (t ∷ ts) beside limits raw root w is = ap (λ b. suggestions_below (general_with b limits root) (texts_at (t ∷ ts)) (single w.objects) (Some raw) [] root) (is ∙ some_more (length ts))
