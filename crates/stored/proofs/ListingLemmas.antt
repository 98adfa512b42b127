-- How a walk lists the leaves that it comes to.
use Rattle.std.specs.Prelude.{◌≡◌, ◌+◌, ℕ, suc, List, [], ◌∷◌, ◌++◌, ◌<◌, length, map, take, Option, codes}
use Rattle.std.proofs.Common.{refl, sym, ap, ◌∙◌, append_assoc, arith, drop, get_or}
use Rattle.std.proofs.lemmas.List.{drop_more, map-append}
use Rattle.std.proofs.Math.Seq.{take-append_seam}
use Rattle.jtree.specs.Data.{Data}
use Rattle.jtree.specs.Path.{Step, name, index}
use Rattle.jtree.specs.View.{data_of, items_of, members_of}
use Rattle.jtree.specs.declared.value.Tree.{Tree}
use Rattle.jtree.specs.declared.value.Member.{Member}
use Rattle.schema.specs.Nodes.Node.{Node}
use Rattle.stored.specs.Objects.Leaves.{LeafAt}
use Rattle.stored.specs.Internal.LeavesByLevel.{below, of_members, of_items, leaves_by_level, part_leaves, Walked, added}

added_more : (p : Walked) (ls ms : List LeafAt) → added (added p ls) ms ≡ added p (ls ++ ms)
added_more p ls ms = rw (append_assoc, map-append) refl

listed_below : (way : List (List ℕ)) (s : Step) (e : List ℕ) (ls : List LeafAt) → map (λ l. way ++ l.elements) (map (below s e) ls) ≡ map (λ l. (way ++ (e ∷ [])) ++ l.elements) ls
listed_below way s e [] = refl
listed_below way s e (l ∷ ls) = rw (listed_below way s e ls) (rw append_assoc refl)

-- the way is made longer for a part, and cut again to what it was
pub part_listed : (way pushed : List (List ℕ)) (listed : List (List (List ℕ))) (s : Step) (element e : List ℕ) (ls : List LeafAt) (q : Walked) (depth : ℕ) (cut : List (List ℕ))
    → element ≡ e → pushed ≡ way ++ (element ∷ []) → q ≡ added (record { way = pushed; listed = listed }) ls → depth ≡ length way → cut ≡ take depth q.way
    → record { way = cut; listed = q.listed } ≡ added (record { way = way; listed = listed }) (map (below s e) ls)
part_listed way pushed listed s element e ls q depth cut same longer is long f = rw (f, is, long, longer, same, take-append_seam, listed_below way s e ls) refl

-- one member more
pub members_more : (p q z : Walked) (nodes : List ℕ → Option Node) (ms : List Member) (i : ℕ) (m : Member) → i < length ms → m ≡ get_or ms i m
    → q ≡ added p (map (below (name m.name) (codes "f:" ++ m.name)) (part_leaves (nodes m.name) (data_of m.tree))) → added p (of_members nodes (members_of (drop i ms))) ≡ z
    → added q (of_members nodes (members_of (drop (i + 1) ms))) ≡ z
members_more p q z nodes ms i m within at e f =
    let split : drop i ms ≡ m ∷ drop (i + 1) ms = drop_more ms i m within ∙ ap (λ y. y ∷ drop (i + 1) ms) (sym at) in
    let here = map (below (name m.name) (codes "f:" ++ m.name)) (part_leaves (nodes m.name) (data_of m.tree)) in
    rw e (added_more p here (of_members nodes (members_of (drop (i + 1) ms))) ∙ (ap (λ ys. added p (of_members nodes (members_of ys))) (sym split) ∙ f))

-- one item more
pub items_more : (p q z : Walked) (N : Node) (element : Data → List ℕ) (ts : List Tree) (i : ℕ) (t : Tree) → i < length ts → t ≡ get_or ts i t
    → q ≡ added p (map (below (index i) (element (data_of t))) (leaves_by_level N (data_of t))) → added p (of_items N element i (items_of (drop i ts))) ≡ z
    → added q (of_items N element (i + 1) (items_of (drop (i + 1) ts))) ≡ z
items_more p q z N element ts i t within at e f =
    let split : drop i ts ≡ t ∷ drop (i + 1) ts = drop_more ts i t within ∙ ap (λ y. y ∷ drop (i + 1) ts) (sym at) in
    let next : suc i ≡ i + 1 = omega arith in
    let here = map (below (index i) (element (data_of t))) (leaves_by_level N (data_of t)) in
    rw e
    (added_more p here (of_items N element (i + 1) (items_of (drop (i + 1) ts)))
    ∙ (ap (λ n. added p (here ++ of_items N element n (items_of (drop (i + 1) ts)))) (sym next)
    ∙ (ap (λ ys. added p (of_items N element i (items_of ys))) (sym split) ∙ f)))
