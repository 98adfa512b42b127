-- What is listed for a scalar or an open node, as the code makes it.
use Rattle.std.proofs.Common.{◌≡◌, ◌↔◌, ◌<◌, ◌+◌, add-one, inl, inr, ℕ, List, [], ◌∷◌, ◌++◌, Bool, true, false, Option, Some, None, Decides, length, take, refl, ap, ◌==◌, append_assoc, append-nil, arith}
use Rattle.std.specs.Prelude.{◌&&◌, option_and_then, filter}
use Rattle.std.proofs.lemmas.Bool.{and_parts, and_from, eqb-true, eqb-false}
use Rattle.std.proofs.lemmas.Bool.Decides.{same_from_decides}
use Rattle.jtree.specs.Data.{Data}
use Rattle.jtree.specs.Data as trees
use Rattle.jtree.specs.Path.{under}
use Rattle.jtree.specs.View.{data_of}
use Rattle.jtree.specs.declared.value.Tree.{Tree}
use Rattle.jtree.specs.declared.value.Tree.TheVariants as tree
use Rattle.jtree.specs.Internal.Lookups.{bool_cases}
use Rattle.schema.specs.Rules.Keywords.{text_of, text_under}
use Rattle.schema.specs.Nodes.Node.{Node, node, scalar, Validations}
use Rattle.schema.specs.declared.node.ScalarKind.{ScalarKind}
use Rattle.stored.specs.Objects.Becomes.{IsStored}
use Rattle.stored.specs.Objects.StoredByParts.{StoredByParts}
use Rattle.suggest.specs.Suggested.LeafValues.{General, takes, hinted_from, or_general, besides, joined}
use Rattle.suggest.specs.View.{trees_of}

abbrev pub StoredLaw : Type 0
StoredLaw = (N : Node) (v : Data) → IsStored N v ↔ StoredByParts N v

both_hold : (r a b : Bool) (S : Type 0) → Decides r S → S ↔ (((a ≡ true) × (b ≡ true)) × Unit {0}) → r ≡ (a && b)
both_hold r a b S d law = same_from_decides r (a && b) d (λ e. law.1 (and_parts a b e, tt), λ s. let h = law.0 s in and_from a b h.0.0 h.0.1)

-- a value other than null that is stored at a scalar
pub scalar_takes : StoredLaw → (n : Bool) (d : Option (List ℕ)) (k : ScalarKind) (cs : Validations) (t : Tree) (r : Bool) → (t ≡ tree.Null → ⊥)
    → Decides r (IsStored (node n d (scalar k cs)) (data_of t)) → r ≡ takes (node n d (scalar k cs)) (data_of t)
scalar_takes law n d k cs tree.Null r some is = absurd (some refl)
scalar_takes law n d k cs (tree.Bool b) r some is = both_hold r _ _ _ is (law (node n d (scalar k cs)) (trees.boolean b))
scalar_takes law n d k cs (tree.Int z) r some is = both_hold r _ _ _ is (law (node n d (scalar k cs)) (trees.integer z))
scalar_takes law n d k cs (tree.Number s) r some is = both_hold r _ _ _ is (law (node n d (scalar k cs)) (trees.number s))
scalar_takes law n d k cs (tree.Text s) r some is = both_hold r _ _ _ is (law (node n d (scalar k cs)) (trees.text s))
scalar_takes law n d k cs (tree.List ds) r some is = both_hold r _ _ _ is (law (node n d (scalar k cs)) (trees.list ds))
scalar_takes law n d k cs (tree.Object ms) r some is = both_hold r _ _ _ is (law (node n d (scalar k cs)) (trees.object ms))

-- ---- the first few of a pool

pub few_taken : (T : Data → Bool) (acc : List Data) (x : Data) (rest : List Data) (left less : ℕ) → T x ≡ true → left ≡ less + 1
    → (acc ++ x ∷ []) ++ take less (filter T rest) ≡ acc ++ take left (filter T (x ∷ rest))
few_taken T acc x rest left less t e = rw (e, t, add-one) (append_assoc acc (x ∷ []) (take less (filter T rest)))

pub few_passed : (T : Data → Bool) (acc : List Data) (x : Data) (rest : List Data) (left : ℕ) → T x ≡ false
    → acc ++ take left (filter T rest) ≡ acc ++ take left (filter T (x ∷ rest))
few_passed T acc x rest left f = rw f refl

-- ---- texts of a format

pub one_filtered : (T : Data → Bool) (acc : List Data) (x : Data) (rest : List Data) → (acc ++ filter T (x ∷ [])) ++ filter T rest ≡ acc ++ filter T (x ∷ rest)
one_filtered T acc x rest = elim (bool_cases (T x)) [
  | inl t ↦ rw t (append_assoc acc (x ∷ []) (filter T rest))
  | inr f ↦ rw (f, append-nil) refl
]

pub format_is : (schema : Option Data) (k f : List ℕ) → option_and_then (λ d. under d k) schema ≡ Some (trees.text f) → option_and_then (λ s. text_under s k) schema ≡ Some f
format_is None k f e = cc
format_is (Some s) k f e = ap (option_and_then text_of) e

-- ---- what is hinted

no_more : {X : Type 0} (xs ys : List X) → length (xs ++ ys) ≡ length xs → ys ≡ []
no_more [] [] e = refl
no_more [] (y ∷ ys) e = absurd (omega (arith, e))
no_more (x ∷ xs) ys e = no_more xs ys (omega (arith, e))

pub hinted_own : (own texts general : List Data) → 0 < length own → length (own ++ texts) ≡ length own → (own ++ texts) ++ general ≡ hinted_from own texts general
hinted_own [] texts general some same = absurd (omega arith)
hinted_own (x ∷ own) [] general some same = ap (λ ds. ds ++ general) (append-nil (x ∷ own))
hinted_own (x ∷ own) (t ∷ texts) general some same = let none = no_more (x ∷ own) (t ∷ texts) same in absurd (cc)

pub hinted_texts : (own texts general : List Data) → (length (own ++ texts) ≡ length own → ⊥) → own ++ texts ≡ hinted_from own texts general
hinted_texts [] [] general more = refl
hinted_texts (x ∷ own) [] general more = absurd (more (ap length (append-nil (x ∷ own))))
hinted_texts [] (t ∷ texts) general more = refl
hinted_texts (x ∷ own) (t ∷ texts) general more = refl

pub hinted_none : (own texts general : List Data) → length own ≡ 0 → own ++ texts ≡ hinted_from own texts general
hinted_none [] [] general none = refl
hinted_none [] (t ∷ texts) general none = refl
hinted_none (x ∷ own) texts general none = absurd (omega (arith, none))

-- ---- what stands there, and what is suggested besides

pub none_there : (ts : List Tree) (n : ℕ) → n ≡ length ts → (n == 0) ≡ true → trees_of ts ≡ []
none_there [] n is e = refl
none_there (t ∷ ts) n is e = absurd (omega (arith, is, eqb-true n 0 e))

pub some_hinted : (ts : List Tree) (n : ℕ) (general : List Data) → n ≡ length ts → (n == 0) ≡ false → trees_of ts ≡ or_general (trees_of ts) general
some_hinted [] n general is e = absurd (eqb-false n 0 e is)
some_hinted (t ∷ ts) n general is e = refl

pub beside_some : (G : General) (N : Node) (ts : List Tree) (n : ℕ) (hinted : List Data) → n ≡ length ts → (n == 0) ≡ false → G.beside ≡ true → besides G N (trees_of ts) hinted ≡ joined G N (trees_of ts) hinted
beside_some G N [] n hinted is e beside = absurd (eqb-false n 0 e is)
beside_some G N (t ∷ ts) n hinted is e beside = rw beside refl

pub alone_some : (G : General) (N : Node) (ts : List Tree) (n : ℕ) (hinted : List Data) → n ≡ length ts → (n == 0) ≡ false → G.beside ≡ false → trees_of ts ≡ joined G N (trees_of ts) hinted
alone_some G N [] n hinted is e alone = absurd (eqb-false n 0 e is)
alone_some G N (t ∷ ts) n hinted is e alone = rw alone refl
