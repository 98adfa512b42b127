-- Texts and choices of the code, as what is printed of them.
use Rattle.std.proofs.Common.{◌≡◌, ◌++◌, ℕ, List, [], ◌∷◌, map, length, false, refl, ap}
use Rattle.std.specs.Prelude.{◌==◌, codes}
use Rattle.jtree.specs.Data.{text, list, item, AreTrees}
use Rattle.jtree.specs.Text.{compact}
use Rattle.jtree.specs.View.{items_of}
use Rattle.jtree.specs.declared.value.Tree.{Tree}
use Rattle.jtree.specs.declared.value.Tree.TheVariants.{Text}
use Rattle.crdx.specs.Program.FieldLines.{enum_line}
use Rattle.crdx.specs.Program.TextList.{text_items}

pub items_of_texts : (ts : List (List ℕ)) → items_of (map (λ t. Text t) ts) ≡ text_items ts
items_of_texts [] = refl
items_of_texts (t ∷ ts) = ap (item (text t)) (items_of_texts ts)

pub texts_are_trees : (ts : List (List ℕ)) → AreTrees (items_of (map (λ t. Text t) ts))
texts_are_trees [] = tt
texts_are_trees (t ∷ ts) = (tt, texts_are_trees ts)

-- the line of some choices
pub enum_line_of_some : (choices : List Tree) → (length choices == 0) ≡ false → codes "enum " ++ (compact (list (items_of choices)) ++ codes "\n") ≡ enum_line (items_of choices)
enum_line_of_some [] some = cc
enum_line_of_some (v ∷ vs) some = refl
