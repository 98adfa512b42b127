-- The first break of a form, from the first breaks of the parts.
use Rattle.std.proofs.Common.{◌≡◌, ℕ, zero, suc, List, [], ◌∷◌, length, drop, Option, Some, None, refl, ap, arith}
use Rattle.std.specs.Prelude.{not, ◌==◌}
use Rattle.std.proofs.lemmas.Bool.Decides.{nat_tests}
use Rattle.jtree.specs.Data.{Data, list}
use Rattle.jtree.specs.Path.{Path, item_at}
use Rattle.jtree.specs.View.{data_of, items_of}
use Rattle.jtree.specs.declared.value.Tree.{Tree}
use Rattle.schema.specs.Document.Forms.{Form, is_some_list}
use Rattle.schema.specs.Internal.Faults.{IsFirstBreak}
use Rattle.schema.specs.Internal.FormBreak.{or_else}
use Rattle.schema.specs.declared.forms.Misformed.{Misformed}
use Rattle.schema.specs.declared.forms.Misformed.TheVariants.{Broken, NoMemory}

pub some_items : (ts : List Tree) → is_some_list (list (items_of ts)) ≡ not (length ts == 0)
some_items [] = refl
some_items (t ∷ ts) = grind (arith, nat_tests)

or_else_some : (o p : Option Path) (path : Path) → o ≡ Some path → or_else o p ≡ Some path
or_else_some None p path h = cc
or_else_some (Some x) p path h = h

-- the first break of the first is that of the two
pub first_of_both : (f : Form) (d : Data) (o p : Option Path) (e : Misformed) → IsFirstBreak f d o e → IsFirstBreak f d (or_else o p) e
first_of_both f d o p (Broken s broken) h = (h.0, h.1, or_else_some o p h.0 h.2, h.3)
first_of_both f d o p NoMemory h = h

-- the item at an index
pub item_there : (xs : List Tree) (i : ℕ) (x : Tree) (rest : List Tree) → drop i xs ≡ x ∷ rest → item_at i (items_of xs) ≡ Some (data_of x)
item_there [] zero x rest h = cc
item_there [] (suc i) x rest h = cc
item_there (y ∷ ys) zero x rest h = let same : y ≡ x = cc in ap (λ z. Some (data_of z)) same
item_there (y ∷ ys) (suc i) x rest h = item_there ys i x rest h
