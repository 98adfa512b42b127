-- The compact JSON list of some texts (RFC 8259).
use Rattle.std.specs.Prelude.{ℕ, List, [], ◌∷◌}
use Rattle.jtree.specs.Data.{text, list, Items, no_items, item}
use Rattle.jtree.specs.Text.{compact}

abbrev pub text_items : List (List ℕ) → Items
text_items [] = no_items
text_items (t ∷ ts) = item (text t) (text_items ts)

abbrev pub text_list : List (List ℕ) → List ℕ
text_list ts = compact (list (text_items ts))
