-- The tree order in words: which of two trees is before the other (this project's own).
use Rattle.std.specs.Prelude.{◌≡◌, ◌<◌, ◌<ℤ◌, ℕ, ℤ, List, true, false, Some, None}
use Rattle.std.specs.declared.cmp.Ordering.TheVariants.{Less}
use Rattle.jtree.specs.Data.{Data, boolean, integer, number, text, list, object, Items, Members}
use Rattle.jtree.specs.Path.{item_at, member_at}
use Rattle.jtree.specs.Nodes.{nodes}
use Rattle.jtree.specs.NumberOrder.{number_cmp}
use Rattle.jtree.specs.Order.{kind, text_cmp}

-- u and v agree in node count and kind
abbrev pub AreAlike : Data → Data → Type 0
AreAlike u v = (nodes u ≡ nodes v) × (kind u ≡ kind v)

-- lists agree at each index below i
abbrev pub AgreeBelow : ℕ → Items → Items → Type 0
AgreeBelow i ds es = (j : ℕ) → j < i → item_at j ds ≡ item_at j es

-- objects agree at each name before k, by bytes
abbrev pub AgreeBefore : List ℕ → Members → Members → Type 0
AgreeBefore k ms ns = (l : List ℕ) → text_cmp l k ≡ Less → member_at l ms ≡ member_at l ns

-- The first test that distinguishes two trees decides: fewer nodes; then the kind; then within the kind. Lists are decided
-- at the first index where they differ, and one that ends there comes first; objects at the least name where they differ,
-- and one without that name comes first.
pub data IsBefore : Data → Data → Type 0 where
  fewer_nodes : (u v : Data) → nodes u < nodes v → IsBefore u v
  earlier_kind : (u v : Data) → nodes u ≡ nodes v → kind u < kind v → IsBefore u v
  false_first : IsBefore (boolean false) (boolean true)
  lesser_integer : (a b : ℤ) → a <ℤ b → IsBefore (integer a) (integer b)
  lesser_number : (a b : List ℕ) → number_cmp a b ≡ Less → IsBefore (number a) (number b)
  lesser_text : (a b : List ℕ) → text_cmp a b ≡ Less → IsBefore (text a) (text b)
  ends_first : (ds es : Items) (i : ℕ) (e : Data) → AreAlike (list ds) (list es) → AgreeBelow i ds es
      → item_at i ds ≡ None → item_at i es ≡ Some e → IsBefore (list ds) (list es)
  lesser_item : (ds es : Items) (i : ℕ) (d e : Data) → AreAlike (list ds) (list es) → AgreeBelow i ds es
      → item_at i ds ≡ Some d → item_at i es ≡ Some e → IsBefore d e → IsBefore (list ds) (list es)
  absent_first : (ms ns : Members) (k : List ℕ) (e : Data) → AreAlike (object ms) (object ns) → AgreeBefore k ms ns
      → member_at k ms ≡ None → member_at k ns ≡ Some e → IsBefore (object ms) (object ns)
  lesser_member : (ms ns : Members) (k : List ℕ) (d e : Data) → AreAlike (object ms) (object ns) → AgreeBefore k ms ns
      → member_at k ms ≡ Some d → member_at k ns ≡ Some e → IsBefore d e → IsBefore (object ms) (object ns)
