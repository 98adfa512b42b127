-- Filling a value by its schema, and how deep the schemas below nest.
use Rattle.std.proofs.Common.{◌≡◌, ◌≤◌, ◌+◌, ℕ, zero, suc, List, true, false, Option, Some, None, codes, refl, ap, subst, arith, inl, inr}
use Rattle.std.specs.Str.{bytes_eq}
use Rattle.std.proofs.lemmas.Option.{same_Some}
use Rattle.jtree.specs.Data.{Data, null, boolean, integer, number, text, list, object, Items, no_items, item, Members, no_members, member, depth, members_depth}
use Rattle.jtree.specs.Path.{member_at}
use Rattle.jtree.specs.Internal.Lookups.{bool_cases}
use Rattle.cluster.specs.Keywords.{unless_null, keyword, first_there, member_schema, item_schema, is_schema}
use Rattle.cluster.specs.Filled.{Filling, settled, with_defaults, filled_part, filled_members, filled_items, filled_by, filled_to, filled}

-- ---- schemas below nest less deep

member_depth : (k : List ℕ) (ks : Members) (d : Data) → member_at k ks ≡ Some d → depth d ≤ members_depth ks
member_depth k no_members d e = cc
member_depth k (member l x ks) d e = elim (bool_cases (bytes_eq k l)) [
  | inl h ↦ let same : x ≡ d = same_Some x d (rw h at e) in subst (λ y. depth y ≤ members_depth (member l x ks)) same (omega arith)
  | inr h ↦ let later = member_depth k ks d (rw h at e) in omega arith
]

there_unless : (o : Option Data) (d : Data) → unless_null o ≡ Some d → o ≡ Some d
there_unless None d e = cc
there_unless (Some null) d e = cc
there_unless (Some _) d e = e

keyword_depth : (w : List ℕ) (s d : Data) → keyword w (Some s) ≡ Some d → depth d + 1 ≤ depth s
keyword_depth w (object ks) d e = let below = member_depth w ks d (there_unless (member_at w ks) d e) in omega arith
keyword_depth w _ d e = cc

property_depth : (k : List ℕ) (o : Option Data) (n : ℕ) → ((p : Data) → o ≡ Some p → depth p + 1 ≤ n) → (d : Data) → keyword k o ≡ Some d → depth d + 1 ≤ n
property_depth k None n h d e = cc
property_depth k (Some p) n h d e = let whole = h p refl in let part = keyword_depth k p d e in omega arith

first_depth : (o p : Option Data) (n : ℕ) → ((d : Data) → o ≡ Some d → depth d + 1 ≤ n) → ((d : Data) → p ≡ Some d → depth d + 1 ≤ n) → (d : Data) → first_there o p ≡ Some d → depth d + 1 ≤ n
first_depth None p n g h d e = h d e
first_depth (Some x) p n g h d e = g d e

pub schema_depth : (k : List ℕ) (s d : Data) → member_schema k (Some s) ≡ Some d → depth d + 1 ≤ depth s
schema_depth k s d e =
    first_depth (keyword k (keyword (codes "properties") (Some s))) (keyword (codes "additionalProperties") (Some s)) (depth s)
    (property_depth k (keyword (codes "properties") (Some s)) (depth s) (keyword_depth (codes "properties") s))
    (keyword_depth (codes "additionalProperties") s) d e

pub items_depth_less : (s d : Data) → item_schema (Some s) ≡ Some d → depth d + 1 ≤ depth s
items_depth_less s d e = keyword_depth (codes "items") s d e

-- ---- what fills the same below fills the same

part_same : (f g : Filling) (n : ℕ) → ((s d : Data) → depth s + 1 ≤ n → f s d ≡ g s d) → (o : Option Data) (d : Data) → ((s : Data) → o ≡ Some s → depth s + 1 ≤ n) → filled_part f o d ≡ filled_part g o d
part_same f g n same None d below = refl
part_same f g n same (Some s) d below = same s (settled s d) (below s refl)

members_same : (f g : Filling) (n : ℕ) → ((s d : Data) → depth s + 1 ≤ n → f s d ≡ g s d) → (o : Option Data) → ((k : List ℕ) (s : Data) → member_schema k o ≡ Some s → depth s + 1 ≤ n) → (ms : Members) → filled_members f o ms ≡ filled_members g o ms
members_same f g n same o below no_members = refl
members_same f g n same o below (member k d ms) = λ i. member k (part_same f g n same (member_schema k o) d (below k) i) (members_same f g n same o below ms i)

items_same : (f g : Filling) (n : ℕ) → ((s d : Data) → depth s + 1 ≤ n → f s d ≡ g s d) → (o : Option Data) → ((s : Data) → o ≡ Some s → depth s + 1 ≤ n) → (ds : Items) → filled_items f o ds ≡ filled_items g o ds
items_same f g n same o below no_items = refl
items_same f g n same o below (item d ds) = λ i. item (part_same f g n same o d below i) (items_same f g n same o below ds i)

by_same : (f g : Filling) (s : Data) → ((t d : Data) → depth t + 1 ≤ depth s → f t d ≡ g t d) → (v : Data) → filled_by f s v ≡ filled_by g s v
by_same f g s same (object ms) = ap object (members_same f g (depth s) same (Some s) (λ k t. schema_depth k s t) (with_defaults (keyword (codes "properties") (Some s)) ms))
by_same f g s same (list ds) = ap list (items_same f g (depth s) same (item_schema (Some s)) (items_depth_less s) ds)
by_same f g s same _ = refl

enough : (n m : ℕ) (s v : Data) → depth s ≤ n → depth s ≤ m → filled_to n s v ≡ filled_to m s v
enough zero zero s v p q = refl
enough zero (suc m) (object ks) v p q = absurd (omega arith)
enough zero (suc m) _ v p q = refl
enough (suc n) zero (object ks) v p q = absurd (omega arith)
enough (suc n) zero _ v p q = refl
enough (suc n) (suc m) (object ks) v p q = by_same (filled_to n) (filled_to m) (object ks) (λ t d h. enough n m t d (omega arith) (omega arith)) v
enough (suc n) (suc m) _ v p q = refl

-- a schema fills a value by what the schemas below fill
pub filled_schema : (s v : Data) → is_schema (Some s) ≡ true → filled s v ≡ filled_by filled s v
filled_schema (object ks) v is = by_same (filled_to (members_depth ks)) filled (object ks) (λ t d h. enough (members_depth ks) (depth t) t d (omega arith) (omega arith)) v
filled_schema _ v is = cc

pub filled_other : (s v : Data) → is_schema (Some s) ≡ false → filled s v ≡ v
filled_other (object ks) v other = cc
filled_other null v other = refl
filled_other (boolean b) v other = refl
filled_other (integer z) v other = refl
filled_other (number n) v other = refl
filled_other (text t) v other = refl
filled_other (list ds) v other = refl

pub items_none : (f : Filling) (ds : Items) → filled_items f None ds ≡ ds
items_none f no_items = refl
items_none f (item d ds) = λ i. item d (items_none f ds i)
