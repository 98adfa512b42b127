-- The two readings of a document: the default one, and the one of all numbers.
use Rattle.std.proofs.Common.{◌≡◌, ℕ, ℤ, List, Option, Some, None, option_map, option_and_then, refl, ap, ◌∙◌, subst}
use Rattle.std.specs.Ordering.{match_ordering}
use Rattle.std.specs.declared.cmp.Ordering.{Ordering}
use Rattle.std.specs.declared.cmp.Ordering.TheVariants.{Less, Equal, Greater}
use Rattle.std.proofs.lemmas.Option.{same_Some}
use Rattle.json.specs.Json as document
use Rattle.serde_json.specs.Data as json
use Rattle.serde_json.specs.Find.{as_i64}
use Rattle.serde_json.specs.Read.{number_of, of_json, of_items, of_members}
use Rattle.jtree.specs.Data.{Data, null, boolean, integer, text, list, object, Items, no_items, item, Members, no_members, member}
use Rattle.std.specs.Option.{option_or}
use Rattle.jtree.specs.Integers.{small_whole, integer_of}
use Rattle.jtree.specs.Order.{text_cmp}
use Rattle.jtree.specs.MemberPlace.{with_member}
use Rattle.jtree.specs.OnlyIntegers.{HasOnlyIntegers, ItemsHaveOnlyIntegers, MembersHaveOnlyIntegers}
use Rattle.jtree.specs.Reads.{tree_of, items_tree, members_tree}
use Rattle.jtree.specs.ReadsAll.{number_tree, tree_in, items_in, members_in}
use Rattle.std.proofs.lemmas.Map.Lookups.{exact_bytes}

-- the number is held as an integer of 64 bits, or it is another one
abbrev IsNumberOf : Option ℤ → Data → Type 0
IsNumberOf (Some z) d = d ≡ integer z
IsNumberOf None d = Unit {0}

-- the tree is the value, with all its numbers
abbrev mutual
  IsAll : json.Data → Data → Type 0
  IsAll json.null d = d ≡ null
  IsAll (json.boolean b) d = d ≡ boolean b
  IsAll (json.number n) d = IsNumberOf (as_i64 n) d
  IsAll (json.string s) d = d ≡ text s
  IsAll (json.array vs) d = (ds : Items) × (d ≡ list ds) × AreAll vs ds
  IsAll (json.object vs) d = (ms : Members) × (d ≡ object ms) × HaveAll vs ms

  AreAll : json.Items → Items → Type 0
  AreAll json.no_items ds = ds ≡ no_items
  AreAll (json.item v vs) ds = (d : Data) × (es : Items) × (ds ≡ item d es) × IsAll v d × AreAll vs es

  HaveAll : json.Members → Members → Type 0
  HaveAll json.no_members ms = ms ≡ no_members
  HaveAll (json.member k v vs) ms = (d : Data) × (ns : Members) × (ms ≡ member k d ns) × IsAll v d × HaveAll vs ns

-- ---- the members go in alike

put_by : (o : Ordering) (k l : List ℕ) (v w : json.Data) (d e : Data) (vs : json.Members) (ms : Members) (us : json.Members) (ns : Members) → text_cmp k l ≡ o
    → IsAll v d → IsAll w e → HaveAll vs ms → HaveAll us ns
    → HaveAll (match_ordering o (json.member k v (json.member l w vs)) (json.member l v vs) (json.member l w us)) (match_ordering o (member k d (member l e ms)) (member k d ms) (member l e ns))
put_by Less k l v w d e vs ms us ns is a b h g = (d, member l e ms, refl, a, (e, ms, refl, b, h))
put_by Equal k l v w d e vs ms us ns is a b h g = (d, ms, ap (λ n. member n d ms) (exact_bytes k l is), a, h)
put_by Greater k l v w d e vs ms us ns is a b h g = (e, ns, refl, b, g)

put_all : (k : List ℕ) (v : json.Data) (d : Data) (vs : json.Members) (ms : Members) → IsAll v d → HaveAll vs ms → HaveAll (json.put k v vs) (with_member k d ms)
put_all k v d json.no_members ms a h = rw h (d, no_members, refl, a, refl)
put_all k v d (json.member l w vs) ms a h =
    rw h.2 (put_by (text_cmp k l) k l v w d h.0 vs h.1 (json.put k v vs) (with_member k d h.1) refl a h.3 h.4 (put_all k v d vs h.1 a h.4))

-- ---- both read, or neither

number_all : (s : List ℕ) (o w : Option ℤ) → IsNumberOf o (number_tree s (option_or o w))
number_all s (Some z) w = refl
number_all s None w = tt

-- what both readings make of a part
abbrev Alike : {V D : Type 0} → (V → D → Type 0) → Option V → Option D → Type 0
Alike R None None = Unit {0}
Alike R (Some v) (Some d) = R v d
Alike R None (Some d) = ⊥
Alike R (Some v) None = ⊥

number_alike : (s : List ℕ) (o : Option json.Num) → Alike IsAll (option_map json.number o) (option_map (λ n. number_tree s (integer_of s n)) o)
number_alike s None = tt
number_alike s (Some n) = number_all s (as_i64 n) (small_whole s)

list_alike : (o : Option json.Items) (p : Option Items) → Alike AreAll o p → Alike IsAll (option_map json.array o) (option_map list p)
list_alike None None h = tt
list_alike (Some vs) (Some ds) h = (ds, refl, h)
list_alike None (Some ds) h = h
list_alike (Some vs) None h = h

object_alike : (o : Option json.Members) (p : Option Members) → Alike HaveAll o p → Alike IsAll (option_map json.object o) (option_map object p)
object_alike None None h = tt
object_alike (Some vs) (Some ms) h = (ms, refl, h)
object_alike None (Some ms) h = h
object_alike (Some vs) None h = h

item_alike : (o : Option json.Data) (p : Option Data) (q : Option json.Items) (r : Option Items) → Alike IsAll o p → Alike AreAll q r
    → Alike AreAll (option_and_then (λ v. option_map (json.item v) q) o) (option_and_then (λ d. option_map (item d) r) p)
item_alike None None q r h g = tt
item_alike (Some v) (Some d) None None h g = tt
item_alike (Some v) (Some d) (Some vs) (Some ds) h g = (d, ds, refl, h, g)
item_alike (Some v) (Some d) None (Some ds) h g = g
item_alike (Some v) (Some d) (Some vs) None h g = g
item_alike None (Some d) q r h g = absurd h
item_alike (Some v) None q r h g = absurd h

member_alike : (o : Option json.Data) (p : Option Data) (f : json.Data → Option json.Members) (g : Data → Option Members) → Alike IsAll o p
    → ((v : json.Data) (d : Data) → IsAll v d → Alike HaveAll (f v) (g d)) → Alike HaveAll (option_and_then f o) (option_and_then g p)
member_alike None None f g h rest = tt
member_alike (Some v) (Some d) f g h rest = rest v d h
member_alike None (Some d) f g h rest = absurd h
member_alike (Some v) None f g h rest = absurd h

mutual
  pub alike : (j : document.Json) → Alike IsAll (of_json j) (tree_in j)
  alike document.null = refl
  alike (document.boolean b) = refl
  alike (document.number s) = number_alike s (number_of s)
  alike (document.string s) = refl
  alike (document.array js) = list_alike (of_items js) (items_in js) (items_alike js)
  alike (document.object js) = object_alike (of_members js json.no_members) (members_in js no_members) (members_alike js json.no_members no_members refl)

  items_alike : (js : document.Items) → Alike AreAll (of_items js) (items_in js)
  items_alike document.no_items = refl
  items_alike (document.item j js) = item_alike (of_json j) (tree_in j) (of_items js) (items_in js) (alike j) (items_alike js)

  members_alike : (js : document.Members) (vs : json.Members) (ms : Members) → HaveAll vs ms → Alike HaveAll (of_members js vs) (members_in js ms)
  members_alike document.no_members vs ms h = h
  members_alike (document.member k j js) vs ms h =
      member_alike (of_json j) (tree_in j) (λ v. of_members js (json.put k v vs)) (λ d. members_in js (with_member k d ms)) (alike j)
      (λ v d a. members_alike js (json.put k v vs) (with_member k d ms) (put_all k v d vs ms a h))

-- ---- where all numbers are held as integers of 64 bits, both answers are the same

same_number : (o : Option ℤ) (d e : Data) → IsNumberOf o d → option_map integer o ≡ Some e → (d ≡ e) × HasOnlyIntegers e
same_number (Some z) d e h read = let is = same_Some (integer z) e read in (h ∙ is, subst HasOnlyIntegers is tt)
same_number None d e h read = cc

list_parts : (o : Option Items) (e : Data) → option_map list o ≡ Some e → (ds : Items) × (o ≡ Some ds) × (list ds ≡ e)
list_parts None e h = cc
list_parts (Some ds) e h = (ds, refl, same_Some (list ds) e h)

object_parts : (o : Option Members) (e : Data) → option_map object o ≡ Some e → (ms : Members) × (o ≡ Some ms) × (object ms ≡ e)
object_parts None e h = cc
object_parts (Some ms) e h = (ms, refl, same_Some (object ms) e h)

item_parts : (o : Option Data) (q : Option Items) (es : Items) → option_and_then (λ d. option_map (item d) q) o ≡ Some es → (d : Data) × (ds : Items) × (o ≡ Some d) × (q ≡ Some ds) × (item d ds ≡ es)
item_parts None q es h = cc
item_parts (Some d) None es h = cc
item_parts (Some d) (Some ds) es h = (d, ds, refl, refl, same_Some (item d ds) es h)

member_parts : (k : List ℕ) (o : Option Data) (q : Option Members) (es : Members) → option_and_then (λ d. option_map (member k d) q) o ≡ Some es
    → (d : Data) × (ms : Members) × (o ≡ Some d) × (q ≡ Some ms) × (member k d ms ≡ es)
member_parts k None q es h = cc
member_parts k (Some d) None es h = cc
member_parts k (Some d) (Some ms) es h = (d, ms, refl, refl, same_Some (member k d ms) es h)

mutual
  pub same_tree : (v : json.Data) (d e : Data) → IsAll v d → tree_of v ≡ Some e → (d ≡ e) × HasOnlyIntegers e
  same_tree json.null d e h read = let is = same_Some null e read in (h ∙ is, subst HasOnlyIntegers is tt)
  same_tree (json.boolean b) d e h read = let is = same_Some (boolean b) e read in (h ∙ is, subst HasOnlyIntegers is tt)
  same_tree (json.number n) d e h read = same_number (as_i64 n) d e h read
  same_tree (json.string s) d e h read = let is = same_Some (text s) e read in (h ∙ is, subst HasOnlyIntegers is tt)
  same_tree (json.array vs) d e h read =
      let p = list_parts (items_tree vs) e read in
      let q = same_items vs h.0 p.0 h.2 p.1 in
      (h.1 ∙ ap list q.0 ∙ p.2, subst HasOnlyIntegers p.2 q.1)
  same_tree (json.object vs) d e h read =
      let p = object_parts (members_tree vs) e read in
      let q = same_members vs h.0 p.0 h.2 p.1 in
      (h.1 ∙ ap object q.0 ∙ p.2, subst HasOnlyIntegers p.2 q.1)

  same_items : (vs : json.Items) (ds es : Items) → AreAll vs ds → items_tree vs ≡ Some es → (ds ≡ es) × ItemsHaveOnlyIntegers es
  same_items json.no_items ds es h read = let is = same_Some no_items es read in (h ∙ is, subst ItemsHaveOnlyIntegers is tt)
  same_items (json.item v vs) ds es h read =
      let p = item_parts (tree_of v) (items_tree vs) es read in
      let one = same_tree v h.0 p.0 h.3 p.2 in
      let rest = same_items vs h.1 p.1 h.4 p.3 in
      (h.2 ∙ (λ i. item (one.0 i) (rest.0 i)) ∙ p.4, subst ItemsHaveOnlyIntegers p.4 (one.1, rest.1))

  same_members : (vs : json.Members) (ms es : Members) → HaveAll vs ms → members_tree vs ≡ Some es → (ms ≡ es) × MembersHaveOnlyIntegers es
  same_members json.no_members ms es h read = let is = same_Some no_members es read in (h ∙ is, subst MembersHaveOnlyIntegers is tt)
  same_members (json.member k v vs) ms es h read =
      let p = member_parts k (tree_of v) (members_tree vs) es read in
      let one = same_tree v h.0 p.0 h.3 p.2 in
      let rest = same_members vs h.1 p.1 h.4 p.3 in
      (h.2 ∙ (λ i. member k (one.0 i) (rest.0 i)) ∙ p.4, subst MembersHaveOnlyIntegers p.4 (one.1, rest.1))

-- ---- of whole texts

alike_left : (o : Option json.Data) (p : Option Data) (v : json.Data) → Alike IsAll o p → o ≡ Some v → (d : Data) × (p ≡ Some d) × IsAll v d
alike_left None p v h is = cc
alike_left (Some w) None v h is = absurd h
alike_left (Some w) (Some d) v h is = (d, refl, subst (λ u. IsAll u d) (same_Some w v is) h)

alike_right : (o : Option json.Data) (p : Option Data) (d : Data) → Alike IsAll o p → p ≡ Some d → (v : json.Data) × (o ≡ Some v)
alike_right o None d h is = cc
alike_right None (Some e) d h is = absurd h
alike_right (Some v) (Some e) d h is = (v, refl)

-- what one reading reads, the other reads
pub with_all : (o : Option document.Json) (v : json.Data) → option_and_then of_json o ≡ Some v → (d : Data) × (option_and_then tree_in o ≡ Some d) × IsAll v d
with_all None v read = cc
with_all (Some j) v read = alike_left (of_json j) (tree_in j) v (alike j) read

pub with_json : (o : Option document.Json) (d : Data) → option_and_then tree_in o ≡ Some d → (v : json.Data) × (option_and_then of_json o ≡ Some v)
with_json None d read = cc
with_json (Some j) d read = alike_right (of_json j) (tree_in j) d (alike j) read
