-- The compact text of a tree reads back to the tree.
use Rattle.std.proofs.Common.{◌≡◌, ℕ, ◌+◌, ◌^◌, ◌<◌, ◌≤◌, ℤ, pos, negsuc, List, [], Some, refl, sym, ap, ◌∙◌, subst, arith, append-nil}
use Rattle.std.specs.Prelude.{option_map, option_and_then, unwrap_or, FitsSigned}
use Rattle.std.specs.Fmt.{signed_decimal}
use Rattle.std.specs.Int.{w64}
use Rattle.std.specs.Ordering.{ordering_reverse}
use Rattle.std.specs.declared.cmp.Ordering.TheVariants.{Less, Greater}
use Rattle.std.proofs.lemmas.Int.{ints}
use Rattle.std.proofs.lemmas.Option.{same_Some}
use Rattle.std.proofs.lemmas.Cmp.{nat_list_cmp_total}
use Rattle.std.proofs.lemmas.Bool.Decides.{Decides-ltb}
use Rattle.json.specs.Lex.{tokens}
use Rattle.json.specs.Json as token
use Rattle.json.specs.Tree.{json_tokens, HasNumbers, ItemsHaveNumbers, MembersHaveNumbers}
use Rattle.json.specs.Tree as token_tree
use Rattle.serde_json.specs.Data as json
use Rattle.serde_json.specs.Find.{of_integer, as_i64}
use Rattle.serde_json.specs.Read.{number_of, of_json, of_items, of_members, read, max_depth}
use Rattle.serde_json.proofs.Numbers.{number_of-decimal, number_of-negative}
use Rattle.json.proofs.Printed.Decimals.{IsNumber-decimal, IsNumber-signed_decimal}
use Rattle.json.proofs.Printed.Tokens.{tokens-print}
use Rattle.json.proofs.Printed.Trees.{value-json_tokens, ArePrintable-json_tokens}
use Rattle.jtree.specs.Data.{Data, null, boolean, integer, number, text, list, object, Items, no_items, item, Members, no_members, member, IsTree, AreTrees, IsNameBefore, AreMembers, depth, items_depth, members_depth}
use Rattle.std.specs.Option.{option_or}
use Rattle.jtree.specs.Integers.{small_whole}
use Rattle.jtree.specs.Order.{text_cmp}
use Rattle.jtree.specs.MemberPlace.{with_member}
use Rattle.jtree.specs.OnlyIntegers.{HasOnlyIntegers, ItemsHaveOnlyIntegers, MembersHaveOnlyIntegers}
use Rattle.jtree.specs.Reads.{tree_of, items_tree, members_tree}
use Rattle.jtree.specs.ReadsAll.{number_tree, tree_in, items_in, members_in, document_of}
use Rattle.jtree.specs.Text.{outline, items_outline, members_outline, compact}
use Rattle.jtree.proofs.Printed.{print-outline}

-- the JSON value that a tree is
abbrev mutual
  pub json_of : Data → json.Data
  json_of null = json.null
  json_of (boolean b) = json.boolean b
  json_of (integer z) = json.number (of_integer z)
  json_of (number s) = json.number (unwrap_or (number_of s) (json.unsigned 0))
  json_of (text s) = json.string s
  json_of (list ds) = json.array (items_json ds)
  json_of (object ms) = json.object (members_json ms)

  items_json : Items → json.Items
  items_json no_items = json.no_items
  items_json (item d ds) = json.item (json_of d) (items_json ds)

  members_json : Members → json.Members
  members_json no_members = json.no_members
  members_json (member k d ms) = json.member k (json_of d) (members_json ms)

-- ---- an integer's digits read back

number_reads : (z : ℤ) → FitsSigned w64 z → number_of (signed_decimal z) ≡ Some (of_integer z)
number_reads (pos n) fits = number_of-decimal n (omega (arith, ints, fits))
number_reads (negsuc n) fits = number_of-negative n (omega (arith, ints, fits))

integer_reads : (z : ℤ) → FitsSigned w64 z → as_i64 (of_integer z) ≡ Some z
integer_reads (pos n) fits = let small : n < 2 ^ 63 = omega (arith, ints, fits) in let below = (Decides-ltb n (2 ^ 63)).1 small in rw below refl
integer_reads (negsuc n) fits = refl

-- ---- the tree of a tree's JSON value is the tree

mutual
  pub tree_of-json_of : (d : Data) → IsTree d → HasOnlyIntegers d → tree_of (json_of d) ≡ Some d
  tree_of-json_of (integer z) t h = ap (option_map integer) (integer_reads z t)
  tree_of-json_of (number s) t h = absurd h
  tree_of-json_of (list ds) t h = ap (option_map list) (items_tree-json ds t h)
  tree_of-json_of (object ms) t h = ap (option_map object) (members_tree-json ms t h)
  tree_of-json_of _ t h = refl

  items_tree-json : (ds : Items) → AreTrees ds → ItemsHaveOnlyIntegers ds → items_tree (items_json ds) ≡ Some ds
  items_tree-json no_items t h = refl
  items_tree-json (item d ds) t h = rw (tree_of-json_of d t.0 h.0, items_tree-json ds t.1 h.1) refl

  members_tree-json : (ms : Members) → AreMembers ms → MembersHaveOnlyIntegers ms → members_tree (members_json ms) ≡ Some ms
  members_tree-json no_members t h = refl
  members_tree-json (member k d ms) t h = rw (tree_of-json_of d t.0 h.0, members_tree-json ms t.2 h.1) refl

-- ---- the tokens of a tree are those of its JSON value

-- some members, followed by others
abbrev join_members : json.Members → json.Members → json.Members
join_members json.no_members ms = ms
join_members (json.member k d front) ms = json.member k d (join_members front ms)

join_members-none : (front : json.Members) → join_members front json.no_members ≡ front
join_members-none json.no_members = refl
join_members-none (json.member k d front) = ap (json.member k d) (join_members-none front)

joined_assoc : (front middle ms : json.Members) → join_members (join_members front middle) ms ≡ join_members front (join_members middle ms)
joined_assoc json.no_members middle ms = refl
joined_assoc (json.member k d front) middle ms = ap (json.member k d) (joined_assoc front middle ms)

-- all names are before this one
abbrev AreBelow : json.Members → List ℕ → Type 0
AreBelow json.no_members k = Unit {0}
AreBelow (json.member l d ms) k = (text_cmp l k ≡ Less) × AreBelow ms k

below_trans : (front : json.Members) (k l : List ℕ) → AreBelow front k → text_cmp k l ≡ Less → AreBelow front l
below_trans json.no_members k l h kl = tt
below_trans (json.member m d front) k l h kl = (nat_list_cmp_total.trans m k l h.0 kl, below_trans front k l h.1 kl)

below_joined : (front : json.Members) (k l : List ℕ) (d : json.Data) → AreBelow front l → text_cmp k l ≡ Less → AreBelow (join_members front (json.member k d json.no_members)) l
below_joined json.no_members k l d h kl = (kl, tt)
below_joined (json.member m e front) k l d h kl = (h.0, below_joined front k l d h.1 kl)

put_last : (front : json.Members) (k : List ℕ) (d : json.Data) → AreBelow front k → json.put k d front ≡ join_members front (json.member k d json.no_members)
put_last json.no_members k d h = refl
put_last (json.member l e front) k d h =
    let past : text_cmp k l ≡ Greater = nat_list_cmp_total.antisymm k l ∙ ap ordering_reverse h.0 in
    rw past (ap (json.member l e) (put_last front k d h.1))

-- the name of the first member
abbrev IsFirstName : List ℕ → Members → Type 0
IsFirstName k no_members = ⊥
IsFirstName k (member l d ms) = k ≡ l

next_below : (front : json.Members) (k : List ℕ) (d : json.Data) (ms : Members) → AreBelow front k → IsNameBefore k ms → (l : List ℕ) → IsFirstName l ms → AreBelow (join_members front (json.member k d json.no_members)) l
next_below front k d no_members here before l first = absurd first
next_below front k d (member m e ms) here before l first =
    let kl : text_cmp k l ≡ Less = subst (λ n. text_cmp k n ≡ Less) (sym first) before in
    below_joined front k l d (below_trans front k l here kl) kl

mutual
  of_json-outline : (d : Data) → IsTree d → of_json (outline d) ≡ Some (json_of d)
  of_json-outline (integer z) t = ap (option_map json.number) (number_reads z t)
  of_json-outline (number s) t = rw t.2 refl
  of_json-outline (list ds) t = ap (option_map json.array) (of_items-outline ds t)
  of_json-outline (object ms) t = ap (option_map json.object) (of_members-outline json.no_members ms (λ k first. tt) t)
  of_json-outline _ t = refl

  of_items-outline : (ds : Items) → AreTrees ds → of_items (items_outline ds) ≡ Some (items_json ds)
  of_items-outline no_items t = refl
  of_items-outline (item d ds) t = rw (of_json-outline d t.0, of_items-outline ds t.1) refl

  -- the members go in one after the other
  of_members-outline : (front : json.Members) (ms : Members) → ((k : List ℕ) → IsFirstName k ms → AreBelow front k) → AreMembers ms → of_members (members_outline ms) front ≡ Some (join_members front (members_json ms))
  of_members-outline front no_members h t = ap Some (sym (join_members-none front))
  of_members-outline front (member k d ms) h t =
      let here = h k refl in
      let step : of_members (members_outline (member k d ms)) front ≡ of_members (members_outline ms) (json.put k (json_of d) front) = rw (of_json-outline d t.0) refl in
      let next = of_members-outline (join_members front (json.member k (json_of d) json.no_members)) ms (next_below front k (json_of d) ms here t.1) t.2 in
      step ∙ (ap (of_members (members_outline ms)) (put_last front k (json_of d) here) ∙ (next ∙ ap Some (joined_assoc front (json.member k (json_of d) json.no_members) (members_json ms))))

-- ---- and so where all numbers are read

-- some members, followed by others
abbrev join : Members → Members → Members
join no_members ms = ms
join (member k d front) ms = member k d (join front ms)

join-none : (front : Members) → join front no_members ≡ front
join-none no_members = refl
join-none (member k d front) = ap (member k d) (join-none front)

join_assoc : (front middle ms : Members) → join (join front middle) ms ≡ join front (join middle ms)
join_assoc no_members middle ms = refl
join_assoc (member k d front) middle ms = ap (member k d) (join_assoc front middle ms)

-- all names are before this one
abbrev EndsBelow : Members → List ℕ → Type 0
EndsBelow no_members k = Unit {0}
EndsBelow (member l d ms) k = (text_cmp l k ≡ Less) × EndsBelow ms k

ends_trans : (front : Members) (k l : List ℕ) → EndsBelow front k → text_cmp k l ≡ Less → EndsBelow front l
ends_trans no_members k l h kl = tt
ends_trans (member m d front) k l h kl = (nat_list_cmp_total.trans m k l h.0 kl, ends_trans front k l h.1 kl)

ends_joined : (front : Members) (k l : List ℕ) (d : Data) → EndsBelow front l → text_cmp k l ≡ Less → EndsBelow (join front (member k d no_members)) l
ends_joined no_members k l d h kl = (kl, tt)
ends_joined (member m e front) k l d h kl = (h.0, ends_joined front k l d h.1 kl)

put_at_end : (front : Members) (k : List ℕ) (d : Data) → EndsBelow front k → with_member k d front ≡ join front (member k d no_members)
put_at_end no_members k d h = refl
put_at_end (member l e front) k d h =
    let past : text_cmp k l ≡ Greater = nat_list_cmp_total.antisymm k l ∙ ap ordering_reverse h.0 in
    rw past (ap (member l e) (put_at_end front k d h.1))

next_ends : (front : Members) (k : List ℕ) (d : Data) (ms : Members) → EndsBelow front k → IsNameBefore k ms → (l : List ℕ) → IsFirstName l ms → EndsBelow (join front (member k d no_members)) l
next_ends front k d no_members here before l first = absurd first
next_ends front k d (member m e ms) here before l first =
    let kl : text_cmp k l ≡ Less = subst (λ n. text_cmp k n ≡ Less) (sym first) before in
    ends_joined front k l d (ends_trans front k l here kl) kl

mutual
  pub tree_in-outline : (d : Data) → IsTree d → tree_in (outline d) ≡ Some d
  tree_in-outline (integer z) t = rw (number_reads z t) (ap (λ o. Some (number_tree (signed_decimal z) (option_or o (small_whole (signed_decimal z))))) (integer_reads z t))
  tree_in-outline (number s) t = rw t.2 (ap (λ o. Some (number_tree s o)) t.3)
  tree_in-outline (list ds) t = ap (option_map list) (items_in-outline ds t)
  tree_in-outline (object ms) t = ap (option_map object) (members_in-outline no_members ms (λ k first. tt) t)
  tree_in-outline _ t = refl

  items_in-outline : (ds : Items) → AreTrees ds → items_in (items_outline ds) ≡ Some ds
  items_in-outline no_items t = refl
  items_in-outline (item d ds) t = rw (tree_in-outline d t.0, items_in-outline ds t.1) refl

  -- the members go in one after the other
  members_in-outline : (front : Members) (ms : Members) → ((k : List ℕ) → IsFirstName k ms → EndsBelow front k) → AreMembers ms → members_in (members_outline ms) front ≡ Some (join front ms)
  members_in-outline front no_members h t = ap Some (sym (join-none front))
  members_in-outline front (member k d ms) h t =
      let here = h k refl in
      let step : members_in (members_outline (member k d ms)) front ≡ members_in (members_outline ms) (with_member k d front) = rw (tree_in-outline d t.0) refl in
      let next = members_in-outline (join front (member k d no_members)) ms (next_ends front k d ms here t.1) t.2 in
      step ∙ (ap (members_in (members_outline ms)) (put_at_end front k d here) ∙ (next ∙ ap Some (join_assoc front (member k d no_members) ms)))

-- ---- and nest as deep

mutual
  outline_depth : (d : Data) → token_tree.depth (outline d) ≤ depth d
  outline_depth (list ds) = omega (arith, items_outline_depth ds)
  outline_depth (object ms) = omega (arith, members_outline_depth ms)
  outline_depth _ = omega arith

  items_outline_depth : (ds : Items) → token_tree.items_depth (items_outline ds) ≤ items_depth ds
  items_outline_depth no_items = omega arith
  items_outline_depth (item d ds) = omega (arith, outline_depth d, items_outline_depth ds)

  members_outline_depth : (ms : Members) → token_tree.members_depth (members_outline ms) ≤ members_depth ms
  members_outline_depth no_members = omega arith
  members_outline_depth (member k d ms) = omega (arith, outline_depth d, members_outline_depth ms)

-- a text with the tokens of a tree reads as the tree's JSON value
pub read_back : (d : Data) (bytes : List ℕ) → IsTree d → depth d ≤ max_depth → tokens bytes ≡ json_tokens (outline d) → read bytes ≡ Some (json_of d)
read_back d bytes t shallow same =
    let tree = outline d in
    let whole : token.value max_depth (tokens bytes) ≡ Some (tree, []) =
    ap (token.value max_depth) (same ∙ sym (append-nil (json_tokens tree))) ∙ value-json_tokens tree max_depth [] (omega (arith, outline_depth d)) in
    rw whole (of_json-outline d t)

pub read_all_back : (d : Data) (bytes : List ℕ) → IsTree d → depth d ≤ max_depth → tokens bytes ≡ json_tokens (outline d) → option_and_then tree_in (document_of bytes) ≡ Some d
read_all_back d bytes t shallow same =
    let tree = outline d in
    let whole : token.value max_depth (tokens bytes) ≡ Some (tree, []) =
    ap (token.value max_depth) (same ∙ sym (append-nil (json_tokens tree))) ∙ value-json_tokens tree max_depth [] (omega (arith, outline_depth d)) in
    rw whole (tree_in-outline d t)

-- ---- trees with equal text are the same, however deep and long

mutual
  has_numbers : (d : Data) → IsTree d → HasNumbers (outline d)
  has_numbers (integer (pos n)) t = IsNumber-decimal n (omega (arith, ints, t))
  has_numbers (integer (negsuc n)) t = IsNumber-signed_decimal (negsuc n) (omega (arith, ints, t))
  has_numbers (number s) t = t.0
  has_numbers (list ds) t = items_have_numbers ds t
  has_numbers (object ms) t = members_have_numbers ms t
  has_numbers _ t = tt

  items_have_numbers : (ds : Items) → AreTrees ds → ItemsHaveNumbers (items_outline ds)
  items_have_numbers no_items t = tt
  items_have_numbers (item d ds) t = (has_numbers d t.0, items_have_numbers ds t.1)

  members_have_numbers : (ms : Members) → AreMembers ms → MembersHaveNumbers (members_outline ms)
  members_have_numbers no_members t = tt
  members_have_numbers (member k d ms) t = (has_numbers d t.0, members_have_numbers ms t.2)

text_tokens : (d : Data) → IsTree d → tokens (compact d) ≡ json_tokens (outline d)
text_tokens d t =
    let tree = outline d in
    ap tokens (sym (print-outline d)) ∙ tokens-print (json_tokens tree) (ArePrintable-json_tokens tree (has_numbers d t))

-- the value that the tokens of a text are, where nesting up to the depth n is read
value_of_text : (d : Data) (n : ℕ) → IsTree d → depth d ≤ n → token.value n (tokens (compact d)) ≡ Some (outline d, [])
value_of_text d n t shallow =
    let tree = outline d in
    ap (token.value n) (text_tokens d t ∙ sym (append-nil (json_tokens tree))) ∙ value-json_tokens tree n [] (omega (arith, outline_depth d))

pub same_text : (u v : Data) → IsTree u → IsTree v → compact u ≡ compact v → u ≡ v
same_text u v tu tv same =
    let n = depth u + depth v in
    let values = sym (value_of_text u n tu (omega arith)) ∙ ap (λ b. token.value n (tokens b)) same ∙ value_of_text v n tv (omega arith) in
    let trees = ap (λ p. p.0) (same_Some (outline u, []) (outline v, []) values) in
    same_Some u v (sym (tree_in-outline u tu) ∙ ap tree_in trees ∙ tree_in-outline v tv)
