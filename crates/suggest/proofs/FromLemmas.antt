-- What stands in objects at a leaf is listed for its path, and so it is a candidate there.
use Rattle.std.proofs.Common.{◌≡◌, ◌<◌, ℕ, List, [], ◌∷◌, ◌++◌, true, false, ◌&&◌, Option, Some, None, length, map, filter, take, unwrap_or, refl, sym, ap, ◌∙◌, subst, inl, inr}
use Rattle.std.specs.Str.{bytes_eq}
use Rattle.std.proofs.lemmas.Option.{none-some, same_Some}
use Rattle.jtree.specs.Data.{Data}
use Rattle.jtree.specs.Data as tree
use Rattle.jtree.specs.Path.{name, index, Path, part_by, part_at, under}
use Rattle.jtree.specs.Internal.Lookups.{bool_cases, same_name, own_name}
use Rattle.jtree.specs.Internal.Rising.{Among, among_parts, contained}
use Rattle.schema.specs.Document.Texts.{is_among}
use Rattle.schema.specs.Nodes.Node.{Node, node, scalar, object, list, open_, Fields, no_fields, IsNode, AreOrdered}
use Rattle.schema.specs.Nodes.Node as nodes
use Rattle.schema.specs.Nodes.ByPlace.{Declared, field_at, node_at}
use Rattle.stored.specs.Objects.Becomes.{IsStored}
use Rattle.stored.specs.Objects.Fault.{is_null}
use Rattle.explain.specs.Paths.FieldPath.{field, item, value, FieldPath, place_of}
use Rattle.explain.specs.Paths.PathText.{path_text}
use Rattle.plan.specs.declared.sort.Sort.TheVariants.{Leaf}
use Rattle.plan.specs.Pools.Pools.{Pools, fixed_at}
use Rattle.plan.specs.Samples.Candidates.{sort_at}
use Rattle.plan.specs.Samples.Site.{below}
use Rattle.plan.specs.Samples.Over.{listed, listed_for, is_in, IsOverAlong}
use Rattle.suggest.specs.Suggested.Document.{general_of, suggestions_by}
use Rattle.suggest.specs.Suggested.FromObjects.{from_objects, pools_from, WhatStandsThereIsACandidate}
use Rattle.suggest.specs.Suggested.LeftOut.{Follows}
use Rattle.suggest.specs.Suggested.LeafValues.{General, takes, hinted_values, joined, leaf_values}
use Rattle.suggest.specs.Suggested.Lists.{Entry, entry_of, schema_of_field, schema_of_items, schema_of_values, lists_at, lists_of_fields}
use Rattle.suggest.specs.Suggested.ValuesBelow.{field_values, items_in, item_values, trees_of, members_in, member_values}
use Rattle.suggest.specs.Suggested.Without.{taken_out, without_paths}
use Rattle.suggest.proofs.VariedSampleLemmas.{StoredLaw, found_field, field_node}
use Rattle.suggest.proofs.EntryLemmas.{later_or, values_of, values_at, pool_lists}
use Rattle.suggest.proofs.FreeLemmas.{among_under, among_flat, among_trees, among_items, among_kept, in_listed, or_left, or_right, some_taken, scalar_valid, open_valid}
use Rattle.suggest.proofs.LeftOutLemmas.{step_there, none_left_out, fixed_is}
use Rattle.suggest.proofs.ObjectLemmas.{found_entry}
use Rattle.suggest.proofs.PathLemmas.{entry_among}
use Rattle.suggest.proofs.GoodLemmas.{among_taken}
use Rattle.suggest.proofs.SuggestionLemmas.{OneText, further, other_field, before_off, lists_off, lists_off_fields}
use Rattle.suggest.proofs.UncutLemmas.{values_uncut}

-- ---- the entry of a path

-- what is among entries is found under its text
entry_there : (es : List Entry) (e : Entry) → Among es e → values_at e.path es ≡ None → ⊥
entry_there [] e a none = absurd a
entry_there (d ∷ ds) e (inl same) none = own (values_at e.path ds) (values_of e.path d) (subst (λ x. values_of e.path x ≡ Some e.values) (sym same) (rw own_name refl)) none where
  own : (o p : Option (List Data)) → p ≡ Some e.values → later_or o p ≡ None → ⊥
  own (Some x) p is none = absurd (cc)
  own None p is none = absurd (cc)
entry_there (d ∷ ds) e (inr a) none = entry_there ds e a (later (values_at e.path ds) (values_of e.path d) none) where
  later : (o p : Option (List Data)) → later_or o p ≡ None → o ≡ None
  later (Some x) p none = absurd (cc)
  later None p none = refl

-- an entry at a path that goes on through a field is one of the field's
field_entry : OneText → (G : General) (vs : List Data) (schema : Option Data) (path : List ℕ) (fs : Fields) (k : List ℕ) (f : Declared) (p : FieldPath) (e : Entry) → AreOrdered fs → field_at k fs ≡ Some f
    → e.path ≡ path ++ path_text (field k ∷ p) → Among (lists_of_fields G vs schema path fs) e → Among (lists_at G (field_values k vs) f.default (schema_of_field schema k) (below path (field k)) f.node) e
field_entry one G vs schema path no_fields k f p e ordered found is a = absurd a
field_entry one G vs schema path (nodes.field l N required default fs) k f p e ordered found is a =
    let first = lists_at G (field_values l vs) default (schema_of_field schema l) (below path (field l)) N in
    let rest = lists_of_fields G vs schema path fs in
    elim (bool_cases (bytes_eq k l)) [
      | inl same ↦
          let here : Some (record { node = N; required = required; default = default }) ≡ Some f = rw same at found in
          let declared : record { node = N; required = required; default = default } ≡ f = same_Some _ f here in
          let names : k ≡ l = same_name k l same in
          let off = before_off one path k p fs (subst (λ n. nodes.IsBeforeFields n fs) (sym names) ordered.1) ordered.2 in
          elim (among_parts first rest e a) [
            | inl h ↦ subst (λ (g : Declared). Among (lists_at G (field_values k vs) g.default (schema_of_field schema k) (below path (field k)) g.node) e) declared
                (subst (λ n. Among (lists_at G (field_values n vs) default (schema_of_field schema n) (below path (field n)) N) e) (sym names) h)
            | inr h ↦ absurd (entry_there rest e h (subst (λ t. values_at t rest ≡ None) (sym is) (lists_off_fields G vs schema path fs (path ++ path_text (field k ∷ p)) off)))
          ]
      | inr other ↦
          let names : l ≡ k → ⊥ = λ e. let own = own_name k in let no : bytes_eq k k ≡ false = subst (λ n. bytes_eq k n ≡ false) e other in cc in
          elim (among_parts first rest e a) [
            | inl h ↦ absurd (entry_there first e h (subst (λ t. values_at t first ≡ None) (sym is)
                (lists_off G (field_values l vs) default (schema_of_field schema l) (below path (field l)) N (path ++ path_text (field k ∷ p)) (other_field one path k l p names))))
            | inr h ↦ field_entry one G vs schema path fs k f p e ordered.2 (rw other at found) is h
          ]
    ]

-- ---- what stands at a leaf is in the list of its path

alone : (G : General) (N : Node) (standing hinted : List Data) (v : Data) → G.beside ≡ false → Among standing v → Among (joined G N standing hinted) v
alone G N [] hinted v free a = absurd a
alone G N (u ∷ us) hinted v free a = rw free a

leaf_entry : (G : General) (vs : List Data) (default schema : Option Data) (path : List ℕ) (N M : Node) (x v : Data) (e : Entry) → Among (entry_of path (leaf_values G vs default schema N)) e → N ≡ M → x ≡ v
    → Among vs x → takes M v ≡ true → G.beside ≡ false → length e.values < G.limits.entries → is_in v e.values ≡ true
leaf_entry G vs default schema path N M x v e a same part stands takes_it free short =
    let values = (entry_among path (leaf_values G vs default schema N) e a).1 in
    let standing = among_kept (takes N) vs v (subst (Among vs) part stands) (subst (λ K. takes K v ≡ true) (sym same) takes_it) in
    let all = joined G N (filter (takes N) vs) (hinted_values G N default schema) in
    subst (λ ds. is_in v ds ≡ true) (sym values) (values_uncut G.limits.entries all v (alone G N (filter (takes N) vs) (hinted_values G N default schema) v free standing)
    (subst (λ ds. length ds < G.limits.entries) values short))

among_values : (x w : Data) (j : List ℕ) → part_by x (name j) ≡ Some w → Among (trees_of (members_in x)) w
among_values (tree.object ms) w j found = among_trees ms j w found
among_values tree.null w j found = absurd (none-some w found)
among_values (tree.boolean b) w j found = absurd (none-some w found)
among_values (tree.integer z) w j found = absurd (none-some w found)
among_values (tree.number s) w j found = absurd (none-some w found)
among_values (tree.text s) w j found = absurd (none-some w found)
among_values (tree.list ds) w j found = absurd (none-some w found)

among_listed : (x w : Data) (i : ℕ) → part_by x (index i) ≡ Some w → Among (items_in x) w
among_listed (tree.list ds) w i found = among_items ds i w found
among_listed tree.null w i found = absurd (none-some w found)
among_listed (tree.boolean b) w i found = absurd (none-some w found)
among_listed (tree.integer z) w i found = absurd (none-some w found)
among_listed (tree.number s) w i found = absurd (none-some w found)
among_listed (tree.text s) w i found = absurd (none-some w found)
among_listed (tree.object ms) w i found = absurd (none-some w found)

record IsLeafPart (G : General) (vs : List Data) (N M : Node) (x v : Data) (path : Path) (p : FieldPath) (e : Entry) : Type 0 where
  pub ordered : IsNode N
  pub there : node_at N (place_of p) ≡ Some M
  pub leaf : sort_at M ≡ Leaf
  pub follows : Follows path p
  pub stands : Among vs x
  pub part : part_at x path ≡ Some v
  pub taken : takes M v ≡ true
  pub free : G.beside ≡ false
  pub short : length e.values < G.limits.entries

listed_there : OneText → (G : General) (path : Path) (p : FieldPath) (vs : List Data) (default schema : Option Data) (at : List ℕ) (N M : Node) (x v : Data) (e : Entry) → IsLeafPart G vs N M x v path p e
    → e.path ≡ at ++ path_text p → Among (lists_at G vs default schema at N) e → is_in v e.values ≡ true
listed_there one G [] [] vs default schema at (node nullable description (scalar kind cs)) M x v e l is a =
    leaf_entry G vs default schema at (node nullable description (scalar kind cs)) M x v e a (same_Some _ M l.there) (same_Some x v l.part) l.stands l.taken l.free l.short
listed_there one G [] [] vs default schema at (node nullable description open_) M x v e l is a =
    leaf_entry G vs default schema at (node nullable description open_) M x v e a (same_Some _ M l.there) (same_Some x v l.part) l.stands l.taken l.free l.short
listed_there one G [] [] vs default schema at N M x v e l is a = let leaf : sort_at N ≡ Leaf = subst (λ K. sort_at K ≡ Leaf) (sym (same_Some N M l.there)) l.leaf in absurd (cc)
listed_there one G [] (t ∷ p) vs default schema at N M x v e l is a = absurd l.follows
listed_there one G (s ∷ path) [] vs default schema at N M x v e l is a = absurd l.follows
listed_there one G (name j ∷ path) (field k ∷ p) vs default schema at (node nullable description (object fs preserves type bounds cs)) M x v e l is a =
    let f = found_field fs k p M l.there in
    let u = step_there path (part_by x (name j)) v l.part in
    listed_there one G path p (field_values k vs) f.0.default (schema_of_field schema k) (below at (field k)) f.0.node M u.next v e (record {
      ordered = field_node fs k f.0 l.ordered f.1;
      there = f.2;
      leaf = l.leaf;
      follows = l.follows.1;
      stands = among_under k vs x u.next l.stands (subst (λ n. under x n ≡ Some u.next) l.follows.0 u.there);
      part = u.rest;
      taken = l.taken;
      free = l.free;
      short = l.short;
    }) (is ∙ sym (further at (field k) p)) (field_entry one G vs schema at fs k f.0 p e l.ordered f.1 is a)
listed_there one G (name j ∷ path) (value ∷ p) vs default schema at (node nullable description (nodes.map N type bounds)) M x v e l is a =
    let u = step_there path (part_by x (name j)) v l.part in
    listed_there one G path p (member_values vs) None (schema_of_values schema) (below at value) N M u.next v e (record {
      ordered = l.ordered;
      there = l.there;
      leaf = l.leaf;
      follows = l.follows.1;
      stands = among_flat (λ w. trees_of (members_in w)) vs x u.next l.stands (among_values x u.next j u.there);
      part = u.rest;
      taken = l.taken;
      free = l.free;
      short = l.short;
    }) (is ∙ sym (further at value p)) a
listed_there one G (index i ∷ path) (item ∷ p) vs default schema at (node nullable description (list N type keys bounds)) M x v e l is a =
    let u = step_there path (part_by x (index i)) v l.part in
    listed_there one G path p (item_values vs) None (schema_of_items schema) (below at item) N M u.next v e (record {
      ordered = l.ordered;
      there = l.there;
      leaf = l.leaf;
      follows = l.follows.1;
      stands = among_flat items_in vs x u.next l.stands (among_listed x u.next i u.there);
      part = u.rest;
      taken = l.taken;
      free = l.free;
      short = l.short;
    }) (is ∙ sym (further at item p)) a
listed_there one G (name j ∷ path) (item ∷ p) vs default schema at N M x v e l is a = absurd l.follows.0
listed_there one G (index i ∷ path) (field k ∷ p) vs default schema at N M x v e l is a = absurd l.follows.0
listed_there one G (index i ∷ path) (value ∷ p) vs default schema at N M x v e l is a = absurd l.follows.0
listed_there one G (s ∷ path) (t ∷ p) vs default schema at N M x v e l is a = absurd (none-some M l.there)

-- ---- a candidate

leaf_over : StoredLaw → (P : Pools) (text : List ℕ) (N : Node) (v : Data) → sort_at N ≡ Leaf → IsStored N v → (takes N v ≡ true → is_in v (listed P text N) ≡ true) → (path : Path) (p : FieldPath)
    → IsOverAlong P None text N v path p
leaf_over law P text (node nullable description (scalar kind cs)) v leaf stored has [] [] = elim (scalar_valid nullable description kind cs v ((law (node nullable description (scalar kind cs)) v).0 stored).0) [
  | inl taken ↦ or_left (is_in v (listed P text (node nullable description (scalar kind cs)))) (is_null v && nullable) (has taken)
  | inr null ↦ or_right (is_in v (listed P text (node nullable description (scalar kind cs)))) (is_null v && nullable) null
]
leaf_over law P text (node nullable description open_) v leaf stored has [] [] = elim (open_valid nullable description v ((law (node nullable description open_) v).0 stored).0) [
  | inl taken ↦ or_left (is_in v (listed P text (node nullable description open_))) (is_null v && nullable) (has taken)
  | inr null ↦ or_right (is_in v (listed P text (node nullable description open_))) (is_null v && nullable) null
]
leaf_over law P text N v leaf stored has [] [] = absurd (cc)
leaf_over law P text N v leaf stored has [] (t ∷ p) = tt
leaf_over law P text N v leaf stored has (s ∷ path) [] = tt
leaf_over law P text (node nullable description (scalar kind cs)) v leaf stored has (s ∷ path) (t ∷ p) = λ M w follows down found. absurd (none-some M down)
leaf_over law P text (node nullable description open_) v leaf stored has (s ∷ path) (t ∷ p) = λ M w follows down found. absurd (none-some M down)
leaf_over law P text N v leaf stored has (s ∷ path) (t ∷ p) = absurd (cc)

among_map : (f : Data → Data) (vs : List Data) (v : Data) → Among vs v → Among (map f vs) (f v)
among_map f [] v a = absurd a
among_map f (u ∷ vs) v (inl e) = inl (ap f e)
among_map f (u ∷ vs) v (inr a) = inr (among_map f vs v a)

pub standing_candidate : StoredLaw → OneText → WhatStandsThereIsACandidate
standing_candidate law one limits raw root vs ws x p N v ordered there s uncut least =
    let P = pools_from limits raw root vs ws in
    let w = without_paths root (from_objects vs ws) in
    let S = suggestions_by [] (general_of limits root) w raw root in
    let stays : is_among (path_text p) ws ≡ false = elim (bool_cases (is_among (path_text p) ws)) [
      | inl gone ↦ absurd (none_left_out ws s.path p [] root N x v (λ e. absurd (s.below_root e)) gone s.node s.follows s.part)
      | inr stays ↦ stays
    ] in
    let unfixed : fixed_at (path_text p) P ≡ None = fixed_is limits raw root (from_objects vs ws) (path_text p) ∙ rw stays refl in
    let has : takes N v ≡ true → is_in v (listed P (path_text p) N) ≡ true = λ taken.
    let list = uncut (some_taken N v taken) in
    let e = found_entry (path_text p) (take limits.paths S.lists) list.0 (sym (pool_lists limits root ws S (path_text p)) ∙ list.1) in
    let is_there = listed_there one (general_of limits root) s.path p w.objects None (Some raw) [] root N (taken_out ws [] root x) v e.entry (record {
      ordered = ordered;
      there = s.node;
      leaf = s.leaf;
      follows = s.follows;
      stands = among_map (λ u. taken_out ws [] root u) vs x (contained vs x there);
      part = s.part;
      taken = taken;
      free = refl;
      short = subst (λ ds. length ds < limits.entries) (sym e.values) list.2;
    }) e.path (among_taken limits.paths S.lists e.entry e.among) in
    in_listed P (path_text p) N v least (subst (λ o. is_in v (unwrap_or o (listed_for P N)) ≡ true) (sym list.1) (subst (λ ds. is_in v ds ≡ true) e.values is_there)) in
    record {
      tree = s.tree;
      stored = s.stored;
      over = subst (λ o. (path : Path) (q : FieldPath) → IsOverAlong P o (path_text p) N v path q) (sym unfixed) (leaf_over law P (path_text p) N v s.leaf s.stored has);
    }
