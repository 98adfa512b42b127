-- Where the texts of varied paths lead: through objects of the object alone, to fields that are declared.
use Rattle.std.proofs.Common.{◌≡◌, ℕ, List, [], ◌∷◌, ◌++◌, Bool, true, false, Option, Some, None, flat_map, option_and_then, refl, sym, ap, ◌∙◌, subst, inl, inr, arith, append_assoc, codes}
use Rattle.std.specs.Prelude.{◌==◌}
use Rattle.std.specs.Str.{bytes_eq}
use Rattle.std.proofs.lemmas.Bool.{and_parts, and_from}
use Rattle.std.proofs.lemmas.Bool.Decides.{nat_tests}
use Rattle.std.proofs.lemmas.List.{append_cancel_left}
use Rattle.jtree.specs.Data.{Data, Members}
use Rattle.jtree.specs.Data as tree
use Rattle.jtree.specs.Path.{under}
use Rattle.jtree.specs.Internal.Lookups.{bool_cases, same_name, own_name}
use Rattle.jtree.specs.Internal.Rising.{Among}
use Rattle.schema.specs.Nodes.Node.{Node, node, object, Fields, no_fields}
use Rattle.schema.specs.Nodes.Node as nodes
use Rattle.schema.specs.Nodes.ByPlace.{Declared, field_at}
use Rattle.explain.specs.Paths.FieldPath.{field}
use Rattle.explain.specs.Paths.PathText.{escaped, step_text}
use Rattle.plan.specs.Samples.Site.{below}
use Rattle.suggest.specs.Suggested.Varied.{begins_with, goes_on, leads_on, there_in, reach, reach_by_fields}
use Rattle.suggest.specs.declared.varying.Reach.TheVariants.{Missing, There}
use Rattle.suggest.proofs.EntryLemmas.{other_name}
use Rattle.suggest.proofs.SuggestionLemmas.{OneText}

-- ---- beginnings of texts

begins_parts : (front text : List ℕ) → begins_with front text ≡ true → (rest : List ℕ) × (text ≡ front ++ rest)
begins_parts [] text e = (text, refl)
begins_parts (a ∷ front) [] e = absurd (cc)
begins_parts (a ∷ front) (b ∷ text) e =
    let parts = and_parts (a == b) (begins_with front text) e in
    let same : a ≡ b = let h = parts.0 in grind (arith, nat_tests) in
    let rest = begins_parts front text parts.1 in
    let tail = rest.1 in
    (rest.0, cc)

begins_by : (front rest : List ℕ) → begins_with front (front ++ rest) ≡ true
begins_by [] rest = refl
begins_by (a ∷ front) rest = and_from (a == a) (begins_with front (front ++ rest)) (grind (arith, nat_tests)) (begins_by front rest)

-- ---- names have no slash in a text

abbrev HasNoSlash : List ℕ → Type 0
HasNoSlash [] = Unit {0}
HasNoSlash (b ∷ ys) = (b ≡ 47 → ⊥) × HasNoSlash ys

no_slash_join : (xs ys : List ℕ) → HasNoSlash xs → HasNoSlash ys → HasNoSlash (xs ++ ys)
no_slash_join [] ys h g = g
no_slash_join (a ∷ xs) ys h g = (h.0, no_slash_join xs ys h.1 g)

no_slash_escaped : (b : ℕ) → HasNoSlash (escaped b)
no_slash_escaped b = elim (bool_cases (b == 126)) [
  | inl t ↦ rw t ((λ e. absurd (omega arith)), ((λ e. absurd (omega arith)), tt))
  | inr f ↦ elim (bool_cases (b == 47)) [
    | inl t ↦ rw (f, t) ((λ e. absurd (omega arith)), ((λ e. absurd (omega arith)), tt))
    | inr slash ↦ elim (bool_cases (b == 91)) [
      | inl t ↦ rw (f, slash, t) ((λ e. absurd (omega arith)), ((λ e. absurd (omega arith)), tt))
      | inr g ↦ elim (bool_cases (b == 123)) [
        | inl t ↦ rw (f, slash, g, t) ((λ e. absurd (omega arith)), ((λ e. absurd (omega arith)), tt))
        | inr h ↦ rw (f, slash, g, h) ((λ e. absurd (not_slash b slash e)), tt)
      ]
    ]
  ]
] where
  not_slash : (b : ℕ) → (b == 47) ≡ false → b ≡ 47 → ⊥
  not_slash b h e = grind (arith, nat_tests)

no_slash_name : (k : List ℕ) → HasNoSlash (flat_map escaped k)
no_slash_name [] = tt
no_slash_name (b ∷ k) = no_slash_join (escaped b) (flat_map escaped k) (no_slash_escaped b) (no_slash_name k)

same_before_slash : (xs ys r s : List ℕ) → HasNoSlash xs → HasNoSlash ys → xs ++ 47 ∷ r ≡ ys ++ 47 ∷ s → xs ≡ ys
same_before_slash [] [] r s h g e = refl
same_before_slash [] (b ∷ ys) r s h g e = absurd (g.0 (let same : b ≡ 47 = cc in same))
same_before_slash (a ∷ xs) [] r s h g e = absurd (h.0 (let same : a ≡ 47 = cc in same))
same_before_slash (a ∷ xs) (b ∷ ys) r s h g e =
    let first : a ≡ b = cc in
    let tails : xs ++ 47 ∷ r ≡ ys ++ 47 ∷ s = cc in
    let rest = same_before_slash xs ys r s h.1 g.1 tails in
    cc

no_slash_at_all : (xs ys r : List ℕ) → HasNoSlash ys → xs ++ 47 ∷ r ≡ ys → ⊥
no_slash_at_all [] [] r g e = cc
no_slash_at_all [] (b ∷ ys) r g e = g.0 (let same : b ≡ 47 = cc in same)
no_slash_at_all (a ∷ xs) [] r g e = cc
no_slash_at_all (a ∷ xs) (b ∷ ys) r g e = no_slash_at_all xs ys r g.1 (let tails : xs ++ 47 ∷ r ≡ ys = cc in tails)

-- ---- a text goes on from one field alone

goes_parts : (path k text : List ℕ) → goes_on (below path (field k)) text ≡ true → (r : List ℕ) × (text ≡ path ++ 47 ∷ (flat_map escaped k ++ 47 ∷ r))
goes_parts path k text goes =
    let parts = begins_parts (below path (field k) ++ codes "/") text goes in
    (parts.0, parts.1 ∙ (append_assoc (below path (field k)) (codes "/") parts.0 ∙ append_assoc path (step_text (field k)) (codes "/" ++ parts.0)))

pub goes_up : (path k text : List ℕ) → goes_on (below path (field k)) text ≡ true → goes_on path text ≡ true
goes_up path k text goes =
    let parts = goes_parts path k text goes in
    let joined : text ≡ (path ++ codes "/") ++ (flat_map escaped k ++ 47 ∷ parts.0) = parts.1 ∙ sym (append_assoc path (codes "/") (flat_map escaped k ++ 47 ∷ parts.0)) in
    subst (λ t. goes_on path t ≡ true) (sym joined) (begins_by (path ++ codes "/") (flat_map escaped k ++ 47 ∷ parts.0))

after_slash : (path r s : List ℕ) → path ++ 47 ∷ r ≡ path ++ 47 ∷ s → r ≡ s
after_slash path r s e = let tails = append_cancel_left path (47 ∷ r) (47 ∷ s) e in cc

same_escaped : OneText → (k l : List ℕ) → flat_map escaped k ≡ flat_map escaped l → k ≡ l
same_escaped one k l e = let same = one (field k ∷ []) (field l ∷ []) (ap (λ x. (47 ∷ x) ++ []) e) in cc

other_end : (path k l text : List ℕ) → goes_on (below path (field k)) text ≡ true → text ≡ below path (field l) → ⊥
other_end path k l text goes ends =
    let parts = goes_parts path k text goes in
    no_slash_at_all (flat_map escaped k) (flat_map escaped l) parts.0 (no_slash_name l) (after_slash path (flat_map escaped k ++ 47 ∷ parts.0) (flat_map escaped l) (sym parts.1 ∙ ends))

other_way : OneText → (path k l text : List ℕ) → (k ≡ l → ⊥) → goes_on (below path (field k)) text ≡ true → goes_on (below path (field l)) text ≡ true → ⊥
other_way one path k l text other goes too =
    let here = goes_parts path k text goes in
    let there = goes_parts path l text too in
    let tails = after_slash path (flat_map escaped k ++ 47 ∷ here.0) (flat_map escaped l ++ 47 ∷ there.0) (sym here.1 ∙ there.1) in
    other (same_escaped one k l (same_before_slash (flat_map escaped k) (flat_map escaped l) here.0 there.0 (no_slash_name k) (no_slash_name l) tails))

not_true : (b : Bool) → (b ≡ true → ⊥) → b ≡ false
not_true true h = absurd (h refl)
not_true false h = refl

reach_down : OneText → (text : List ℕ) (v : Option Data) (path : List ℕ) (fs : Fields) (k : List ℕ) (f : Declared) → field_at k fs ≡ Some f → goes_on (below path (field k)) text ≡ true
    → reach_by_fields text v path fs ≡ There → reach text (option_and_then (λ u. under u k) v) (below path (field k)) f.node ≡ There
reach_down one text v path no_fields k f found goes there = absurd (cc)
reach_down one text v path (nodes.field l N required default fs) k f found goes there = elim (bool_cases (bytes_eq k l)) [
  | inl same ↦
      let name = same_name k l same in
      let here : Some (record { node = N; required = required; default = default }) ≡ Some f = rw same at found in
      let is : N ≡ f.node = cc in
      let on : goes_on (below path (field l)) text ≡ true = subst (λ n. goes_on (below path (field n)) text ≡ true) name goes in
      let longer = other_name text (below path (field l)) (other_end path l l text on) in
      let reached : reach text (option_and_then (λ u. under u l) v) (below path (field l)) N ≡ There = rw (longer, on) at there in
      subst (λ M. reach text (option_and_then (λ u. under u k) v) (below path (field k)) M ≡ There) is
      (subst (λ n. reach text (option_and_then (λ u. under u n) v) (below path (field n)) N ≡ There) (sym name) reached)
  | inr other ↦
      let names : k ≡ l → ⊥ = λ e. let own = own_name k in let no : bytes_eq k k ≡ false = subst (λ n. bytes_eq k n ≡ false) (sym e) other in cc in
      let ends = other_name text (below path (field l)) (other_end path k l text goes) in
      let way = not_true (goes_on (below path (field l)) text) (other_way one path k l text names goes) in
      reach_down one text v path fs k f (rw other at found) goes (rw (ends, way) at there)
]

-- ---- nothing is reached in what is no object

mutual
  pub none_reached : (text path : List ℕ) (N : Node) → reach text None path N ≡ There → ⊥
  none_reached text path (node nullable description (object fs preserves type bounds cs)) there = none_by_fields text path fs there
  none_reached text path N there = cc

  none_by_fields : (text path : List ℕ) (fs : Fields) → reach_by_fields text None path fs ≡ There → ⊥
  none_by_fields text path no_fields there = cc
  none_by_fields text path (nodes.field k N required default fs) there = elim (bool_cases (bytes_eq text (below path (field k)))) [
    | inl same ↦ let no : Missing ≡ There = rw same at there in cc
    | inr other ↦ elim (bool_cases (goes_on (below path (field k)) text)) [
      | inl more ↦ none_reached text (below path (field k)) N (rw (other, more) at there)
      | inr ends ↦ none_by_fields text path fs (rw (other, ends) at there)
    ]
  ]

no_object : (text path : List ℕ) (v : Data) (fs : Fields) → there_in (Some v) ≡ Missing → ((k : List ℕ) → under v k ≡ None) → reach_by_fields text (Some v) path fs ≡ There → ⊥
no_object text path v no_fields missing empty there = cc
no_object text path v (nodes.field k N required default fs) missing empty there = elim (bool_cases (bytes_eq text (below path (field k)))) [
  | inl same ↦ let no : there_in (Some v) ≡ There = rw same at there in cc
  | inr other ↦ elim (bool_cases (goes_on (below path (field k)) text)) [
    | inl more ↦
        let reached : reach text (under v k) (below path (field k)) N ≡ There = rw (other, more) at there in
        none_reached text (below path (field k)) N (subst (λ o. reach text o (below path (field k)) N ≡ There) (empty k) reached)
    | inr ends ↦ no_object text path v fs missing empty (rw (other, ends) at there)
  ]
]

pub object_reached : (text path : List ℕ) (v : Data) (fs : Fields) → reach_by_fields text (Some v) path fs ≡ There → (ms : Members) × (v ≡ tree.object ms)
object_reached text path (tree.object ms) fs there = (ms, refl)
object_reached text path tree.null fs there = absurd (no_object text path tree.null fs refl (λ k. refl) there)
object_reached text path (tree.boolean b) fs there = absurd (no_object text path (tree.boolean b) fs refl (λ k. refl) there)
object_reached text path (tree.integer z) fs there = absurd (no_object text path (tree.integer z) fs refl (λ k. refl) there)
object_reached text path (tree.number s) fs there = absurd (no_object text path (tree.number s) fs refl (λ k. refl) there)
object_reached text path (tree.text s) fs there = absurd (no_object text path (tree.text s) fs refl (λ k. refl) there)
object_reached text path (tree.list ds) fs there = absurd (no_object text path (tree.list ds) fs refl (λ k. refl) there)

-- ---- the texts that go on from a path

-- each of them leads on from there to something that the object has
abbrev pub AreReached : List (List ℕ) → Option Data → List ℕ → Node → Type 0
AreReached ts v path N = (t : List ℕ) → Among ts t → goes_on path t ≡ true → reach t v path N ≡ There

pub reached_below : OneText → (ts : List (List ℕ)) (v : Option Data) (path : List ℕ) (fs : Fields) (k : List ℕ) (f : Declared) → field_at k fs ≡ Some f
    → ((t : List ℕ) → Among ts t → goes_on path t ≡ true → reach_by_fields t v path fs ≡ There) → AreReached ts (option_and_then (λ u. under u k) v) (below path (field k)) f.node
reached_below one ts v path fs k f found all t a goes = reach_down one t v path fs k f found goes (all t a (goes_up path k t goes))

pub leading_text : (path : List ℕ) (ts : List (List ℕ)) → leads_on path ts ≡ true → (t : List ℕ) × Among ts t × (goes_on path t ≡ true)
leading_text path [] leads = absurd (cc)
leading_text path (t ∷ ts) leads = elim (bool_cases (goes_on path t)) [
  | inl goes ↦ (t, inl refl, goes)
  | inr other ↦ let rest = leading_text path ts (rw other at leads) in (rest.0, inr rest.1, rest.2)
]
