-- What is suggested around an object, as the code makes it.
use Rattle.std.proofs.Common.{◌≡◌, ◌≢◌, ◌≤◌, ◌<◌, ◌+◌, ℕ, List, [], ◌∷◌, ◌++◌, ◌∙◌, Bool, true, false, Option, length, get_or, drop, eqb, refl, sym, ap, append_assoc, append-nil, inl, inr, arith}
use Rattle.std.specs.Prelude.{◌==◌, ◌&&◌, option_map, option_and_then, codes, nat_eq}
use Rattle.std.proofs.lemmas.Bool.{and_parts, eq-eqb, eqb-true}
use Rattle.std.proofs.lemmas.List.{at_drop_more}
use Rattle.jtree.specs.Data.{Data}
use Rattle.jtree.specs.Path.{under}
use Rattle.jtree.specs.View.{data_of}
use Rattle.jtree.specs.Internal.Lookups.{bool_cases}
use Rattle.schema.specs.Nodes.View.{node_of, fields_of}
use Rattle.schema.specs.declared.node.Field.{Field as CodeField}
use Rattle.explain.specs.Paths.FieldPath as step
use Rattle.plan.specs.Samples.Site.{below}
use Rattle.suggest.specs.Suggested.LeafValues.{General}
use Rattle.suggest.specs.Suggested.Lists.{schema_of_field}
use Rattle.suggest.specs.Suggested.Varied.{Suggestions, nothing, both, begins_with, goes_on, suggestions_at, suggestions_of_fields}

-- ---- texts of paths

begins_after : (front end rest : List ℕ) → begins_with (front ++ end) (front ++ rest) ≡ begins_with end rest
begins_after [] end rest = refl
begins_after (a ∷ front) end rest = rw (eq-eqb a a refl) (begins_after front end rest)

pub begins_is : (front end text : List ℕ) → begins_with (front ++ end) text ≡ true → (rest : List ℕ) × (text ≡ front ++ rest)
begins_is [] end text e = (text, refl)
begins_is (a ∷ front) end [] e = absurd (cc)
begins_is (a ∷ front) end (b ∷ text) e =
    let parts = and_parts (a == b) (begins_with (front ++ end) text) e in
    let rest = begins_is front end text parts.1 in
    let same : a ≡ b = eqb-true a b parts.0 in
    (rest.0, λ i. sym same i ∷ rest.1 i)

pub goes_after : (path text rest : List ℕ) → text ≡ path ++ rest → goes_on path text ≡ begins_with (codes "/") rest
goes_after path text rest e = ap (goes_on path) e ∙ begins_after path (codes "/") rest

pub goes_none : (path text : List ℕ) → ((rest : List ℕ) → text ≢ path ++ rest) → goes_on path text ≡ false
goes_none path text none = elim (bool_cases (goes_on path text)) [
  | inl t ↦ let is = begins_is path (codes "/") text t in absurd (none is.0 is.1)
  | inr f ↦ f
]

turned : (a b : ℕ) → eqb a b ≡ eqb b a
turned a b = elim (bool_cases (eqb a b)) [
  | inl t ↦ t ∙ sym (eq-eqb b a (sym (eqb-true a b t)))
  | inr f ↦ elim (bool_cases (eqb b a)) [
    | inl t ↦ let u = eq-eqb a b (sym (eqb-true b a t)) in absurd (cc)
    | inr g ↦ f ∙ sym g
  ]
]

and_true : (b : Bool) → (b && true) ≡ b
and_true true = refl
and_true false = refl

pub slash_first : (rest : List ℕ) → 1 ≤ length rest → nat_eq (get_or rest 0 0) 47 ≡ begins_with (codes "/") rest
slash_first [] some = absurd (omega arith)
slash_first (x ∷ rest) some = turned x 47 ∙ sym (and_true (eqb 47 x))

-- ---- one field more

pub field_step : (G : General) (ts : List (List ℕ)) (v s : Option Data) (path : List ℕ) (fs : List CodeField) (i : ℕ) (f : CodeField) → i < length fs → f ≡ get_or fs i f
    → (w d t : Option Data) (path' : List ℕ) → w ≡ option_and_then (λ o. under o f.name) v → d ≡ option_map (λ o. data_of o) f.default → t ≡ schema_of_field s f.name → path' ≡ below path (step.field f.name)
    → suggestions_of_fields G ts v s path (fields_of (drop i fs)) ≡ both (suggestions_at G ts w d t path' (node_of f.node)) (suggestions_of_fields G ts v s path (fields_of (drop (i + 1) fs)))
field_step G ts v s path fs i f lt is w d t path' ew ed et ep =
    at_drop_more (λ gs. suggestions_of_fields G ts v s path (fields_of gs)) fs i f lt ∙ (ap (λ g. suggestions_of_fields G ts v s path (fields_of (g ∷ drop (i + 1) fs))) (sym is)
    ∙ λ j. both (suggestions_at G ts (sym ew j) (sym ed j) (sym et j) (sym ep j) (node_of f.node)) (suggestions_of_fields G ts v s path (fields_of (drop (i + 1) fs))))

-- ---- what is suggested, and more

pub both_assoc : (a b c : Suggestions) → both (both a b) c ≡ both a (both b c)
both_assoc a b c = λ i. record {
  lists = append_assoc a.lists b.lists c.lists i;
  names = append_assoc a.names b.names c.names i;
  fixed = append_assoc a.fixed b.fixed c.fixed i;
  present = append_assoc a.present b.present c.present i;
}

pub both_nothing : (a : Suggestions) → both a nothing ≡ a
both_nothing a = λ i. record { lists = append-nil a.lists i; names = append-nil a.names i; fixed = append-nil a.fixed i; present = append-nil a.present i }

pub both_grown : (old new here rest all : Suggestions) → new ≡ both old here → both old (both here rest) ≡ all → both new rest ≡ all
both_grown old new here rest all e h = ap (λ s. both s rest) e ∙ (both_assoc old here rest ∙ h)
