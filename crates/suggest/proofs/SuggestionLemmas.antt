-- What the pools around an object say at a text: only that which is said where the path of the text leads along.
use Rattle.std.proofs.Common.{◌≡◌, ℕ, List, [], ◌∷◌, ◌++◌, Bool, true, false, ◌||◌, Option, Some, None, option_and_then, refl, sym, ap, ◌∙◌, subst, inl, inr, append_assoc, append-nil}
use Rattle.std.specs.Option.{option_to_list}
use Rattle.std.specs.Str.{bytes_eq}
use Rattle.std.specs.declared.cmp.Ordering.TheVariants.{Less}
use Rattle.std.proofs.lemmas.Cmp.{nat_list_cmp_total}
use Rattle.std.proofs.lemmas.List.{append_cancel_left}
use Rattle.jtree.specs.Data.{Data}
use Rattle.jtree.specs.Order.{text_cmp}
use Rattle.jtree.specs.Path.{under}
use Rattle.jtree.specs.Internal.Lookups.{bool_cases, same_name, own_name, not_itself}
use Rattle.schema.specs.Document.Texts.{is_among}
use Rattle.schema.specs.Nodes.Node.{Node, node, scalar, object, map, list, open_, Fields, no_fields, field, AreOrdered, IsBeforeFields}
use Rattle.schema.specs.Nodes.ByPlace.{Declared, field_at}
use Rattle.explain.specs.Paths.FieldPath.{FieldStep, FieldPath}
use Rattle.explain.specs.Paths.FieldPath as step
use Rattle.explain.specs.Paths.PathText.{step_text, path_text}
use Rattle.plan.specs.Samples.Site.{below}
use Rattle.suggest.specs.Suggested.ValuesBelow.{field_values, item_values, member_values}
use Rattle.suggest.specs.Suggested.LeafValues.{General, leaf_values}
use Rattle.suggest.specs.Suggested.Lists.{Entry, entry_of, schema_of_field, schema_of_items, schema_of_values, lists_at, lists_of_fields}
use Rattle.suggest.specs.Suggested.Varied.{Suggestions, both, leads_on, lists_alone, as_in_object, always_present, suggestions_at, suggestions_below, suggestions_of_fields}
use Rattle.suggest.proofs.EntryLemmas.{other_name, later_or, later_none, values_at, values_append}

-- different paths have different texts
abbrev pub OneText : Type 0
OneText = (p q : FieldPath) → path_text p ≡ path_text q → p ≡ q

-- ---- texts that are not those of a path or of one below it

abbrev pub IsOff : List ℕ → List ℕ → Type 0
IsOff path text = (p : FieldPath) → path ++ path_text p ≡ text → ⊥

-- not those of one below it
abbrev pub IsOffBelow : List ℕ → List ℕ → Type 0
IsOffBelow path text = (s : FieldStep) (p : FieldPath) → path ++ path_text (s ∷ p) ≡ text → ⊥

-- not those of the fields, or of one below them
abbrev pub AreOff : List ℕ → Fields → List ℕ → Type 0
AreOff path no_fields text = Unit {0}
AreOff path (field k N required default fs) text = IsOff (below path (step.field k)) text × AreOff path fs text

-- a path goes on after a step
pub further : (path : List ℕ) (s : FieldStep) (p : FieldPath) → below path s ++ path_text p ≡ path ++ path_text (s ∷ p)
further path s p = append_assoc path (step_text s) (path_text p)

pub off_step : (path : List ℕ) (s : FieldStep) (text : List ℕ) → IsOffBelow path text → IsOff (below path s) text
off_step path s text off p e = off s p (sym (further path s p) ∙ e)

off_here : (path text : List ℕ) → IsOff path text → text ≡ path → ⊥
off_here path text off e = off [] (append-nil path ∙ sym e)

off_all : (path text : List ℕ) (fs : Fields) → IsOffBelow path text → AreOff path fs text
off_all path text no_fields off = tt
off_all path text (field k N required default fs) off = (off_step path (step.field k) text off, off_all path text fs off)

-- the texts below a path lead to it by one step alone
same_step : OneText → (path : List ℕ) (s t : FieldStep) (p q : FieldPath) → path ++ path_text (s ∷ p) ≡ path ++ path_text (t ∷ q) → s ∷ p ≡ t ∷ q
same_step one path s t p q e = one (s ∷ p) (t ∷ q) (append_cancel_left path (path_text (s ∷ p)) (path_text (t ∷ q)) e)

pub other_field : OneText → (path : List ℕ) (k l : List ℕ) (p : FieldPath) → (l ≡ k → ⊥) → IsOff (below path (step.field l)) (path ++ path_text (step.field k ∷ p))
other_field one path k l p other q e =
    let same : step.field l ∷ q ≡ step.field k ∷ p = same_step one path (step.field l) (step.field k) q p (sym (further path (step.field l) q) ∙ e) in
    let names : l ≡ k = cc in
    other names

-- a name before the others is none of them
pub before_off : OneText → (path : List ℕ) (k : List ℕ) (p : FieldPath) (fs : Fields) → IsBeforeFields k fs → AreOrdered fs → AreOff path fs (path ++ path_text (step.field k ∷ p))
before_off one path k p no_fields before ordered = tt
before_off one path k p (field l N required default fs) before ordered =
    (other_field one path k l p (λ e. not_itself k l (sym e) before), before_off one path k p fs (before_rest k l fs before ordered.1) ordered.2) where
      before_rest : (k l : List ℕ) (fs : Fields) → text_cmp k l ≡ Less → IsBeforeFields l fs → IsBeforeFields k fs
      before_rest k l no_fields first next = tt
      before_rest k l (field m N required default fs) first next = nat_list_cmp_total.trans k l m first next

-- ---- lists at other texts

entry_off : (path : List ℕ) (vs : List Data) (text : List ℕ) → (text ≡ path → ⊥) → values_at text (entry_of path vs) ≡ None
entry_off path [] text other = refl
entry_off path (v ∷ vs) text other = rw (other_name text path other) refl

none_append : (text : List ℕ) (ds es : List Entry) → values_at text ds ≡ None → values_at text es ≡ None → values_at text (ds ++ es) ≡ None
none_append text ds es d e = values_append text ds es ∙ (ap (λ o. later_or o (values_at text ds)) e ∙ d)

mutual
  pub lists_off : (G : General) (vs : List Data) (default schema : Option Data) (path : List ℕ) (N : Node) (text : List ℕ) → IsOff path text → values_at text (lists_at G vs default schema path N) ≡ None
  lists_off G vs default schema path (node nullable description (object fs preserves type bounds cs)) text off = lists_off_fields G vs schema path fs text (off_all path text fs (λ s p. off (s ∷ p)))
  lists_off G vs default schema path (node nullable description (map N type bounds)) text off =
      lists_off G (member_values vs) None (schema_of_values schema) (below path step.value) N text (off_step path step.value text (λ s p. off (s ∷ p)))
  lists_off G vs default schema path (node nullable description (list N type keys bounds)) text off =
      lists_off G (item_values vs) None (schema_of_items schema) (below path step.item) N text (off_step path step.item text (λ s p. off (s ∷ p)))
  lists_off G vs default schema path (node nullable description (scalar kind cs)) text off =
      entry_off path (leaf_values G vs default schema (node nullable description (scalar kind cs))) text (off_here path text off)
  lists_off G vs default schema path (node nullable description open_) text off =
      entry_off path (leaf_values G vs default schema (node nullable description open_)) text (off_here path text off)

  pub lists_off_fields : (G : General) (vs : List Data) (schema : Option Data) (path : List ℕ) (fs : Fields) (text : List ℕ) → AreOff path fs text → values_at text (lists_of_fields G vs schema path fs) ≡ None
  lists_off_fields G vs schema path no_fields text off = refl
  lists_off_fields G vs schema path (field k N required default fs) text off =
      none_append text (lists_at G (field_values k vs) default (schema_of_field schema k) (below path (step.field k)) N) (lists_of_fields G vs schema path fs)
      (lists_off G (field_values k vs) default (schema_of_field schema k) (below path (step.field k)) N text off.0) (lists_off_fields G vs schema path fs text off.1)

-- ---- nothing is said at other texts

pub record SaysNothing (text : List ℕ) (S : Suggestions) : Type 0 where
  pub fixed : values_at text S.fixed ≡ None
  pub present : is_among text S.present ≡ false
  pub lists : values_at text S.lists ≡ None

among_append : (text : List ℕ) (ss ts : List (List ℕ)) → is_among text (ss ++ ts) ≡ (is_among text ss || is_among text ts)
among_append text [] ts = refl
among_append text (s ∷ ss) ts = ap (λ b. bytes_eq text s || b) (among_append text ss ts) ∙ or_assoc (bytes_eq text s) (is_among text ss) (is_among text ts) where
  or_assoc : (a b c : Bool) → (a || (b || c)) ≡ ((a || b) || c)
  or_assoc true b c = refl
  or_assoc false b c = refl

both_nothing : (text : List ℕ) (A B : Suggestions) → SaysNothing text A → SaysNothing text B → SaysNothing text (both A B)
both_nothing text A B a b = record {
  fixed = none_append text A.fixed B.fixed a.fixed b.fixed;
  present = among_append text A.present B.present ∙ (ap (λ x. x || is_among text B.present) a.present ∙ b.present);
  lists = none_append text A.lists B.lists a.lists b.lists;
}

free_nothing : (G : General) (v default schema : Option Data) (path : List ℕ) (N : Node) (text : List ℕ) → IsOff path text → SaysNothing text (lists_alone G (option_to_list v) default schema path N)
free_nothing G v default schema path N text off = record { fixed = refl; present = refl; lists = lists_off G (option_to_list v) default schema path N text off }

one_off : (path text : List ℕ) → (text ≡ path → ⊥) → is_among text (path ∷ []) ≡ false
one_off path text other = rw (other_name text path other) refl

one_entry_off : (path : List ℕ) (vs : List Data) (text : List ℕ) → (text ≡ path → ⊥) → values_at text (record { path = path; values = vs } ∷ []) ≡ None
one_entry_off path vs text other = rw (other_name text path other) refl

kept_nothing : (path : List ℕ) (v : Option Data) (text : List ℕ) → (text ≡ path → ⊥) → SaysNothing text (as_in_object path v)
kept_nothing path None text other = record { fixed = one_entry_off path [] text other; present = refl; lists = refl }
kept_nothing path (Some v) text other = record { fixed = one_entry_off path (v ∷ []) text other; present = one_off path text other; lists = refl }

asked_nothing : (path text : List ℕ) → (text ≡ path → ⊥) → SaysNothing text (always_present path)
asked_nothing path text other = record { fixed = refl; present = one_off path text other; lists = refl }

at_nothing : (G : General) (ts : List (List ℕ)) (v default schema : Option Data) (path : List ℕ) (N : Node) (text : List ℕ) → IsOff path text
    → SaysNothing text (suggestions_below G ts v schema path N) → SaysNothing text (suggestions_at G ts v default schema path N)
at_nothing G ts v default schema path N text off inner = elim (bool_cases (is_among path ts)) [
  | inl varied ↦ rw varied (free_nothing G v default schema path N text off)
  | inr other ↦ elim (bool_cases (leads_on path ts)) [
    | inl leads ↦ rw (other, leads) (both_nothing text (always_present path) (suggestions_below G ts v schema path N) (asked_nothing path text (off_here path text off)) inner)
    | inr ends ↦ rw (other, ends) (kept_nothing path v text (off_here path text off))
  ]
]

mutual
  below_nothing : (G : General) (ts : List (List ℕ)) (v schema : Option Data) (path : List ℕ) (N : Node) (text : List ℕ) → IsOffBelow path text → SaysNothing text (suggestions_below G ts v schema path N)
  below_nothing G ts v schema path (node nullable description (object fs preserves type bounds cs)) text off = fields_nothing G ts v schema path fs text (off_all path text fs off)
  below_nothing G ts v schema path (node nullable description (map N type bounds)) text off = record { fixed = refl; present = refl; lists = refl }
  below_nothing G ts v schema path (node nullable description (list N type keys bounds)) text off = record { fixed = refl; present = refl; lists = refl }
  below_nothing G ts v schema path (node nullable description (scalar kind cs)) text off = record { fixed = refl; present = refl; lists = refl }
  below_nothing G ts v schema path (node nullable description open_) text off = record { fixed = refl; present = refl; lists = refl }

  fields_nothing : (G : General) (ts : List (List ℕ)) (v schema : Option Data) (path : List ℕ) (fs : Fields) (text : List ℕ) → AreOff path fs text → SaysNothing text (suggestions_of_fields G ts v schema path fs)
  fields_nothing G ts v schema path no_fields text off = record { fixed = refl; present = refl; lists = refl }
  fields_nothing G ts v schema path (field k N required default fs) text off =
      both_nothing text (suggestions_at G ts (option_and_then (λ w. under w k) v) default (schema_of_field schema k) (below path (step.field k)) N) (suggestions_of_fields G ts v schema path fs)
      (at_nothing G ts (option_and_then (λ w. under w k) v) default (schema_of_field schema k) (below path (step.field k)) N text off.0
      (below_nothing G ts (option_and_then (λ w. under w k) v) (schema_of_field schema k) (below path (step.field k)) N text (λ s p. off.0 (s ∷ p))))
      (fields_nothing G ts v schema path fs text off.1)

-- ---- what is suggested at texts of one field is what is suggested at the field

pub record SaysSame (text : List ℕ) (S T : Suggestions) : Type 0 where
  pub fixed : values_at text S.fixed ≡ values_at text T.fixed
  pub present : is_among text S.present ≡ is_among text T.present
  pub lists : values_at text S.lists ≡ values_at text T.lists

or_false : (b : Bool) → (b || false) ≡ b
or_false true = refl
or_false false = refl

pub left_same : (text : List ℕ) (ds es : List Entry) → values_at text es ≡ None → values_at text (ds ++ es) ≡ values_at text ds
left_same text ds es e = values_append text ds es ∙ ap (λ o. later_or o (values_at text ds)) e

pub right_same : (text : List ℕ) (ds es : List Entry) → values_at text ds ≡ None → values_at text (ds ++ es) ≡ values_at text es
right_same text ds es d = values_append text ds es ∙ (ap (λ o. later_or (values_at text es) o) d ∙ later_none (values_at text es))

says_left : (text : List ℕ) (A B : Suggestions) → SaysNothing text B → SaysSame text (both A B) A
says_left text A B b = record {
  fixed = left_same text A.fixed B.fixed b.fixed;
  present = among_append text A.present B.present ∙ (ap (λ x. is_among text A.present || x) b.present ∙ or_false (is_among text A.present));
  lists = left_same text A.lists B.lists b.lists;
}

says_right : (text : List ℕ) (A B C : Suggestions) → SaysNothing text A → SaysSame text B C → SaysSame text (both A B) C
says_right text A B C a b = record {
  fixed = right_same text A.fixed B.fixed a.fixed ∙ b.fixed;
  present = among_append text A.present B.present ∙ (ap (λ x. x || is_among text B.present) a.present ∙ b.present);
  lists = right_same text A.lists B.lists a.lists ∙ b.lists;
}

-- what is suggested of a field of the object, at its path and below it
abbrev pub said_of_field : General → List (List ℕ) → Option Data → Option Data → List ℕ → List ℕ → Declared → Suggestions
said_of_field G ts v schema path k f = suggestions_at G ts (option_and_then (λ w. under w k) v) f.default (schema_of_field schema k) (below path (step.field k)) f.node

pub field_says : OneText → (G : General) (ts : List (List ℕ)) (v schema : Option Data) (path : List ℕ) (fs : Fields) (k : List ℕ) (f : Declared) (p : FieldPath) → AreOrdered fs → field_at k fs ≡ Some f
    → SaysSame (path ++ path_text (step.field k ∷ p)) (suggestions_of_fields G ts v schema path fs) (said_of_field G ts v schema path k f)
field_says one G ts v schema path no_fields k f p ordered found = absurd (cc)
field_says one G ts v schema path (field l N required default fs) k f p ordered found =
    elim (bool_cases (bytes_eq k l)) [
      | inl same ↦
          let here : Some (record { node = N; required = required; default = default }) ≡ Some f = rw same at found in
          let is : record { node = N; required = required; default = default } ≡ f = cc in
          let name : k ≡ l = same_name k l same in
          subst (λ g. SaysSame (path ++ path_text (step.field k ∷ p)) (suggestions_of_fields G ts v schema path (field l N required default fs)) (said_of_field G ts v schema path k g)) is
          (subst (λ n. SaysSame (path ++ path_text (step.field k ∷ p)) (suggestions_of_fields G ts v schema path (field l N required default fs))
          (said_of_field G ts v schema path n (record { node = N; required = required; default = default }))) (sym name)
          (says_left (path ++ path_text (step.field k ∷ p)) (said_of_field G ts v schema path l (record { node = N; required = required; default = default })) (suggestions_of_fields G ts v schema path fs)
          (subst (λ n. SaysNothing (path ++ path_text (step.field n ∷ p)) (suggestions_of_fields G ts v schema path fs)) (sym name)
          (fields_nothing G ts v schema path fs (path ++ path_text (step.field l ∷ p)) (before_off one path l p fs ordered.1 ordered.2)))))
      | inr other ↦
          let names : l ≡ k → ⊥ = λ e. let own = own_name k in let no : bytes_eq k k ≡ false = subst (λ n. bytes_eq k n ≡ false) e other in cc in
          let off = other_field one path k l p names in
          says_right (path ++ path_text (step.field k ∷ p)) (said_of_field G ts v schema path l (record { node = N; required = required; default = default })) (suggestions_of_fields G ts v schema path fs)
          (said_of_field G ts v schema path k f)
          (at_nothing G ts (option_and_then (λ w. under w l) v) default (schema_of_field schema l) (below path (step.field l)) N (path ++ path_text (step.field k ∷ p)) off
          (below_nothing G ts (option_and_then (λ w. under w l) v) (schema_of_field schema l) (below path (step.field l)) N (path ++ path_text (step.field k ∷ p)) (λ s q. off (s ∷ q))))
          (field_says one G ts v schema path fs k f p ordered.2 (rw other at found))
    ]

-- ---- what is suggested below a path is not said at it

pub not_below_itself : OneText → (path : List ℕ) → IsOffBelow path path
not_below_itself one path s p e =
    let same : s ∷ p ≡ [] = one (s ∷ p) [] (append_cancel_left path (path_text (s ∷ p)) (path_text []) (e ∙ sym (append-nil path))) in
    cc

pub nothing_here : OneText → (G : General) (ts : List (List ℕ)) (v schema : Option Data) (path : List ℕ) (N : Node) → SaysNothing path (suggestions_below G ts v schema path N)
nothing_here one G ts v schema path N = below_nothing G ts v schema path N path (not_below_itself one path)

-- and what is suggested at it alone is not said below it
pub asks_below_same : OneText → (path : List ℕ) (s : FieldStep) (p : FieldPath) (S : Suggestions) → SaysSame (path ++ path_text (s ∷ p)) (both (always_present path) S) S
asks_below_same one path s p S = record {
  fixed = refl;
  present = ap (λ b. b || is_among (path ++ path_text (s ∷ p)) S.present) (other_name (path ++ path_text (s ∷ p)) path (not_below_itself one path s p));
  lists = refl;
}
