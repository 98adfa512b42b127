-- The defaults that are not good, found by a walk over the nodes.
use Rattle.std.proofs.Common.{◌≡◌, ℕ, List, [], ◌∷◌, ◌++◌, Option, Some, refl, ap, sym, ◌∙◌, subst, inl, inr, ◌+◌, ◌<◌, length, get_or, take}
use Rattle.std.specs.Prelude.{map, codes}
use Rattle.std.proofs.lemmas.List.{map-append, append-nil, append_assoc, take_more}
use Rattle.std.proofs.lemmas.Grind.{flat_map-append}
use Rattle.jtree.specs.Data.{Data}
use Rattle.jtree.specs.Pointer.{token, name_token, pointer}
use Rattle.schema.specs.Document.Places.{Step, Place, property, map_value, items, step_path, place_path, place_pointer}
use Rattle.schema.specs.Nodes.Node.{Node}
use Rattle.schema.specs.Nodes.View.{fields_of}
use Rattle.schema.specs.Rules.Breaks.{Reported}
use Rattle.schema.specs.declared.node.Field.{Field}
use Rattle.schema.specs.declared.violation.Rule.TheVariants.{V14}
use Rattle.stored.specs.Schemas.Defaults.{IsGoodDefault}
use Rattle.stored.specs.Internal.DefaultList.{Default, after_step, own_default, defaults_in_fields, defaults_in_field, AreBadOf, reported_below, AreAdded}

bad_join : (xs ys us vs : List Default) → AreBadOf xs us → AreBadOf ys vs → AreBadOf (xs ++ ys) (us ++ vs)
bad_join [] ys us vs s t = subst (λ ws. AreBadOf ys (ws ++ vs)) (sym s) t
bad_join (x ∷ xs) ys us vs (inl s) t = inl (s.0, s.1 ++ vs, ap (λ ws. ws ++ vs) s.2, bad_join xs ys s.1 vs s.3 t)
bad_join (x ∷ xs) ys us vs (inr s) t = inr (s.0, bad_join xs ys us vs s.1 t)

pub added_join : (pointer : List ℕ) (xs ys : List Default) (before between after : List Reported) → AreAdded pointer xs before between → AreAdded pointer ys between after
    → AreAdded pointer (xs ++ ys) before after
added_join pointer xs ys before between after a b = record {
  bad = a.bad ++ b.bad;
  are_bad = bad_join xs ys a.bad b.bad a.are_bad b.are_bad;
  reported = b.reported ∙ (ap (λ ts. ts ++ reported_below pointer b.bad) a.reported ∙ (append_assoc before (reported_below pointer a.bad) (reported_below pointer b.bad)
      ∙ ap (λ ts. before ++ ts) (sym (map-append (λ d. record { pointer = pointer ++ place_pointer d.place; rule = V14 }) a.bad b.bad))));
}

-- ---- after a step

bad_after_step : (s : Step) (xs ys : List Default) → AreBadOf xs ys → AreBadOf (map (after_step s) xs) (map (after_step s) ys)
bad_after_step s [] ys e = ap (map (after_step s)) e
bad_after_step s (x ∷ xs) ys (inl h) = inl (h.0, map (after_step s) h.1, ap (map (after_step s)) h.2, bad_after_step s xs h.1 h.3)
bad_after_step s (x ∷ xs) ys (inr h) = inr (h.0, bad_after_step s xs ys h.1)

pointer_after : (s : Step) (p : Place) → place_pointer (s ∷ p) ≡ pointer (step_path s) ++ place_pointer p
pointer_after s p = flat_map-append token (step_path s) (place_path p)

reported_after_step : (before text : List ℕ) (s : Step) (ds : List Default) → text ≡ pointer (step_path s) → reported_below (before ++ text) ds ≡ reported_below before (map (after_step s) ds)
reported_after_step before text s [] is = refl
reported_after_step before text s (d ∷ ds) is = λ i.
    record { pointer = (append_assoc before text (place_pointer d.place) ∙ ap (λ t. before ++ t) (ap (λ t. t ++ place_pointer d.place) is ∙ sym (pointer_after s d.place))) i; rule = V14 }
    ∷ reported_after_step before text s ds is i

pub added_after : (before text : List ℕ) (s : Step) (ds : List Default) (old now : List Reported) → text ≡ pointer (step_path s)
    → AreAdded (before ++ text) ds old now → AreAdded before (map (after_step s) ds) old now
added_after before text s ds old now is a = record {
  bad = map (after_step s) a.bad;
  are_bad = bad_after_step s ds a.bad a.are_bad;
  reported = a.reported ∙ ap (λ ts. old ++ ts) (reported_after_step before text s a.bad is);
}

pub values_token : name_token (codes "additionalProperties") ≡ pointer (step_path map_value)
values_token = sym (append-nil (name_token (codes "additionalProperties")))

pub items_token : name_token (codes "items") ≡ pointer (step_path items)
items_token = sym (append-nil (name_token (codes "items")))

property_tokens : (k : List ℕ) → name_token (codes "properties") ++ name_token k ≡ pointer (step_path (property k))
property_tokens k = ap (λ t. name_token (codes "properties") ++ t) (sym (append-nil (name_token k)))

-- ---- of a field, and of one more field

pub added_field : (before k text more : List ℕ) (own ds : List Default) (old between now : List Reported)
    → text ≡ (before ++ name_token (codes "properties")) ++ name_token k → more ≡ text
    → AreAdded text own old between → AreAdded more ds between now
    → AreAdded before (map (after_step (property k)) (own ++ ds)) old now
added_field before k text more own ds old between now is same first then =
    added_after before (name_token (codes "properties") ++ name_token k) (property k) (own ++ ds) old now (property_tokens k)
    (subst (λ t. AreAdded t (own ++ ds) old now) (is ∙ append_assoc before (name_token (codes "properties")) (name_token k))
    (added_join text own ds old between now first (subst (λ t. AreAdded t ds between now) same then)))

in_more_fields : (fs : List Field) (f : Field) → defaults_in_fields (fields_of (fs ++ f ∷ [])) ≡ defaults_in_fields (fields_of fs) ++ defaults_in_field f
in_more_fields [] f = append-nil (defaults_in_field f)
in_more_fields (g ∷ fs) f =
    ap (λ ds. defaults_in_field g ++ ds) (in_more_fields fs f) ∙ sym (append_assoc (defaults_in_field g) (defaults_in_fields (fields_of fs)) (defaults_in_field f))

pub added_more : (before : List ℕ) (fs : List Field) (i : ℕ) (f : Field) (old between now : List Reported) → i < length fs → f ≡ get_or fs i f
    → AreAdded before (defaults_in_fields (fields_of (take i fs))) old between → AreAdded before (defaults_in_field f) between now
    → AreAdded before (defaults_in_fields (fields_of (take (i + 1) fs))) old now
added_more before fs i f old between now within is first then =
    subst (λ ds. AreAdded before ds old now)
    (sym (in_more_fields (take i fs) f) ∙ ap (λ gs. defaults_in_fields (fields_of gs)) (ap (λ g. take i fs ++ g ∷ []) is ∙ sym (take_more fs i f within)))
    (added_join before (defaults_in_fields (fields_of (take i fs))) (defaults_in_field f) old between now first then)

-- ---- one default

pub bad_added : (pointer : List ℕ) (N : Node) (o : Option Data) (d : Data) (old now : List Reported) → o ≡ Some d → (IsGoodDefault N d → ⊥)
    → now ≡ old ++ record { pointer = pointer; rule = V14 } ∷ [] → AreAdded pointer (own_default N o) old now
bad_added pointer N o d old now is bad reported = subst (λ x. AreAdded pointer (own_default N x) old now) (sym is) (record {
  bad = record { place = []; node = N; value = d } ∷ [];
  are_bad = inl (bad, [], refl, refl);
  reported = reported ∙ ap (λ t. old ++ record { pointer = t; rule = V14 } ∷ []) (sym (append-nil pointer));
})

pub good_passed : (pointer : List ℕ) (N : Node) (o : Option Data) (d : Data) (ts : List Reported) → o ≡ Some d → IsGoodDefault N d → AreAdded pointer (own_default N o) ts ts
good_passed pointer N o d ts is good = subst (λ x. AreAdded pointer (own_default N x) ts ts) (sym is) (record {
  bad = [];
  are_bad = inr (good, refl);
  reported = sym (append-nil ts);
})
