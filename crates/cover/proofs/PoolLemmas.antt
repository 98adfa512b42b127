-- What the narrowed pools ask for, and what they fix.
use Rattle.std.proofs.Common.{◌≡◌, ◌≢◌, ◌⊎◌, ℕ, List, [], ◌∷◌, ◌++◌, Bool, true, false, Option, Some, None, refl, sym, ap, subst, ◌∙◌, inl, inr, append-nil, append_assoc}
use Rattle.std.specs.Prelude.{◌||◌, is_some, option_and_then}
use Rattle.std.specs.Str.{bytes_eq}
use Rattle.std.proofs.lemmas.List.{append_cancel_left}
use Rattle.jtree.specs.Data.{Data, list}
use Rattle.jtree.specs.Path.{member_at}
use Rattle.jtree.specs.Internal.Lookups.{bool_cases, option_cases, same_name}
use Rattle.jtree.specs.Internal.MemberLaws.{with_member_at}
use Rattle.jtree.specs.MemberPlace.{with_member}
use Rattle.schema.specs.Document.Texts.{is_among}
use Rattle.schema.specs.Nodes.Node.{Node}
use Rattle.schema.specs.Nodes.ByPlace.{node_at}
use Rattle.explain.specs.Paths.FieldPath.{FieldStep, FieldPath, place_of}
use Rattle.explain.specs.Paths.PathText.{step_text, path_text}
use Rattle.plan.specs.Pools.Along.{beginnings, with_lists, DifferAlong}
use Rattle.plan.specs.Pools.Pools.{Pools, items_list, entries_in, fixed_at, is_present}
use Rattle.plan.specs.Pools.PlanFault.{HasName}
use Rattle.plan.specs.Samples.Candidates.{sort_at}
use Rattle.plan.specs.Samples.Site.{below}
use Rattle.plan.specs.declared.sort.Sort.TheVariants.{Leaf}
use Rattle.cover.specs.Internal.Narrowed.{rest_at, end_alone, kept_fixed, as_items, changes, narrowed, MayBeWanted}
use Rattle.cover.proofs.PathLemmas.{OneText, among_beginnings, beginning}

among_append : (text : List ℕ) (xs ys : List (List ℕ)) → is_among text (xs ++ ys) ≡ (is_among text xs || is_among text ys)
among_append text [] ys = refl
among_append text (x ∷ xs) ys = elim (bool_cases (bytes_eq text x)) [
  | inl same ↦ rw same refl
  | inr other ↦ rw other (among_append text xs ys)
]

pub asked_more : (P : Pools) (o : Option Data) (p : FieldPath) (text : List ℕ) → is_present text (narrowed P o p) ≡ (is_present text P || is_some (rest_at [] p text))
asked_more P o p text = among_append text P.present (beginnings [] p) ∙ ap (λ b. is_present text P || b) (among_beginnings [] p text)

-- ---- what is fixed

entries_as : (ds : List Data) → items_list (as_items ds) ≡ ds
entries_as [] = refl
entries_as (d ∷ ds) = ap (λ es. d ∷ es) (entries_as ds)

-- nothing is left after the front itself
front_left : OneText → (front : List ℕ) (p : FieldPath) → rest_at front p front ≡ None
front_left one front p = elim (option_cases (rest_at front p front)) [
  | inl none ↦ none
  | inr some ↦
      let b = beginning front p front some.0 some.1 in
      let empty : [] ≡ path_text (b.before ++ b.step ∷ []) = append_cancel_left front [] (path_text (b.before ++ b.step ∷ [])) (append-nil front ∙ b.text_is) in
      let same = one [] (b.before ++ b.step ∷ []) empty in
      absurd (not_empty b.before b.step (sym same))
] where
  not_empty : (a : FieldPath) (s : FieldStep) → a ++ s ∷ [] ≢ []
  not_empty [] s e = cc
  not_empty (t ∷ a) s e = cc

none_kept : (o : Option Data) (r : FieldPath) (fixed : Option (List Data)) → kept_fixed o (Some r) fixed ≡ None → fixed ≡ None
none_kept o r None e = refl
none_kept o r (Some ds) e = absurd (cc)

lists_at : OneText → (P : Pools) (o : Option Data) (front : List ℕ) (p : FieldPath) (text : List ℕ) → option_and_then entries_in (member_at text (with_lists (changes o P front p) P.fixed)) ≡ kept_fixed o (rest_at front p text) (fixed_at text P)
lists_at one P o front [] text = refl
lists_at one P o front (s ∷ p) text = elim (option_cases (kept_fixed o (Some p) (fixed_at (below front s) P))) [
  | inl none ↦ rw none (elim (bool_cases (bytes_eq text (below front s))) [
    | inl same ↦
        let is = same_name text (below front s) same in
        let free : fixed_at text P ≡ None = subst (λ t. fixed_at t P ≡ None) (sym is) (none_kept o p (fixed_at (below front s) P) none) in
        let past : rest_at (below front s) p text ≡ None = subst (λ t. rest_at (below front s) p t ≡ None) (sym is) (front_left one (below front s) p) in
        let whole : kept_fixed o (Some p) (fixed_at text P) ≡ None = subst (λ t. kept_fixed o (Some p) (fixed_at t P) ≡ None) (sym is) none in
        rw same (lists_at one P o (below front s) p text ∙ (ap (λ r. kept_fixed o r (fixed_at text P)) past ∙ (free ∙ sym whole)))
    | inr other ↦ rw other (lists_at one P o (below front s) p text)
  ])
  | inr some ↦
      let rest = with_lists (changes o P (below front s) p) P.fixed in
      rw some.1 (ap (option_and_then entries_in) (with_member_at (below front s) (list (as_items some.0)) rest text) ∙ elim (bool_cases (bytes_eq text (below front s))) [
        | inl same ↦
            let is = same_name text (below front s) same in
            let whole : kept_fixed o (Some p) (fixed_at text P) ≡ Some some.0 = subst (λ t. kept_fixed o (Some p) (fixed_at t P) ≡ Some some.0) (sym is) some.1 in
            rw same (ap Some (entries_as some.0) ∙ sym whole)
        | inr other ↦ rw other (lists_at one P o (below front s) p text)
      ])
]

pub fixed_kept : OneText → (P : Pools) (o : Option Data) (p : FieldPath) (text : List ℕ) → fixed_at text (narrowed P o p) ≡ kept_fixed o (rest_at [] p text) (fixed_at text P)
fixed_kept one P o p text = lists_at one P o [] p text

-- ---- which names there are

fixed_name : (P : Pools) (text : List ℕ) (ds : List Data) → fixed_at text P ≡ Some ds → HasName P.fixed text
fixed_name P text ds e = elim (option_cases (member_at text P.fixed)) [
  | inl none ↦ absurd (let h = rw none at e in cc)
  | inr some ↦ some
]

end_only : (o : Option Data) (p : FieldPath) (ds : List Data) → end_alone p o ≡ Some ds → (p ≡ []) × ((w : Data) × (o ≡ Some w))
end_only None [] ds e = absurd (cc)
end_only (Some w) [] ds e = (refl, (w, refl))
end_only o (s ∷ p) ds e = absurd (cc)

-- the name of a list was there, or is the text of the path, where a value is wanted
pub list_name : (P : Pools) (o : Option Data) (front : List ℕ) (p : FieldPath) (text : List ℕ) → HasName (with_lists (changes o P front p) P.fixed) text
    → ((w : Data) × (o ≡ Some w) × (text ≡ front ++ path_text p)) ⊎ HasName P.fixed text
list_name P o front [] text has = inr has
list_name P o front (s ∷ p) text has =
    let later : HasName (with_lists (changes o P (below front s) p) P.fixed) text → ((w : Data) × (o ≡ Some w) × (text ≡ front ++ path_text (s ∷ p))) ⊎ HasName P.fixed text = λ h.
    elim (list_name P o (below front s) p text h) [ inl end ↦ inl (end.0, end.1, end.2 ∙ append_assoc front (step_text s) (path_text p)) | inr old ↦ inr old ]
    in
    elim (option_cases (kept_fixed o (Some p) (fixed_at (below front s) P))) [
      | inl none ↦ later (rw none at has)
      | inr some ↦
          let rest = with_lists (changes o P (below front s) p) P.fixed in
          let there : HasName (with_member (below front s) (list (as_items some.0)) rest) text = rw some.1 at has in
          elim (bool_cases (bytes_eq text (below front s))) [
            | inr other ↦ later (there.0, rw other at (sym (with_member_at (below front s) (list (as_items some.0)) rest text) ∙ there.1))
            | inl same ↦
                let is = same_name text (below front s) same in
                elim (option_cases (fixed_at (below front s) P)) [
                  | inr fixed ↦ inr (subst (HasName P.fixed) (sym is) (fixed_name P (below front s) fixed.0 fixed.1))
                  | inl free ↦
                      let end = end_only o p some.0 (subst (λ f. kept_fixed o (Some p) f ≡ Some some.0) free some.1) in
                      let whole : below front s ≡ front ++ path_text (s ∷ p) = ap (λ t. front ++ t) (sym (append-nil (step_text s)) ∙ ap (λ q. step_text s ++ path_text q) (sym end.0)) in
                      inl (end.1.0, end.1.1, is ∙ whole)
                ]
          ]
    ]

-- ---- where they differ from the pools

or_false : (a b : Bool) → b ≡ false → (a || b) ≡ a
or_false true b e = refl
or_false false b e = e

not_left : (o : Option FieldPath) → is_some o ≡ false → o ≡ None
not_left None e = refl
not_left (Some x) e = absurd (cc)

whole_text : OneText → (p q : FieldPath) → rest_at [] p (path_text q) ≡ Some [] → q ≡ p
whole_text one p q e =
    let b = beginning [] p (path_text q) [] e in
    one q (b.before ++ b.step ∷ []) b.text_is ∙ b.whole

pub narrowed_differ : OneText → (root : Node) (P : Pools) (o : Option Data) (p : FieldPath) → MayBeWanted root P o p → DifferAlong root P (narrowed P o p) p
narrowed_differ one root P o p may = record {
  beside = λ text off.
      let none = not_left (rest_at [] p text) (sym (among_beginnings [] p text) ∙ off) in (
        asked_more P o p text ∙ or_false (is_present text P) (is_some (rest_at [] p text)) (ap is_some none),
        fixed_kept one P o p text ∙ ap (λ r. kept_fixed o r (fixed_at text P)) none,
      );
  whole = λ q N there.
      subst (λ f. (sort_at N ≡ Leaf) ⊎ (is_some f ≡ is_some (fixed_at (path_text q) P))) (sym (fixed_kept one P o p (path_text q)))
      (keeps o may (rest_at [] p (path_text q)) (fixed_at (path_text q) P) N (λ end. subst (λ x. node_at root (place_of x) ≡ Some N) (whole_text one p q end) there));
} where
  keeps : (o : Option Data) → MayBeWanted root P o p → (r : Option FieldPath) (fixed : Option (List Data)) (N : Node) → (r ≡ Some [] → node_at root (place_of p) ≡ Some N) → (sort_at N ≡ Leaf) ⊎ (is_some (kept_fixed o r fixed) ≡ is_some fixed)
  keeps o may None fixed N at = inr refl
  keeps o may (Some r) (Some ds) N at = inr refl
  keeps None may (Some []) None N at = inr refl
  keeps (Some w) may (Some []) None N at = inl (may.2 N (at refl))
  keeps o may (Some (s ∷ r)) None N at = inr refl

pub differ_back : (root : Node) (P Q : Pools) (p : FieldPath) → DifferAlong root P Q p → DifferAlong root Q P p
differ_back root P Q p h = record {
  beside = λ text off. let s = h.beside text off in (sym s.0, sym s.1);
  whole = λ q N there. elim (h.whole q N there) [ inl leaf ↦ inl leaf | inr both ↦ inr (sym both) ];
}
