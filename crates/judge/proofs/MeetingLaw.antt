-- A value meets a schema exactly where neither it nor a part of it fails what is asked there.
use Rattle.std.proofs.Common.{◌≡◌, ℕ, List, [], ◌∷◌, ◌++◌, Bool, true, false, not, ◌&&◌, ◌||◌, Option, Some, None, option_map, codes, refl, sym, subst, ◌∙◌, append_assoc, inl, inr}
use Rattle.std.specs.Str.{bytes_eq}
use Rattle.std.proofs.lemmas.List.{append-nil}
use Rattle.jtree.specs.Data.{Data, null, boolean, list, object, Items, no_items, item, Members, no_members, member, IsTree, AreTrees, AreMembers, IsNameBefore}
use Rattle.jtree.specs.Path.{member_at}
use Rattle.jtree.specs.Internal.Lookups.{bool_cases, same_name, own_name, before_none}
use Rattle.judge.specs.Keywords.{Texts, Asks, Junctors, meets_all, passes_if_asked, all_tests}
use Rattle.judge.specs.Asked.{asked, asked_if, below, member_schema, item_schema, named, closure, keyword_closure, branch_closure, item_closure}
use Rattle.judge.specs.Faults.{fails, some_fails, is_junctor}
use Rattle.judge.specs.declared.test.Test.{Test}
use Rattle.judge.specs.Meets.{meets, parts, branches, branch_list, under, junctors, passes_all, branches_pass, parts_pass, many_of, meets_if, items_pass, first_there}
use Rattle.judge.specs.Internal.MeetsByName.{member_passes, members_at, parts_at}
use Rattle.judge.specs.Internal.Clean.{Passes, ArePartsClean, AreMembersClean, AreItemsClean, IsClean}
use Rattle.judge.proofs.LookupLemmas.{parts_is, member_tree}

-- ---- truth values

both : (a b : Bool) → a && b ≡ true → (a ≡ true) × (b ≡ true)
both true b e = (refl, e)
both false b e = cc

and_both : (a b : Bool) → a ≡ true → b ≡ true → a && b ≡ true
and_both a b e f = rw (e, f)

neither : (a b : Bool) → a || b ≡ false → (a ≡ false) × (b ≡ false)
neither true b e = cc
neither false b e = (refl, e)

or_neither : (a b : Bool) → a ≡ false → b ≡ false → a || b ≡ false
or_neither a b e f = rw (e, f)

and_false : (a : Bool) → a && false ≡ false
and_false true = refl
and_false false = refl

pub true_of_not : (a : Bool) → not a ≡ false → a ≡ true
true_of_not true e = refl
true_of_not false e = cc

module _ (m : Texts) where
  -- ---- of joined schemas

  some_fails-append : (ss ts : List Data) (u : Test) (v : Data) → some_fails m (ss ++ ts) v u ≡ some_fails m ss v u || some_fails m ts v u
  some_fails-append [] ts u v = refl
  some_fails-append (s ∷ ss) ts u v = elim (bool_cases (fails m s v u)) [ inl e ↦ rw e refl | inr e ↦ rw e (some_fails-append ss ts u v) ]

  passes_parts : (ss ts : List Data) (us : List Test) (v : Data) → Passes m (ss ++ ts) us v → Passes m ss us v × Passes m ts us v
  passes_parts ss ts [] v p = (tt, tt)
  passes_parts ss ts (u ∷ us) v p =
      let here = neither (some_fails m ss v u) (some_fails m ts v u) (sym (some_fails-append ss ts u v) ∙ p.0) in
      let later = passes_parts ss ts us v p.1 in ((here.0, later.0), (here.1, later.1))

  passes_joined : (ss ts : List Data) (us : List Test) (v : Data) → Passes m ss us v → Passes m ts us v → Passes m (ss ++ ts) us v
  passes_joined ss ts [] v p q = tt
  passes_joined ss ts (u ∷ us) v p q =
      (some_fails-append ss ts u v ∙ or_neither (some_fails m ss v u) (some_fails m ts v u) p.0 q.0, passes_joined ss ts us v p.1 q.1)

  below-append : (part : Data → Option Data) (v : Data) (ss ts : List Data) → below part v (ss ++ ts) ≡ below part v ss ++ below part v ts
  below-append part v [] ts = refl
  below-append part v (s ∷ ss) ts = rw (below-append part v ss ts) (sym (append_assoc (asked_if v (part s)) (below part v ss) (below part v ts)))

  mutual
    parts_split : (v : Data) (ss ts : List Data) → ArePartsClean m v (ss ++ ts) → ArePartsClean m v ss × ArePartsClean m v ts
    parts_split (object ms) ss ts h = members_split ms ss ts h
    parts_split (list ds) ss ts h = items_split ds ss ts h
    parts_split _ ss ts h = (tt, tt)

    members_split : (ms : Members) (ss ts : List Data) → AreMembersClean m ms (ss ++ ts) → AreMembersClean m ms ss × AreMembersClean m ms ts
    members_split no_members ss ts h = (tt, tt)
    members_split (member k w ms) ss ts h =
        let own = passes_parts (below (member_schema k) w ss) (below (member_schema k) w ts) all_tests w (subst (λ us. Passes m us all_tests w) (below-append (member_schema k) w ss ts) h.0) in
        let parts = parts_split w (below (member_schema k) w ss) (below (member_schema k) w ts) (subst (ArePartsClean m w) (below-append (member_schema k) w ss ts) h.1) in
        let later = members_split ms ss ts h.2 in
        ((own.0, parts.0, later.0), (own.1, parts.1, later.1))

    items_split : (ds : Items) (ss ts : List Data) → AreItemsClean m ds (ss ++ ts) → AreItemsClean m ds ss × AreItemsClean m ds ts
    items_split no_items ss ts h = (tt, tt)
    items_split (item w ds) ss ts h =
        let own = passes_parts (below item_schema w ss) (below item_schema w ts) all_tests w (subst (λ us. Passes m us all_tests w) (below-append item_schema w ss ts) h.0) in
        let parts = parts_split w (below item_schema w ss) (below item_schema w ts) (subst (ArePartsClean m w) (below-append item_schema w ss ts) h.1) in
        let later = items_split ds ss ts h.2 in
        ((own.0, parts.0, later.0), (own.1, parts.1, later.1))

  mutual
    parts_join : (v : Data) (ss ts : List Data) → ArePartsClean m v ss → ArePartsClean m v ts → ArePartsClean m v (ss ++ ts)
    parts_join (object ms) ss ts g h = members_join ms ss ts g h
    parts_join (list ds) ss ts g h = items_join ds ss ts g h
    parts_join _ ss ts g h = tt

    members_join : (ms : Members) (ss ts : List Data) → AreMembersClean m ms ss → AreMembersClean m ms ts → AreMembersClean m ms (ss ++ ts)
    members_join no_members ss ts g h = tt
    members_join (member k w ms) ss ts g h =
        let same = sym (below-append (member_schema k) w ss ts) in (
          subst (λ us. Passes m us all_tests w) same (passes_joined (below (member_schema k) w ss) (below (member_schema k) w ts) all_tests w g.0 h.0),
          subst (ArePartsClean m w) same (parts_join w (below (member_schema k) w ss) (below (member_schema k) w ts) g.1 h.1),
          members_join ms ss ts g.2 h.2,
        )

    items_join : (ds : Items) (ss ts : List Data) → AreItemsClean m ds ss → AreItemsClean m ds ts → AreItemsClean m ds (ss ++ ts)
    items_join no_items ss ts g h = tt
    items_join (item w ds) ss ts g h =
        let same = sym (below-append item_schema w ss ts) in (
          subst (λ us. Passes m us all_tests w) same (passes_joined (below item_schema w ss) (below item_schema w ts) all_tests w g.0 h.0),
          subst (ArePartsClean m w) same (parts_join w (below item_schema w ss) (below item_schema w ts) g.1 h.1),
          items_join ds ss ts g.2 h.2,
        )

  clean_split : (ss ts : List Data) (v : Data) → IsClean m (ss ++ ts) v → IsClean m ss v × IsClean m ts v
  clean_split ss ts v h =
      let own = passes_parts ss ts all_tests v h.0 in
      let parts = parts_split v ss ts h.1 in
      ((own.0, parts.0), (own.1, parts.1))

  clean_join : (ss ts : List Data) (v : Data) → IsClean m ss v → IsClean m ts v → IsClean m (ss ++ ts) v
  clean_join ss ts v g h = (passes_joined ss ts all_tests v g.0 h.0, parts_join v ss ts g.1 h.1)

  -- ---- of no schemas, and of those that ask nothing

  passes_none : (us : List Test) (v : Data) → Passes m [] us v
  passes_none [] v = tt
  passes_none (u ∷ us) v = (refl, passes_none us v)

  mutual
    parts_none : (v : Data) → ArePartsClean m v []
    parts_none (object ms) = members_none ms
    parts_none (list ds) = items_none ds
    parts_none _ = tt

    members_none : (ms : Members) → AreMembersClean m ms []
    members_none no_members = tt
    members_none (member k w ms) = (passes_none all_tests w, parts_none w, members_none ms)

    items_none : (ds : Items) → AreItemsClean m ds []
    items_none no_items = tt
    items_none (item w ds) = (passes_none all_tests w, parts_none w, items_none ds)

  clean_none : (v : Data) → IsClean m [] v
  clean_none v = (passes_none all_tests v, parts_none v)

  -- a schema that has no schemas for parts
  record HasNoParts (s : Data) : Type 0 where
    no_member : (k : List ℕ) → member_schema k s ≡ None
    no_item : item_schema s ≡ None

  members_idle : (s : Data) → HasNoParts s → (ms : Members) → AreMembersClean m ms (s ∷ [])
  members_idle s h no_members = tt
  members_idle s h (member k w ms) =
      let none : below (member_schema k) w (s ∷ []) ≡ [] = rw (h.no_member k) in
      (subst (λ ss. Passes m ss all_tests w) (sym none) (passes_none all_tests w), subst (ArePartsClean m w) (sym none) (parts_none w), members_idle s h ms)

  items_idle : (s : Data) → HasNoParts s → (ds : Items) → AreItemsClean m ds (s ∷ [])
  items_idle s h no_items = tt
  items_idle s h (item w ds) =
      let none : below item_schema w (s ∷ []) ≡ [] = rw h.no_item in
      (subst (λ ss. Passes m ss all_tests w) (sym none) (passes_none all_tests w), subst (ArePartsClean m w) (sym none) (parts_none w), items_idle s h ds)

  parts_idle : (s : Data) → HasNoParts s → (v : Data) → ArePartsClean m v (s ∷ [])
  parts_idle s h (object ms) = members_idle s h ms
  parts_idle s h (list ds) = items_idle s h ds
  parts_idle s h _ = tt

  passes_idle : (s : Data) (v : Data) → ((u : Test) → fails m s v u ≡ false) → (us : List Test) → Passes m (s ∷ []) us v
  passes_idle s v h [] = tt
  passes_idle s v h (u ∷ us) = (rw (h u), passes_idle s v h us)

  -- ---- of the value itself

  abbrev js : Members → Junctors
  js ks = junctors (parts m ks)

  own_passes : (ks : Members) (v : Data) (us : List Test) → passes_all m ks (js ks) us v ≡ true → Passes m (object ks ∷ []) us v
  own_passes ks v [] e = tt
  own_passes ks v (u ∷ us) e = let p = both (passes_if_asked m ks (js ks) u v) (passes_all m ks (js ks) us v) e in (rw p.0, own_passes ks v us p.1)

  passes_own : (ks : Members) (v : Data) (us : List Test) → Passes m (object ks ∷ []) us v → passes_all m ks (js ks) us v ≡ true
  passes_own ks v [] p = refl
  passes_own ks v (u ∷ us) p =
      let b = passes_if_asked m ks (js ks) u v in
      and_both b (passes_all m ks (js ks) us v) (true_of_not b (neither (not b) false p.0).0) (passes_own ks v us p.1)

  -- ---- what is to be shown of a value: by any schema, and by the schemas of its parts

  record Agrees (s v : Data) (ss : List Data) : Type 0 where
    clean : meets m s v ≡ true → IsClean m ss v
    meet : IsClean m ss v → meets m s v ≡ true

  abbrev Law : Data → Type 0
  Law v = (s : Data) → IsTree s → Agrees s v (asked v s)

  record PartsAgree (ks : Members) (v : Data) : Type 0 where
    clean : parts_at m ks v ≡ true → ArePartsClean m v (object ks ∷ [])
    pass : ArePartsClean m v (object ks ∷ []) → parts_at m ks v ≡ true

  abbrev PartsLaw : Data → Type 0
  PartsLaw v = (ks : Members) → AreMembers ks → PartsAgree ks v

  idle : (v s : Data) → HasNoParts s → ((u : Test) → fails m s v u ≡ false) → meets m s v ≡ true → Agrees s v (s ∷ [])
  idle v s parts fails_none met = record { clean = λ e. (passes_idle s v fails_none all_tests, parts_idle s parts v); meet = λ h. met }

  boolean_law : (v : Data) (b : Bool) → Agrees (boolean b) v (boolean b ∷ [])
  boolean_law v true = idle v (boolean true) (record { no_member = λ k. refl; no_item = refl }) (λ u. and_false (is_junctor u)) refl
  boolean_law v false = record { clean = λ e. cc; meet = λ h. let x : true ≡ false = h.0.1.1.1.1.1.1.1.1.1.1.1.1.1.0 in cc }

  abbrev any_name : List ℕ
  any_name = codes "allOf"

  no_more : (ks : Members) → member_at any_name ks ≡ None → keyword_closure ks ≡ []
  no_more no_members e = refl
  no_more (member k d ks) e = elim (bool_cases (bytes_eq any_name k)) [
    | inl h ↦ let x = rw h at e in cc
    | inr h ↦
        let other : bytes_eq k any_name ≡ false = elim (bool_cases (bytes_eq k any_name)) [
          | inl g ↦ let same = same_name k any_name g in let own : bytes_eq any_name k ≡ true = rw same (own_name any_name) in cc
          | inr g ↦ g
        ] in
        rw other (no_more ks (rw h at e))
  ]

  module _ (v : Data) (own : PartsLaw v) (branch : (ks : Members) → branches_pass (parts m ks) v ≡ meets_all (many_of (under any_name (parts m ks))) v) where
    record AllAgree (tests : List Asks) (ss : List Data) : Type 0 where
      clean : meets_all tests v ≡ true → IsClean m ss v
      meet : IsClean m ss v → meets_all tests v ≡ true

    none_agree : AllAgree [] []
    none_agree = record { clean = λ e. clean_none v; meet = λ h. refl }

    mutual
      schema_law : (s : Data) → IsTree s → Agrees s v (closure s)
      schema_law (object ks) t = record {
        clean = λ e.
            let p = both (passes_all m ks (js ks) all_tests v) (branches_pass (parts m ks) v && parts_pass (parts m ks) v) e in
            let q = both (branches_pass (parts m ks) v) (parts_pass (parts m ks) v) p.1 in
            clean_join (object ks ∷ []) (keyword_closure ks) v (own_passes ks v all_tests p.0, (own ks t).clean (sym (parts_is m ks v) ∙ q.1)) ((keyword_law ks t).clean (sym (branch ks) ∙ q.0));
        meet = λ h.
            let p = clean_split (object ks ∷ []) (keyword_closure ks) v h in
            and_both (passes_all m ks (js ks) all_tests v) (branches_pass (parts m ks) v && parts_pass (parts m ks) v) (passes_own ks v all_tests p.0.0)
            (and_both (branches_pass (parts m ks) v) (parts_pass (parts m ks) v) (branch ks ∙ (keyword_law ks t).meet p.1) (parts_is m ks v ∙ (own ks t).pass p.0.1));
      }
      schema_law (boolean b) t = boolean_law v b
      schema_law s t = idle v s (record { no_member = λ k. refl; no_item = refl }) (λ u. refl) refl

      keyword_law : (ks : Members) → AreMembers ks → AllAgree (many_of (under any_name (parts m ks))) (keyword_closure ks)
      keyword_law no_members t = none_agree
      keyword_law (member k d ks) t = elim (bool_cases (bytes_eq k any_name)) [
        | inl g ↦
            let same = same_name k any_name g in
            let here : bytes_eq any_name k ≡ true = rw same (own_name any_name) in
            let before : IsNameBefore any_name ks = subst (λ n. IsNameBefore n ks) same t.1 in
            let none = no_more ks (before_none any_name ks before t.2) in
            rw (g, here, none, append-nil (branch_closure d)) (branch_law d t.0)
        | inr g ↦
            let other : bytes_eq any_name k ≡ false = elim (bool_cases (bytes_eq any_name k)) [
              | inl h ↦ let same = same_name any_name k h in let own : bytes_eq k any_name ≡ true = rw same (own_name k) in cc
              | inr h ↦ h
            ] in
            rw (g, other) (keyword_law ks t.2)
      ]

      branch_law : (d : Data) → IsTree d → AllAgree (branches m d) (branch_closure d)
      branch_law (list ds) t = item_law ds t
      branch_law _ t = none_agree

      item_law : (ds : Items) → AreTrees ds → AllAgree (branch_list m ds) (item_closure ds)
      item_law no_items t = none_agree
      item_law (item d ds) t = record {
        clean = λ e.
            let p = both (meets m d v) (meets_all (branch_list m ds) v) e in
            clean_join (closure d) (item_closure ds) v ((schema_law d t.0).clean p.0) ((item_law ds t.1).clean p.1);
        meet = λ h.
            let p = clean_split (closure d) (item_closure ds) v h in
            and_both (meets m d v) (meets_all (branch_list m ds) v) ((schema_law d t.0).meet p.0) ((item_law ds t.1).meet p.1);
      }

  -- ---- of any value

  law_of : (v : Data) → PartsLaw v → Law v
  law_of null own (object ks) t = record {
    clean = λ e. let p = both (passes_all m ks (js ks) all_tests null) true e in (own_passes ks null all_tests p.0, tt);
    meet = λ h. and_both (passes_all m ks (js ks) all_tests null) true (passes_own ks null all_tests h.0) refl;
  }
  law_of null own (boolean b) t = boolean_law null b
  law_of null own s t = idle null s (record { no_member = λ k. refl; no_item = refl }) (λ u. refl) refl
  law_of v own s t = schema_law v own (λ ks. refl) s t

  abbrev HoldsTrees : Option Data → Type 0
  HoldsTrees o = (s : Data) → o ≡ Some s → IsTree s

  named_trees : (k : List ℕ) (o : Option Data) → HoldsTrees o → HoldsTrees (named k o)
  named_trees k None h s e = cc
  named_trees k (Some (object ps)) h s e = member_tree k ps (h (object ps) refl) s e
  named_trees k (Some _) h s e = cc

  first_trees : (o p : Option Data) → HoldsTrees o → HoldsTrees p → HoldsTrees (first_there o p)
  first_trees None p g h s e = h s e
  first_trees (Some d) p g h s e = g s e

  member_schema_trees : (ks : Members) → AreMembers ks → (k : List ℕ) → HoldsTrees (member_schema k (object ks))
  member_schema_trees ks t k =
      first_trees (named k (member_at (codes "properties") ks)) (member_at (codes "additionalProperties") ks)
      (named_trees k (member_at (codes "properties") ks) (λ s e. member_tree (codes "properties") ks t s e))
      (λ s e. member_tree (codes "additionalProperties") ks t s e)

  record TestAgrees (o : Option Data) (w : Data) : Type 0 where
    clean : meets_if (option_map (meets m) o) w ≡ true → IsClean m (asked_if w o ++ []) w
    pass : IsClean m (asked_if w o ++ []) w → meets_if (option_map (meets m) o) w ≡ true

  test_agrees : (w : Data) → Law w → (o : Option Data) → HoldsTrees o → TestAgrees o w
  test_agrees w law None h = record { clean = λ e. clean_none w; pass = λ c. refl }
  test_agrees w law (Some s) h =
      let a = law s (h s refl) in
      let same : asked w s ++ [] ≡ asked w s = append-nil (asked w s) in
      record { clean = λ e. subst (λ ss. IsClean m ss w) (sym same) (a.clean e); pass = λ c. a.meet (subst (λ ss. IsClean m ss w) same c) }

  mutual
    parts_law : (v : Data) → PartsLaw v
    parts_law (object ms) ks t = members_law ms ks t
    parts_law (list ds) ks t = items_law ds ks t
    parts_law _ ks t = record { clean = λ e. tt; pass = λ h. refl }

    members_law : (ms : Members) (ks : Members) → AreMembers ks → PartsAgree ks (object ms)
    members_law no_members ks t = record { clean = λ e. tt; pass = λ h. refl }
    members_law (member k w ms) ks t =
        let a = test_agrees w (law_of w (parts_law w)) (member_schema k (object ks)) (member_schema_trees ks t k) in
        let test = member_passes m ks k w in
        let rest = members_at m ks ms in
        record {
          clean = λ e. let p = both test rest e in let c = a.clean p.0 in (c.0, c.1, (members_law ms ks t).clean p.1);
          pass = λ h. and_both test rest (a.pass (h.0, h.1)) ((members_law ms ks t).pass h.2);
        }

    items_law : (ds : Items) (ks : Members) → AreMembers ks → PartsAgree ks (list ds)
    items_law no_items ks t = record { clean = λ e. tt; pass = λ h. refl }
    items_law (item w ds) ks t =
        let a = test_agrees w (law_of w (parts_law w)) (item_schema (object ks)) (λ s e. member_tree (codes "items") ks t s e) in
        let test = meets_if (option_map (meets m) (item_schema (object ks))) w in
        let rest = items_pass (option_map (meets m) (item_schema (object ks))) ds in
        record {
          clean = λ e. let p = both test rest e in let c = a.clean p.0 in (c.0, c.1, (items_law ds ks t).clean p.1);
          pass = λ h. and_both test rest (a.pass (h.0, h.1)) ((items_law ds ks t).pass h.2);
        }

  pub meets_where_clean : (s v : Data) → IsTree s → (meets m s v ≡ true → IsClean m (asked v s) v) × (IsClean m (asked v s) v → meets m s v ≡ true)
  meets_where_clean s v t = let a = law_of v (parts_law v) s t in (a.clean, a.meet)
