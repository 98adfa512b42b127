-- The text of a number in a document, at the path that leads to the number in its value.
use Rattle.std.proofs.Common.{◌≡◌, ◌-◌, ◌≤◌, ℕ, zero, suc, length, get_or, take, drop, List, [], ◌∷◌, false, Option, Some, None, option_map, refl, sym, ap, subst, ◌∙◌, ◌⊎◌, inl, inr, arith}
use Rattle.std.specs.Str.{bytes_eq}
use Rattle.std.proofs.lemmas.List.{take_all}
use Rattle.std.proofs.lemmas.Option.{same_Some, option_and_then_some}
use Rattle.json.specs.Json as document
use Rattle.json.specs.Find as find
use Rattle.serde_json.specs.Data.{Data, null, boolean, number, string, array, object, Items, no_items, item, Members, no_members, put}
use Rattle.serde_json.specs.Find.{get_item, get_member}
use Rattle.serde_json.specs.Read.{of_json, of_items, of_members, number_of}
use Rattle.serde_json.proofs.Views.{get_member-put, get_member-put_other}
use Rattle.jtree.specs.Path.{Step, name, index}
use Rattle.jtree.specs.Refusal.{value_by, value_at}
use Rattle.jtree.specs.Internal.Lookups.{bool_cases, option_cases, same_name, own_name}
use Rattle.jtree.specs.Internal.Steps.{step_of, path_of, part_of}
use Rattle.jtree.specs.declared.other_number.Step.{Step as CodeStep}

-- what was read under a function
read_under : {A B : Type 0} (f : A → B) (o : Option A) (b : B) → option_map f o ≡ Some b → (a : A) × (o ≡ Some a) × (f a ≡ b)
read_under f None b h = cc
read_under f (Some a) b h = (a, refl, same_Some (f a) b h)

-- ---- one step

item_parts : (j : document.Json) (js : document.Items) (ds : Items) → of_items (document.item j js) ≡ Some ds
    → (e : Data) × (es : Items) × (of_json j ≡ Some e) × (of_items js ≡ Some es) × (item e es ≡ ds)
item_parts j js ds h = elim (option_cases (of_json j)) [
  | inl none ↦ let no = rw none at h in cc
  | inr one ↦ let rest = read_under (item one.0) (of_items js) ds (rw one.1 at h) in (one.0, rest.0, one.1, rest.1, rest.2)
]

item_read : (js : document.Items) (ds : Items) (i : ℕ) (d : Data) → of_items js ≡ Some ds → get_item i ds ≡ Some d → (j : document.Json) × (find.get_item i js ≡ Some j) × (of_json j ≡ Some d)
item_read document.no_items ds i d read found = let none = rw (← same_Some no_items ds read) at found in cc
item_read (document.item j js) ds zero d read found = let p = item_parts j js ds read in (j, refl, p.2 ∙ rw (← p.4) at found)
item_read (document.item j js) ds (suc i) d read found = let p = item_parts j js ds read in item_read js p.1 i d p.3 (rw (← p.4) at found)

-- the value of the last member of a name is read, or the one that was there before
member_read : (ms : document.Members) (old new : Members) (k : List ℕ) (d : Data) → of_members ms old ≡ Some new → get_member k new ≡ Some d
    → ((j : document.Json) × (find.get_member k ms ≡ Some j) × (of_json j ≡ Some d)) ⊎ ((find.get_member k ms ≡ None) × (get_member k old ≡ Some d))
member_read document.no_members old new k d read found = inr (refl, rw (same_Some old new read) found)
member_read (document.member l j ms) old new k d read found = elim (option_cases (of_json j)) [
  | inl none ↦ let no = rw none at read in cc
  | inr one ↦ elim (member_read ms (put l one.0 old) new k d (rw one.1 at read) found) [
    | inl later ↦ inl (later.0, rw later.1 refl, later.2)
    | inr before ↦ elim (bool_cases (bytes_eq l k)) [
      | inl same ↦ inl (j, rw (before.0, same) refl, one.1 ∙ (sym (get_member-put l one.0 old) ∙ (ap (λ n. get_member n (put l one.0 old)) (same_name l k same) ∙ before.1)))
      | inr other ↦ inr (rw (before.0, other) refl, sym (get_member-put_other k l one.0 old (λ e. let no = subst (λ n. bytes_eq l n ≡ false) e other in cc (own_name l))) ∙ before.1)
    ]
  ]
]

-- no step leads on from there
stuck : (u v w : Data) (s : Step) → u ≡ v → value_by u s ≡ None → value_by v s ≡ Some w → ⊥
stuck u v w s same none found = let some = rw (← same) at found in cc

part_read : (j : document.Json) (v w : Data) (s : Step) → of_json j ≡ Some v → value_by v s ≡ Some w → (k : document.Json) × (part_of j s ≡ Some k) × (of_json k ≡ Some w)
part_read (document.array js) v w (index i) read found = let r = read_under array (of_items js) v read in item_read js r.0 i w r.1 (rw (← r.2) at found)
part_read (document.object ms) v w (name k) read found =
    let r = read_under object (of_members ms no_members) v read in
    elim (member_read ms no_members r.0 k w r.1 (rw (← r.2) at found)) [ inl there ↦ there | inr none ↦ let no = none.1 in cc ]
part_read (document.array js) v w (name k) read found = let r = read_under array (of_items js) v read in absurd (stuck (array r.0) v w (name k) r.2 refl found)
part_read (document.object ms) v w (index i) read found = let r = read_under object (of_members ms no_members) v read in absurd (stuck (object r.0) v w (index i) r.2 refl found)
part_read (document.number s) v w (name k) read found = let r = read_under number (number_of s) v read in absurd (stuck (number r.0) v w (name k) r.2 refl found)
part_read (document.number s) v w (index i) read found = let r = read_under number (number_of s) v read in absurd (stuck (number r.0) v w (index i) r.2 refl found)
part_read document.null v w (name k) read found = absurd (stuck null v w (name k) (same_Some null v read) refl found)
part_read document.null v w (index i) read found = absurd (stuck null v w (index i) (same_Some null v read) refl found)
part_read (document.boolean b) v w (name k) read found = absurd (stuck (boolean b) v w (name k) (same_Some (boolean b) v read) refl found)
part_read (document.boolean b) v w (index i) read found = absurd (stuck (boolean b) v w (index i) (same_Some (boolean b) v read) refl found)
part_read (document.string s) v w (name k) read found = absurd (stuck (string s) v w (name k) (same_Some (string s) v read) refl found)
part_read (document.string s) v w (index i) read found = absurd (stuck (string s) v w (index i) (same_Some (string s) v read) refl found)

pub below : (j : document.Json) (v u : Data) (path : List CodeStep) (d : CodeStep) → 1 ≤ length path → of_json j ≡ Some v → value_at v (path_of path) ≡ Some u
    → (k : document.Json) × (w : Data) × (part_of j (step_of (get_or path 0 d)) ≡ Some k) × (of_json k ≡ Some w) × (value_at w (path_of (take (length path - 1) (drop 1 path))) ≡ Some u)
below j v u [] d some read found = absurd (omega arith)
below j v u (s ∷ path) d some read found =
    let all : take (length (s ∷ path) - 1) path ≡ path = take_all _ path (omega arith) in
    option_and_then_some (λ w. value_at w (path_of path)) (value_by v (step_of s)) u found
    (λ w at rest. let p = part_read j v w (step_of s) read at in (p.0, w, p.1, p.2, ap (λ q. value_at w (path_of q)) all ∙ rest))
