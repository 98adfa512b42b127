-- Lists of fixed values under their paths: one that is put in, and what is there then.
use Rattle.std.proofs.Common.{◌≡◌, ℕ, suc, List, [], ◌∷◌, ◌++◌, true, Option, Some, None, refl, sym, ap, subst, ◌∙◌, inl, inr, arith, length, take}
use Rattle.std.specs.Prelude.{if◌then◌else◌}
use Rattle.std.specs.Str.{bytes_eq}
use Rattle.std.specs.declared.cmp.Ordering.TheVariants.{Less, Equal, Greater}
use Rattle.std.proofs.lemmas.Cmp.{nat_list_cmp_total, tied_itself}
use Rattle.std.proofs.lemmas.Map.Lookups.{exact_bytes}
use Rattle.jtree.specs.Data.{Data, Members, no_members, member, AreMembers, IsNameBefore}
use Rattle.jtree.specs.View.{data_of}
use Rattle.jtree.specs.Internal.Lookups.{ordering_cases, own_name, before_none, past_name}
use Rattle.jtree.specs.MemberPlace.{changed_at}
use Rattle.jtree.specs.Order.{text_cmp}
use Rattle.jtree.specs.Path.{member_at}
use Rattle.plan.specs.Pools.Along.{with_lists, list_of, lists_of}
use Rattle.std.specs.Prelude.{option_map}
use Rattle.plan.specs.declared.list_at.ListAt.{ListAt}
use Rattle.std.specs.Prelude.{◌-◌}
use Rattle.std.proofs.lemmas.List.{length-append}
use Rattle.explain.specs.Paths.FieldPath.{FieldPath}
use Rattle.plan.specs.Pools.Pools.{Pools, with_paths}
use Rattle.plan.specs.Pools.Along.{beginnings, narrowed, widened}
use Rattle.plan.specs.Samples.Site.{below}

-- ---- and back

list_less : (k : List ℕ) (e : Data) (l : List ℕ) (d : Data) (ms : Members) → text_cmp k l ≡ Less → changed_at k (Some e) (member l d ms) ≡ member k e (member l d ms)
list_less k e l d ms p = rw p refl

none_less : (k l : List ℕ) (d : Data) (ms : Members) → text_cmp k l ≡ Less → changed_at k None (member l d ms) ≡ member l d ms
none_less k l d ms p = rw p refl

list_equal : (k : List ℕ) (e : Data) (l : List ℕ) (d : Data) (ms : Members) → text_cmp k l ≡ Equal → changed_at k (Some e) (member l d ms) ≡ member k e ms
list_equal k e l d ms p = rw p refl

none_equal : (k l : List ℕ) (d : Data) (ms : Members) → text_cmp k l ≡ Equal → changed_at k None (member l d ms) ≡ ms
none_equal k l d ms p = rw p refl

list_greater : (k : List ℕ) (o : Option Data) (l : List ℕ) (d : Data) (ms : Members) → text_cmp k l ≡ Greater → changed_at k o (member l d ms) ≡ member l d (changed_at k o ms)
list_greater k None l d ms p = rw p refl
list_greater k (Some e) l d ms p = rw p refl

-- before all others
list_first : (k : List ℕ) (e : Data) (ms : Members) → IsNameBefore k ms → changed_at k (Some e) ms ≡ member k e ms
list_first k e no_members before = refl
list_first k e (member l d ms) before = list_less k e l d ms before

put_there : (k : List ℕ) (o x : Option Data) (ms : Members) → AreMembers ms → member_at k ms ≡ x → changed_at k x (changed_at k o ms) ≡ ms
put_there k None None no_members sorted is = refl
put_there k (Some e) None no_members sorted is = none_equal k k e no_members (tied_itself nat_list_cmp_total k)
put_there k o (Some y) no_members sorted is = absurd (cc)
put_there k o x (member l d ms) sorted is = elim (ordering_cases (text_cmp k l)) [
  | inl first ↦
      let none : x ≡ None = sym is ∙ before_none k (member l d ms) first sorted in
      subst (λ y. changed_at k y (changed_at k o (member l d ms)) ≡ member l d ms) (sym none) (at_first o first)
  | inr (inl same) ↦
      let name = exact_bytes k l same in
      let own : bytes_eq k l ≡ true = subst (λ n. bytes_eq k n ≡ true) name (own_name k) in
      let here : member_at k (member l d ms) ≡ Some d = rw own refl in
      subst (λ y. changed_at k y (changed_at k o (member l d ms)) ≡ member l d ms) (sym here ∙ is) (at_same o same name (subst (λ n. IsNameBefore n ms) (sym name) sorted.1))
  | inr (inr past) ↦
      let later : member_at k ms ≡ x = subst (λ b. (if b then Some d else member_at k ms) ≡ x) (past_name k l past) is in
      ap (changed_at k x) (list_greater k o l d ms past) ∙ (list_greater k x l d (changed_at k o ms) past ∙ ap (member l d) (put_there k o x ms sorted.2 later))
] where
  at_first : (o : Option Data) → text_cmp k l ≡ Less → changed_at k None (changed_at k o (member l d ms)) ≡ member l d ms
  at_first None first = ap (changed_at k None) (none_less k l d ms first) ∙ none_less k l d ms first
  at_first (Some e) first = ap (changed_at k None) (list_less k e l d ms first) ∙ none_equal k k e (member l d ms) (tied_itself nat_list_cmp_total k)

  at_same : (o : Option Data) → text_cmp k l ≡ Equal → k ≡ l → IsNameBefore k ms → changed_at k (Some d) (changed_at k o (member l d ms)) ≡ member l d ms
  at_same None same name before = ap (changed_at k (Some d)) (none_equal k l d ms same) ∙ (list_first k d ms before ∙ ap (λ n. member n d ms) name)
  at_same (Some e) same name before = ap (changed_at k (Some d)) (list_equal k e l d ms same) ∙ (list_equal k d k e ms (tied_itself nat_list_cmp_total k) ∙ ap (λ n. member n d ms) name)

pub put_back : (k : List ℕ) (o : Option Data) (ms : Members) → AreMembers ms → changed_at k (member_at k ms) (changed_at k o ms) ≡ ms
put_back k o ms sorted = put_there k o (member_at k ms) ms sorted refl

-- ---- one after the other

pub lists_last : (xs : List ListAt) (x : ListAt) (ms : Members) → with_lists (lists_of (xs ++ x ∷ [])) ms ≡ with_lists (lists_of xs) (changed_at x.path (option_map data_of x.list) ms)
lists_last [] x ms = refl
lists_last (y ∷ xs) x ms = ap (changed_at y.path (option_map data_of y.list)) (lists_last xs x ms)

-- one more that is put in, and what was there
pub put_one : (xs olds rest : List ListAt) (x old : ListAt) (before after start : Members) (all : Members) → AreMembers before → xs ≡ rest ++ x ∷ [] → after ≡ changed_at x.path (option_map data_of x.list) before → list_of old ≡ (x.path, member_at x.path before)
    → with_lists (lists_of xs) before ≡ all → with_lists (lists_of olds) before ≡ start → (with_lists (lists_of rest) after ≡ all) × (with_lists (lists_of (olds ++ old ∷ [])) after ≡ start)
put_one xs olds rest x old before after start all sorted split put was whole back = (
  ap (with_lists (lists_of rest)) put ∙ (sym (lists_last rest x before) ∙ (ap (λ ys. with_lists (lists_of ys) before) (sym split) ∙ whole)),
  lists_last olds old after
      ∙ (ap (λ y. with_lists (lists_of olds) (changed_at y.0 y.1 after)) was
      ∙ (ap (λ ms. with_lists (lists_of olds) (changed_at x.path (member_at x.path before) ms)) put
      ∙ (ap (with_lists (lists_of olds)) (put_back x.path (option_map data_of x.list) before sorted) ∙ back))),
)

-- ---- the pools

beginnings_count : (front : List ℕ) (p : FieldPath) → length (beginnings front p) ≡ length p
beginnings_count front [] = refl
beginnings_count front (s ∷ p) = ap suc (beginnings_count (below front s) p)

take_own : {X : Type 0} (xs ys : List X) → take (length xs) (xs ++ ys) ≡ xs
take_own [] ys = refl
take_own (x ∷ xs) ys = ap (λ zs. x ∷ zs) (take_own xs ys)

take_front : {X : Type 0} (xs ys : List X) → take (length (xs ++ ys) - length ys) (xs ++ ys) ≡ xs
take_front xs ys =
    let e : length (xs ++ ys) - length ys ≡ length xs = omega (arith, length-append xs ys) in
    rw e (take_own xs ys)

pub pools_back : (P : Pools) (lists olds : List (List ℕ × Option Data)) (p : FieldPath) → with_lists olds (with_lists lists P.fixed) ≡ P.fixed → widened (narrowed P lists p) olds p ≡ P
pools_back P lists olds p back =
    let asked : take (length (P.present ++ beginnings [] p) - length p) (P.present ++ beginnings [] p) ≡ P.present =
    subst (λ n. take (length (P.present ++ beginnings [] p) - n) (P.present ++ beginnings [] p) ≡ P.present) (beginnings_count [] p) (take_front P.present (beginnings [] p))
    in
    ap (λ ms. with_paths P ms (take (length (P.present ++ beginnings [] p) - length p) (P.present ++ beginnings [] p))) back ∙ ap (λ ps. with_paths P P.fixed ps) asked
