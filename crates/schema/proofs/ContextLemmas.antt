-- What is known of a place, one step on.
use Rattle.std.proofs.Common.{◌≡◌, ◌⊎◌, ◌↔◌, ℕ, zero, suc, List, [], ◌∷◌, ◌++◌, drop, Bool, true, false, Option, Some, None, refl, sym, ap, ◌∙◌, subst, inl, inr, append_assoc, arith}
use Rattle.std.specs.Prelude.{IsTrue, ◌||◌, ◌&&◌, nat_eq, codes, option_map, option_and_then}
use Rattle.std.proofs.lemmas.List.{append-nil}
use Rattle.std.proofs.lemmas.List.Elements.{filter-append}
use Rattle.std.proofs.lemmas.Option.{same_Some}
use Rattle.std.proofs.lemmas.Bool.Decides.{nat_tests}
use Rattle.jtree.specs.Data.{Data, object, list, Items, Members, AreMembers}
use Rattle.jtree.specs.Path.{name, index, under, member_at, item_at, part_at}
use Rattle.jtree.specs.Internal.Lookups.{member_first, member_tail}
use Rattle.jtree.specs.View.{data_of, items_of, members_of}
use Rattle.jtree.specs.declared.value.Tree.{Tree}
use Rattle.jtree.specs.declared.value.Member.{Member}
use Rattle.schema.specs.Document.Places.{Step, property, map_value, items, all_of, any_of, Place, schema_by, schema_at, is_junctor, is_inside, core}
use Rattle.schema.specs.Internal.Events.{Junctor, all, any, one, branch, Part, a_schema, properties, branches, part_of}
use Rattle.schema.specs.Rules.Broken.{At, IsPatternBranch, of_any, of_all, HasAnyPattern, HasAllPattern}
use Rattle.schema.specs.Internal.Contexts.{is_any, is_first_of_all, outer_by, IsContext, HasPart}
use Rattle.schema.specs.Internal.PlaceView.{place_of}
use Rattle.schema.specs.Internal.Subschemas.{IsSubschema}
use Rattle.schema.specs.declared.context.Context.{Context}
use Rattle.schema.specs.declared.listing.Subschema.{Subschema}
use Rattle.schema.proofs.EventParts.{PartIs, is_map_value, is_items, is_negation, is_none, part_is, part_join}

-- ---- schemas one step on

itself : (o : Option Data) → option_and_then (λ t. Some t) o ≡ o
itself None = refl
itself (Some t) = refl

pub schema_at-more : (raw : Data) (p : Place) (s : Step) → schema_at raw (p ++ (s ∷ [])) ≡ option_and_then (λ t. schema_by t s) (schema_at raw p)
schema_at-more raw [] s = itself (schema_by raw s)
schema_at-more raw (r ∷ p) s =
    elim (schema_by raw r) as (λ o. option_and_then (λ t. schema_at t (p ++ (s ∷ []))) o ≡ option_and_then (λ t. schema_by t s) (option_and_then (λ t. schema_at t p) o)) [
      | None ↦ refl
      | Some t ↦ schema_at-more t p s
    ]

pub schema_more : (raw s t : Data) (p : Place) (step : Step) → schema_at raw p ≡ Some s → schema_by s step ≡ Some t → schema_at raw (p ++ (step ∷ [])) ≡ Some t
schema_more raw s t p step is by = schema_at-more raw p step ∙ (ap (option_and_then (λ x. schema_by x step)) is ∙ by)

branch_core : (raw : Data) (p : Place) (s : Step) → core (s ∷ []) ≡ [] → schema_at raw (core p) ≡ schema_at raw (core (p ++ (s ∷ [])))
branch_core raw p s h = ap (schema_at raw) (sym (filter-append _ p (s ∷ []) ∙ (ap (λ q. core p ++ q) h ∙ append-nil (core p))))

plain_core : (raw : Data) (p : Place) (s : Step) → core (s ∷ []) ≡ s ∷ [] → option_and_then (λ t. schema_by t s) (schema_at raw (core p)) ≡ schema_at raw (core (p ++ (s ∷ [])))
plain_core raw p s h = sym (ap (schema_at raw) (filter-append _ p (s ∷ []) ∙ ap (λ q. core p ++ q) h) ∙ schema_at-more raw (core p) s)

pub outer_more : (raw : Data) (p : Place) (s : Step) → outer_by (schema_at raw (core p)) s ≡ schema_at raw (core (p ++ (s ∷ [])))
outer_more raw p (property k) = plain_core raw p (property k) refl
outer_more raw p map_value = plain_core raw p map_value refl
outer_more raw p items = plain_core raw p items refl
outer_more raw p step = branch_core raw p step refl

pub inside_more : (p : Place) (s : Step) → is_inside (p ++ (s ∷ [])) ≡ (is_inside p || is_junctor s)
inside_more [] s = elim (is_junctor s) as (λ b. (b || false) ≡ b) [ true ↦ refl | false ↦ refl ]
inside_more (r ∷ p) s =
    elim (is_junctor r) as (λ b. (b || is_inside (p ++ (s ∷ []))) ≡ ((b || is_inside p) || is_junctor s)) [ true ↦ refl | false ↦ inside_more p s ]

-- ---- last steps

not_empty : (p : Place) (s : Step) → [] ≡ p ++ (s ∷ []) → ⊥
not_empty [] s h = cc
not_empty (r ∷ p) s h = cc

same_ends : (p q : Place) (s t : Step) → p ++ (s ∷ []) ≡ q ++ (t ∷ []) → (p ≡ q) × (s ≡ t)
same_ends [] [] s t h = (refl, let e : s ≡ t = cc in e)
same_ends [] (r ∷ q) s t h = absurd (not_empty q t (let e : [] ≡ q ++ (t ∷ []) = cc in e))
same_ends (r ∷ p) [] s t h = absurd (not_empty p s (let e : [] ≡ p ++ (s ∷ []) = cc in e))
same_ends (r ∷ p) (u ∷ q) s t h =
    let rest : p ++ (s ∷ []) ≡ q ++ (t ∷ []) = cc in
    let first : r ≡ u = cc in
    let ends = same_ends p q s t rest in
    (let here = ends.0 in let e : r ∷ p ≡ u ∷ q = cc in e, ends.1)

-- ---- branches of the pattern

-- the entries of the `anyOf` of a place are such branches: by its own schema, or as the first entry of an `allOf`
abbrev AnyHere : Data → Place → Type 0
AnyHere raw p = (is_inside p ≡ false) × At raw p HasAnyPattern

abbrev AllHere : Data → Place → Type 0
AllHere raw p = (is_inside p ≡ false) × At raw p HasAllPattern

record IsHolder (raw : Data) (p : Place) : Type 0 where
  above : Place
  is : p ≡ above ++ (all_of 0 ∷ [])
  here : AllHere raw above

record IsLast (raw : Data) (q : Place) : Type 0 where
  above : Place
  position : ℕ
  is : q ≡ above ++ (any_of position ∷ [])
  from : AnyHere raw above ⊎ IsHolder raw above

two_steps : (p : Place) (s t : Step) → (p ++ (s ∷ [])) ++ (t ∷ []) ≡ p ++ (s ∷ t ∷ [])
two_steps p s t = append_assoc p (s ∷ []) (t ∷ [])

last_of : (raw : Data) (q : Place) → IsPatternBranch raw q → IsLast raw q
last_of raw q (of_any r p i out at) = record { above = p; position = i; is = refl; from = inl (out, at) }
last_of raw q (of_all r p i out at) = record {
  above = p ++ (all_of 0 ∷ []);
  position = i;
  is = sym (two_steps p (all_of 0) (any_of i));
  from = inr (record { above = p; is = refl; here = (out, at) });
}

-- the last step is into an `anyOf`
last_step : (raw : Data) (p : Place) (s : Step) → IsPatternBranch raw (p ++ (s ∷ [])) → ((i : ℕ) × (s ≡ any_of i)) × (AnyHere raw p ⊎ IsHolder raw p)
last_step raw p s h =
    let l : IsLast raw (p ++ (s ∷ [])) = last_of raw (p ++ (s ∷ [])) h in
    let ends = same_ends p l.above s (any_of l.position) l.is in
    ((l.position, ends.1), subst (λ q. AnyHere raw q ⊎ IsHolder raw q) (sym ends.0) l.from)

root_last : (raw : Data) → IsPatternBranch raw [] → ⊥
root_last raw h = let l : IsLast raw [] = last_of raw [] h in not_empty l.above (any_of l.position) l.is

all_branch : (raw : Data) (p : Place) (i : ℕ) → AllHere raw p → IsPatternBranch raw (p ++ (all_of 0 ∷ any_of i ∷ []))
all_branch raw p i h = of_all raw p i h.0 h.1

or_false : (b : Bool) → (b || true) ≡ false → ⊥
or_false true h = cc
or_false false h = cc

branch_all : (raw : Data) (p : Place) (i : ℕ) → IsPatternBranch raw (p ++ (all_of 0 ∷ any_of i ∷ [])) → AllHere raw p
branch_all raw p i h =
    let last = last_step raw (p ++ (all_of 0 ∷ [])) (any_of i) (subst (IsPatternBranch raw) (sym (two_steps p (all_of 0) (any_of i))) h) in
    elim last.1 [
      | inl here ↦ let inside = inside_more p (all_of 0) in absurd (or_false (is_inside p) (sym inside ∙ here.0))
      | inr held ↦ subst (AllHere raw) (sym (same_ends p held.above (all_of 0) (all_of 0) held.is).0) held.here
    ]

-- ---- what is known one step on

-- what holds at a place holds of its schema
here_of : (raw s : Data) (p : Place) (H : Data → Type 0) → schema_at raw p ≡ Some s → At raw p H → H s
here_of raw s p H is at = subst H (same_Some at.0 s (sym at.1 ∙ is)) at.2

pub both_true : (a b : Bool) → (a && b) ≡ true → (a ≡ true) × (b ≡ true)
both_true true b h = (refl, h)
both_true false b h = cc

pub and_true : (a b : Bool) → a ≡ true → b ≡ true → (a && b) ≡ true
and_true true b h i = i
and_true false b h i = cc

pub record IsOneOn (c : Context) (step : Step) (ms : Members) (e : Context) : Type 0 where
  pub outer : option_map (λ m. object m.now) e.outer ≡ outer_by (option_map (λ m. object m.now) c.outer) step
  pub inside : e.is_inside ≡ (c.is_inside || is_junctor step)
  pub pattern : e.in_pattern ≡ (is_any step && c.any_are)
  pub any : IsTrue e.any_are ↔ (((is_first_of_all step ≡ true) × IsTrue c.all_are) ⊎ ((e.is_inside ≡ false) × HasAnyPattern (object ms)))
  pub all : IsTrue e.all_are ↔ ((e.is_inside ≡ false) × HasAllPattern (object ms))

in_pattern_more : (raw s : Data) (p : Place) (step : Step) (c : Context) → IsContext raw p s c → IsTrue (is_any step && c.any_are) ↔ IsPatternBranch raw (p ++ (step ∷ []))
in_pattern_more raw s p (any_of i) c h = h.any_is i
in_pattern_more raw s p step c h = (λ t. cc, λ b. let last = last_step raw p step b in let e = last.0.1 in cc)

no_index : (i : ℕ) → nat_eq i 0 ≡ true → i ≡ 0
no_index i h = grind (arith, nat_tests)

first_of_all : (s : Step) → is_first_of_all s ≡ true → s ≡ all_of 0
first_of_all (all_of i) h = ap all_of (no_index i h)
first_of_all _ h = cc

is_there : (raw : Data) (p : Place) (s : Data) (c : Context) (step : Step) (ms : Members) (e : Context) → IsContext raw p s c → IsOneOn c step ms e → e.is_inside ≡ is_inside (p ++ (step ∷ []))
is_there raw p s c step ms e h o = o.inside ∙ (ap (λ b. b || is_junctor step) h.inside_is ∙ sym (inside_more p step))

pub context_more : (raw s : Data) (p : Place) (step : Step) (ms : Members) (c e : Context) → IsContext raw p s c → schema_by s step ≡ Some (object ms) → IsOneOn c step ms e
    → IsContext raw (p ++ (step ∷ [])) (object ms) e
context_more raw s p step ms c e h by o =
    let q = p ++ (step ∷ []) in
    let is : schema_at raw q ≡ Some (object ms) = schema_more raw s (object ms) p step h.is by in
    let inside : e.is_inside ≡ is_inside q = is_there raw p s c step ms e h o in
    record {
      is = is;
      outer_is = o.outer ∙ (ap (λ x. outer_by x step) h.outer_is ∙ outer_more raw p step);
      inside_is = inside;
      pattern_is = (
        λ t. (in_pattern_more raw s p step c h).0 (subst IsTrue o.pattern t),
        λ b. subst IsTrue (sym o.pattern) ((in_pattern_more raw s p step c h).1 b),
      );
      any_is = λ i. (
        λ t. elim (o.any.0 t) [
          | inl held ↦ subst (λ x. IsPatternBranch raw ((p ++ (x ∷ [])) ++ (any_of i ∷ []))) (sym (first_of_all step held.0))
              (subst (IsPatternBranch raw) (sym (two_steps p (all_of 0) (any_of i))) ((h.all_is i).0 held.1))
          | inr here ↦ of_any raw q i (sym inside ∙ here.0) (object ms, is, here.1)
        ],
        λ b. elim (last_step raw q (any_of i) b).1 [
          | inl here ↦ o.any.1 (inr (inside ∙ here.0, here_of raw (object ms) q HasAnyPattern is here.1))
          | inr held ↦
              let ends = same_ends p held.above step (all_of 0) held.is in
              o.any.1 (inl (ap is_first_of_all ends.1, (h.all_is i).1 (subst (λ x. IsPatternBranch raw (x ++ (all_of 0 ∷ any_of i ∷ []))) (sym ends.0) (all_branch raw held.above i held.here))))
        ],
      );
      all_is = λ i. (
        λ t. let here = o.all.0 t in all_branch raw q i (sym inside ∙ here.0, (object ms, is, here.1)),
        λ b. let here = branch_all raw q i b in o.all.1 (inside ∙ here.0, here_of raw (object ms) q HasAllPattern is here.1),
      );
    }

-- ---- what is known of a whole schema

pub record IsRoot (ms : Members) (e : Context) : Type 0 where
  pub outer : option_map (λ m. object m.now) e.outer ≡ Some (object ms)
  pub inside : e.is_inside ≡ false
  pub pattern : e.in_pattern ≡ false
  pub any : IsTrue e.any_are ↔ HasAnyPattern (object ms)
  pub all : IsTrue e.all_are ↔ HasAllPattern (object ms)

pub context_root : (ms : Members) (e : Context) → IsRoot ms e → IsContext (object ms) [] (object ms) e
context_root ms e o = record {
  is = refl;
  outer_is = o.outer;
  inside_is = o.inside;
  pattern_is = (λ t. let f = subst IsTrue o.pattern t in cc, λ b. absurd (root_last (object ms) b));
  any_is = λ i. (
    λ t. of_any (object ms) [] i refl (object ms, refl, o.any.0 t),
    λ b. elim (last_step (object ms) [] (any_of i) b).1 [
      | inl here ↦ o.any.1 (here_of (object ms) (object ms) [] HasAnyPattern refl here.1)
      | inr held ↦ absurd (not_empty held.above (all_of 0) held.is)
    ],
  );
  all_is = λ i. (
    λ t. all_branch (object ms) [] i (refl, (object ms, refl, o.all.0 t)),
    λ b. let here = branch_all (object ms) [] i b in o.all.1 (here_of (object ms) (object ms) [] HasAllPattern refl here.1),
  );
}

pub context_subschema : (raw : Data) (p : Place) (c : Context) (v : Subschema) → place_of v.place.items ≡ p → v.outer ≡ c.outer → v.in_pattern ≡ c.in_pattern
    → IsContext raw p (object v.schema.now) c → IsSubschema raw v
context_subschema raw p c v same outer in_pattern h = record {
  is = ap (schema_at raw) same ∙ h.is;
  outer_is = ap (option_map (λ m. object m.now)) outer ∙ (h.outer_is ∙ ap (λ q. schema_at raw (core q)) (sym same));
  pattern_is = (
    λ t. subst (IsPatternBranch raw) (sym same) (h.pattern_is.0 (subst IsTrue in_pattern t)),
    λ b. subst IsTrue (sym in_pattern) (h.pattern_is.1 (subst (IsPatternBranch raw) same b)),
  );
}

-- ---- the values of parts

one_on : (d : Data) (k : List ℕ) (e : Data) → under d k ≡ Some e → part_at d (name k ∷ []) ≡ Some e
one_on d k e h = part_join d (name k) [] e e h refl

keyword_part : (ms : Members) (k : List ℕ) (part : Part) (d : Data) → PartIs k part → member_at k ms ≡ Some d → HasPart (object ms) part d
keyword_part ms k part d is_map_value h = one_on (object ms) k d h
keyword_part ms k part d is_items h = one_on (object ms) k d h
keyword_part ms k part d is_negation h = one_on (object ms) k d h
keyword_part ms k part d (is_none l) h = tt
keyword_part ms k part d _ h = h

-- the value of a keyword
pub part_at_keyword : (ms : Members) (k : List ℕ) (d : Data) → member_at k ms ≡ Some d → HasPart (object ms) (part_of k) d
part_at_keyword ms k d h = keyword_part ms k (part_of k) d (part_is k) h

-- the value of a name under `properties`
pub property_part : (s : Data) (ps : Members) (k : List ℕ) (d : Data) → HasPart s properties (object ps) → member_at k ps ≡ Some d → HasPart s (a_schema (property k)) d
property_part s ps k d found h = part_join s (name (codes "properties")) (name k ∷ []) d (object ps) found (one_on (object ps) k d h)

-- an entry of a junctor
pub branch_part : (s : Data) (j : Junctor) (ds : Items) (i : ℕ) (d : Data) → HasPart s (branches j) (list ds) → item_at i ds ≡ Some d → HasPart s (a_schema (branch j i)) d
branch_part s all ds i d found h = part_join s (name (codes "allOf")) (index i ∷ []) d (list ds) found (part_join (list ds) (index i) [] d d h refl)
branch_part s any ds i d found h = part_join s (name (codes "anyOf")) (index i ∷ []) d (list ds) found (part_join (list ds) (index i) [] d d h refl)
branch_part s one ds i d found h = part_join s (name (codes "oneOf")) (index i ∷ []) d (list ds) found (part_join (list ds) (index i) [] d d h refl)

-- ---- the members and items of the code

pub member_found : (xs ys : List Member) (i : ℕ) (m : Member) → AreMembers (members_of xs) → drop i xs ≡ m ∷ ys → member_at m.name (members_of xs) ≡ Some (data_of m.tree)
member_found [] ys zero m o h = cc
member_found [] ys (suc i) m o h = cc
member_found (x ∷ xs) ys zero m o h =
    let same : x ≡ m = cc in
    subst (λ (n : Member). member_at n.name (members_of (x ∷ xs)) ≡ Some (data_of n.tree)) same (member_first x.name (data_of x.tree) (members_of xs))
member_found (x ∷ xs) ys (suc i) m o h = member_tail x.name (data_of x.tree) (members_of xs) m.name (data_of m.tree) o (member_found xs ys i m o.2 h)

pub item_found : (xs ys : List Tree) (i : ℕ) (t : Tree) → drop i xs ≡ t ∷ ys → item_at i (items_of xs) ≡ Some (data_of t)
item_found [] ys zero t h = cc
item_found [] ys (suc i) t h = cc
item_found (x ∷ xs) ys zero t h = let same : x ≡ t = cc in ap (λ y. Some (data_of y)) same
item_found (x ∷ xs) ys (suc i) t h = item_found xs ys i t h
