use Rattle.std.proofs.Common.{◌≡◌, ◌<◌, ◌≤◌, ℕ, List, [], ◌∷◌, Bool, true, false, Option, Some, None, refl, sym, ap, subst, ◌∙◌, inl, inr, arith, length}
use Rattle.std.specs.Prelude.{is_some, option_map}
use Rattle.std.proofs.lemmas.Result.{IfOk-weaker}
use Rattle.jtree.specs.View.{data_of}
use Rattle.schema.specs.Nodes.View.{node_of, validations_of}
use Rattle.explain.specs.Paths.FieldPath as step
use Rattle.plan.specs.Pools.PathSteps.{path_of}
use Rattle.plan.specs.Pools.Pools.{fixed_at}
use Rattle.plan.specs.Internal.Values.{trees_of}
use Rattle.plan.specs.Internal.Renewed.{IsRenewed, IsRowRemade, AreEndsOf}
use Rattle.std.proofs.Common.{◌⊎◌, Bor}
use Rattle.std.proofs.lemmas.Bool.{cases_lt}
use Rattle.jtree.specs.Data.{Data}
use Rattle.jtree.specs.declared.value.Tree.{Tree}
use Rattle.plan.specs.declared.path_step.PathStep.{PathStep}
use Rattle.plan.specs.Samples.Candidates.{sort_at}
use Rattle.plan.specs.declared.sort.Sort.TheVariants.{Leaf}
use Rattle.plan.proofs.StepLemmas.{leaf_renewed, end_renewed, object_renewed, map_renewed, list_renewed, item_never, first_never, slot_never, past_never}
use Rattle.plan.proofs.renewing.+renew.Goals.{renew-then-is_some-via-then-is_some, renew-then-is_some-via-else-is_some+then-is_leaf}
use Rattle.plan.proofs.renewing.+renew.Goals as goal

fixed_data : (o : Option (Bor (List Tree))) (f : Option (List Data)) → option_map (λ ts. trees_of ts.now) o ≡ f → is_some f ≡ is_some o
fixed_data None f e = ap is_some (sym e)
fixed_data (Some ts) f e = ap is_some (sym e)

is_none : {X : Type 0} (o : Option X) → false ≡ is_some o → o ≡ None
is_none None e = refl
is_none (Some x) e = absurd (cc)

no_steps : (ss : List PathStep) → length ss < 1 → path_of ss ≡ []
no_steps [] l = refl
no_steps (s ∷ ss) l = absurd (omega arith)

pub renew-returns-then-is_some-clause-renewed : goal.renew-returns-then-is_some-clause-renewed
renew-returns-then-is_some-clause-renewed g t c =
    let a = c.args.arena.now in
    let q = c.args.place.now in
    let o = c.fixed_at-list.result in
    let fixed = c.fixed_at-list.ensures in
    let N = node_of q.node.now in
    leaf_renewed c.paths_have_one_text.ensures g.Z.SizeSet.holds a.limit c.args.pools.now a.values q.path.now N q.number (path_of c.args.steps.now) a.entries.items c.put.new.self.entries.items c.in_ok-entry.entry c.put.ensures.entries
    (elim c.then-is_some.branch as (λ _. (is_some (fixed_at q.path.now c.args.pools.now) ≡ true) ⊎ (sort_at N ≡ Leaf)) [
      | renew-then-is_some-via-then-is_some w ↦ inl (fixed_data o (fixed_at q.path.now c.args.pools.now) fixed ∙ (sym c.is_some.ensures ∙ w.if-is_some.true))
      | renew-then-is_some-via-else-is_some+then-is_leaf w ↦ inr (w.is_leaf.ensures.leaf w.if-is_leaf.true)
    ])
    (λ sites i keys values here. c.in_ok-entry.ensures sites i keys values (here ∙ ap (λ f. record { node = N; keys = keys; path = q.path.now; fixed = f }) (sym fixed)) (sym c.in_ok-nullable.ensures))

pub renew-returns-in_default-clause-renewed : goal.renew-returns-in_default-clause-renewed
renew-returns-in_default-clause-renewed g t c =
    let a = c.args.arena.now in
    let q = c.args.place.now in
    let none = is_none c.fixed_at-list.result (sym c.if-is_some.false ∙ c.is_some.ensures) in
    let free : fixed_at q.path.now c.args.pools.now ≡ None = sym c.fixed_at-list.ensures ∙ ap (option_map (λ ts. trees_of ts.now)) none in
    subst (λ p. IsRenewed g.Z.SizeSet.holds a.limit c.args.pools.now a.values q.path.now (node_of q.node.now) q.number p a.entries.items a.entries.items) (sym (no_steps c.args.steps.now c.in_default.len_below))
    (end_renewed c.paths_have_one_text.ensures g.Z.SizeSet.holds a.limit c.args.pools.now a.values q.path.now (node_of q.node.now) q.number a.entries.items free (c.is_leaf.ensures.other c.if-is_leaf.false))

pub renew_list-returns-in_default-item_node-clause-renewed : goal.renew_list-returns-in_default-item_node-clause-renewed
renew_list-returns-in_default-item_node-clause-renewed g t c =
    let a = c.args.arena.now in
    let q = c.args.place.now in
    let l = c.in-List.list in
    let n = q.node.now in
    rw c.in-List.is
    (item_never c.paths_have_one_text.ensures g.Z.SizeSet.holds a.limit c.args.pools.now a.values q.path.now q.number n.nullable n.description l.item l.list_type l.keys.items l.bounds (step.item ∷ path_of c.args.rest.now) a.entries.items c.requires.free
    (λ inside e. rw c.in_default-item_node.is at (c.item_node.ensures inside e)))

pub renew_list-returns-then-not-has-clause-renewed : goal.renew_list-returns-then-not-has-clause-renewed
renew_list-returns-then-not-has-clause-renewed g t c =
    let a = c.args.arena.now in
    let q = c.args.place.now in
    let l = c.in-List.list in
    let n = q.node.now in
    let mid = c.renew.new.arena.entries.items in
    rw c.in-List.is
    (past_never c.paths_have_one_text.ensures g.Z.SizeSet.holds a.limit c.args.pools.now a.values q.path.now q.number n.nullable n.description l.item l.list_type l.keys.items l.bounds (step.item ∷ path_of c.args.rest.now) c.in-Some.number a.entries.items mid c.requires.free
    c.in_ok-renew.ensures.renewed.count (λ inside e. rw c.in-Some.is at (c.item_node.ensures inside e))
    (elim (cases_lt c.in-Some.number (length mid)) as (λ _. length mid ≤ c.in-Some.number) [ inl less ↦ absurd (let there = c.has.ensures.1 less in let not_there = c.if-not-has.true in cc) | inr past ↦ past ]))

pub renew_list-returns-clause-renewed : goal.renew_list-returns-clause-renewed
renew_list-returns-clause-renewed g t c =
    let a = c.args.arena.now in
    let q = c.args.place.now in
    let l = c.in-List.list in
    let n = q.node.now in
    let mid = c.renew.new.arena.entries.items in
    let under = rw (c.node_below.ensures, c.deref.ensures, c.in_ok-path.ensures) at c.in_ok-renew.ensures.renewed in
    let right = rw (c.in_ok-renew.ensures.kept.0, c.in_ok-renew.ensures.kept.1) at c.in_ok-entry.ensures in
    rw c.in-List.is
    (list_renewed c.paths_have_one_text.ensures g.Z.SizeSet.holds a.limit c.args.pools.now a.values q.number q.path.now n.nullable n.description l.item l.list_type l.keys.items l.bounds (path_of c.args.rest.now) c.in-Some.number c.raised-bounds.result c.in_ok-nullable.nullable a.entries.items mid c.put.new.self.entries.items c.in_ok-entry.entry c.requires.free
    (λ inside e. rw c.in-Some.is at (c.item_node.ensures inside e)) (rw (c.raised-bounds.ensures, c.is_present.ensures, c.deref-2.ensures, c.in_ok-path.ensures) refl) (rw c.in-List.is at c.in_ok-nullable.ensures) under c.put.ensures.entries
    (right c.args.pools.now))

pub renew_map-returns-in_default-before-clause-renewed : goal.renew_map-returns-in_default-before-clause-renewed
renew_map-returns-in_default-before-clause-renewed g t c =
    let a = c.args.arena.now in
    let q = c.args.place.now in
    let m = c.in-Map.map in
    let n = q.node.now in
    rw c.in-Map.is
    (first_never c.paths_have_one_text.ensures g.Z.SizeSet.holds a.limit c.args.pools.now a.values q.path.now q.number n.nullable n.description m.value m.map_type m.bounds (step.value ∷ path_of c.args.rest.now) a.entries.items c.requires.free c.in_default-before.ensures.none)

pub renew_map-returns-clause-renewed : goal.renew_map-returns-clause-renewed
renew_map-returns-clause-renewed g t c =
    let a = c.args.arena.now in
    let q = c.args.place.now in
    let m = c.in-Map.map in
    let n = q.node.now in
    let holds = g.Z.SizeSet.holds in
    let mid = c.renew.new.arena.entries.items in
    let new = c.remake_row.new.arena.entries.items in
    let under = rw (c.node_below.ensures, c.deref.ensures, c.in_ok-path.ensures) at c.in_ok-renew.ensures.renewed in
    rw c.in-Map.is
    (IfOk-weaker c.remake_row.result (λ _. IsRowRemade holds a.limit a.values q.number c.raised.result [] (true ∷ []) 0 false c.in_ok-nullable.nullable mid new) _
    (λ u made. map_renewed c.paths_have_one_text.ensures holds a.limit c.args.pools.now a.values q.number q.path.now n.nullable n.description m.value m.map_type m.bounds (path_of c.args.rest.now) c.in-Some.number c.raised.result c.in_ok-nullable.nullable a.entries.items mid new c.requires.free
    c.in-Some.ensures.some (rw (c.raised.ensures, c.is_present.ensures, c.deref-2.ensures, c.in_ok-path.ensures) refl) (rw c.in-Map.is at c.in_ok-nullable.ensures) under made)
    (rw (c.in_ok-renew.ensures.kept.0, c.in_ok-renew.ensures.kept.1) at c.remake_row.ensures.remade))

pub renew_object-returns-in_default-slot_node-clause-renewed : goal.renew_object-returns-in_default-slot_node-clause-renewed
renew_object-returns-in_default-slot_node-clause-renewed g t c =
    let a = c.args.arena.now in
    let q = c.args.place.now in
    let o = c.in-Object.object in
    let n = q.node.now in
    let r = c.in-Some.field-0 in
    let f = r.field.now in
    rw c.in-Object.is
    (slot_never c.paths_have_one_text.ensures g.Z.SizeSet.holds a.limit c.args.pools.now a.values q.path.now q.number r.at n.nullable n.description o.fields o.preserves o.map_type o.bounds (validations_of o.junctors) c.args.name.now (node_of f.node) f.required (option_map data_of f.default)
    (step.field c.args.name.now ∷ path_of c.args.rest.now) a.entries.items c.requires.free c.in-Some.ensures.some (λ inside e. rw c.in_default-slot_node.is at (c.slot_node.ensures inside e)))

pub renew_object-returns-clause-renewed : goal.renew_object-returns-clause-renewed
renew_object-returns-clause-renewed g t c =
    let a = c.args.arena.now in
    let q = c.args.place.now in
    let o = c.in-Object.object in
    let n = q.node.now in
    let r = c.in-Some.field-0 in
    let f = r.field.now in
    let holds = g.Z.SizeSet.holds in
    let mid = c.renew.new.arena.entries.items in
    let new = c.remake_object.new.arena.entries.items in
    let number = c.in-Some-slot_node.number in
    let k = c.args.name.now in
    let cs = validations_of o.junctors in
    let must = c.has_to_be-must.result in
    let under = rw (c.deref.ensures, c.in_ok-path.ensures, c.as_str.ensures) at c.in_ok-renew.ensures.renewed in
    let made = rw (c.in_ok-renew.ensures.kept.0, c.in_ok-renew.ensures.kept.1) at c.remake_object.ensures.remade in
    rw c.in-Object.is
    (IfOk-weaker c.remake_object.result (λ _. (names : List (List ℕ)) × (ends : List Bool) × AreEndsOf cs names ends × IsRowRemade holds a.limit a.values q.number o.bounds names ends r.at must c.in_ok-nullable.nullable mid new) _
    (λ u x. object_renewed c.paths_have_one_text.ensures holds a.limit c.args.pools.now a.values q.number q.path.now n.nullable n.description o.fields o.preserves o.map_type o.bounds cs (path_of c.args.rest.now) k (node_of f.node) f.required (option_map data_of f.default) r.at number must c.in_ok-nullable.nullable
    x.0 x.1 a.entries.items mid new c.requires.free c.in-Some.ensures.some (λ inside e. rw c.in-Some-slot_node.is at (c.slot_node.ensures inside e)) (c.has_to_be-must.ensures ∙ rw (c.deref-2.ensures, c.in_ok-path.ensures, c.as_str.ensures) refl) (rw c.in-Object.is at c.in_ok-nullable.ensures) x.2 under x.3)
    made)
