use Rattle.std.proofs.Common.{sym, subst}
use Rattle.explain.specs.Fields.Declared.{IsDeclared}
use Rattle.explain.specs.Fields.PathFault.{IsTextOf}
use Rattle.explain.specs.Fields.View.{field_of}
use Rattle.cover.proofs.CoveringLemmas.{found_field, no_field, next_covering, next_advanced, at_end}
use Rattle.cover.proofs.LineLemmas.{declared_field}
use Rattle.cover.proofs.covering.Covering.advance.Goals as goal
use Rattle.cover.proofs.covering.Covering.advance.Goals.{in-Some+in_ok-plan-in-Some, in-None}

pub add_path-requires-clause-declared : goal.add_path-requires-clause-declared
add_path-requires-clause-declared g c =
    let l = c.in-Some.ensures.lookup.3 in
    let f = c.in-Some.field.now in
    let x = c.self.inside in
    subst (λ t. IsTextOf (IsDeclared x.plan.root) t) (sym c.as_str-path.ensures)
    (declared_field x.plan.root x.listing c.fields.result.now x.next f c.self.invariant.cover.are_fields c.fields.ensures l.0 (l.1 f))

pub invariant_of-result : goal.invariant_of-result
invariant_of-result g c =
    let x = c.self.inside in
    elim c.match-get.branch [
      | in-Some+in_ok-plan-in-Some w ↦
          let l = w.in-Some.ensures.lookup.3 in
          let f = w.in-Some.field.now in
          let found = found_field c.fields.result.now x.listing x.next f c.fields.ensures l.0 (l.1 f) in
          let e = w.in_ok-plan-in-Some.ensures in
          rw (w.plan-is, w.covered-is, w.fronts-is)
          (next_covering x.plan w.in_ok-plan-in-Some.plan x.values x.listing x.next (field_of f) w.as_str-path.result.now x.covered w.add_path.new.covered x.fronts.items w.add_path.new.fronts.items found.0 found.1 w.as_str-path.ensures
          c.self.invariant e.plan e.adds e.known)
      | in-None w ↦ rw (w.plan-is, w.covered-is, w.fronts-is) c.self.invariant
    ]

pub returns : goal.returns
returns g c =
    let x = c.self.inside in
    let now = invariant_of-result g c in
    elim c.match-get.branch [
      | in-Some+in_ok-plan-in-Some w ↦
          let e = w.in_ok-plan-in-Some.ensures in
          let after = rw (w.plan-is, w.covered-is, w.fronts-is) at now in
          rw (← c.self.view_is, w.plan-is, w.covered-is) (next_advanced x.plan x.values x.listing x.next x.covered w.in_ok-plan-in-Some.plan w.add_path.new.covered e.plan e.grown after.cover)
      | in-None w ↦ rw (← c.self.view_is, w.plan-is, w.covered-is) (at_end x.plan x.values x.listing x.next x.covered (no_field c.fields.result.now x.listing x.next c.fields.ensures w.in-None.ensures.lookup.3) c.self.invariant.cover)
    ]
