use Rattle.std.proofs.Common.{length}
use Rattle.std.proofs.lemmas.Bool.{leb-true}
use Rattle.cover.specs.View.{covered_of}
use Rattle.cover.proofs.CoveringLemmas.{all_covered, no_field}
use Rattle.cover.proofs.covering.Covering.is_done.Goals as goal

pub returns-clause-whole : goal.returns-clause-whole
returns-clause-whole g c = λ e.
    let x = c.self.inside in
    let long = no_field c.fields.result.now x.listing x.next c.fields.ensures (leb-true (length c.fields.result.now) x.next e) in
    (x.listing, rw (← c.self.view_is) (all_covered x.values x.plan x.listing x.next (covered_of x.covered) long c.self.invariant.cover))
