use Rattle.std.proofs.Common.{arith, ◌≡◌, ◌∙◌, true, sym, ap, subst}
use Rattle.std.proofs.lemmas.Bool.{not-true}
use Rattle.plan.specs.Samples.Candidates.{sort_of}
use Rattle.plan.specs.Samples.Part.{IsPart}
use Rattle.enumerate.proofs.rows.Slots.{key_slot}
use Rattle.enumerate.proofs.walk.Walk.is_last_key.Goals as goal

pub has_later-requires : goal.has_later-requires
has_later-requires g c =
    let q = c.args.self.now.plan.now in
    let slot = c.requires.here.slot in
    let key : c.args.here.now.slot.key ≡ true = cc in
    record {
      node = omega (arith, slot.below, c.requires.here.node);
      sort = ap (λ x. sort_of x) slot.node ∙ (key_slot q c.args.here.now.node c.args.here.now.place c.laws_of.ensures.sound slot.first (sym slot.key ∙ key)).leaf;
    }

pub returns-clause-none : goal.returns-clause-none
returns-clause-none g c = λ last u part past.
    let q = c.args.self.now.plan.now in
    let slot = c.requires.here.slot in
    let key : c.args.here.now.slot.key ≡ true = cc in
    let k = key_slot q c.args.here.now.node c.args.here.now.place c.laws_of.ensures.sound slot.first (sym slot.key ∙ key) in
    c.has_later.ensures.none (not-true c.has_later.result last) u (subst (λ s. IsPart q.pools s u) (sym slot.node) part, omega (arith, k.one u part, c.requires.some)) past
