use Rattle.std.proofs.Common.{subst, ap}
use Rattle.jtree.specs.View.{data_of}
use Rattle.crdx.specs.Program.Envelope.{IsJoined}
use Rattle.crdx.proofs.EnvelopeLemmas.{joined_is}
use Rattle.crdx.proofs.walk.line.with_envelope.Goals as goal

pub returns : goal.returns
returns c =
    let same = ap data_of c.in-Ok.ensures.ok in
    let joined = subst (λ v. IsJoined v c.in_ok-parts_of.field-0 (data_of c.join.new.tree)) same c.in_ok-join.ensures.joined in
    joined_is c.args.envelope.now (data_of c.args.tree.now) (data_of c.join.new.tree) c.reveal_invariant.ensures
    (subst (λ ps. IsJoined (data_of c.args.tree.now) ps (data_of c.join.new.tree)) c.in_ok-parts_of.ensures joined)
