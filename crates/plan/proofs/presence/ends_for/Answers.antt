use Rattle.std.proofs.Common.{◌≡◌, ◌+◌, ◌∙◌, Bool, ap}
use Rattle.std.proofs.lemmas.List.{length_push}
use Rattle.schema.specs.Nodes.View.{validations_of}
use Rattle.stored.specs.Objects.Tests.{meets_presence}
use Rattle.plan.specs.Internal.Tables.{is_seen}
use Rattle.plan.proofs.SizeLemmas.{each_push}
use Rattle.plan.proofs.presence.ends_for.Goals as goal

pub loop-seen-preserved : goal.loop-seen-preserved
loop-seen-preserved c =
    let ends = c.loop-seen.ends.items in
    let inv = c.loop-seen.invariant in
    rw c.in_ok-push.ensures.items
    (record {
      whole = length_push ends c.meets_presence.result ∙ ap (λ n. n + 1) inv.whole;
      each = each_push (λ seen (b : Bool). b ≡ meets_presence (validations_of c.args.junctors.now) (is_seen c.args.names.now seen)) ends c.meets_presence.result inv.each (rw inv.whole c.meets_presence.ensures);
    })
