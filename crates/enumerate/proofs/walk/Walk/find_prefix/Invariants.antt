use Rattle.std.proofs.Common.{◌≡◌, ◌+◌, ◌-◌, ◌≤◌, List, Option, drop, length}
use Rattle.jtree.specs.Data.{Data}
use Rattle.jtree.specs.View.{members_of}
use Rattle.plan.specs.Samples.Sizes.{AreFillings, nothing}
use Rattle.enumerate.specs.Internal.Candidates.{used_rows}
use Rattle.enumerate.specs.Internal.Prefixes.{members_to, before_at, used_at, agreeing_rows}
use Rattle.enumerate.specs.Internal.Rows.{slots_from}
use Rattle.enumerate.proofs.prefixes.Lemmas.{IsLeft}
use Rattle.enumerate.proofs.walk.Walk.find_prefix.Given as goal

abbrev pub invariant-loop-earlier : goal.invariant-loop-earlier
invariant-loop-earlier g l = record {
  left : (gs : List (Option Data)) → AreFillings l.self.plan.now.pools (slots_from l.self.plan.now l.node 0) gs → members_of l.members ≡ members_to l.place (slots_from l.self.plan.now l.node 0) gs
      → IsLeft l.self.plan.now.pools (l.place - l.earlier) (slots_from l.self.plan.now l.node l.earlier) (drop l.earlier gs) (members_of (drop l.prefix.before.count l.members)) l.prefix.before (before_at l.place (slots_from l.self.plan.now l.node 0) gs nothing) (agreeing_rows l.prefix.agreeing (used_rows l.used)) (used_at l.place (slots_from l.self.plan.now l.node 0) gs (used_rows l.used));
  within : l.prefix.before.count ≤ length l.members;
  few : l.prefix.before.count ≤ l.earlier;
  steps : l.meter ≤ l.initial.meter + l.earlier;
}
