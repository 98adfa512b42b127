use Rattle.std.proofs.Common.{ap, subst, ◌∙◌, arith}
use Rattle.std.proofs.lemmas.List.{take_all}
use Rattle.std.specs.Prelude.{All}
use Rattle.jtree.specs.View.{members_of}
use Rattle.stored.proofs.ReportLemmas.{IsBefore, before_more, split_there, all_before}
use Rattle.stored.proofs.all_faults.split_before.Goals as goal

pub loop-i-preserved : goal.loop-i-preserved
loop-i-preserved c = before_more c.args.name.now c.args.members.now c.loop-i.i c.index-members-i.result (omega arith) c.index-members-i.is (rw (c.is_ge.ensures, c.cmp.ensures) at c.if-is_ge.false) c.loop-i.invariant

pub returns-then-is_ge-clause-before : goal.returns-then-is_ge-clause-before
returns-then-is_ge-clause-before c = ap members_of c.split_at.ensures.front ∙ (split_there c.args.name.now c.args.members.now c.loop-i.i c.index-members-i.result (omega arith) c.index-members-i.is (rw (c.is_ge.ensures, c.cmp.ensures) at c.if-is_ge.true) c.loop-i.invariant).0

pub returns-then-is_ge-clause-from : goal.returns-then-is_ge-clause-from
returns-then-is_ge-clause-from c = ap members_of c.split_at.ensures.back ∙ (split_there c.args.name.now c.args.members.now c.loop-i.i c.index-members-i.result (omega arith) c.index-members-i.is (rw (c.is_ge.ensures, c.cmp.ensures) at c.if-is_ge.true) c.loop-i.invariant).1

pub returns-clause-before : goal.returns-clause-before
returns-clause-before c = (all_before c.args.name.now c.args.members.now (subst (All (IsBefore c.args.name.now)) (take_all c.loop-i.i c.args.members.now (omega arith)) c.loop-i.invariant)).0

pub returns-clause-from : goal.returns-clause-from
returns-clause-from c = (all_before c.args.name.now c.args.members.now (subst (All (IsBefore c.args.name.now)) (take_all c.loop-i.i c.args.members.now (omega arith)) c.loop-i.invariant)).1
