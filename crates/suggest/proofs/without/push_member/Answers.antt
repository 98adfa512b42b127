use Rattle.std.proofs.Common.{◌∙◌, sym, ap}
use Rattle.jtree.specs.Data.{no_members, member}
use Rattle.jtree.specs.View.{data_of, members_of}
use Rattle.stored.specs.Internal.Defaulting.{joined}
use Rattle.suggest.proofs.WithoutLemmas.{joined_end, member_pushed}
use Rattle.suggest.proofs.without.push_member.Goals as goal

pub returns-in_ok-push : goal.returns-in_ok-push
returns-in_ok-push c =
    let old = c.args.members.now.items in
    let value = c.in-Some.tree in
    rw c.in-Some.is (ap members_of c.in_ok-push.ensures.items ∙ (member_pushed old _ ∙ ap (λ k. joined (members_of old) (member k (data_of value) no_members)) c.in_ok-name.ensures))

pub returns-in_default : goal.returns-in_default
returns-in_default c = rw c.in_default.is (sym (joined_end (members_of c.args.members.now.items)))
