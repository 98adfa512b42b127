use Rattle.std.proofs.Common.{◌≡◌, drop}
use Rattle.jtree.specs.View.{members_of}
use Rattle.schema.specs.Internal.KindView.{is_asked}
use Rattle.schema.specs.Rules.Keywords.{has_name}
use Rattle.schema.proofs.keywords.has_keyword.Given as goal

-- a member is asked for exactly where one of those that are left is
abbrev pub invariant-loop-member : goal.invariant-loop-member
invariant-loop-member l = has_name (is_asked l.keywords) (members_of (drop l.member-index l.member-items)) ≡ has_name (is_asked l.keywords) (members_of l.member-items)
