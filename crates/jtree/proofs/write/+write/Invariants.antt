use Rattle.std.proofs.Common.{◌≡◌, ◌++◌, drop}
use Rattle.json.specs.Tree.{items_tokens, members_tokens}
use Rattle.jtree.specs.Text.{items_outline, members_outline}
use Rattle.jtree.specs.View.{items_of, members_of}
use Rattle.jtree.proofs.write.+write.Given as goal

abbrev pub invariant-write_items-loop-item : goal.invariant-write_items-loop-item
invariant-write_items-loop-item l = record {
  tokens : l.out.tokens ++ items_tokens (items_outline (items_of (drop l.item-index l.item-items))) ≡ l.initial.out.tokens ++ items_tokens (items_outline (items_of l.item-items));
  before : l.out.before ≡ l.initial.out.before;
}

abbrev pub invariant-write_members-loop-member : goal.invariant-write_members-loop-member
invariant-write_members-loop-member l = record {
  tokens : l.out.tokens ++ members_tokens (members_outline (members_of (drop l.member-index l.member-items))) ≡ l.initial.out.tokens ++ members_tokens (members_outline (members_of l.member-items));
  before : l.out.before ≡ l.initial.out.before;
}
