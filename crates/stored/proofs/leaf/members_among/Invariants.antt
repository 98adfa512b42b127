use Rattle.std.proofs.Common.{◌≡◌, take}
use Rattle.std.specs.List.{filter}
use Rattle.schema.specs.Document.Texts.{is_among}
use Rattle.stored.proofs.leaf.members_among.Given as goal

abbrev pub invariant-loop-member : goal.invariant-loop-member
invariant-loop-member l = l.copies.items ≡ filter (λ m. is_among m.name l.names) (take l.member-index l.member-items)
