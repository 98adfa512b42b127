use Rattle.std.proofs.Common.{◌≡◌, drop}
use Rattle.jtree.specs.View.{items_of, members_of}
use Rattle.schema.specs.Document.Refusal.{form_view}
use Rattle.schema.specs.Internal.FormBreak.{items_break, members_break}
use Rattle.schema.proofs.forms.+forms.Given as goal

-- what is left has the first break of the whole
abbrev pub invariant-check_items-loop-i : goal.invariant-check_items-loop-i
invariant-check_items-loop-i l = items_break (form_view l.fn.form) l.i (items_of (drop l.i l.item-items)) ≡ items_break (form_view l.fn.form) 0 (items_of l.item-items)

abbrev pub invariant-check_members-loop-member : goal.invariant-check_members-loop-member
invariant-check_members-loop-member l = members_break (form_view l.form) (members_of (drop l.member-index l.member-items)) ≡ members_break (form_view l.form) (members_of l.member-items)
