use Rattle.std.proofs.Common.{◌≡◌, ◌∙◌, ap, subst, map, take, length, arith, string_bytes}
use Rattle.jtree.specs.Path.{name, index}
use Rattle.jtree.specs.View.{data_of}
use Rattle.definition.specs.Faults.{reported}
use Rattle.definition.specs.Internal.ByLevel.{found, progress, added}
use Rattle.definition.proofs.ReportLemmas.{left, childless}
use Rattle.definition.proofs.finding.+walk.Goals as goal

pub add_item-returns : goal.add_item-returns
add_item-returns t c =
    let old = c.args.walk.now in
    let len : c.len-length.result ≡ length (string_bytes old.pointer) = omega (arith, c.len-length.ensures) in
    let fs = found c.args.part (data_of c.args.tree.now) in
    left (string_bytes old.pointer) (map reported old.found.items) (index c.args.index) fs (progress c.add_part.new.walk) (string_bytes c.truncate.new.self)
    (subst (λ at. progress c.add_part.new.walk ≡ added (record { pointer = at; reported = map reported old.found.items }) fs) c.in_ok-push_index.ensures c.in_ok-add_part.ensures)
    (c.truncate.ensures.bytes ∙ ap (λ n. take n (string_bytes c.add_part.new.walk.pointer)) len)

pub add_member-returns : goal.add_member-returns
add_member-returns t c =
    let old = c.args.walk.now in
    let len : c.len-length.result ≡ length (string_bytes old.pointer) = omega (arith, c.len-length.ensures) in
    let fs = found c.args.part (data_of c.args.tree.now) in
    left (string_bytes old.pointer) (map reported old.found.items) (name c.args.name.now) fs (progress c.add_part.new.walk) (string_bytes c.truncate.new.self)
    (subst (λ at. progress c.add_part.new.walk ≡ added (record { pointer = at; reported = map reported old.found.items }) fs) c.in_ok-push_name.ensures c.in_ok-add_part.ensures)
    (c.truncate.ensures.bytes ∙ ap (λ n. take n (string_bytes c.add_part.new.walk.pointer)) len)

pub add_part-returns-in_default : goal.add_part-returns-in_default
add_part-returns-in_default t c =
    c.in_ok-add_own.ensures ∙ ap (added (progress c.args.walk.now)) (childless c.args.part c.args.tree.now c.in_default.not-List c.in_default.not-Object)
