use Rattle.std.proofs.Common.{◌≡◌, ◌≤◌, ◌∙◌, List, sym, ap, subst, map, take, length, arith, rules, string_bytes}
use Rattle.std.specs.Prelude.{OnOk}
use Rattle.jtree.specs.Data.{members_depth}
use Rattle.jtree.specs.Path.{name, index}
use Rattle.jtree.specs.View.{data_of}
use Rattle.judge.specs.Asked.{below, item_schema, required, schemas_of}
use Rattle.judge.specs.Faults.{reported}
use Rattle.judge.specs.Internal.FaultsByLevel.{slots_of, slots_depth, value_depth, named_by, Named, Below, joined, found_under, progress, added, found}
use Rattle.judge.specs.declared.slots.Slot.{Slot}
use Rattle.judge.proofs.ReportLemmas.{left}
use Rattle.judge.proofs.SlotLemmas.{all_slots, all_depth, slot_depth}
use Rattle.judge.proofs.finding.+find.Goals as goal

pub find_below-returns-in-Object : goal.find_below-returns-in-Object
find_below-returns-in-Object g t c =
    let ss = schemas_of c.args.schemas.now in
    rw c.in-Object.is (subst (λ (bs : List Below). OnOk c.find_in_members.result (progress c.find_in_members.new.report ≡ added (progress c.args.report.now) (joined bs)))
    (all_slots g.A.PlaceTests.asking ss (required ss) c.in-Object.members) c.find_in_members.ensures)

pub find_in_members-find_slot-requires : goal.find_in_members-find_slot-requires
find_in_members-find_slot-requires g t c κs within =
    let x = c.slot-item.result in
    let xs = c.deref-slot-items.result.now in
    let ss = schemas_of c.args.schemas.now in
    let ms = c.args.members.now in
    let all : slots_depth (slots_of xs) ≡ members_depth ms = ap slots_depth (ap slots_of c.deref-slot-items.ensures.value ∙ c.in_ok-named.ensures) ∙ all_depth (required ss) ms in
    let one : value_depth (Named.value (named_by x)) ≤ slots_depth (slots_of xs) =
    subst (λ (y : Slot). value_depth (Named.value (named_by y)) ≤ slots_depth (slots_of xs)) (sym c.slot-item.is) (slot_depth xs c.loop-slot.slot-index x c.loop-slot-test.true) in
    let deep : value_depth (Named.value (named_by x)) ≤ members_depth ms = omega (arith, one, all) in
    search rules

pub find_item-returns : goal.find_item-returns
find_item-returns g t c =
    let old = c.args.report.now in
    let len : c.len-length.result ≡ length (string_bytes old.pointer) = omega (arith, c.len-length.ensures) in
    let fs = found g.A.PlaceTests.asking (below item_schema (data_of c.args.item.now) (schemas_of c.args.schemas.now)) c.args.is_repeated (data_of c.args.item.now) in
    left (string_bytes old.pointer) (map reported old.faults.items) (index c.args.index) fs (progress c.find.new.report) (string_bytes c.truncate.new.self)
    (subst (λ at. progress c.find.new.report ≡ added (record { pointer = at; reported = map reported old.faults.items }) fs) c.in_ok-push_index.ensures
    (subst (λ ss. progress c.find.new.report ≡ added (record { pointer = string_bytes c.push_index.new.text; reported = map reported old.faults.items }) (found g.A.PlaceTests.asking ss c.args.is_repeated (data_of c.args.item.now)))
    (ap schemas_of c.as_slice.ensures.value ∙ c.in_ok-below.ensures) c.in_ok-find.ensures))
    (c.truncate.ensures.bytes ∙ ap (λ n. take n (string_bytes c.find.new.report.pointer)) len)

pub find_slot-returns : goal.find_slot-returns
find_slot-returns g t c =
    let old = c.args.report.now in
    let x = named_by c.args.slot.now in
    let len : c.len-length.result ≡ length (string_bytes old.pointer) = omega (arith, c.len-length.ensures) in
    let fs = found_under g.A.PlaceTests.asking (schemas_of c.args.schemas.now) x.name x.value in
    left (string_bytes old.pointer) (map reported old.faults.items) (name x.name) fs (progress c.find_under.new.report) (string_bytes c.truncate.new.self)
    (subst (λ at. progress c.find_under.new.report ≡ added (record { pointer = at; reported = map reported old.faults.items }) fs) c.in_ok-push_name.ensures c.in_ok-find_under.ensures)
    (c.truncate.ensures.bytes ∙ ap (λ n. take n (string_bytes c.find_under.new.report.pointer)) len)
