use Rattle.std.proofs.Common.{◌≡◌, ◌<◌, ◌≤◌, [], refl, ap, ◌∙◌, subst, inr, arith, length, take}
use Rattle.std.specs.Io.KnownBytes.{Appends}
use Rattle.std.specs.Option.{option_copied}
use Rattle.plan.specs.Samples.Steps.{delay}
use Rattle.crdx.specs.Internal.Block.{HasEnds, IsCountOfEnds}
use Rattle.crdx.specs.Output.Line.{lines}
use Rattle.crdx.proofs.WalkLemmas.{within_lines}
use Rattle.crdx.proofs.WrittenLemmas.{cut_lines}
use Rattle.crdx.proofs.walk.walking.write_block.Given.{Over}
use Rattle.crdx.proofs.walk.walking.write_block.Goals as goal

few : (g : Over) (c : goal.After-len g) → c.len.result ≤ c.args.count
few g c =
    let t = c.lend_page.ensures.taken in
    let held = t.1.holds [] c.clear.ensures.none in
    omega (arith, held.ended.each, t.2, c.len.ensures, c.lend_page.new.taker.ends.ok)

pub returns-in-Err-clause-envelope : goal.returns-in-Err-clause-envelope
returns-in-Err-clause-envelope g c = let t = c.lend_page.ensures.taken in t.1.same ∙ c.clear.ensures.same

pub overflow_add-result : goal.overflow_add-result
overflow_add-result g c = omega (arith, few g c, c.requires.most)

pub returns-in-Ok-put_all-clause-envelope : goal.returns-in-Ok-put_all-clause-envelope
returns-in-Ok-put_all-clause-envelope g c = let t = c.lend_page.ensures.taken in t.1.same ∙ c.clear.ensures.same

pub returns-in-Ok-put_all-clause-block : goal.returns-in-Ok-put_all-clause-block
returns-in-Ok-put_all-clause-block g c = λ place first.
    let l = c.in-Ok.ensures.page place first in
    let held = l.taken.holds [] c.clear.ensures.none in
    let bytes = c.as_slice.ensures.value ∙ (held.written ∙ ap (λ e. lines e l.items) c.clear.ensures.same) in
    record {
      items = l.items;
      page = l.page;
      counted = omega (arith, c.len.ensures, held.ended.each, c.lend_page.new.taker.ends.ok);
      next = l.next;
      written = subst (Appends (g.W.Sink.taken c.args.out.now) (g.W.Sink.taken c.put_all.new.sink)) bytes c.in-Ok-put_all.ensures.ok;
    }

pub returns-in-Ok-put_all-clause-steps : goal.returns-in-Ok-put_all-clause-steps
returns-in-Ok-put_all-clause-steps g c = λ place first w wide.
    let l = c.in-Ok.ensures.page place first in
    let held = l.taken.holds [] c.clear.ensures.none in
    let counted : length l.items ≡ c.len.result = omega (arith, c.len.ensures, held.ended.each, c.lend_page.new.taker.ends.ok) in
    within_lines c.args.before (length l.items) c.len.result (delay c.args.live.now.question.limit w) c.args.meter.now c.lend_page.new.meter counted (l.steps w wide)

pub returns-in-Err-put_all-clause-envelope : goal.returns-in-Err-put_all-clause-envelope
returns-in-Err-put_all-clause-envelope g c = let t = c.lend_page.ensures.taken in t.1.same ∙ c.clear.ensures.same

pub returns-in-Err-put_all-clause-err : goal.returns-in-Err-put_all-clause-err
returns-in-Err-put_all-clause-err g c = λ place first.
    let e = option_copied c.args.block.now.envelope in
    let old = g.W.Sink.taken c.args.out.now in
    let new = g.W.Sink.taken c.put_all.new.sink in
    let l = c.in-Ok.ensures.page place first in
    let held = l.taken.holds [] c.clear.ensures.none in
    let ended = subst (λ e. HasEnds e l.items c.lend_page.new.taker.ends.items) c.clear.ensures.same held.ended in
    let bytes : c.as_slice.result.now ≡ lines e l.items = c.as_slice.ensures.value ∙ (held.written ∙ ap (λ e. lines e l.items) c.clear.ensures.same) in
    let count : IsCountOfEnds c.lend_page.new.taker.ends.items c.in-Err-put_all.taken c.whole_lines-whole.result = subst (λ es. IsCountOfEnds es c.in-Err-put_all.taken c.whole_lines-whole.result) c.as_slice-in-Err-put_all.ensures.value c.whole_lines-whole.ensures in
    let fewer = subst (λ bs. c.in-Err-put_all.taken < length bs) bytes c.in-Err-put_all.ensures.fewer in
    let part = subst (λ bs. Appends old new (take c.in-Err-put_all.taken bs)) bytes c.in-Err-put_all.ensures.part in
    inr (l.items, c.in-Ok.end, l.page, (c.in-Err-put_all.ensures.failed, (c.whole_lines-whole.result, refl, cut_lines e l.items c.lend_page.new.taker.ends.items c.in-Err-put_all.taken c.whole_lines-whole.result old new ended count fewer part)))

pub overflow_add-result-in-Err-put_all : goal.overflow_add-result-in-Err-put_all
overflow_add-result-in-Err-put_all g c =
    let t = c.lend_page.ensures.taken in
    let held = t.1.holds [] c.clear.ensures.none in
    let ends = ap (λ es. length es) c.as_slice-in-Err-put_all.ensures.value in
    omega (arith, held.ended.each, t.2, c.whole_lines-whole.ensures.within, ends, c.requires.most)
