use Rattle.std.proofs.Common.{◌∙◌, ◌++◌, ◌∷◌, [], ap, arith, true}
use Rattle.std.specs.Option.{option_copied}
use Rattle.jtree.specs.View.{data_of}
use Rattle.crdx.specs.Output.Line.{line}
use Rattle.crdx.specs.Internal.Block.{IsLineOf}
use Rattle.crdx.proofs.WrittenLemmas.{takes_more}
use Rattle.crdx.proofs.walk.blocks.BlockTaker.take.Goals as goal

pub returns-clause-ok : goal.returns-clause-ok
returns-clause-ok c = λ first items t.
    let old = c.args.self.now in
    let mid = c.write_line.new.self in
    let v = data_of c.args.sample.now in
    let same = c.write_line.ensures.same in
    let f = mid.front in
    let mine = c.in_ok-write_line.ensures.line in
    let text : IsLineOf (option_copied old.envelope) v mid.line.items f = (mine.0 ∙ ap (λ e. line e v) same.0, mine.1) in
    takes_more (option_copied first.envelope) (option_copied old.envelope) (option_copied mid.envelope) items v first.bytes.items first.ends.items old.bytes.items old.ends.items c.extend_from_slice.new.self.items c.push_reserved.new.self.items c.len.result old.known true old.line.items mid.line.items old.front f
    same.0 t text
    (c.in_ok-extend_from_slice.ensures.items ∙ (ap (λ b. b.items ++ c.as_slice.result.now) same.1 ∙ ap (λ bs. old.bytes.items ++ bs) c.as_slice.ensures.value))
    (c.push_reserved.ensures.items ∙ (ap (λ b. b.items ++ c.len.result ∷ []) same.2 ∙ ap (λ es. es ++ c.len.result ∷ []) c.reserve.ensures.items)) (omega (arith, c.len.ensures, c.extend_from_slice.new.self.ok))
