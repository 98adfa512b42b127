use Rattle.std.proofs.Common.{Bool, subst, sym}
use Rattle.std.specs.Prelude.{Decides}
use Rattle.jtree.specs.View.{data_of}
use Rattle.judge.specs.Keywords.{texts}
use Rattle.judge.specs.Faults.{some_fails, IsValid}
use Rattle.judge.proofs.ValidLemmas.{meets_where_valid, IfOk-follows}
use Rattle.judge.proofs.validity.is_valid.Goals as goal

pub returns-clause-valid : goal.returns-clause-valid
returns-clause-valid g c =
    let m = texts g.T.TextTests.matches g.T.FormatTests.is_format g.T.FormatTests.has_format in
    let s = data_of c.args.schema.now in
    let v = data_of c.args.value.now in
    IfOk-follows c.meets.result _ _
    (λ yes same. subst (λ (b : Bool). Decides b (IsValid (some_fails m) s v)) (sym same) (meets_where_valid m s v c.reveal_invariant.ensures c.reveal_invariant-2.ensures)) c.meets.ensures
