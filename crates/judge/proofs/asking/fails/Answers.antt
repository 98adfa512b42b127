use Rattle.std.proofs.Common.{◌∙◌, not, ap, sym}
use Rattle.jtree.specs.View.{data_of}
use Rattle.judge.specs.Keywords.{texts, passes_if_asked}
use Rattle.judge.proofs.LookupLemmas.{junctors_is}
use Rattle.judge.proofs.asking.fails.Goals as goal

pub returns-in_ok-passes-in-Object : goal.returns-in_ok-passes-in-Object
returns-in_ok-passes-in-Object g c =
    let m = texts g.T.TextTests.matches g.T.FormatTests.is_format g.T.FormatTests.has_format in
    let ks = c.in-Object.keywords in
    rw c.in-Object.is (ap not (c.in_ok-passes-in-Object.ensures ∙ sym (ap (λ js. passes_if_asked m ks js c.args.test (data_of c.args.value.now)) (junctors_is m ks))))
