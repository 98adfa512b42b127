use Rattle.std.proofs.Common.{◌≡◌, Option, Some, None, ap, sym, ◌∙◌}
use Rattle.clap.specs.Matches.{found_of}
use Rattle.clap.specs.declared.parser.matches.ValueSource.{ValueSource}
use Rattle.clap.specs.declared.parser.matches.ValueSource.TheVariants.{CommandLine}
use Rattle.crdx.proofs.CommandLineLemmas.{source_rows}
use Rattle.crdx.proofs.arguments.reading.is_given.Goals as goal

pub returns-in-Some-clause-given : goal.returns-in-Some-clause-given
returns-in-Some-clause-given c = λ yes.
    sym (source_rows (found_of c.args.matches.now) c.args.name.now) ∙ (sym c.value_source.ensures ∙ (c.in-Some.is ∙ ap (λ s. Some s) (c.is_of_words.ensures.words yes)))

pub returns-in-Some-clause-not_given : goal.returns-in-Some-clause-not_given
returns-in-Some-clause-not_given c = λ no given.
    let same : Some c.in-Some.source ≡ Some CommandLine = sym c.in-Some.is ∙ (c.value_source.ensures ∙ (source_rows (found_of c.args.matches.now) c.args.name.now ∙ given)) in
    c.is_of_words.ensures.other no cc

pub returns-in-None-clause-not_given : goal.returns-in-None-clause-not_given
returns-in-None-clause-not_given c = λ no given.
    let same : ◌≡◌ {A = Option ValueSource} None (Some CommandLine) = sym c.in-None.is ∙ (c.value_source.ensures ∙ (source_rows (found_of c.args.matches.now) c.args.name.now ∙ given)) in
    cc
