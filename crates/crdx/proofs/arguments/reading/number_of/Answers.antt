use Rattle.std.proofs.Common.{◌≡◌, ap, arith, ◌∙◌}
use Rattle.std.specs.Prelude.{unwrap_or}
use Rattle.std.specs.Str.Parse.{ParsesUnsigned, ExplainsUnsignedError, HasUnsignedDigitsIfOk}
use Rattle.clap.specs.Matches.{found_of}
use Rattle.clap.proofs.WalkLemmas.{one_text-rows}
use Rattle.std.proofs.lemmas.Int.{clamps}
use Rattle.crdx.specs.Program.CommandLine.{decimal_value}
use Rattle.crdx.proofs.CommandLineLemmas.{number_read}
use Rattle.crdx.proofs.arguments.reading.number_of.Goals as goal

pub returns-clause-number : goal.returns-clause-number
returns-clause-number c = λ t is numeral least most.
    let one = c.get_one.ensures.value t (one_text-rows (found_of c.args.matches.now) c.args.name.now ∙ is) in
    let read = number_read (λ bs r. ParsesUnsigned 32 10 bs r × ExplainsUnsignedError 10 bs r × HasUnsignedDigitsIfOk bs r) (λ bs r g. g.0) t c.get_one.result one numeral (omega (arith, most, c.ranges.last.fits)) in
    let value : c.unwrap_or.result ≡ decimal_value t = c.unwrap_or.ensures ∙ ap (λ o. unwrap_or o c.args.last) read in
    omega (arith, clamps, c.clamp.ensures, value, least, most)
