use Rattle.std.proofs.Common.{ap, ◌∙◌, option_map}
use Rattle.std.specs.Option.{IfSome}
use Rattle.std.proofs.lemmas.Result.{err_from_is_err_and}
use Rattle.std.proofs.KnownBytes.{Appends-kept}
use Rattle.jtree.specs.View.{data_of}
use Rattle.enumerate.specs.Page.{IsSampleOf}
use Rattle.crdx.specs.Output.PartialOutput.{IsPartialOutput}
use Rattle.jtree.specs.Failures.{one_more}
use Rattle.crdx.specs.Output.Walk.{WritesPage}
use Rattle.crdx.proofs.RunLemmas.{walk_cause, flush_cause, failed_once}
use Rattle.crdx.specs.Program.Requested.{total_of}
use Rattle.crdx.proofs.running.sampling.write_samples.Goals as goal

pub returns-in_err-walked-clause-cause : goal.returns-in_err-walked-clause-cause
returns-in_err-walked-clause-cause g c =
    let inputs = c.args.source.now in
    let after = option_map data_of inputs.after in
    let cut : IsPartialOutput inputs.plan after (total_of c.args.arguments.now) inputs.envelope (g.W.Sink.taken c.args.out.now) (g.W.Sink.taken c.walk_asked.new.out)
    (g.W.Sink.failures c.args.out.now) (g.W.Sink.failures c.walk_asked.new.out) c.in_err-walked.field-0.0 =
    rw (← c.meter-meter.ensures.same) c.in_err-walked.ensures.cut in
    let p = err_from_is_err_and c.from_residual.result c.from_residual.ensures.1 in
    rw (p.1, p.2) (walk_cause inputs.plan after (total_of c.args.arguments.now) inputs.envelope _ _ _ _ _ cut)

pub returns-in-Ok-clause-sampled : goal.returns-in-Ok-clause-sampled
returns-in-Ok-clause-sampled g c =
    let inputs = c.args.source.now in
    let after = option_map data_of inputs.after in
    let sample : IfSome after (IsSampleOf inputs.plan) = rw (← c.meter-meter.ensures.same) c.in_ok-walked.ensures.sample in
    let wrote : WritesPage inputs.plan after (total_of c.args.arguments.now) inputs.envelope c.in_ok-walked.walked.lines c.in_ok-walked.walked.end
    (g.W.Sink.taken c.args.out.now) (g.W.Sink.taken c.walk_asked.new.out) =
    rw (← c.meter-meter.ensures.same) c.in_ok-walked.ensures.lines in (
      sample,
      record {
        items = wrote.items;
        page = wrote.page;
        counted = wrote.counted;
        written = Appends-kept _ _ _ _ wrote.written c.in-Ok.ensures.keeps;
      },
    )

pub returns-in-Err-clause-cause : goal.returns-in-Err-clause-cause
returns-in-Err-clause-cause g c =
    let inputs = c.args.source.now in
    let after = option_map data_of inputs.after in
    let wrote : WritesPage inputs.plan after (total_of c.args.arguments.now) inputs.envelope c.in_ok-walked.walked.lines c.in_ok-walked.walked.end
    (g.W.Sink.taken c.args.out.now) (g.W.Sink.taken c.walk_asked.new.out) =
    rw (← c.meter-meter.ensures.same) c.in_ok-walked.ensures.lines in
    let sample : IfSome after (IsSampleOf inputs.plan) = rw (← c.meter-meter.ensures.same) c.in_ok-walked.ensures.sample in
    let failed = failed_once _ _ (c.in-Err.ensures.err ∙ ap one_more c.in_ok-walked.ensures.unfailed) in
    flush_cause (c.pages_agree.ensures.items, c.pages_agree.ensures.end) inputs.plan after (total_of c.args.arguments.now) inputs.envelope _ c.in_ok-walked.walked.lines c.in_ok-walked.walked.end
    (g.W.Sink.taken c.args.out.now) (g.W.Sink.taken c.flush.new.self) _ _ sample (record {
      items = wrote.items;
      page = wrote.page;
      counted = wrote.counted;
      written = Appends-kept _ _ _ _ wrote.written c.in-Err.ensures.keeps;
    }) failed
