use Rattle.std.proofs.Common.{inl, inr, option_map}
use Rattle.jtree.specs.View.{data_of}
use Rattle.crdx.specs.Program.Requested.{total_of}
use Rattle.crdx.proofs.RunLemmas.{nothing_written}
use Rattle.crdx.proofs.running.sampling.sample_with.Goals as goal

pub returns-in-Err : goal.returns-in-Err
returns-in-Err g c =
    let source = c.in_ok-source.source in
    record {
      done = tt;
      sampled = tt;
      unfailed = tt;
      cause = inr (source.plan, option_map data_of source.after, source.envelope, c.in_ok-source.ensures.requested, c.in-Err.ensures.cause);
    }

pub returns-in-Ok-end_of : goal.returns-in-Ok-end_of
returns-in-Ok-end_of g c =
    let source = c.in_ok-source.source in
    let walked = c.in-Ok.walked in
    record {
      done = c.in-Ok-end_of.ensures.done;
      sampled = (source.plan, option_map data_of source.after, source.envelope, c.in_ok-source.ensures.requested, c.in-Ok.ensures.sampled.0, walked.lines, walked.end, c.in-Ok.ensures.sampled.1);
      unfailed = c.in-Ok.ensures.unfailed;
      cause = tt;
    }

-- there is no memory to say why nothing is listed, and so nothing was written
pub returns : goal.returns
returns g c =
    let source = c.in_ok-source.source in
    let after = option_map data_of source.after in
    let walked = c.in-Ok.walked in
    let keeps = nothing_written source.plan after (total_of c.args.arguments.now) source.envelope walked.lines walked.end (g.W.Sink.taken c.args.out.now) (g.W.Sink.taken c.write_samples.new.out)
    c.in-Ok.ensures.sampled.1 c.in-Err-end_of.ensures.none in
    record {
      done = tt;
      sampled = tt;
      unfailed = tt;
      cause = rw c.into.ensures (inr (source.plan, after, source.envelope, c.in_ok-source.ensures.requested, (c.in-Ok.ensures.unfailed, inl keeps)));
    }
