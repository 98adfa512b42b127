use Rattle.std.proofs.Common.{◌∙◌}
use Rattle.crdx.specs.declared.sink.SinkFault.{SinkFault}
use Rattle.crdx.proofs.WrittenLemmas.{took_some, put_within, put_more}
use Rattle.crdx.proofs.sink.put_all.Goals as goal

pub put-preserved : goal.put-preserved
put-preserved g c =
    let bytes = c.args.bytes.now in
    record {
      in_range = put_within bytes c.put.at c.in-Ok.n c.put.invariant.in_range c.in-Ok.ensures.within;
      taken = put_more bytes c.put.at c.in-Ok.n _ _ _ c.put.invariant.taken c.in-Ok.ensures.takes;
      failures = took_some SinkFault _ _ c.in-Ok.n _ c.in-Ok.n-test.1 c.in-Ok.ensures.counts ∙ c.put.invariant.failures;
    }
