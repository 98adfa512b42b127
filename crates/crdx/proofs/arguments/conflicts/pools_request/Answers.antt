use Rattle.std.proofs.Common.{◌<◌, ap, refl, subst, inl, inr, arith, map, ◌∙◌}
use Rattle.clap.specs.Matches.{found_of}
use Rattle.clap.specs.Walk.{rows_of}
use Rattle.crdx.specs.Program.Documents.{file_name}
use Rattle.crdx.proofs.CommandLineLemmas.{refused_pools, inputs_by_rows, varies_by_rows, rows_vary_none}
use Rattle.crdx.proofs.arguments.conflicts.pools_request.Goals as goal

pub returns-then-reads_twice : goal.returns-then-reads_twice
returns-then-reads_twice c =
    let rows = rows_of (found_of c.args.found.now) in
    let are = c.in-Ok.ensures in
    let same = inputs_by_rows rows (file_name c.in-Ok.arguments.common.crd) c.as_slice.result.now are.0.0 (ap (map (λ w. w.now)) c.as_slice.ensures.value ∙ are.1) in
    refused_pools rows c.refuse.result c.refuse.ensures (inl (subst (λ n. 1 < n) same (c.reads_twice.ensures.twice c.if-reads_twice.true)))

pub returns-then-varies_no_object : goal.returns-then-varies_no_object
returns-then-varies_no_object c =
    let rows = rows_of (found_of c.args.found.now) in
    let are = c.in-Ok.ensures in
    let varies = varies_by_rows rows c.as_slice-2.result.now c.as_slice-3.result.now (ap (map (λ w. w.now)) c.as_slice-2.ensures.value ∙ are.1) (ap (map (λ w. w.now)) c.as_slice-3.ensures.value ∙ are.2)
    (c.varies_no_object.ensures.yes c.if-varies_no_object.true) in
    refused_pools rows c.refuse-then-varies_no_object.result c.refuse-then-varies_no_object.ensures (inr varies)

pub returns : goal.returns
returns c =
    let rows = rows_of (found_of c.args.found.now) in
    let are = c.in-Ok.ensures in
    let same = inputs_by_rows rows (file_name c.in-Ok.arguments.common.crd) c.as_slice.result.now are.0.0 (ap (map (λ w. w.now)) c.as_slice.ensures.value ∙ are.1) in
    let once = c.reads_twice.ensures.once c.if-reads_twice.false in
    let none = rows_vary_none rows c.as_slice-2.result.now c.as_slice-3.result.now (ap (map (λ w. w.now)) c.as_slice-2.ensures.value ∙ are.1) (ap (map (λ w. w.now)) c.as_slice-3.ensures.value ∙ are.2)
    (c.varies_no_object.ensures.no c.if-varies_no_object.false) in
    (rows, refl, are, λ twice. omega (arith, twice, once, same), none)
