use Rattle.std.proofs.Common.{◌≡◌, ◌≤◌, ◌∙◌, refl, sym, ap, subst, inr, length, drop, map}
use Rattle.std.specs.Io.KnownBytes.{Appends}
use Rattle.std.specs.Option.{option_copied}
use Rattle.std.proofs.KnownBytes.{Appends-nil}
use Rattle.std.proofs.lemmas.List.{length-map}
use Rattle.jtree.specs.View.{data_of}
use Rattle.cover.specs.Cover.{objects_of}
use Rattle.cover.specs.View.{line_of}
use Rattle.crdx.specs.Output.Line.{lines}
use Rattle.crdx.specs.Internal.Cause.{IsCutText}
use Rattle.crdx.proofs.CoverLemmas.{other_objects, more_out, within_lines, cut_cause}
use Rattle.crdx.proofs.running.covering.write_cover.Goals as goal

pub path-init : goal.path-init
path-init g c =
    let begun = c.in_ok-covering.ensures in
    let e = option_copied c.args.envelope in
    let old = g.W.Sink.taken c.args.out.now in
    record {
      question = begun.question;
      values = begun.values_are;
      cover = begun.cover;
      written = sym (ap (λ c. length c.lines) begun.covered);
      out = subst (λ c. Appends old old (lines e (objects_of c))) (sym begun.covered) (Appends-nil old);
      unfailed = refl;
    }

pub returns-in-Err-clause-cause : goal.returns-in-Err-clause-cause
returns-in-Err-clause-cause g c =
    let inv = c.path.invariant in
    let now = c.path.covering in
    (inv.unfailed, inr (now.count, now.covered, (now.fields, rw (← inv.values, ← inv.question) inv.cover), inv.out))

pub write_lines-requires : goal.write_lines-requires
write_lines-requires g c =
    let next = c.in-Ok.ensures in
    record {
      written = subst (λ ls. c.path.written ≤ length ls) (sym c.deref.ensures.value)
          (within_lines c.covered.result.now c.path.covering.covered c.in-Ok.covering.covered next.lines.0 c.path.written c.covered.ensures next.lines.1 c.path.invariant.written);
    }

pub returns-in-Err-write_lines-clause-cause : goal.returns-in-Err-write_lines-clause-cause
returns-in-Err-write_lines-clause-cause g c =
    let inv = c.path.invariant in
    let now = c.path.covering in
    let next = c.in-Ok.covering in
    let are = c.in-Ok.ensures in
    let e = option_copied c.args.envelope in
    let before = g.W.Sink.taken c.path.out in
    let after = g.W.Sink.taken c.write_lines.new.out in
    let others = map (λ l. data_of l.tree) (drop c.path.written c.covered.result.now.lines.items) in
    let why = subst (λ ls. IsCutText (lines e (map (λ l. data_of l.tree) (drop c.path.written ls))) before after (g.W.Sink.failures c.path.out) (g.W.Sink.failures c.write_lines.new.out) c.in-Err-write_lines.cause)
    c.deref.ensures.value c.in-Err-write_lines.ensures.cause in
    cut_cause c.args.values c.args.plan e (g.W.Sink.taken c.args.out.now) before after (g.W.Sink.failures c.args.out.now) (g.W.Sink.failures c.path.out) (g.W.Sink.failures c.write_lines.new.out)
    now.count next.count now.covered next.covered others (now.fields, rw (← inv.values, ← inv.question) inv.cover) (next.fields, rw (← inv.values, ← inv.question, ← are.values, ← are.question) are.cover)
    (other_objects c.covered.result.now now.covered next.covered are.lines.0 c.path.written c.covered.ensures are.lines.1 inv.written) inv.out inv.unfailed c.in-Err-write_lines.cause why

pub path-preserved : goal.path-preserved
path-preserved g c =
    let inv = c.path.invariant in
    let now = c.path.covering in
    let next = c.in-Ok.covering in
    let are = c.in-Ok.ensures in
    let e = option_copied c.args.envelope in
    let before = g.W.Sink.taken c.path.out in
    let after = g.W.Sink.taken c.write_lines.new.out in
    let code = c.covered.result.now in
    let others = map (λ l. data_of l.tree) (drop c.path.written code.lines.items) in
    let out = subst (λ ls. Appends before after (lines e (map (λ l. data_of l.tree) (drop c.path.written ls)))) c.deref.ensures.value c.in-Ok-write_lines.ensures.out in
    let long : length code.lines.items ≡ length next.covered.lines = sym (length-map code.lines.items line_of) ∙ ap (λ x. length x.lines) c.covered.ensures in
    record {
      question = are.question ∙ inv.question;
      values = are.values ∙ inv.values;
      cover = are.cover;
      written = c.in-Ok-write_lines.ensures.all ∙ (ap length c.deref.ensures.value ∙ long);
      out = more_out e (g.W.Sink.taken c.args.out.now) before after (objects_of now.covered) others (objects_of next.covered)
          (other_objects code now.covered next.covered are.lines.0 c.path.written c.covered.ensures are.lines.1 inv.written) inv.out out;
      unfailed = c.in-Ok-write_lines.ensures.unfailed ∙ inv.unfailed;
    }

pub returns-clause-covered : goal.returns-clause-covered
returns-clause-covered g c =
    let inv = c.path.invariant in
    let e = option_copied c.args.envelope in (
      rw (← inv.values, ← inv.question, c.into_covered.ensures) (c.is_done.ensures.whole c.path-test.false),
      subst (λ d. Appends (g.W.Sink.taken c.args.out.now) (g.W.Sink.taken c.path.out) (lines e (objects_of d))) (sym c.into_covered.ensures) inv.out,
    )
