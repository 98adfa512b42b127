use Rattle.std.proofs.Common.{refl, inl, inr}
use Rattle.std.proofs.KnownBytes.{Keeps-refl}
use Rattle.cover.specs.View.{covered_of}
use Rattle.crdx.proofs.CoverLemmas.{all_begun}
use Rattle.crdx.specs.declared.arguments.request.Request.TheVariants.{Cover}
use Rattle.crdx.proofs.running.covering.cover_with.Goals as goal

pub returns-in-Err : goal.returns-in-Err
returns-in-Err g c = record {
  done = tt;
  covered = tt;
  unfailed = tt;
  cause = inl (
    c.in-Err.ensures.cause (Cover c.args.arguments.now) refl,
    record { kept = Keeps-refl (g.W.Sink.taken c.args.out.now); unfailed = refl },
  );
}

pub returns-in-Err-write_cover : goal.returns-in-Err-write_cover
returns-in-Err-write_cover g c =
    let found = c.in-Ok.found in
    record {
      done = tt;
      covered = tt;
      unfailed = tt;
      cause = inr (found.plan, found.envelope, c.in-Ok.ensures.requested, rw (c.into.ensures, ← c.as_ref.ensures.value) c.in-Err-write_cover.ensures.cause);
    }

pub returns-in-Ok-missed_lines : goal.returns-in-Ok-missed_lines
returns-in-Ok-missed_lines g c =
    let found = c.in-Ok.found in
    let covered = c.in-Ok-write_cover.ensures.covered in
    record {
      done = refl;
      covered = (found.plan, found.envelope, covered_of c.in-Ok-write_cover.covered, c.in-Ok.ensures.requested, covered.0, rw (← c.as_ref.ensures.value) covered.1);
      unfailed = c.in-Ok-write_cover.ensures.unfailed;
      cause = tt;
    }

-- there is no memory to say what no sample has, and all lines are out
pub returns : goal.returns
returns g c =
    let found = c.in-Ok.found in
    let covered = c.in-Ok-write_cover.ensures.covered in
    let begun = all_begun c.args.arguments.now.values found.plan (covered_of c.in-Ok-write_cover.covered) covered.0 in
    record {
      done = tt;
      covered = tt;
      unfailed = tt;
      cause = rw c.into-in-Err-missed_lines.ensures (inr (
        found.plan,
        found.envelope,
        c.in-Ok.ensures.requested,
        (c.in-Ok-write_cover.ensures.unfailed, inr (begun.0, covered_of c.in-Ok-write_cover.covered, begun.1, rw (← c.as_ref.ensures.value) covered.1)),
      ));
    }
