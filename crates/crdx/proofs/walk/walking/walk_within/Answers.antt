use Rattle.std.proofs.Common.{◌≡◌, ◌∙◌, ◌≤◌, refl, subst, inl, inr, arith, Bool, true, false, not, [], Option}
use Rattle.std.proofs.KnownBytes.{Keeps-refl, Appends-nil}
use Rattle.std.specs.Option.{option_copied}
use Rattle.jtree.specs.Data.{Data}
use Rattle.enumerate.specs.Live.{IsStarted, IsNextSample, place_after}
use Rattle.enumerate.specs.View.{resume_point}
use Rattle.jtree.specs.Failures.{HasFailed}
use Rattle.crdx.specs.Internal.Progress.{AddsBlock, IsPartialBlock, IsSoFar, IsWithinLines}
use Rattle.crdx.specs.Output.PartialOutput.{IsPartialOutput}
use Rattle.crdx.specs.declared.walk.fault.WFault.TheVariants.{NoMemory}
use Rattle.crdx.proofs.StopLemmas.{can_go_on}
use Rattle.crdx.proofs.WalkLemmas.{begun, gone_on, less_left, all_written, cut_block, cut_flush, nothing_left, not_ended_at, not_refused, still_so_far}
use Rattle.crdx.proofs.walk.walking.walk_within.Given.{Over}
use Rattle.crdx.proofs.walk.walking.walk_within.Goals as goal
use Rattle.crdx.proofs.walk.walking.walk_within.Goals.{then-pages-test+else-so_far-extent, else-pages-test}

not_ended : (end : Bool) → not end ≡ true → end ≡ false
not_ended true h = cc
not_ended false h = refl

ended : (end : Bool) → not end ≡ false → end ≡ false → ⊥
ended true h f = cc
ended false h f = cc

pub returns-in_default : goal.returns-in_default
returns-in_default g c = record {
  lines = record {
    items = [];
    page = nothing_left c.args.plan.now (resume_point c.args.after) c.args.extent.total (subst (IsStarted c.args.plan.now (resume_point c.args.after)) c.in_default.is c.in-Ok.ensures.ok);
    counted = refl;
    written = Appends-nil _;
  };
  sample = c.in-Ok.ensures.sample;
  refused = λ none. absurd (not_refused c.args.plan.now (resume_point c.args.after) c.in-Ok.ensures.sample none);
  cut = tt;
  goes_on = tt;
  unfailed = refl;
  steps = λ w wide. omega (arith, c.past.ensures.steps w wide);
}

pub returns-in-Err : goal.returns-in-Err
returns-in-Err g c =
    let cut : IsPartialOutput c.args.plan.now (resume_point c.args.after) c.args.extent.total (option_copied c.args.envelope) (g.W.Sink.taken c.args.out.now) (g.W.Sink.taken c.args.out.now) (g.W.Sink.failures c.args.out.now) (g.W.Sink.failures c.args.out.now) (NoMemory 0) =
    (refl, inl (refl, Keeps-refl _)) in
    record {
      lines = tt;
      sample = tt;
      refused = λ none. (inr refl, Keeps-refl _);
      cut = cut;
      goes_on = can_go_on c.args.plan.now (resume_point c.args.after) c.args.extent.total (option_copied c.args.envelope) (g.W.Sink.taken c.args.out.now) (g.W.Sink.taken c.args.out.now) (g.W.Sink.failures c.args.out.now) (g.W.Sink.failures c.args.out.now) (NoMemory 0) (c.args.extent.total_least) cut;
      unfailed = tt;
      steps = tt;
    }

pub pages-init : goal.pages-init
pages-init g c =
    let started = subst (IsStarted c.args.plan.now (resume_point c.args.after)) c.in-Some.is c.in-Ok.ensures.ok in
    record {
      so_far = begun c.args.plan.now (resume_point c.args.after) c.args.extent.total (option_copied c.args.envelope) c.in-Some.live (g.W.Sink.taken c.args.out.now) started;
      sample = c.in-Ok.ensures.sample;
      question = started.0;
      envelope = c.new-block.ensures.same;
      failures = refl;
      steps = λ w wide. omega (arith, c.past.ensures.steps w wide);
    }

pub write_block-requires-clause-current : goal.write_block-requires-clause-current
write_block-requires-clause-current g c = not_ended_at c.args.plan.now (resume_point c.args.after) c.args.extent.total (option_copied c.args.envelope) c.pages.so_far.lines c.pages.so_far.end c.pages.live.at _ _ c.pages.invariant.so_far
    (not_ended c.pages.so_far.end c.pages-test.true)

-- the lines so far, once they are flushed
flushed : (g : Over) (c : goal.In-Ok-write_block g) → IsSoFar c.args.plan.now (resume_point c.args.after) c.args.extent.total (option_copied c.args.envelope) c.pages.so_far.lines c.pages.so_far.end c.pages.live.at
    (g.W.Sink.taken c.args.out.now) (g.W.Sink.taken c.flush_lines.new.out)
flushed g c = still_so_far c.args.plan.now (resume_point c.args.after) c.args.extent.total (option_copied c.args.envelope) c.pages.so_far.lines c.pages.live.at c.pages.so_far.end _ _ _ c.flush_lines.ensures.keeps c.pages.invariant.so_far

unfailed : (g : Over) (c : goal.In-Ok-write_block g) → g.W.Sink.failures c.flush_lines.new.out ≡ g.W.Sink.failures c.args.out.now
unfailed g c = c.in-Ok-flush_lines.ensures.unfailed ∙ c.pages.invariant.failures

pub returns-in-Err-flush_lines : goal.returns-in-Err-flush_lines
returns-in-Err-flush_lines g c =
    let q = c.args.plan.now in
    let after = resume_point c.args.after in
    let total = c.args.extent.total in
    let e = option_copied c.args.envelope in
    let has = subst (λ n. HasFailed n (g.W.Sink.failures c.flush_lines.new.out)) c.pages.invariant.failures c.in-Err-flush_lines.ensures.failed.1 in
    let cut : IsPartialOutput q after total e (g.W.Sink.taken c.args.out.now) (g.W.Sink.taken c.flush_lines.new.out) (g.W.Sink.failures c.args.out.now) (g.W.Sink.failures c.flush_lines.new.out) c.in-Err-flush_lines.fault =
    rw (c.in-Err-flush_lines.ensures.failed.0) (cut_flush q after total e (c.pages_agree.ensures.items, c.pages_agree.ensures.end) c.pages.so_far.lines c.pages.live.at c.pages.so_far.end _ _ _ _ _
    c.pages.invariant.sample (not_ended c.pages.so_far.end c.pages-test.true) (omega arith) c.pages.invariant.so_far c.flush_lines.ensures.keeps has) in
    record {
      lines = tt;
      sample = tt;
      refused = λ none. absurd (not_refused q after c.pages.invariant.sample none);
      cut = cut;
      goes_on = can_go_on q after total e _ _ _ _ c.in-Err-flush_lines.fault (omega arith) cut;
      unfailed = tt;
      steps = tt;
    }

pub returns-in-Err-write_block : goal.returns-in-Err-write_block
returns-in-Err-write_block g c =
    let q = c.args.plan.now in
    let after = resume_point c.args.after in
    let total = c.args.extent.total in
    let e = option_copied c.args.envelope in
    let failures : g.W.Sink.failures c.flush_lines.new.out ≡ g.W.Sink.failures c.args.out.now = c.in-Ok-flush_lines.ensures.unfailed ∙ c.pages.invariant.failures in
    let out = still_so_far q after total e c.pages.so_far.lines c.pages.live.at c.pages.so_far.end _ _ _ c.flush_lines.ensures.keeps c.pages.invariant.so_far in
    let part : (place : Option Data) → IsNextSample q place c.pages.live.at
    → IsPartialBlock q place c.block_lines-count.result e c.pages.so_far.lines (g.W.Sink.taken c.flush_lines.new.out) (g.W.Sink.taken c.write_block.new.out) (g.W.Sink.failures c.args.out.now) (g.W.Sink.failures c.write_block.new.out) c.in-Err-write_block.fault =
    rw (← c.pages.invariant.question, ← c.pages.invariant.envelope, ← failures) c.in-Err-write_block.ensures.err in
    let cut : IsPartialOutput q after total e (g.W.Sink.taken c.args.out.now) (g.W.Sink.taken c.write_block.new.out) (g.W.Sink.failures c.args.out.now) (g.W.Sink.failures c.write_block.new.out) c.in-Err-write_block.fault =
    cut_block q after total e (c.pages_agree.ensures.items, c.pages_agree.ensures.end) c.block_lines-count.result c.pages.so_far.lines c.pages.live.at c.pages.so_far.end _ _ _ _ _ c.in-Err-write_block.fault
    c.pages.invariant.sample (not_ended c.pages.so_far.end c.pages-test.true) (omega arith) (omega arith) out part in
    record {
      lines = tt;
      sample = tt;
      refused = λ none. absurd (not_refused q after c.pages.invariant.sample none);
      cut = cut;
      goes_on = can_go_on q after total e _ _ _ _ c.in-Err-write_block.fault (omega arith) cut;
      unfailed = tt;
      steps = tt;
    }

adds : (g : Over) (c : goal.In-Ok-write_block g) (place : Option Data) → IsNextSample c.args.plan.now place c.pages.live.at
    → AddsBlock c.args.plan.now place c.block_lines-count.result (option_copied c.args.envelope) c.pages.so_far.lines c.in-Ok-write_block.so_far.lines c.in-Ok-write_block.so_far.end c.write_block.new.live.at (g.W.Sink.taken c.flush_lines.new.out) (g.W.Sink.taken c.write_block.new.out)
adds g c = rw (← c.pages.invariant.question, ← c.pages.invariant.envelope) c.in-Ok-write_block.ensures.block

within : (g : Over) (c : goal.In-Ok-write_block g) → IsWithinLines c.args.plan.now c.pages.so_far.lines c.in-Ok-write_block.so_far.lines c.pages.meter c.write_block.new.meter
within g c =
    let s = c.pages.invariant.so_far in
    let steps : (place : Option Data) → IsNextSample c.args.plan.now place c.pages.live.at → IsWithinLines c.args.plan.now c.pages.so_far.lines c.in-Ok-write_block.so_far.lines c.pages.meter c.write_block.new.meter =
    rw (← c.pages.invariant.question) c.in-Ok-write_block.ensures.steps in
    steps (place_after (resume_point c.args.after) s.items) s.next

pub pages-smaller : goal.pages-smaller
pages-smaller g c =
    less_left c.args.plan.now (resume_point c.args.after) c.args.extent.total (option_copied c.args.envelope) c.block_lines-count.result c.pages.so_far.lines c.in-Ok-write_block.so_far.lines c.pages.live.at c.write_block.new.live.at
    c.pages.so_far.end c.in-Ok-write_block.so_far.end _ _ _ (not_ended c.pages.so_far.end c.pages-test.true) (omega arith) (omega arith) (flushed g c) (adds g c)

pub pages-preserved : goal.pages-preserved
pages-preserved g c = record {
  so_far = gone_on c.args.plan.now (resume_point c.args.after) c.args.extent.total (option_copied c.args.envelope) c.block_lines-count.result c.pages.so_far.lines c.in-Ok-write_block.so_far.lines c.pages.live.at c.write_block.new.live.at
      c.pages.so_far.end c.in-Ok-write_block.so_far.end _ _ _ (not_ended c.pages.so_far.end c.pages-test.true) (omega arith) (flushed g c) (adds g c);
  sample = c.pages.invariant.sample;
  question = c.in-Ok-write_block.ensures.same ∙ c.pages.invariant.question;
  envelope = c.in-Ok-write_block.ensures.envelope ∙ c.pages.invariant.envelope;
  failures = c.in-Ok-write_block.ensures.unfailed ∙ unfailed g c;
  steps = λ w wide. omega (arith, c.pages.invariant.steps w wide, within g c w wide);
}

pub returns : goal.returns
returns g c =
    let full : c.pages.so_far.end ≡ false → c.args.extent.total ≤ c.pages.so_far.lines = elim c.pages-test.branch [
      | then-pages-test+else-so_far-extent w ↦ λ f. w.if-so_far-extent.false
      | else-pages-test w ↦ λ f. absurd (ended c.pages.so_far.end w.pages-test.false f)
    ] in
    record {
      lines = all_written c.args.plan.now (resume_point c.args.after) c.args.extent.total (option_copied c.args.envelope) c.pages.so_far.lines c.pages.so_far.end c.pages.live.at _ _ full c.pages.invariant.so_far;
      sample = c.pages.invariant.sample;
      refused = λ none. absurd (not_refused c.args.plan.now (resume_point c.args.after) c.pages.invariant.sample none);
      cut = tt;
      goes_on = tt;
      unfailed = c.pages.invariant.failures;
      steps = c.pages.invariant.steps;
    }
