use Rattle.std.proofs.Common.{refl, sym, subst, map, ◌∙◌}
use Rattle.jtree.specs.View.{data_of}
use Rattle.crdx.specs.Program.Objects.{AreObjects, none}
use Rattle.crdx.proofs.ObjectInputLemmas.{word_cause, word_added}
use Rattle.crdx.specs.Program.Profiles.{numbers_by}
use Rattle.crdx.proofs.running.object_inputs.read_objects.Goals as goal

pub loop-word-init : goal.loop-word-init
loop-word-init g c = record {
  objects = subst (λ os. AreObjects (numbers_by c.args.profile) (g.I.Inputs.lines c.args.inputs.now) _ (map data_of os)) (sym c.new-objects.ensures.items) none;
  lines = λ name ls is. is;
  reads = refl;
}

pub returns-in-Err-clause-cause : goal.returns-in-Err-clause-cause
returns-in-Err-clause-cause g c =
    let s = c.loop-word.invariant in
    word_cause (numbers_by c.args.profile) (g.I.Inputs.lines c.args.inputs.now) (g.I.Inputs.lines c.loop-word.inputs) s.lines c.args.words.now c.loop-word.word-index _ c.loop-word-test.true (g.I.Inputs.failures c.args.inputs.now)
    (g.I.Inputs.failures c.loop-word.inputs) (g.I.Inputs.failures c.read_input.new.inputs) c.in-Err.refusal.cause s.reads c.in-Err.ensures.cause

pub loop-word-preserved : goal.loop-word-preserved
loop-word-preserved g c =
    let s = c.loop-word.invariant in
    record {
      objects = word_added (numbers_by c.args.profile) (g.I.Inputs.lines c.args.inputs.now) (g.I.Inputs.lines c.loop-word.inputs) s.lines c.args.words.now c.loop-word.word-index _ _ _ c.loop-word-test.true s.objects c.in-Ok.ensures.objects;
      lines = λ name ls is. s.lines name ls (c.in-Ok.ensures.lines name ls is);
      reads = c.in-Ok.ensures.unfailed ∙ s.reads;
    }
