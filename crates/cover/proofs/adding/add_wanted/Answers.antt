use Rattle.std.proofs.Common.{◌≡◌, ◌≤◌, ◌∙◌, refl, sym, subst, ap, arith, Bool, true, false, not, All, Contains, length, take, option_map}
use Rattle.std.proofs.lemmas.List.{take_all}
use Rattle.jtree.specs.View.{data_of}
use Rattle.enumerate.specs.View.{tree_of}
use Rattle.cover.specs.There.{is_there}
use Rattle.cover.specs.Wanted.{Wanted, with_any}
use Rattle.cover.specs.Internal.First.{IsFirstSample}
use Rattle.cover.specs.Internal.Ways.{path_of}
use Rattle.cover.specs.declared.known.Known.{Known}
use Rattle.cover.proofs.KnownLemmas.{grown_same, with_line, with_missed, lacking_below, known_found, known_missed}
use Rattle.cover.proofs.LineLemmas.{added_had, added_line, added_missed, added_below}
use Rattle.cover.proofs.adding.add_wanted.Goals as goal
use Rattle.cover.proofs.adding.add_wanted.Goals.{in-Some+in_ok-push-in-Some, in-None+in_ok-push-in-None}

some_found : (b : Bool) → true ≡ not b → b ≡ false
some_found false e = refl
some_found true e = absurd (cc)

pub lines_without-lacking-requires-clause-without : goal.lines_without-lacking-requires-clause-without
lines_without-lacking-requires-clause-without g c =
    let o = option_map (λ v. data_of v.now) c.args.aim.value in
    let p = path_of c.args.aim.steps.now in
    subst (λ ls. All (λ l. is_there o p (data_of l.tree) ≡ false) (take c.args.above.lacking ls)) (sym c.as_slice.ensures.value) (lacking_below o c.args.covered.now p c.args.above c.requires.above)

pub returns-then-lacking-len-clause-known : goal.returns-then-lacking-len-clause-known
returns-then-lacking-len-clause-known g c = λ none.
    let old = c.args.covered.now in
    let p = path_of c.args.aim.steps.now in
    let lacking = c.lines_without-lacking.result in
    let within : lacking ≤ length old.lines.items = subst (λ ls. lacking ≤ length ls) c.as_slice.ensures.value c.lines_without-lacking.ensures.within in
    let lack = subst (λ ls. All (λ l. is_there (option_map (λ v. data_of v.now) c.args.aim.value) p (data_of l.tree) ≡ false) (take lacking ls)) c.as_slice.ensures.value c.lines_without-lacking.ensures.without in
    known_found old old p (record { lacking = lacking; missed = false }) (grown_same old) within
    (subst (λ v. All (λ l. is_there (option_map (λ v. data_of v.now) v) p (data_of l.tree) ≡ false) (take lacking old.lines.items)) none lack) refl

pub returns-then-lacking-len-clause-adds : goal.returns-then-lacking-len-clause-adds
returns-then-lacking-len-clause-adds g c = λ q wanted is covered.
    let w : Wanted = record { path = c.args.aim.path.now; value = option_map (λ v. data_of v.now) c.args.aim.value } in
    let h = c.lines_without-lacking.ensures.next (omega arith) in
    added_had q wanted w (path_of c.args.aim.steps.now) c.requires.text c.args.covered.now covered h.0 (subst (λ ls. Contains ls h.0) c.as_slice.ensures.value h.1.0) h.1.1

pub returns-then-above-clause-known : goal.returns-then-above-clause-known
returns-then-above-clause-known g c = λ none.
    let old = c.args.covered.now in
    let p = path_of c.args.aim.steps.now in
    let lacking = c.lines_without-lacking.result in
    let within : lacking ≤ length old.lines.items = subst (λ ls. lacking ≤ length ls) c.as_slice.ensures.value c.lines_without-lacking.ensures.within in
    let lack = subst (λ ls. All (λ l. is_there (option_map (λ v. data_of v.now) c.args.aim.value) p (data_of l.tree) ≡ false) (take lacking ls)) c.as_slice.ensures.value c.lines_without-lacking.ensures.without in
    let named = c.in_ok-wanted.ensures ∙ (ap (λ v. record { path = c.args.aim.path.now; value = option_map (λ v. data_of v.now) v }) none ∙ ap with_any (sym c.requires.text)) in
    known_missed old (record { lines = old.lines; missed = c.push.new.self }) p (record { lacking = lacking; missed = true }) c.in_ok-wanted.wanted
    (with_missed old (record { lines = old.lines; missed = c.push.new.self }) c.in_ok-wanted.wanted refl c.in_ok-push.ensures.items) within
    (subst (λ v. All (λ l. is_there (option_map (λ v. data_of v.now) v) p (data_of l.tree) ≡ false) (take lacking old.lines.items)) none lack) c.in_ok-push.ensures.items named

pub returns-then-above-clause-grown : goal.returns-then-above-clause-grown
returns-then-above-clause-grown g c = with_missed c.args.covered.now (record { lines = c.args.covered.now.lines; missed = c.push.new.self }) c.in_ok-wanted.wanted refl c.in_ok-push.ensures.items

pub returns-then-above-clause-adds : goal.returns-then-above-clause-adds
returns-then-above-clause-adds g c = λ q wanted is covered.
    let w : Wanted = record { path = c.args.aim.path.now; value = option_map (λ v. data_of v.now) c.args.aim.value } in
    let above = c.requires.above in
    added_below c.paths_have_one_text.ensures q wanted w (path_of c.args.aim.steps.now) above.front above.rest c.requires.text above.whole c.args.covered.now
    (record { lines = c.args.covered.now.lines; missed = c.push.new.self }) c.in_ok-wanted.wanted covered (above.known.missed c.if-above.true) c.in_ok-wanted.ensures refl c.in_ok-push.ensures.items

pub returns-clause-known : goal.returns-clause-known
returns-clause-known g c = λ none.
    let old = c.args.covered.now in
    let now = c.match-tree.covered in
    let p = path_of c.args.aim.steps.now in
    let k : Known = record { lacking = c.lines_without-lacking.result; missed = c.is_none-missed.result } in
    let within : k.lacking ≤ length old.lines.items = subst (λ ls. k.lacking ≤ length ls) c.as_slice.ensures.value c.lines_without-lacking.ensures.within in
    let lack = subst (λ ls. All (λ l. is_there (option_map (λ v. data_of v.now) c.args.aim.value) p (data_of l.tree) ≡ false) (take k.lacking ls)) c.as_slice.ensures.value c.lines_without-lacking.ensures.without in
    let lack_any = subst (λ v. All (λ l. is_there (option_map (λ v. data_of v.now) v) p (data_of l.tree) ≡ false) (take k.lacking old.lines.items)) none lack in
    let named = c.in_ok-wanted.ensures ∙ (ap (λ v. record { path = c.args.aim.path.now; value = option_map (λ v. data_of v.now) v }) none ∙ ap with_any (sym c.requires.text)) in
    elim c.match-tree.branch [
      | in-Some+in_ok-push-in-Some x ↦ known_found old now p k
          (with_line old now (record { wanted = c.in_ok-wanted.wanted; tree = x.in-Some.tree }) (ap (λ d. d.lines.items) x.covered-is ∙ x.in_ok-push-in-Some.ensures.items) (ap (λ d. d.missed.items) x.covered-is))
          within lack_any (some_found c.is_none-missed.result (rw x.in-Some.is at c.is_none-missed.ensures))
      | in-None+in_ok-push-in-None x ↦ known_missed old now p k c.in_ok-wanted.wanted
          (with_missed old now c.in_ok-wanted.wanted (ap (λ d. d.lines.items) x.covered-is) (ap (λ d. d.missed.items) x.covered-is ∙ x.in_ok-push-in-None.ensures.items))
          within lack_any (ap (λ d. d.missed.items) x.covered-is ∙ x.in_ok-push-in-None.ensures.items) named
    ]

pub returns-clause-grown : goal.returns-clause-grown
returns-clause-grown g c =
    let old = c.args.covered.now in
    let now = c.match-tree.covered in
    elim c.match-tree.branch [
      | in-Some+in_ok-push-in-Some x ↦ with_line old now (record { wanted = c.in_ok-wanted.wanted; tree = x.in-Some.tree }) (ap (λ d. d.lines.items) x.covered-is ∙ x.in_ok-push-in-Some.ensures.items) (ap (λ d. d.missed.items) x.covered-is)
      | in-None+in_ok-push-in-None x ↦ with_missed old now c.in_ok-wanted.wanted (ap (λ d. d.lines.items) x.covered-is) (ap (λ d. d.missed.items) x.covered-is ∙ x.in_ok-push-in-None.ensures.items)
    ]

pub returns-clause-adds : goal.returns-clause-adds
returns-clause-adds g c = λ q wanted is covered.
    let o = option_map (λ v. data_of v.now) c.args.aim.value in
    let w : Wanted = record { path = c.args.aim.path.now; value = o } in
    let p = path_of c.args.aim.steps.now in
    let text = c.requires.text in
    let one = c.paths_have_one_text.ensures in
    let old = c.args.covered.now in
    let long : length old.lines.items ≤ c.lines_without-lacking.result = subst (λ ls. length ls ≤ c.lines_without-lacking.result) c.as_slice.ensures.value (omega arith) in
    let lack = subst (λ ls. All (λ l. is_there o p (data_of l.tree) ≡ false) (take c.lines_without-lacking.result ls)) c.as_slice.ensures.value c.lines_without-lacking.ensures.without in
    let new = subst (λ ls. All (λ l. is_there o p (data_of l.tree) ≡ false) ls) (take_all c.lines_without-lacking.result old.lines.items long) lack in
    let found = subst (λ q. IsFirstSample q o p (tree_of c.in_ok-plan.tree)) (sym is) c.in_ok-plan.ensures.sample in
    elim c.match-tree.branch [
      | in-Some+in_ok-push-in-Some x ↦ added_line one q wanted w p text old c.match-tree.covered (record { wanted = c.in_ok-wanted.wanted; tree = x.in-Some.tree }) covered new
          (subst (λ t. IsFirstSample q o p (tree_of t)) x.in-Some.is found)
          c.in_ok-wanted.ensures (ap (λ d. d.lines.items) x.covered-is ∙ x.in_ok-push-in-Some.ensures.items) (ap (λ d. d.missed.items) x.covered-is)
      | in-None+in_ok-push-in-None x ↦ added_missed one q wanted w p text old c.match-tree.covered c.in_ok-wanted.wanted covered
          (subst (λ t. IsFirstSample q o p (tree_of t)) x.in-None.is found)
          c.in_ok-wanted.ensures (ap (λ d. d.lines.items) x.covered-is) (ap (λ d. d.missed.items) x.covered-is ∙ x.in_ok-push-in-None.ensures.items)
    ]
