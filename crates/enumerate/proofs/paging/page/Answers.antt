use Rattle.std.proofs.Common.{◌≡◌, ◌+◌, ◌*◌, ◌≤◌, ◌++◌, Some, ap, subst, length, arith, sym, ◌∙◌}
use Rattle.std.proofs.lemmas.List.{length-map}
use Rattle.jtree.specs.View.{data_of}
use Rattle.plan.specs.Samples.Candidates.{IsWidth}
use Rattle.plan.specs.Samples.Steps.{delay}
use Rattle.enumerate.specs.Live.{IsStarted, LendsPage}
use Rattle.enumerate.specs.Page.{IsPage}
use Rattle.enumerate.specs.View.{resume_point, trees_of}
use Rattle.enumerate.proofs.pages.Lemmas.{started_next}
use Rattle.enumerate.proofs.paging.page.Given.{Over}
use Rattle.enumerate.proofs.paging.page.Goals as goal

started : (g : Over) (c : goal.After-drop-live-2 g) → IsStarted c.args.plan.now (resume_point c.args.after) (Some c.in-Some.live)
started g c = subst (IsStarted c.args.plan.now (resume_point c.args.after)) c.in-Some.is c.in_ok-live.ensures.ok

lent : (g : Over) (c : goal.After-drop-live-2 g)
    → LendsPage c.in-Some.live.question (resume_point c.args.after) c.args.count c.in_ok-end.end (λ items. trees_of c.lend_page.new.taker.items.items ≡ trees_of c.new-2.result.items ++ items) c.lend_page.new.self.at c.past.new.meter c.lend_page.new.meter
lent g c = c.in_ok-end.ensures.page (resume_point c.args.after) (started_next c.args.plan.now (resume_point c.args.after) c.in-Some.live (started g c))

-- nothing was taken before
taken : (g : Over) (c : goal.After-drop-live-2 g) → trees_of c.lend_page.new.taker.items.items ≡ (lent g c).items
taken g c = (lent g c).taken ∙ ap (λ ts. trees_of ts ++ (lent g c).items) c.new-2.ensures.items

pub returns-clause-page : goal.returns-clause-page
returns-clause-page g c =
    let l = lent g c in
    subst (λ us. IsPage c.args.plan.now (resume_point c.args.after) c.args.count us c.in_ok-end.end) (sym (taken g c))
    (subst (λ q. IsPage q (resume_point c.args.after) c.args.count l.items c.in_ok-end.end) (started g c).0 l.page)

pub returns-clause-steps : goal.returns-clause-steps
returns-clause-steps g c = λ w wide.
    let l = lent g c in
    let items = c.lend_page.new.taker.items.items in
    let more = subst (λ r. IsWidth r w → c.lend_page.new.meter ≤ c.past.new.meter + length l.items * delay r.limit w) (started g c).0 (l.steps w) wide in
    let counted : length l.items ≡ length items = sym (ap length (taken g c)) ∙ length-map items (λ u. data_of u) in
    let spent = subst (λ n. c.lend_page.new.meter ≤ c.past.new.meter + n * delay c.args.plan.now.limit w) counted more in
    omega (arith, c.past.ensures.steps w wide, spent)
