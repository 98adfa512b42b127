use Rattle.std.proofs.Common.{◌≡◌, ◌∙◌, [], map, not, sym, ap, subst}
use Rattle.std.proofs.lemmas.Bool.Decides.{not_from_Decides}
use Rattle.std.proofs.lemmas.Result.{err_from_is_err_and}
use Rattle.jtree.specs.View.{data_of}
use Rattle.schema.specs.declared.profile.Profile.{Profile}
use Rattle.schema.specs.declared.profile.Profile.TheVariants.{Core, Cluster}
use Rattle.plan.specs.Pools.Document.{HasFormBy, pools_of}
use Rattle.plan.specs.Pools.PlanFault.{HasGoodPaths}
use Rattle.suggest.specs.View.{trees_of, wanted_of}
use Rattle.suggest.specs.Internal.Parts.{general_with, suggestions_from, document_from}
use Rattle.suggest.specs.Suggested.Document.{CanBeRead, general_of, suggested_numbers, suggestions_by, suggested_document}
use Rattle.suggest.specs.Suggested.Fault.{AreVaried}
use Rattle.suggest.specs.Suggested.Without.{taken_out, without_paths}
use Rattle.suggest.proofs.DocumentLemmas.{said_around}
use Rattle.suggest.proofs.FormLemmas.{AreNumbersBy, suggested_form, cluster_numbers, core_numbers}
use Rattle.suggest.proofs.GoodLemmas.{suggested_paths}
use Rattle.suggest.proofs.JudgingLemmas.{varied_fault, without_fault}
use Rattle.suggest.proofs.NumberLemmas.{core_has_none}
use Rattle.suggest.proofs.RootLemmas.{root_no_leaf}
use Rattle.suggest.proofs.document.suggested_pools.Goals as goal
use Rattle.suggest.proofs.document.suggested_pools.Goals.{After-deref, In_ok-check_varied, In_ok-document}

-- the objects are those without the paths that never occur
are_left : (c : After-deref) → record (wanted_of c.args.wanted.now) { objects = trees_of c.deref.result.now } ≡ without_paths c.args.schema.now (wanted_of c.args.wanted.now)
are_left c =
    let w = wanted_of c.args.wanted.now in
    ap (λ vs. record w { objects = vs }) (ap trees_of c.deref.ensures.value ∙ (c.in_ok-objects.ensures ∙ ap (λ N. map (λ v. taken_out w.without [] N v) w.objects) c.root-root.ensures.node))

are_varied : (c : In_ok-check_varied) → AreVaried c.args.schema.now (without_paths c.args.schema.now (wanted_of c.args.wanted.now))
are_varied c = subst (AreVaried c.args.schema.now) (are_left (goal.at.In_ok-check_varied c).After-deref) c.in_ok-check_varied.ensures.ok

is_suggested : (c : In_ok-document) → data_of c.in_ok-document.document ≡ suggested_document c.args.limits (data_of c.args.raw.now) c.args.schema.now (wanted_of c.args.wanted.now)
is_suggested c =
    let w = wanted_of c.args.wanted.now in
    let left = without_paths c.args.schema.now w in
    let raw = data_of c.args.raw.now in
    let general = c.in_ok-general.ensures ∙ ap (general_with (not c.is_empty-beside.result) c.args.limits) c.root-root.ensures.node in
    let said = c.in_ok-suggestions.ensures ∙ ((λ j. suggestions_from w.varied (general j) (are_left (goal.at.In_ok-document c).After-deref j) raw (c.root-root.ensures.node j))
    ∙ said_around c.args.wanted.now.varied.now (not c.is_empty-beside.result) c.args.limits raw c.args.schema.now left (ap not c.is_empty-beside.ensures)) in
    c.in_ok-document.ensures ∙ λ j. document_from (general j) w.without (said j)

pub returns-in_err-check_varied-clause-err : goal.returns-in_err-check_varied-clause-err
returns-in_err-check_varied-clause-err c =
    let p = err_from_is_err_and c.from_residual-in_err-check_varied.result c.from_residual-in_err-check_varied.ensures.1 in
    rw (p.1, p.2) (varied_fault c.args.limits (data_of c.args.raw.now) c.args.schema.now (wanted_of c.args.wanted.now) (trees_of c.deref.result.now) _
    (are_left (goal.at.returns-in_err-check_varied-clause-err c).After-deref) c.in_err-check_varied.ensures.err)

pub returns-in_err-check_without-clause-err : goal.returns-in_err-check_without-clause-err
returns-in_err-check_without-clause-err c =
    let p = err_from_is_err_and c.from_residual-in_err-check_without.result c.from_residual-in_err-check_without.ensures.1 in
    rw (p.1, p.2) (without_fault c.args.limits (data_of c.args.raw.now) c.args.schema.now (wanted_of c.args.wanted.now) _
    (are_varied (goal.at.returns-in_err-check_without-clause-err c).In_ok-check_varied) c.in_err-check_without.ensures.err)

pub returns-clause-document : goal.returns-clause-document
returns-clause-document c = is_suggested (goal.at.returns-clause-document c).In_ok-document

has_form : (profile : Profile) (c : In_ok-document) → AreNumbersBy profile (suggested_numbers c.args.schema.now) → HasFormBy profile (data_of c.in_ok-document.document)
has_form profile c numbers =
    let w = wanted_of c.args.wanted.now in
    let root = c.args.schema.now in
    subst (HasFormBy profile) (sym (is_suggested c))
    (suggested_form profile c.args.limits root w.without (suggestions_by w.varied (general_of c.args.limits root) (without_paths root w) (data_of c.args.raw.now) root) numbers)

pub returns-clause-form : goal.returns-clause-form
returns-clause-form c = has_form Cluster (goal.at.returns-clause-form c).In_ok-document (cluster_numbers c.args.schema.now)

pub returns-clause-core : goal.returns-clause-core
returns-clause-core c = λ written core nodes.
    has_form Core (goal.at.returns-clause-core c).In_ok-document (core_numbers c.args.schema.now (core_has_none written c.args.schema.now core nodes))

pub returns-clause-no_numbers : goal.returns-clause-no_numbers
returns-clause-no_numbers c = λ none. has_form Core (goal.at.returns-clause-no_numbers c).In_ok-document (core_numbers c.args.schema.now none)

pub returns-clause-paths : goal.returns-clause-paths
returns-clause-paths c =
    let root = c.args.schema.now in
    let schema = c.root-root.ensures.schema in
    subst (λ d. HasGoodPaths root (pools_of d)) (sym (is_suggested (goal.at.returns-clause-paths c).In_ok-document))
    (suggested_paths c.args.limits (data_of c.args.raw.now) root (wanted_of c.args.wanted.now) schema.1.nodes.ordered (root_no_leaf root schema) c.in_ok-check_without.ensures.ok)

pub returns-then-not-branch-clause-err : goal.returns-then-not-branch-clause-err
returns-then-not-branch-clause-err c =
    let is = is_suggested (goal.at.returns-then-not-branch-clause-err c).In_ok-document in (
      are_varied (goal.at.returns-then-not-branch-clause-err c).In_ok-check_varied,
      c.in_ok-check_without.ensures.ok,
      λ read. not_from_Decides c.in_ok-can_be_read.field-0 c.in_ok-can_be_read.ensures c.if-not-branch.true (subst (CanBeRead c.args.limits) (sym is) read),
    )
