use Rattle.std.proofs.Common.{◌≡◌, Some, None, option_map, codes, Bor, IfOk, Bool, sym, ap, ◌∙◌, subst, rules}
use Rattle.jtree.specs.Data.{list, object}
use Rattle.jtree.specs.Path.{member_at}
use Rattle.jtree.specs.View.{data_of}
use Rattle.jtree.specs.declared.value.Tree.{Tree}
use Rattle.judge.specs.Keywords.{texts}
use Rattle.judge.specs.Asked.{member_schema}
use Rattle.judge.specs.Meets.{meets, items_pass}
use Rattle.judge.proofs.LookupLemmas.{meets_is, member_depth, schema_depth, none_pass}
use Rattle.judge.proofs.meeting.+meeting.Goals as goal

pub meets-returns-in-Object : goal.meets-returns-in-Object
meets-returns-in-Object g t c =
    let m = texts g.T.TextTests.matches g.T.FormatTests.is_format g.T.FormatTests.has_format in
    rw c.in-Object.is (subst (λ (b : Bool). IfOk c.meets_object.result (λ yes. yes ≡ b)) (sym (meets_is m c.in-Object.keywords (data_of c.args.value.now))) c.meets_object.ensures)

pub meets_all-all_hold-requires : goal.meets_all-all_hold-requires
meets_all-all_hold-requires g t c κs within =
    let there : member_at (codes "allOf") c.args.schema.now ≡ Some (list c.in-Some-List.branches) =
    sym c.get.ensures ∙ (ap (option_map (λ (x : Bor Tree). data_of x.now)) c.in-Some-List.is ∙ ap (λ (x : Tree). Some (data_of x)) c.in-Some-List.field-0-is) in
    let below = member_depth (codes "allOf") c.args.schema.now (list c.in-Some-List.branches) there in
    search rules

pub passes_any-meets_any-requires : goal.passes_any-meets_any-requires
passes_any-meets_any-requires g t c κs within =
    let there : member_at (codes "anyOf") c.args.schema.now ≡ Some (list c.in-Some-List.branches) =
    sym c.get.ensures ∙ (ap (option_map (λ (x : Bor Tree). data_of x.now)) c.in-Some-List.is ∙ ap (λ (x : Tree). Some (data_of x)) c.in-Some-List.field-0-is) in
    let below = member_depth (codes "anyOf") c.args.schema.now (list c.in-Some-List.branches) there in
    search rules

pub passes_one-meets_one-requires : goal.passes_one-meets_one-requires
passes_one-meets_one-requires g t c κs within =
    let there : member_at (codes "oneOf") c.args.schema.now ≡ Some (list c.in-Some-List.branches) =
    sym c.get.ensures ∙ (ap (option_map (λ (x : Bor Tree). data_of x.now)) c.in-Some-List.is ∙ ap (λ (x : Tree). Some (data_of x)) c.in-Some-List.field-0-is) in
    let below = member_depth (codes "oneOf") c.args.schema.now (list c.in-Some-List.branches) there in
    search rules

pub passes_not-meets-requires : goal.passes_not-meets-requires
passes_not-meets-requires g t c κs within =
    let there : member_at (codes "not") c.args.schema.now ≡ Some (data_of c.in-Some.branch.now) = sym c.get.ensures ∙ ap (option_map (λ (x : Bor Tree). data_of x.now)) c.in-Some.is in
    let below = member_depth (codes "not") c.args.schema.now (data_of c.in-Some.branch.now) there in
    search rules

pub member_passes-meets-requires : goal.member_passes-meets-requires
member_passes-meets-requires g t c κs within =
    let there : member_schema c.as_str.result.now (object c.args.schema.now) ≡ Some (data_of c.in-Some.part.now) = sym c.member_schema.ensures ∙ ap (option_map (λ (x : Bor Tree). data_of x.now)) c.in-Some.is in
    let below = schema_depth c.as_str.result.now c.args.schema.now (data_of c.in-Some.part.now) there in
    search rules

pub items_pass-all_meet-requires : goal.items_pass-all_meet-requires
items_pass-all_meet-requires g t c κs within =
    let there : member_at (codes "items") c.args.schema.now ≡ Some (data_of c.in-Some.part.now) = sym c.get.ensures ∙ ap (option_map (λ (x : Bor Tree). data_of x.now)) c.in-Some.is in
    let below = member_depth (codes "items") c.args.schema.now (data_of c.in-Some.part.now) there in
    search rules

pub items_pass-returns-in-None : goal.items_pass-returns-in-None
items_pass-returns-in-None g t c =
    let m = texts g.T.TextTests.matches g.T.FormatTests.is_format g.T.FormatTests.has_format in
    let none : member_at (codes "items") c.args.schema.now ≡ None = sym c.get.ensures ∙ ap (option_map (λ (x : Bor Tree). data_of x.now)) c.in-None.is in
    sym (none_pass c.args.items.now) ∙ ap (λ o. items_pass (option_map (meets m) o) c.args.items.now) (sym none)
