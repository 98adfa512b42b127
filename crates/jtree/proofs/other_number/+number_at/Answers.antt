use Rattle.std.proofs.Common.{ap, ◌∙◌}
use Rattle.std.proofs.lemmas.Option.{same_Some}
use Rattle.serde_json.specs.Data.{number}
use Rattle.serde_json.specs.Read.{of_json}
use Rattle.json.specs.Value.{value_view}
use Rattle.jtree.proofs.NumberText.{below}
use Rattle.jtree.proofs.other_number.+number_at.Goals as goal

pub returns-in_err-part_by-in-len1-up : goal.returns-in_err-part_by-in-len1-up
returns-in_err-part_by-in-len1-up t c = λ v n read found.
    let there = below (value_view c.args.value.now) v (number n) c.args.path.now _ c.in-len1-up.len_at_least read found in
    let none = c.in_err-part_by-in-len1-up.ensures ∙ there.2 in
    cc

pub returns-in_ok-part_by-in-len1-up : goal.returns-in_ok-part_by-in-len1-up
returns-in_ok-part_by-in-len1-up t c = λ v n read found.
    let there = below (value_view c.args.value.now) v (number n) c.args.path.now _ c.in-len1-up.len_at_least read found in
    let same = same_Some _ _ (c.in_ok-part_by-in-len1-up.ensures ∙ there.2) in
    c.number_at.ensures there.1 n (ap of_json same ∙ there.3) there.4
