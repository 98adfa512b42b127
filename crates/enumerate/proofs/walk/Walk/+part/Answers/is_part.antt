use Rattle.std.proofs.Common.{rules, ◌≡◌, ◌≢◌, sym, ◌∙◌, arith}
use Rattle.jtree.specs.Data.{null as null_data}
use Rattle.jtree.specs.Nodes.{node_count}
use Rattle.jtree.specs.View.{data_of}
use Rattle.plan.specs.Samples.Candidates.{sort_of}
use Rattle.plan.specs.declared.sort.Sort.TheVariants as sort
use Rattle.enumerate.specs.Internal.Nodes.{site}
use Rattle.enumerate.proofs.walks.Costs.{costs_within}
use Rattle.enumerate.proofs.walks.Membership.{answered, row_part, part_row, list_part, part_list, null_part}
use Rattle.enumerate.proofs.lists.Lemmas.{some_nodes}
use Rattle.enumerate.proofs.rows.Parts.{weight_next}
use Rattle.enumerate.proofs.walk.Walk.+part.Goals as goal

pub is_unused_row-requires : goal.is_part-is_unused_row-requires
is_unused_row-requires g t c κs within = (omega (arith, c.decreases, weight_next c.args.self.now.plan.now c.args.node), (within, record { node = record { node = c.requires.node; sort = sym c.in-Row.ensures }; limit = c.requires.limit }))

pub is_list-requires : goal.is_part-is_list-requires
is_list-requires g t c κs within = (omega (arith, c.decreases, weight_next c.args.self.now.plan.now c.args.node), (within, record { node = record { node = c.requires.node; sort = sym c.in-List.ensures }; limit = c.requires.limit }))

pub returns-in_default : goal.is_part-returns-in_default
returns-in_default g t c =
    let q = c.args.self.now.plan.now in
    let i = c.args.node in
    let v = data_of c.args.tree.now in
    let is = null_part q i c.laws_of.ensures.rule v (λ leaf. c.in_default.not-Leaf (c.sort.ensures ∙ leaf)) (omega (arith, some_nodes v, c.requires.limit)) (c.is_null.ensures.0 c.if-is_null.true) in
    record {
      ok = (λ yes. is.1 (sym c.null_ok.ensures ∙ yes), λ part. c.null_ok.ensures ∙ is.0 part);
      steps = λ w width. omega arith;
    }

pub returns-in-Row : goal.is_part-returns-in-Row
returns-in-Row g t c =
    let q = c.args.self.now.plan.now in
    let i = c.args.node in
    let v = data_of c.args.tree.now in
    let rule = c.laws_of.ensures.rule in
    let row : sort_of (site q i) ≡ sort.Row = sym c.in-Row.ensures in
    let other : v ≢ null_data = λ none. let yes = c.is_null.ensures.1 none in let no = c.if-is_null.false in cc in
    record {
      ok = answered c.is_unused_row.result _ _ (row_part q i rule v row) (part_row q i rule v row other) c.is_unused_row.ensures.ok;
      steps = c.is_unused_row.ensures.steps;
    }

pub returns-in-List : goal.is_part-returns-in-List
returns-in-List g t c =
    let q = c.args.self.now.plan.now in
    let i = c.args.node in
    let v = data_of c.args.tree.now in
    let rule = c.laws_of.ensures.rule in
    let is_list : sort_of (site q i) ≡ sort.List = sym c.in-List.ensures in
    let other : v ≢ null_data = λ none. let yes = c.is_null.ensures.1 none in let no = c.if-is_null.false in cc in
    record {
      ok = answered c.is_list.result _ _ (list_part q i rule v) (part_list q i rule v is_list c.requires.limit other) c.is_list.ensures.ok;
      steps = c.is_list.ensures.steps;
    }

pub returns-in-Leaf : goal.is_part-returns-in-Leaf
returns-in-Leaf g t c =
    record { ok = search rules; steps = costs_within c.args.self.now.plan.now c.args.meter.now c.is_candidate.new.meter 1 (node_count (data_of c.args.tree.now)) (some_nodes (data_of c.args.tree.now)) c.is_candidate.ensures.steps }
