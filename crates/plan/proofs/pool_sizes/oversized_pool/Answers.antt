use Rattle.std.proofs.Common.{◌∙◌, codes}
use Rattle.jtree.specs.Data.{AreMembers}
use Rattle.jtree.specs.Path.{under}
use Rattle.jtree.specs.View.{data_of}
use Rattle.plan.specs.Pools.Document.{pools_of, entries_of}
use Rattle.plan.specs.declared.pool_sizes.PoolName.TheVariants.{Any, Fixed, FixedAt, Integers, Names, Numbers, Paths, At, Present, Strings}
use Rattle.plan.proofs.PoolLemmas.{integers_count, texts_count, all_count, lists_count, IsTested, AreTested, first_oversized}
use Rattle.plan.proofs.pool_sizes.oversized_pool.Goals as goal

pub returns : goal.returns
returns c =
    let d = data_of c.args.document.now in
    let P = pools_of d in
    let l = c.args.limits in
    let any : IsTested l P Any c.over.result = rw (c.count-any.ensures ∙ all_count (entries_of (under d (codes "any")))) at c.over.ensures in
    let fixed : IsTested l P Fixed c.over-2.result = rw (lists_count c.lists_of-fixed.result.now P.fixed c.lists_of-fixed.ensures.lists) at c.over-2.ensures in
    let fixed_list : AreTested FixedAt l.entries P.fixed c.long_fixed.result = rw c.lists_of-fixed.ensures.lists at c.long_fixed.ensures in
    let integers : IsTested l P Integers c.over-3.result = rw (c.count-integers.ensures ∙ integers_count (entries_of (under d (codes "integers")))) at c.over-3.ensures in
    let names : IsTested l P Names c.over-4.result = rw (c.count-names.ensures ∙ texts_count (entries_of (under d (codes "names")))) at c.over-4.ensures in
    let numbers : IsTested l P Numbers c.over-5.result = rw c.count-numbers.ensures at c.over-5.ensures in
    let paths : IsTested l P Paths c.over-6.result = rw (lists_count c.lists_of-paths.result.now P.paths c.lists_of-paths.ensures.lists) at c.over-6.ensures in
    let list : AreTested At l.entries P.paths c.long_path.result = rw c.lists_of-paths.ensures.lists at c.long_path.ensures in
    let present : IsTested l P Present c.over-7.result = rw (c.count-present.ensures ∙ texts_count (entries_of (under d (codes "present")))) at c.over-7.ensures in
    let strings : IsTested l P Strings c.over-8.result = rw (c.count-strings.ensures ∙ texts_count (entries_of (under d (codes "strings")))) at c.over-8.ensures in
    let of : AreMembers P.fixed = rw c.lists_of-fixed.ensures.lists at c.lists_of-fixed.ensures.ordered in
    let op : AreMembers P.paths = rw c.lists_of-paths.ensures.lists at c.lists_of-paths.ensures.ordered in
    rw (c.or-9.ensures, c.or-8.ensures, c.or-7.ensures, c.or-6.ensures, c.or-5.ensures, c.or-4.ensures, c.or-3.ensures, c.or-2.ensures, c.or.ensures)
    (first_oversized l P c.over.result c.over-2.result c.long_fixed.result c.over-3.result c.over-4.result c.over-5.result c.over-6.result c.long_path.result c.over-7.result c.over-8.result of op any fixed fixed_list integers names numbers paths list present strings)
