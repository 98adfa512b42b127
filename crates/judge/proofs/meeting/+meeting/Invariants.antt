use Rattle.std.proofs.Common.{◌≡◌, ◌+◌, ◌*◌, ◌≤◌, Some, drop}
use Rattle.jtree.specs.Data.{depth, items_depth, members_depth}
use Rattle.jtree.specs.View.{data_of, items_of, members_of}
use Rattle.judge.specs.Keywords.{texts, meets_all, meets_some, met}
use Rattle.judge.specs.Meets.{meets, branch_list, items_pass}
use Rattle.judge.specs.Internal.MeetsByName.{passes_each, members_at}
use Rattle.judge.proofs.meeting.+meeting.Given as goal

-- the schema nests less deep at each call, or the call is one of the next layer

abbrev pub decreases-meets : goal.decreases-meets
decreases-meets g l = 8 * depth (data_of l.schema.now)

abbrev pub decreases-meets_object : goal.decreases-meets_object
decreases-meets_object g l = 8 * members_depth l.schema.now + 7

abbrev pub decreases-passes_each : goal.decreases-passes_each
decreases-passes_each g l = 8 * members_depth l.schema.now + 6

abbrev pub decreases-branches_pass : goal.decreases-branches_pass
decreases-branches_pass g l = 8 * members_depth l.schema.now + 6

abbrev pub decreases-meets_all : goal.decreases-meets_all
decreases-meets_all g l = 8 * members_depth l.schema.now + 5

abbrev pub decreases-parts_pass : goal.decreases-parts_pass
decreases-parts_pass g l = 8 * members_depth l.schema.now + 6

abbrev pub decreases-passes : goal.decreases-passes
decreases-passes g l = 8 * members_depth l.schema.now + 5

abbrev pub decreases-passes_asked : goal.decreases-passes_asked
decreases-passes_asked g l = 8 * members_depth l.schema.now + 4

abbrev pub decreases-passes_junctors : goal.decreases-passes_junctors
decreases-passes_junctors g l = 8 * members_depth l.schema.now + 3

abbrev pub decreases-passes_any : goal.decreases-passes_any
decreases-passes_any g l = 8 * members_depth l.schema.now + 2

abbrev pub decreases-passes_one : goal.decreases-passes_one
decreases-passes_one g l = 8 * members_depth l.schema.now + 2

abbrev pub decreases-passes_not : goal.decreases-passes_not
decreases-passes_not g l = 8 * members_depth l.schema.now + 2

abbrev pub decreases-members_pass : goal.decreases-members_pass
decreases-members_pass g l = 8 * members_depth l.schema.now + 5

abbrev pub decreases-items_pass : goal.decreases-items_pass
decreases-items_pass g l = 8 * members_depth l.schema.now + 5

abbrev pub decreases-member_passes : goal.decreases-member_passes
decreases-member_passes g l = 8 * members_depth l.schema.now + 4

abbrev pub decreases-all_meet : goal.decreases-all_meet
decreases-all_meet g l = 8 * depth (data_of l.part.now) + 2

abbrev pub decreases-meets_any : goal.decreases-meets_any
decreases-meets_any g l = 8 * items_depth l.branches.now + 2

abbrev pub decreases-meets_one : goal.decreases-meets_one
decreases-meets_one g l = 8 * items_depth l.branches.now + 2

abbrev pub decreases-all_hold : goal.decreases-all_hold
decreases-all_hold g l = 8 * items_depth l.branches.now + 1

abbrev pub decreases-any_holds : goal.decreases-any_holds
decreases-any_holds g l = 8 * items_depth l.branches.now + 1

abbrev pub decreases-holding : goal.decreases-holding
decreases-holding g l = 8 * items_depth l.branches.now + 1

-- what is asked of all is what is asked of those that are left

abbrev pub invariant-passes_each-loop-test : goal.invariant-passes_each-loop-test
invariant-passes_each-loop-test g l =
    passes_each (texts g.T.TextTests.matches g.T.FormatTests.is_format g.T.FormatTests.has_format) l.schema (drop l.test-index l.asked) (data_of l.value) ≡ passes_each (texts g.T.TextTests.matches g.T.FormatTests.is_format g.T.FormatTests.has_format) l.schema l.asked (data_of l.value)

abbrev pub invariant-members_pass-loop-member : goal.invariant-members_pass-loop-member
invariant-members_pass-loop-member g l =
    members_at (texts g.T.TextTests.matches g.T.FormatTests.is_format g.T.FormatTests.has_format) l.schema (members_of (drop l.member-index l.member-items)) ≡ members_at (texts g.T.TextTests.matches g.T.FormatTests.is_format g.T.FormatTests.has_format) l.schema l.members

abbrev pub invariant-all_hold-loop-branch : goal.invariant-all_hold-loop-branch
invariant-all_hold-loop-branch g l =
    meets_all (branch_list (texts g.T.TextTests.matches g.T.FormatTests.is_format g.T.FormatTests.has_format) (items_of (drop l.branch-index l.branch-items))) (data_of l.value) ≡ meets_all (branch_list (texts g.T.TextTests.matches g.T.FormatTests.is_format g.T.FormatTests.has_format) l.branches) (data_of l.value)

abbrev pub invariant-any_holds-loop-branch : goal.invariant-any_holds-loop-branch
invariant-any_holds-loop-branch g l =
    meets_some (branch_list (texts g.T.TextTests.matches g.T.FormatTests.is_format g.T.FormatTests.has_format) (items_of (drop l.branch-index l.branch-items))) (data_of l.value) ≡ meets_some (branch_list (texts g.T.TextTests.matches g.T.FormatTests.is_format g.T.FormatTests.has_format) l.branches) (data_of l.value)

abbrev pub invariant-holding-loop-branch : goal.invariant-holding-loop-branch
invariant-holding-loop-branch g l =
    (l.count + met (branch_list (texts g.T.TextTests.matches g.T.FormatTests.is_format g.T.FormatTests.has_format) (items_of (drop l.branch-index l.branch-items))) (data_of l.value) ≡ met (branch_list (texts g.T.TextTests.matches g.T.FormatTests.is_format g.T.FormatTests.has_format) l.branches) (data_of l.value)) × (l.count ≤ l.branch-index)

abbrev pub invariant-all_meet-loop-item : goal.invariant-all_meet-loop-item
invariant-all_meet-loop-item g l =
    items_pass (Some (meets (texts g.T.TextTests.matches g.T.FormatTests.is_format g.T.FormatTests.has_format) (data_of l.part))) (items_of (drop l.item-index l.item-items)) ≡ items_pass (Some (meets (texts g.T.TextTests.matches g.T.FormatTests.is_format g.T.FormatTests.has_format) (data_of l.part))) l.items
