use Rattle.std.proofs.Common.{◌+◌, ◌*◌, length}
use Rattle.plan.proofs.renewing.+renew.Given as goal

abbrev pub decreases-renew : goal.decreases-renew
decreases-renew g l = 2 * length l.steps.now + 1

abbrev pub decreases-renew_list : goal.decreases-renew_list
decreases-renew_list g l = 2 * length l.rest.now + 2

abbrev pub decreases-renew_map : goal.decreases-renew_map
decreases-renew_map g l = 2 * length l.rest.now + 2

abbrev pub decreases-renew_object : goal.decreases-renew_object
decreases-renew_object g l = 2 * length l.rest.now + 2
