use Rattle.std.proofs.Common.{ap, ◌∙◌}
use Rattle.jtree.specs.Internal.Entries.{members_of_entries}
use Rattle.jtree.proofs.MapEntries.{entry_inserted}
use Rattle.jtree.proofs.read_all.put_entry.Goals as goal

pub returns-in-Ok : goal.returns-in-Ok
returns-in-Ok c = ap members_of_entries c.in-Ok.ensures.entries ∙ entry_inserted c.args.map.now.entries c.args.name c.args.tree
