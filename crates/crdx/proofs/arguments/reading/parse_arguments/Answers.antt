use Rattle.std.proofs.Common.{map, string_bytes}
use Rattle.crdx.proofs.CommandLineLemmas.{asks_command, asks_refused}
use Rattle.crdx.proofs.arguments.reading.parse_arguments.Goals as goal

pub returns-in-Ok : goal.returns-in-Ok
returns-in-Ok c =
    asks_command (map string_bytes c.args.arguments.now) _ c.request_of_command.result c.in-Ok.ensures.command c.in-Ok.ensures.kinds c.request_of_command.ensures

pub returns-in-Err : goal.returns-in-Err
returns-in-Err c = asks_refused (map string_bytes c.args.arguments.now) c.in-Err.error c.request_of.result c.in-Err.ensures.kinds c.request_of.ensures
