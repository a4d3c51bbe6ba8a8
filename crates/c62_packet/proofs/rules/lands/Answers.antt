use Rattle.std.proofs.Common.{sym, rules}
use Rattle.c62_packet.proofs.PlacedLists.{lands-early}
use Rattle.c62_packet.proofs.rules.lands.Goals as goal

pub returns-then-from-cycle : goal.returns-then-from-cycle
returns-then-from-cycle c = sym (lands-early c.args.reg c.args.cycle c.args.placed.now (search rules))
