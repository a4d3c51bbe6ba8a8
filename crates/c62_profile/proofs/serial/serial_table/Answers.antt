use Rattle.std.proofs.Common.{append_assoc, rules}
use Rattle.c62_profile.specs.Table.{serial_table}
use Rattle.c62_profile.proofs.Rows.{row_behind}
use Rattle.c62_profile.proofs.serial.serial_table.Goals as goal

pub loop-number-preserved : goal.loop-number-preserved
loop-number-preserved c = search (rules, row_behind)

pub returns : goal.returns
unfolding serial_table
returns c = search (rules, append_assoc)
