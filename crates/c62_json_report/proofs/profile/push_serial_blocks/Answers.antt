use Rattle.std.proofs.Common.{append_assoc, rules}
use Rattle.c62_report.proofs.ReportLemmas.{flat_map-more}
use Rattle.c62_json_report.proofs.profile.push_serial_blocks.Goals as goal

pub loop-number-preserved : goal.loop-number-preserved
loop-number-preserved c = search (rules, flat_map-more, append_assoc)
