use Rattle.std.proofs.Common.{append_assoc, rules}
use Rattle.c62_report.proofs.ReportLemmas.{flat_map-more}
use Rattle.c62_json_report.proofs.OneMore.{whole_file}
use Rattle.c62_json_report.proofs.machine.push_file.Goals as goal

pub loop-number-preserved : goal.loop-number-preserved
loop-number-preserved c = search (rules, flat_map-more, append_assoc)

pub returns : goal.returns
returns c = search (rules, whole_file)
