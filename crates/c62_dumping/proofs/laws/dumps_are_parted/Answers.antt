use Rattle.c62_dumping.proofs.Cuts.{dumped_right, files_right, report_right}
use Rattle.c62_dumping.proofs.laws.dumps_are_parted.Goals as goal

pub returns-clause-report : goal.returns-clause-report
returns-clause-report c = report_right

pub returns-clause-dumped : goal.returns-clause-dumped
returns-clause-dumped c = dumped_right

pub returns-clause-files : goal.returns-clause-files
returns-clause-files c = files_right
