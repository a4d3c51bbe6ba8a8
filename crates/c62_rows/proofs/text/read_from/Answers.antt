use Rattle.std.specs.Option.{option_copied}
use Rattle.c62_rows.proofs.FinishLemmas.{begins_as}
use Rattle.c62_rows.proofs.text.read_from.Goals as goal

pub returns-in-Some : goal.returns-in-Some
returns-in-Some c =
    begins_as c.args.isa c.args.text.now
    (option_copied c.args.from) c.in_ok-read.read c.in_ok-first.field-0 c.in-Some.first
    c.in_ok-read.ensures c.in_ok-first.ensures c.in-Some.is
