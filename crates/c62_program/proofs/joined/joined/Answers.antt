use Rattle.std.proofs.Common.{rules}
use Rattle.c62_program.specs.Joined.{Cut}
use Rattle.c62_program.proofs.joined.joined.Goals as goal

pub returns-in_ok-cut-in-Some : goal.returns-in_ok-cut-in-Some
returns-in_ok-cut-in-Some c = Cut c.in-Some.parts.text.now c.in-Some.parts.listing.now (search rules) (search rules)
