use Rattle.std.proofs.Common.{arith}
use Rattle.c62_row.proofs.Words.{unused}
use Rattle.c62_row.proofs.row.Row.new.Goals as goal

pub invariant_of-result : goal.invariant_of-result
invariant_of-result c = record { small = λ place low. omega (arith, unused place low) }

pub returns : goal.returns
returns c = unused
