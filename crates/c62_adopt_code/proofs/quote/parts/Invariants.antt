use Rattle.std.proofs.Common.{◌≡◌, length}
use Rattle.c62_adopt_code.specs.declared.quote.Quote.TheVariants.{Outside}
use Rattle.c62_adopt_code.specs.Quote.{parts}
use Rattle.c62_adopt_code.proofs.quote.parts.Given as goal

abbrev pub invariant-loop-rest : goal.invariant-loop-rest
invariant-loop-rest l = parts l.quote l.rest ≡ parts Outside l.statement

abbrev pub decreases-loop-rest : goal.decreases-loop-rest
decreases-loop-rest l = length l.rest
