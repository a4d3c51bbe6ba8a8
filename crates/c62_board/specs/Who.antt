-- Who makes the entries of a side's step.
use Rattle.c62_op.specs.declared.register.Side.{Side}
use Rattle.c62_op.specs.declared.register.Side.TheVariants.{A, B}
use Rattle.c62_sheet.specs.declared.entry.Who.{Who}
use Rattle.c62_sheet.specs.declared.entry.Who.TheVariants.{A as ByA, B as ByB}

abbrev pub who_of : Side → Who
who_of A = ByA
who_of B = ByB
