use Rattle.std.proofs.Common.{length}
use Rattle.c62_token.specs.Token.{words_left}
use Rattle.c62_explain.proofs.colon.parts_registers.Given as goal

abbrev pub decreases-loop-word : goal.decreases-loop-word
decreases-loop-word l = length (words_left l.left)
