use Rattle.std.proofs.Common.{◌≡◌, ◌++◌, ◌+◌, length}
use Rattle.c62_adopt_spell.specs.declared.comment.Place.TheVariants.{Code}
use Rattle.c62_adopt_spell.specs.Comment.{blanked}
use Rattle.c62_adopt_spell.proofs.comment.push_blanked.Given as goal

abbrev pub invariant-loop-rest : goal.invariant-loop-rest
invariant-loop-rest l = record {
  so_far : l.plain.items ++ blanked l.place l.rest ≡ l.initial.plain.items ++ blanked Code l.line;
  same : length l.plain.items + length l.rest ≡ length l.initial.plain.items + length l.line;
}

abbrev pub decreases-loop-rest : goal.decreases-loop-rest
decreases-loop-rest l = length l.rest
