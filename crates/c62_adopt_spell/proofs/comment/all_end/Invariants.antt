use Rattle.std.proofs.Common.{◌≡◌, length}
use Rattle.c62_adopt_spell.specs.declared.comment.Place.TheVariants.{Code}
use Rattle.c62_adopt_spell.specs.Comment.{place_at_end}
use Rattle.c62_adopt_spell.proofs.comment.all_end.Given as goal

abbrev pub invariant-loop-rest : goal.invariant-loop-rest
invariant-loop-rest l = place_at_end l.place l.rest ≡ place_at_end Code l.line

abbrev pub decreases-loop-rest : goal.decreases-loop-rest
decreases-loop-rest l = length l.rest
