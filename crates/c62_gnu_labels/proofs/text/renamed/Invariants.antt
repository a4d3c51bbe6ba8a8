use Rattle.std.proofs.Common.{◌≡◌, ◌++◌, length}
use Rattle.c62_gnu_labels.specs.declared.text.Place.TheVariants.{Begin}
use Rattle.c62_gnu_labels.specs.Labels.{renamed}
use Rattle.c62_gnu_labels.proofs.text.renamed.Given as goal

abbrev pub invariant-loop-rest : goal.invariant-loop-rest
invariant-loop-rest l = l.named.items ++ renamed l.front l.place l.rest ≡ renamed l.front Begin l.text

abbrev pub decreases-loop-rest : goal.decreases-loop-rest
decreases-loop-rest l = length l.rest
