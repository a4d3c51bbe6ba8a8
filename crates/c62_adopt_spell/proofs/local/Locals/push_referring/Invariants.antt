use Rattle.std.proofs.Common.{◌≡◌, ◌++◌, [], length}
use Rattle.c62_adopt_spell.specs.Local.{referring}
use Rattle.c62_adopt_spell.proofs.local.Locals.push_referring.Given as goal

abbrev pub invariant-loop-rest : goal.invariant-loop-rest
invariant-loop-rest l =
    l.text.items ++ referring l.self.mark.items l.self.counts.items l.word.items l.rest ≡ l.initial.text.items ++
    referring l.self.mark.items l.self.counts.items [] l.bytes

abbrev pub decreases-loop-rest : goal.decreases-loop-rest
decreases-loop-rest l = length l.rest
