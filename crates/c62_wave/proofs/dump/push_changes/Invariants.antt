use Rattle.std.proofs.Common.{◌≡◌, ◌+◌, ◌++◌, drop}
use Rattle.c62_wave.specs.Dump.{changes}
use Rattle.c62_wave.proofs.dump.push_changes.Given as goal

abbrev pub invariant-loop-index : goal.invariant-loop-index
invariant-loop-index l =
    l.out.items ++ changes l.each (l.code + l.index) (drop l.index l.before) (drop l.index l.now)
    ≡ l.fn.out.items ++ changes l.each l.code l.before l.now
