use Rattle.std.proofs.Common.{◌≡◌, ◌+◌, ◌-◌, ◌++◌}
use Rattle.c62_apart.specs.Touch.{touches_from}
use Rattle.c62_apart.proofs.touch.push_bytes.Given as goal

abbrev pub invariant-loop-offset : goal.invariant-loop-offset
invariant-loop-offset l =
    l.touches.items ++ touches_from l.first.visit l.first.line l.first.base (l.first.byte + l.offset)
    (l.size - l.offset)
    ≡ l.fn.touches.items ++ touches_from l.first.visit l.first.line l.first.base l.first.byte l.size
