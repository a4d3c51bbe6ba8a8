use Rattle.std.proofs.Common.{◌≡◌, ◌++◌, ◌-◌}
use Rattle.c62_wave.specs.Wave.{course_at, text_before}
use Rattle.c62_wave.proofs.course.Course.run_to.Given as goal

abbrev pub invariant-loop-self : goal.invariant-loop-self
invariant-loop-self l =
    (l.out.items ++ text_before l.window l.cycle l.self ≡ l.fn.out.items ++ text_before l.window l.cycle l.fn.self)
    × (course_at l.cycle l.self ≡ course_at l.cycle l.fn.self)

abbrev pub decreases-loop-self : goal.decreases-loop-self
decreases-loop-self l = l.cycle - l.self.cycle
