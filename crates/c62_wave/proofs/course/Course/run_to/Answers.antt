use Rattle.std.proofs.Common.{◌∙◌, ℕ, ◌<◌, List, ◌++◌, ap, sym, arith, append_assoc, append-nil}
use Rattle.c62_wave.specs.declared.course.Course.{Course}
use Rattle.c62_wave.specs.Dump.{cycle_text}
use Rattle.c62_wave.specs.Wave.{course_at, text_before}
use Rattle.c62_wave.proofs.Waves.{text_step, course_step, text_none, course_none}
use Rattle.c62_wave.proofs.course.Course.run_to.Goals as goal

pub loop-self-preserved : goal.loop-self-preserved
loop-self-preserved c =
    let early : c.loop-self.self.cycle < c.args.cycle = omega arith in
    let held : List ℕ = c.loop-self.out.items in
    let text : List ℕ =
    cycle_text c.args.window c.loop-self.self.cycle c.loop-self.self.before c.loop-self.self.now in (
      ap (λ bytes. bytes ++ text_before c.args.window c.args.cycle c.go_on.new.self) c.in_ok-push_cycle.ensures
          ∙ append_assoc held text (text_before c.args.window c.args.cycle c.go_on.new.self)
          ∙ ap (λ (next : Course). held ++ (text ++ text_before c.args.window c.args.cycle next)) c.go_on.ensures.course
          ∙ ap (λ bytes. held ++ bytes) (sym (text_step c.args.window c.args.cycle c.loop-self.self early))
          ∙ c.loop-self.invariant.0,
      ap (λ (next : Course). course_at c.args.cycle next) c.go_on.ensures.course
          ∙ sym (course_step c.args.cycle c.loop-self.self early) ∙ c.loop-self.invariant.1,
    )

pub returns : goal.returns
returns c = record {
  text = sym (append-nil c.loop-self.out.items)
      ∙ ap (λ bytes. c.loop-self.out.items ++ bytes)
      (sym (text_none c.args.window c.args.cycle c.loop-self.self c.loop-self-test.false)) ∙ c.loop-self.invariant.0;
  course = sym (course_none c.args.cycle c.loop-self.self c.loop-self-test.false) ∙ c.loop-self.invariant.1;
}
