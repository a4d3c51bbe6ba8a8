use Rattle.std.proofs.Common.{◌≡◌, ℕ, List, ◌++◌, ◌∙◌, ap}
use Rattle.c62_trace.specs.declared.view.Window.{Window}
use Rattle.c62_wave.specs.declared.course.Course.{Course}
use Rattle.c62_wave.specs.Dump.{last_mark}
use Rattle.c62_wave.specs.Wave.{course_at, text_before}
use Rattle.c62_wave.proofs.Waves.{ends}
use Rattle.c62_wave.proofs.wave.Wave.finish.Goals as goal

pub returns : goal.returns
returns g c = λ opening text is.
    let held : List ℕ = c.run_to.new.self.unsent.items in
    let last : Course = course_at c.args.cycles c.args.self.now.course in
    let marked : c.push_last_mark.new.out.items ≡ held ++ last_mark c.args.self.now.window last.cycle =
    c.in_ok-push_last_mark.ensures
    ∙ ap (λ (w : Window). held ++ last_mark w c.run_to.new.self.course.cycle) c.in_ok-run_to.ensures.window
    ∙ ap (λ (course : Course). held ++ last_mark c.args.self.now.window course.cycle) c.in_ok-run_to.ensures.course in
    ends opening c.args.self.now.whole c.run_to.new.self.whole c.send.new.self.whole
    (g.W.Write.contents c.args.self.now.stream)
    (g.W.Write.contents c.run_to.new.self.stream) (g.W.Write.contents c.send.new.self.stream)
    c.args.self.now.unsent.items
    held c.push_last_mark.new.out.items c.send.new.self.unsent.items text
    (text_before c.args.self.now.window c.args.cycles c.args.self.now.course)
    (last_mark c.args.self.now.window last.cycle) is
    c.in_ok-run_to.ensures.told marked c.send.ensures.told c.send.ensures.unsent
