use Rattle.c62_wave.specs.Wave.{text_before}
use Rattle.c62_wave.proofs.Waves.{pushed_on}
use Rattle.c62_wave.proofs.wave.Wave.run_to.Goals as goal

pub returns-clause-told : goal.returns-clause-told
returns-clause-told g c =
    pushed_on c.args.self.now.whole c.send_full.new.self.whole (g.W.Write.contents c.args.self.now.stream)
    (g.W.Write.contents c.send_full.new.self.stream) c.args.self.now.unsent.items c.run_to.new.out.items
    c.send_full.new.self.unsent.items (text_before c.args.self.now.window c.args.cycle c.args.self.now.course)
    c.in_ok-run_to.ensures.text c.send_full.ensures.told
