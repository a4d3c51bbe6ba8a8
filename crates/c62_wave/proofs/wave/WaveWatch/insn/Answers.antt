use Rattle.std.proofs.Common.{Bool, Option}
use Rattle.c62_insn.specs.declared.effect.Access.{Access as MemoryAccess}
use Rattle.c62_serial.specs.State.{word_in}
use Rattle.c62_serial.specs.Effect.{runs}
use Rattle.c62_pipe.specs.Flight.{act_at}
use Rattle.c62_trace.specs.Event.{issue_of, stored_by}
use Rattle.c62_wave.proofs.Waves.{cycle_told}
use Rattle.c62_wave.proofs.wave.WaveWatch.insn.Goals as goal

pub returns : goal.returns
returns g c =
    let running : Bool = runs (word_in c.args.state.now.machine) c.args.placed.now.insn in
    let access : Option MemoryAccess = (act_at c.args.placed.now c.args.state.now.machine).access in
    cycle_told c.args.cycle (issue_of (word_in c.args.state.now.machine) c.args.placed.now running access)
    (stored_by c.args.placed.now.line access)
    c.args.self.now.window c.run_to.new.self.window c.args.self.now.course c.run_to.new.self.course c.issue.new.self
    c.args.self.now.whole c.run_to.new.self.whole (g.W.Write.contents c.args.self.now.stream)
    (g.W.Write.contents c.run_to.new.self.stream) c.args.self.now.unsent.items c.run_to.new.self.unsent.items
    c.in_ok-run_to.ensures.window c.in_ok-run_to.ensures.course c.issue.ensures c.in_ok-run_to.ensures.told
