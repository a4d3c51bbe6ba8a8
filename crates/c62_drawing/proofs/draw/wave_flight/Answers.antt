use Rattle.std.proofs.Common.{subst}
use Rattle.std.proofs.lemmas.Result.{IfOk-weaker}
use Rattle.c62_trace.specs.Stream.{IsTold}
use Rattle.c62_wave.specs.Wave.{wave_of}
use Rattle.c62_wave.proofs.Waves.{wave_whole}
use Rattle.c62_drawing.proofs.Tracing.{both_of}
use Rattle.c62_drawing.proofs.draw.wave_flight.Goals as goal

pub returns-in-Ok-last_cycle : goal.returns-in-Ok-last_cycle
returns-in-Ok-last_cycle g c =
    let ran = both_of c.fly_traced-flown.result _ _ c.in-Ok-last_cycle.ensures c.fly_traced-flown.ensures.told in
    IfOk-weaker c.end.result.1 _ _ (λ whole ends. record {
      opening = c.in-Ok.state.machine;
      begin = rw c.deref.ensures.value at c.in-Ok.ensures;
      stop = ran.0.stop;
      cycles = ran.0.cycles;
      final = c.fly_traced-flown.new.state.machine;
      log = ran.2.0;
      runs = ran.2.1;
      gets = subst (λ n. IsTold whole (g.W.Write.contents c.args.stream) (g.W.Write.contents c.end.result.0)
          (wave_of c.args.window c.in-Ok.state.machine.base c.in-Ok.state.machine.registers ran.2.0 n)) ran.1
          (wave_whole _ _ _ _ _ _ _ _ _ _ _ _ _ _ _ _ _ _ c.in-Ok-new.ensures ran.2.2 ends);
    }) c.end.ensures
