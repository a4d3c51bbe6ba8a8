use Rattle.std.proofs.lemmas.Result.{IfOk-weaker}
use Rattle.c62_wave.proofs.Waves.{wave_whole}
use Rattle.c62_drawing.proofs.draw.wave_packets.Goals as goal

pub returns-in-Ok-run_chain_traced : goal.returns-in-Ok-run_chain_traced
returns-in-Ok-run_chain_traced g c =
    let told = c.in-Ok-run_chain_traced.ensures.told in
    IfOk-weaker c.end.result.1 _ _ (λ whole ends. record {
      opening = c.in-Ok.state.machine;
      begin = rw c.deref.ensures.value at c.in-Ok.ensures;
      chain = c.in-Ok-run_chain_traced.field-0-0;
      cycles = c.in-Ok-run_chain_traced.cycles;
      final = c.run_chain_traced.new.state.machine;
      log = told.0;
      runs = told.1;
      gets = wave_whole _ _ _ _ _ _ _ _ _ _ _ _ _ _ _ _ _ _ c.in-Ok-new.ensures told.2 ends;
    }) c.end.ensures
