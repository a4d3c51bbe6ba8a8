use Rattle.std.proofs.Common.{◌≡◌, drop}
use Rattle.c62_answer.specs.Run.{with_settings}
use Rattle.c62_answer.proofs.run.set_all.Given as goal

abbrev pub invariant-loop-setting : goal.invariant-loop-setting
invariant-loop-setting l = with_settings (drop l.setting-index l.settings) l.state.machine ≡ with_settings l.settings
    l.fn.state.machine
