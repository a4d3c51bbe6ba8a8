use Rattle.std.proofs.Common.{◌≡◌, false, drop}
use Rattle.c62_gnu_labels.specs.Labels.{is_led}
use Rattle.c62_gnu_labels.proofs.text.is_led.Given as goal

abbrev pub invariant-loop-b : goal.invariant-loop-b
invariant-loop-b l = is_led l.front l.within (drop l.b-index l.text) ≡ is_led l.front false l.text
