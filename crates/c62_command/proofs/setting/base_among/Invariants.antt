use Rattle.std.proofs.Common.{◌≡◌, drop, map}
use Rattle.std.specs.Prelude.{fold}
use Rattle.c62_command.specs.Settings.{base_after, base_among}
use Rattle.c62_command.proofs.setting.base_among.Given as goal

abbrev pub invariant-loop-text : goal.invariant-loop-text
invariant-loop-text l = fold base_after l.base (map (λ text. text.now) (drop l.text-index l.texts)) ≡ base_among
    (map (λ text. text.now) l.texts)
