use Rattle.std.proofs.Common.{◌≡◌, take, map, Some}
use Rattle.c62_command.specs.Settings.{settings_from}
use Rattle.c62_command.proofs.setting.read_settings.Given as goal

abbrev pub invariant-loop-text : goal.invariant-loop-text
invariant-loop-text l =
    (settings_from l.base (take l.text-index (map (λ text. text.now) l.texts)) ≡ Some l.settings.items)
    × (l.number ≡ l.text-index)
