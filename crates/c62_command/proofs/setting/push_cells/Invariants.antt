use Rattle.std.proofs.Common.{List, Bool, length}
use Rattle.c62_command.specs.declared.setting.Setting.{Setting}
use Rattle.c62_command.specs.Settings.{Adds, cells, parts}
use Rattle.c62_command.proofs.setting.push_cells.Given as goal

-- what is added from here on is added to what has been
abbrev pub invariant-loop-rest : goal.invariant-loop-rest
invariant-loop-rest l = (new : List Setting) (good : Bool)
    → Adds (cells l.size l.place (parts l.rest)) l.settings.items new good
    → Adds (cells l.size l.fn.place (parts l.fn.text)) l.fn.settings.items new good

abbrev pub decreases-loop-rest : goal.decreases-loop-rest
decreases-loop-rest l = length l.rest
