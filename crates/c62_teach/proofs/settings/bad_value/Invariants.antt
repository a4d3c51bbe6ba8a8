use Rattle.std.proofs.Common.{◌≡◌, find, length}
use Rattle.c62_command.specs.Settings.{parts}
use Rattle.c62_teach.specs.Setting.{is_no_number}
use Rattle.c62_teach.proofs.settings.bad_value.Given as goal

-- what is found from here on is found in all values
abbrev pub invariant-loop-behind : goal.invariant-loop-behind
invariant-loop-behind l = find is_no_number (parts l.fn.values) ≡ find is_no_number (parts l.rest)

abbrev pub decreases-loop-behind : goal.decreases-loop-behind
decreases-loop-behind l = length l.rest
