use Rattle.std.proofs.Common.{◌≡◌, ◌++◌, drop}
use Rattle.std.specs.Prelude.{string_bytes}
use Rattle.std.specs.List.{flat_map}
use Rattle.c62_show.specs.Whys.{why_row}
use Rattle.c62_show.proofs.whys.push_all.Given as goal

abbrev pub invariant-loop-why : goal.invariant-loop-why
invariant-loop-why l = string_bytes l.out ++ flat_map why_row (drop l.why-index l.whys) ≡ string_bytes l.fn.out ++
    flat_map why_row l.whys
