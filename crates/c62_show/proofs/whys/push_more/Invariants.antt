use Rattle.std.proofs.Common.{◌≡◌, ◌++◌, drop}
use Rattle.std.specs.Prelude.{string_bytes}
use Rattle.std.specs.List.{flat_map}
use Rattle.c62_show.specs.Whys.{more_words}
use Rattle.c62_show.proofs.whys.push_more.Given as goal

abbrev pub invariant-loop-taken : goal.invariant-loop-taken
invariant-loop-taken l = string_bytes l.out ++ flat_map more_words (drop l.taken-index l.more) ≡ string_bytes l.fn.out ++
    flat_map more_words l.more
