use Rattle.std.proofs.Common.{◌≡◌, ◌++◌, drop}
use Rattle.std.specs.Prelude.{codes, decimal, string_bytes}
use Rattle.std.specs.List.{flat_map}
use Rattle.c62_show.proofs.head.push_path_lines.Given as goal

abbrev pub invariant-loop-number : goal.invariant-loop-number
invariant-loop-number l =
    string_bytes l.out ++ flat_map (λ number. codes " " ++ decimal number) (drop l.number-index l.path)
    ≡ string_bytes l.fn.out ++ flat_map (λ number. codes " " ++ decimal number) l.path
