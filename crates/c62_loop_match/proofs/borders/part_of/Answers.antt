use Rattle.std.proofs.Common.{rules, ◌+◌, subst}
use Rattle.c62_loop_match.specs.Distances.{IsPart}
use Rattle.c62_loop_match.proofs.InParts.{last_part, first_part, empty_part, round_part}
use Rattle.c62_loop_match.proofs.borders.part_of.Goals as goal

pub returns-then-borders-number : goal.returns-then-borders-number
returns-then-borders-number c = λ straights parts.
    subst (λ n. IsPart straights c.args.borders.trips c.args.number (n + 1)) (search rules)
    (last_part straights c.args.borders parts c.args.number (search rules))

pub returns-then-number-borders : goal.returns-then-number-borders
returns-then-number-borders c = λ straights parts. first_part straights c.args.borders parts c.args.number
    (search rules)

pub returns-then-borders-eq0 : goal.returns-then-borders-eq0
returns-then-borders-eq0 c = λ straights parts. empty_part straights c.args.borders parts c.args.number (search rules)
    (search rules)

pub returns : goal.returns
returns c = λ straights parts. round_part straights c.args.borders parts c.args.number (search rules) (search rules)
    (search rules)
