use Rattle.std.proofs.Common.{◌*◌, sym, ◌∙◌, ap}
use Rattle.c62_loop_match.proofs.Paths.{cycles_are}
use Rattle.c62_loop_match.proofs.path.cycles_in.Goals as goal

pub returns-clause-cycles : goal.returns-clause-cycles
returns-clause-cycles c =
    ap (λ n. n * c.from-2.result) c.from.ensures ∙ ap (λ n. c.args.interval * n) c.from-2.ensures
    ∙ sym (cycles_are c.args.interval c.args.passes)
