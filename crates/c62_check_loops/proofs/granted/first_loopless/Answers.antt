use Rattle.std.proofs.Common.{◌∙◌, ◌+◌, sym, ap, length}
use Rattle.std.specs.Prelude.{not, option_map}
use Rattle.c62_command.specs.Promises.{trips_of}
use Rattle.c62_check_loops.specs.Granted.{names_loop}
use Rattle.c62_check_loops.proofs.Granting.{position_mapped}
use Rattle.c62_check_loops.proofs.granted.first_loopless.Goals as goal

pub returns-in-Some : goal.returns-in-Some
returns-in-Some c =
    let blocks = c.args.blocks.now in
    ap (λ o. option_map (λ k. k + 1) o) (sym c.in-Some.is ∙ c.loopless_at.ensures
    ∙ sym (position_mapped trips_of (λ trips. not (names_loop blocks trips.0 (length blocks)))
    c.args.trips.now))

pub returns-in-None : goal.returns-in-None
returns-in-None c =
    let blocks = c.args.blocks.now in
    ap (λ o. option_map (λ k. k + 1) o) (sym c.in-None.is ∙ c.loopless_at.ensures
    ∙ sym (position_mapped trips_of (λ trips. not (names_loop blocks trips.0 (length blocks)))
    c.args.trips.now))
