use Rattle.c62_depend.proofs.Common.{arith, length, ◌≡◌}
use Rattle.std.proofs.Common.{rules}
use Rattle.c62_depend.proofs.NumberSets.{with_number}
use Rattle.c62_depend.proofs.number_set.NumberSet.with.Goals as goal

pub returns : goal.returns
returns c = λ other.
    let long : length c.args.self.words ≡ 4 = search rules in
    with_number c.args.self.words c.args.k other (omega (arith, c.requires))
