use Rattle.std.proofs.Common.{eq-eqb, arith, bit_and, bit_or}
use Rattle.std.proofs.lemmas.Bool.Decides.{nat_tests}
use Rattle.c62_row.proofs.Fields.{three-clear, guards}
use Rattle.c62_row.proofs.row.are_clear.Goals as goal

pub returns : goal.returns
returns c =
    let word = bit_or (bit_or c.args.one c.args.two) c.args.three in
    let told = three-clear c.args.one c.args.two c.args.three in
    ((λ h. told.0 (grind (arith, nat_tests))), (λ few. eq-eqb (bit_and word guards) 0 (told.1 few)))
