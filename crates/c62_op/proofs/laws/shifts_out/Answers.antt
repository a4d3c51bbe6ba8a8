use Rattle.std.proofs.Common.{◌%◌, ◌^◌}
use Rattle.c62_op.proofs.WordLemmas.{shl_gone, shr_gone, sign_left}
use Rattle.c62_op.proofs.laws.shifts_out.Goals as goal

pub returns : goal.returns
returns c = λ v count fits far. record {
  left = shl_gone v (count % 2 ^ 6) far;
  right = sign_left v (count % 2 ^ 6) far fits;
  unsigned = shr_gone v (count % 2 ^ 6) far fits;
}
