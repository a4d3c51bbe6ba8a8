use Rattle.c62_check_loop.proofs.SameButs.{same_but_is_serial}
use Rattle.c62_check_loop.proofs.laws.same_but_is_serial.Goals as goal

pub returns : goal.returns
returns c = same_but_is_serial
