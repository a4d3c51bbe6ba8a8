use Rattle.c62_check_rest.proofs.Serials.{rest_is_serial}
use Rattle.c62_check_rest.proofs.laws.rest_is_serial.Goals as goal

pub returns : goal.returns
returns c = rest_is_serial
