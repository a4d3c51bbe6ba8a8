use Rattle.c62_serial.proofs.PlaceLemmas.{lies_by_its_address}
use Rattle.c62_serial.proofs.laws.lies_by_its_address.Goals as goal

pub returns : goal.returns
returns c = lies_by_its_address
