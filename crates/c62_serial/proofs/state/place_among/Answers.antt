use Rattle.c62_serial.proofs.FaultLemmas.{found}
use Rattle.c62_serial.proofs.state.place_among.Goals as goal

pub returns : goal.returns
returns c = found c.args.lines.now c.args.line c.binary_search.result c.requires c.binary_search.ensures.position
