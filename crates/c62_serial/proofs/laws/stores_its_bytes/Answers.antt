use Rattle.std.proofs.Common.{rules}
use Rattle.c62_serial.proofs.MemoryLemmas.{stores}
use Rattle.c62_serial.proofs.laws.stores_its_bytes.Goals as goal

pub returns : goal.returns
returns c = λ memory address size value l good. stores memory address size value l (search rules)
