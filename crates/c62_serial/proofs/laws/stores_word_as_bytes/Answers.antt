use Rattle.std.proofs.Common.{rules}
use Rattle.c62_serial.proofs.MemoryLemmas.{stores_bytes}
use Rattle.c62_serial.proofs.laws.stores_word_as_bytes.Goals as goal

pub returns : goal.returns
returns c = λ memory address value l good. stores_bytes memory address value l (search rules)
