use Rattle.std.proofs.lemmas.List.{get_or-set_same, get_or-set_other}
use Rattle.c62_serial.specs.State.{index_of}
use Rattle.c62_serial.proofs.RegisterLemmas.{apart, index_within}
use Rattle.c62_serial.proofs.laws.holds_its_word.Goals as goal

pub returns : goal.returns
returns c = λ machine reg value sound. record {
  held = get_or-set_same machine.registers (index_of reg) value 0 (rw sound.registers (index_within reg));
  others = λ other h. get_or-set_other machine.registers (index_of reg) (index_of other) value 0 (apart other reg h);
}
