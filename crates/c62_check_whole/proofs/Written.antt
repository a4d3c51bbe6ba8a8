-- What is written with pipelined loops runs as its program.
use Rattle.std.proofs.Common.{ℕ, List, inl, inr}
use Rattle.clap.specs.Words.{Text as Name}
use Rattle.c62_op.specs.declared.register.Reg.{Reg}
use Rattle.c62_op.specs.declared.set.InstructionSet.{InstructionSet}
use Rattle.c62_read.specs.Block.{Serial}
use Rattle.c62_packet.specs.Packed.{Packed}
use Rattle.c62_pipeline.specs.declared.written.Pipelining.{Pipelining}
use Rattle.c62_check_whole.specs.Written.{WrittenIsSerial}
use Rattle.c62_check_whole.proofs.Whole.{checked_loops_are_serial}

pub written_is_serial : (isa : InstructionSet) (trips : List (Name × ℕ)) (apart : List Reg) (blocks : List Serial)
    (own : List Packed) (written : Pipelining)
    → WrittenIsSerial isa trips apart blocks own written
written_is_serial isa trips apart blocks own written program whole is = elim is.does [
  | inl checked ↦ inl (record {
    packets = checked.packets;
    labels = checked.labels;
    read = checked.read;
    serial = checked_loops_are_serial trips apart blocks checked.packets checked.lines program whole checked.told;
  })
  | inr its_own ↦ inr its_own
]
