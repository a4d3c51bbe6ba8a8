-- Packets that are told to do the same.
use Rattle.std.proofs.Common.{◌≡◌, ℕ, Bool, true, List, subst, inl, inr}
use Rattle.clap.specs.Words.{Text as Name}
use Rattle.c62_op.specs.declared.register.Reg.{Reg}
use Rattle.c62_read.specs.Block.{Serial}
use Rattle.c62_rows.specs.declared.text.RowsText.{RowsText}
use Rattle.c62_rows.specs.Rows.{text_of}
use Rattle.c62_rows.specs.Told.{names_of, ReadsAs}
use Rattle.c62_check_loops.specs.Told.{AreLoopsTold}
use Rattle.c62_packet.specs.Packed.{Packed}
use Rattle.c62_check_loops.proofs.Done.{loops_do_the_same}
use Rattle.c62_pipeline.specs.declared.written.Pipelining.{Pipelining}
use Rattle.c62_pipeline.specs.Checked.{IsChecked}
use Rattle.c62_pipeline.specs.Laws.{WhatIsWrittenIsDone}
use Rattle.c62_op.specs.declared.set.InstructionSet.{InstructionSet}

pub checked_text : (isa : InstructionSet) (trips : List (Name × ℕ)) (apart : List Reg) (blocks : List Serial)
    (read : RowsText)
    (lines : List ℕ) (same plain : Bool) (text : List ℕ) → ReadsAs isa text read
    → AreLoopsTold trips apart blocks (text_of read.rows) lines same plain → plain ≡ true → same ≡ true
    → IsChecked isa trips apart blocks text
checked_text isa trips apart blocks read lines same plain text is told bare holds = record {
  packets = text_of read.rows;
  labels = names_of read;
  read = is.is_text;
  lines = lines;
  told = subst (λ b. AreLoopsTold trips apart blocks (text_of read.rows) lines true b) bare
      (subst (λ b. AreLoopsTold trips apart blocks (text_of read.rows) lines b plain) holds told);
}

pub written_done : (isa : InstructionSet) (trips : List (Name × ℕ)) (apart : List Reg) (blocks : List Serial)
    (own : List Packed)
    (written : Pipelining) → WhatIsWrittenIsDone isa trips apart blocks own written
written_done isa trips apart blocks own written is =
    elim is.does [
      | inl told ↦ inl (record {
        packets = told.packets;
        labels = told.labels;
        read = told.read;
        done = loops_do_the_same trips apart blocks told.packets told.lines true told.told;
      })
      | inr kept ↦ inr kept
    ]
