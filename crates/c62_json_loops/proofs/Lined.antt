-- The document tells what lines tell.
use Rattle.std.proofs.Common.{ℕ, List, refl}
use Rattle.clap.specs.Words.{Text as Name}
use Rattle.c62_op.specs.declared.register.Reg.{Reg}
use Rattle.c62_read.specs.Block.{Serial}
use Rattle.c62_flight.specs.Text.{Text}
use Rattle.c62_check_loops.proofs.Telling.{loops_told}
use Rattle.c62_json_loops.specs.Judged.{DocumentsHaveLines}

pub have_lines : (trips : List (Name × ℕ)) (apart : List Reg) (blocks : List Serial) (packets : Text)
    → DocumentsHaveLines trips apart blocks packets
have_lines trips apart blocks packets text same plain is = record {
  judged = is.judged;
  says = is.says;
  lines = rw (is.all, is.bare) (loops_told trips apart blocks packets is.judged _ is.are refl);
}
