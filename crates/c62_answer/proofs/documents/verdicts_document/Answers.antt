use Rattle.std.proofs.Common.{Bool, subst}
use Rattle.c62_check.specs.Checked.{IsChecked}
use Rattle.c62_command.specs.CommandLine.{Verdicts}
use Rattle.c62_answer.proofs.Documented.{checked_text, refused_too, verdicts_documented}
use Rattle.c62_answer.proofs.documents.verdicts_document.Goals as goal

pub returns-in_default : goal.returns-in_default
returns-in_default c = refused_too c.args.isa (Verdicts c.args.form) c.args.input.now c.unparted.result
    (c.unparted.ensures.by_block c.args.form)

pub returns : goal.returns
returns c =
    let parts = c.in-Some.parts in
    let program = c.in_ok-program.program in
    let packets = c.in_ok-packets.packets in
    let answer = c.in_ok-checked.checked.text.items in
    let same = c.in_ok-checked.checked.same in
    let told = checked_text program packets answer same c.in_ok-checked.ensures in
    rw c.of_check.ensures (verdicts_documented c.args.isa c.args.form c.args.input.now told.0 answer same (record {
      text = parts.text.now;
      listing = parts.listing.now;
      parted = c.in-Some.ensures;
      program = program;
      says = c.in_ok-program.ensures;
      packets = packets;
      read = c.in_ok-packets.ensures;
      checked = told.1;
      serial = λ all. c.checked_packets_are_serial.ensures program packets told.0
          (subst (λ (is : Bool). IsChecked program packets told.0 is) all told.1);
    }) c.in_ok-checked.ensures)
