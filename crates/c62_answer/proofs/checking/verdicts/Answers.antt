use Rattle.std.proofs.Common.{Bool, subst}
use Rattle.std.proofs.lemmas.Result.{err_from_is_err_and}
use Rattle.c62_check.specs.Checked.{IsChecked}
use Rattle.c62_answer.proofs.Verdicts.{no_packets_part, no_text, told}
use Rattle.c62_answer.proofs.checking.verdicts.Goals as goal

pub returns-in_err-program : goal.returns-in_err-program
returns-in_err-program c =
    let p = err_from_is_err_and c.from_residual.result c.from_residual.ensures.1 in
    let parts = c.in-Some.parts in
    rw (p.1, p.2) (no_text c.args.isa c.args.form c.args.input.now parts.text.now parts.listing.now c.in-Some.ensures
    c.in_err-program.field-0.0 c.in_err-program.ensures)

pub returns-in_err-packets : goal.returns-in_err-packets
returns-in_err-packets c =
    let p = err_from_is_err_and c.from_residual-in_err-packets.result c.from_residual-in_err-packets.ensures.1 in
    let parts = c.in-Some.parts in
    rw (p.1, p.2) (no_packets_part c.args.isa c.args.form c.args.input.now parts.text.now parts.listing.now
    c.in-Some.ensures
    c.in_ok-program.program c.in_ok-program.ensures c.in_err-packets.field-0.0 c.in_err-packets.ensures)

pub returns-in_default : goal.returns-in_default
returns-in_default c = c.unparted.ensures.by_block c.args.form

pub returns : goal.returns
returns c =
    let parts = c.in-Some.parts in
    let program = c.in_ok-program.program in
    let packets = c.in_ok-packets.packets in
    let answer = c.in_ok-checked.checked.text.items in
    rw c.of_check.ensures (told c.args.isa c.args.form c.args.input.now answer c.in_ok-checked.checked.same (record {
      text = parts.text.now;
      listing = parts.listing.now;
      parted = c.in-Some.ensures;
      program = program;
      says = c.in_ok-program.ensures;
      packets = packets;
      read = c.in_ok-packets.ensures;
      checked = c.in_ok-checked.ensures;
      serial = λ same. c.checked_packets_are_serial.ensures program packets answer
          (subst (λ (all : Bool). IsChecked program packets answer all) same c.in_ok-checked.ensures);
    }))
