use Rattle.c62_answer.proofs.Answering.{same_report}
use Rattle.c62_answer.proofs.answer.run_by_turns.Goals as goal

pub returns : goal.returns
returns c =
    let packing = c.args.packing in
    let start = c.args.start.now in
    record {
      program = c.in_ok-program.program;
      says = c.in_ok-program.ensures;
      packets = c.in_ok-packets.packets;
      packed = c.in_ok-packets.ensures.packed;
      reported = same_report packing c.in_ok-program.program c.in_ok-packets.packets start.settings.items start.course
          c.in_ok-packet_run.field-0.outcome c.in_ok-packet_run.field-0.text.items c.in_ok-packets.ensures.packed
          c.in_ok-packet_run.ensures;
    }
