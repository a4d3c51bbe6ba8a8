-- The lines of a check and its document tell the same.
use Rattle.std.proofs.Common.{List, refl}
use Rattle.c62_read.specs.Block.{Serial, labels_in}
use Rattle.c62_packet.specs.Packed.{Packed}
use Rattle.c62_packet.specs.Packets.{labels_of}
use Rattle.c62_check.specs.Lines.{told_lines}
use Rattle.c62_check.proofs.OneText.{one_text}
use Rattle.c62_json_check.specs.Checked.{TellsTheSame}

pub tells_the_same : (program : List Serial) (packets : List Packed) → TellsTheSame program packets
tells_the_same program packets blocks sound text told same also checked is =
    let listed = labels_of packets in
    let labels = labels_in program in
    let both = one_text program packets blocks sound text (told_lines listed labels is.others is.verdicts) same also
    checked (record { others = is.others; verdicts = is.verdicts; judged = is.judged; told = refl; all = is.all }) in (
      both.1,
      record {
        listed = listed;
        labels = labels;
        others = is.others;
        verdicts = is.verdicts;
        lines = both.0;
        members_told = is.told;
      },
    )
