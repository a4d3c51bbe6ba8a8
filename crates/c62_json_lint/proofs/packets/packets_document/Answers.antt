use Rattle.std.proofs.Common.{refl}
use Rattle.c62_json_lint.proofs.packets.packets_document.Goals as goal

pub returns : goal.returns
returns c = record {
  remarks = c.in_ok-remarks.remarks;
  are = c.in_ok-remarks.ensures;
  says = c.in_ok-text.ensures;
  some = refl;
}
