use Rattle.std.proofs.Common.{rules}
use Rattle.c62_json_lint.proofs.serial.serial_document.Goals as goal

pub returns : goal.returns
returns c = record {
  faults = c.in_ok-all.all.items;
  are = c.in_ok-all.ensures;
  says = search rules;
  some = search rules;
}
