use Rattle.c62_meaning.proofs.Instances.{instances_are_serial}
use Rattle.c62_meaning.proofs.laws.instances_are_serial.Goals as goal

pub returns : goal.returns
returns c = instances_are_serial
