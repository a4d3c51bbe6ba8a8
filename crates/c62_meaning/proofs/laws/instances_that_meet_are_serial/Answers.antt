use Rattle.c62_meaning.proofs.Instances.{instances_are_serial_from}
use Rattle.c62_meaning.proofs.laws.instances_that_meet_are_serial.Goals as goal

pub returns : goal.returns
returns c = instances_are_serial_from
