use Rattle.c62_flight.proofs.TwoBlocks.{two_laid, two_packets}
use Rattle.c62_flight.proofs.Loop.{loop_flies}
use Rattle.c62_flight.proofs.Rows.{samples_fly}
use Rattle.c62_flight.proofs.Hanging.{samples_hang}
use Rattle.c62_flight.proofs.laws.samples_fly.Goals as goal

pub returns : goal.returns
returns c = record {
  always = samples_fly;
  with_a1 = samples_hang;
  counting = loop_flies;
  laid = two_laid;
  blocks =
      two_packets;
}
