use Rattle.c62_rules.proofs.Broken.{two-on-one-unit, two-over-cross-path, two-over-data-path, five-reads, two-landings}
use Rattle.c62_rules.proofs.laws.breaches.Goals as goal

pub returns : goal.returns
returns c = record {
  units = two-on-one-unit;
  cross_paths = two-over-cross-path;
  data_paths = two-over-data-path;
  reads = five-reads;
  landings = two-landings;
}
