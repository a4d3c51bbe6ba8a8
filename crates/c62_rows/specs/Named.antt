-- What a label does where no packet is open.
use Rattle.std.specs.Prelude.{[], ◌∷◌, ◌++◌, length}
use Rattle.c62_read.specs.Program.{Name}
use Rattle.c62_rows.specs.Reading.{Reading}

-- it names the row behind those that are over
abbrev pub named : Name → Reading → Reading
named label reading = record {
  done = reading.done;
  current = reading.current;
  labels = reading.labels ++ (label, length reading.done) ∷ [];
  targets = reading.targets;
  words = reading.words;
}
