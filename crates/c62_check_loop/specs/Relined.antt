-- Rows whose instructions have other lines (docs/CHECK.md, "How it is decided").
use Rattle.std.specs.Prelude.{◌≡◌, map}
use Rattle.c62_flight.specs.Text.{Text, Row}
use Rattle.c62_loop_match.specs.Reading.{unlined}

abbrev pub row_unlined : Row → Row
row_unlined row = record { insns = map unlined row.insns; idle = row.idle }

-- Both hold the same packets, whatever lines their instructions have, and their labels name the same ones.
pub record AreRelined (text other : Text) : Type 0 where
  pub rows : map row_unlined text.rows ≡ map row_unlined other.rows
  pub aims : text.aims ≡ other.aims
