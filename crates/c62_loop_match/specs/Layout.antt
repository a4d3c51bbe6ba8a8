-- What rows issue in a run that goes straight through them.
use Rattle.std.specs.Prelude.{◌≡◌, ℕ}
use Rattle.c62_flight.specs.Text.{Text}
use Rattle.c62_flight.specs.Issued.{issued_on}
use Rattle.c62_flight.specs.Laid.{straight, straight_end}
use Rattle.c62_loop_match.specs.declared.layout.Laid.{Laid}

-- so many rows from one on, the first begun in a cycle, issue this, and are over then
pub record IsLaidOut (text : Text) (first count start : ℕ) (laid : Laid) : Type 0 where
  pub issued : laid.issued.items ≡ issued_on text (straight text first start count)
  pub end : laid.end ≡ straight_end text first start count
