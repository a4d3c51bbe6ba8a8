-- How often each row of a text is begun on the path of its flight, and how many cycles are the row's (docs/REPORT.md, "The profile").
use Rattle.std.specs.Prelude.{◌≡◌, ℕ, ◌+◌, ◌-◌, ◌<◌, ◌≤◌, ◌==◌, List, [], ◌∷◌, All, length, min, count_by, replicate, slice_set, slice_index_or, if◌then◌else◌}
use Rattle.c62_serial.specs.State.{Machine}
use Rattle.c62_flight.specs.declared.stop.Stop.{Stop}
use Rattle.c62_flight.specs.Text.{Text}
use Rattle.c62_flight.specs.Issued.{Visit}
use Rattle.c62_flight.specs.Flight.{Flies}
use Rattle.c62_exec.specs.declared.tally.Count.{Count}
use Rattle.c62_exec.specs.declared.tally.Tally.{Tally}

-- ---- of a path

-- the place of a visit's row among so many, behind which all have one place
abbrev pub place_of : ℕ → Visit → ℕ
place_of rows visit = min visit.row rows

-- how often the row of this place is begun
abbrev pub runs_in : ℕ → ℕ → List Visit → ℕ
runs_in rows place path = count_by (λ visit. place_of rows visit == place) path

-- the cycle in which the next row is begun, or else the run ends
abbrev pub next_start : List Visit → ℕ → ℕ
next_start [] end = end
next_start (visit ∷ path) end = visit.start

-- so many cycles are those of the row: each is one of the row that was begun last
abbrev pub cycles_in : ℕ → ℕ → List Visit → ℕ → ℕ
cycles_in rows place [] end = 0
cycles_in rows place (visit ∷ path) end =
    (if place_of rows visit == place then next_start path end - visit.start else 0) + cycles_in rows place path end

abbrev pub no_count : Count
no_count = record { runs = 0; cycles = 0 }

abbrev pub count_at : List Count → ℕ → Count
count_at counts place = slice_index_or counts place no_count

-- these are the counts of so many rows on a path in a run of so many cycles
pub record AreCounts (rows : ℕ) (path : List Visit) (end : ℕ) (counts : List Count) : Type 0 where
  pub runs : (place : ℕ) → place < length counts → (count_at counts place).runs ≡ runs_in rows place path
  pub cycles : (place : ℕ) → place < length counts → (count_at counts place).cycles ≡ cycles_in rows place path end

-- A text flies so, and these are the counts of its rows on the way, with one of all rows behind the last.
pub record CountsFlight (text : Text) (first limit : ℕ) (opening : Machine) (stop : Stop) (cycles : ℕ) (final : Machine) (counts : List Count) : Type 0 where
  pub flies : Flies text first limit opening stop cycles final
  pub each : length counts ≡ length text.rows + 1
  pub are : AreCounts (length text.rows) flies.path cycles counts

-- ---- while it runs

-- nothing was begun yet of so many rows
pub record IsFresh (rows : ℕ) (tally : Tally) : Type 0 where
  pub counts : tally.counts.items ≡ replicate rows no_count
  pub row : tally.row ≡ rows
  pub start : tally.start ≡ 0

abbrev pub with_cycles : ℕ → ℕ → List Count → List Count
with_cycles more row counts = slice_set counts row (record { runs = (count_at counts row).runs; cycles = (count_at counts row).cycles + more })

abbrev pub with_run : ℕ → List Count → List Count
with_run row counts = slice_set counts row (record { runs = (count_at counts row).runs + 1; cycles = (count_at counts row).cycles })

-- the cycles before this one were those of the row that was begun last
abbrev pub closed : ℕ → Tally → List Count
closed cycle tally = with_cycles (cycle - tally.start) tally.row tally.counts.items

-- no count is beyond what so many cycles can bring
pub record AreBelow (cycle : ℕ) (tally : Tally) : Type 0 where
  pub start : tally.start ≤ cycle
  pub runs : All (λ count. count.runs ≤ cycle) tally.counts.items
  pub cycles : All (λ count. count.cycles ≤ tally.start) tally.counts.items

-- so far this was counted on a path
pub record IsTally (rows : ℕ) (path : List Visit) (tally : Tally) : Type 0 where
  pub runs : (place : ℕ) → place < length tally.counts.items → (count_at tally.counts.items place).runs ≡ runs_in rows place path
  pub cycles : (place end : ℕ) → place < length tally.counts.items → (count_at (closed end tally) place).cycles ≡ cycles_in rows place path end

-- a text flies so, and this was counted on the way
pub record FliesTallied (text : Text) (first limit : ℕ) (opening : Machine) (stop : Stop) (cycles : ℕ) (final : Machine) (tally : Tally) : Type 0 where
  pub flies : Flies text first limit opening stop cycles final
  pub tallied : IsTally (length text.rows) flies.path tally
  pub below : All (λ count. count.cycles ≤ tally.start) tally.counts.items
