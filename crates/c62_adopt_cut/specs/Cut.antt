-- Where lines of packets stand: in which cycle, and in which block (docs/ADOPT.md, "Cycles" and "Blocks"). Of the lines
-- above another the nearest is the first.
use Rattle.std.specs.Prelude.{ℕ, ◌+◌, ◌-◌, max, Bool, true, false, not, ◌&&◌, nat_le, nat_lt, if◌then◌else◌, List, [], ◌∷◌, ◌++◌}
use Rattle.std.specs.Prelude.{Option, Some, None, is_some, unwrap_or}
use Rattle.std.specs.List.{list_any}
use Rattle.c62_op.specs.Shape.{is_branch}
use Rattle.c62_line.specs.Line.{Says, Nothing, Pause, Does, Jumps}
use Rattle.c62_adopt_line.specs.Line.{Line}
use Rattle.c62_adopt_cut.specs.declared.clock.Stand.{Stand}

-- ---- cycles

abbrev pub cycles_said : Says → ℕ
cycles_said Nothing = 0
cycles_said (Pause n) = n
cycles_said _ = 1

-- A packet takes a cycle. A NOP of n cycles beside others makes that n cycles (SPRU189, "Multicycle NOPs").
abbrev pub cycles_added : Line → ℕ
cycles_added line = if line.beside then cycles_said line.says - 1 else cycles_said line.says

-- the cycles of all these lines
abbrev pub cycles_of : List Line → ℕ
cycles_of [] = 0
cycles_of (line ∷ above) = cycles_of above + cycles_added line

-- ---- packets

-- a line and those above it
pub record Place : Type 0 where
  pub line : Line
  pub above : List Line

abbrev pub place_of : List Line → Line → Place
place_of above line = record { line = line; above = above }

abbrev pub is_filled : Says → Bool
is_filled Nothing = false
is_filled _ = true

-- an instruction or a NOP without bars
abbrev pub begins_packet : Line → Bool
begins_packet line = is_filled line.says && not line.beside

-- the first line of the last packet, where no label stands below it
abbrev pub last_packet : List Line → Option Place
last_packet [] = None
last_packet (line ∷ above) =
    if begins_packet line then Some (place_of above line) else (if is_some line.label then None else last_packet above)

-- the first line of the packet that a line is of
abbrev pub first_of : List Line → Line → Place
first_of above line = if line.beside then unwrap_or (last_packet above) (place_of above line) else place_of above line

-- the cycle of a packet's first line: those above it have passed
abbrev pub cycle_at : Place → ℕ
cycle_at place = cycles_of place.above

-- ---- blocks

-- a label cuts the text where it stands
abbrev pub label_cuts : Place → List ℕ
label_cuts place = if is_some place.line.label then cycles_of place.above ∷ [] else []

abbrev pub is_branching : Says → Bool
is_branching (Does parts) = is_branch parts.op
is_branching (Jumps parts label) = is_branch parts.op
is_branching _ = false

abbrev pub is_cut_behind : ℕ → List ℕ → Bool
is_cut_behind cycle cuts = list_any (λ cut. nat_lt cycle cut) cuts

-- a branch in this cycle cuts it behind its delay slots, but for one in the delay slots of another
abbrev pub with_cut : ℕ → List ℕ → List ℕ
with_cut cycle cuts = if is_cut_behind cycle cuts then cuts else (cycle + 6) ∷ cuts

-- the cycles in which lines cut the text, behind cuts of lines above
abbrev pub with_label_cut : Place → List ℕ → List ℕ
with_label_cut place cuts = label_cuts place ++ cuts

abbrev pub with_branch_cut : Place → List ℕ → List ℕ
with_branch_cut place cuts = if is_branching place.line.says then with_cut (cycle_at (first_of place.above place.line)) cuts else cuts

abbrev pub cuts_of : List Line → List ℕ
cuts_of [] = []
cuts_of (line ∷ above) = with_branch_cut (place_of above line) (with_label_cut (place_of above line) (cuts_of above))

-- the last of these cuts that is not behind the cycle, or the text's beginning
abbrev pub start_of : ℕ → List ℕ → ℕ
start_of cycle [] = 0
start_of cycle (cut ∷ cuts) = if nat_le cut cycle then max cut (start_of cycle cuts) else start_of cycle cuts

-- where a packet's first line stands: in which cycle of the text, and in which its block begins
abbrev pub stand_at : Place → Stand
stand_at place = record { cycle = cycle_at place; start = start_of (cycle_at place) (with_label_cut place (cuts_of place.above)) }

-- a line stands where the first line of its packet does
abbrev pub stand_of : List Line → Line → Stand
stand_of above line = stand_at (first_of above line)
