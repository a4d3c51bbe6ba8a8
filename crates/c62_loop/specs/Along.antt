-- A text flies along a path that is known beforehand: what is issued on the way are instances of the path, and its branches, run
-- serially, lead along it (docs/MACHINE.md, "Branches" and "Dependences").
use Rattle.std.specs.Prelude.{◌≡◌, ℕ, ◌+◌, ◌<◌, ◌≤◌, List, [], ◌∷◌, length, take, slice_get, Contains, Some}
use Rattle.c62_insn.specs.declared.effect.Target.{Target}
use Rattle.c62_read.specs.declared.block.SerialInsn.{SerialInsn}
use Rattle.c62_serial.specs.State.{Machine, IsSound}
use Rattle.c62_serial.specs.Serial.{act_in, serial}
use Rattle.c62_packet.specs.declared.placed.Placed.{Placed}
use Rattle.c62_packet.specs.Packed.{AreDrained, HaveOneBranch}
use Rattle.c62_meaning.specs.Packet.{Did}
use Rattle.c62_meaning.specs.Instances.{AreInstancesFrom}
use Rattle.c62_flight.specs.Text.{Text, Position, At, row_of, IsIssuable}
use Rattle.c62_flight.specs.Issued.{Visit, Issued, issued_on, over_of}
use Rattle.c62_flight.specs.Flight.{stands_after}
use Rattle.c62_flight.specs.Cut.{IsCut}

-- each instance does what its instruction does in the serial run of the path
abbrev pub ActSerially : List SerialInsn → List Placed → Machine → Did → Type 0
ActSerially path placed opening did = (i : ℕ) (entry : SerialInsn) (p : Placed) → slice_get path i ≡ Some entry → slice_get placed i ≡ Some p
    → did p ≡ act_in (serial (take i path) opening).machine entry

-- From where a run stands in a cycle its branches lead along these visits of rows of the text, each begun when the one before it is
-- over, to where it stands in another.
abbrev pub LeadAlong : Text → Issued → Position → ℕ → List Visit → Position → ℕ → Type 0
LeadAlong text issued position cycle [] last end = (last ≡ position) × (end ≡ cycle)
LeadAlong text issued position cycle (visit ∷ visits) last end =
    (position ≡ At visit.row) × (cycle ≡ visit.start) × (visit.row < length text.rows)
    × LeadAlong text issued (stands_after text issued visit) (over_of text issued visit) visits last end

-- So they do, and those that ran have taken effect by then.
pub record Steers (text : Text) (first : ℕ) (visits : List Visit) (row cycle : ℕ) (did : Did) : Type 0 where
  pub along : LeadAlong text (record { placed = issued_on text visits; did = did }) (At first) 0 visits (At row) cycle
  pub over : (p : Placed) (target : Target) → Contains (issued_on text visits) p → (did p).target ≡ Some target → p.cycle + 6 ≤ cycle

-- What is issued on these visits are instances of the path; from this machine its branches lead along them, from the first row to
-- one in a cycle by which all has landed. Of each packet on the way at most one is a branch.
pub record IsAlong (text : Text) (first : ℕ) (path : List SerialInsn) (visits : List Visit) (row cycle : ℕ) (opening : Machine) : Type 0 where
  pub issuable : IsIssuable text
  pub one_branch : (visit : Visit) → Contains visits visit → HaveOneBranch (row_of text visit.row).insns
  pub instances : AreInstancesFrom opening path (issued_on text visits)
  pub drained : AreDrained cycle (issued_on text visits)
  pub steers : (did : Did) → ActSerially path instances.placed opening did → Steers text first visits row cycle did

-- then the flight comes there with nothing in flight, and has left what the path leaves serially
abbrev pub FliesAlong : Text → ℕ → List SerialInsn → List Visit → ℕ → ℕ → Machine → Type 0
FliesAlong text first path visits row cycle opening = IsSound opening → IsAlong text first path visits row cycle opening
    → (more : ℕ) → IsCut text first (cycle + more) opening row cycle (serial path opening).machine
