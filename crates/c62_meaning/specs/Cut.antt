-- Instructions issued later, and behind others that have landed: they do what they do alone, from what those leave
-- (docs/MACHINE.md, "Packets"). Nothing here speaks of blocks, labels or lengths.
use Rattle.std.specs.Prelude.{◌≡◌, ◌↔◌, ◌⊎◌, ℕ, ◌+◌, ◌-◌, ◌<◌, nat_lt, List, [], ◌∷◌, ◌++◌, map, All, Contains, sum_by, if◌then◌else◌}
use Rattle.c62_op.specs.declared.register.Reg.{Reg}
use Rattle.c62_serial.specs.State.{Machine, IsSound}
use Rattle.c62_packet.specs.declared.placed.Placed.{Placed}
use Rattle.c62_packet.specs.Packed.{AreDrained}
use Rattle.c62_meaning.specs.Packet.{Did, IsRun}
use Rattle.c62_meaning.specs.Meaning.{HasFaulted, LeavesState}
use Rattle.c62_meaning.specs.Landed.{LandOneByOne}

-- a run of what is issued, and what it leaves after so many cycles
pub record RunsTo (issued : List Placed) (cycles : ℕ) (opening : Machine) (did : Did) (final : Machine) : Type 0 where
  pub run : IsRun issued opening did
  pub leaves : LeavesState issued cycles opening did final

-- ---- later

-- issued so many cycles later
abbrev pub moved : ℕ → Placed → Placed
moved t p = record p { cycle = t + p.cycle }

-- what was done from cycle t on, with cycles counted from there
abbrev pub since : ℕ → Did → Did
since t did p = did (moved t p)

-- moved back
abbrev pub sooner : ℕ → Placed → Placed
sooner t p = record p { cycle = p.cycle - t }

-- the same done so many cycles later
abbrev pub delayed : ℕ → Did → Did
delayed t did p = did (sooner t p)

-- moving all that is issued changes nothing but when
pub record IsSameLater (t : ℕ) (issued : List Placed) (opening : Machine) (cycles : ℕ) (did : Did) (final : Machine) : Type 0 where
  pub moves : RunsTo issued cycles opening did final ↔ RunsTo (map (moved t) issued) (t + cycles) opening (delayed t did) final
  pub back : RunsTo (map (moved t) issued) (t + cycles) opening did final ↔ RunsTo issued cycles opening (since t did) final

abbrev pub RunsLater : ℕ → List Placed → Type 0
RunsLater t issued = (opening : Machine) (cycles : ℕ) (did : Did) (final : Machine) → IsSameLater t issued opening cycles did final

-- ---- a drained cut

-- behind what is issued early comes what is issued late, with cycles counted from t
abbrev pub behind : ℕ → List Placed → List Placed → List Placed
behind t early late = early ++ map (moved t) late

-- what the one did before cycle t, and from there on the other
abbrev pub joined : ℕ → Did → Did → Did
joined t first second p = if nat_lt p.cycle t then first p else delayed t second p

-- What runs are cut at cycle t, where what was done early is asked this.
pub record IsCutBy (asked : Did → Type 0) (t : ℕ) (early late : List Placed) : Type 0 where
  -- a run of the whole is one of the early and, from what that leaves, one of the late
  pub splits : (opening : Machine) (cycles : ℕ) (did : Did) (final : Machine) → IsSound opening → asked did
      → RunsTo (behind t early late) (t + cycles) opening did final
      → (middle : Machine) × RunsTo early t opening did middle × RunsTo late cycles middle (since t did) final
  -- and two such runs are one of the whole
  pub joins : (opening middle : Machine) (cycles : ℕ) (first second : Did) (final : Machine) → asked first → RunsTo early t opening first middle
      → RunsTo late cycles middle second final → RunsTo (behind t early late) (t + cycles) opening (joined t first second) final
  -- its faults are those of both
  pub faults : (did : Did) (line : ℕ) → HasFaulted (behind t early late) did line ↔ (HasFaulted early did line ⊎ HasFaulted late (since t did) line)
  -- and no write of the early lands together with one of the late
  pub one_by_one : (opening : Machine) (did : Did) → asked did → IsRun early opening did
      → LandOneByOne (behind t early late) did ↔ (LandOneByOne early did × LandOneByOne late (since t did))

-- all is issued before cycle t, and what was written has landed
pub record HaveLanded (t : ℕ) (issued : List Placed) (did : Did) : Type 0 where
  pub before : (p : Placed) → Contains issued p → p.cycle < t
  pub landed : (p : Placed) (write : (Reg × ℕ) × ℕ) → Contains issued p → Contains (did p).writes write → p.cycle + write.0.1 < t

-- runs are cut where what was done early has landed
abbrev pub LandedCuts : ℕ → List Placed → List Placed → Type 0
LandedCuts t early late = IsCutBy (HaveLanded t early) t early late

-- and so where nothing that is early can land from t on, whatever it did
abbrev pub DrainedCuts : ℕ → List Placed → List Placed → Type 0
DrainedCuts t early late = IsCutBy (λ did. AreDrained t early) t early late

-- once all has landed nothing changes any more
abbrev pub Settles : ℕ → List Placed → Type 0
Settles t issued = AreDrained t issued → (opening : Machine) (more : ℕ) (did : Did) (final : Machine) → IsSound opening
    → RunsTo issued t opening did final ↔ RunsTo issued (t + more) opening did final

-- ---- parts one behind the other

-- what is issued in a part, with cycles counted from its first, and how many it takes
pub record Part : Type 0 where
  pub issued : List Placed
  pub cycles : ℕ

abbrev pub in_turn : List Part → List Placed
in_turn [] = []
in_turn (part ∷ parts) = behind part.cycles part.issued (in_turn parts)

abbrev pub cycles_of_all : List Part → ℕ
cycles_of_all parts = sum_by (λ part. part.cycles) parts

-- each part runs from what the one before it leaves
abbrev pub RunInTurn : List Part → Machine → Did → Machine → Type 0
RunInTurn [] opening did final = final ≡ opening
RunInTurn (part ∷ parts) opening did final =
    (middle : Machine) × RunsTo part.issued part.cycles opening did middle × RunInTurn parts middle (since part.cycles did) final

-- so it does, whatever the others did
abbrev pub LeadTo : List Part → Machine → Machine → Type 0
LeadTo [] opening final = final ≡ opening
LeadTo (part ∷ parts) opening final =
    (middle : Machine) × (did : Did) × RunsTo part.issued part.cycles opening did middle × LeadTo parts middle final

-- of each part the writes of a register land one by one
abbrev pub LandInTurn : List Part → Did → Type 0
LandInTurn [] did = Unit {0}
LandInTurn (part ∷ parts) did = LandOneByOne part.issued did × LandInTurn parts (since part.cycles did)

-- what is done from one machine to another by all of them is done part by part
pub record IsInTurn (parts : List Part) (opening final : Machine) : Type 0 where
  pub each : (did : Did) → RunsTo (in_turn parts) (cycles_of_all parts) opening did final ↔ RunInTurn parts opening did final
  pub one_by_one : (did : Did) → RunInTurn parts opening did final → LandOneByOne (in_turn parts) did ↔ LandInTurn parts did
  pub all : ((did : Did) × RunsTo (in_turn parts) (cycles_of_all parts) opening did final) ↔ LeadTo parts opening final

abbrev pub PartsRunInTurn : List Part → Type 0
PartsRunInTurn parts = All (λ part. AreDrained part.cycles part.issued) parts → (opening final : Machine) → IsSound opening → IsInTurn parts opening final
