-- What the faults of a run amount to, as laws above their definitions.
use Rattle.std.specs.Prelude.{◌≡◌, ◌≢◌, ◌⊎◌, ◌↔◌, ℕ, ◌+◌, ◌%◌, ◌<◌, Bool, ◌==◌, List, [], Contains, find, MatchOption, IsTrue}
use Rattle.std.specs.List.{IsDistinct}
use Rattle.c62_read.specs.Block.{Serial}
use Rattle.c62_serial.specs.declared.state.TheConstants.{MEMORY_BYTES}
use Rattle.c62_serial.specs.declared.chain.Chain.{Chain}
use Rattle.c62_serial.specs.State.{Machine}
use Rattle.c62_serial.specs.Memory.{is_good}
use Rattle.c62_serial.specs.Chain.{RunsProgram, Standing, IsProgramChain}
use Rattle.c62_faulted.specs.declared.fault.Cause.{Cause}
use Rattle.c62_faulted.specs.declared.fault.Cause.TheVariants.{Misaligned, PastEnd}
use Rattle.c62_faulted.specs.declared.fault.Fault.{Fault}
use Rattle.c62_faulted.specs.Faulted.{FindsFaults, cause_of, faults_on, has_line}

-- ---- causes

-- the address is no multiple of the size; or it is one, and the access reaches past the end of memory
abbrev pub IsCause : Cause → (address size : ℕ) → Type 0
IsCause Misaligned address size = address % size ≢ 0
IsCause PastEnd address size = (address % size ≡ 0) × (MEMORY_BYTES < address + size)

-- an access is good, or there is a cause, which is true
abbrev pub HasItsCause : (address size : ℕ) → Type 0
HasItsCause address size = MatchOption (cause_of address size) (IsTrue (is_good address size)) (λ cause. IsCause cause address size)

-- ---- the first of each line

abbrev pub same_line : Fault → Fault → Bool
same_line one other = one.line == other.line

-- Of these faults each line's first is told, and no other.
pub record TellsFirsts (all told : List Fault) : Type 0 where
  pub first : (line : ℕ) → find (λ fault. line == fault.line) told ≡ find (λ fault. line == fault.line) all
  pub once : IsDistinct same_line told

-- so it is with the faults that come in a program's run, of which there is one
abbrev pub TellsFirstsOfRun : List Serial → Machine → ℕ → List Fault → Type 0
TellsFirstsOfRun program opening limit told =
    FindsFaults program opening limit told
    → (standing : Standing) × IsProgramChain program opening limit standing × TellsFirsts (faults_on program opening standing.numbers) told

-- ---- the lines of a report

-- From a machine with no faulted line: the lines that are told are those that the program's run leaves as faulted.
abbrev pub TellsLines : List Serial → Machine → ℕ → List Fault → Chain → Machine → Type 0
TellsLines program opening limit told chain final =
    opening.faults ≡ [] → FindsFaults program opening limit told → RunsProgram program opening limit chain final
    → (line : ℕ) → IsTrue (has_line line told) ↔ Contains final.faults line
