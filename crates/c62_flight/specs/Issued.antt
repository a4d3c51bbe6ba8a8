-- What was issued on a path through a text, and the branches among it (docs/MACHINE.md, "Branches"; SPRU189, "Delay Slots").
use Rattle.std.specs.Prelude.{ℕ, zero, suc, ◌+◌, nat_lt, Bool, ◌==◌, ◌&&◌, ◌||◌, if◌then◌else◌, List, [], ◌∷◌, map, length, Option, None, is_some}
use Rattle.std.specs.List.{flat_map, list_any}
use Rattle.std.specs.Option.{option_or}
use Rattle.c62_insn.specs.declared.effect.Target.{Target}
use Rattle.c62_packet.specs.declared.placed.Placed.{Placed}
use Rattle.c62_meaning.specs.Packet.{Did}
use Rattle.c62_flight.specs.Text.{Text, row_of}

-- ---- paths

-- a row is begun in a cycle
pub record Visit : Type 0 where
  pub row : ℕ
  pub start : ℕ

abbrev pub issue_in : ℕ → Placed → Placed
issue_in cycle p = record p { cycle = cycle }

-- the instructions of its row, all issued in its first cycle
abbrev pub issued_in : Text → Visit → List Placed
issued_in text visit = map (issue_in visit.start) (row_of text visit.row).insns

abbrev pub issued_on : Text → List Visit → List Placed
issued_on text path = flat_map (issued_in text) path

-- instructions in the order of their issue, and what each did
pub record Issued : Type 0 where
  pub placed : List Placed
  pub did : Did

-- ---- branches

-- the first that there is of what these have
abbrev pub first_of : {X Y : Type 0} → (X → Option Y) → List X → Option Y
first_of f [] = None
first_of f (x ∷ xs) = option_or (f x) (first_of f xs)

-- where an instruction goes, if it is a branch that ran and takes effect in this cycle
abbrev pub goes_in : Did → ℕ → Placed → Option Target
goes_in did cycle p = if p.cycle + 6 == cycle then (did p).target else None

-- where the branch goes that takes effect in a cycle, if one does
abbrev pub turn : Issued → ℕ → Option Target
turn issued cycle = first_of (goes_in issued.did cycle) issued.placed

-- A row begun in a cycle, or that has so many idle cycles left behind it, is over when these are, or sooner, where a branch
-- takes effect.
abbrev pub over : Issued → ℕ → ℕ → ℕ
over issued cycle zero = cycle + 1
over issued cycle (suc idle) = if is_some (turn issued (cycle + 1)) then cycle + 1 else over issued (cycle + 1) idle

abbrev pub over_of : Text → Issued → Visit → ℕ
over_of text issued visit = over issued visit.start (row_of text visit.row).idle

-- a branch that ran was issued before this cycle and takes effect after it
abbrev pub is_in_flight : Did → ℕ → Placed → Bool
is_in_flight did cycle p = is_some (did p).target && (nat_lt p.cycle cycle && nat_lt cycle (p.cycle + 6))

-- there is a row to go on with, or a branch is in flight
abbrev pub goes_on : Text → Issued → ℕ → ℕ → Bool
goes_on text issued row cycle = nat_lt row (length text.rows) || list_any (is_in_flight issued.did cycle) issued.placed
