-- The counts of some rows.
use Rattle.std.proofs.Common.{◌≡◌, ℕ, ◌+◌, ◌-◌, ◌≤◌, List, length, take, drop, arith}
use Rattle.std.proofs.lemmas.List.Sums.{sum_by-take-le, sum_by-take-drop}
use Rattle.c62_exec.specs.declared.tally.Count.{Count}
use Rattle.c62_profile.specs.Flights.{Block, counts_in, cycles_of, rows_in}

few_behind_any : (counts : List Count) (place : ℕ) → cycles_of (drop place counts) ≤ cycles_of counts
few_behind_any counts place =
    let both : cycles_of (take place counts) + cycles_of (drop place counts) ≡ cycles_of counts = sum_by-take-drop
    (λ (c : Count). c.cycles) counts place in omega arith

-- a block takes no more cycles than all do
pub few_in_block : (counts : List Count) (block : Block) (most : ℕ) → cycles_of counts ≤ most
    → cycles_of (counts_in counts block) ≤ most
few_in_block counts block most few =
    let behind : cycles_of (drop block.first counts) ≤ cycles_of counts = few_behind_any counts block.first in
    let inside : cycles_of (counts_in counts block) ≤ cycles_of (drop block.first counts) =
    sum_by-take-le (λ (c : Count). c.cycles) (drop block.first counts) (block.behind - block.first) in omega arith

pub few_behind : (counts : List Count) (place most : ℕ) → cycles_of counts ≤ most → cycles_of (drop place counts) ≤ most
few_behind counts place most few = let behind : cycles_of (drop place counts) ≤ cycles_of counts = few_behind_any counts
    place in omega arith
