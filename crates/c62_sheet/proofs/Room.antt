-- Every ready instruction finds room behind what is placed.
use Rattle.c62_sheet.proofs.Common.{arith, ◌≡◌, ℕ, ◌+◌, ◌*◌, ◌<◌, ◌≤◌, List, length, Some, refl, slice_get, IsTrue}
use Rattle.c62_sheet.proofs.Common.{ints, Insn, Issue}
use Rattle.c62_sheet.proofs.Common.{IsIssued, stands_on, Spot, Spots, IsAt, placed, issue_at, issues, IsLawful, IsReady}
use Rattle.c62_sheet.proofs.Common.{IsAfter, KeepsAll, IsPlan}
use Rattle.c62_rules.proofs.Capacities.{used-added, none-used-in, alone-fits}
use Rattle.c62_rules.proofs.Users.{counts-here}
use Rattle.c62_depend.proofs.Latencies.{bounds-small}
use Rattle.c62_sheet.specs.Laws.{HasRoom}
use Rattle.c62_sheet.proofs.IssuesOf.{issued-placement, length-issues}
use Rattle.c62_sheet.proofs.Used.{insn_at}
use Rattle.c62_sheet.proofs.Placing.{added, not_issued, lawful_from_fits}

module _ (block : List Insn) (set : Spots) (i k : ℕ) (s : Spot) (lawful : IsLawful block set)
    (ready : IsReady block set i)
    (in_block : i < length block)
    (behind : (j : ℕ) (t : Spot) → IsAt set j t → t.cycle + 5 ≤ 5 * k) (there : s.cycle ≡ 5 * k) where
  at : slice_get block i ≡ Some (insn_at block i in_block).0
  at = (insn_at block i in_block).1

  -- nothing is issued in this cycle
  before : (j : ℕ) (q : Issue) → IsIssued (issues block set) j q → q.cycle ≡ s.cycle → ⊥
  before j q is e =
      let w = issued-placement block set j q lawful.sized is in
      grind (arith, behind j w.spot w.is_at, w.is_issue, there)

  keeps : KeepsAll block set i s
  keeps r =
      let first : Insn = (insn_at block i in_block).0 in
      let in_issues : i < length (issues block set) = omega (arith, length-issues block set lawful.sized) in
      let sum = used-added r s.cycle (issues block set) i (issue_at first s) in_issues
      (not_issued block set i first s lawful.sized at ready.free) in
      rw (added block set i first s lawful.sized at ready.free)
      (omega (
        arith,
        none-used-in s.cycle r (issues block set) before,
        counts-here r s.cycle (issue_at first s) refl,
        alone-fits r first s.unit,
        sum,
      ))

  after : IsAfter block set i s.cycle
  after h bound t w is = omega (arith, ints, (bounds-small block h i bound w).1, behind h t is, there)

  room : k < length block → IsTrue (stands_on block i s.unit) → IsLawful block (placed set i s)
  room low stands =
      lawful_from_fits block set i s (insn_at block i in_block).0 lawful at in_block ready.free ready.founded after
      (omega (arith, low, there))
      (record { stands = stands; keeps = keeps })

pub finds_room : (block : List Insn) (set : Spots) (i k : ℕ) → IsPlan block → IsLawful block set → IsReady block set i
    → i < length block
    → k < length block → ((j : ℕ) (t : Spot) → IsAt set j t → t.cycle + 5 ≤ 5 * k) → HasRoom block set i k
finds_room block set i k known lawful ready in_block low behind =
    let found = known.stands i in_block in
    let s : Spot = record { cycle = 5 * k; unit = found.0 } in
    let fits : IsLawful block (placed set i s) = room block set i k s lawful ready in_block behind refl low found.1 in
    record { unit = found.0; fits = fits; least = λ t least. grind (arith, least.first s fits) }
