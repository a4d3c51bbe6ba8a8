-- What a row says against a number is what the packet rules P1 to P4 say.
use Rattle.c62_sheet.proofs.Common.{arith, ◌≡◌, ℕ, List, length, Some, None, Option, slice_get, Insn, Spot, Spots}
use Rattle.c62_sheet.proofs.Common.{spot_at, issue_at, issues, BreaksFirst, KeepsAll}
use Rattle.c62_sheet.proofs.Common.{slice_get_within, MatchOption, Row, IsRowOf, CycleRule, Uses, AreUses, Tells}
use Rattle.c62_row.specs.Issued.{IsFree}
use Rattle.c62_row.proofs.Deciding.{row_decides}
use Rattle.c62_sheet.proofs.IssuesOf.{length-issues}
use Rattle.c62_sheet.proofs.Placing.{added, not_issued}

-- number i is not placed, and this is the row of the cycle of a spot
module _ (block : List Insn) (set : Spots) (i : ℕ) (s : Spot) (insn : Insn) (row : Row) (own : Uses)
    (sized : length set ≡ length block)
    (at : slice_get block i ≡ Some insn) (free : spot_at set i ≡ None) (is : IsRowOf row s.cycle (issues block set))
    (are : AreUses own insn s.unit) where
  pub is_free : IsFree (issues block set) i
  is_free = (
    omega (arith, length-issues block set sized, slice_get_within block i insn at),
    not_issued block set i insn
        s sized at free,
  )

  pub row_tells : (told : Option CycleRule) → Tells row own told
      → MatchOption told (KeepsAll block set i s) (λ rule. BreaksFirst block set i s rule)
  row_tells told tells = rw (added block set i insn s sized at free)
      (row_decides row own told (issues block set) i (issue_at insn s) is_free is are tells)
