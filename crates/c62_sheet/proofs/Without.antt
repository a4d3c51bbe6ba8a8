-- What fits once one is taken out alone.
use Rattle.c62_sheet.proofs.Common.{arith, ◌≡◌, ℕ, ◌<◌, List, length, None, ◌∙◌, length-set, slice_set, FunctionalUnit}
use Rattle.c62_sheet.proofs.Common.{Insn, KeepsPacketRules, Spots}
use Rattle.c62_sheet.specs.Lawful.{placed}
use Rattle.std.proofs.Common.{Some}
use Rattle.c62_sheet.proofs.Common.{spot_at, withdrawn, issues, IsLawful, IsReady, IsAfter, Fits, part-without}
use Rattle.c62_sheet.proofs.Common.{part-keeps, Spot, FitsWithout}
use Rattle.c62_sheet.proofs.Sets.{spot_at-withdrawn_same, spot_at-withdrawn_other, IsAt-withdrawn}
use Rattle.c62_sheet.proofs.IssuesOf.{issues-withdrawn}
use Rattle.c62_sheet.proofs.Used.{insn_at}
use Rattle.c62_sheet.proofs.Placing.{no_dependent, landings_kept, delays_placed, rules_from_keeps}

module _ (block : List Insn) (set : Spots) (q : ℕ) (lawful : IsLawful block set) (in_block : q < length block) where
  pub rules_without : KeepsPacketRules (issues block (withdrawn set q))
  rules_without =
      rw (issues-withdrawn block set q lawful.sized)
      (part-keeps (slice_set (issues block set) q None) (issues block set) (part-without (issues block set) q)
      lawful.rules)

  pub free_without : (i : ℕ) → spot_at set i ≡ None → spot_at (withdrawn set q) i ≡ None
  free_without i free = grind (arith, lawful.sized, spot_at-withdrawn_same set q, spot_at-withdrawn_other set q i)

-- a ready number
module _ (block : List Insn) (set : Spots) (i cycle q : ℕ) (lawful : IsLawful block set) (in_block : i < length block)
    (q_in : q < length block)
    (ready : IsReady block set i) where
  pub fits_without_from : (unit : FunctionalUnit) → IsAfter block set i cycle
      → Fits block (withdrawn set q) i (record { cycle = cycle; unit = unit })
      → FitsWithout block set i cycle q
  fits_without_from unit after fits =
      let insn = insn_at block i in_block in
      let sized = length-set set q None ∙ lawful.sized in
      let s : Spot = record { cycle = cycle; unit = unit } in
      let free = free_without block set q lawful q_in i ready.free in
      let lt : q < length set = omega (arith, q_in, lawful.sized) in
      record {
        unit = unit;
        stands = fits.stands;
        rules = rules_from_keeps block (withdrawn set q) i insn.0 s sized insn.1 in_block free
            (rules_without block set q lawful q_in) fits.keeps
            (landings_kept block (placed (withdrawn set q) i s) (length-set (withdrawn set q) i (Some s) ∙ sized)
            (delays_placed block (withdrawn set q) i s (omega (arith, in_block, sized))
            (λ h j bound t u w is_t is_u. lawful.delays h j bound t u w (IsAt-withdrawn set q h t lt is_t).1
            (IsAt-withdrawn set q j u lt is_u).1)
            (λ j t dep is. no_dependent block set i s insn.0 lawful insn.1 in_block ready.free j t dep
            (IsAt-withdrawn set q j t lt is).1)
            (λ h bound t w is. after h bound t w (IsAt-withdrawn set q h t lt is).1)));
      }

  pub fits_from_without : (w : FitsWithout block set i cycle q)
      → Fits block (withdrawn set q) i (record { cycle = cycle; unit = w.unit })
  fits_from_without w = record {
    stands = w.stands;
    keeps = w.rules.enough cycle;
  }
