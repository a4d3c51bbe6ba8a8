use Rattle.c62_sheet.proofs.Common.{arith, ℕ, ◌<◌, List, length, sym, ◌∙◌, IsTrue, Bool, false≢true}
use Rattle.c62_sheet.proofs.Common.{Insn, insns_of, many_insns, Spot, Spots, placed, IsLawful, ◌↔◌, LacksSome}
use Rattle.c62_sheet.proofs.Common.{KeepsAll}
use Rattle.c62_sheet.proofs.RowsOf.{fits_here, row_of}
use Rattle.c62_sheet.proofs.Optional.{none_not_some}
use Rattle.c62_sheet.proofs.Turns.{IsClear, clear_five, clear_all, clear_open}
use Rattle.c62_sheet.proofs.Placing.{after_from_lawful}
use Rattle.c62_sheet.proofs.whole.is_lawful_with.Goals as goal

-- where the row has room, and nothing that is asked before speaks against the triple, it may be added
judged : (block : List Insn) (set : Spots) (i : ℕ) (s : Spot) (b : Bool) → IsLawful block set → i < length block
    → IsClear block set i s 0 5
    → (IsTrue b → KeepsAll block set i s) → (KeepsAll block set i s → IsTrue b)
    → IsTrue b ↔ IsLawful block (placed set i s)
judged block set i s b lawful within clear keeps kept = (
  λ h. (clear_open block set i s lawful within (clear_all clear (keeps h))).lawful,
  λ w. kept
      (w.rules.enough s.cycle),
)

pub returns-then-spot-ready_early : goal.returns-then-spot-ready_early
returns-then-spot-ready_early c = (
  λ e. absurd (false≢true e),
  λ w.
      let after = after_from_lawful _ _ _ _ (omega (arith, many_insns, c.requires.lawful.sized)) w in
      absurd (omega (arith, c.ready_early.ensures.least c.args.spot.cycle after, c.if-spot-ready_early.true)),
)

pub returns : goal.returns
returns c =
    let founded = λ (lacks : LacksSome (insns_of c.args.plan.now) c.args.spots.now c.args.i).
    none_not_some _ lacks.2 (c.requires.ready.founded lacks.0 lacks.1) in
    let clear = clear_five _ _ _ c.args.spot _ c.requires.ready.free (sym (c.if-not-has.ensures
    ∙ c.units.ensures c.args.spot.unit))
    (omega (arith, many_insns)) founded c.ready_early.ensures c.if-spot-ready_early.false in
    let block = insns_of c.args.plan.now in
    let set = c.args.spots.now in
    let here = fits_here block set c.args.i c.args.spot c.insn.result c.index-rows-from.result c.requires.lawful.sized
    c.insn.ensures c.requires.ready.free
    (row_of block set c.args.rows.now c.from.result c.args.spot.cycle c.index-rows-from.result c.requires.rows
    c.index-rows-from.is c.from.ensures (omega (arith, many_insns, c.requires.rows.sized))) in
    judged _ _ _ _ _ c.requires.lawful (omega (arith, many_insns)) clear
    (λ h. here.0 (λ place low. omega (arith, c.fits.ensures.0 h place low, c.of.ensures place low)))
    (λ keeps. c.fits.ensures.1 (λ place low. omega (arith, here.1 keeps place low, c.of.ensures place low)))
