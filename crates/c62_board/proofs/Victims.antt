-- What is ejected, and that the pick then has a spot.
use Rattle.std.proofs.Common.{◌≡◌, ◌≢◌, ℕ, ◌+◌, ◌*◌, ◌<◌, ◌≤◌, List, length, Option, Some, None, inl, inr, sym, ap}
use Rattle.std.proofs.Common.{refl, ◌∙◌, subst, arith, get_or-set_same, get_or-set_other, length-set}
use Rattle.std.specs.Prelude.{MatchOption}
use Rattle.std.proofs.lemmas.Bool.{cases_eq}
use Rattle.std.proofs.lemmas.Option.{none-some}
use Rattle.c62_insn.specs.declared.insn.Insn.{Insn}
use Rattle.c62_depend.specs.Height.{height}
use Rattle.c62_sheet.specs.declared.entry.Entry.{Entry}
use Rattle.c62_sheet.specs.declared.entry.Spot.{Spot}
use Rattle.c62_sheet.specs.declared.entry.Who.{Who}
use Rattle.c62_sheet.specs.Lawful.{Spots, IsAt, spot_at, placed, withdrawn, IsLawful}
use Rattle.c62_sheet.specs.Least.{IsReady, IsAfter, IsEarly, IsLeast}
use Rattle.c62_sheet.specs.Journal.{replayed}
use Rattle.c62_sheet.specs.Chain.{Leads, start, more}
use Rattle.c62_board.specs.Withdrawal.{GoesWith, Withdraws}
use Rattle.c62_board.specs.Ejection.{IsEjected}
use Rattle.c62_sheet.proofs.Optional.{some_is}
use Rattle.c62_sheet.proofs.Search.{least_unique}
use Rattle.c62_sheet.proofs.Victims.{at_in, one_early}
use Rattle.c62_board.proofs.Placements.{lawful_placed}
use Rattle.c62_board.proofs.Parts.{IsPart, rules_part}
use Rattle.c62_board.proofs.TakingOut.{not_there}
use Rattle.c62_board.proofs.Withdrawals.{kept_below, left_below, gone_below}
use Rattle.c62_sheet.proofs.Sets.{spot_at-withdrawn_other}

-- nothing is ejected where the least spot is as early as it can be
pub not_late : (block : List Insn) (set : Spots) (budget i early q : ℕ) (s : Spot) → IsLeast block set i s
    → IsEarly block set i early → s.cycle ≤ early
    → IsEjected block set budget i q → ⊥
not_late block set budget i early q s least is_early soon e =
    let same : e.early ≡ early = one_early block set i e.early early e.is_early is_early in
    let spot : e.least ≡ s = least_unique block set i e.least s e.is_least least in
    let late = e.late in
    let cycle : e.least.cycle ≡ s.cycle = ap (λ (x : Spot). x.cycle) spot in
    omega arith

-- ---- the pick has a spot once the victim is out

module _ (block : List Insn) (set : Spots) (budget i q : ℕ) (who : Who) (es : List Entry) (lawful : IsLawful block set)
    (ready : IsReady block set i) (within : i < length block)
    (ejected : IsEjected block set budget i q) (withdraws : Withdraws block set q who es)
    (left_lawful : IsLawful block (replayed set es)) where
  apart : Leads block q i → ⊥
  apart = ejected.victim.in_the_way.apart

  pub ready_left : IsReady block (replayed set es) i
  ready_left = record {
    free = not_there (spot_at (replayed set es) i) (λ t at.
        none-some t (sym ready.free ∙ left_below block set set q who (length block) i t es withdraws at));
    founded = λ h dep.
        rw (kept_below block set set q who (length block) h es withdraws
        (λ (g : GoesWith block set q h). apart (more h i g.led dep))) (ready.founded h dep);
  }

  in_set : i < length set
  in_set = omega (arith, lawful.sized, within)

  cycle : ℕ
  cycle = ejected.victim.early

  low : ejected.victim.early < 5 * length block
  low =
      let same : ejected.victim.early ≡ ejected.early = one_early block set i ejected.victim.early ejected.early
      ejected.victim.is_early ejected.is_early in
      let below = ejected.is_least.lawful.within i ejected.least
      (get_or-set_same set i (Some ejected.least) None in_set) in
      omega (arith, same, below, ejected.late)

  after : IsAfter block (replayed set es) i ejected.victim.early
  after h bound s bounds at = ejected.victim.is_early.after h bound s bounds
      (left_below block set set q who (length block) h s es withdraws at)

  abbrev spot : Spot
  spot = record { cycle = ejected.victim.early; unit = ejected.victim.in_the_way.fits.unit }

  q_gone : spot_at (replayed set es) q ≡ None
  q_gone =
      gone_below block set set q who (length block) q es withdraws
      (at_in block set q ejected.victim.in_the_way.spot lawful.sized ejected.victim.in_the_way.placed)
      (record {
        taken = some_is (spot_at set q) ejected.victim.in_the_way.spot ejected.victim.in_the_way.placed;
        led =
            start;
      })

  is_part : IsPart (placed (replayed set es) i spot) (placed (withdrawn set q) i spot)
  is_part k t at = elim (cases_eq k i) [
    | inl e ↦
        let left_in : i < length (replayed set es) = omega (arith, left_lawful.sized, within) in
        let here : spot_at (placed (replayed set es) i spot) k ≡ Some spot =
        ap (λ (x : ℕ). spot_at (placed (replayed set es) i spot) x) e
        ∙ get_or-set_same (replayed set es) i (Some spot) None left_in in
        ap (λ (x : ℕ). spot_at (placed (withdrawn set q) i spot) x) e
        ∙ get_or-set_same (withdrawn set q) i (Some spot) None (rw (length-set set q None) in_set)
        ∙ sym here ∙ at
    | inr ne ↦
        let there : IsAt (replayed set es) k t = sym (get_or-set_other (replayed set es) i k (Some spot) None ne)
        ∙ at in
        let other : k ≢ q = (λ (e : k ≡ q). none-some t (sym q_gone
        ∙ ap (λ (x : ℕ). spot_at (replayed set es) x) (sym e) ∙ there)) in
        get_or-set_other (withdrawn set q) i k (Some spot) None ne
        ∙ spot_at-withdrawn_other set q k other
        ∙ left_below block set set q who (length block) k t es withdraws there
  ]

  pub spot_left : (s : Spot) × IsLawful block (placed (replayed set es) i s)
  spot_left = (
    spot,
    lawful_placed block (replayed set es) i spot left_lawful within ready_left ejected.victim.in_the_way.fits.stands low
        after
        (rules_part block (placed (replayed set es) i spot) (placed (withdrawn set q) i spot) is_part
        ejected.victim.in_the_way.fits.rules),
  )
