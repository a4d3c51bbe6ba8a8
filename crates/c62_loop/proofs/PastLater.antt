-- Instances of iterations past the last come later with each pass more.
use Rattle.std.proofs.Common.{◌≡◌, ℕ, zero, suc, ◌+◌, ◌≤◌, List, [], ◌∷◌, ◌++◌, map, length, refl, sym, ◌∙◌, ap}
use Rattle.std.proofs.Common.{arith}
use Rattle.std.proofs.lemmas.Option.{none-some, same_Some}
use Rattle.c62_packet.specs.declared.placed.Placed.{Placed}
use Rattle.c62_meaning.specs.Cut.{moved}
use Rattle.c62_meaning.proofs.Lookup.{In}
use Rattle.c62_loop.specs.Stage.{Schedule, cycles_in}
use Rattle.c62_loop.specs.Collapsed.{Beyond, past_placed}
use Rattle.c62_loop.proofs.Instances.{instance_comes}
use Rattle.c62_loop.proofs.LaterPlaces.{ComeLater}

-- one for one these come so many cycles later
abbrev AllLater : ℕ → List Placed → List Placed → Type 0
AllLater interval [] [] = Unit {0}
AllLater interval [] (q ∷ qs) = ⊥
AllLater interval (p ∷ ps) [] = ⊥
AllLater interval (p ∷ ps) (q ∷ qs) = (q.cycle ≡ p.cycle + interval) × AllLater interval ps qs

both_later : (interval : ℕ) (ps qs xs ys : List Placed) → AllLater interval ps qs → AllLater interval xs ys
    → AllLater interval (ps ++ xs) (qs ++ ys)
both_later interval [] qs xs ys h k = grind arith
both_later interval (p ∷ ps) qs xs ys h k = grind (arith, both_later interval ps)

pub come_later : (interval : ℕ) (ps qs : List Placed) → AllLater interval ps qs → ComeLater interval ps qs
come_later interval ps [] h a q at = absurd (none-some q at)
come_later interval [] (y ∷ qs) h a q at = absurd h
come_later interval (x ∷ ps) (y ∷ qs) h zero q at =
    (x, refl, ap (λ (z : Placed). z.cycle) (sym (same_Some y q at)) ∙ h.0)
come_later interval (x ∷ ps) (y ∷ qs) h (suc a) q at = come_later interval ps qs h.1 a q at

mapped_later : (interval passes : ℕ) (placed : List Placed)
    → AllLater interval (map (moved (cycles_in interval passes)) placed)
    (map (moved (cycles_in interval (suc passes))) placed)
mapped_later interval passes [] = tt
mapped_later interval passes (p ∷ placed) = (omega arith, mapped_later interval passes placed)

past_later : (interval passes : ℕ) (beyond : List Beyond)
    → ((one : Beyond) → In one beyond → length one.stage.early ≤ passes)
    → AllLater interval (past_placed interval beyond passes) (past_placed interval beyond (suc passes))
past_later interval passes [] early = tt
past_later interval passes (one ∷ beyond) early = grind (
  arith,
  past_later interval passes beyond,
  instance_comes interval one.stage passes (passes + one.number),
)

-- what stands behind the loop, and those of iterations past the last
pub behind_later : (schedule : Schedule) (beyond : List Beyond) (passes : ℕ)
    → ((one : Beyond) → In one beyond → length one.stage.early ≤ passes)
    → ComeLater schedule.interval
    (map (moved (cycles_in schedule.interval passes)) schedule.behind ++ past_placed schedule.interval beyond passes)
    (map (moved (cycles_in schedule.interval (suc passes))) schedule.behind
    ++ past_placed schedule.interval beyond (suc passes))
behind_later schedule beyond passes early =
    come_later schedule.interval
    (map (moved (cycles_in schedule.interval passes)) schedule.behind ++ past_placed schedule.interval beyond passes)
    (map (moved (cycles_in schedule.interval (suc passes))) schedule.behind
    ++ past_placed schedule.interval beyond (suc passes))
    (both_later schedule.interval (map (moved (cycles_in schedule.interval passes)) schedule.behind)
    (map (moved (cycles_in schedule.interval (suc passes))) schedule.behind)
    (past_placed schedule.interval beyond passes) (past_placed schedule.interval beyond (suc passes))
    (mapped_later schedule.interval passes schedule.behind)
    (past_later schedule.interval passes beyond early))
