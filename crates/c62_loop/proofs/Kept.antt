-- What keeps its distances keeps them in one pass more.
use Rattle.std.proofs.Common.{Bool, true, ◌≡◌, ℕ, zero, suc, ◌+◌, ◌-◌, ◌<◌, ◌≤◌, pos, ◌+ℤ◌, ◌≤ℤ◌, List, map, length}
use Rattle.std.proofs.Common.{Some, refl, ap}
use Rattle.std.proofs.Common.{sym, ◌∙◌, subst, arith}
use Rattle.std.specs.Prelude.{slice_get, option_map}
use Rattle.std.proofs.lemmas.Option.{slice_get_within, slice_get-map}
use Rattle.c62_insn.specs.declared.insn.Insn.{Insn}
use Rattle.c62_packet.specs.declared.placed.Placed.{Placed}
use Rattle.c62_meaning.specs.Cut.{moved}
use Rattle.c62_meaning.specs.Instances.{IsOfMemory, DataBounds}
use Rattle.c62_loop.specs.Stage.{Schedule, cycles_in, Straights, insns_of, AreParted, KeepDistances, Places}
use Rattle.c62_loop.specs.Stage.{KeptInMorePasses}
use Rattle.c62_loop.proofs.Lists.{from_mapped}
use Rattle.c62_loop.proofs.Parts.{begin, part}
use Rattle.c62_loop.proofs.PlacedParts.{placed_with, placed_at}
use Rattle.c62_loop.proofs.Numbers.{Place, place}
use Rattle.c62_loop.proofs.LaterPlaces.{ComeLater}
use Rattle.c62_loop.proofs.TwoPlaces.{kept}

module _ (straights : Straights) (schedule : Schedule) (most : ℕ) (places : Places straights schedule most)
    (trips passes : ℕ) (many : passes ≤ trips) (enough : most + 3 ≤ passes) (shorter longer : List Placed)
    (come : ComeLater schedule.interval shorter longer) where
  one_more : (promised : Insn → Insn → Bool)
      → KeepDistances promised straights trips (placed_with schedule trips passes shorter)
      → KeepDistances promised straights (suc trips) (placed_with schedule (suc trips) (suc passes) longer)
  one_more promised keeps i j p q bound at_p at_q asked needed =
      let x : Place straights (suc trips) i = place straights (suc trips) i
      (slice_get_within (insns_of straights (suc trips)) i asked.bounds.first asked.bounds.is_first) in
      let y : Place straights (suc trips) j = place straights (suc trips) j
      (slice_get_within (insns_of straights (suc trips)) j asked.bounds.second asked.bounds.is_second) in
      at_places x.part_number x.number y.part_number y.number x.there y.there x.within y.within i j x.is y.is at_p
      at_q asked needed
    where
      at_places : (s a r b : ℕ) → s ≤ suc (suc trips) → r ≤ suc (suc trips) → a < length (part straights (suc trips) s)
          → b < length (part straights (suc trips) r) → (i j : ℕ) → i ≡ begin straights s + a
          → j ≡ begin straights r + b
          → slice_get (placed_with schedule (suc trips) (suc passes) longer) i ≡ Some p
          → slice_get (placed_with schedule (suc trips) (suc passes) longer) j ≡ Some q
          → (asked : DataBounds (insns_of straights (suc trips)) i j bound)
          → (IsOfMemory asked.bounds.applies → promised asked.bounds.first asked.bounds.second ≡ true
          → AreParted straights (suc trips) i j → ⊥) → (pos p.cycle +ℤ bound) ≤ℤ pos q.cycle
      at_places s a r b in_s in_r in_a in_b i j is_i is_j =
          subst (λ n. slice_get (placed_with schedule (suc trips) (suc passes) longer) n ≡ Some p
          → slice_get (placed_with schedule (suc trips) (suc passes) longer) j ≡ Some q
          → (asked : DataBounds (insns_of straights (suc trips)) n j bound)
          → (IsOfMemory asked.bounds.applies → promised asked.bounds.first asked.bounds.second ≡ true
          → AreParted straights (suc trips) n j → ⊥) → (pos p.cycle +ℤ bound) ≤ℤ pos q.cycle) (sym is_i)
          (subst (λ n. slice_get (placed_with schedule (suc trips) (suc passes) longer) (begin straights s + a) ≡ Some p
          → slice_get (placed_with schedule (suc trips) (suc passes) longer) n ≡ Some q
          → (asked : DataBounds (insns_of straights (suc trips)) (begin straights s + a) n bound)
          → (IsOfMemory asked.bounds.applies → promised asked.bounds.first asked.bounds.second ≡ true
          → AreParted straights (suc trips) (begin straights s + a) n → ⊥)
          → (pos p.cycle +ℤ bound) ≤ℤ pos q.cycle) (sym is_j)
          (λ at_p at_q asked needed.
          kept straights schedule most places trips passes many enough shorter longer come promised keeps s a r
          b in_s in_r in_a in_b
          asked.bounds.before p q bound
          (sym (placed_at straights schedule most places (suc trips) (suc passes) longer s a in_s in_a)
          ∙ at_p) (sym (placed_at straights schedule most places (suc trips) (suc passes) longer r b in_r in_b)
          ∙ at_q) asked needed))

-- What stands behind the iterations is given for each number of passes. From so many on it comes later with each pass
-- more.
module _ (straights : Straights) (schedule : Schedule) (most deep : ℕ) (places : Places straights schedule deep)
    (behind : ℕ → List Placed)
    (come : (passes : ℕ) → deep + 3 ≤ passes → ComeLater schedule.interval (behind passes) (behind (suc passes))) where
  more_passes : (promised : Insn → Insn → Bool) (more trips passes : ℕ) → passes ≡ more + (deep + 3)
      → trips ≡ most + passes
      → KeepDistances promised straights (most + (deep + 3))
      (placed_with schedule (most + (deep + 3)) (deep + 3) (behind (deep + 3)))
      → KeepDistances promised straights trips (placed_with schedule trips passes (behind passes))
  more_passes promised zero trips passes e f keeps =
      let a : deep + 3 ≡ passes = omega arith in
      let b : most + (deep + 3) ≡ trips = omega arith in
      subst (λ n. KeepDistances promised straights trips (placed_with schedule trips n (behind n))) a
      (subst (λ n. KeepDistances promised straights n (placed_with schedule n (deep + 3) (behind (deep + 3)))) b
      keeps)
  more_passes promised (suc more) zero passes e f keeps = absurd (omega arith)
  more_passes promised (suc more) (suc trips) zero e f keeps = absurd (omega arith)
  more_passes promised (suc more) (suc trips) (suc passes) e f keeps =
      one_more straights schedule deep places trips passes (omega arith) (omega arith) (behind passes)
      (behind (suc passes)) (come passes (omega arith)) promised
      (more_passes promised more trips passes (omega arith) (omega arith) keeps)

  pub kept_with : (promised : Insn → Insn → Bool)
      → KeepDistances promised straights (most + (deep + 3))
      (placed_with schedule (most + (deep + 3)) (deep + 3) (behind (deep + 3)))
      → (passes : ℕ) → deep + 3 ≤ passes
      → KeepDistances promised straights (most + passes) (placed_with schedule (most + passes) passes (behind passes))
  kept_with promised keeps passes l =
      more_passes promised (passes - (deep + 3)) (most + passes) passes (omega arith) refl keeps

-- ---- what stands behind the loop

pub moved_later : (interval passes : ℕ) (placed : List Placed)
    → ComeLater interval (map (moved (cycles_in interval passes)) placed)
    (map (moved (cycles_in interval (suc passes))) placed)
moved_later interval passes placed a p at =
    let r = from_mapped (moved (cycles_in interval (suc passes))) placed a p at in
    let c : p.cycle ≡ cycles_in interval passes + interval + r.0.cycle = ap (λ (x : Placed). x.cycle) r.2 in (
      moved (cycles_in interval passes) r.0,
      slice_get-map (moved (cycles_in interval passes)) placed a
          ∙ ap (λ o. option_map (moved (cycles_in interval passes)) o) r.1,
      omega arith,
    )

pub kept_in_more_passes : (promised : Insn → Insn → Bool) (straights : Straights) (schedule : Schedule) (most : ℕ)
    → KeptInMorePasses promised straights schedule most
kept_in_more_passes promised straights schedule most places keeps passes l =
    kept_with straights schedule most most places
    (λ passes. map (moved (cycles_in schedule.interval passes)) schedule.behind)
    (λ passes enough. moved_later schedule.interval passes schedule.behind) promised keeps passes l
