use Rattle.std.proofs.Common.{arith, ◌≡◌, ℕ, suc, ◌+◌, ◌-◌, ◌<◌, ◌≤◌, ◌∙◌, List, [], ◌∷◌, length, get_or, drop}
use Rattle.std.proofs.Common.{drop-cons, refl, sym, ap, subst}
use Rattle.std.proofs.lemmas.List.{take_rest, drop_all, get_or_default}
use Rattle.c62_row.specs.Issued.{IsRowOf}
use Rattle.c62_packet.specs.declared.placed.Placed.{Placed}
use Rattle.c62_packet.specs.Packed.{issued}
use Rattle.c62_packet.specs.Taken.{IsTakenBy}
use Rattle.c62_packet.specs.Clash.{IsBrokenBeside, earlier}
use Rattle.c62_packet.proofs.Broken.{FirstAmong, first-none, first-cons, first-all}
use Rattle.c62_packet.proofs.ListingOrder.{cycles_rise}
use Rattle.c62_packet.proofs.rules.first_broken.Goals as goal

split : (placed : List Placed) (at : ℕ) (p : Placed) → at < length placed → p ≡ get_or placed at p
    → drop at placed ≡ p ∷ drop (at + 1) placed
split placed at p lt is = let next : at + 1 ≡ suc at = omega arith in drop-cons placed at p lt ∙ rw (← is, next) refl

pub loop-at-init : goal.loop-at-init
loop-at-init c =
    let placed = c.args.placed.now in
    let none : drop (length placed) placed ≡ [] = drop_all (length placed) placed (omega arith) in
    record {
      within = omega arith;
      before = λ i d lt. omega (arith, c.requires.short i d lt, c.new-taken.ensures.last);
      taken = rw none c.new-taken.ensures.none;
      found = rw none (first-none placed);
    }

pub broken_beside-requires-clause-taken : goal.broken_beside-requires-clause-taken
broken_beside-requires-clause-taken c =
    let placed = c.args.placed.now in
    let at = c.loop-at.at - 1 in
    let next : c.loop-at.at ≡ at + 1 = omega (arith, c.loop-at-test.true) in
    subst (IsTakenBy c.from_cycle-taken.result) (sym (take_rest placed (at + 1)))
    (c.from_cycle-taken.ensures.taken (drop (at + 1) placed)
    (subst (λ (n : ℕ). IsTakenBy c.loop-at.taken (drop n placed)) next c.loop-at.invariant.taken))

pub loop-at-preserved : goal.loop-at-preserved
loop-at-preserved c =
    let placed = c.args.placed.now in
    let at = c.loop-at.at - 1 in
    let p = c.index-placed-at.result in
    let rest = drop (at + 1) placed in
    let taken = c.from_cycle-taken.result in
    let next : c.loop-at.at ≡ at + 1 = omega (arith, c.loop-at-test.true) in
    let within : at < length placed = omega (arith, c.loop-at-test.true, c.loop-at.invariant.within) in
    let parts : drop at placed ≡ p ∷ rest = split placed at p within c.index-placed-at.is in
    let behind : IsTakenBy taken rest
    = c.from_cycle-taken.ensures.taken rest
    (subst (λ (n : ℕ). IsTakenBy c.loop-at.taken (drop n placed)) next c.loop-at.invariant.taken) in
    let row : IsRowOf taken.row p.cycle (issued rest) = subst (λ (n : ℕ). IsRowOf taken.row n (issued rest))
    c.from_cycle-taken.ensures.same behind.row in
    let so_far : FirstAmong placed rest c.loop-at.found = subst
    (λ (n : ℕ). FirstAmong placed (drop n placed) c.loop-at.found) next c.loop-at.invariant.found in
    let own = c.of-uses.result in
    let beside : IsBrokenBeside taken.row own placed p rest c.broken_beside.result
    = subst (λ (others : List Placed). IsBrokenBeside taken.row own placed p others c.broken_beside.result)
    (take_rest placed (at + 1)) c.broken_beside.ensures in
    record {
      within = omega (arith, c.loop-at.invariant.within);
      before = λ i d lt.
          let last : get_or placed at d ≡ p = get_or_default placed at d p within ∙ sym c.index-placed-at.is in
          let rises : (get_or placed i d).cycle ≤ (get_or placed at d).cycle = cycles_rise placed c.requires.in_order i
          at d (omega (arith, lt)) within in
          omega (arith, rises, ap (λ (q : Placed). q.cycle) last, c.add.ensures.same, c.from_cycle-taken.ensures.same);
      taken = subst (IsTakenBy c.add.new.self) (sym parts) (c.add.ensures.taken rest behind);
      found = subst (λ (qs : List Placed). FirstAmong placed qs c.earlier-found.result) (sym parts)
          (subst (FirstAmong placed (p ∷ rest)) (sym c.earlier-found.ensures)
          (first-cons taken.row own placed p rest c.loop-at.found c.broken_beside.result row c.of-uses.ensures beside
          so_far));
    }

pub returns : goal.returns
returns c =
    let placed = c.args.placed.now in
    let start : c.loop-at.at ≡ 0 = omega (arith, c.loop-at-test.false) in
    first-all placed c.loop-at.found
    (subst (λ (n : ℕ). FirstAmong placed (drop n placed) c.loop-at.found) start c.loop-at.invariant.found)
