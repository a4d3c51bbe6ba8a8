-- Two places of a path keep their distance with a pass more, whether they stay or come later.
use Rattle.std.proofs.Common.{Bool, true, ◌≡◌, ℕ, suc, ◌+◌, ◌-◌, ◌<◌, ◌≤◌, ℤ, pos, ◌+ℤ◌, ◌≤ℤ◌, List, length, Some}
use Rattle.std.proofs.Common.{sym, ◌∙◌}
use Rattle.std.proofs.Common.{ap, subst, ◌⊎◌, arith}
use Rattle.std.specs.Prelude.{slice_get}
use Rattle.std.proofs.lemmas.Int.{ints}
use Rattle.c62_insn.specs.declared.insn.Insn.{Insn}
use Rattle.c62_packet.specs.declared.placed.Placed.{Placed}
use Rattle.c62_meaning.specs.Instances.{IsOfMemory, DataBounds}
use Rattle.c62_loop.specs.Stage.{Schedule, Straights, insns_of, AreParted, KeepDistances, Places}
use Rattle.c62_loop.proofs.Parts.{begin, part, part_body, part_next, begin_is, begins_rise, below, in_order}
use Rattle.c62_loop.proofs.Parts.{comes_behind}
use Rattle.c62_loop.proofs.PlacedParts.{placed_with, placed_part, placed_at}
use Rattle.c62_loop.proofs.LaterPlaces.{ComeLater, Stays, Comes, stays_or, comes_or}
use Rattle.c62_loop.proofs.FewerPasses.{Covered, within_small, asked_small}
use Rattle.std.proofs.lemmas.Bool.Decides.{nat_tests}

later_both : (x y k : ℕ) (b : ℤ) → (pos x +ℤ b) ≤ℤ pos y → (pos (x + k) +ℤ b) ≤ℤ pos (y + k)
later_both x y k b l = omega (arith, ints, l)

excused : (promised : Insn → Insn → Bool) (one two p q : Insn) → p ≡ one → q ≡ two → promised p q ≡ true
    → promised one two ≡ true
excused promised one two p q e f t = subst (λ x. promised x two ≡ true) e (subst (λ x. promised p x ≡ true) f t)

module _ (straights : Straights) (schedule : Schedule) (most : ℕ) (places : Places straights schedule most)
    (trips passes : ℕ) (behind : List Placed) where
  placed_small : (t c : ℕ) (p : Placed) → t ≤ suc trips → c < length (part straights trips t)
      → slice_get (placed_part schedule trips passes behind t) c ≡ Some p
      → slice_get (placed_with schedule trips passes behind) (begin straights t + c) ≡ Some p
  placed_small t c p l u e = placed_at straights schedule most places trips passes behind t c l u ∙ e

module _ (straights : Straights) (schedule : Schedule) (most : ℕ) (places : Places straights schedule most)
    (trips passes : ℕ) (many : passes ≤ trips) (enough : most + 3 ≤ passes) (shorter longer : List Placed)
    (come : ComeLater schedule.interval shorter longer) (promised : Insn → Insn → Bool)
    (keeps : KeepDistances promised straights trips (placed_with schedule trips passes shorter)) (s a r b : ℕ)
    (in_s : s ≤ suc (suc trips)) (in_r : r ≤ suc (suc trips))
    (in_a : a < length (part straights (suc trips) s)) (in_b : b < length (part straights (suc trips) r))
    (lt : begin straights s + a < begin straights r + b) (p q : Placed) (bound : ℤ)
    (at_p : slice_get (placed_part schedule (suc trips) (suc passes) longer s) a ≡ Some p)
    (at_q : slice_get (placed_part schedule (suc trips) (suc passes) longer r) b ≡ Some q)
    (asked : DataBounds (insns_of straights (suc trips)) (begin straights s + a) (begin straights r + b) bound)
    (needed : IsOfMemory asked.bounds.applies → promised asked.bounds.first asked.bounds.second ≡ true
    → AreParted straights (suc trips) (begin straights s + a) (begin straights r + b) → ⊥) where
  abbrev Kept : Type 0
  Kept = (pos p.cycle +ℤ bound) ≤ℤ pos q.cycle

  both_stay : Stays straights schedule trips passes shorter longer s a → Stays straights schedule trips passes
      shorter longer r b → Kept
  both_stay x y =
      let small = asked_small straights trips s a r b s r in_s in_r x.there y.there x.same y.same in_a in_b lt lt
      covered bound asked in
      keeps (begin straights s + a) (begin straights r + b) p q bound
      (placed_small straights schedule most places trips passes shorter s a p x.there
      (within_small straights trips s a s x.same in_a) (x.placed p at_p))
      (placed_small straights schedule most places trips passes shorter r b q y.there
      (within_small straights trips r b r y.same in_b) (y.placed q at_q))
      small.0
      (λ m t parted. needed (small.3 m)
      (excused promised asked.bounds.first asked.bounds.second small.0.bounds.first small.0.bounds.second
      small.1 small.2 t) (wider parted))
    where
      wider : AreParted straights trips (begin straights s + a) (begin straights r + b)
          → AreParted straights (suc trips) (begin straights s + a) (begin straights r + b)
      wider (t, l, low, high) = (t, omega arith, low, high)

      covered : Covered straights trips s a r b s r
      covered t c in_t in_c low high =
          let top : r ≤ suc trips = y.there in
          by_order (in_order straights (suc trips) t r c b in_t in_b (omega arith)) low high
        where
          by_order : (t < r) ⊎ ((t ≡ r) × (c ≤ b)) → begin straights s + a ≤ begin straights t + c
              → begin straights t + c < begin straights r + b
              → (t' : ℕ) × (t' ≤ suc trips) × (part straights (suc trips) t ≡ part straights trips t')
              × (begin straights s + a ≤ begin straights t' + c)
              × (begin straights t' + c < begin straights r + b)
          by_order h low high = grind arith

  both_come : Comes straights schedule trips passes shorter longer s a → Comes straights schedule trips passes
      shorter longer r b → Kept
  both_come x y =
      let d = x.placed p at_p in
      let e = y.placed q at_q in
      let from : begin straights (suc x.earlier) ≡ begin straights x.earlier + length straights.body = comes_behind
      straights x.earlier x.later in
      let to : begin straights (suc y.earlier) ≡ begin straights y.earlier + length straights.body = comes_behind
      straights y.earlier y.later in
      let at_s : begin straights s ≡ begin straights (suc x.earlier) = ap (begin straights) x.is in
      let at_r : begin straights r ≡ begin straights (suc y.earlier) = ap (begin straights) y.is in
      let lower : begin straights x.earlier + a < begin straights y.earlier + b = omega arith in
      let small = asked_small straights trips s a r b x.earlier y.earlier in_s in_r x.there y.there x.same y.same in_a
      in_b lt lower covered bound asked in
      let kept : (pos d.0.cycle +ℤ bound) ≤ℤ pos e.0.cycle
      = keeps (begin straights x.earlier + a) (begin straights y.earlier + b) d.0 e.0 bound
      (placed_small straights schedule most places trips passes shorter x.earlier a d.0 x.there
      (within_small straights trips s a x.earlier x.same in_a) d.1)
      (placed_small straights schedule most places trips passes shorter y.earlier b e.0 y.there
      (within_small straights trips r b y.earlier y.same in_b) e.1)
      small.0
      (λ m t parted. needed (small.3 m)
      (excused promised asked.bounds.first asked.bounds.second small.0.bounds.first small.0.bounds.second
      small.1 small.2 t) (wider parted)) in
      subst (λ n. (pos n +ℤ bound) ≤ℤ pos q.cycle) (sym d.2)
      (subst (λ n. (pos (d.0.cycle + schedule.interval) +ℤ bound) ≤ℤ pos n) (sym e.2)
      (later_both d.0.cycle e.0.cycle schedule.interval bound kept))
    where
      wider : AreParted straights trips (begin straights x.earlier + a) (begin straights y.earlier + b)
          → AreParted straights (suc trips) (begin straights s + a) (begin straights r + b)
      wider (t, l, low, high) =
          let from : begin straights (suc x.earlier) ≡ begin straights x.earlier + length straights.body = comes_behind
          straights x.earlier x.later in
          let to : begin straights (suc y.earlier) ≡ begin straights y.earlier + length straights.body = comes_behind
          straights y.earlier y.later in
          let at_s : begin straights s ≡ begin straights (suc x.earlier) = ap (begin straights) x.is in
          let at_r : begin straights r ≡ begin straights (suc y.earlier) = ap (begin straights) y.is in
          (suc t, omega arith, omega arith, omega arith)

      covered : Covered straights trips s a r b x.earlier y.earlier
      covered t c in_t in_c low high = by_order (in_order straights (suc trips) s t a c in_s in_c low)
        where
          made : s ≤ t → (t' : ℕ) × (t' ≤ suc trips) × (part straights (suc trips) t ≡ part straights trips t')
              × (begin straights x.earlier + a ≤ begin straights t' + c)
              × (begin straights t' + c < begin straights y.earlier + b)
          made l =
              let is : s ≡ suc x.earlier = x.is in
              let one : 1 ≤ x.earlier = x.later in
              let same : suc (t - 1) ≡ t = omega arith in
              let here : begin straights (suc (t - 1)) ≡ begin straights (t - 1) + length straights.body = comes_behind
              straights (t - 1) (omega arith) in
              let there : begin straights (suc (t - 1)) ≡ begin straights t = ap (begin straights) same in
              let from : begin straights (suc x.earlier) ≡ begin straights x.earlier + length straights.body =
              comes_behind straights x.earlier x.later in
              let to : begin straights (suc y.earlier) ≡ begin straights y.earlier + length straights.body =
              comes_behind straights y.earlier y.later in
              let at_s : begin straights s ≡ begin straights (suc x.earlier) = ap (begin straights) x.is in
              let at_r : begin straights r ≡ begin straights (suc y.earlier) = ap (begin straights) y.is in (
                t - 1,
                omega arith,
                subst (λ n. part straights (suc trips) n ≡ part straights trips (t - 1)) same
                    (part_next straights trips (t - 1) (omega arith)),
                omega arith,
                omega arith,
              )

          by_order : (s < t) ⊎ ((s ≡ t) × (a ≤ c)) → (t' : ℕ) × (t' ≤ suc trips)
              × (part straights (suc trips) t ≡ part straights trips t')
              × (begin straights x.earlier + a ≤ begin straights t' + c)
              × (begin straights t' + c < begin straights y.earlier + b)
          by_order h = grind (arith, nat_tests, made)

  one_comes : Stays straights schedule trips passes shorter longer s a → s ≤ most + 1 → Comes straights schedule
      trips passes shorter longer r b
      → passes + 1 ≤ r → Kept
  one_comes x few y far =
      let e = y.placed q at_q in
      let small = asked_small straights trips s a r b s y.earlier in_s in_r x.there y.there x.same y.same in_a in_b lt
      lower covered bound asked in
      let kept : (pos p.cycle +ℤ bound) ≤ℤ pos e.0.cycle
      = keeps (begin straights s + a) (begin straights y.earlier + b) p e.0 bound
      (placed_small straights schedule most places trips passes shorter s a p x.there
      (within_small straights trips s a s x.same in_a) (x.placed p at_p))
      (placed_small straights schedule most places trips passes shorter y.earlier b e.0 y.there
      (within_small straights trips r b y.earlier y.same in_b) e.1)
      small.0
      (λ m t parted. needed (small.3 m)
      (excused promised asked.bounds.first asked.bounds.second small.0.bounds.first small.0.bounds.second
      small.1 small.2 t) parts) in
      grind (arith, nat_tests)
    where
      far_off : most + 3 ≤ y.earlier
      far_off = let is : r ≡ suc y.earlier = y.is in omega arith

      inside : s < trips
      inside = omega arith

      ahead : (c : ℕ) → c < length (part straights trips s) → begin straights s + c < begin straights y.earlier
      ahead c l = below straights trips s y.earlier c (let z : most + 3 ≤ y.earlier = far_off in omega arith) y.there l

      lower : begin straights s + a < begin straights y.earlier + b
      lower = let l : begin straights s + a < begin straights y.earlier = ahead a
          (within_small straights trips s a s x.same in_a) in omega arith

      -- the part behind the first begins between them
      parts : AreParted straights (suc trips) (begin straights s + a) (begin straights r + b)
      parts =
          let is : r ≡ suc y.earlier = y.is in
          grind (
            arith,
            far_off,
            begin_is straights s,
            below straights (suc trips) s (suc s) a,
            begins_rise straights (suc s) r,
          )

      covered : Covered straights trips s a r b s y.earlier
      covered t c in_t in_c low high = by_order (in_order straights (suc trips) s t a c in_s in_c low)
          (in_order straights (suc trips) t r c b in_t in_b (omega arith))
        where
          at_first : s ≡ t → (t' : ℕ) × (t' ≤ suc trips) × (part straights (suc trips) t ≡ part straights trips t')
              × (begin straights s + a ≤ begin straights t' + c)
              × (begin straights t' + c < begin straights y.earlier + b)
          at_first e =
              let same : part straights (suc trips) t ≡ part straights trips s = grind arith in
              grind (
                arith,
                nat_tests,
                ahead c (within_small straights trips t c s same in_c),
                within_small straights trips t c s same in_c,
              )

          at_last : t ≡ r → (t' : ℕ) × (t' ≤ suc trips) × (part straights (suc trips) t ≡ part straights trips t')
              × (begin straights s + a ≤ begin straights t' + c)
              × (begin straights t' + c < begin straights y.earlier + b)
          at_last e =
              let same : part straights (suc trips) t ≡ part straights trips y.earlier = grind arith in
              grind (
                arith,
                nat_tests,
                ahead a (within_small straights trips s a s x.same in_a),
                within_small straights trips s a s x.same in_a,
              )

          in_between : s < t → t < r → (t' : ℕ) × (t' ≤ suc trips)
              × (part straights (suc trips) t ≡ part straights trips t')
              × (begin straights s + a ≤ begin straights t' + c)
              × (begin straights t' + c < begin straights y.earlier + b)
          in_between l u =
              let is : suc (t - 1) ≡ t = omega arith in
              let top : y.earlier ≤ suc trips = y.there in
              let end : r ≡ suc y.earlier = y.is in
              let body : part straights (suc trips) t ≡ part straights trips (suc s)
              = subst (λ n. part straights (suc trips) n ≡ straights.body) is
              (part_body straights (suc trips) (t - 1) (omega arith))
              ∙ sym (part_body straights trips s inside) in
              let one : begin straights s + a < begin straights (suc s) = below straights trips s (suc s) a
              (omega arith) (omega arith)
              (within_small straights trips s a s x.same in_a) in
              let z : most + 3 ≤ y.earlier = far_off in
              let two : begin straights (suc s) + c < begin straights y.earlier = below straights trips (suc s)
              y.earlier c (omega arith) y.there
              (within_small straights trips t c (suc s) body in_c) in
              (suc s, omega arith, body, omega arith, omega arith)

          by_order : (s < t) ⊎ ((s ≡ t) × (a ≤ c)) → (t < r) ⊎ ((t ≡ r) × (c ≤ b)) → (t' : ℕ) × (t' ≤ suc trips)
              × (part straights (suc trips) t ≡ part straights trips t')
              × (begin straights s + a ≤ begin straights t' + c)
              × (begin straights t' + c < begin straights y.earlier + b)
          by_order h other = grind (arith, at_first, at_last, in_between)

  pub kept : Kept
  kept = grind (
    arith,
    stays_or straights schedule most places trips passes many enough shorter longer come r b in_r in_b,
    in_order straights (suc trips) s r a b in_s in_b,
    stays_or straights schedule most places trips passes many enough shorter longer come s a in_s in_a,
    both_stay,
    comes_or straights schedule most places trips passes many enough shorter longer come r b in_r in_b,
    both_come,
    comes_or straights schedule most places trips passes many enough shorter longer come s a in_s in_a,
    one_comes,
  )
