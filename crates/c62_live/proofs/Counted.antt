-- The greatest of the numbers of live registers, gone over from the last cycle on.
use Rattle.std.proofs.Common.{arith, ◌≡◌, ◌∙◌, ◌⊎◌, ℕ, suc, ◌+◌, ◌-◌, ◌<◌, ◌≤◌, Bool, true, false, List, [], ◌∷◌, map}
use Rattle.std.proofs.Common.{refl, sym, ap, subst, inl, inr, cond}
use Rattle.std.specs.Prelude.{fold, nat_le}
use Rattle.std.specs.List.{count_by}
use Rattle.std.proofs.lemmas.Bool.{cases_eq}
use Rattle.std.proofs.lemmas.Bool.Decides.{nat_tests}
use Rattle.c62_op.specs.declared.register.Reg.{Reg}
use Rattle.c62_packet.specs.declared.placed.Placed.{Placed}
use Rattle.c62_live.specs.declared.live.Tracked.{Tracked}
use Rattle.c62_live.specs.declared.lives.Most.{Most}
use Rattle.c62_live.specs.Live.{dead, earlier, live_before}
use Rattle.c62_live.specs.Lives.{IsGreatestFrom, IsMost, better, live_count}

-- a register so many cycles before the end of a block
abbrev pub tracked_before : List Placed → (cycles left : ℕ) → Reg → Tracked
tracked_before placed cycles left reg = record { reg = reg; live = live_before placed reg cycles left }

pub none_live : (placed : List Placed) (regs : List Reg) (cycles : ℕ)
    → map dead regs ≡ map (tracked_before placed cycles 0) regs
none_live placed regs cycles = refl

pub all_earlier : (placed : List Placed) (regs : List Reg) (cycles left cycle : ℕ) → cycle ≡ cycles - suc left
    → map (earlier placed cycle) (map (tracked_before placed cycles left) regs) ≡ map
    (tracked_before placed cycles (suc left)) regs
all_earlier placed [] cycles left cycle is = refl
all_earlier placed (reg ∷ regs) cycles left cycle is = rw (is, ← all_earlier placed regs cycles left cycle is) refl

fold_map : (g : Reg → Tracked) (a : ℕ) (regs : List Reg)
    → fold (λ n each. n + cond each.live 1 0) a (map g regs) ≡ fold (λ n reg. n + cond (g reg).live 1 0) a regs
fold_map g a [] = refl
fold_map g a (reg ∷ regs) = fold_map g (a + cond (g reg).live 1 0) regs

count_tracked : (placed : List Placed) (regs : List Reg) (cycles left : ℕ)
    → count_by (λ each. each.live) (map (tracked_before placed cycles left) regs) ≡ count_by
    (λ reg. live_before placed reg cycles left) regs
count_tracked placed regs cycles left = fold_map (tracked_before placed cycles left) 0 regs

pub count_is : (placed : List Placed) (regs : List Reg) (cycles left cycle : ℕ) → left ≤ cycles → cycle ≡ cycles - left
    → count_by (λ each. each.live) (map (tracked_before placed cycles left) regs) ≡ live_count placed regs cycles cycle
count_is placed regs cycles left cycle inside is =
    let back : left ≡ cycles - cycle = omega (arith, inside, is) in
    count_tracked placed regs cycles left ∙ ap (λ n. count_by (λ reg. live_before placed reg cycles n) regs) back

-- of so many cycles at the end
abbrev pub IsMostOfLast : (ℕ → ℕ) → (cycles left : ℕ) → Most → Type 0
IsMostOfLast counts cycles left most = ((left ≡ 0) × (most.count ≡ 0))
    ⊎ IsGreatestFrom counts (cycles - left) cycles most.count most.cycle

module _ (counts : ℕ → ℕ) (cycles left cycle count : ℕ) (most : Most) (inside : left < cycles)
    (is_cycle : cycle ≡ cycles - suc left) (is_count : count ≡ counts cycle) where
  alone : left ≡ 0 → IsGreatestFrom counts cycle cycles count cycle
  alone last = record {
    begins = omega arith;
    within = omega (arith, inside, is_cycle);
    is = sym is_count;
    greatest = λ k from within. let same : cycle ≡ k = omega (arith, from, within, is_cycle, last) in
        (let here = ap counts same in omega (arith, here, is_count));
    first = λ k from before. absurd (omega (arith, from, before));
  }

  next : cycles - left ≡ suc cycle
  next = omega (arith, inside, is_cycle)

  taken : IsGreatestFrom counts (cycles - left) cycles most.count most.cycle → most.count ≤ count
      → IsGreatestFrom counts cycle cycles count cycle
  taken was less = record {
    begins = omega arith;
    within = omega (arith, inside, is_cycle);
    is = sym is_count;
    greatest = λ k from within. (
        elim (cases_eq cycle k) [
          | inl same ↦ (let here = ap counts same in omega (arith, here, is_count))
          | inr other ↦ (let rest = was.greatest k (omega (arith, from, other, next)) within in omega
              (arith, rest, less))
        ]);
    first = λ k from before. absurd (omega (arith, from, before));
  }

  kept : IsGreatestFrom counts (cycles - left) cycles most.count most.cycle → count < most.count
      → IsGreatestFrom counts cycle cycles most.count most.cycle
  kept was less =
      let later = was.begins in
      record {
        begins = omega (arith, later, next);
        within = was.within;
        is = was.is;
        greatest = λ k from within. (
            elim (cases_eq cycle k) [
              | inl same ↦ (let here = ap counts same in omega (arith, here, is_count, less))
              | inr other ↦ was.greatest k (omega (arith, from, other, next)) within
            ]);
        first = λ k from before. (
            elim (cases_eq cycle k) [
              | inl same ↦ (let here = ap counts same in omega (arith, here, is_count, less))
              | inr other ↦ was.first k (omega (arith, from, other, next)) before
            ]);
      }

  pub one_more : IsMostOfLast counts cycles left most → IsMostOfLast counts cycles (suc left) (better most count cycle)
  one_more was = go (nat_le most.count count) refl was
    where
      go : (b : Bool) → nat_le most.count count ≡ b → IsMostOfLast counts cycles left most
          → IsMostOfLast counts cycles (suc left) (cond b (record { count = count; cycle = cycle }) most)
      go true less (inl none) = inr (subst (λ n. IsGreatestFrom counts n cycles count cycle) is_cycle (alone none.0))
      go true less (inr was) = inr
          (subst (λ n. IsGreatestFrom counts n cycles count cycle) is_cycle
          (taken was (grind (arith, nat_tests, less))))
      go false more (inl none) = absurd (let none_counted = none.1 in grind (arith, nat_tests, more, none_counted))
      go false more (inr was) = inr
          (subst (λ n. IsGreatestFrom counts n cycles most.count most.cycle) is_cycle
          (kept was (grind (arith, nat_tests, more))))

pub whole : (counts : ℕ → ℕ) (cycles left : ℕ) (most : Most) → left ≡ cycles → IsMostOfLast counts cycles left most
    → IsMost counts cycles most.count most.cycle
whole counts cycles left most all (inl none) = inl (sym all ∙ none.0, none.1)
whole counts cycles left most all (inr was) =
    let zero_is : cycles - left ≡ 0 = omega (arith, all) in
    inr (subst (λ n. IsGreatestFrom counts n cycles most.count most.cycle) zero_is was)
