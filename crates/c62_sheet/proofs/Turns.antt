-- The rules in the order in which they are asked.
use Rattle.c62_sheet.proofs.Common.{arith, ◌≡◌, ℕ, ◌+◌, ◌*◌, ◌<◌, ◌≤◌, pos, List, length, Some, None, true, refl, sym}
use Rattle.c62_sheet.proofs.Common.{◌∙◌, slice_get, false≢true}
use Rattle.c62_sheet.proofs.Common.{ints, Insn, Depends, stands_on, Spot, Rule, Delay, Spots, spot_at, IsLawful}
use Rattle.c62_sheet.proofs.Common.{IsAfter, IsEarly, LacksSome, Breaks}
use Rattle.c62_sheet.proofs.Common.{turn_of, IsOpen, KeepsAll, BreaksFirst, Missing, Placed, WrongUnit, Limit, InCycle}
use Rattle.c62_sheet.proofs.Common.{CycleRule, ◌+ℤ◌, by_lt_z, IsTold, ap, inl, inr, cases_lt, placed, issues}
use Rattle.c62_sheet.proofs.Common.{IsRefused}
use Rattle.c62_rules.specs.Resource.{rule_of, capacity_of}
use Rattle.c62_rules.specs.Capacity.{used}
use Rattle.c62_rules.proofs.Places.{rank-few, same-rank}
use Rattle.c62_sheet.proofs.Optional.{some_from_not_none, none_not_some}
use Rattle.c62_sheet.proofs.Used.{insn_at}
use Rattle.c62_sheet.proofs.Placing.{lawful_from_fits, stands_from_lawful, after_from_lawful, founded_from_lawful}
use Rattle.c62_sheet.proofs.Placing.{within_from_lawful}

same_turn : (r q : Rule) → turn_of r ≡ turn_of q → r ≡ q
same_turn (InCycle rule) (InCycle other) e = ap InCycle (same-rank rule other (omega (arith, e)))
same_turn r q e = grind arith

-- of the rules from one turn on, none that is asked before another speaks against the triple
pub record IsClear (block : List Insn) (set : Spots) (i : ℕ) (s : Spot) (m n : ℕ) : Type 0 where
  pub kept : (rule : Rule) → m ≤ turn_of rule → turn_of rule < n → Breaks block set i s rule → ⊥

module _ {block : List Insn} {set : Spots} {i : ℕ} {s : Spot} where
  pub clear_none : (n : ℕ) → IsClear block set i s n n
  clear_none n = record { kept = λ rule low high b. absurd (omega (arith, low, high)) }

  pub clear_more : {m n : ℕ} (rule : Rule) → turn_of rule ≡ n → IsClear block set i s m n
      → (Breaks block set i s rule → ⊥)
      → IsClear block set i s m (n + 1)
  clear_more rule turn clear not = record { kept = λ r low high b. grind (arith, same_turn r rule, clear.kept r, not) }

  pub clear_all : IsClear block set i s 0 5 → KeepsAll block set i s → IsClear block set i s 0 21
  clear_all clear keeps = record { kept = kept }
    where
      kept : (rule : Rule) → 0 ≤ turn_of rule → turn_of rule < 21 → Breaks block set i s rule → ⊥
      kept (InCycle rule) low high b = let few = keeps b.resource in omega (arith, few, b.over)
      kept rule low high b = clear.kept rule low (omega arith) b

-- what the first three rules ask
pub clear_three : (block : List Insn) (set : Spots) (i : ℕ) (s : Spot) → spot_at set i ≡ None
    → stands_on block i s.unit ≡ true
    → s.cycle < 5 * length block → IsClear block set i s 0 3
clear_three block set i s free stands below = record { kept = kept }
  where
    kept : (rule : Rule) → 0 ≤ turn_of rule → turn_of rule < 3 → Breaks block set i s rule → ⊥
    kept Placed low high b = none_not_some (spot_at set i) free b
    kept WrongUnit low high b = false≢true (sym b ∙ stands)
    kept Limit low high b = omega (arith, b, below)
    kept _ low high b = absurd (omega (arith, high))

-- and two more of what the number depends on
pub clear_five : (block : List Insn) (set : Spots) (i : ℕ) (s : Spot) (early : ℕ) → spot_at set i ≡ None
    → stands_on block i s.unit ≡ true
    → s.cycle < 5 * length block → (LacksSome block set i → ⊥) → IsEarly block set i early → early ≤ s.cycle
    → IsClear block set i s 0 5
clear_five block set i s early free stands below founded first le =
    clear_more Delay refl (clear_more Missing refl (clear_three block set i s free stands below) founded)
    (λ b. b (λ h bound t w at. let bounded = first.after h bound t w at in omega (arith, ints)))

-- what is asked first, in the words of a set to which the triple may be added
module _ (block : List Insn) (set : Spots) (i : ℕ) (s : Spot) (lawful : IsLawful block set)
    (in_block : i < length block) where
  abbrev insn : Insn
  insn = (insn_at block i in_block).0

  at : slice_get block i ≡ Some insn
  at = (insn_at block i in_block).1

  in_set : i < length set
  in_set = omega (arith, lawful.sized)

  -- what may be added breaks no rule
  pub open_keeps : IsOpen block set i s → (rule : Rule) → Breaks block set i s rule → ⊥
  open_keeps may Placed b = none_not_some _ may.free b
  open_keeps may WrongUnit b = false≢true (sym b ∙ stands_from_lawful block set i s in_set may.lawful)
  open_keeps may Limit b = omega (arith, within_from_lawful block set i s in_set may.lawful, b)
  open_keeps may Missing b = none_not_some _ b.2 (founded_from_lawful block set i s in_set may.lawful b.0 b.1)
  open_keeps may Delay b = b (after_from_lawful block set i s in_set may.lawful)
  open_keeps may (InCycle rule) b = let few = may.lawful.rules.enough s.cycle b.resource in omega (arith, few, b.over)

  -- where no rule is broken, the triple may be added
  clear_enough : IsClear block set i s 0 21 → KeepsAll block set i s
  clear_enough clear r = elim (cases_lt (capacity_of r) (used r s.cycle (issues block (placed set i s)))) [
    | inl over ↦ absurd (clear.kept (InCycle (rule_of r)) (omega arith) (omega (arith, rank-few (rule_of r)))
        (record { resource = r; of_rule = refl; over = over }))
    | inr few ↦ few
  ]

  pub clear_open : IsClear block set i s 0 21 → IsOpen block set i s
  clear_open clear =
      let free : spot_at set i ≡ None = grind (arith, clear.kept Placed) in
      let stands : stands_on block i s.unit ≡ true = grind (arith, clear.kept WrongUnit) in
      let within : s.cycle < 5 * length block = grind (arith, clear.kept Limit) in
      let founded = λ (h : ℕ) (dep : Depends block h i).
      some_from_not_none (spot_at set h) (λ e. clear.kept Missing (omega arith) (omega arith) (h, dep, e)) in
      let after : IsAfter block set i s.cycle = λ h bound t w at.
      by_lt_z (pos s.cycle) (pos t.cycle +ℤ bound)
      (λ before. absurd (clear.kept Delay (omega arith) (omega arith)
      (λ all. let kept = all h bound t w at in omega (arith, ints)))) (λ le. le) in
      record {
        free = free;
        lawful = lawful_from_fits block set i s insn lawful at in_block free founded after within
            (record { stands = stands; keeps = clear_enough clear });
      }

  pub refused_by : (rule : Rule) (cycle : ℕ) → IsClear block set i s 0 (turn_of rule) → Breaks block set i s rule
      → IsTold block set i s rule cycle → IsRefused block set i s (record { rule = rule; cycle = cycle })
  refused_by rule cycle clear broken told = record {
    unlawful = λ may. open_keeps may rule broken;
    first = record { broken = broken; kept = λ earlier. clear.kept earlier (omega arith) };
    told = told;
  }

  pub refused_packet : (rule : CycleRule) → IsClear block set i s 0 5 → BreaksFirst block set i s rule
      → IsRefused block set i s (record { rule = InCycle rule; cycle = s.cycle })
  refused_packet rule clear first = refused_by (InCycle rule) s.cycle (record { kept = kept }) first.broken refl
    where
      kept : (earlier : Rule) → 0 ≤ turn_of earlier → turn_of earlier < turn_of (InCycle rule)
          → Breaks block set i s earlier → ⊥
      kept (InCycle other) low high b = let few = first.first other (omega (arith, high)) b.resource b.of_rule in omega
          (arith, few, b.over)
      kept earlier low high b = clear.kept earlier low (omega arith) b
