-- What adding one triple to a lawful set asks, and what taking one out leaves.
use Rattle.c62_sheet.proofs.Common.{stands_on, true, arith, ◌≡◌, ℕ, ◌*◌, ◌<◌, pos, List, length, Some, None, refl, sym}
use Rattle.c62_sheet.proofs.Common.{ap, ◌∙◌, inl, inr}
use Rattle.c62_sheet.proofs.Common.{length-set, IsSome, slice_get, slice_set, slice_index_or, option_map, cases_eq}
use Rattle.c62_sheet.proofs.Common.{none-some, Insn, KeepsPacketRules}
use Rattle.c62_sheet.proofs.Common.{Depends, Spot, Spots, IsAt, spot_at, placed, withdrawn}
use Rattle.c62_sheet.proofs.Common.{issue_at, issues, IsLawful, IsAfter, IsLast, KeepsAll, Fits, part-without}
use Rattle.c62_sheet.proofs.Common.{part-keeps}
use Rattle.c62_sheet.proofs.Common.{Bounds}
use Rattle.c62_rules.specs.Dependence.{KeepsBounds}
use Rattle.c62_rules.proofs.OneLanding.{one_landing}
use Rattle.std.proofs.Common.{◌≤ℤ◌, ◌+ℤ◌, ℤ}
use Rattle.c62_rules.specs.PacketRules.{HasOneLanding}
use Rattle.c62_sheet.proofs.Optional.{none_not_some}
use Rattle.c62_sheet.proofs.Sets.{spot_at-placed_same, spot_at-placed_other, spot_at-withdrawn_other, IsAt-placed}
use Rattle.c62_sheet.proofs.Sets.{IsAt-withdrawn}
use Rattle.c62_sheet.proofs.IssuesOf.{issued-placement, issues-placed, issues-withdrawn, length-issues, issue-at}
use Rattle.c62_rules.proofs.Capacities.{enough-added}

-- the bounds between what is placed are kept
abbrev pub KeepsDelays : List Insn → Spots → Type 0
KeepsDelays block set =
    (i j : ℕ) (bound : ℤ) (s t : Spot) → Bounds block i j bound → IsAt set i s → IsAt set j t
    → (pos s.cycle +ℤ bound) ≤ℤ pos t.cycle

kept_bounds : (block : List Insn) (set : Spots) → length set ≡ length block → KeepsDelays block set
    → KeepsBounds block (issues block set)
kept_bounds block set sized delays = record {
  insns = λ k p at. (let w = issued-placement block set k p sized at in rw w.is_issue w.is_insn);
  keeps = λ i j bound p q b at_i at_j.
      let v = issued-placement block set i p sized at_i in
      let w = issued-placement block set j q sized at_j in
      rw (v.is_issue, w.is_issue) (delays i j bound v.spot w.spot b v.is_at w.is_at);
}

-- so no two writes of one register land together but those that may
pub landings_kept : (block : List Insn) (set : Spots) → length set ≡ length block → KeepsDelays block set
    → HasOneLanding (issues block set)
landings_kept block set sized delays = one_landing block (issues block set) (kept_bounds block set sized delays)

-- one number more keeps them, on which nothing placed depends
pub delays_placed : (block : List Insn) (set : Spots) (i : ℕ) (s : Spot) → i < length set → KeepsDelays block set
    → ((j : ℕ) (t : Spot) → Depends block i j → IsAt set j t → ⊥) → IsAfter block set i s.cycle
    → KeepsDelays block (placed set i s)
delays_placed block set i s lt old no_dependent after h j bound t u w is_t is = elim (IsAt-placed set i j s u lt is) [
  | inl v ↦ elim (IsAt-placed set i h s t lt is_t) [
    | inl x ↦ absurd (omega (arith, w.before, x.0, v.0))
    | inr x ↦ rw v.1 (after h bound t (rw v.0 at w) x.1)
  ]
  | inr v ↦ elim (IsAt-placed set i h s t lt is_t) [
    | inl x ↦ absurd (no_dependent j u (bound, rw x.0 at w) v.1)
    | inr x ↦ old h j bound t u w x.1 v.1
  ]
]

-- a block, a set, and a number that is not placed
module _ (block : List Insn) (set : Spots) (i : ℕ) (insn : Insn) (s : Spot) (sized : length set ≡ length block)
    (at : slice_get block i ≡ Some insn)
    (free : spot_at set i ≡ None) where
  pub not_issued : slice_index_or (issues block set) i None ≡ None
  not_issued = issue-at block set i insn sized at ∙ ap (option_map (issue_at insn)) free

  pub added : issues block (placed set i s) ≡ slice_set (issues block set) i (Some (issue_at insn s))
  added = issues-placed block set i insn s sized at

-- the same where it is known to be below their number
module _ (block : List Insn) (set : Spots) (i : ℕ) (insn : Insn) (s : Spot) (sized : length set ≡ length block)
    (at : slice_get block i ≡ Some insn)
    (in_block : i < length block) (free : spot_at set i ≡ None) where
  in_issues : i < length (issues block set)
  in_issues = omega (arith, length-issues block set sized)

  pub rules_from_keeps : KeepsPacketRules (issues block set) → KeepsAll block set i s
      → HasOneLanding (issues block (placed set i s))
      → KeepsPacketRules (issues block (placed set i s))
  rules_from_keeps rules keeps lands = record {
    enough = rw (added block set i insn s sized at free)
        (enough-added (issues block set) i (issue_at insn s) in_issues (not_issued block set i insn s sized at free)
        rules.enough
        (rw (added block set i insn s sized at free) at keeps));
    landing = lands;
  }

-- what a lawful set with the triple tells of it
module _ (block : List Insn) (set : Spots) (i : ℕ) (s : Spot) (in_set : i < length set)
    (new : IsLawful block (placed set i s)) where
  here : IsAt (placed set i s) i s
  here = spot_at-placed_same set i s in_set

  pub stands_from_lawful : stands_on block i s.unit ≡ true
  stands_from_lawful = new.units i s here

  pub within_from_lawful : s.cycle < 5 * length block
  within_from_lawful = new.within i s here

  pub after_from_lawful : IsAfter block set i s.cycle
  after_from_lawful h bound t w is = new.delays h i bound t s w
      (spot_at-placed_other set i h s (λ e. omega (arith, w.before, e)) ∙ is) here

  pub founded_from_lawful : (h : ℕ) → Depends block h i → IsSome (spot_at set h)
  founded_from_lawful h dep = rw (← spot_at-placed_other set i h s (λ e. omega (arith, dep.1.before, e)))
      (new.founded h i s dep here)

-- a lawful set, and a number that is not placed
module _ (block : List Insn) (set : Spots) (i : ℕ) (s : Spot) (insn : Insn) (lawful : IsLawful block set)
    (at : slice_get block i ≡ Some insn)
    (in_block : i < length block) (free : spot_at set i ≡ None) where
  in_lawful : i < length set
  in_lawful = omega (arith, lawful.sized)

  -- nothing placed depends on a number that isn't placed
  pub no_dependent : (j : ℕ) (t : Spot) → Depends block i j → IsAt set j t → ⊥
  no_dependent j t dep at_j = none_not_some (spot_at set i) free (lawful.founded i j t dep at_j)

  pub lawful_from_fits : ((h : ℕ) → Depends block h i → IsSome (spot_at set h)) → IsAfter block set i s.cycle
      → s.cycle < 5 * length block
      → Fits block set i s → IsLawful block (placed set i s)
  lawful_from_fits founded after below fits = record {
    sized = length-set set i (Some s) ∙ lawful.sized;
    units = λ j t is. grind (arith, IsAt-placed set i j s t in_lawful is, lawful.units j t, fits.stands);
    within = λ j t is. grind (arith, IsAt-placed set i j s t in_lawful is, lawful.within j t);
    rules = rules_from_keeps block set i insn s lawful.sized at in_block free lawful.rules fits.keeps
        (landings_kept block (placed set i s) (length-set set i (Some s)
        ∙ lawful.sized) (delays_placed block set i s in_lawful lawful.delays no_dependent after));
    founded = λ h j t dep is. elim (cases_eq h i) [
      | inl e ↦ rw (e, spot_at-placed_same set i s in_lawful) refl
      | inr ne ↦ rw (spot_at-placed_other set i h s ne)
          (elim (IsAt-placed set i j s t in_lawful is)
          [ inl w ↦ founded h (rw w.0 at dep) | inr w ↦ lawful.founded h j t dep w.1 ])
    ];
    delays = delays_placed block set i s in_lawful lawful.delays no_dependent after;
  }

  pub fits_from_lawful : IsLawful block (placed set i s) → Fits block set i s
  fits_from_lawful new = record {
    stands = stands_from_lawful block set i s in_lawful new;
    keeps = new.rules.enough s.cycle;
  }

-- a set stays lawful where one is taken out that no placed one depends on
pub lawful_withdrawn : (block : List Insn) (set : Spots) (i : ℕ) → IsLawful block set → i < length block
    → IsLast block set i
    → IsLawful block (withdrawn set i)
lawful_withdrawn block set i lawful in_block last =
    let lt : i < length set = omega (arith, lawful.sized) in
    record {
      sized = length-set set i None ∙ lawful.sized;
      units = λ j s is. lawful.units j s (IsAt-withdrawn set i j s lt is).1;
      within = λ j s is. lawful.within j s (IsAt-withdrawn set i j s lt is).1;
      rules = rw (issues-withdrawn block set i lawful.sized)
          (part-keeps (slice_set (issues block set) i None) (issues block set) (part-without (issues block set) i)
          lawful.rules);
      founded = λ j k t dep is.
          let there = IsAt-withdrawn set i k t lt is in
          rw (spot_at-withdrawn_other set i j (λ e. none-some t (sym (last k (rw e at dep)) ∙ there.1)))
          (lawful.founded j k t dep there.1);
      delays = λ j k bound s t w at_j at_k. lawful.delays j k bound s t w (IsAt-withdrawn set i j s lt at_j).1
          (IsAt-withdrawn set i k t lt at_k).1;
    }
