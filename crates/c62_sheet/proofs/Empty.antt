-- While nothing is placed.
use Rattle.c62_sheet.proofs.Common.{arith, ◌≡◌, ℕ, List, length, get_or, Option, Some, None, sym, ◌∙◌, length-replicate}
use Rattle.c62_sheet.proofs.Common.{none-some, Insn, Issue, Spot, IsAt, nothing_placed, issues, IsLawful}
use Rattle.c62_rules.proofs.Capacities.{none-used-in}
use Rattle.c62_sheet.proofs.Sets.{nothing_at}
use Rattle.c62_sheet.proofs.IssuesOf.{issued-placement}

pub lawful_empty : (block : List Insn) → IsLawful block (nothing_placed (length block))
lawful_empty block = record {
  sized = sized;
  units = λ i s at. absurd (none i s at);
  within = λ i s at. absurd (none i s at);
  rules = record {
    enough = λ cycle r. omega (
      arith,
      none-used-in cycle r (issues block (nothing_placed (length block)))
          (λ k q is e. none_issued k q is),
    );
    landing = λ i j p q reg cycle is. absurd (none_issued i p is);
  };
  founded = λ i j t dep at. absurd (none j t at);
  delays = λ i j bound s t w at. absurd (none i s at);
}
  where
    sized : length (nothing_placed (length block)) ≡ length block
    sized = length-replicate {A = Option Spot} (length block) None

    none : (i : ℕ) (s : Spot) → IsAt (nothing_placed (length block)) i s → ⊥
    none i s at = none-some s (sym (nothing_at (length block) i) ∙ at)

    none_issued : (k : ℕ) (q : Issue) → get_or (issues block (nothing_placed (length block))) k None ≡ Some q → ⊥
    none_issued k q is = (let w = issued-placement block (nothing_placed (length block)) k q sized is in none k w.spot
        w.is_at)
