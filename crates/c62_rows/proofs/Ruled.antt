-- What the rules say of one instruction more.
use Rattle.std.proofs.Common.{◌≡◌, ℕ, List, ◌∷◌, Option, sym, subst}
use Rattle.std.specs.Prelude.{MatchOption}
use Rattle.c62_rules.specs.declared.resource.CycleRule.{CycleRule}
use Rattle.c62_rules.specs.Capacity.{AreEnough, IsFirstBroken}
use Rattle.c62_row.specs.declared.row.Uses.{Uses}
use Rattle.c62_row.specs.declared.row.Row.{Row as Taken}
use Rattle.c62_row.specs.Row.{AreUses, Tells}
use Rattle.c62_row.specs.Issued.{IsRowOf}
use Rattle.c62_row.proofs.Deciding.{decides-cons}
use Rattle.c62_packet.specs.declared.placed.Placed.{Placed}
use Rattle.c62_packet.specs.Packed.{issue_of, issued}

-- what a row tells against an instruction is what the rules say of it with these
pub rule_told : (row : Taken) (own : Uses) (told : Option CycleRule) (p : Placed) (above : List Placed) → p.cycle ≡ 0
    → IsRowOf row 0 (issued above)
    → AreUses own p.insn p.unit → Tells row own told
    → MatchOption told (AreEnough 0 (issued (p ∷ above))) (λ rule. IsFirstBroken rule 0 (issued (p ∷ above)))
rule_told row own told p above zero is are tells =
    subst (λ (k : ℕ). MatchOption told (AreEnough k (issued (p ∷ above)))
    (λ rule. IsFirstBroken rule k (issued (p ∷ above)))) zero
    (decides-cons row own told (issued above) (issue_of p)
    (subst (λ (k : ℕ). IsRowOf row k (issued above)) (sym zero) is) are tells)
