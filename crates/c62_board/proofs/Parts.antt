-- A part of a set of placements keeps the packet rules that all of it keeps.
use Rattle.std.proofs.Common.{◌≡◌, ℕ, zero, suc, List, [], ◌∷◌, Some, None, refl, ap, ◌∙◌}
use Rattle.std.specs.Prelude.{option_map}
use Rattle.std.proofs.lemmas.Option.{none-some}
use Rattle.c62_insn.specs.declared.insn.Insn.{Insn}
use Rattle.c62_rules.specs.PacketRules.{Issue, IsIssued, KeepsPacketRules}
use Rattle.c62_rules.proofs.Parts.{part-keeps}
use Rattle.c62_sheet.specs.declared.entry.Spot.{Spot}
use Rattle.c62_sheet.specs.Lawful.{Spots, IsAt, issue_at, issues}

-- what is placed in one set is placed so in the other
abbrev pub IsPart : Spots → Spots → Type 0
IsPart part whole = (k : ℕ) (t : Spot) → IsAt part k t → IsAt whole k t

none_issued : (block : List Insn) (k : ℕ) (p : Issue) → IsIssued (issues block []) k p → ⊥
none_issued [] k p e = none-some p e
none_issued (insn ∷ block) k p e = none-some p e

issued_part : (block : List Insn) (part whole : Spots) (k : ℕ) (p : Issue) → IsPart part whole
    → IsIssued (issues block part) k p → IsIssued (issues block whole) k p
issued_part [] part whole k p sub is = absurd (none-some p is)
issued_part (insn ∷ block) [] whole k p sub is = absurd (none-some p is)
issued_part (insn ∷ block) (None ∷ part) whole zero p sub is = absurd (none-some p is)
issued_part (insn ∷ block) (Some s ∷ part) [] zero p sub is = absurd (none-some s (sub 0 s refl))
issued_part (insn ∷ block) (Some s ∷ part) (o ∷ whole) zero p sub is = ap (option_map (issue_at insn)) (sub 0 s refl)
    ∙ is
issued_part (insn ∷ block) (o ∷ part) [] (suc k) p sub is =
    absurd (none_issued block k p (issued_part block part [] k p (λ j t at. sub (suc j) t at) is))
issued_part (insn ∷ block) (o ∷ part) (q ∷ whole) (suc k) p sub is = issued_part block part whole k p
    (λ j t at. sub (suc j) t at) is

pub rules_part : (block : List Insn) (part whole : Spots) → IsPart part whole → KeepsPacketRules (issues block whole)
    → KeepsPacketRules (issues block part)
rules_part block part whole sub = part-keeps (issues block part) (issues block whole) (record {
  number = λ k. k;
  issued = λ k p is. issued_part block part whole k p sub is;
  apart = λ j k p q at_j at_k same. same;
})
