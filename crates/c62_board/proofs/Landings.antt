-- All that is lawfully placed has landed when its length ends, and that is short.
use Rattle.std.proofs.Common.{arith, ◌≡◌, ℕ, suc, ◌+◌, ◌*◌, ◌<◌, ◌≤◌, List, [], ◌∷◌, length, Option, Some, None, refl}
use Rattle.std.proofs.Common.{ap}
use Rattle.std.specs.Prelude.{slice_get, find, All}
use Rattle.std.specs.Option.{option_map_or}
use Rattle.c62_insn.specs.declared.insn.Insn.{Insn}
use Rattle.c62_rules.specs.PacketRules.{Issue, Issues, IsIssued, issued}
use Rattle.c62_rules.specs.Length.{landing_end, last_landing_end}
use Rattle.c62_insn.proofs.InsnLemmas.{delay_within, delay_short}
use Rattle.c62_depend.specs.Plan.{IsPlan}
use Rattle.c62_sheet.specs.declared.entry.Spot.{Spot}
use Rattle.c62_sheet.specs.Lawful.{Spots, IsAt, issue_at, issues, IsLawful}
use Rattle.c62_sheet.specs.Counts.{set_length}
use Rattle.c62_sheet.proofs.IssuesOf.{issued-placement}
use Rattle.c62_sheet.proofs.Landings.{branches, found_branch, delay_ends}

-- ---- what is issued

last_at_most : (issues : Issues) (n : ℕ) → ((k : ℕ) (p : Issue) → IsIssued issues k p → landing_end p ≤ n)
    → last_landing_end (issued issues) ≤ n
last_at_most [] n h = omega arith
last_at_most (None ∷ issues) n h = last_at_most issues n (λ k p is. h (suc k) p is)
last_at_most (Some q ∷ issues) n h =
    let own = h 0 q refl in
    let rest = last_at_most issues n (λ k p is. h (suc k) p is) in
    omega (arith, own, rest)

-- ---- what is placed

module _ (block : List Insn) (set : Spots) (plan : IsPlan block) (lawful : IsLawful block set) where
  pub lands_within : (i : ℕ) (insn : Insn) (s : Spot) → slice_get block i ≡ Some insn → IsAt set i s
      → landing_end (issue_at insn s) ≤ set_length block set
  lands_within i insn s at is =
      let ends = delay_ends block set plan lawful i insn s at is in
      let within = delay_within insn in
      omega (arith, ends, within)

  issued_early : (k : ℕ) (p : Issue) → IsIssued (issues block set) k p → (p.cycle < 5 * length block)
      × (landing_end p ≤ p.cycle + 5)
  issued_early k p is =
      let q = issued-placement block set k p lawful.sized is in
      let cycle : p.cycle ≡ q.spot.cycle = ap (λ (r : Issue). r.cycle) q.is_issue in
      let within = lawful.within k q.spot q.is_at in
      let short = delay_short p.insn in
      (omega (arith, cycle, within), omega (arith, short))

  short_by : (found : Option Issue) → find branches (issued (issues block set)) ≡ found
      → option_map_or (λ (b : Issue). b.cycle + 6) found (last_landing_end (issued (issues block set))) ≤ 5 * length
      block + 5
  short_by None e =
      last_at_most (issues block set) (5 * length block + 5)
      (λ k p is. (let early = issued_early k p is in let low = early.0 in let soon = early.1 in omega
      (arith, low, soon)))
  short_by (Some b) e =
      let w = found_branch (issues block set) b e in
      let low = (issued_early w.number b w.at).0 in
      omega (arith, low)

  pub length_short : set_length block set ≤ 5 * length block + 5
  length_short = short_by (find branches (issued (issues block set))) refl
