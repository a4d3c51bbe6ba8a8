-- The lines of a block's cycles without instructions.
use Rattle.c62_adopt_back.proofs.Common.{arith, ◌≡◌, ℕ, zero, suc, ◌+◌, ◌*◌, ◌/◌, ◌%◌, ◌<◌, ◌≤◌, List, [], ◌∷◌, Bool}
use Rattle.c62_adopt_back.proofs.Common.{false, None, refl, subst}
use Rattle.c62_adopt_back.proofs.Common.{replicate, Pause, Placed, pause_line, idle_lines, Line, line_said, Drafts}
use Rattle.c62_adopt_line.proofs.ListedLines.{pause_reads}
use Rattle.c62_adopt_cut.specs.Text.{hindrance}
use Rattle.c62_listing_reader.proofs.DraftLines.{rest_is, rest_line}
use Rattle.c62_adopt_back.proofs.Blocks.{IsAt, Site}
use Rattle.c62_adopt_back.proofs.Leading.{Leads, no_lines, one_line, then_lines}
use Rattle.c62_op.specs.declared.set.InstructionSet.{InstructionSet}

abbrev pausing : ℕ → Line
pausing n = line_said false None (Pause n)

pause_free : (above : List Line) (drafts : Drafts) (n : ℕ) → hindrance above drafts (pausing n) ≡ None
unfolding hindrance
pause_free above drafts n = refl

module _ (isa : InstructionSet) (site : Site) (branched : Bool) (placed : List Placed) where
  abbrev At : ℕ → List Line → Drafts → Type 0
  At next = IsAt site next branched placed

  pause_below : (n next : ℕ) (above : List Line) (drafts : Drafts) → At next above drafts
      → At (next + n) (pausing n ∷ above) drafts
  pause_below n next above drafts is = record {
    passed = omega (arith, is.passed);
    cuts = is.cuts;
    draft = is.draft;
    opens = is.opens;
    is = is.is;
    begun = is.begun;
  }

  pause_leads : (n next number : ℕ) (above : List Line) (drafts : Drafts) → At next above drafts → 1 ≤ n → n ≤ 9
      → Leads isa above drafts number (pause_line n ∷ []) (At (next + n))
  pause_leads n next number above drafts is some small =
      one_line isa above drafts number (pause_line n) (pausing n) (At (next + n)) (pause_reads isa n some small)
      (pause_free above drafts n)
      (pause_below n next above drafts is)

  nines_lead : (nines next number : ℕ) (above : List Line) (drafts : Drafts) → At next above drafts
      → Leads isa above drafts number (replicate nines (pause_line 9)) (At (next + 9 * nines))
  nines_lead zero next number above drafts is =
      let same : next + 9 * 0 ≡ next = omega arith in
      rw same (no_lines isa above drafts number (At next) is)
  nines_lead (suc nines) next number above drafts is =
      let same : next + 9 * suc nines ≡ (next + 9) + 9 * nines = omega arith in
      then_lines isa above drafts number (pause_line 9 ∷ []) (replicate nines (pause_line 9)) (At (next + 9))
      (At (next + 9 * suc nines))
      (pause_leads 9 next number above drafts is (omega arith) (omega arith))
      (λ a d n at. rw same (nines_lead nines (next + 9) n a d at))

  rest_leads : (rest next number : ℕ) (above : List Line) (drafts : Drafts) → At next above drafts → rest < 9
      → Leads isa above drafts number (rest_line rest) (At (next + rest))
  rest_leads zero next number above drafts is small =
      let same : next + 0 ≡ next = omega arith in
      rw same (no_lines isa above drafts number (At next) is)
  rest_leads (suc rest) next number above drafts is small =
      let some : 1 ≤ suc rest = omega arith in
      rw (rest_is (suc rest) some) (pause_leads (suc rest) next number above drafts is some (omega (arith, small)))

  pub idle_leads : (idle next number : ℕ) (above : List Line) (drafts : Drafts) → At next above drafts
      → Leads isa above drafts number (idle_lines idle) (At (next + idle))
  idle_leads idle next number above drafts is =
      let nines : ℕ = idle / 9 in
      let rest : ℕ = idle % 9 in
      let all : (next + 9 * nines) + rest ≡ next + idle = omega arith in
      then_lines isa above drafts number (replicate nines (pause_line 9)) (rest_line rest) (At (next + 9 * nines))
      (At (next + idle))
      (nines_lead nines next number above drafts is)
      (λ a d n at. subst (λ (c : ℕ). Leads isa a d n (rest_line rest) (At c)) all
      (rest_leads rest (next + 9 * nines) n a d at (omega arith)))
