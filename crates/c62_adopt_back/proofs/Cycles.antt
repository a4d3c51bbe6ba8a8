-- The lines of a block's cycles.
use Rattle.c62_adopt_back.proofs.Common.{nat_tests, arith, ◌≡◌, ℕ, ◌+◌, ◌-◌, ◌<◌, ◌≤◌, List, [], ◌∷◌, ◌++◌, length}
use Rattle.c62_adopt_back.proofs.Common.{Bool, true, false, Option, Some}
use Rattle.c62_adopt_back.proofs.Common.{None, Ok, refl, sym, subst, append_assoc, length-append, is_none, ◌&&◌, ◌||◌}
use Rattle.c62_adopt_back.proofs.Common.{nat_lt, if◌then◌else◌, codes}
use Rattle.c62_adopt_back.proofs.Common.{AllByRecursion, spelling, says_on, Says, Placed, is_branching_placed}
use Rattle.c62_adopt_back.proofs.Common.{cycle_lines, idle_lines, IsWritable}
use Rattle.c62_adopt_back.proofs.Common.{Line, line_said, line_says, cuts_of, cycles_of, first_of, last_packet}
use Rattle.c62_adopt_back.proofs.Common.{stand_at, Drafts}
use Rattle.std.proofs.lemmas.Bool.{false≢true, ltb-false, ltb-true}
use Rattle.c62_op.proofs.UnitOrder.{index_of-below}
use Rattle.c62_packet.specs.Packed.{listing_position}
use Rattle.c62_adopt_line.proofs.ListedLines.{instruction_reads}
use Rattle.c62_listing_reader.proofs.BackLemmas.{AreBehind}
use Rattle.c62_adopt_cut.specs.Cut.{Place, is_filled}
use Rattle.c62_adopt_back.proofs.Cuts.{starts_here}
use Rattle.c62_adopt_back.proofs.Said.{IsSaid, is_said, parts_written, says_is, target_written}
use Rattle.c62_adopt_back.proofs.Blocks.{IsAt, Site}
use Rattle.c62_adopt_back.proofs.Issues.{Fits, Stands, is_below, nothing_against}
use Rattle.c62_adopt_back.proofs.Leading.{Leads, one_line, then_lines}
use Rattle.c62_adopt_back.proofs.Pauses.{idle_leads}
use Rattle.c62_read.specs.declared.limits.TheConstants.{MOST_BLOCKS, MOST_INSTRUCTIONS}
use Rattle.c62_packet.specs.declared.limits.TheConstants.{MOST_CYCLES}
use Rattle.c62_op.specs.declared.set.InstructionSet.{InstructionSet}

-- ---- the packet of the line above

-- behind others an instruction stands in the line above
pub record IsBehind (site : Site) (branched : Bool) (placed : List Placed) (q : Placed) (above : List Line)
    (drafts : Drafts) : Type 0 where
  pub at : IsAt site (q.cycle + 1) branched (placed ++ q ∷ []) above drafts
  pub packet : Place
  pub last : last_packet above ≡ Some packet
  pub stands : stand_at packet ≡ record { cycle = site.start + q.cycle; start = site.start }

packet_below : (above : List Line) (beside : Bool) (says : Says) (found : Option Place) → last_packet above ≡ found
    → is_filled says ≡ true
    → (beside && is_none found) ≡ false
    → last_packet (line_said beside None says ∷ above) ≡ Some (first_of above (line_said beside None says))
packet_below above false says found is filled below = rw filled refl
packet_below above true says None is filled below = absurd (false≢true (sym below))
packet_below above true says (Some place) is filled below = rw (filled, is) refl

-- ---- an instruction

-- what is asked of an instruction of a block of so many cycles
pub record IsListed (isa : InstructionSet) (name : ℕ → List ℕ) (cycles : ℕ) (p : Placed) : Type 0 where
  pub writable : IsWritable isa name p
  pub fits : Fits cycles p

said_so : (site : Site) (p : Placed)
    → IsSaid (parts_written p) (target_written site.name p) (says_on site.name p.insn p.unit)
said_so site p = rw (says_is site.name p) (is_said (parts_written p) (target_written site.name p))

front : Bool → List ℕ
front beside = if beside then codes "|| " else codes "   "

line_reads : (isa : InstructionSet) (site : Site) (p : Placed) (beside : Bool) → IsWritable isa site.name p
    → line_says isa (front beside ++ spelling site.name p.insn p.unit) ≡ Ok
    (line_said beside None (says_on site.name p.insn p.unit))
unfolding front
line_reads isa site p true is = (instruction_reads isa site.name p.insn p.unit is.taking is.names).1
line_reads isa site p false is = (instruction_reads isa site.name p.insn p.unit is.taking is.names).0

module _ (isa : InstructionSet) (site : Site) (few : length site.done < MOST_BLOCKS)
    (short : site.cycles ≤ MOST_CYCLES) where
  issue_leads : (next : ℕ) (branched : Bool) (placed : List Placed) (number : ℕ) (above : List Line) (drafts : Drafts)
      (p : Placed) (beside : Bool)
      → IsAt site next branched placed above drafts
      → Stands site next p above beside (line_said beside None (says_on site.name p.insn p.unit))
      → IsListed isa site.name site.cycles p → (is_branching_placed p ≡ true → branched ≡ false)
      → length placed < MOST_INSTRUCTIONS
      → Leads isa above drafts number ((front beside ++ spelling site.name p.insn p.unit) ∷ [])
      (IsBehind site (branched || is_branching_placed p) placed p)
  issue_leads next branched placed number above drafts p beside is stands listed one room =
      let says : Says = says_on site.name p.insn p.unit in
      let said = said_so site p in
      one_line isa above drafts number (front beside ++ spelling site.name p.insn p.unit) (line_said beside None says)
      (IsBehind site (branched || is_branching_placed p) placed p) (line_reads isa site p beside listed.writable)
      (nothing_against site next branched placed above drafts is p beside says said stands few room short listed.fits)
      (record {
        at = is_below site next branched placed above drafts is p beside says said stands number one listed.fits;
        packet = first_of above (line_said beside None says);
        last = packet_below above beside says (last_packet above) refl said.filled stands.below;
        stands = stands.stand;
      })

  -- the first of a packet stands in the next cycle
  first_stands : (next : ℕ) (branched : Bool) (placed : List Placed) (above : List Line) (drafts : Drafts) (p : Placed)
      → IsAt site next branched placed above drafts → next ≡ p.cycle → p.cycle < site.cycles
      → Stands site next p above false (line_said false None (says_on site.name p.insn p.unit))
  first_stands next branched placed above drafts p is same below =
      let now : cycles_of above ≡ site.start + p.cycle = omega (arith, is.passed, same) in
      record {
        stand = rw (now, starts_here branched site.start site.cycles p.cycle (cuts_of above) is.cuts below) refl;
        below = refl;
        time = omega (arith, same);
      }

  -- another stands where the first of its packet does
  beside_stands : (branched : Bool) (placed : List Placed) (q p : Placed) (above : List Line) (drafts : Drafts)
      → IsBehind site branched placed q above drafts → p.cycle ≡ q.cycle
      → Stands site (q.cycle + 1) p above true (line_said true None (says_on site.name p.insn p.unit))
  beside_stands branched placed q p above drafts is same = record {
    stand = rw (is.last, same) is.stands;
    below = rw is.last refl;
    time = omega (arith, same);
  }

  -- an instruction that begins a packet, with the cycles before it
  first_leads : (next : ℕ) (branched : Bool) (placed : List Placed) (number : ℕ) (above : List Line) (drafts : Drafts)
      (p : Placed)
      → IsAt site next branched placed above drafts → next ≤ p.cycle → IsListed isa site.name site.cycles p
      → (is_branching_placed p ≡ true → branched ≡ false) → length placed < MOST_INSTRUCTIONS
      → Leads isa above drafts number
      (idle_lines (p.cycle - next) ++ (codes "   " ++ spelling site.name p.insn p.unit) ∷ [])
      (IsBehind site (branched || is_branching_placed p) placed p)
  unfolding front
  first_leads next branched placed number above drafts p is low listed one room =
      let at : next + (p.cycle - next) ≡ p.cycle = omega (arith, low) in
      let below : p.cycle < site.cycles = omega (arith, listed.fits.ends) in
      then_lines isa above drafts number (idle_lines (p.cycle - next))
      ((codes "   " ++ spelling site.name p.insn p.unit) ∷ [])
      (IsAt site (next + (p.cycle - next)) branched placed) (IsBehind site (branched || is_branching_placed p) placed p)
      (idle_leads isa site branched placed (p.cycle - next) next number above drafts is)
      (λ a d n is_in. issue_leads (next + (p.cycle - next)) branched placed n a d p false is_in
      (first_stands (next + (p.cycle - next)) branched placed a d p is_in at below) listed one room)

  -- an instruction behind another
  next_leads : (b : Bool) (branched : Bool) (placed : List Placed) (q p : Placed) (number : ℕ) (above : List Line)
      (drafts : Drafts)
      → nat_lt p.cycle (q.cycle + 1) ≡ b → listing_position q ≤ listing_position p
      → IsBehind site branched placed q above drafts
      → IsListed isa site.name site.cycles p → (is_branching_placed p ≡ true → branched ≡ false)
      → length (placed ++ q ∷ []) < MOST_INSTRUCTIONS
      → Leads isa above drafts number (if b then (codes "|| " ++ spelling site.name p.insn p.unit) ∷ []
      else idle_lines (p.cycle - (q.cycle + 1)) ++ (codes "   " ++ spelling site.name p.insn p.unit) ∷ [])
      (IsBehind site (branched || is_branching_placed p) (placed ++ q ∷ []) p)
  unfolding front
  next_leads true branched placed q p number above drafts less order is listed one room =
      let same : p.cycle ≡ q.cycle =
      omega (arith, ltb-true p.cycle (q.cycle + 1) less, order, index_of-below q.unit, index_of-below p.unit) in
      issue_leads (q.cycle + 1) branched (placed ++ q ∷ []) number above drafts p true is.at
      (beside_stands branched placed q p above drafts is same)
      listed one room
  next_leads false branched placed q p number above drafts less order is listed one room =
      first_leads (q.cycle + 1) branched (placed ++ q ∷ []) number above drafts p is.at
      (ltb-false p.cycle (q.cycle + 1) less) listed one room

-- ---- the cycles of a block

-- none of these is a branch behind another
unfoldable pub BranchOnce : Bool → List Placed → Type 0
BranchOnce branched [] = Unit {0}
BranchOnce branched (p ∷ placed) = (is_branching_placed p ≡ true → branched ≡ false)
    × BranchOnce (branched || is_branching_placed p) placed

unfoldable pub branched_behind : Bool → List Placed → Bool
branched_behind branched [] = branched
branched_behind branched (p ∷ placed) = branched_behind (branched || is_branching_placed p) placed

module _ (isa : InstructionSet) (site : Site) (few : length site.done < MOST_BLOCKS)
    (short : site.cycles ≤ MOST_CYCLES) where
  rest_lead : (rest placed : List Placed) (branched : Bool) (q : Placed) (number : ℕ) (above : List Line)
      (drafts : Drafts)
      → IsBehind site branched placed q above drafts → AllByRecursion (IsListed isa site.name site.cycles) rest
      → AreBehind q rest
      → BranchOnce branched rest → length placed + 1 + length rest ≤ MOST_INSTRUCTIONS → q.cycle < site.cycles
      → Leads isa above drafts number (cycle_lines site.name (q.cycle + 1) site.cycles rest)
      (IsAt site site.cycles (branched_behind branched rest) (placed ++ q ∷ rest))
  unfolding AreBehind BranchOnce branched_behind
  rest_lead [] placed branched q number above drafts is listed order once room low =
      let at : (q.cycle + 1) + (site.cycles - (q.cycle + 1)) ≡ site.cycles = omega (arith, low) in
      subst (λ (c : ℕ). Leads isa above drafts number (idle_lines (site.cycles - (q.cycle + 1)))
      (IsAt site c branched (placed ++ q ∷ []))) at
      (idle_leads isa site branched (placed ++ q ∷ []) (site.cycles - (q.cycle + 1)) (q.cycle + 1) number above drafts
      is.at)
  rest_lead (p ∷ rest) placed branched q number above drafts is listed order once room low =
      let so_far : List Placed = placed ++ q ∷ [] in
      let next : Bool = branched || is_branching_placed p in
      let count : length so_far ≡ length placed + 1 = length-append placed (q ∷ []) in
      subst (λ (all : List Placed). Leads isa above drafts number
      (cycle_lines site.name (q.cycle + 1) site.cycles (p ∷ rest))
      (IsAt site site.cycles (branched_behind next rest) all)) (append_assoc placed (q ∷ []) (p ∷ rest))
      (then_lines isa above drafts number _ (cycle_lines site.name (p.cycle + 1) site.cycles rest)
      (IsBehind site next so_far p)
      (IsAt site site.cycles (branched_behind next rest) (so_far ++ p ∷ rest))
      (next_leads isa site few short (nat_lt p.cycle (q.cycle + 1)) branched placed q p number above drafts refl order.0
      is
      listed.0 once.0
      (omega (arith, count, room)))
      (λ a d n at. rest_lead rest so_far next p n a d at listed.1 order.1 once.1 (omega (arith, count, room))
      (omega (arith, listed.0.fits.ends))))

  -- from the first cycle
  pub cycles_lead : (placed : List Placed) (number : ℕ) (above : List Line) (drafts : Drafts)
      → IsAt site 0 false [] above drafts
      → AllByRecursion (IsListed isa site.name site.cycles) placed
      → ((p : Placed) (rest : List Placed) → placed ≡ p ∷ rest → AreBehind p rest)
      → BranchOnce false placed → length placed ≤ MOST_INSTRUCTIONS
      → Leads isa above drafts number (cycle_lines site.name 0 site.cycles placed)
      (IsAt site site.cycles (branched_behind false placed) placed)
  unfolding BranchOnce branched_behind
  cycles_lead [] number above drafts is listed order once room =
      let at : 0 + (site.cycles - 0) ≡ site.cycles = omega arith in
      subst (λ (c : ℕ). Leads isa above drafts number (idle_lines (site.cycles - 0)) (IsAt site c false [])) at
      (idle_leads isa site false [] (site.cycles - 0) 0 number above drafts is)
  cycles_lead (p ∷ rest) number above drafts is listed order once room =
      let none : nat_lt p.cycle 0 ≡ false = grind (arith, nat_tests) in
      rw none (then_lines isa above drafts number _ (cycle_lines site.name (p.cycle + 1) site.cycles rest)
      (IsBehind site (is_branching_placed p) [] p)
      (IsAt site site.cycles (branched_behind (is_branching_placed p) rest) (p ∷ rest))
      (first_leads isa site few short 0 false [] number above drafts p is (omega arith) listed.0 once.0 (omega arith))
      (λ a d n at. rest_lead rest [] (is_branching_placed p) p n a d at listed.1 (order p rest refl) once.1
      (omega (arith, room))
      (omega (arith, listed.0.fits.ends))))
