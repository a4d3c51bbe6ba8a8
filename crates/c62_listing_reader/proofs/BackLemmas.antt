-- The instructions of a listed block are read back, and its cycles.
use Rattle.c62_listing_reader.proofs.Common.{arith, ◌≡◌, ℕ, ◌+◌, ◌-◌, ◌<◌, ◌≤◌, List, [], ◌∷◌, ◌++◌, length, map}
use Rattle.c62_listing_reader.proofs.Common.{Option, Some, None, Bool, true, false, not, refl, sym, ap, ◌∙◌, subst}
use Rattle.c62_listing_reader.proofs.Common.{append_assoc, length-append, ◌&&◌, nat_le, nat_lt, if◌then◌else◌, All}
use Rattle.c62_listing_reader.proofs.Common.{codes, le-ltb, ltb-false, nat_tests, length-map, map-append, All-tail}
use Rattle.c62_listing_reader.proofs.Common.{FunctionalUnit, Operands, Block, op_of, operands_of, unit_of, spelling}
use Rattle.c62_listing_reader.proofs.Common.{takes, index_of, parts_of, Says, Name, is_among, NamesTarget, parts_on}
use Rattle.c62_listing_reader.proofs.Common.{says_with, says_on, is_instruction, is_unknown, Placed, listing_position}
use Rattle.c62_listing_reader.proofs.Common.{idle_lines, cycle_lines, Front, First, Beside, Above, Issue, Line}
use Rattle.c62_listing_reader.proofs.Common.{is_beside, is_gap, Draft, Drafts, opened, with_part, with_says, with_said}
use Rattle.c62_listing_reader.proofs.Common.{above_of, above_next, is_filled, is_issue, is_misplaced, unit_said}
use Rattle.c62_listing_reader.proofs.Common.{unit_above, precedes, goes_on, cycles_added, index_of-below}
use Rattle.std.proofs.lemmas.Bool.{ltb-true}
use Rattle.c62_listing_reader.proofs.TextLemmas.{fed}
use Rattle.c62_listing_reader.proofs.UntoldLemmas.{IsPlain, beside_plain, first_plain}
use Rattle.c62_listing_reader.specs.Said.{front_spelling}
use Rattle.c62_read.specs.declared.limits.TheConstants.{MOST_BLOCKS, MOST_INSTRUCTIONS}
use Rattle.c62_packet.specs.declared.limits.TheConstants.{MOST_CYCLES}
use Rattle.c62_listing_reader.proofs.LeadingLines.{Leads, then_lines, plain_line, unlined, key_of, IsAt, is_calm, IsIn}
use Rattle.c62_listing_reader.proofs.LeadingLines.{IsCalm, idle_leads}
use Rattle.c62_op.specs.Takes.{takes_in}
use Rattle.c62_op.specs.declared.set.InstructionSet.{InstructionSet}

-- ---- an instruction

-- its unit takes its operands, and a branch goes by a label
pub record IsWritable (isa : InstructionSet) (name : ℕ → List ℕ) (p : Placed) : Type 0 where
  pub taking : takes_in isa (op_of p.insn) (operands_of p.insn) p.unit ≡ true
  pub names : NamesTarget name (operands_of p.insn)

-- the same, and a branch goes to a label that stands for its block
pub record IsSayable (isa : InstructionSet) (name : ℕ → List ℕ) (labels : List Name) (aim : Name → ℕ)
    (p : Placed) : Type 0 where
  pub written : unit_of p.insn ≡ Some p.unit
  pub writable : IsWritable isa name p
  pub known : (number : ℕ) → operands_of p.insn ≡ Block number → is_among (name number) labels ≡ true
  pub aimed : (number : ℕ) → operands_of p.insn ≡ Block number → aim (name number) ≡ number

record IsSaying (labels : List Name) (aim : Name → ℕ) (p : Placed) (says : Says) : Type 0 where
  pub known : is_unknown labels says ≡ false
  pub unit : unit_said says ≡ Some p.unit
  pub pauses : (above : Above) → goes_on says above ≡ false
  pub added : (beside : Bool) → cycles_added beside says ≡ (if beside then 0 else 1)
  pub part : (beside : Bool) (line : ℕ) (draft : Draft)
      → with_says aim beside line says draft ≡ with_part beside (parts_of p.insn) line draft
  pub above : above_of says ≡ Issue (Some p.unit)

saying_by : (isa : InstructionSet) (name : ℕ → List ℕ) (labels : List Name) (aim : Name → ℕ) (p : Placed)
    (operands : Operands)
    → IsSayable isa name labels aim p
    → operands_of p.insn ≡ operands
    → IsSaying labels aim p (says_with name (parts_on p.insn p.unit) operands)
saying_by isa name labels aim p operands is to = record {
  known = grind (arith, nat_tests, is.known);
  unit = grind arith;
  pauses = λ above. grind arith;
  added = λ beside. grind arith;
  part = λ beside line draft. grind (arith, is.written, is.aimed);
  above = grind arith;
}

saying : (isa : InstructionSet) (name : ℕ → List ℕ) (labels : List Name) (aim : Name → ℕ) (p : Placed)
    → IsSayable isa name labels aim p
    → IsSaying labels aim p (says_on name p.insn p.unit)
saying isa name labels aim p is = saying_by isa name labels aim p (operands_of p.insn) is refl

module _ (isa : InstructionSet) (name : ℕ → List ℕ) (labels : List Name) (aim : Name
    → ℕ) (done : List Draft) (few : length done < MOST_BLOCKS) (label : Option Name) where
  -- an instruction stands in the line above, behind others
  pub record IsOver (placed : List Placed) (p : Placed) (drafts : Drafts) (above : Above) : Type 0 where
    pub is : IsIn done label (p.cycle + 1) (placed ++ p ∷ []) drafts above
    pub last : above ≡ Issue (Some p.unit)

  room_is : (placed : List Placed) (cycles : ℕ) (drafts : Drafts) (says : Says) → IsAt done label cycles placed drafts
      → length placed < MOST_INSTRUCTIONS
      → (is_instruction says && nat_le MOST_INSTRUCTIONS (length (opened drafts.current).placed)) ≡ false
  room_is placed cycles drafts says is room =
      let count : length (opened drafts.current).placed ≡ length placed =
      sym (length-map (opened drafts.current).placed unlined) ∙ ap length is.parts ∙ length-map placed key_of in
      grind (arith, nat_tests, count)

  -- what an instruction does to the block that is open
  issue_in : (front : Front) (placed : List Placed) (p : Placed) (number : ℕ) (drafts : Drafts) (says : Says)
      → is_gap front ≡ false
      → IsSaying labels aim p says → IsAt done label (p.cycle + (if is_beside front then 1 else 0)) placed drafts
      → IsOver placed p (with_said aim number (record { front = front; label = None; says = says }) drafts)
      (above_next front says)
  issue_in front placed p number drafts says gap saying is =
      let draft : Draft = opened drafts.current in
      rw (gap, saying.part (is_beside front) number draft) (record {
        is = record {
          at = record {
            same = is.same;
            named = grind (arith, nat_tests, is.named);
            written = grind (arith, nat_tests, is.written);
            parts = grind (
              arith,
              nat_tests,
              is.parts,
              is.written,
              map-append unlined draft.placed,
              map-append key_of
                  placed,
            );
          };
          filled = ap is_filled saying.above;
        };
        last = saying.above;
      })

  issue_leads : (front : Front) (placed : List Placed) (p : Placed) (number : ℕ) (drafts : Drafts) (above : Above)
      (below : List Line)
      → is_gap front ≡ false → is_misplaced front above ≡ false
      → (is_beside front && precedes (Some p.unit) (unit_above above)) ≡ false
      → IsPlain isa (front_spelling front ++ spelling name p.insn p.unit) front (says_on name p.insn p.unit)
      → IsSayable isa name labels aim p
      → IsIn done label (p.cycle + (if is_beside front then 1 else 0)) placed drafts above
      → length placed < MOST_INSTRUCTIONS → p.cycle + 1 ≤ MOST_CYCLES
      → Leads isa labels aim number drafts above ((front_spelling front ++ spelling name p.insn p.unit) ∷ []) below
      (IsOver placed p)
  issue_leads front placed p number drafts above below gap well order plain sayable is room short =
      let says : Says = says_on name p.insn p.unit in
      let of = saying isa name labels aim p sayable in
      plain_line isa labels aim number drafts above
      (front_spelling front ++ spelling name p.insn p.unit) front says below
      (IsOver placed p) plain (record {
        placed = well;
        known = of.known;
        few = room_is placed (p.cycle + (if is_beside front then 1 else 0)) drafts says is.at room;
        blocks = subst (λ (ds : List Draft). length ds < MOST_BLOCKS) (sym is.at.same) few;
        order = ap (λ (u : Option FunctionalUnit). is_beside front && precedes u (unit_above above)) of.unit ∙ order;
        pauses = of.pauses above;
        gap = gap;
        short = grind (arith, nat_tests, is.at.written, of.added (is_beside front), short);
      }) (issue_in front placed p number drafts says gap of is.at)

-- ---- the cycles of a block

-- each stands behind the one before it in a listing
unfoldable pub AreBehind : Placed → List Placed → Type 0
AreBehind q [] = Unit {0}
AreBehind q (p ∷ placed) = (listing_position q ≤ listing_position p) × AreBehind p placed

module _ (isa : InstructionSet) (name : ℕ → List ℕ) (labels : List Name) (aim : Name
    → ℕ) (done : List Draft) (few : length done < MOST_BLOCKS) (label : Option Name) where
  abbrev In : ℕ → List Placed → Drafts → Above → Type 0
  In cycles placed = IsIn done label cycles placed

  abbrev Over : List Placed → Placed → Drafts → Above → Type 0
  Over placed p = IsOver isa name labels aim done few label placed p

  -- an instruction, with the cycles before it
  placed_by : (b : Bool) (cycles : ℕ) (placed : List Placed) (p : Placed) (number : ℕ) (drafts : Drafts) (above : Above)
      (below : List Line)
      → nat_lt p.cycle cycles ≡ b → IsSayable isa name labels aim p → IsCalm done label cycles placed drafts above
      → (b ≡ true → (unit : FunctionalUnit) × (cycles ≡ p.cycle + 1) × (above ≡ Issue (Some unit))
      × (index_of unit ≤ index_of p.unit))
      → length placed < MOST_INSTRUCTIONS → p.cycle + 1 ≤ MOST_CYCLES → Leads isa labels aim number drafts above
      (if b then (codes "|| " ++ spelling name p.insn p.unit) ∷ [] else idle_lines (p.cycle - cycles) ++
      (codes "   " ++ spelling name p.insn p.unit) ∷ []) below (Over placed p)
  placed_by true cycles placed p number drafts above below less sayable is over room short =
      let unit = over refl in
      let order : precedes (Some p.unit) (unit_above above) ≡ false =
      ap (λ (a : Above). precedes (Some p.unit) (unit_above a)) unit.2
      ∙ le-ltb (index_of p.unit) (index_of unit.0) unit.3 in
      issue_leads isa name labels aim done few label Beside placed p number drafts above below refl
      (ap not (ap is_issue unit.2)) order
      (beside_plain isa name p.insn p.unit sayable.writable.taking sayable.writable.names) sayable
      (subst (λ (c : ℕ). In c placed drafts above) unit.1 is.is) room short
  placed_by false cycles placed p number drafts above below less sayable is over room short =
      let low : cycles ≤ p.cycle = ltb-false p.cycle cycles less in
      let at : cycles + (p.cycle - cycles) ≡ p.cycle + 0 = omega (arith, low) in
      let line : List (List ℕ) = (codes "   " ++ spelling name p.insn p.unit) ∷ [] in
      then_lines isa labels aim number drafts above (idle_lines (p.cycle - cycles)) line below
      (In (cycles + (p.cycle - cycles)) placed)
      (Over placed p)
      (idle_leads isa labels aim done few label placed (p.cycle - cycles) cycles number drafts above
      (map fed line ++ below)
      is
      (omega (arith, at, short)))
      (λ n d a is_in. issue_leads isa name labels aim done few label First placed p n d a below refl refl refl
      (first_plain isa name p.insn p.unit sayable.writable.taking sayable.writable.names) sayable
      (subst (λ (c : ℕ). In c placed d a) at is_in) room short)

  over_calm : (before : List Placed) (q : Placed) (drafts : Drafts) (above : Above) → Over before q drafts above
      → IsCalm done label (q.cycle + 1) (before ++ q ∷ []) drafts above
  over_calm before q drafts above over = record {
    is = over.is;
    calm = ap is_calm over.last;
  }

  -- behind an instruction
  cycles_lead : (rest before : List Placed) (q : Placed) (cycles number : ℕ) (drafts : Drafts) (above : Above)
      (below : List Line)
      → All (IsSayable isa name labels aim) rest → AreBehind q rest → All (λ p. p.cycle + 1 ≤ cycles) rest
      → length before + 1 + length rest ≤ MOST_INSTRUCTIONS
      → cycles ≤ MOST_CYCLES → q.cycle + 1 ≤ cycles → Over before q drafts above
      → Leads isa labels aim number drafts above (cycle_lines name (q.cycle + 1) cycles rest) below
      (In cycles (before ++ q ∷ rest))
  unfolding AreBehind
  cycles_lead [] before q cycles number drafts above below sayable order within room short low over =
      let at : (q.cycle + 1) + (cycles - (q.cycle + 1)) ≡ cycles = omega (arith, low) in
      subst (λ (c : ℕ). Leads isa labels aim number drafts above (idle_lines (cycles - (q.cycle + 1))) below
      (In c (before ++ q ∷ []))) at
      (idle_leads isa labels aim done few label (before ++ q ∷ []) (cycles - (q.cycle + 1)) (q.cycle + 1) number drafts
      above below
      (over_calm before q drafts above over) (omega (arith, at, short)))
  cycles_lead (p ∷ rest) before q cycles number drafts above below sayable order within room short low over =
      let so_far : List Placed = before ++ q ∷ [] in
      let one : length so_far ≡ length before + 1 = length-append before (q ∷ []) in
      let q_small = index_of-below q.unit in
      let p_small = index_of-below p.unit in
      let here : p.cycle + 1 ≤ cycles = within 0 p (omega arith) in
      let same_cycle : nat_lt p.cycle (q.cycle + 1) ≡ true → p.cycle ≡ q.cycle =
      λ less. (let lt = ltb-true p.cycle (q.cycle + 1) less in omega (arith, lt, order.0, q_small, p_small)) in
      let first = placed_by (nat_lt p.cycle (q.cycle + 1)) (q.cycle + 1) so_far p number drafts above
      (map fed (cycle_lines name (p.cycle + 1) cycles rest) ++ below) refl
      (sayable 0 p (omega arith)) (over_calm before q drafts above over)
      (λ less. (q.unit, omega (arith, same_cycle less), over.last, omega (arith, same_cycle less, order.0)))
      (omega (arith, one, room))
      (omega (arith, here, short)) in
      subst (λ (placed : List Placed). Leads isa labels aim number drafts above
      (cycle_lines name (q.cycle + 1) cycles (p ∷ rest)) below
      (In cycles placed)) (append_assoc before (q ∷ []) (p ∷ rest))
      (then_lines isa labels aim number drafts above _ (cycle_lines name (p.cycle + 1) cycles rest) below
      (Over so_far p)
      (In cycles (so_far ++ p ∷ rest)) first
      (λ n d a next. cycles_lead rest so_far p cycles n d a below
      (All-tail (IsSayable isa name labels aim) p rest sayable)
      order.1
      (All-tail (λ (r : Placed). r.cycle + 1 ≤ cycles) p rest within)
      (omega (arith, one, room)) short here next))

  -- from the first cycle
  pub start_leads : (placed : List Placed) (cycles number : ℕ) (drafts : Drafts) (above : Above) (below : List Line)
      → All (IsSayable isa name labels aim) placed
      → ((p : Placed) (rest : List Placed) → placed ≡ p ∷ rest → AreBehind p rest)
      → All (λ p. p.cycle + 1 ≤ cycles) placed → length placed ≤ MOST_INSTRUCTIONS → cycles ≤ MOST_CYCLES
      → IsCalm done label 0 [] drafts above
      → Leads isa labels aim number drafts above (cycle_lines name 0 cycles placed) below (In cycles placed)
  start_leads [] cycles number drafts above below sayable order within room short is =
      let at : 0 + (cycles - 0) ≡ cycles = omega arith in
      subst (λ (c : ℕ). Leads isa labels aim number drafts above (idle_lines (cycles - 0)) below (In c [])) at
      (idle_leads isa labels aim done few label [] (cycles - 0) 0 number drafts above below is (omega (arith, short)))
  start_leads (p ∷ rest) cycles number drafts above below sayable order within room short is =
      let here : p.cycle + 1 ≤ cycles = within 0 p (omega arith) in
      let first = placed_by (nat_lt p.cycle 0) 0 [] p number drafts above
      (map fed (cycle_lines name (p.cycle + 1) cycles rest) ++ below) refl
      (sayable 0 p (omega arith)) is (λ less. (let lt = ltb-true p.cycle 0 less in absurd (omega (arith, lt))))
      (omega arith)
      (omega (arith, here, short)) in
      then_lines isa labels aim number drafts above _ (cycle_lines name (p.cycle + 1) cycles rest) below (Over [] p)
      (In cycles (p ∷ rest)) first
      (λ n d a next. cycles_lead rest [] p cycles n d a below (All-tail (IsSayable isa name labels aim) p rest sayable)
      (order p rest refl)
      (All-tail (λ (r : Placed). r.cycle + 1 ≤ cycles) p rest within)
      (omega (arith, room)) short here next)
