-- Lines that lead on to more, and the idle lines of a block that is being read.
use Rattle.c62_listing_reader.proofs.Common.{arith, ◌≡◌, ℕ, zero, suc, ◌+◌, ◌*◌, ◌/◌, ◌%◌, ◌<◌, ◌≤◌, List, [], ◌∷◌}
use Rattle.c62_listing_reader.proofs.Common.{◌++◌, length, map, Option, None, Bool, true, false, not, refl, sym, ap}
use Rattle.c62_listing_reader.proofs.Common.{◌∙◌, subst, append_assoc, ◌&&◌, nat_le, is_some, is_none, Ok, replicate}
use Rattle.c62_listing_reader.proofs.Common.{lt-leb, nat_tests, map-append, Parts, parts_of, Says, Pause, Name}
use Rattle.c62_listing_reader.proofs.Common.{is_instruction, is_unknown, Placed, pause_line, idle_lines, Front, First}
use Rattle.c62_listing_reader.proofs.Common.{Above, PauseAbove, Line, content, front_of, is_beside, is_gap, rest_of}
use Rattle.c62_listing_reader.proofs.Common.{Said, Part, Draft, Drafts, opened, with_said, above_next, is_filled}
use Rattle.c62_listing_reader.proofs.Common.{is_misplaced, unit_said, unit_above, precedes, goes_on, cycles_added}
use Rattle.c62_listing_reader.proofs.Common.{rest_says, read_lines}
use Rattle.std.proofs.lemmas.Bool.{and_left, and_right}
use Rattle.c62_listing_reader.proofs.DraftLines.{rest_is, rest_line}
use Rattle.c62_listing_reader.proofs.ReadLemmas.{goes_on as reads_on}
use Rattle.c62_listing_reader.proofs.TextLemmas.{fed}
use Rattle.c62_listing_reader.proofs.UntoldLemmas.{IsPlain, fed_content, fed_ended, line_read, pause_plain, untold}
use Rattle.c62_listing_reader.specs.Faults.{line_says}
use Rattle.c62_read.specs.declared.limits.TheConstants.{MOST_BLOCKS, MOST_INSTRUCTIONS}
use Rattle.c62_packet.specs.declared.limits.TheConstants.{MOST_CYCLES}
use Rattle.c62_op.specs.declared.set.InstructionSet.{InstructionSet}

-- ---- lines that lead on

-- reading these lines leads to blocks and a last line that are such
pub record Leads (isa : InstructionSet) (labels : List Name) (aim : Name
    → ℕ) (number : ℕ) (drafts : Drafts) (above : Above) (lines : List (List ℕ)) (below : List Line)
    (Is : Drafts → Above → Type 0) : Type 0 where
  pub end : ℕ
  pub final : Drafts
  pub last : Above
  pub reads : read_lines isa labels aim number drafts above (map fed lines ++ below)
      ≡ read_lines isa labels aim end final last
      below
  pub is : Is final last

pub no_lines : (isa : InstructionSet) (labels : List Name) (aim : Name
    → ℕ) (number : ℕ) (drafts : Drafts) (above : Above) (below : List Line) (Is : Drafts → Above → Type 0)
    → Is drafts above
    → Leads isa labels aim number drafts above [] below Is
no_lines isa labels aim number drafts above below Is is = record
    { end = number; final = drafts; last = above; reads = refl; is = is }

pub then_lines : (isa : InstructionSet) (labels : List Name) (aim : Name
    → ℕ) (number : ℕ) (drafts : Drafts) (above : Above) (lines more : List (List ℕ)) (below : List Line)
    (Is To : Drafts → Above → Type 0) → Leads isa labels aim number drafts above lines (map fed more ++ below) Is
    → ((n : ℕ) (d : Drafts) (a : Above) → Is d a → Leads isa labels aim n d a more below To)
    → Leads isa labels aim number drafts above (lines ++ more) below To
then_lines isa labels aim number drafts above lines more below Is To first next =
    let second = next first.end first.final first.last first.is in
    let reads : read_lines isa labels aim number drafts above (map fed (lines ++ more) ++ below)
    ≡ read_lines isa labels aim second.end second.final second.last below =
    rw (map-append fed lines more, append_assoc (map fed lines) (map fed more) below) (first.reads ∙ second.reads) in
    record { end = second.end; final = second.final; last = second.last; reads = reads; is = second.is }

pub one_line : (isa : InstructionSet) (labels : List Name) (aim : Name
    → ℕ) (number : ℕ) (drafts : Drafts) (above : Above) (bytes : List ℕ) (below : List Line) (said : Said)
    (Is : Drafts → Above → Type 0)
    → line_says isa labels drafts above (fed bytes) below ≡ Ok said
    → Is (with_said aim number said drafts) (above_next said.front said.says)
    → Leads isa labels aim number drafts above (bytes ∷ []) below Is
one_line isa labels aim number drafts above bytes below said Is says is = record {
  end = number + 1;
  final = with_said aim number said drafts;
  last = above_next said.front said.says;
  reads = sym (reads_on isa labels aim number (fed bytes) below (fed bytes ∷ below) drafts above said refl says);
  is = is;
}

-- ---- a line of a block but its label

pub record IsWelcome (labels : List Name) (drafts : Drafts) (above : Above) (front : Front) (says : Says) : Type 0 where
  pub placed : is_misplaced front above ≡ false
  pub known : is_unknown labels says ≡ false
  pub few : (is_instruction says && nat_le MOST_INSTRUCTIONS (length (opened drafts.current).placed)) ≡ false
  pub blocks : length drafts.done < MOST_BLOCKS
  pub order : (is_beside front && precedes (unit_said says) (unit_above above)) ≡ false
  pub pauses : goes_on says above ≡ false
  pub gap : is_gap front ≡ false
  pub short : (opened drafts.current).cycles + cycles_added (is_beside front) says ≤ MOST_CYCLES

plain_said : (isa : InstructionSet) (labels : List Name) (drafts : Drafts) (above : Above) (bytes : List ℕ)
    (front : Front) (says : Says)
    (below : List Line)
    → IsPlain isa bytes front says → IsWelcome labels drafts above front says
    → line_says isa labels drafts above (fed bytes) below ≡ Ok (record { front = front; label = None; says = says })
plain_said isa labels drafts above bytes front says below plain welcome =
    let same : bytes ≡ content (fed bytes) = sym (fed_content bytes plain.allowed) in
    let field = line_read isa (rest_of front bytes) None says plain.line in
    let read : rest_says isa drafts (rest_of front bytes) ≡ Ok (None, says) = rw (plain.line, field.field) refl in
    untold isa labels drafts above (fed bytes) below (record { front = front; label = None; says = says }) (record {
      front = plain.begins ∙ ap front_of same;
      allowed = rw (← same) plain.allowed;
      fits = rw (← same) plain.fits;
      placed = welcome.placed;
      read = rw (← same) read;
      known = welcome.known;
      few = welcome.few;
      begins = and_right (not (is_gap front) && is_none drafts.current) _
          (lt-leb MOST_BLOCKS (length drafts.done) welcome.blocks);
      spelled = rw (← same) plain.spelled;
      ended = fed_ended bytes plain.allowed;
      order = welcome.order;
      pauses = welcome.pauses;
      between = and_left (is_gap front) _ welcome.gap;
      outside = refl;
      short = welcome.short;
    })

pub plain_line : (isa : InstructionSet) (labels : List Name) (aim : Name
    → ℕ) (number : ℕ) (drafts : Drafts) (above : Above) (bytes : List ℕ) (front : Front) (says : Says)
    (below : List Line) (Is : Drafts → Above → Type 0) → IsPlain isa bytes front says
    → IsWelcome labels drafts above front says
    → Is (with_said aim number (record { front = front; label = None; says = says }) drafts) (above_next front says)
    → Leads isa labels aim number drafts above (bytes ∷ []) below Is
plain_line isa labels aim number drafts above bytes front says below Is plain welcome is =
    one_line isa labels aim number drafts above bytes below (record { front = front; label = None; says = says }) Is
    (plain_said isa labels drafts above bytes front says below plain welcome) is

-- ---- a block that is being read

abbrev pub Key : Type 0
Key = Parts × ℕ

abbrev pub unlined : Part → Key
unlined part = (part.parts, part.cycle)

abbrev pub key_of : Placed → Key
key_of p = (parts_of p.insn, p.cycle)

-- the blocks that are over, and the label, the cycles and the instructions of the one that is open
pub record IsAt (done : List Draft) (label : Option Name) (cycles : ℕ) (placed : List Placed) (drafts : Drafts) : Type 0
  where
    pub same : drafts.done ≡ done
    pub named : (opened drafts.current).label ≡ label
    pub written : (opened drafts.current).cycles ≡ cycles
    pub parts : map unlined (opened drafts.current).placed ≡ map key_of placed

-- no pause goes on from the line above
abbrev pub is_calm : Above → Bool
is_calm (PauseAbove n) = nat_le 9 n
is_calm _ = true

calm_pause : (n : ℕ) (above : Above) → is_calm above ≡ true → goes_on (Pause n) above ≡ false
calm_pause n above calm = grind (arith, nat_tests)

-- where the open block is, with the line above
pub record IsIn (done : List Draft) (label : Option Name) (cycles : ℕ) (placed : List Placed) (drafts : Drafts)
    (above : Above) : Type 0 where
  pub at : IsAt done label cycles placed drafts
  pub filled : is_filled above ≡ is_some drafts.current

-- the same behind whole nines
pub record IsCalm (done : List Draft) (label : Option Name) (cycles : ℕ) (placed : List Placed) (drafts : Drafts)
    (above : Above) : Type 0 where
  pub is : IsIn done label cycles placed drafts above
  pub calm : is_calm above ≡ true

module _ (isa : InstructionSet) (labels : List Name) (aim : Name
    → ℕ) (done : List Draft) (few : length done < MOST_BLOCKS) (label : Option Name) (placed : List Placed) where
  pause_leads : (n cycles number : ℕ) (drafts : Drafts) (above : Above) (below : List Line) (Is : Drafts → Above
      → Type 0)
      → IsCalm done label cycles placed drafts above → 1 ≤ n → n ≤ 9 → cycles + n ≤ MOST_CYCLES
      → ((d : Drafts) → IsIn done label (cycles + n) placed d (PauseAbove n) → Is d (PauseAbove n))
      → Leads isa labels aim number drafts above (pause_line n ∷ []) below Is
  pause_leads n cycles number drafts above below Is is some small short then_is =
      let at = is.is.at in
      plain_line isa labels aim number drafts above (pause_line n) First (Pause n) below Is
      (pause_plain isa n some small)
      (record {
        placed = refl;
        known = refl;
        few = refl;
        blocks = subst (λ (ds : List Draft). length ds < MOST_BLOCKS) (sym at.same) few;
        order = refl;
        pauses = calm_pause n above is.calm;
        gap = refl;
        short = omega (arith, at.written, short);
      }) (then_is _ (record {
        at = record { same = at.same; named = at.named; written = ap (λ (c : ℕ). c + n) at.written; parts = at.parts };
        filled = refl;
      }))

  nines_lead : (nines cycles number : ℕ) (drafts : Drafts) (above : Above) (below : List Line)
      → IsCalm done label cycles placed drafts above
      → cycles + 9 * nines ≤ MOST_CYCLES
      → Leads isa labels aim number drafts above (replicate nines (pause_line 9)) below
      (IsCalm done label (cycles + 9 * nines) placed)
  nines_lead zero cycles number drafts above below is short =
      let same : cycles + 9 * 0 ≡ cycles = omega arith in
      rw same (no_lines isa labels aim number drafts above below (IsCalm done label cycles placed) is)
  nines_lead (suc nines) cycles number drafts above below is short =
      let same : cycles + 9 * suc nines ≡ (cycles + 9) + 9 * nines = omega arith in
      then_lines isa labels aim number drafts above (pause_line 9 ∷ []) (replicate nines (pause_line 9)) below
      (IsCalm done label (cycles + 9) placed)
      (IsCalm done label (cycles + 9 * suc nines) placed)
      (pause_leads 9 cycles number drafts above (map fed (replicate nines (pause_line 9)) ++ below)
      (IsCalm done label (cycles + 9) placed) is
      (omega arith) (omega arith) (omega (arith, short)) (λ d at. record { is = at; calm = refl }))
      (λ n d a at. rw same (nines_lead nines (cycles + 9) n d a below at (omega (arith, short))))

  rest_leads : (rest cycles number : ℕ) (drafts : Drafts) (above : Above) (below : List Line)
      → IsCalm done label cycles placed drafts above
      → rest < 9 → cycles + rest ≤ MOST_CYCLES
      → Leads isa labels aim number drafts above (rest_line rest) below (IsIn done label (cycles + rest) placed)
  rest_leads zero cycles number drafts above below is small short =
      let same : cycles + 0 ≡ cycles = omega arith in
      rw same (no_lines isa labels aim number drafts above below (IsIn done label cycles placed) is.is)
  rest_leads (suc rest) cycles number drafts above below is small short =
      let some : 1 ≤ suc rest = omega arith in
      rw (rest_is (suc rest) some)
      (pause_leads (suc rest) cycles number drafts above below (IsIn done label (cycles + suc rest) placed) is
      some (omega (arith, small)) short (λ d at. at))

  -- cycles without instructions
  pub idle_leads : (idle cycles number : ℕ) (drafts : Drafts) (above : Above) (below : List Line)
      → IsCalm done label cycles placed drafts above
      → cycles + idle ≤ MOST_CYCLES
      → Leads isa labels aim number drafts above (idle_lines idle) below (IsIn done label (cycles + idle) placed)
  idle_leads idle cycles number drafts above below is short =
      let nines : ℕ = idle / 9 in
      let rest : ℕ = idle % 9 in
      let all : (cycles + 9 * nines) + rest ≡ cycles + idle = omega arith in
      then_lines isa labels aim number drafts above (replicate nines (pause_line 9)) (rest_line rest) below
      (IsCalm done label (cycles + 9 * nines) placed) (IsIn done label (cycles + idle) placed)
      (nines_lead nines cycles number drafts above (map fed (rest_line rest) ++ below) is (omega (arith, short)))
      (λ n d a at. subst (λ (c : ℕ). Leads isa labels aim n d a (rest_line rest) below (IsIn done label c placed)) all
      (rest_leads rest (cycles + 9 * nines) n d a below at (omega arith) (omega (arith, all, short))))
