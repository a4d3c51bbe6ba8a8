-- What a line says that is told: a part of a block, or its first fault.
use Rattle.c62_listing_reader.proofs.Common.{arith, ◌≡◌, ℕ, ◌+◌, ◌≤◌, List, [], ◌∷◌, length, Option, Some, None, Bool}
use Rattle.c62_listing_reader.proofs.Common.{true, false, not, refl, subst, ◌&&◌, nat_le, nat_lt, if◌then◌else◌}
use Rattle.c62_listing_reader.proofs.Common.{is_some, is_none, Result, Ok, Err, list_all, nat_tests, Cause, is_allowed}
use Rattle.c62_listing_reader.proofs.Common.{Says, Name, is_instruction, is_unknown, LineFault, Front, Above, Line}
use Rattle.c62_listing_reader.proofs.Common.{content, is_ended, front_of, is_beside, is_gap, rest_of, Said, Drafts}
use Rattle.c62_listing_reader.proofs.Common.{opened, with_said, above_next, spelled_line, is_text, unit_said}
use Rattle.c62_listing_reader.proofs.Common.{unit_above, precedes, goes_on, is_misplaced, cycles_added, is_alone}
use Rattle.c62_listing_reader.proofs.Common.{rest_says, and_then}
use Rattle.c62_listing_reader.specs.Faults.{hindrance, is_unfit, is_odd, unless_odd, unless_hindered, with_rest}
use Rattle.c62_listing_reader.specs.Faults.{line_says, read_lines}
use Rattle.c62_listing_reader.proofs.PauseLemmas.{short}
use Rattle.c62_line.specs.declared.limits.TheConstants.{MOST_LINE}
use Rattle.c62_read.specs.declared.limits.TheConstants.{MOST_BLOCKS, MOST_INSTRUCTIONS}
use Rattle.c62_packet.specs.declared.limits.TheConstants.{MOST_CYCLES}
use Rattle.c62_op.specs.declared.set.InstructionSet.{InstructionSet}

-- all that is asked of a line
pub record IsTold (isa : InstructionSet) (labels : List Name) (drafts : Drafts) (above : Above) (line : Line)
    (below : List Line)
    (said : Said) : Type 0 where
  pub front : said.front ≡ front_of (content line)
  pub allowed : list_all is_allowed (content line) ≡ true
  pub fits : length (content line) ≤ MOST_LINE
  pub placed : is_misplaced said.front above ≡ false
  pub read : rest_says isa drafts (rest_of said.front (content line)) ≡ Ok (said.label, said.says)
  pub known : is_unknown labels said.says ≡ false
  pub few : (is_instruction said.says && nat_le MOST_INSTRUCTIONS (length (opened drafts.current).placed)) ≡ false
  pub begins : (not (is_gap said.front) && is_none drafts.current && nat_le MOST_BLOCKS (length drafts.done)) ≡ false
  pub spelled : is_text (content line) (spelled_line said.front said.label said.says) ≡ true
  pub ended : is_ended line ≡ true
  pub order : (is_beside said.front && precedes (unit_said said.says) (unit_above above)) ≡ false
  pub pauses : goes_on said.says above ≡ false
  pub between : is_alone said.front above below ≡ false
  pub outside : (is_some said.label && is_some drafts.current) ≡ false
  pub short : (opened drafts.current).cycles + cycles_added (is_beside said.front) said.says ≤ MOST_CYCLES

pub if_err : {T E : Type 0} (b : Bool) (e : E) (y : Result T E) (s : T) → (if b then Err e else y) ≡ Ok s → (b ≡ false)
    × (y ≡ Ok s)
if_err b e y s h = grind arith

if_some : {T : Type 0} (b : Bool) (x : T) (y : Option T) → (if b then Some x else y) ≡ None → (b ≡ false) × (y ≡ None)
if_some b x y h = grind arith

if_true : (b y : Bool) → (if b then true else y) ≡ false → (b ≡ false) × (y ≡ false)
if_true b y h = grind arith

hindered : (o : Option Cause) (r : Result Said LineFault) (s : Said) → unless_hindered o r ≡ Ok s → (o ≡ None)
    × (r ≡ Ok s)
hindered o r s h = grind arith

unodd : (b : Bool) (x s : Said) → unless_odd b x ≡ Ok s → (b ≡ false) × (x ≡ s)
unodd b x s h = grind arith

pub not_false : (b : Bool) → not b ≡ false → b ≡ true
not_false b h = grind arith

rest_told : (isa : InstructionSet) (labels : List Name) (drafts : Drafts) (above : Above) (line : Line)
    (below : List Line) (front : Front)
    (read : Result (Option Name × Says) Cause) (said : Said)
    → front ≡ front_of (content line) → list_all is_allowed (content line) ≡ true
    → nat_lt MOST_LINE (length (content line)) ≡ false
    → is_misplaced front above ≡ false
    → rest_says isa drafts (rest_of front (content line)) ≡ read
    → with_rest labels drafts above line below front read ≡ Ok said
    → IsTold isa labels drafts above line below said
rest_told isa labels drafts above line below front (Err cause) said is allowed fits placed from h = absurd cc
rest_told isa labels drafts above line below front (Ok (label, says)) said is allowed fits placed from h =
    let one = hindered (hindrance labels drafts front says)
    (unless_odd (is_odd drafts above line below front label says)
    (record { front = front; label = label; says = says })) said h in
    let known = if_some (is_unknown labels says) _ _ one.0 in
    let few = if_some (is_instruction says && nat_le MOST_INSTRUCTIONS (length (opened drafts.current).placed)) _ _
    known.1 in
    let begins = if_some (not (is_gap front) && is_none drafts.current && nat_le MOST_BLOCKS (length drafts.done)) _ _
    few.1 in
    let two = unodd (is_odd drafts above line below front label says)
    (record { front = front; label = label; says = says }) said one.1 in
    let spelled = if_true (not (is_text (content line) (spelled_line front label says)))
    (is_unfit drafts above line below front label says) two.0 in
    let ended = if_true (not (is_ended line)) _ spelled.1 in
    let falls = if_true (is_beside front && precedes (unit_said says) (unit_above above)) _ ended.1 in
    let goes = if_true (goes_on says above) _ falls.1 in
    let alone = if_true (is_alone front above below) _ goes.1 in
    let inside = if_true (is_some label && is_some drafts.current) _ alone.1 in
    let long : nat_lt MOST_CYCLES ((opened drafts.current).cycles + cycles_added (is_beside front) says) ≡ false =
    inside.1 in
    subst (IsTold isa labels drafts above line below) two.1 (record {
      front = is;
      allowed = allowed;
      fits = grind (arith, nat_tests);
      placed = placed;
      read = from;
      known = known.0;
      few = few.0;
      begins = begins.0;
      spelled = not_false (is_text (content line) (spelled_line front label says)) spelled.0;
      ended = not_false (is_ended line) ended.0;
      order = falls.0;
      pauses = goes.0;
      between = alone.0;
      outside = inside.0;
      short = grind (arith, nat_tests);
    })

pub told : (isa : InstructionSet) (labels : List Name) (drafts : Drafts) (above : Above) (line : Line)
    (below : List Line) (said : Said)
    → line_says isa labels drafts above line below ≡ Ok said → IsTold isa labels drafts above line below said
unfolding line_says
told isa labels drafts above line below said h =
    let allowed = if_err (not (list_all is_allowed (content line))) _ _ said h in
    let short = if_err (nat_lt MOST_LINE (length (content line))) _ _ said allowed.1 in
    let placed = if_err (is_misplaced (front_of (content line)) above) _ _ said short.1 in
    rest_told isa labels drafts above line below (front_of (content line))
    (rest_says isa drafts (rest_of (front_of (content line)) (content line))) said refl
    (not_false (list_all is_allowed (content line)) allowed.0) short.0 placed.0 refl placed.1

-- ---- the first of more lines

pub record IsBegun (isa : InstructionSet) (labels : List Name) (aim : Name
    → ℕ) (number : ℕ) (drafts : Drafts) (above : Above) (line : Line) (below : List Line)
    (final : Drafts) : Type 0 where
  pub said : Said
  pub is : IsTold isa labels drafts above line below said
  pub others : read_lines isa labels aim (number + 1) (with_said aim number said drafts)
      (above_next said.front said.says)
      below ≡ Ok final

begun_by : (isa : InstructionSet) (labels : List Name) (aim : Name
    → ℕ) (number : ℕ) (drafts : Drafts) (above : Above) (line : Line) (below : List Line) (final : Drafts)
    (says : Result Said LineFault) → line_says isa labels drafts above line below ≡ says
    → and_then number says
    (λ said. read_lines isa labels aim (number + 1) (with_said aim number said drafts)
    (above_next said.front said.says) below)
    ≡ Ok final
    → IsBegun isa labels aim number drafts above line below final
begun_by isa labels aim number drafts above line below final (Err fault) says h = absurd cc
begun_by isa labels aim number drafts above line below final (Ok said) says h =
    record { said = said; is = told isa labels drafts above line below said says; others = h }

pub begun : (isa : InstructionSet) (labels : List Name) (aim : Name
    → ℕ) (number : ℕ) (drafts : Drafts) (above : Above) (line : Line) (below : List Line) (final : Drafts)
    → read_lines isa labels aim number drafts above (line ∷ below) ≡ Ok final
    → IsBegun isa labels aim number drafts above line below final
unfolding read_lines
begun isa labels aim number drafts above line below final h =
    begun_by isa labels aim number drafts above line below final (line_says isa labels drafts above line below) refl h

pub over : (isa : InstructionSet) (labels : List Name) (aim : Name → ℕ) (number : ℕ) (drafts : Drafts) (above : Above)
    (final : Drafts)
    → read_lines isa labels aim number drafts above [] ≡ Ok final
    → drafts ≡ final
unfolding read_lines
over isa labels aim number drafts above final h = cc
