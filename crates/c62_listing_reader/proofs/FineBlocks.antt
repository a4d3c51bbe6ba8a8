-- What holds of the blocks that lines without faults say.
use Rattle.c62_listing_reader.proofs.Common.{arith, ◌≡◌, ℕ, ◌+◌, ◌-◌, ◌<◌, ◌≤◌, List, [], ◌∷◌, ◌++◌, length, get_or}
use Rattle.c62_listing_reader.proofs.Common.{Option, Some, None, Bool, true}
use Rattle.c62_listing_reader.proofs.Common.{false, refl, sym, ap, ◌∙◌, subst, length-append, append-nil, ◌&&◌, nat_le}
use Rattle.c62_listing_reader.proofs.Common.{if◌then◌else◌, is_some, All}
use Rattle.c62_listing_reader.proofs.Common.{option_to_list, false≢true, nat_tests, none-some, All-nil, FunctionalUnit}
use Rattle.c62_listing_reader.proofs.Common.{index_of-below, Says, Nothing}
use Rattle.c62_listing_reader.proofs.Common.{Pause, Does, Jumps, Parts, Name, is_instruction, Front, Above, Start}
use Rattle.c62_listing_reader.proofs.Common.{PauseAbove, Issue, Line, content}
use Rattle.c62_listing_reader.proofs.Common.{is_gap, is_beside, Said, Part, Draft, Drafts, all_drafts, opened}
use Rattle.c62_listing_reader.proofs.Common.{with_part, with_pause, with_label}
use Rattle.c62_listing_reader.proofs.Common.{with_says, with_line, with_said, ended, above_of, above_next, jump_to}
use Rattle.c62_listing_reader.proofs.Common.{spelled_line, is_text, is_issue}
use Rattle.c62_listing_reader.proofs.Common.{unit_said, unit_above, precedes, is_misplaced, cycles_added, unit_index}
use Rattle.c62_listing_reader.proofs.Common.{part_position, IsFine}
use Rattle.std.proofs.Math.Seq.{get_or-append_seam}
use Rattle.std.proofs.lemmas.Option.{same_Some}
use Rattle.std.proofs.lemmas.List.Elements.{All-push, All-weaker}
use Rattle.std.proofs.lemmas.List.Sorted.{IsNonDecreasingBy-push, IsNonDecreasingBy-short}
use Rattle.c62_listing_reader.specs.declared.line.Above.TheVariants.{Heading}
use Rattle.c62_listing_reader.specs.Reading.{HasUnit}
use Rattle.c62_listing_reader.proofs.ToldLemmas.{IsTold}
use Rattle.c62_read.specs.declared.limits.TheConstants.{MOST_BLOCKS, MOST_INSTRUCTIONS}
use Rattle.c62_packet.specs.declared.limits.TheConstants.{MOST_CYCLES}
use Rattle.c62_op.specs.declared.set.InstructionSet.{InstructionSet}

-- the last instruction is the one that the line above says, and stands in the last cycle written
pub record EndsWith (unit : Option FunctionalUnit) (draft : Draft) : Type 0 where
  pub before : List Part
  pub last : Part
  pub is : draft.placed ≡ before ++ last ∷ []
  pub cycle : last.cycle + 1 ≡ draft.cycles
  pub same : last.parts.unit ≡ unit

unfoldable pub Follows : Above → Draft → Type 0
Follows (Issue unit) draft = EndsWith unit draft
Follows _ draft = Unit {0}

empty_fine : IsFine (opened None)
empty_fine = record {
  few = omega arith;
  short = omega arith;
  below = All-nil (λ (part : Part). part.cycle < 0);
  ordered = IsNonDecreasingBy-short part_position [] (omega arith);
  units = All-nil (λ (part : Part). is_some part.parts.unit ≡ true);
}

unit_small : (unit : Option FunctionalUnit) → unit_index unit < 8
unit_small None = omega arith
unit_small (Some unit) = index_of-below unit

label_fine : (label : Option Name) (draft : Draft) → IsFine draft → IsFine (with_label label draft)
label_fine None draft fine = fine
label_fine (Some label) draft fine =
    record { few = fine.few; short = fine.short; below = fine.below; ordered = fine.ordered; units = fine.units }

pause_fine : (n : ℕ) (draft : Draft) → draft.cycles + n ≤ MOST_CYCLES → IsFine draft → IsFine (with_pause n draft)
pause_fine n draft le fine = record {
  few = fine.few;
  short = le;
  below = λ i d within. omega (arith, fine.below i d within);
  ordered = fine.ordered;
  units = fine.units;
}

not_before : (unit above : Option FunctionalUnit) → is_some unit ≡ true → is_some above ≡ true
    → precedes unit above ≡ false
    → unit_index above ≤ unit_index unit
not_before unit above u a h = grind (arith, nat_tests)

-- beside another an instruction stands in the last cycle, behind the last one, and by itself in a new one
part_fine : (beside : Bool) (parts : Parts) (line : ℕ) (above : Option FunctionalUnit) (draft : Draft) → IsFine draft
    → (beside ≡ true → EndsWith above draft) → length draft.placed < MOST_INSTRUCTIONS
    → draft.cycles + (if beside then 0 else 1) ≤ MOST_CYCLES
    → is_some parts.unit ≡ true → (beside && precedes parts.unit above) ≡ false
    → IsFine (with_part beside parts line draft)
part_fine true parts line above draft fine ends_so few short unit order =
    let ends = ends_so refl in
    let new : Part = record { parts = parts; line = line; cycle = draft.cycles - 1 } in
    let count : length draft.placed ≡ length ends.before + 1 = ap length ends.is
    ∙ length-append ends.before (ends.last ∷ []) in
    let at_last : (d : Part) → get_or draft.placed (length draft.placed - 1) d ≡ ends.last = λ d.
    let place : length draft.placed - 1 ≡ length ends.before = omega (arith, count) in
    rw (place, ends.is) (get_or-append_seam ends.before ends.last [] d) in
    let last_unit : is_some ends.last.parts.unit ≡ true =
    rw (at_last ends.last) at (fine.units (length draft.placed - 1) ends.last (omega (arith, count))) in
    let higher : unit_index ends.last.parts.unit ≤ unit_index parts.unit =
    not_before parts.unit ends.last.parts.unit unit last_unit (ap (precedes parts.unit) ends.same ∙ order) in
    record {
      few = rw (length-append draft.placed (new ∷ [])) (omega (arith, few));
      short = fine.short;
      below = All-push (λ (part : Part). part.cycle < draft.cycles) draft.placed new fine.below
          (omega (arith, ends.cycle));
      ordered = IsNonDecreasingBy-push part_position draft.placed new fine.ordered
          (λ d more. rw (at_last d) (omega (arith, higher, ends.cycle)));
      units = All-push (λ (part : Part). is_some part.parts.unit ≡ true) draft.placed new fine.units unit;
    }
part_fine false parts line above draft fine ends few short unit order =
    let new : Part = record { parts = parts; line = line; cycle = draft.cycles } in
    record {
      few = rw (length-append draft.placed (new ∷ [])) (omega (arith, few));
      short = short;
      below = All-push (λ (part : Part). part.cycle < draft.cycles + 1) draft.placed new
          (All-weaker (λ (part : Part). part.cycle < draft.cycles) (λ (part : Part). part.cycle < draft.cycles + 1)
          (λ part lt. omega (arith, lt)) draft.placed fine.below)
          (omega arith);
      ordered = IsNonDecreasingBy-push part_position draft.placed new fine.ordered (λ d some.
          let last : Part = get_or draft.placed (length draft.placed - 1) d in
          omega (arith, fine.below (length draft.placed - 1) d (omega (arith, some)), unit_small last.parts.unit));
      units = All-push (λ (part : Part). is_some part.parts.unit ≡ true) draft.placed new fine.units unit;
    }

-- an instruction that was added is the last
part_last : (beside : Bool) (parts : Parts) (line : ℕ) (draft : Draft) → (beside ≡ true → 0 < draft.cycles)
    → EndsWith parts.unit (with_part beside parts line draft)
part_last true parts line draft some =
    let last : Part = record { parts = parts; line = line; cycle = draft.cycles - 1 } in
    record { before = draft.placed; last = last; is = refl; cycle = omega (arith, some refl); same = refl }
part_last false parts line draft some =
    let last : Part = record { parts = parts; line = line; cycle = draft.cycles } in
    record { before = draft.placed; last = last; is = refl; cycle = refl; same = refl }

-- ---- what a line without faults fulfils

pub has_unit : (bytes : List ℕ) (front : Front) (label : Option Name) (says : Says)
    → is_text bytes (spelled_line front label says) ≡ true
    → HasUnit says
has_unit bytes front label says h = grind (arith, nat_tests)

-- ---- the blocks, line by line

pub record IsGoing (drafts : Drafts) (above : Above) : Type 0 where
  pub done : All IsFine drafts.done
  pub current : (draft : Draft) → drafts.current ≡ Some draft → IsFine draft × Follows above draft
  pub closed : drafts.current ≡ None → is_issue above ≡ false
  pub few : length (all_drafts drafts) ≤ MOST_BLOCKS

pub opened_fine : (current : Option Draft) → ((draft : Draft) → current ≡ Some draft → IsFine draft)
    → IsFine (opened current)
opened_fine None fine = empty_fine
opened_fine (Some draft) fine = fine draft refl

all_fine : (done : List Draft) (current : Option Draft) → All IsFine done
    → ((draft : Draft) → current ≡ Some draft → IsFine draft)
    → All IsFine (done ++ option_to_list current)
all_fine done None fine last = rw append-nil fine
all_fine done (Some draft) fine last = All-push IsFine done draft fine (last draft refl)

-- what is said goes on with a block
says_fine : (aim : Name → ℕ) (beside : Bool) (line : ℕ) (says : Says) (above : Option FunctionalUnit) (draft : Draft)
    → IsFine draft
    → (beside ≡ true → EndsWith above draft)
    → (is_instruction says && nat_le MOST_INSTRUCTIONS (length draft.placed)) ≡ false
    → draft.cycles + cycles_added beside says ≤ MOST_CYCLES → HasUnit says
    → (beside && precedes (unit_said says) above) ≡ false
    → IsFine (with_says aim beside line says draft)
says_fine aim beside line Nothing above draft fine ends few short unit order = fine
says_fine aim beside line (Pause n) above draft fine ends few short unit order = pause_fine n draft short fine
says_fine aim beside line (Does parts) above draft fine ends few short unit order =
    part_fine beside parts line above draft fine ends (grind (arith, nat_tests)) short unit order
says_fine aim beside line (Jumps parts target) above draft fine ends few short unit order =
    part_fine beside (jump_to aim parts target) line above draft fine ends (grind (arith, nat_tests)) short unit order

says_follows : (aim : Name → ℕ) (beside : Bool) (line : ℕ) (says : Says) (draft : Draft)
    → (beside ≡ true → 0 < draft.cycles)
    → Follows (above_of says) (with_says aim beside line says draft)
unfolding Follows
says_follows aim beside line Nothing draft some = tt
says_follows aim beside line (Pause n) draft some = tt
says_follows aim beside line (Does parts) draft some = part_last beside parts line draft some
says_follows aim beside line (Jumps parts target) draft some = part_last beside (jump_to aim parts target) line draft
    some

-- an instruction beside the one of the line above
issue_ends : (above : Above) (draft : Draft) → is_issue above ≡ true → Follows above draft
    → EndsWith (unit_above above) draft
unfolding Follows
issue_ends (Issue unit) draft is ends = ends
issue_ends Start draft is ends = absurd (false≢true is)
issue_ends Heading draft is ends = absurd (false≢true is)
issue_ends (PauseAbove n) draft is ends = absurd (false≢true is)

beside_issue : (front : Front) (above : Above) → is_misplaced front above ≡ false → is_beside front ≡ true
    → is_issue above ≡ true
beside_issue front above placed is = grind (arith, nat_tests)

-- the block that a line beside another goes on with ends with the instruction of the line above
pub beside_ends : (front : Front) (label : Option Name) (current : Option Draft) (above : Above)
    → is_misplaced front above ≡ false
    → (is_some label && is_some current) ≡ false → (current ≡ None → is_issue above ≡ false)
    → ((draft : Draft) → current ≡ Some draft → Follows above draft) → is_beside front ≡ true
    → EndsWith (unit_above above) (with_label label (opened current))
beside_ends front label None above placed outside closed follows is =
    absurd (false≢true (sym (closed refl) ∙ beside_issue front above placed is))
beside_ends front (Some label) (Some draft) above placed outside closed follows is = absurd (false≢true (sym outside))
beside_ends front None (Some draft) above placed outside closed follows is =
    issue_ends above draft (beside_issue front above placed is) (follows draft refl)

pub go : (isa : InstructionSet) (labels : List Name) (aim : Name
    → ℕ) (number : ℕ) (said : Said) (drafts : Drafts) (above : Above) (line : Line) (below : List Line)
    → IsGoing drafts above → IsTold isa labels drafts above line below said
    → IsGoing (with_said aim number said drafts) (above_next said.front said.says)
go isa labels aim number said drafts above line below going is = by_gap (is_gap said.front) refl
  where
    by_gap : (gap : Bool) → is_gap said.front ≡ gap
        → IsGoing (if gap then ended drafts else record
        { done = drafts.done; current = Some (with_line aim number said (opened drafts.current)) })
        (if gap then Start else above_of said.says)
    by_gap true gap = record {
      done = all_fine drafts.done drafts.current going.done (λ draft e. (going.current draft e).0);
      current = λ draft e. absurd (none-some draft e);
      closed = λ e. refl;
      few = rw (append-nil (all_drafts drafts)) going.few;
    }
    by_gap false gap =
        let beside : Bool = is_beside said.front in
        let block : Draft = with_label said.label (opened drafts.current) in
        let next : Draft = with_says aim beside number said.says block in
        let fine : IsFine block = label_fine said.label (opened drafts.current)
        (opened_fine drafts.current (λ draft e. (going.current draft e).0)) in
        let ends = beside_ends said.front said.label drafts.current above is.placed is.outside going.closed
        (λ draft e. (going.current draft e).1) in
        let few : (is_instruction said.says && nat_le MOST_INSTRUCTIONS (length block.placed)) ≡ false = grind
        (arith, nat_tests, is.few) in
        let short : block.cycles + cycles_added beside said.says ≤ MOST_CYCLES = grind (arith, nat_tests, is.short) in
        let unit = has_unit (content line) said.front said.label said.says is.spelled in
        record {
          done = going.done;
          current = λ draft e. subst (λ (d : Draft). IsFine d
              × Follows (above_of said.says) d) (same_Some next draft e) (
                says_fine aim beside number said.says (unit_above above) block fine ends few short unit is.order,
                says_follows aim beside number said.says block (λ is. omega (arith, (ends is).cycle)),
              );
          closed = λ e. absurd (none-some next (sym e));
          few = grind (arith, nat_tests, going.few, is.begins, gap, length-append {A = Draft});
        }

pub go-start : IsGoing (record { done = []; current = None }) Start
go-start = record {
  done = All-nil IsFine;
  current = λ draft e. absurd (none-some draft e);
  closed = λ e. refl;
  few = omega arith;
}

pub all-fine : (drafts : Drafts) (above : Above) → IsGoing drafts above → All IsFine (all_drafts drafts)
all-fine drafts above going = all_fine drafts.done drafts.current going.done (λ draft e. (going.current draft e).0)
