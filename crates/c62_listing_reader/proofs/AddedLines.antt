-- What a line of a listing adds to the lines of its block.
use Rattle.c62_listing_reader.proofs.Common.{arith, ◌≡◌, ℕ, ◌-◌, ◌%◌, ◌<◌, ◌≤◌, List, [], ◌++◌, Option, Some, None}
use Rattle.c62_listing_reader.proofs.Common.{Bool, true, false, refl, sym, ◌&&◌, is_some, codes, false≢true, nat_tests}
use Rattle.c62_listing_reader.proofs.Common.{bytes_eq-Decides, FunctionalUnit, Parts, Says, Nothing, Pause, Does, Jumps}
use Rattle.c62_listing_reader.proofs.Common.{Name, is_among, is_unknown, IsProper, pause_line, Front, Above, is_beside}
use Rattle.c62_listing_reader.proofs.Common.{is_gap, Part, Draft, opened, with_part, with_label, with_says, above_of}
use Rattle.c62_listing_reader.proofs.Common.{jump_to, parts_spelling, front_spelling, spelled_line, is_text, goes_on}
use Rattle.c62_listing_reader.proofs.Common.{IsShort}
use Rattle.c62_listing_reader.specs.Said.{issue_line, empty_line}
use Rattle.c62_listing_reader.proofs.ToldLemmas.{not_false}
use Rattle.c62_listing_reader.proofs.FineBlocks.{go}
use Rattle.c62_listing_reader.proofs.NamedLemmas.{aims}
use Rattle.c62_listing_reader.proofs.DraftLines.{part_text, idle_of, next_last, does_text, jumps_text, Adds, pause_adds}
use Rattle.c62_listing_reader.proofs.DraftLines.{first_adds, beside_adds}
use Rattle.c62_op.specs.declared.set.InstructionSet.{InstructionSet}
unfoldable use Rattle.c62_listing_reader.proofs.DraftLines.{head_lines, next_after}

-- ---- a line of a block

same_text : (bytes text : List ℕ) → is_text bytes (Some text) ≡ true → bytes ≡ text
same_text bytes text is = (bytes_eq-Decides bytes text).0 is

plain_front : (front : Front) → is_beside front ≡ false → front_spelling front ≡ codes "   "
plain_front front is = grind (arith, nat_tests)

beside_front : (front : Front) → is_beside front ≡ true → front_spelling front ≡ codes "|| "
beside_front front is = grind (arith, nat_tests)

-- what is known of the block that a line goes on with
pub record IsReady (front : Front) (draft : Draft) : Type 0 where
  pub low : next_after 0 draft.placed ≤ draft.cycles
  pub full : is_beside front ≡ true → (next_after 0 draft.placed ≡ draft.cycles) × (0 < draft.cycles)

issue_adds : InstructionSet → (name : ℕ
    → List ℕ) (front : Front) (number : ℕ) (draft : Draft) (said parts : Parts) (target : Name) (bytes : List ℕ)
    → IsReady front draft → is_text bytes (issue_line front target said said.unit) ≡ true → parts.unit ≡ said.unit
    → ((unit : FunctionalUnit) → parts_spelling (λ _. target) said unit ≡ parts_spelling name parts unit)
    → Adds name draft bytes (with_part (is_beside front) parts number draft)
issue_adds isa name front number draft said parts target bytes ready spelled unit text =
    go said.unit refl (is_beside front)
    refl
  where
    go : (found : Option FunctionalUnit) → said.unit ≡ found → (beside : Bool) → is_beside front ≡ beside
        → Adds name draft bytes (with_part beside parts number draft)
    go None is beside at = absurd (false≢true (rw is at spelled))
    go (Some u) is true at =
        let part : Part = record { parts = parts; line = number; cycle = draft.cycles - 1 } in
        let line = same_text bytes _ (rw (is, beside_front front at) at spelled) in
        let own : part_text name part ≡ parts_spelling name parts u = rw (unit, is) refl in
        let full = ready.full at in
        rw (line, text u, ← own) (beside_adds name draft part (omega (arith, full.1)) full.0)
    go (Some u) is false at =
        let part : Part = record { parts = parts; line = number; cycle = draft.cycles } in
        let line = same_text bytes _ (rw (is, plain_front front at) at spelled) in
        let own : part_text name part ≡ parts_spelling name parts u = rw (unit, is) refl in
        rw (line, text u, ← own) (first_adds name draft part refl ready.low)

-- what a line adds, and that it leaves whole nines of cycles without instructions where a pause may follow
pub record GoesOn (name : ℕ → List ℕ) (says : Says) (bytes : List ℕ) (old new : Draft) : Type 0 where
  pub adds : Adds name old bytes new
  pub idle : goes_on (Pause 0) (above_of says) ≡ false → idle_of new % 9 ≡ 0

pub nothing_idle : (label : Option Name) → idle_of (with_label label (opened None)) % 9 ≡ 0
unfolding next_after
nothing_idle label = grind arith

part_idle : (beside : Bool) (parts : Parts) (number : ℕ) (draft : Draft) → (beside ≡ true → 0 < draft.cycles)
    → idle_of (with_part beside parts number draft) % 9 ≡ 0
part_idle true parts number draft some = omega (arith, next_last, some refl)
part_idle false parts number draft some = omega (arith, next_last)

nothing_said : (front : Front) (bytes : List ℕ) → is_gap front ≡ false → is_text bytes (empty_line front) ≡ true → ⊥
nothing_said front bytes gap spelled = grind (arith, nat_tests)

module _ (isa : InstructionSet) (name : ℕ → List ℕ) (labels : List Name) (aim : Name → ℕ)
    (aims : (target : Name) → is_among target labels ≡ true → name (aim target) ≡ target) where
  -- a line that goes on with a block
  plain_on : (front : Front) (number : ℕ) (says : Says) (draft : Draft) (above : Above) (bytes : List ℕ)
      → is_gap front ≡ false
      → is_text bytes (spelled_line front None says) ≡ true → IsShort says → IsProper says
      → is_unknown labels says ≡ false
      → goes_on says above ≡ false → (goes_on (Pause 0) above ≡ false → idle_of draft % 9 ≡ 0) → IsReady front draft
      → GoesOn name says bytes draft (with_says aim (is_beside front) number says draft)
  plain_on front number Nothing draft above bytes gap spelled short proper known pauses idle ready = absurd
      (nothing_said front bytes gap spelled)
  plain_on front number (Pause n) draft above bytes gap spelled short proper known pauses idle ready = record {
    adds = rw (same_text bytes (pause_line n) spelled)
        (pause_adds name n draft ready.low (idle pauses) short.0 short.1);
    idle = λ next. (let more : 9 ≤ n = grind (arith, nat_tests) in omega
        (arith, idle pauses, ready.low, more, short.1));
  }
  plain_on front number (Does parts) draft above bytes gap spelled short proper known pauses idle ready = record {
    adds = issue_adds isa name front number draft parts parts [] bytes ready spelled refl
        (λ unit. does_text (λ _. []) name parts unit proper);
    idle = λ next. part_idle (is_beside front) parts number draft (λ beside. (ready.full beside).1);
  }
  plain_on front at (Jumps parts target) draft above bytes gap spelled short proper known pauses idle ready = record {
    adds = issue_adds isa name front at draft parts (jump_to aim parts target) target bytes ready spelled refl
        (λ unit. jumps_text name aim parts target unit proper.1
        (aims target (not_false (is_among target labels) known)));
    idle = λ next. part_idle (is_beside front) (jump_to aim parts target) at draft
        (λ beside. (ready.full beside).1);
  }

  label_on : (front : Front) (number : ℕ) (label : Name) (says : Says) (bytes : List ℕ)
      → is_text bytes (spelled_line front (Some label) says) ≡ true
      → GoesOn name says bytes (opened None)
      (with_says aim (is_beside front) number says (with_label (Some label) (opened None)))
  unfolding head_lines next_after
  label_on front number label says bytes spelled = record {
    adds = grind (arith, nat_tests, same_text bytes (label ++ codes ":"));
    idle = λ next. grind (arith, nat_tests);
  }

  pub block_on : (front : Front) (number : ℕ) (label : Option Name) (says : Says) (current : Option Draft)
      (above : Above)
      (bytes : List ℕ)
      → is_gap front ≡ false → is_text bytes (spelled_line front label says) ≡ true → IsShort says → IsProper says
      → is_unknown labels says ≡ false → goes_on says above ≡ false
      → (goes_on (Pause 0) above ≡ false → idle_of (opened current) % 9 ≡ 0) → IsReady front (opened current)
      → (is_some label && is_some current) ≡ false
      → GoesOn name says bytes (opened current)
      (with_says aim (is_beside front) number says (with_label label (opened current)))
  block_on front number None says current above bytes gap spelled short proper known pauses idle ready outside =
      plain_on front number says (opened current) above bytes gap spelled short proper known pauses idle ready
  block_on front number (Some label) says None above bytes gap spelled short proper known pauses idle ready outside =
      label_on front number label says bytes spelled
  block_on front number (Some label) says (Some draft) above bytes gap spelled short proper known pauses idle ready
      outside =
      absurd (false≢true (sym outside))
