-- Packets that are adopted have the lines of their text's code.
use Rattle.std.proofs.Common.{◌≡◌, ◌∙◌, ap, refl, sym, ℕ, ◌+◌, Bool, List, [], ◌∷◌, ◌++◌, length, map, Option, Some}
use Rattle.std.proofs.Common.{None, Ok, subst}
use Rattle.std.specs.Prelude.{option_map, slice_get}
use Rattle.std.specs.List.{All, AllByRecursion, AllZip, flat_map}
use Rattle.std.proofs.lemmas.List.Elements.{All-from_recursion}
use Rattle.std.proofs.lemmas.List.Sorted.{All-permutation}
use Rattle.c62_line.specs.Line.{Says, Nothing, Pause, Does, Jumps, parts_of}
use Rattle.c62_read.specs.Program.{Name}
use Rattle.c62_read.specs.Text.{lines_of}
use Rattle.c62_read.proofs.CutLemmas.{all_more}
use Rattle.c62_packet.specs.declared.placed.Placed.{Placed}
use Rattle.c62_packet.specs.Packed.{Packed}
use Rattle.c62_listing_reader.specs.Said.{Part, aimed_parts, part_of}
use Rattle.c62_adopt_line.specs.Line.{Line, line_says}
use Rattle.c62_adopt_cut.specs.Cut.{stand_of}
use Rattle.c62_adopt_cut.specs.Blocks.{Draft, Issue}
use Rattle.c62_adopt_cut.specs.Home.{AreSaid, Home, home, home_in, home_said, homes_in, homes_of, label_in}
use Rattle.c62_adopt_cut.specs.Text.{text_cut}
use Rattle.c62_adopt_cut.proofs.TextHomes.{blocks_are_of_lines}
use Rattle.c62_adopt.specs.Answer.{code_in, code_read}
use Rattle.c62_adopt.specs.Blocks.{IsBlockOf, part_in, target_number}
use Rattle.c62_adopt_lines.specs.Laws.{HaveTheirLines, IsOfLine, IsSaid}
use Rattle.c62_op.specs.declared.set.InstructionSet.{InstructionSet}

-- ---- the instructions that lines say

abbrev IsIssued : Says → Issue → Type 0
IsIssued (Does parts) issue = (issue.parts ≡ parts) × (issue.target ≡ None)
IsIssued (Jumps parts label) issue = (issue.parts ≡ parts) × (issue.target ≡ Some label)
IsIssued _ issue = ⊥

record HasLine (isa : InstructionSet) (texts : List (List ℕ)) (issue : Issue) : Type 0 where
  above : ℕ
  number : issue.line ≡ above + 1
  line : Line
  is_line : option_map (line_says isa) (slice_get texts above) ≡ Some (Ok line)
  issued : IsIssued line.says issue

module _ (isa : InstructionSet) (texts : List (List ℕ)) where
  home_has : (above : List Line) (line : Line) → option_map (line_says isa) (slice_get texts (length above))
      ≡ Some (Ok line)
      → AllByRecursion (λ h. HasLine isa texts h.issue) (home_in above line)
  home_has above line is = go line.says refl
    where
      go : (says : Says) → line.says ≡ says
          → AllByRecursion (λ h. HasLine isa texts h.issue)
          (home_said (length above + 1) (stand_of above line)
          (label_in (stand_of above line).start (line ∷ above)) says)
      go Nothing e = tt
      go (Pause n) e = tt
      go (Does parts) e = (
        record
            { above = length above; number = refl; line = line; is_line = is; issued = rw e (refl, refl) },
        tt,
      )
      go (Jumps parts label) e = (
        record { above = length above; number = refl; line = line; is_line = is; issued = rw e (refl, refl) },
        tt,
      )

  homes_have : (lines : List Line) → AreSaid isa texts lines
      → AllByRecursion (λ h. HasLine isa texts h.issue) (homes_in lines)
  homes_have [] said = tt
  homes_have (line ∷ above) said =
      all_more (λ (h : Home). HasLine isa texts h.issue) (homes_in above) (home_in above line) (homes_have above said.1)
      (home_has above line said.0)

  parted : {X : Type 0} (P : X → Type 0) (xs ys : List X) → AllByRecursion P (xs ++ ys) → AllByRecursion P xs
      × AllByRecursion P ys
  parted P [] ys all = (tt, all)
  parted P (x ∷ xs) ys all = let rest = parted P xs ys all.1 in ((all.0, rest.0), rest.1)

  issues_have : (label : Option Name) (start : ℕ) (issues : List Issue)
      → AllByRecursion (λ h. HasLine isa texts h.issue) (map (home label start) issues)
      → AllByRecursion (HasLine isa texts) issues
  issues_have label start [] all = tt
  issues_have label start (issue ∷ issues) all = (all.0, issues_have label start issues all.1)

  drafts_have : (drafts : List Draft) → AllByRecursion (λ h. HasLine isa texts h.issue) (flat_map homes_of drafts)
      → AllByRecursion (λ draft. AllByRecursion (HasLine isa texts) draft.issues) drafts
  drafts_have [] all = tt
  drafts_have (draft ∷ drafts) all =
      let parts = parted (λ (h : Home). HasLine isa texts h.issue) (homes_of draft) (flat_map homes_of drafts) all in
      (issues_have draft.label draft.start draft.issues parts.0, drafts_have drafts parts.1)

-- ---- what they are placed as

module _ (isa : InstructionSet) (code : List ℕ) where
  said_so : (says : Says) (issue : Issue) → IsIssued says issue
      → IsSaid (text_cut isa code).drafts says
      (aimed_parts (target_number (text_cut isa code).drafts issue.target) issue.parts)
  said_so Nothing issue is = absurd is
  said_so (Pause n) issue is = absurd is
  said_so (Does parts) issue is =
      ap (λ (target : Option Name). aimed_parts (target_number (text_cut isa code).drafts target) issue.parts) is.1
      ∙ ap (aimed_parts (target_number (text_cut isa code).drafts None)) is.0
  said_so (Jumps parts label) issue is =
      ap (λ (target : Option Name). aimed_parts (target_number (text_cut isa code).drafts target) issue.parts) is.1
      ∙ ap (aimed_parts (target_number (text_cut isa code).drafts (Some label))) is.0

  placed_has : (issue : Issue) (p : Placed) → part_of p ≡ part_in (text_cut isa code).drafts issue
      → HasLine isa (lines_of code) issue → IsOfLine isa code p
  placed_has issue p same has =
      let parts : parts_of p.insn ≡ aimed_parts (target_number (text_cut isa code).drafts issue.target) issue.parts = ap
      (λ (part : Part). part.parts) same in
      record {
        above = has.above;
        number = ap (λ (part : Part). part.line) same ∙ has.number;
        line = has.line;
        is_line = has.is_line;
        said = rw parts (said_so has.line.says issue has.issued);
      }

  all_placed : (issues : List Issue) (placed : List Placed)
      → map part_of placed ≡ map (part_in (text_cut isa code).drafts) issues
      → AllByRecursion (HasLine isa (lines_of code)) issues → AllByRecursion (IsOfLine isa code) placed
  all_placed issues [] same all = tt
  all_placed [] (p ∷ placed) same all = absurd cc
  all_placed (issue ∷ issues) (p ∷ placed) same all =
      let first : part_of p ≡ part_in (text_cut isa code).drafts issue = cc in
      let rest : map part_of placed ≡ map (part_in (text_cut isa code).drafts) issues = cc in
      (placed_has issue p first all.0, all_placed issues placed rest all.1)

  all_blocks : (drafts : List Draft) (packets : List Packed)
      → AllZip (IsBlockOf (text_cut isa code).drafts) drafts packets
      → AllByRecursion (λ draft. AllByRecursion (HasLine isa (lines_of code)) draft.issues) drafts
      → AllByRecursion (λ block. All (IsOfLine isa code) block.placed) packets
  all_blocks [] [] zip all = tt
  all_blocks [] (block ∷ packets) zip all = absurd zip
  all_blocks (draft ∷ drafts) [] zip all = absurd zip
  all_blocks (draft ∷ drafts) (block ∷ packets) zip all =
      let is = zip.0 in
      let placed = All-from_recursion (IsOfLine isa code) is.placed
      (all_placed draft.issues is.placed is.stand.parts all.0)
      in (
        All-permutation (IsOfLine isa code) is.placed block.placed is.listed placed,
        all_blocks drafts packets zip.1
            all.1,
      )

pub have_their_lines : (isa : InstructionSet) (drain : Bool) (text : List ℕ) → HaveTheirLines isa drain text
have_their_lines isa drain text packets added is =
    let code = code_in (code_read isa text) in
    let lines = blocks_are_of_lines isa code in
    let homes = homes_have isa (lines_of code) lines.lines lines.read.said in
    let issues = subst (AllByRecursion (λ (h : Home). HasLine isa (lines_of code) h.issue))
    (sym lines.blocks.instructions)
    homes in
    All-from_recursion (λ (block : Packed). All (IsOfLine isa code) block.placed) packets
    (all_blocks isa code (text_cut isa code).drafts packets is.read.cut.blocks
    (drafts_have isa (lines_of code) (text_cut isa code).drafts issues))
