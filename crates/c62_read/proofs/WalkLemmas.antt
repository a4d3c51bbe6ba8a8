-- The walk over the lines of a text.
use Rattle.c62_read.proofs.Common.{◌≡◌, ◌≤◌, ℕ, ◌+◌, Bool, true, false, cond, ltb, List, [], ◌∷◌, ◌++◌, length, Option}
use Rattle.c62_read.proofs.Common.{Some, None, Result, Ok, Err, refl, sym, ap, ◌∙◌, arith, append_assoc, append-nil}
use Rattle.c62_read.proofs.Common.{length-append, inl, inr, map, list_any, list_all, option_to_list, bytes_eq, or_parts}
use Rattle.c62_read.proofs.Common.{le-ltb, nat_tests, Cause, UnknownTarget, TextTooLong, Says, Item, Draft, Refusal}
use Rattle.c62_read.proofs.Common.{blocks_from, cut, fault_in, is_among, is_overfull, items_from, label_is, label_items}
use Rattle.c62_read.proofs.Common.{labels_of, line_items, says_items, BlockParts, block_in, Drafts, all_drafts}
use Rattle.c62_read.proofs.Common.{is_unknown, no_drafts, own_labels, Asked, asked_in, first_line, missed}
use Rattle.c62_read.proofs.Common.{unless_missed, is_whole, lines_of}
use Rattle.c62_line.specs.Line.{label_field, Nothing, head_of, label_front, line_of, rest_says}
use Rattle.c62_read.specs.Program.{and_then, Name, fault_if, fault_of, first_fault, first_of, repeats_label, Fails}
use Rattle.c62_read.specs.Program.{drafts_in, program_in}
use Rattle.std.specs.List.{AllByRecursion, IsDistinct}
use Rattle.std.specs.Result.{result_err}
use Rattle.c62_read.specs.Reading.{aimed_blocks, text_read}
use Rattle.c62_line.specs.declared.fault.Cause.TheVariants.{DuplicateLabel}
use Rattle.c62_read.specs.Walk.{add_head, add_line, add_lines, add_says, at_line, hindrance, is_taken, refused, Step}
use Rattle.c62_read.specs.Walk.{with_label, with_says}
use mathlib.Core.Path.{fun_ext}
use Rattle.std.proofs.lemmas.Cmp.{nat_list_eq_equiv}
use Rattle.std.proofs.lemmas.Map.Keys.{IsDistinct-push}
use Rattle.c62_line.proofs.HeadLemmas.{line_by_head}
use Rattle.c62_line.proofs.LabelFields.{field_is}
use Rattle.c62_line.proofs.SaysLemmas.{IsProper, proper}
use Rattle.c62_line.specs.declared.fault.ReadFault.{ReadFault}
use Rattle.c62_read.proofs.CutLemmas.{all_more, all_whole, cut_is}
use Rattle.c62_read.proofs.MissedLemmas.{missed_then}
use Rattle.c62_read.proofs.LineSteps.{ahead, line_ahead, line_own, added_own, line_over, line_count}
use Rattle.c62_read.specs.declared.limits.TheConstants.{MOST_BYTES}
use Rattle.c62_read.specs.declared.limits.TheConstants.{MOST_BLOCKS}
use Rattle.c62_op.specs.declared.set.InstructionSet.{InstructionSet}

-- an empty line says nothing
pub empty_line : (isa : InstructionSet) (number : ℕ) (line : List ℕ) (drafts : Drafts) → line ≡ []
    → add_line isa number line drafts ≡ record { says = Nothing; drafts = Ok drafts }
unfolding add_line hindrance is_taken with_says head_of label_front rest_says
empty_line isa number line drafts none = rw none refl

-- ---- one line more

abbrev pub more : List (List ℕ) → List ℕ → List (List ℕ)
more before line = before ++ line ∷ []

items_more : (isa : InstructionSet) (number n : ℕ) (before : List (List ℕ)) (line : List ℕ) → n ≡ length before + number
    → items_from isa number (more before line) ≡ items_from isa number before ++ line_items n (line_of isa line)
items_more isa number n [] line e = let same : n ≡ number = omega arith in rw (same, append-nil) refl
items_more isa number n (first ∷ before) line e =
    rw (items_more isa (number + 1) n before line (omega arith), append_assoc)
    refl

labels_more : (before : List (List ℕ)) (line : List ℕ)
    → labels_of (more before line) ≡ labels_of before ++ option_to_list (label_field line)
labels_more [] line = append-nil (option_to_list (label_field line))
labels_more (first ∷ before) line = rw (labels_more before line, append_assoc) refl

distinct_more : (labels : List Name) (field : Option Name) → IsDistinct bytes_eq labels
    → list_any (λ label. is_among label labels) (option_to_list field) ≡ false
    → IsDistinct bytes_eq (labels ++ option_to_list field)
distinct_more labels None distinct fresh = rw append-nil distinct
distinct_more labels (Some label) distinct fresh =
    let flipped = ap (λ (test : Name → Bool). list_any test labels) (fun_ext (nat_list_eq_equiv.symm label)) in
    IsDistinct-push nat_list_eq_equiv labels label distinct (flipped ∙ (or_parts (is_among label labels) false fresh).0)

pub has_own : (label : Name) (drafts : List Draft)
    → list_any (λ draft. label_is label draft.label) drafts ≡ is_among label (own_labels drafts)
has_own label [] = refl
has_own label (draft ∷ drafts) = grind (arith, nat_tests, has_own label drafts)

-- what a line says is proper, and a branch goes to one of these labels
abbrev pub OkFits : List Name → Result (Option Name × Says) Cause → Type 0
OkFits labels (Ok (label, says)) = IsProper says × (is_unknown labels says ≡ false)
OkFits labels (Err cause) = Unit {0}

-- the reader has the blocks of these lines, and the text has these labels
pub record Stands (isa : InstructionSet) (labels : List Name) (before : List (List ℕ)) (drafts : Drafts) : Type 0 where
  pub cuts : (items : List Item) → cut (items_from isa 1 before ++ items) ≡ ahead drafts items
  pub few : length (all_drafts drafts) ≤ MOST_BLOCKS
  pub small : list_any is_overfull (all_drafts drafts) ≡ false
  pub own : own_labels (all_drafts drafts) ≡ labels_of before
  pub fits : AllByRecursion (λ line. OkFits labels (line_of isa line)) before
  pub distinct : IsDistinct bytes_eq (labels_of before)

pub blocks_are : (isa : InstructionSet) (before : List (List ℕ)) (drafts : Drafts)
    → ((items : List Item) → cut (items_from isa 1 before ++ items) ≡ ahead drafts items)
    → blocks_from isa before ≡ all_drafts drafts
blocks_are isa before drafts cuts = (rw append-nil at (cuts [])) ∙ grind arith

-- a walk from these lines over others has their first fault, and where it comes to the end the blocks with them
abbrev pub Walked : InstructionSet → List Name → List (List ℕ) → List (List ℕ) → Result Drafts Refusal → Type 0
Walked isa labels before lines read =
    (result_err read ≡ first_fault isa labels before lines)
    × ((new : Drafts) → read ≡ Ok new → Stands isa labels (before ++ lines) new)

module _ (isa : InstructionSet) (labels : List Name) (before : List (List ℕ)) (line : List ℕ) (old : Drafts)
    (stands : Stands isa labels before old) where
  abbrev pub here : ℕ
  here = length before + 1

  -- what the step tells of the line: its fault, and where it has none the blocks with it
  abbrev pub Goes : Step → Type 0
  Goes step =
      (fault_of isa labels before line ≡ first_of
      (fault_if (is_unknown labels step.says) UnknownTarget ∷ fault_in step.drafts ∷ []))
      × (is_unknown labels step.says ≡ false → (new : Drafts) → step.drafts ≡ Ok new
      → Stands isa labels (more before line) new)

  -- the line's label is an earlier one's where the reader has it
  repeats_is : (label : Option Name) (words : List (List ℕ)) → head_of line ≡ Ok (label, words)
      → repeats_label (labels_of before) line ≡ is_taken label old
  unfolding is_taken
  repeats_is label words head =
      rw (field_is line label words head, ← stands.own)
      (grind (arith, nat_tests, λ (name : Name). has_own name (all_drafts old)))

  adds : (label : Option Name) (words : List (List ℕ)) (says : Says) → head_of line ≡ Ok (label, words)
      → rest_says isa words ≡ Ok says
      → is_taken label old ≡ false → Goes (add_says here label old (Ok says))
  unfolding fault_of hindrance
  adds label words says head rest free =
      let new : Drafts = with_says here says (with_label label old) in
      let said = line_by_head isa line label words says head rest in
      let cuts : (items : List Item) → cut (items_from isa 1 (more before line) ++ items) ≡ ahead new items =
      λ items.
      rw (items_more isa 1 here before line refl, said, append_assoc, append_assoc)
      (stands.cuts (label_items label ++ (says_items here says ++ items)) ∙ line_ahead here label says old items) in
      let over = line_over here label says old stands.small in
      let count = line_count here label says old in
      let fresh = repeats_is label words head ∙ free in (
        rw (head, fresh, said, blocks_are isa (more before line) new cuts, over)
            (grind (arith, nat_tests, count, stands.few)),
        λ known made is.
            let same : new ≡ made = grind (arith, nat_tests) in
            rw (← same) record {
              cuts = cuts;
              few = grind (arith, nat_tests, count, stands.few);
              small = over ∙ grind (arith, nat_tests);
              own = line_own here label says old
                  ∙ rw (stands.own, labels_more before line, field_is line label words head) refl;
              fits = all_more _ before (line ∷ []) stands.fits (rw said (proper isa words says rest, known), tt);
              distinct = rw (labels_more before line)
                  (distinct_more (labels_of before) (label_field line) stands.distinct fresh);
            },
      )

  pub goes : (front : Result (Option Name × List (List ℕ)) Cause) → head_of line ≡ front
      → Goes (add_head isa here old front)
  unfolding fault_of line_of
  goes (Err cause) head = (rw head refl, λ known new made. absurd cc)
  goes (Ok (label, words)) head = by_rest (is_taken label old) refl (rest_says isa words) refl
    where
      by_rest : (taken : Bool) → is_taken label old ≡ taken → (said : Result Says Cause) → rest_says isa words ≡ said
          → Goes (cond taken (refused DuplicateLabel) (add_says here label old said))
      by_rest true e said rest = (rw (head, repeats_is label words head ∙ e) refl, λ known new made. absurd cc)
      by_rest false e (Err cause) rest = (
        rw (
          head,
          repeats_is label words head
              ∙ e,
          rest,
        ) refl,
        λ known new made. absurd cc,
      )
      by_rest false e (Ok says) rest = adds label words says head rest e

  -- the walk over this line and others, by whether it branches to no label and what is wrong with it
  walk_line : (lines : List (List ℕ))
      → ((new : Drafts) → Stands isa labels (more before line) new
      → Walked isa labels (more before line) lines (add_lines isa labels (length (more before line) + 1) lines new))
      → (step : Step) → Goes step → (unknown : Bool) → is_unknown labels step.says ≡ unknown
      → (made : Result Drafts Cause) → step.drafts ≡ made
      → Walked isa labels before (line ∷ lines)
      (cond unknown (Err (here, UnknownTarget))
      (and_then (at_line here made) (λ drafts. add_lines isa labels (here + 1) lines drafts)))
  unfolding first_fault
  walk_line lines later step goes true u made e = (rw (goes.0, u) refl, λ new is. absurd cc)
  walk_line lines later step goes false u (Err cause) e = (rw (goes.0, u, e) refl, λ new is. absurd cc)
  walk_line lines later step goes false u (Ok new) e =
      let count : length (more before line) + 1 ≡ here + 1 = omega (arith, length-append before (line ∷ [])) in
      let walked = rw count at (later new (goes.1 u new e)) in
      (rw (goes.0, u, e, ← walked.0) (grind arith), λ last is. rw append_assoc at (walked.1 last is))

-- ---- all lines

walk : (isa : InstructionSet) (labels : List Name) (lines before : List (List ℕ)) (old : Drafts)
    → Stands isa labels before old
    → Walked isa labels before lines (add_lines isa labels (length before + 1) lines old)
unfolding add_lines add_line first_fault
walk isa labels [] before old stands = (refl, λ new is. let same : old ≡ new = cc in rw (append-nil, ← same) stands)
walk isa labels (line ∷ lines) before old stands =
    walk_line isa labels before line old stands lines
    (λ new there. walk isa labels lines (more before line) new there) _
    (goes isa labels before line old stands (head_of line) refl) _ refl _ refl

-- the reader has no blocks before any line
pub none_stand : (isa : InstructionSet) (labels : List Name) → Stands isa labels [] no_drafts
unfolding IsDistinct
none_stand isa labels = record
    { cuts = λ items. refl; few = omega arith; small = refl; own = refl; fits = tt; distinct = tt }

-- the walk over all lines of a text
pub walk_text : (isa : InstructionSet) (lines : List (List ℕ))
    → Walked isa (labels_of lines) [] lines (add_lines isa (labels_of lines) 1 lines no_drafts)
walk_text isa lines = walk isa _ lines [] no_drafts (none_stand isa (labels_of lines))

module _ (isa : InstructionSet) (number : ℕ) (line : List ℕ) (lines all : List (List ℕ)) (old : Drafts)
    (first : all ≡ line ∷ lines) where
  -- the answer behind this line, but for the branches that are kept
  pub stepped : (labels : List Name) (asked now : List Asked)
      → now ≡ asked ++ asked_in number (add_line isa number line old).says
      → (result : Result Drafts Cause) → (add_line isa number line old).drafts ≡ result
      → unless_missed (first_line (missed labels now))
      (and_then (at_line number result) (λ more. add_lines isa labels (number + 1) lines more))
      ≡ unless_missed (first_line (missed labels asked)) (add_lines isa labels number all old)
  unfolding add_lines
  stepped labels asked now kept result is = rw (first, kept, ← is)
      (sym (missed_then labels asked number (add_line isa number line old).says _))

  -- the labels that the blocks have and those of the lines that are left
  pub labels_stay : (new : Drafts) → (add_line isa number line old).drafts ≡ Ok new
      → own_labels (all_drafts new) ++ labels_of lines ≡ own_labels (all_drafts old) ++ labels_of all
  unfolding add_line
  labels_stay new added = rw (first, added_own isa number line old new (head_of line) refl added, append_assoc) refl

-- ---- the whole text

pub program_by : (isa : InstructionSet) (text : List ℕ) → program_in isa text
    ≡ cond (ltb MOST_BYTES (length text)) (Err (0, TextTooLong))
    (and_then (text_read isa text) (λ drafts. Ok (aimed_blocks (all_drafts drafts))))
unfolding program_in drafts_in
program_by isa text =
    let walked = walk_text isa (lines_of text) in
    let blocks : (new : Drafts) → text_read isa text ≡ Ok new → blocks_from isa (lines_of text) ≡ all_drafts new =
    λ new is. blocks_are isa (lines_of text) new (walked.1 new is).cuts in
    rw (← walked.0) (grind (arith, nat_tests, blocks))

pub read_back : (isa : InstructionSet) (text : List ℕ) (blocks : List BlockParts) → program_in isa text ≡ Ok blocks
    → (drafts : Drafts) × (text_read isa text ≡ Ok drafts) × (blocks ≡ aimed_blocks (all_drafts drafts))
read_back isa text blocks e = let by = sym (program_by isa text) ∙ e in grind (arith, nat_tests, by)

pub whole_blocks : (isa : InstructionSet) (labels : List Name) (before : List (List ℕ)) (drafts : Drafts)
    → Stands isa labels before drafts
    → list_all is_whole (all_drafts drafts) ≡ true
whole_blocks isa labels before drafts stands =
    all_whole (all_drafts drafts) stands.small
    (rw (blocks_are isa before drafts stands.cuts) at (cut_is [] (items_from isa 1 before)).2)

-- these blocks are the text's, which are made of what was read
pub program_read : (isa : InstructionSet) (text : List ℕ) → length text ≤ MOST_BYTES → (drafts : Drafts)
    → text_read isa text ≡ Ok drafts
    → (done : List Draft) → done ≡ all_drafts drafts → (blocks : List BlockParts) → blocks ≡ map (block_in done) done
    → program_in isa text ≡ Ok blocks
program_read isa text short drafts read done all blocks made = rw
    (program_by isa text, le-ltb MOST_BYTES (length text) short, read, made, all) refl

pub program_refused : (isa : InstructionSet) (text : List ℕ) → length text ≤ MOST_BYTES → (fault : ReadFault)
    → Fails fault (text_read isa text)
    → Fails fault (program_in isa text)
program_refused isa text short fault (inl memory) = inl memory
program_refused isa text short fault (inr refused) = inr
    (rw (program_by isa text, le-ltb MOST_BYTES (length text) short, refused) refl)
