-- What a line does to the blocks, with the open block in front of others.
use Rattle.c62_read.proofs.Common.{◌≡◌, ℕ, ◌+◌, false, cond, ◌&&◌, List, [], ◌∷◌, ◌++◌, length, Option, Some, None}
use Rattle.c62_read.proofs.Common.{Result, Ok, Err, arith, append_assoc, append-nil, length-append, list_any}
use Rattle.c62_read.proofs.Common.{option_to_list, nat_tests, flat_map-append, list_any-append, Cause, Says, Numbered}
use Rattle.c62_read.proofs.Common.{Item, Draft, cut, glue, is_overfull, joined, label_items, says_items, Drafts}
use Rattle.c62_read.proofs.Common.{all_drafts, own_labels}
use Rattle.c62_line.specs.Line.{label_field, head_of}
use Rattle.c62_read.specs.Program.{Name}
use Rattle.std.specs.Prelude.{is_none}
use Rattle.c62_read.specs.Walk.{add_head, begins_block, is_full, is_instruction, with_label, with_says}
use Rattle.c62_line.proofs.LabelFields.{field_is}
use Rattle.c62_op.specs.declared.set.InstructionSet.{InstructionSet}

-- ---- the open block in front of blocks

abbrev glued : Option Draft → List Draft → List Draft
glued None drafts = drafts
glued (Some piece) drafts = glue piece drafts

-- the whole blocks, and the open one in front of what these items make
abbrev pub ahead : Drafts → List Item → List Draft
ahead drafts items = drafts.done ++ glued drafts.current (cut items)

-- one piece behind another
glue_twice : (piece next : Draft) (drafts : List Draft) → next.label ≡ None
    → glue piece (glue next drafts) ≡ glue (joined piece next) drafts
glue_twice piece next drafts none = grind (arith, nat_tests, append_assoc piece.insns next.insns)

-- ---- what a line does to the blocks

last_over : (done : List Draft) (current : Option Draft) (draft : Draft)
    → list_any is_overfull (done ++ option_to_list current) ≡ false
    → list_any is_overfull (done ++ draft ∷ []) ≡ is_overfull draft
last_over done current draft small = grind (arith, nat_tests, list_any-append is_overfull done)

-- a line's label and instruction become part of the blocks
pub line_ahead : (number : ℕ) (label : Option Name) (says : Says) (old : Drafts) (items : List Item)
    → ahead old (label_items label ++ (says_items number says ++ items)) ≡ ahead
    (with_says number says (with_label label old)) items
unfolding with_says
line_ahead number label says old items = grind (arith, nat_tests, append_assoc {A = Draft}, glue_twice)

pub line_own : (number : ℕ) (label : Option Name) (says : Says) (old : Drafts)
    → own_labels (all_drafts (with_says number says (with_label label old))) ≡ own_labels (all_drafts old) ++
    option_to_list label
unfolding with_says
line_own number label says old = grind
    (arith, nat_tests, append-nil, flat_map-append (λ (draft : Draft). option_to_list draft.label))

pub added_own : (isa : InstructionSet) (number : ℕ) (line : List ℕ) (old new : Drafts)
    (front : Result (Option Name × List (List ℕ)) Cause)
    → head_of line ≡ front
    → (add_head isa number old front).drafts ≡ Ok new
    → own_labels (all_drafts new) ≡ own_labels (all_drafts old) ++ option_to_list (label_field line)
added_own isa number line old new (Err cause) head added = absurd cc
added_own isa number line old new (Ok (label, words)) head added = rw (field_is line label words head)
    (grind (arith, nat_tests, line_own))

-- behind a label nothing is too much
pub line_over : (number : ℕ) (label : Option Name) (says : Says) (old : Drafts)
    → list_any is_overfull (all_drafts old) ≡ false
    → list_any is_overfull (all_drafts (with_says number says (with_label label old)))
    ≡ (is_instruction says && is_none label && is_full old.current)
unfolding with_says
line_over number label says old small =
    grind (
      arith,
      nat_tests,
      last_over old.done old.current,
      last_over (all_drafts old) None,
      append-nil,
      length-append
          {A = Numbered},
    )

pub line_count : (number : ℕ) (label : Option Name) (says : Says) (old : Drafts)
    → length (all_drafts (with_says number says (with_label label old))) ≡ length (all_drafts old) + cond
    (begins_block label says old) 1 0
unfolding with_says
line_count number label says old = grind (arith, nat_tests, length-append {A = Draft})
