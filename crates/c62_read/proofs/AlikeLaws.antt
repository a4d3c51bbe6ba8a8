-- Texts whose lines say the same are one program.
use Rattle.c62_read.proofs.Common.{◌≡◌, ◌≤◌, ℕ, ◌+◌, List, [], ◌∷◌, ◌++◌, length, refl, le-ltb, lines_of, fault_in}
use Rattle.c62_read.proofs.Common.{items_from, labels_of}
use Rattle.c62_line.specs.Line.{head_of, line_of, label_field}
use Rattle.c62_read.specs.Program.{Name, drafts_in, fault_of, first_fault, program_in}
use Rattle.c62_read.specs.declared.limits.TheConstants.{MOST_BYTES}
use Rattle.c62_op.specs.declared.set.InstructionSet.{InstructionSet}

pub record IsAlike (isa : InstructionSet) (line other : List ℕ) : Type 0 where
  pub head : fault_in (head_of line) ≡ fault_in (head_of other)
  pub field : label_field line ≡ label_field other
  pub said : line_of isa line ≡ line_of isa other

pub data AreAlike (isa : InstructionSet) : List (List ℕ) → List (List ℕ) → Type 0 where
  End : AreAlike isa [] []
  And : {line other : List ℕ} {lines others : List (List ℕ)} → IsAlike isa line other → AreAlike isa lines others
      → AreAlike isa (line ∷ lines) (other ∷ others)

alike_more : (isa : InstructionSet) {lines others : List (List ℕ)} {line other : List ℕ} → AreAlike isa lines others
    → IsAlike isa line other
    → AreAlike isa (lines ++ line ∷ []) (others ++ other ∷ [])
alike_more isa End last = And last End
alike_more isa (And here alike) last = And here (alike_more isa alike last)

alike_length : (isa : InstructionSet) {lines others : List (List ℕ)} → AreAlike isa lines others
    → length lines ≡ length others
alike_length isa End = refl
alike_length isa (And here alike) = rw (alike_length isa alike) refl

alike_labels : (isa : InstructionSet) {lines others : List (List ℕ)} → AreAlike isa lines others
    → labels_of lines ≡ labels_of others
alike_labels isa End = refl
alike_labels isa (And here alike) = rw (here.field, alike_labels isa alike) refl

alike_items : (isa : InstructionSet) {lines others : List (List ℕ)} (number : ℕ) → AreAlike isa lines others
    → items_from isa number lines ≡ items_from isa number others
alike_items isa number End = refl
alike_items isa number (And here alike) = rw (here.said, alike_items isa (number + 1) alike) refl

alike_fault : (isa : InstructionSet) {before others : List (List ℕ)} {line other : List ℕ} (labels : List Name)
    → AreAlike isa before others
    → IsAlike isa line other
    → fault_of isa labels before line ≡ fault_of isa labels others other
unfolding fault_of
alike_fault isa labels alike last = rw
    (last.head, alike_labels isa alike, alike_items isa 1 (alike_more isa alike last), last.field, last.said) refl

alike_faults : (isa : InstructionSet) {before earlier lines others : List (List ℕ)} (labels : List Name)
    → AreAlike isa before earlier
    → AreAlike isa lines others
    → first_fault isa labels before lines ≡ first_fault isa labels earlier others
unfolding first_fault
alike_faults isa labels first End = refl
alike_faults isa labels first (And here alike) =
    rw (
      alike_length isa first,
      alike_fault isa labels first here,
      alike_faults isa labels
          (alike_more isa first here) alike,
    ) refl

pub alike_programs : (isa : InstructionSet) (text other : List ℕ) → length text ≤ MOST_BYTES → length other ≤ MOST_BYTES
    → AreAlike isa (lines_of text) (lines_of other)
    → program_in isa text ≡ program_in isa other
unfolding program_in drafts_in
alike_programs isa text other short few alike =
    rw (
      le-ltb MOST_BYTES (length text) short,
      le-ltb MOST_BYTES (length other) few,
      alike_labels isa alike,
      alike_faults isa _ End
          alike,
      alike_items isa 1 alike,
    ) refl
