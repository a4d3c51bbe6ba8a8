-- The walk finds the faults, and the first of them is the text's refusal.
use Rattle.c62_read.proofs.Common.{◌≡◌, ◌∙◌, refl, sym, arith, nat_tests, ℕ, ◌+◌, Bool, true, false, List, [], ◌∷◌}
use Rattle.c62_read.proofs.Common.{◌++◌, length, Option, Some, None}
use Rattle.c62_read.proofs.Common.{Result, Ok, Err, Cause, Drafts, Refusal, lines_of, labels_of, length-append}
use Rattle.c62_read.proofs.Common.{length-map, append_assoc, append-nil}
use Rattle.c62_read.proofs.Common.{◌≤◌, ◌<◌, ap, map, take, suc, le-ltb, lt-ltb, TextTooLong}
use Rattle.std.proofs.Common.{zero}
use Rattle.c62_line.specs.declared.fault.ReadFault.{ReadFault}
use Rattle.c62_line.specs.Line.{fault_in, head_of, label_field, label_front, rest_says}
use Rattle.c62_token.specs.Number.{is_label}
use Rattle.c62_read.specs.Program.{Name, drafts_in, fault_of, first_fault, program_in}
use Rattle.c62_read.specs.Walk.{Step, add_line, hindrance, is_taken, is_unknown, no_drafts, with_says}
use Rattle.c62_read.proofs.WalkLemmas.{Stands, goes, more, none_stand}
use Rattle.c62_lint.specs.Faults.{at_number, faults_from, faults_in, refusal_of, unless_faulty}
use Rattle.c62_lint.specs.Walk.{kept_or, step_drafts, step_fault, walked_faults}
use Rattle.c62_lint.specs.Laws.{FirstIsTheRefusal, first_among}
use Rattle.c62_read.specs.declared.limits.TheConstants.{MOST_BYTES}
use Rattle.c62_op.specs.declared.set.InstructionSet.{InstructionSet}

-- a label field has a label
pub field_is_label : (line word : List ℕ) → label_field line ≡ Some word → is_label word ≡ true
unfolding label_field label_front
field_is_label line word is = grind arith

-- ---- one line

-- an empty line leaves the blocks as they are
empty_stands : (isa : InstructionSet) (labels : List Name) (before : List (List ℕ)) (old : Drafts)
    → Stands isa labels before old
    → Stands isa labels (more before []) old
unfolding head_of label_front is_taken rest_says hindrance with_says
empty_stands isa labels before old stands = (goes isa labels before [] old stands (head_of []) refl).1 refl old refl

module _ (isa : InstructionSet) (labels : List Name) (before : List (List ℕ)) (line : List ℕ) (lines : List (List ℕ))
    (old : Drafts)
    (number : ℕ)
    (stands : Stands isa labels before old) where
  -- behind this line, by whether it branches to no label and what is wrong with it
  line_walked : ((seen : List ℕ) (new : Drafts) → Stands isa labels (more before seen) new
      → walked_faults isa labels (number + 1) lines new ≡ faults_from isa labels (more before seen) lines)
      → (step : Step) → fault_of isa labels before line ≡ step_fault labels step
      → (is_unknown labels step.says ≡ false → (new : Drafts) → step.drafts ≡ Ok new
      → Stands isa labels (more before line) new)
      → (unknown : Bool) → is_unknown labels step.says ≡ unknown → (made : Result Drafts Cause) → step.drafts ≡ made
      → walked_faults isa labels (number + 1) lines (kept_or old unknown made)
      ≡ faults_from isa labels (before ++ unless_faulty (fault_of isa labels before line) line ∷ []) lines
  line_walked later step fault next true u made e =
      rw (fault, u) (later [] old (empty_stands isa labels before old stands))
  line_walked later step fault next false u (Err cause) e = rw (fault, u, e)
      (later [] old (empty_stands isa labels before old stands))
  line_walked later step fault next false u (Ok new) e = rw (fault, u, e) (later line new (next u new e))

-- ---- all lines

walked : (isa : InstructionSet) (labels : List Name) (lines before : List (List ℕ)) (old : Drafts) (number : ℕ)
    → number ≡ length before + 1
    → Stands isa labels before old → walked_faults isa labels number lines old ≡ faults_from isa labels before lines
unfolding walked_faults faults_from add_line
walked isa labels [] before old number is stands = refl
walked isa labels (line ∷ lines) before old number is stands =
    let gone = goes isa labels before line old stands (head_of line) refl in
    let later = line_walked isa labels before line lines old number stands
    (λ seen new there. walked isa labels lines (more before seen) new (number + 1)
    (omega (arith, is, length-append before (seen ∷ []))) there) in
    rw is (rw (sym gone.0) (rw (rw is at (later _ gone.0 gone.1 _ refl _ refl)) refl))

pub walked_text : (isa : InstructionSet) (text : List ℕ) (labels : List Name)
    → walked_faults isa labels 1 (lines_of text) no_drafts ≡ faults_from isa labels [] (lines_of text)
walked_text isa text labels = walked isa labels (lines_of text) [] no_drafts 1 refl (none_stand isa labels)

-- ---- the first fault

first_from : (isa : InstructionSet) (labels : List Name) (lines before : List (List ℕ))
    → first_among (faults_from isa labels before lines) ≡ first_fault isa labels before lines
unfolding faults_from first_fault
first_from isa labels [] before = refl
first_from isa labels (line ∷ lines) before = by_fault (fault_of isa labels before line) refl
    (first_from isa labels lines (before ++ line ∷ []))
  where
    by_fault : (fault : Option Cause) → fault_of isa labels before line ≡ fault
        → first_among (faults_from isa labels (before ++ line ∷ []) lines)
        ≡ first_fault isa labels (before ++ line ∷ []) lines
        → first_among (faults_from isa labels before (line ∷ lines)) ≡ first_fault isa labels before (line ∷ lines)
    by_fault None e later = rw e (later ∙ grind arith)
    by_fault (Some cause) e later = rw e refl

pub first_refusal : (isa : InstructionSet) (text : List ℕ) → FirstIsTheRefusal isa text
unfolding faults_in program_in drafts_in
first_refusal isa text = grind (arith, nat_tests, first_from isa)

-- ---- what is told so far

pub faults_more : (isa : InstructionSet) (labels : List Name) (number : ℕ) (line : List ℕ) (lines all : List (List ℕ))
    (old new : Drafts)
    (told now : List Refusal) (fault : Option Cause) → all ≡ line ∷ lines
    → fault ≡ step_fault labels (add_line isa number line old)
    → new ≡ step_drafts labels (add_line isa number line old) old → now ≡ told ++ at_number number fault
    → now ++ walked_faults isa labels (number + 1) lines new ≡ told ++ walked_faults isa labels number all old
unfolding walked_faults
faults_more isa labels number line lines all old new told now fault first is made kept = rw
    (kept, first, made, is, append_assoc) refl

one_more : (old : List Refusal) (number : ℕ) (fault : Option Cause)
    → length (old ++ at_number number fault) ≤ length old + 1
one_more old number fault = grind (arith, length-append {A = Refusal})

pub few_more : (old new : List ReadFault) (number : ℕ) (fault : Option Cause)
    → map refusal_of new ≡ map refusal_of old ++ at_number number fault → length new ≤ length old + 1
few_more old new number fault kept =
    omega (
      arith,
      length-map new refusal_of,
      length-map old refusal_of,
      ap length kept,
      one_more (map refusal_of old)
          number fault,
    )

take_within : {A : Type 0} (n : ℕ) (xs : List A) → length xs ≤ n → take n xs ≡ xs
take_within zero [] within = refl
take_within (suc n) [] within = refl
take_within zero (x ∷ xs) within = absurd (omega arith)
take_within (suc n) (x ∷ xs) within = ap (λ (rest : List _). x ∷ rest) (take_within n xs (omega arith))

pub all_told : (faults : List ReadFault) (most : ℕ) (all more : List Refusal) → length faults ≤ most → more ≡ []
    → map refusal_of faults ++ more ≡ all → map refusal_of faults ≡ take most all
all_told faults most all more few none told =
    let whole : map refusal_of faults ≡ all = sym (append-nil _) ∙ rw none at told in
    rw (← whole) (sym (take_within most (map refusal_of faults) (omega (arith, few, length-map faults refusal_of))))

-- ---- the faults of a text

pub faults_are : (isa : InstructionSet) (text : List ℕ) (labels : List Name) → length text ≤ MOST_BYTES
    → labels ≡ labels_of (lines_of text)
    → walked_faults isa labels 1 (lines_of text) no_drafts ≡ faults_in isa text
unfolding faults_in
faults_are isa text labels short are = rw (le-ltb MOST_BYTES (length text) short, are)
    (walked_text isa text (labels_of (lines_of text)))

pub too_long : (isa : InstructionSet) (text : List ℕ) (most : ℕ) → MOST_BYTES < length text → 1 ≤ most
    → take most (faults_in isa text) ≡ (0, TextTooLong) ∷ []
unfolding faults_in
too_long isa text most long some =
    rw (lt-ltb MOST_BYTES (length text) long) (take_within most ((0, TextTooLong) ∷ []) some)
