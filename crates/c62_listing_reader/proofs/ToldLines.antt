-- What is read of a line that is told.
use Rattle.c62_listing_reader.proofs.Common.{arith, ◌≡◌, ℕ, List, [], ◌∷◌, ◌++◌, Option, Some, None, Bool, true, false}
use Rattle.c62_listing_reader.proofs.Common.{refl, nat_eq, if◌then◌else◌, codes, Result, Ok, Err, list_all, false≢true}
use Rattle.c62_listing_reader.proofs.Common.{nat_tests, bytes_eq-Decides, Cause, is_allowed, tokens, Says, Nothing}
use Rattle.c62_listing_reader.proofs.Common.{Pause, Does, Jumps, words_say, Name, field_is, IsProper, Front, Empty}
use Rattle.c62_listing_reader.proofs.Common.{Beside, Above, Line, content, is_empty, front_of, has_colon, is_gap}
use Rattle.c62_listing_reader.proofs.Common.{rest_of, Said, Drafts, spelled_line, is_text, is_taken, after_label}
use Rattle.c62_listing_reader.proofs.Common.{rest_says, IsShort}
use Rattle.std.specs.Prelude.{decimal}
use Rattle.std.specs.List.{starts_with}
use Rattle.c62_line.specs.declared.fault.Cause.TheVariants.{DuplicateLabel}
use Rattle.c62_token.specs.Number.{is_label}
use Rattle.c62_line.specs.Line.{head_of, label_front, line_of, with_head, with_rest as label_with, label_field}
use Rattle.c62_line.proofs.SaysLemmas.{proper, AreTaken, said_taken}
use Rattle.c62_listing_reader.proofs.PauseLemmas.{short}
use Rattle.c62_line.proofs.LabelFields.{no_label_front}
use Rattle.c62_listing_reader.proofs.ToldLemmas.{IsTold}
use Rattle.c62_op.specs.declared.set.InstructionSet.{InstructionSet}

-- ---- how it begins

-- an empty line is a gap, and no other
pub gap_front : (bytes : List ℕ) → is_gap (front_of bytes) ≡ is_empty bytes
gap_front bytes = grind (arith, nat_tests)

-- ---- what is read of it

-- the answer of a line behind its front is that of its bytes by themselves
pub plain_read : (taken colon : Bool) (read : Result (Option Name × Says) Cause) (found : Option Name × Says)
    → after_label taken colon read ≡ Ok found → read ≡ Ok found
plain_read taken colon read found h = grind (arith, nat_tests)

-- a line's label stands in its label field
pub record IsLine (isa : InstructionSet) (line : List ℕ) (label : Option Name) (says : Says) : Type 0 where
  pub words : List (List ℕ)
  pub head : head_of line ≡ Ok (label, words)
  pub rest : words_say isa words ≡ Ok says

rest_line : (isa : InstructionSet) (line : List ℕ) (other : Option Name) (words : List (List ℕ))
    (rest : Result Says Cause)
    (label : Option Name) (says : Says)
    → head_of line ≡ Ok (other, words)
    → words_say isa words ≡ rest → label_with other rest ≡ Ok (label, says) → IsLine isa line label says
rest_line isa line other words (Err cause) label says head is h = absurd cc
rest_line isa line other words (Ok found) label says head is h = record
    { words = words; head = grind arith; rest = grind arith }

head_line : (isa : InstructionSet) (line : List ℕ) (head : Result (Option Name × List (List ℕ)) Cause)
    (label : Option Name) (says : Says)
    → head_of line ≡ head
    → with_head isa head ≡ Ok (label, says)
    → IsLine isa line label says
head_line isa line (Err cause) label says is h = absurd cc
head_line isa line (Ok (other, words)) label says is h =
    rest_line isa line other words (words_say isa words) label says is refl h

pub line_parts : (isa : InstructionSet) (line : List ℕ) (label : Option Name) (says : Says)
    → line_of isa line ≡ Ok (label, says)
    → IsLine isa line label says
unfolding line_of
line_parts isa line label says h = head_line isa line (head_of line) label says refl h

-- ---- its label

bars_are_no_label : is_label (124 ∷ 124 ∷ []) ≡ false
unfolding is_label
bars_are_no_label = refl

pub bars_field : (rest : List ℕ) → label_field (124 ∷ 124 ∷ 32 ∷ rest) ≡ None
unfolding label_field
bars_field rest = no_label_front (124 ∷ 124 ∷ []) (tokens (32 ∷ rest)) bars_are_no_label

-- a line that begins with bars has nothing in its label field
beside_field : (bytes : List ℕ) → starts_with nat_eq bytes (codes "|| ") ≡ true → label_field bytes ≡ None
beside_field [] h = absurd (false≢true h)
beside_field (a ∷ []) h = grind (arith, nat_tests)
beside_field (a ∷ b ∷ []) h = grind (arith, nat_tests)
beside_field (a ∷ b ∷ c ∷ rest) h = grind (arith, nat_tests, bars_field rest)

beside_start : (bytes : List ℕ) → Beside ≡ front_of bytes → starts_with nat_eq bytes (codes "|| ") ≡ true
beside_start bytes h = grind (arith, nat_tests)

-- a line is allowed where its rest is read
rest_allowed : (isa : InstructionSet) (rest : List ℕ) (label : Option Name) (says : Says)
    → line_of isa rest ≡ Ok (label, says)
    → list_all is_allowed rest ≡ true
unfolding line_of head_of
rest_allowed isa rest label says read = by_test (list_all is_allowed rest) refl
  where
    by_test : (b : Bool) → list_all is_allowed rest ≡ b → b ≡ true
    by_test true is = refl
    by_test false is = absurd (let refused = rw is at read in cc)

beside_allowed : (bytes : List ℕ) → starts_with nat_eq bytes (codes "|| ") ≡ true
    → list_all is_allowed (rest_of Beside bytes) ≡ true
    → list_all is_allowed bytes ≡ true
beside_allowed [] h rest = absurd (false≢true h)
beside_allowed (a ∷ []) h rest = grind (arith, nat_tests)
beside_allowed (a ∷ b ∷ bytes) h rest = grind (arith, nat_tests)

front_allowed : (front : Front) (bytes : List ℕ) → front ≡ front_of bytes
    → list_all is_allowed (rest_of front bytes) ≡ true
    → list_all is_allowed bytes ≡ true
front_allowed front bytes is rest = grind (arith, nat_tests, beside_allowed bytes, beside_start bytes)

pub line_allowed : (isa : InstructionSet) (front : Front) (bytes : List ℕ) (label : Option Name) (says : Says)
    → front ≡ front_of bytes
    → line_of isa (rest_of front bytes) ≡ Ok (label, says)
    → list_all is_allowed bytes ≡ true
line_allowed isa front bytes label says is read = front_allowed front bytes is
    (rest_allowed isa (rest_of front bytes) label says read)

pub empty_field : label_field [] ≡ None
unfolding label_field label_front
empty_field = refl

gap_field : (bytes : List ℕ) → Empty ≡ front_of bytes → label_field bytes ≡ None
gap_field bytes h = grind (arith, nat_tests, empty_field, gap_front bytes)

own_field : (isa : InstructionSet) (bytes : List ℕ) (label : Option Name) (says : Says) (name : Name)
    → line_of isa bytes ≡ Ok (label, says)
    → label_field bytes ≡ Some name
    → label ≡ Some name
own_field isa bytes label says name read field =
    let parts = line_parts isa bytes label says read in
    grind (arith, field_is bytes label parts.words parts.head)

field_by : (isa : InstructionSet) (front : Front) (bytes : List ℕ) (label : Option Name) (says : Says) (name : Name)
    → front ≡ front_of bytes
    → line_of isa (rest_of front bytes) ≡ Ok (label, says)
    → label_field bytes ≡ Some name → (label ≡ Some name) × (is_gap front ≡ false)
field_by isa front bytes label says name is read field =
    grind (
      arith,
      nat_tests,
      gap_field bytes,
      beside_field bytes,
      beside_start bytes,
      own_field isa bytes label says
          name,
    )

pub read_line : (isa : InstructionSet) (labels : List Name) (drafts : Drafts) (above : Above) (line : Line)
    (below : List Line) (said : Said)
    → IsTold isa labels drafts above line below said
    → line_of isa (rest_of said.front (content line)) ≡ Ok (said.label, said.says)
read_line isa labels drafts above line below said is =
    let rest : List ℕ = rest_of said.front (content line) in
    plain_read (is_taken (label_field rest) drafts) (has_colon rest) (line_of isa rest) (said.label, said.says) is.read

-- where a rest is read, its label field has the label that is read
pub rest_read : (isa : InstructionSet) (drafts : Drafts) (rest : List ℕ) (label : Option Name) (says : Says)
    (taken : Bool)
    → line_of isa rest ≡ Ok (label, says)
    → is_taken label drafts ≡ taken
    → rest_says isa drafts rest ≡ (if taken then Err DuplicateLabel else Ok (label, says))
rest_read isa drafts rest label says taken read is =
    let parts = line_parts isa rest label says read in
    rw (read, field_is rest label parts.words parts.head, is) refl

-- a line with a label in its label field says that label, and belongs to a block
pub has_name : (isa : InstructionSet) (labels : List Name) (drafts : Drafts) (above : Above) (line : Line)
    (below : List Line) (said : Said)
    (name : Name)
    → IsTold isa labels drafts above line below said → label_field (content line) ≡ Some name → (said.label ≡ Some name)
    × (is_gap said.front ≡ false)
has_name isa labels drafts above line below said name is field =
    field_by isa said.front (content line) said.label said.says name is.front
    (read_line isa labels drafts above line below said is) field

pub is_proper : (isa : InstructionSet) (labels : List Name) (drafts : Drafts) (above : Above) (line : Line)
    (below : List Line) (said : Said)
    → IsTold isa labels drafts above line below said
    → IsProper said.says
is_proper isa labels drafts above line below said is =
    let parts = line_parts isa (rest_of said.front (content line)) said.label said.says
    (read_line isa labels drafts above line below said is) in
    proper isa parts.words said.says parts.rest

pub is_taken_said : (isa : InstructionSet) (labels : List Name) (drafts : Drafts) (above : Above) (line : Line)
    (below : List Line) (said : Said)
    → IsTold isa labels drafts above line below said
    → AreTaken isa said.says
is_taken_said isa labels drafts above line below said is =
    let parts = line_parts isa (rest_of said.front (content line)) said.label said.says
    (read_line isa labels drafts above line below said is) in
    said_taken isa parts.words said.says parts.rest

-- a line of NOP begins as the first of a packet
pause_front : (front : Front) (bytes word : List ℕ) → bytes ≡ codes "   NOP " ++ word → front ≡ front_of bytes
    → rest_of front bytes ≡ bytes
pause_front front bytes word is begins = grind (arith, nat_tests)

short_by : (isa : InstructionSet) (front : Front) (label : Option Name) (says : Says) (bytes : List ℕ)
    → front ≡ front_of bytes
    → is_text bytes (spelled_line front label says) ≡ true
    → line_of isa (rest_of front bytes) ≡ Ok (label, says) → IsShort says
short_by isa front label Nothing bytes begins spelled read = tt
short_by isa front label (Does parts) bytes begins spelled read = tt
short_by isa front label (Jumps parts target) bytes begins spelled read = tt
short_by isa front (Some label) (Pause n) bytes begins spelled read = absurd (false≢true spelled)
short_by isa front None (Pause n) bytes begins spelled read =
    let is : bytes ≡ codes "   NOP " ++ decimal n = (bytes_eq-Decides bytes (codes "   NOP " ++ decimal n)).0 spelled in
    let parts = line_parts isa bytes None (Pause n) (rw (pause_front front bytes (decimal n) is begins) at read) in
    short isa bytes (decimal n) parts.words (Pause n) is parts.head parts.rest

pub is_short : (isa : InstructionSet) (labels : List Name) (drafts : Drafts) (above : Above) (line : Line)
    (below : List Line) (said : Said)
    → IsTold isa labels drafts above line below said
    → IsShort said.says
is_short isa labels drafts above line below said is =
    short_by isa said.front said.label said.says (content line) is.front is.spelled
    (read_line isa labels drafts above line below said is)
