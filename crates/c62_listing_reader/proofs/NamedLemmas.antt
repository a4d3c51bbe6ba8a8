-- The labels of the blocks that are read, and the numbers of targets.
use Rattle.c62_listing_reader.proofs.Common.{nat_tests, arith, ◌≡◌, ℕ, zero, suc, ◌+◌, ◌<◌, ◌≤◌, List, [], ◌∷◌, ◌++◌}
use Rattle.c62_listing_reader.proofs.Common.{length, map, min, Option, Some}
use Rattle.c62_listing_reader.proofs.Common.{None, Bool, true, false, refl, ap, ◌∙◌, subst, length-append, append-nil}
use Rattle.c62_listing_reader.proofs.Common.{◌&&◌, if◌then◌else◌, is_some}
use Rattle.c62_listing_reader.proofs.Common.{Ok, slice_get, option_to_list, false≢true, length-map, map-append}
use Rattle.c62_listing_reader.proofs.Common.{none-some, slice_get_within}
use Rattle.c62_listing_reader.proofs.Common.{bytes_eq-Decides, Says, label_field, Name, is_among, Above, Start, Line}
use Rattle.c62_listing_reader.proofs.Common.{content, is_empty, is_beside}
use Rattle.c62_listing_reader.proofs.Common.{is_gap, Said, Draft, Drafts, no_drafts, all_drafts, opened, with_label}
use Rattle.c62_listing_reader.proofs.Common.{with_says, with_said, above_of}
use Rattle.c62_listing_reader.proofs.Common.{above_next, named, number_after, names_in, labels_of, number_of, aim_by}
use Rattle.c62_listing_reader.proofs.Common.{is_filled, is_alone, read_lines}
use Rattle.c62_listing_reader.proofs.FineBlocks.{IsGoing, go, go-start}
use Rattle.c62_listing_reader.proofs.ToldLemmas.{begun, over}
use Rattle.c62_listing_reader.proofs.ToldLines.{gap_front, has_name}
use Rattle.c62_read.specs.declared.limits.TheConstants.{MOST_BLOCKS}
use Rattle.c62_op.specs.declared.set.InstructionSet.{InstructionSet}

-- ---- blocks with labels

abbrev pub labels_in : List Draft → List (Option Name)
labels_in drafts = map (λ draft. draft.label) drafts

-- the block of this number is there and has this label
abbrev pub IsNamed : List Draft → ℕ → Name → Type 0
IsNamed drafts number name = slice_get (labels_in drafts) number ≡ Some (Some name)

kept_more : (done more : List Draft) (i : ℕ) (name : Name) → IsNamed done i name → IsNamed (done ++ more) i name
kept_more [] more i name is = absurd (none-some (Some name) is)
kept_more (draft ∷ done) more zero name is = is
kept_more (draft ∷ done) more (suc i) name is = kept_more done more i name is

pub at_seam : {X : Type 0} (xs : List X) (y : X) (ys : List X) → slice_get (xs ++ y ∷ ys) (length xs) ≡ Some y
at_seam [] y ys = refl
at_seam (x ∷ xs) y ys = at_seam xs y ys

named_last : (done : List Draft) (draft : Draft) (name : Name) → draft.label ≡ Some name
    → IsNamed (done ++ draft ∷ []) (length done) name
named_last done draft name is =
    let label : Draft → Option Name = λ d. d.label in
    rw (map-append label done (draft ∷ []), is, ← length-map done label) (at_seam (labels_in done) (Some name) [])

-- ---- what a line does to the label of its block

label_given : (label : Option Name) (draft : Draft) (name : Name) → label ≡ Some name
    → (with_label label draft).label ≡ Some name
label_given label draft name is = grind arith

pub says_label : (aim : Name → ℕ) (beside : Bool) (line : ℕ) (says : Says) (draft : Draft)
    → (with_says aim beside line says draft).label ≡ draft.label
says_label aim beside line says draft = grind (arith, nat_tests)

-- the block that a line goes on with
abbrev next_block : (Name → ℕ) → ℕ → Said → Option Draft → Draft
next_block aim number said current = with_says aim (is_beside said.front) number said.says
    (with_label said.label (opened current))

-- ---- the walk over the lines: as many blocks are over as empty lines are above

record IsCounted (drafts : Drafts) (above : Above) (number : ℕ) : Type 0 where
  pub count : length drafts.done ≡ number
  pub filled : is_filled above ≡ is_some drafts.current

pub says_filled : (says : Says) → is_filled (above_of says) ≡ true
says_filled says = grind (arith, nat_tests)

abbrev after_gap : Bool → ℕ → ℕ
after_gap gap number = if gap then number + 1 else number

-- the labels of blocks so far stay after a line
abbrev Keeps : Drafts → Drafts → Type 0
Keeps old new = (i : ℕ) (name : Name) → IsNamed (all_drafts old) i name → IsNamed (all_drafts new) i name

record IsStep (old : Drafts) (above : Above) (number : ℕ) (label : Option Name) (gap : Bool) (new : Drafts)
    (next : Above) : Type 0 where
  pub counted : IsCounted new next (after_gap gap number)
  pub keeps : Keeps old new
  pub names : (name : Name) → label ≡ Some name → gap ≡ false → IsNamed (all_drafts new) number name

-- a block that goes on keeps its label
on_keeps : (done : List Draft) (current : Option Draft) (label : Option Name) (next : Draft)
    → (is_some label && is_some current) ≡ false
    → next.label ≡ (with_label label (opened current)).label → (i : ℕ) (name : Name)
    → IsNamed (done ++ option_to_list current) i name
    → IsNamed (done ++ next ∷ []) i name
on_keeps done None label next outside same i name is = kept_more done (next ∷ []) i name (rw (append-nil done) at is)
on_keeps done (Some draft) label next outside same i name is = grind
    (arith, nat_tests, map-append (λ (d : Draft). d.label) done)

step_by : (aim : Name → ℕ) (line : ℕ) (said : Said) (drafts : Drafts) (above : Above) (below : List Line) (number : ℕ)
    → IsCounted drafts above number → is_alone said.front above below ≡ false
    → (is_some said.label && is_some drafts.current) ≡ false
    → IsStep drafts above number said.label (is_gap said.front) (with_said aim line said drafts)
    (above_next said.front said.says)
step_by aim line said drafts above below number counted between outside =
    let block : Draft = with_label said.label (opened drafts.current) in
    let next : Draft = next_block aim line said drafts.current in
    let same : next.label ≡ block.label = says_label aim (is_beside said.front) line said.says block in
    record {
      counted = record {
        count = grind (arith, nat_tests, counted.count, counted.filled, between, length-append {A = Draft});
        filled = grind (arith, nat_tests, says_filled said.says);
      };
      keeps = λ i name is. grind (
        arith,
        nat_tests,
        append-nil {A = Draft},
        on_keeps drafts.done drafts.current said.label next outside
            same i name,
      );
      names = λ name is gap. grind (
        arith,
        nat_tests,
        counted.count,
        same,
        label_given said.label (opened drafts.current) name is,
        named_last drafts.done next name,
      );
    }

-- each of these labels is that of its block
pub AllNamed : Drafts → List (Name × ℕ) → Type 0
AllNamed final [] = Unit {0}
AllNamed final (entry ∷ names) = IsNamed (all_drafts final) entry.1 entry.0 × AllNamed final names

all_named : (final : Drafts) (field : Option Name) (number : ℕ) (names : List (Name × ℕ))
    → ((name : Name) → field ≡ Some name → IsNamed (all_drafts final) number name)
    → AllNamed final names → AllNamed final (named field number ++ names)
unfolding AllNamed
all_named final None number names here others = others
all_named final (Some name) number names here others = (here name refl, others)

no_names : (final : Drafts) → AllNamed final []
unfolding AllNamed
no_names final = tt

-- a label that is there stays to the end, and each label of these lines is that of its block
record AreNamed (drafts : Drafts) (number : ℕ) (lines : List Line) (final : Drafts) : Type 0 where
  pub keeps : Keeps drafts final
  pub names : AllNamed final (names_in number (map content lines))

are_named : (isa : InstructionSet) (labels : List Name) (aim : Name
    → ℕ) (line number : ℕ) (drafts : Drafts) (above : Above) (lines : List Line) (final : Drafts)
    → IsCounted drafts above number
    → read_lines isa labels aim line drafts above lines ≡ Ok final → AreNamed drafts number lines final
are_named isa labels aim line number drafts above [] final counted h =
    let same = over isa labels aim line drafts above final h in
    record { keeps = subst (Keeps drafts) same (λ i name is. is); names = no_names final }
are_named isa labels aim line number drafts above (first ∷ below) final counted h =
    let start = begun isa labels aim line drafts above first below final h in
    let said : Said = start.said in
    let step = step_by aim line said drafts above below number counted start.is.between start.is.outside in
    let gap : is_gap said.front ≡ is_empty (content first) = ap is_gap start.is.front ∙ gap_front (content first) in
    let counted_on : IsCounted (with_said aim line said drafts) (above_next said.front said.says)
    (number_after (content first) number) =
    subst (λ (b : Bool). IsCounted (with_said aim line said drafts) (above_next said.front said.says)
    (after_gap b number)) gap step.counted in
    let rest = are_named isa labels aim (line + 1) (number_after (content first) number)
    (with_said aim line said drafts)
    (above_next said.front said.says) below final counted_on start.others in
    let here : (name : Name) → label_field (content first) ≡ Some name → IsNamed (all_drafts final) number name =
    λ name field. (
    let has = has_name isa labels drafts above first below said name start.is field in
    rest.keeps number name (step.names name has.0 has.1)
    ) in
    record {
      keeps = λ i name is. rest.keeps i name (step.keeps i name is);
      names = all_named final (label_field (content first)) number
          (names_in (number_after (content first) number) (map content below)) here rest.names;
    }

-- ---- there are few blocks

pub few_by : (isa : InstructionSet) (labels : List Name) (aim : Name
    → ℕ) (number : ℕ) (drafts : Drafts) (above : Above) (lines : List Line) (final : Drafts)
    → IsGoing drafts above
    → read_lines isa labels aim number drafts above lines ≡ Ok final → length (all_drafts final) ≤ MOST_BLOCKS
few_by isa labels aim number drafts above [] final going h =
    rw (← over isa labels aim number drafts above final h) going.few
few_by isa labels aim number drafts above (line ∷ below) final going h =
    let start = begun isa labels aim number drafts above line below final h in
    let said : Said = start.said in
    let next = go isa labels aim number said drafts above line below going start.is in
    few_by isa labels aim (number + 1) (with_said aim number said drafts)
    (above_next said.front said.says) below final next
    start.others

-- ---- the number of a target

number_by : (final : Drafts) (names : List (Name × ℕ)) (target : Name) → AllNamed final names
    → is_among target (labels_of names) ≡ true
    → IsNamed (all_drafts final) (number_of names target) target
unfolding AllNamed
number_by final [] target all known = absurd (false≢true known)
number_by final (entry ∷ names) target all known =
    grind (arith, nat_tests, bytes_eq-Decides entry.0 target, all.0, number_by final names target all.1)

aimed_at : (names : List (Name × ℕ)) (final : Drafts) (target : Name) → length (all_drafts final) ≤ MOST_BLOCKS
    → AllNamed final names
    → is_among target (labels_of names) ≡ true
    → IsNamed (all_drafts final) (aim_by names target) target
aimed_at names final target few all known =
    let found = number_by final names target all known in
    let near : number_of names target < length (labels_in (all_drafts final)) =
    slice_get_within (labels_in (all_drafts final)) (number_of names target) (Some target) found in
    let same : number_of names target ≡ min 255 (number_of names target) =
    omega (arith, near, few, length-map (all_drafts final) (λ (draft : Draft). draft.label)) in
    subst (λ (n : ℕ). IsNamed (all_drafts final) n target) same found

-- the number of a text's label is that of the block with this label
pub aims : (isa : InstructionSet) (lines : List Line) (final : Drafts)
    → read_lines isa (labels_of (names_in 0 (map content lines))) (aim_by (names_in 0 (map content lines))) 1 no_drafts
    Start lines ≡ Ok final
    → (target : Name) → is_among target (labels_of (names_in 0 (map content lines))) ≡ true
    → IsNamed (all_drafts final) (aim_by (names_in 0 (map content lines)) target) target
aims isa lines final h target known =
    let names : List (Name × ℕ) = names_in 0 (map content lines) in
    let few = few_by isa (labels_of names) (aim_by names) 1 no_drafts Start lines final go-start h in
    let all = are_named isa (labels_of names) (aim_by names) 1 0 no_drafts Start lines final
    (record { count = refl; filled = refl }) h in
    aimed_at names final target few all.names known
