-- A listing is read back.
use Rattle.c62_listing_reader.proofs.Common.{arith, ◌≡◌, ℕ, suc, ◌+◌, ◌<◌, ◌≤◌, List, [], ◌∷◌, ◌++◌, length, map}
use Rattle.c62_listing_reader.proofs.Common.{Option, Some, None, true, false}
use Rattle.c62_listing_reader.proofs.Common.{refl, sym, ap, ◌∙◌, subst, append_assoc, append-nil, nat_lt, All, IsTrue}
use Rattle.c62_listing_reader.proofs.Common.{Ok, AllByRecursion, IsDistinct}
use Rattle.c62_listing_reader.proofs.Common.{list_all, list_any, slice_get, IsNonDecreasingBy, bytes_eq, and_parts}
use Rattle.c62_listing_reader.proofs.Common.{false≢true, le-ltb, length-map}
use Rattle.c62_listing_reader.proofs.Common.{map-append, All-cons, All-nil, All-tail, none-some, slice_get_within}
use Rattle.c62_listing_reader.proofs.Common.{Operands, Block, op_of}
use Rattle.c62_listing_reader.proofs.Common.{operands_of, unit_of, landing_end, takes, is_labelled, target_stands}
use Rattle.c62_listing_reader.proofs.Common.{is_label, Name, is_among, label_is}
use Rattle.c62_listing_reader.proofs.Common.{Placed, Packed, IsPacketBlock, issue_of, listing_position, packet_labels}
use Rattle.c62_listing_reader.proofs.Common.{all_lines, label_text, listing}
use Rattle.c62_listing_reader.proofs.Common.{name_in, Start, Line, content, lines_in, aim_by, all_drafts, labels_of}
use Rattle.c62_listing_reader.proofs.Common.{names_in, no_drafts, number_of}
use Rattle.c62_listing_reader.proofs.Common.{contents, drafts_in, IsRead, most_bytes, read_lines, AreAlike}
use Rattle.std.proofs.lemmas.Bool.{not-false}
use Rattle.c62_insn.specs.Fault.{no_unit}
use Rattle.c62_insn.proofs.FaultLemmas.{faultless}
use Rattle.c62_listing_reader.specs.Laws.{AreShown, IsReadBack, is_within}
use Rattle.c62_listing_reader.proofs.AlikeLemmas.{made}
use Rattle.c62_listing_reader.proofs.BackLemmas.{AreBehind, IsSayable, IsWritable}
use Rattle.c62_listing_reader.proofs.BlocksLemmas.{AllGood, HasLines, all_lead, IsSmall}
use Rattle.c62_listing_reader.proofs.LinesLemmas.{IsNumbered, all_allowed, all_names, before_free, given}
use Rattle.c62_listing_reader.proofs.TextLengths.{all_length}
use Rattle.c62_listing_reader.proofs.LinesLemmas.{has_lines, member_at}
use Rattle.c62_listing_reader.proofs.LinesLemmas.{names_from, numbered}
use Rattle.c62_listing_reader.proofs.ReadLemmas.{is_done}
use Rattle.c62_listing_reader.proofs.TextLemmas.{fed}
use Rattle.c62_listing_reader.proofs.UntoldLemmas.{contents_back, lines_back}
use Rattle.std.proofs.lemmas.List.Elements.{All-weaker}
use Rattle.std.proofs.lemmas.Bool.{and_from}
use Rattle.c62_op.specs.Units.{is_taken_in}
use Rattle.c62_op.proofs.CoreLemmas.{core_stays}
use Rattle.c62_op.specs.declared.set.InstructionSet.TheVariants.{Full}
use Rattle.c62_op.specs.declared.set.InstructionSet.{InstructionSet}
use Rattle.c62_listing_reader.proofs.Common.{Bool, ◌&&◌}

-- ---- the instructions of a block

unit_taking : (p : Placed) → unit_of p.insn ≡ Some p.unit → takes (op_of p.insn) (operands_of p.insn) p.unit ≡ true
unit_taking p written =
    let none : no_unit Full (op_of p.insn) (operands_of p.insn) (unit_of p.insn) ≡ false =
    (faultless Full p.insn.op p.insn.operands p.insn.cond p.insn.unit p.insn.well_formed).taken in
    not-false (takes (op_of p.insn) (operands_of p.insn) p.unit)
    (ap (no_unit Full (op_of p.insn) (operands_of p.insn)) (sym written) ∙ none)

-- a branch goes to a block with a label
pub record HasTarget (labels : List (Option Name)) (number : ℕ) : Type 0 where
  pub label : Name
  pub at : slice_get labels number ≡ Some (Some label)

target_by : (labels : List (Option Name)) (number : ℕ) (found : Option (Option Name)) → slice_get labels number ≡ found
    → is_labelled found ≡ true
    → HasTarget labels number
target_by labels number None at is = absurd (false≢true is)
target_by labels number (Some None) at is = absurd (false≢true is)
target_by labels number (Some (Some label)) at is = record { label = label; at = at }

pub has_target : (labels : List (Option Name)) (operands : Operands) (number : ℕ) → target_stands labels operands ≡ true
    → operands ≡ Block number
    → HasTarget labels number
has_target labels operands number stands is = target_by labels number (slice_get labels number) refl
    (ap (target_stands labels) (sym is) ∙ stands)

module _ (isa : InstructionSet) (packets : List Packed) (shown : AreShown isa packets) where
  abbrev labels : List (Option Name)
  labels = packet_labels packets

  abbrev name : ℕ → List ℕ
  name = name_in packets

  abbrev names : List (Name × ℕ)
  names = names_from 0 labels

  -- a branch goes to a block with a label, and the instruction is one of the set
  abbrev fits_in : Placed → Bool
  fits_in p = target_stands labels (operands_of p.insn) && is_taken_in isa (op_of p.insn) (operands_of p.insn)

  both_fit : (placed : List Placed) → list_all (λ p. target_stands labels (operands_of p.insn)) placed ≡ true
      → list_all (λ p. is_taken_in isa (op_of p.insn) (operands_of p.insn)) placed ≡ true
      → list_all fits_in placed ≡ true
  both_fit [] stand within = refl
  both_fit (p ∷ placed) stand within =
      let here = and_parts (target_stands labels (operands_of p.insn)) _ stand in
      let own = and_parts (is_taken_in isa (op_of p.insn) (operands_of p.insn)) _ within in
      and_from (fits_in p) (list_all fits_in placed)
      (and_from (target_stands labels (operands_of p.insn))
      (is_taken_in isa (op_of p.insn) (operands_of p.insn)) here.0 own.0)
      (both_fit placed here.1 own.1)

  pub all_fit : (blocks : List Packed)
      → list_all (λ block. list_all (λ p. target_stands labels (operands_of p.insn)) block.placed) blocks ≡ true
      → list_all (λ block. is_within isa block) blocks ≡ true
      → list_all (λ block. list_all fits_in block.placed) blocks ≡ true
  all_fit [] stand within = refl
  all_fit (block ∷ blocks) stand within =
      let here = and_parts (list_all (λ (p : Placed). target_stands labels (operands_of p.insn)) block.placed) _ stand
      in
      let own = and_parts (is_within isa block) _ within in
      and_from (list_all fits_in block.placed) (list_all (λ (b : Packed). list_all fits_in b.placed) blocks)
      (both_fit block.placed here.0 own.0) (all_fit blocks here.1 own.1)

  named_so : (number : ℕ) (target : HasTarget labels number) → name number ≡ target.label
  named_so number target = ap label_text target.at

  good_name : (number : ℕ) → HasTarget labels number → is_label (name number) ≡ true
  good_name number target =
      ap is_label (named_so number target)
      ∙ member_at (λ (label : Name). IsTrue (is_label label)) labels number target.label target.at shown.labels

  numbered_so : (number : ℕ) (target : HasTarget labels number) → IsNumbered names target.label (0 + number)
  numbered_so number target = numbered labels 0 number target.label shown.distinct target.at

  known_so : (number : ℕ) → HasTarget labels number → is_among (name number) (labels_of names) ≡ true
  known_so number target = rw (named_so number target) (numbered_so number target).known

  aimed_so : (number : ℕ) → HasTarget labels number → aim_by names (name number) ≡ number
  aimed_so number target =
      let found : number_of names (name number) ≡ 0 + number = ap (number_of names) (named_so number target)
      ∙ (numbered_so number target).number in
      let near : number < length labels = slice_get_within labels number (Some target.label) target.at in
      let few = shown.few in
      omega (arith, found, near, few, length-map packets (λ (block : Packed). block.label))

  stands_of : (p : Placed) → fits_in p ≡ true → target_stands labels (operands_of p.insn) ≡ true
  stands_of p fit = (and_parts (target_stands labels (operands_of p.insn))
      (is_taken_in isa (op_of p.insn) (operands_of p.insn)) fit).0

  writable : (p : Placed) → unit_of p.insn ≡ Some p.unit → fits_in p ≡ true → IsWritable isa name p
  writable p written fit = record {
    taking =
        core_stays isa (op_of p.insn) (operands_of p.insn) p.unit
        (and_parts (target_stands labels (operands_of p.insn))
        (is_taken_in isa (op_of p.insn) (operands_of p.insn)) fit).1
        (unit_taking p written);
    names = λ number is. good_name number (has_target labels (operands_of p.insn) number (stands_of p fit) is);
  }

  sayable : (p : Placed) → unit_of p.insn ≡ Some p.unit → fits_in p ≡ true
      → IsSayable isa name (labels_of names) (aim_by names) p
  sayable p written fit = record {
    written = written;
    writable = writable p written fit;
    known = λ number is. known_so number (has_target labels (operands_of p.insn) number (stands_of p fit) is);
    aimed = λ number is. aimed_so number (has_target labels (operands_of p.insn) number (stands_of p fit) is);
  }

  pub all_placed : (P : Placed → Type 0)
      → ((p : Placed) → unit_of p.insn ≡ Some p.unit → fits_in p ≡ true → P p)
      → (placed : List Placed)
      → All (λ p. unit_of p.insn ≡ Some p.unit) placed
      → list_all fits_in placed ≡ true → All P placed
  all_placed P each [] written stand = All-nil P
  all_placed P each (p ∷ placed) written stand =
      let parts =
      and_parts (fits_in p) (list_all fits_in placed) stand in
      let here : unit_of p.insn ≡ Some p.unit = written 0 p (omega arith) in
      All-cons P p placed (each p here parts.0)
      (all_placed P each placed (All-tail (λ (q : Placed). unit_of q.insn ≡ Some q.unit) p placed written) parts.1)

  -- what is asked of one block
  pub record IsFit (block : Packed) : Type 0 where
    pub is : IsPacketBlock block
    pub stand : list_all fits_in block.placed ≡ true
    pub label : (l : Name) → block.label ≡ Some l → is_label l ≡ true
    pub begun : block.label ≡ None → 0 < length block.placed

  label_by : (label : Option Name) (more : List (Option Name))
      → AllByRecursion (λ l. IsTrue (is_label l)) (given (label ∷ more))
      → ((l : Name) → label ≡ Some l → is_label l ≡ true) × AllByRecursion (λ l. IsTrue (is_label l)) (given more)
  label_by None more all = (λ l is. absurd (none-some l is), all)
  label_by (Some label) more all = (λ l is. grind (arith, all.0), all.1)

  pub fit : (blocks : List Packed) → All IsPacketBlock blocks
      → list_all (λ block. list_all fits_in block.placed) blocks ≡ true
      → AllByRecursion (λ l. IsTrue (is_label l)) (given (packet_labels blocks))
      → AllByRecursion (λ block. block.label ≡ None → 0 < length block.placed) blocks
      → AllByRecursion IsFit blocks
  fit [] are stand good begun = tt
  fit (block ∷ blocks) are stand good begun =
      let parts = and_parts (list_all fits_in block.placed) _ stand in
      let both = label_by block.label (packet_labels blocks) good in (
        record { is = are 0 block (omega arith); stand = parts.0; label = both.0; begun = begun.0 },
        fit blocks (All-tail IsPacketBlock block blocks are) parts.1 both.1 begun.1,
      )

  pub each : (P : Packed → Type 0) → ((block : Packed) → IsFit block → P block) → (blocks : List Packed)
      → AllByRecursion IsFit blocks
      → AllByRecursion P blocks
  each P all [] are = tt
  each P all (block ∷ blocks) are = (all block are.0, each P all blocks are.1)

  behind_by : (q : Placed) (placed : List Placed) → IsNonDecreasingBy listing_position (q ∷ placed) → AreBehind q placed
  unfolding AreBehind
  behind_by q [] up = tt
  behind_by q (p ∷ placed) up =
      let first : listing_position q ≤ listing_position p = up 0 1 q (omega arith) (omega arith) in
      (first, behind_by p placed (λ i j d le within. up (suc i) (suc j) d (omega (arith, le)) (omega (arith, within))))

  pub order_by : (all : List Placed) → IsNonDecreasingBy listing_position all → (p : Placed) (rest : List Placed)
      → all ≡ p ∷ rest → AreBehind p rest
  order_by all up p rest is = behind_by p rest (rw is at up)

  within_by : (cycles : ℕ) (placed : List Placed) → All (λ p. landing_end (issue_of p) ≤ cycles) placed
      → All (λ p. p.cycle + 1 ≤ cycles) placed
  within_by cycles placed all =
      All-weaker (λ (p : Placed). landing_end (issue_of p) ≤ cycles) (λ (p : Placed). p.cycle + 1 ≤ cycles)
      (λ p le. omega (arith, le)) placed all

  pub all_writable : (block : Packed) → IsFit block → All (IsWritable isa name) block.placed
  all_writable block is = all_placed (IsWritable isa name) writable block.placed is.is.as_written is.stand

  pub lines_of : (block : Packed) → IsFit block → HasLines name block
  lines_of block is = has_lines isa name block is.label is.begun (all_writable block is)

  pub small : (block : Packed) → IsFit block → IsSmall isa name block
  small block is = record {
    label = is.label;
    writable = all_writable block is;
    order = order_by block.placed is.is.in_order;
    within = within_by block.cycles block.placed is.is.drained;
    few = is.is.few;
    short = is.is.short;
  }

  any_label : (label : Name) (passed : List Packed)
      → list_any (λ other. label_is label other.label) passed ≡ list_any (label_is label) (packet_labels passed)
  any_label label [] = refl
  any_label label (block ∷ passed) = grind (arith, any_label label passed)

  pub free_by : (passed rest : List Packed) (block : Packed) (label : Name)
      → IsDistinct bytes_eq (given (packet_labels (passed ++ block ∷ rest)))
      → block.label ≡ Some label
      → list_any (λ other. label_is label other.label) passed ≡ false
  free_by passed rest block label distinct is =
      let all : packet_labels (passed ++ block ∷ rest) ≡ packet_labels passed ++ Some label ∷ packet_labels rest =
      map-append (λ (b : Packed). b.label) passed (block ∷ rest)
      ∙ ap (λ (l : Option Name). packet_labels passed ++ l ∷ packet_labels rest) is in
      any_label label passed
      ∙ before_free (packet_labels passed) (packet_labels rest) label
      (subst (λ (ls : List (Option Name)). IsDistinct bytes_eq (given ls)) all distinct)

  good : (passed blocks : List Packed) → IsDistinct bytes_eq (given (packet_labels (passed ++ blocks)))
      → AllByRecursion IsFit blocks
      → AllGood isa name (labels_of names) (aim_by names) passed blocks
  unfolding AllGood
  good passed [] distinct are = tt
  good passed (block ∷ blocks) distinct are = (
    record {
      small = small block are.0;
      free = λ label is. free_by passed blocks block label distinct is;
      begun = are.0.begun;
      sayable = all_placed
          (IsSayable isa name (labels_of names) (aim_by names)) sayable block.placed are.0.is.as_written
          are.0.stand;
    },
    good (passed ++ block ∷ []) blocks
        (subst (λ (bs : List Packed). IsDistinct bytes_eq (given (packet_labels bs)))
        (sym (append_assoc passed (block ∷ []) blocks)) distinct) are.1,
  )

  back : (others : List Packed) × IsRead isa (listing packets) others × AreAlike packets others
  back =
      let fits : AllByRecursion IsFit packets =
      fit packets shown.are_blocks (all_fit packets shown.closed shown.within) shown.labels shown.begun in
      let lines : List (List ℕ) = all_lines name packets in
      let text : List ℕ = listing packets in
      let has : AllByRecursion (HasLines name) packets = each (HasLines name) lines_of packets fits in
      let allowed = all_allowed name packets has in
      let cut : lines_in text ≡ map fed lines = lines_back lines allowed in
      let same : contents text ≡ lines = ap (map content) cut ∙ contents_back lines allowed in
      let told : names_in 0 (contents text) ≡ names = ap (names_in 0) same
      ∙ all_names isa name packets (each (IsSmall isa name) small packets fits) in
      let short : nat_lt most_bytes (length text) ≡ false =
      le-ltb most_bytes (length text)
      (all_length isa name packets shown.few (each (IsSmall isa name) small packets fits)) in
      let lead = all_lead isa name (labels_of names) (aim_by names) packets 1 [] shown.few
      (good [] packets shown.distinct fits) has in
      let read : read_lines isa (labels_of names) (aim_by names) 1 no_drafts Start (map fed lines) ≡ Ok lead.final =
      ap (read_lines isa (labels_of names) (aim_by names) 1 no_drafts Start) (sym (append-nil (map fed lines)))
      ∙ lead.reads
      ∙ is_done isa (labels_of names) (aim_by names) lead.end [] lead.final lead.last refl in
      let said : drafts_in isa text ≡ Ok lead.final =
      rw short (subst (λ (ns : List (Name × ℕ)). read_lines isa (labels_of ns) (aim_by ns) 1 no_drafts Start
      (lines_in text)
      ≡ Ok lead.final) (sym told)
      (subst (λ (ls : List Line). read_lines isa (labels_of names) (aim_by names) 1 no_drafts Start ls ≡ Ok lead.final)
      (sym cut) read)) in
      let made_of = made (all_drafts lead.final) packets lead.is shown.are_blocks in (
        made_of.others,
        record
            { drafts = lead.final; said = said; blocks = made_of.same; are_blocks = made_of.are_blocks },
        made_of.alike,
      )

pub read_back : (isa : InstructionSet) (packets : List Packed) → IsReadBack isa packets
read_back isa packets shown = back isa packets shown
