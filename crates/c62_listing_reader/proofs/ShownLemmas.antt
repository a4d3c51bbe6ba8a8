-- What is read of a text is packets that a listing shows whole.
use Rattle.c62_listing_reader.proofs.Common.{arith, ◌≡◌, ℕ, ◌+◌, ◌<◌, ◌≤◌, List, [], ◌∷◌, ◌++◌, length, map, Option}
use Rattle.c62_listing_reader.proofs.Common.{Some, None, Bool, true, false}
use Rattle.c62_listing_reader.proofs.Common.{refl, sym, ap, ◌∙◌, subst, append-nil, ◌&&◌, is_some, if◌then◌else◌}
use Rattle.c62_listing_reader.proofs.Common.{nat_lt, Ok, Err, IsTrue, AllByRecursion}
use Rattle.c62_listing_reader.proofs.Common.{All, All-tail, bytes_eq, flat_map, option_to_list, list_any, length-append}
use Rattle.c62_listing_reader.proofs.Common.{length-map, map-append, nat_tests, none-some, false≢true}
use Rattle.c62_listing_reader.proofs.Common.{Says, Nothing, Pause, Does, Jumps, IsShort, tokens, is_label, field_is}
use Rattle.c62_listing_reader.proofs.Common.{line_of, Name, label_is, Placed, Packed, IsPacketBlock}
use Rattle.c62_listing_reader.proofs.Common.{Front, Above, Start, Line, lines_in, content, is_beside, is_gap, rest_of}
use Rattle.c62_listing_reader.proofs.Common.{Said, Draft, Drafts, no_drafts, all_drafts, opened}
use Rattle.c62_listing_reader.proofs.Common.{with_label, with_says, with_said, above_next, spelled_line, is_text}
use Rattle.c62_listing_reader.proofs.Common.{is_taken, rest_says, names_in, labels_of, aim_by}
use Rattle.c62_listing_reader.proofs.Common.{contents, most_bytes, draft_of, read_lines, IsRead, packet_labels}
use Rattle.std.specs.List.{IsDistinct}
use mathlib.Core.Path.{fun_ext}
use Rattle.std.proofs.lemmas.Cmp.{nat_list_eq_equiv}
use Rattle.std.proofs.lemmas.Grind.{flat_map-append}
use Rattle.std.proofs.lemmas.Map.Keys.{IsDistinct-push}
use Rattle.c62_rules.specs.Length.{length_of}
use Rattle.c62_packet.specs.Packed.{issues_of}
use Rattle.c62_line.specs.Line.{label_front, label_field}
use Rattle.c62_token.specs.Kind.{Word}
use Rattle.c62_packet.specs.Alike.{AreAlike}
use Rattle.c62_listing_reader.specs.Laws.{labels_given, AreShown, IsReadExactly}
use Rattle.c62_listing_reader.proofs.ClosedLemmas.{labels_same, read_closed}
use Rattle.c62_listing_reader.proofs.WithinLemmas.{read_within}
use Rattle.c62_listing_reader.proofs.FineBlocks.{go-start}
use Rattle.c62_listing_reader.proofs.ListedLemmas.{listed}
use Rattle.c62_listing_reader.proofs.NamedLemmas.{labels_in, says_label, few_by}
use Rattle.c62_listing_reader.proofs.ReadBackLemmas.{read_back}
use Rattle.c62_listing_reader.proofs.ToldLemmas.{IsTold, begun, over, if_err}
use Rattle.c62_listing_reader.proofs.ToldLines.{is_short, line_parts, read_line, rest_read}
use Rattle.c62_read.specs.declared.limits.TheConstants.{MOST_BLOCKS}
use Rattle.c62_op.specs.declared.set.InstructionSet.{InstructionSet}

-- ---- the label of a line

front_good : (words : List Word) (label : Name) → (label_front words).0 ≡ Some label → is_label label ≡ true
unfolding label_front
front_good [] label is = absurd (none-some label is)
front_good (word ∷ []) label is = absurd (none-some label is)
front_good (name ∷ colon ∷ words) label is = grind (arith, nat_tests)

pub field_good : (line : List ℕ) (label : Name) → label_field line ≡ Some label → is_label label ≡ true
unfolding label_field
field_good line label is = front_good (tokens line) label is

-- a line without faults gives a label that no block has
record IsFresh (drafts : Drafts) (label : Option Name) : Type 0 where
  pub good : (name : Name) → label ≡ Some name → is_label name ≡ true
  pub free : is_taken label drafts ≡ false

fresh : (isa : InstructionSet) (labels : List Name) (drafts : Drafts) (above : Above) (line : Line) (below : List Line)
    (said : Said)
    → IsTold isa labels drafts above line below said
    → IsFresh drafts said.label
fresh isa labels drafts above line below said is =
    let rest : List ℕ = rest_of said.front (content line) in
    let read : line_of isa rest ≡ Ok (said.label, said.says) = read_line isa labels drafts above line below said is in
    let parts = line_parts isa rest said.label said.says read in
    record {
      good = λ name e. field_good rest name (field_is rest said.label parts.words parts.head ∙ e);
      free = by_test (is_taken said.label drafts) refl;
    }
  where
    by_test : (taken : Bool) → is_taken said.label drafts ≡ taken → taken ≡ false
    by_test false e = refl
    by_test true e =
        let refused = rest_read isa drafts (rest_of said.front (content line)) said.label said.says true
        (read_line isa labels drafts above line below said is) e in
        let told = is.read in
        absurd cc

-- ---- the labels of blocks, line by line

abbrev given_in : List Draft → List Name
given_in drafts = flat_map option_to_list (labels_in drafts)

taken_by : (label : Name) (drafts : List Draft)
    → list_any (λ draft. label_is label draft.label) drafts ≡ list_any (λ other. bytes_eq other label)
    (given_in drafts)
taken_by label [] = refl
taken_by label (draft ∷ drafts) = grind (arith, nat_tests, taken_by label drafts)

good_more : (names : List Name) (label : Name) → AllByRecursion (λ name. IsTrue (is_label name)) names
    → is_label label ≡ true
    → AllByRecursion (λ name. IsTrue (is_label name)) (names ++ label ∷ [])
good_more [] label all is = (is, tt)
good_more (name ∷ names) label all is = (all.0, good_more names label all.1 is)

-- each label is one, and no two are the same
record AreGiven (names : List Name) : Type 0 where
  pub labels : AllByRecursion (λ name. IsTrue (is_label name)) names
  pub distinct : IsDistinct bytes_eq names

given_more : (drafts : List Draft) (label : Name) → AreGiven (given_in drafts) → is_label label ≡ true
    → list_any (λ draft. label_is label draft.label) drafts ≡ false → AreGiven (given_in drafts ++ label ∷ [])
given_more drafts label given good free = record {
  labels = good_more (given_in drafts) label given.labels good;
  distinct =
      let flipped = ap (λ (test : Name → Bool). list_any test (given_in drafts))
      (fun_ext (nat_list_eq_equiv.symm label)) in
      IsDistinct-push nat_list_eq_equiv (given_in drafts) label given.distinct (flipped ∙ sym (taken_by label drafts)
      ∙ free);
}

-- the labels of the blocks before the last, and of the last
given_last : (done : List Draft) (last : Draft)
    → given_in (done ++ last ∷ []) ≡ given_in done ++ option_to_list last.label
given_last done last =
    ap (flat_map option_to_list) (map-append (λ (draft : Draft). draft.label) done (last ∷ []))
    ∙ flat_map-append option_to_list (labels_in done) (last.label ∷ [])
    ∙ ap (λ (names : List Name). given_in done ++ names) (append-nil (option_to_list last.label))

-- the block that a line goes on with
next_given : (done : List Draft) (current : Option Draft) (label : Option Name) (next : Draft)
    → AreGiven (given_in (done ++ option_to_list current))
    → IsFresh (record { done = done; current = current }) label → (is_some label && is_some current) ≡ false
    → next.label ≡ (with_label label (opened current)).label
    → AreGiven (given_in (done ++ next ∷ []))
next_given done None None next given fresh outside same =
    let e : given_in (done ++ next ∷ []) ≡ given_in done = given_last done next
    ∙ ap (λ (l : Option Name). given_in done ++ option_to_list l) same ∙ append-nil (given_in done) in
    subst AreGiven (sym e) (rw (append-nil done) at given)
next_given done None (Some label) next given fresh outside same =
    let e : given_in (done ++ next ∷ []) ≡ given_in done ++ label ∷ [] = given_last done next
    ∙ ap (λ (l : Option Name). given_in done ++ option_to_list l) same in
    let before : AreGiven (given_in done) = rw (append-nil done) at given in
    let free : list_any (λ (draft : Draft). label_is label draft.label) done ≡ false = rw (append-nil done) at
    fresh.free in
    subst AreGiven (sym e) (given_more done label before (fresh.good label refl) free)
next_given done (Some draft) None next given fresh outside same =
    let e : given_in (done ++ next ∷ []) ≡ given_in (done ++ draft ∷ [])
    = given_last done next ∙ ap (λ (l : Option Name). given_in done ++ option_to_list l) same
    ∙ sym (given_last done draft) in
    subst AreGiven (sym e) given
next_given done (Some draft) (Some label) next given fresh outside same = absurd (false≢true (sym outside))

-- ---- a block without a label has cycles or instructions

abbrev IsOpenedBy : Draft → Type 0
IsOpenedBy draft = draft.label ≡ None → 0 < draft.cycles + length draft.placed

-- a line that says nothing gives a label
says_something : (bytes : List ℕ) (front : Front) → is_gap front ≡ false
    → is_text bytes (spelled_line front None Nothing) ≡ true → ⊥
says_something bytes front gap spelled = grind (arith, nat_tests)

opened_by : (aim : Name → ℕ) (line : ℕ) (bytes : List ℕ) (said : Said) (current : Option Draft)
    → is_gap said.front ≡ false
    → is_text bytes (spelled_line said.front said.label said.says) ≡ true → IsShort said.says
    → IsOpenedBy (with_says aim (is_beside said.front) line said.says (with_label said.label (opened current)))
opened_by aim line bytes said current gap spelled short none =
    by_says said.says said.label (is_beside said.front)
    (λ e l. says_something bytes said.front gap
    (subst (λ (s : Says). is_text bytes (spelled_line said.front None s) ≡ true) e
    (subst (λ (o : Option Name). is_text bytes (spelled_line said.front o said.says) ≡ true) l spelled))) short
    none
  where
    by_says : (says : Says) (label : Option Name) (beside : Bool) → (says ≡ Nothing → label ≡ None → ⊥) → IsShort says
        → IsOpenedBy (with_says aim beside line says (with_label label (opened current)))
    by_says Nothing None beside not short none = absurd (not refl refl)
    by_says Nothing (Some label) beside not short none = absurd (none-some label (sym none))
    by_says (Pause n) label beside not short none = omega (arith, short.0)
    by_says (Does parts) label true not short none = grind
        (arith, length-append (with_label label (opened current)).placed)
    by_says (Does parts) label false not short none = omega arith
    by_says (Jumps parts target) label true not short none = grind
        (arith, length-append (with_label label (opened current)).placed)
    by_says (Jumps parts target) label false not short none = omega arith

opened_more : (drafts : List Draft) (last : Draft) → AllByRecursion IsOpenedBy drafts → IsOpenedBy last
    → AllByRecursion IsOpenedBy (drafts ++ last ∷ [])
opened_more [] last all is = (is, tt)
opened_more (draft ∷ drafts) last all is = (all.0, opened_more drafts last all.1 is)

opened_first : (drafts : List Draft) (last : Draft) → AllByRecursion IsOpenedBy (drafts ++ last ∷ [])
    → AllByRecursion IsOpenedBy drafts
opened_first [] last all = tt
opened_first (draft ∷ drafts) last all = (all.0, opened_first drafts last all.1)

opened_done : (done : List Draft) (current : Option Draft) → AllByRecursion IsOpenedBy (done ++ option_to_list current)
    → AllByRecursion IsOpenedBy done
opened_done done None all = rw (append-nil done) at all
opened_done done (Some draft) all = opened_first done draft all

-- ---- the walk over the lines

record IsShowing (drafts : Drafts) : Type 0 where
  pub given : AreGiven (given_in (all_drafts drafts))
  pub opened : AllByRecursion IsOpenedBy (all_drafts drafts)

showing_on : (isa : InstructionSet) (labels : List Name) (aim : Name
    → ℕ) (number : ℕ) (drafts : Drafts) (above : Above) (line : Line) (below : List Line) (said : Said)
    → IsTold isa labels drafts above line below said → IsShowing drafts → IsShowing (with_said aim number said drafts)
showing_on isa labels aim number drafts above line below said is showing = by_gap (is_gap said.front) refl
  where
    next : Draft
    next = with_says aim (is_beside said.front) number said.says (with_label said.label (opened drafts.current))

    by_gap : (gap : Bool) → is_gap said.front ≡ gap
        → IsShowing (if gap then (record { done = all_drafts drafts; current = None }) else record
        { done = drafts.done; current = Some next })
    by_gap true gap = record {
      given = rw (append-nil (all_drafts drafts)) showing.given;
      opened = rw (append-nil (all_drafts drafts)) showing.opened;
    }
    by_gap false gap =
        let own = says_label aim (is_beside said.front) number said.says (with_label said.label (opened drafts.current))
        in
        record {
          given = next_given drafts.done drafts.current said.label next showing.given
              (fresh isa labels drafts above line below said is) is.outside own;
          opened = opened_more drafts.done next (opened_done drafts.done drafts.current showing.opened)
              (opened_by aim number (content line) said drafts.current gap is.spelled
              (is_short isa labels drafts above line below said is));
        }

all_showing : (isa : InstructionSet) (labels : List Name) (aim : Name
    → ℕ) (number : ℕ) (drafts : Drafts) (above : Above) (lines : List Line) (final : Drafts)
    → IsShowing drafts → read_lines isa labels aim number drafts above lines ≡ Ok final → IsShowing final
all_showing isa labels aim number drafts above [] final showing h = subst IsShowing
    (over isa labels aim number drafts above final h) showing
all_showing isa labels aim number drafts above (line ∷ below) final showing h =
    let start = begun isa labels aim number drafts above line below final h in
    let said : Said = start.said in
    all_showing isa labels aim (number + 1) (with_said aim number said drafts)
    (above_next said.front said.says) below final
    (showing_on isa labels aim number drafts above line below said start.is showing) start.others

none_given : AreGiven []
unfolding IsDistinct
none_given = record { labels = tt; distinct = tt }

-- ---- the packets

-- a packet block without instructions takes no cycle
begun_by : (block : Packed) → IsPacketBlock block → IsOpenedBy (draft_of block) → block.label ≡ None
    → 0 < length block.placed
begun_by block is opened none =
    let some : 0 < block.cycles + length (draft_of block).placed = opened none in
    let count : length (draft_of block).placed ≡ length block.placed = length-map block.placed _ in
    by_placed block.placed refl (is.own_length) some count
  where
    by_placed : (placed : List Placed) → block.placed ≡ placed → block.cycles ≡ length_of (issues_of block.placed)
        → 0 < block.cycles + length (draft_of block).placed
        → length (draft_of block).placed ≡ length block.placed → 0 < length block.placed
    by_placed [] e own some count =
        let zero : block.cycles ≡ 0 = own ∙ ap (λ (ps : List Placed). length_of (issues_of ps)) e in
        let none : length block.placed ≡ 0 = ap (λ (ps : List Placed). length ps) e in
        omega arith
    by_placed (p ∷ ps) e own some count = let more : length block.placed ≡ length (p ∷ ps) = ap
        (λ (qs : List Placed). length qs) e in omega arith

all_begun : (blocks : List Packed) → All IsPacketBlock blocks → AllByRecursion IsOpenedBy (map draft_of blocks)
    → AllByRecursion (λ block. block.label ≡ None → 0 < length block.placed) blocks
all_begun [] are opened = tt
all_begun (block ∷ blocks) are opened = (
  begun_by block (are 0 block (omega arith)) opened.0,
  all_begun blocks (All-tail IsPacketBlock block blocks are)
      opened.1,
)

-- packets that are read of a text are shown whole
pub read_shown : (isa : InstructionSet) (text : List ℕ) (packets : List Packed) → IsRead isa text packets
    → AreShown isa packets
read_shown isa text packets is =
    let final : Drafts = is.drafts in
    let lines : List Line = lines_in text in
    let entries : List (Name × ℕ) = names_in 0 (contents text) in
    let read = (if_err (nat_lt most_bytes (length text)) _ _ final is.said).1 in
    let showing : IsShowing final = all_showing isa (labels_of entries) (aim_by entries) 1 no_drafts Start lines final
    (record { given = none_given; opened = tt }) read in
    let few : length (all_drafts final) ≤ MOST_BLOCKS =
    few_by isa (labels_of entries) (aim_by entries) 1 no_drafts Start
    lines final go-start read in
    let count : length packets ≡ length (all_drafts final) = sym (length-map packets draft_of)
    ∙ ap (λ (drafts : List Draft). length drafts) is.blocks in
    let same : labels_given packets ≡ given_in (all_drafts final)
    = ap (flat_map option_to_list) (labels_same packets) ∙ ap (λ (drafts : List Draft). given_in drafts) is.blocks in
    record {
      few = omega arith;
      are_blocks = is.are_blocks;
      closed = read_closed isa text packets is;
      within = read_within isa text packets is;
      labels = subst (AllByRecursion (λ name. IsTrue (is_label name))) (sym same) showing.given.labels;
      distinct = subst (IsDistinct bytes_eq) (sym same) showing.given.distinct;
      begun = all_begun packets is.are_blocks (subst (AllByRecursion IsOpenedBy) (sym is.blocks) showing.opened);
    }

abbrev IsReadFrom : InstructionSet → List ℕ → List Packed → Type 0
IsReadFrom isa text packets = (others : List Packed) × IsRead isa text others × AreAlike packets others

pub read_exactly : (isa : InstructionSet) (text : List ℕ) → IsReadExactly isa text
read_exactly isa text = record {
  reads_listings = λ packets is. (read_shown isa text packets is, listed isa text packets is);
  listings_are_read = λ packets shown same. subst (λ (bytes : List ℕ). IsReadFrom isa bytes packets) same
      (read_back isa packets shown);
}
