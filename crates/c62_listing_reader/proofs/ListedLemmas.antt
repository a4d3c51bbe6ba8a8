-- What is read lists as its text.
use Rattle.c62_listing_reader.proofs.Common.{arith, ◌≡◌, ℕ, ◌+◌, ◌%◌, List, [], ◌∷◌, ◌++◌, length, map, Option, Some}
use Rattle.c62_listing_reader.proofs.Common.{None, Bool, true, false, refl, sym, ap, ◌∙◌, append_assoc, append-nil}
use Rattle.c62_listing_reader.proofs.Common.{nat_lt, if◌then◌else◌, is_some, Ok, list_all, slice_get, option_to_list}
use Rattle.c62_listing_reader.proofs.Common.{and_from, false≢true, nat_tests, Pause, Name, is_among, Packed, label_text}
use Rattle.c62_listing_reader.proofs.Common.{name_in, text_of, listing, Front, Above, Start, Line, lines_in, content}
use Rattle.c62_listing_reader.proofs.Common.{ends_in_return, is_ended, is_empty, begin_filled, is_gap, Said, Draft}
use Rattle.c62_listing_reader.proofs.Common.{Drafts, no_drafts, names_in, labels_of, aim_by, all_drafts, opened, ended}
use Rattle.c62_listing_reader.proofs.Common.{with_line, with_said, above_of, above_next, is_filled, goes_on}
use Rattle.c62_listing_reader.proofs.Common.{is_misplaced, contents, most_bytes, read_lines, IsRead}
use Rattle.std.proofs.Common.{◌⊎◌, inl, inr}
use Rattle.c62_read.specs.Text.{without_return}
use Rattle.c62_listing_reader.specs.Text.{put}
use Rattle.c62_listing_reader.proofs.ToldLemmas.{IsTold, begun, over, if_err}
use Rattle.c62_listing_reader.proofs.ToldLines.{gap_front, is_proper, is_short}
use Rattle.c62_listing_reader.proofs.FineBlocks.{IsGoing, beside_ends, go, go-start, opened_fine}
use Rattle.c62_listing_reader.proofs.ClosedLemmas.{labels_same}
use Rattle.c62_listing_reader.proofs.NamedLemmas.{aims, labels_in, says_filled}
use Rattle.c62_listing_reader.proofs.DraftLines.{idle_of, draft_lines, draft_all, all_same, all_last, begun_last}
use Rattle.c62_listing_reader.proofs.DraftLines.{next_last, next_low}
unfoldable use Rattle.c62_listing_reader.proofs.DraftLines.{head_lines, next_after, begun_lines}
use Rattle.c62_listing_reader.proofs.AddedLines.{IsReady, GoesOn, nothing_idle, block_on}
use Rattle.c62_op.specs.declared.set.InstructionSet.{InstructionSet}

-- ---- what is known of the lines so far

record IsWritten (drafts : Drafts) (above : Above) (lines : List Line) : Type 0 where
  pub going : IsGoing drafts above
  pub idle : goes_on (Pause 0) above ≡ false → idle_of (opened drafts.current) % 9 ≡ 0
  pub filled : is_filled above ≡ is_some drafts.current
  pub last : drafts.current ≡ None → (drafts.done ≡ []) ⊎ (begin_filled lines ≡ true)

-- ---- the block that a line goes on with

is_ready : (front : Front) (drafts : Drafts) (above : Above) → is_misplaced front above ≡ false → IsGoing drafts above
    → IsReady front (opened drafts.current)
is_ready front drafts above placed going = record {
  low = next_low 0 (opened drafts.current).cycles (opened drafts.current).placed (omega arith)
      (opened_fine drafts.current (λ draft e. (going.current draft e).0)).below;
  full = λ is.
      let ends = beside_ends front None drafts.current above placed refl going.closed
      (λ draft e. (going.current draft e).1) is in
      (ap (next_after 0) ends.is ∙ next_last 0 ends.before ends.last ∙ ends.cycle, omega (arith, ends.cycle));
}

-- ---- the walk over the lines

abbrev written : (ℕ → List ℕ) → Drafts → List (List ℕ)
written name drafts = begun_lines name drafts.done ++ draft_lines name (opened drafts.current)

record IsOn (name : ℕ
    → List ℕ) (old : Drafts) (bytes : List ℕ) (new : Drafts) (above : Above) (below : List Line) : Type 0 where
  pub is : IsWritten new above below
  pub adds : written name new ≡ written name old ++ bytes ∷ []

empty_lines : (name : ℕ → List ℕ) → draft_lines name (opened None) ≡ []
unfolding head_lines next_after
empty_lines name = refl

gap_adds : (name : ℕ → List ℕ) (done : List Draft) (current : Option Draft) → is_some current ≡ true
    → begun_lines name (done ++ option_to_list current) ++ draft_lines name (opened None)
    ≡ (begun_lines name done ++ draft_lines name (opened current)) ++ [] ∷ []
gap_adds name done None some = absurd (false≢true some)
gap_adds name done (Some draft) some = rw (empty_lines name, append-nil, begun_last name done draft) refl

empty_all : (name : ℕ → List ℕ) → begun_lines name [] ++ draft_lines name (opened None) ≡ draft_all name ([] ++ [])
unfolding begun_lines head_lines next_after
empty_all name = refl

some_empty : (bytes : List ℕ) → is_empty bytes ≡ true → bytes ≡ []
some_empty bytes is = grind (arith, nat_tests)

module _ (isa : InstructionSet) (name : ℕ → List ℕ) (labels : List Name) (aim : Name → ℕ)
    (aims : (target : Name) → is_among target labels ≡ true → name (aim target) ≡ target) where
  line_on : (number : ℕ) (said : Said) (drafts : Drafts) (above : Above) (line : Line) (below : List Line)
      → IsWritten drafts above (line ∷ below) → IsTold isa labels drafts above line below said
      → IsGoing (with_said aim number said drafts) (above_next said.front said.says)
      → IsOn name drafts (content line) (with_said aim number said drafts) (above_next said.front said.says) below
  line_on number said drafts above line below is told going =
      let idle : is_gap said.front ≡ false → goes_on (Pause 0) (above_of said.says) ≡ false
      → idle_of next % 9 ≡ 0 = λ gap. (on gap).idle in
      record {
        is = record {
          going = going;
          idle = λ free. grind (arith, nat_tests, nothing_idle None, idle);
          filled = grind (arith, nat_tests, says_filled said.says);
          last = λ over. inr (grind (arith, nat_tests, told.between));
        };
        adds = by_gap (is_gap said.front) refl;
      }
    where
      next : Draft
      next = with_line aim number said (opened drafts.current)

      on : is_gap said.front ≡ false → GoesOn name said.says (content line) (opened drafts.current) next
      on gap = block_on isa name labels aim aims said.front number said.label said.says drafts.current above
          (content line)
          gap told.spelled
          (is_short isa labels drafts above line below said told)
          (is_proper isa labels drafts above line below said told)
          told.known
          told.pauses is.idle (is_ready said.front drafts above told.placed is.going) told.outside

      by_gap : (gap : Bool) → is_gap said.front ≡ gap
          → written name (if gap then ended drafts else record { done = drafts.done; current = Some next }) ≡ written
          name drafts ++ content line ∷ []
      by_gap true gap =
          let none : content line ≡ [] = grind
          (arith, nat_tests, gap_front (content line), some_empty (content line), told.front) in
          let some : is_some drafts.current ≡ true = grind (arith, nat_tests, told.between, is.filled) in
          rw none (gap_adds name drafts.done drafts.current some)
      by_gap false gap =
          rw (on gap).adds (sym
          (append_assoc (begun_lines name drafts.done) (draft_lines name (opened drafts.current))
          (content line ∷ [])))

  ends_by : (done : List Draft) (current : Option Draft) (above : Above)
      → IsWritten (record { done = done; current = current }) above []
      → written name (record { done = done; current = current }) ≡ draft_all name (done ++ option_to_list current)
  ends_by done (Some draft) above is = all_last name done draft
  ends_by done None above is = elim (is.last refl) [
    | inl none ↦ ap (λ (drafts : List Draft). begun_lines name drafts ++ draft_lines name (opened None)) none
        ∙ empty_all name
        ∙ ap (λ (drafts : List Draft). draft_all name (drafts ++ [])) (sym none)
    | inr filled ↦ absurd (false≢true filled)
  ]

  lists : (number : ℕ) (drafts : Drafts) (above : Above) (lines : List Line) (final : Drafts)
      → IsWritten drafts above lines
      → read_lines isa labels aim number drafts above lines ≡ Ok final
      → written name drafts ++ map content lines ≡ draft_all name (all_drafts final)
  lists number drafts above [] final is h =
      append-nil (written name drafts) ∙ ends_by drafts.done drafts.current above is
      ∙ ap (λ (d : Drafts). draft_all name (all_drafts d)) (over isa labels aim number drafts above final h)
  lists number drafts above (line ∷ below) final is h =
      let start = begun isa labels aim number drafts above line below final h in
      let said : Said = start.said in
      let going = go isa labels aim number said drafts above line below is.going start.is in
      let on = line_on number said drafts above line below is start.is going in
      let rest = lists (number + 1) (with_said aim number said drafts) (above_next said.front said.says) below final
      on.is start.others in
      grind (arith, append_assoc (written name drafts), on.adds, rest)

-- ---- the text of lines that a line feed ends

pub unreturned : (bytes : List ℕ) → ends_in_return bytes ≡ false → without_return bytes ≡ bytes
unreturned [] none = refl
unreturned (b ∷ []) none = rw none refl
unreturned (b ∷ c ∷ bytes) none = ap (λ (line : List ℕ). b ∷ line) (unreturned (c ∷ bytes) none)

-- a byte more stands in the first line
put_text : (b : ℕ) (rest : List ℕ) (lines : List Line) → list_all is_ended (put b lines) ≡ true
    → (list_all is_ended lines ≡ true → text_of (map content lines) ≡ rest)
    → text_of (map content (put b lines)) ≡ b ∷ rest
put_text b rest [] all is = absurd (false≢true all)
put_text b rest (line ∷ lines) all is = grind (arith, nat_tests, unreturned line.bytes, unreturned (b ∷ line.bytes), is)

-- a text is that of its lines, where a line feed alone ends each
text_back : (text : List ℕ) → list_all is_ended (lines_in text) ≡ true → text_of (contents text) ≡ text
text_back [] all = refl
text_back (b ∷ rest) all = grind (arith, nat_tests, put_text b rest (lines_in rest), text_back rest)

all_ended : (isa : InstructionSet) (labels : List Name) (aim : Name
    → ℕ) (number : ℕ) (drafts : Drafts) (above : Above) (lines : List Line) (final : Drafts)
    → read_lines isa labels aim number drafts above lines ≡ Ok final → list_all is_ended lines ≡ true
all_ended isa labels aim number drafts above [] final h = refl
all_ended isa labels aim number drafts above (line ∷ below) final h =
    let start = begun isa labels aim number drafts above line below final h in
    let said : Said = start.said in
    and_from (is_ended line) (list_all is_ended below) start.is.ended
    (all_ended isa labels aim (number + 1) (with_said aim number said drafts)
    (above_next said.front said.says) below final
    start.others)

-- ---- what is read

pub listed : (isa : InstructionSet) (text : List ℕ) (packets : List Packed) → IsRead isa text packets
    → listing packets ≡ text
listed isa text packets is =
    let final : Drafts = is.drafts in
    let lines : List Line = lines_in text in
    let entries : List (Name × ℕ) = names_in 0 (contents text) in
    let read = if_err (nat_lt most_bytes (length text)) _ _ final is.said in
    let name : ℕ → List ℕ = name_in packets in
    let aims_by : (target : Name) → is_among target (labels_of entries) ≡ true → name (aim_by entries target) ≡ target =
    λ target known. ap (λ (labels : List (Option Name)). label_text (slice_get labels (aim_by entries target)))
    (labels_same packets ∙ ap labels_in is.blocks) ∙ ap label_text (aims isa lines final read.1 target known) in
    let start : IsWritten no_drafts Start lines = record
    { going = go-start; idle = λ e. nothing_idle None; filled = refl; last = λ e. inl refl } in
    let all : contents text ≡ draft_all name (all_drafts final) =
    ap (λ (lines : List (List ℕ)). lines ++ contents text) (sym (empty_all name))
    ∙ lists isa name (labels_of entries) (aim_by entries) aims_by 1 no_drafts Start lines final start read.1 in
    ap text_of (all_same name packets is.are_blocks ∙ ap (draft_all name) is.blocks ∙ sym all)
    ∙ text_back text (all_ended isa (labels_of entries) (aim_by entries) 1 no_drafts Start lines final read.1)
