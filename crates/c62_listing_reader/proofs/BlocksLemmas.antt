-- The lines of blocks are read as the blocks.
use Rattle.c62_listing_reader.proofs.Common.{arith, ◌≡◌, ℕ, suc, ◌+◌, ◌<◌, ◌≤◌, List, [], ◌∷◌, ◌++◌, length, map}
use Rattle.c62_listing_reader.proofs.Common.{Option, Some, None, Bool, true, false, not, refl, sym, ap, ◌∙◌}
use Rattle.c62_listing_reader.proofs.Common.{append_assoc, append-nil, length-append, ◌&&◌, ◌==◌, is_some, All, Ok}
use Rattle.c62_listing_reader.proofs.Common.{codes, AllByRecursion, list_all, list_any, nat_tests, length-map, is_label}
use Rattle.c62_listing_reader.proofs.Common.{Nothing, Name, label_is, label_parts, label_back, Placed, Packed}
use Rattle.c62_listing_reader.proofs.Common.{block_lines, cycle_lines, label_lines, parted_lines, all_lines, Empty}
use Rattle.c62_listing_reader.proofs.Common.{Above, Start, Line, is_empty, begin_filled, front_of, has_colon, Draft}
use Rattle.c62_listing_reader.proofs.Common.{Drafts, no_drafts, all_drafts, opened, is_filled, is_taken}
use Rattle.std.proofs.lemmas.List.Sums.{take_while-cons}
use Rattle.c62_token.specs.Token.{is_word_byte}
use Rattle.c62_line.specs.Line.{head_of, label_front, line_of, rest_says as words_say}
use Rattle.c62_line.proofs.SpelledOperands.{label_some}
use Rattle.c62_listing_reader.specs.declared.line.Front.TheVariants.{Label}
use Rattle.c62_listing_reader.proofs.TextLemmas.{fed}
use Rattle.c62_listing_reader.proofs.ToldLines.{empty_field}
use Rattle.c62_listing_reader.proofs.UntoldLemmas.{are_allowed, fed_content, fed_ended, line_read, same_bytes}
use Rattle.c62_listing_reader.proofs.BackLemmas.{AreBehind, IsSayable, start_leads, IsWritable}
use Rattle.c62_listing_reader.proofs.LeadingLines.{IsCalm, IsIn, Leads, key_of, no_lines, one_line, then_lines, unlined}
use Rattle.c62_listing_reader.specs.Faults.{line_says}
use Rattle.c62_read.specs.declared.limits.TheConstants.{MOST_BLOCKS, MOST_INSTRUCTIONS}
use Rattle.c62_packet.specs.declared.limits.TheConstants.{MOST_CYCLES}
use Rattle.c62_op.specs.declared.set.InstructionSet.{InstructionSet}

-- ---- a label line

colon_at_end : (w : List ℕ) → list_all is_word_byte w ≡ true → has_colon (w ++ 58 ∷ []) ≡ true
colon_at_end [] words = refl
colon_at_end (b ∷ w) words = grind
    (arith, nat_tests, take_while-cons (λ (x : ℕ). not (x == 59)) b (w ++ 58 ∷ []), colon_at_end w)

label_front_is : (label : Name) → 1 ≤ length label → list_all is_word_byte label ≡ true
    → front_of (label ++ 58 ∷ []) ≡ Label
label_front_is [] some words = absurd (omega arith)
label_front_is (b ∷ label) some words = grind (arith, nat_tests, colon_at_end (b ∷ label))

label_said : (isa : InstructionSet) (labels : List Name) (done : List Draft) (label : Name) (below : List Line)
    → is_label label ≡ true
    → length done < MOST_BLOCKS
    → is_taken (Some label) (record { done = done; current = None }) ≡ false
    → line_says isa labels (record { done = done; current = None }) Start (fed (label ++ codes ":")) below ≡ Ok
    (record { front = Label; label = Some label; says = Nothing })
unfolding line_says
label_said isa labels done label below is few free =
    let back = label_back isa label is in
    let read = line_read isa (label ++ codes ":") (Some label) Nothing back.0 in
    grind (
      arith,
      nat_tests,
      back.0,
      back.1,
      read.allowed,
      read.fits,
      fed_content (label ++ codes ":"),
      fed_ended (label ++ codes ":"),
      same_bytes (label ++ codes ":"),
      label_front_is label (label_some label is) (label_parts label is).1,
    )

-- ---- an empty line

gap_line : (isa : InstructionSet) → line_of isa [] ≡ Ok (None, Nothing)
unfolding line_of head_of label_front words_say
gap_line isa = refl

gap_said : (isa : InstructionSet) (labels : List Name) (drafts : Drafts) (above : Above) (below : List Line)
    → is_filled above ≡ true
    → begin_filled below ≡ true
    → (opened drafts.current).cycles ≤ MOST_CYCLES
    → line_says isa labels drafts above (fed []) below ≡ Ok (record { front = Empty; label = None; says = Nothing })
unfolding line_says
gap_said isa labels drafts above below filled begins short = grind (arith, nat_tests, gap_line isa, empty_field)

-- ---- blocks that are the same but for the lines of their instructions

pub record IsLike (draft : Draft) (block : Packed) : Type 0 where
  pub label : draft.label ≡ block.label
  pub cycles : draft.cycles ≡ block.cycles
  pub placed : map unlined draft.placed ≡ map key_of block.placed

unfoldable pub AllLike : List Draft → List Packed → Type 0
AllLike [] [] = Unit {0}
AllLike (draft ∷ drafts) (block ∷ blocks) = IsLike draft block × AllLike drafts blocks
AllLike _ _ = ⊥

like_more : (drafts : List Draft) (blocks : List Packed) (draft : Draft) (block : Packed) → AllLike drafts blocks
    → IsLike draft block
    → AllLike (drafts ++ draft ∷ []) (blocks ++ block ∷ [])
unfolding AllLike
like_more [] [] draft block all like = (like, tt)
like_more [] (b ∷ blocks) draft block all like = absurd all
like_more (d ∷ drafts) [] draft block all like = absurd all
like_more (d ∷ drafts) (b ∷ blocks) draft block all like = (all.0, like_more drafts blocks draft block all.1 like)

like_length : (drafts : List Draft) (blocks : List Packed) → AllLike drafts blocks → length drafts ≡ length blocks
unfolding AllLike
like_length [] [] all = refl
like_length [] (b ∷ blocks) all = absurd all
like_length (d ∷ drafts) [] all = absurd all
like_length (d ∷ drafts) (b ∷ blocks) all = ap suc (like_length drafts blocks all.1)

like_taken : (label : Name) (drafts : List Draft) (blocks : List Packed) → AllLike drafts blocks
    → list_any (λ draft. label_is label draft.label) drafts ≡ list_any (λ block. label_is label block.label) blocks
unfolding AllLike
like_taken label [] [] all = refl
like_taken label [] (b ∷ blocks) all = absurd all
like_taken label (d ∷ drafts) [] all = absurd all
like_taken label (d ∷ drafts) (b ∷ blocks) all = grind (arith, all.0.label, like_taken label drafts blocks all.1)

-- ---- a block

-- what the names and the bytes of a listing ask of a block
pub record IsSmall (isa : InstructionSet) (name : ℕ → List ℕ) (block : Packed) : Type 0 where
  pub label : (l : Name) → block.label ≡ Some l → is_label l ≡ true
  pub writable : All (IsWritable isa name) block.placed
  pub order : (p : Placed) (rest : List Placed) → block.placed ≡ p ∷ rest → AreBehind p rest
  pub within : All (λ p. p.cycle + 1 ≤ block.cycles) block.placed
  pub few : length block.placed ≤ MOST_INSTRUCTIONS
  pub short : block.cycles ≤ MOST_CYCLES

-- what is asked of a block behind these
pub record IsGood (isa : InstructionSet) (name : ℕ → List ℕ) (labels : List Name) (aim : Name
    → ℕ) (passed : List Packed) (block : Packed) : Type 0 where
  pub small : IsSmall isa name block
  pub free : (label : Name) → block.label ≡ Some label → list_any (λ other. label_is label other.label) passed ≡ false
  pub begun : block.label ≡ None → 0 < length block.placed
  pub sayable : All (IsSayable isa name labels aim) block.placed

-- the blocks so far, of which the last is open
pub record AreRead (passed : List Packed) (drafts : Drafts) (above : Above) : Type 0 where
  pub like : AllLike (all_drafts drafts) passed
  pub filled : is_filled above ≡ true
  pub some : is_some drafts.current ≡ true
  pub short : (opened drafts.current).cycles ≤ MOST_CYCLES

open_by : (done : List Draft) (current : Option Draft) (passed : List Packed) (block : Packed) (above : Above)
    → AllLike done passed
    → (block.label ≡ None → 0 < length block.placed) → block.cycles ≤ MOST_CYCLES
    → IsIn done block.label block.cycles block.placed (record { done = done; current = current }) above
    → AreRead (passed ++ block ∷ []) (record { done = done; current = current }) above
open_by done (Some draft) passed block above like begun short is = record {
  like = like_more done passed draft block like
      (record { label = is.at.named; cycles = is.at.written; placed = is.at.parts });
  filled = is.filled;
  some = refl;
  short = rw is.at.written short;
}
open_by done None passed block above like begun short is =
    let none : length block.placed ≡ 0 = sym (length-map block.placed key_of) ∙ ap length (sym is.at.parts) in
    let some = begun (sym is.at.named) in
    absurd (omega (arith, none, some))

is_read : (done : List Draft) (drafts : Drafts) (passed : List Packed) (block : Packed) (above : Above)
    → AllLike done passed
    → (block.label ≡ None → 0 < length block.placed) → block.cycles ≤ MOST_CYCLES
    → IsIn done block.label block.cycles block.placed drafts above → AreRead (passed ++ block ∷ []) drafts above
is_read done drafts passed block above like begun short is =
    open_by drafts.done drafts.current passed block above (rw is.at.same like) begun short (record {
      at = record { same = refl; named = is.at.named; written = is.at.written; parts = is.at.parts };
      filled = is.filled;
    })

calm_start : (done : List Draft) → IsCalm done None 0 [] (record { done = done; current = None }) Start
calm_start done = record {
  is = record { at = record { same = refl; named = refl; written = refl; parts = refl }; filled = refl };
  calm =
      refl;
}

module _ (isa : InstructionSet) (name : ℕ → List ℕ) (labels : List Name) (aim : Name → ℕ) where
  label_leads : (done : List Draft) (label : Option Name) (number : ℕ) (below : List Line) → length done < MOST_BLOCKS
      → ((l : Name) → label ≡ Some l → is_label l ≡ true)
      → ((l : Name) → label ≡ Some l → is_taken (Some l) (record { done = done; current = None }) ≡ false)
      → Leads isa labels aim number (record { done = done; current = None }) Start (label_lines label) below
      (IsCalm done label 0 [])
  label_leads done None number below few is free =
      no_lines isa labels aim number (record { done = done; current = None }) Start below (IsCalm done None 0 [])
      (calm_start done)
  label_leads done (Some label) number below few is free =
      one_line isa labels aim number (record { done = done; current = None }) Start (label ++ codes ":") below
      (record { front = Label; label = Some label; says = Nothing }) (IsCalm done (Some label) 0 [])
      (label_said isa labels done label below (is label refl) few (free label refl))
      (record {
        is = record { at = record { same = refl; named = refl; written = refl; parts = refl }; filled = refl };
        calm = refl;
      })

  block_leads : (done : List Draft) (passed : List Packed) (block : Packed) (number : ℕ) (below : List Line)
      → length done < MOST_BLOCKS → AllLike done passed
      → IsGood isa name labels aim passed block
      → Leads isa labels aim number (record { done = done; current = None }) Start (block_lines name block) below
      (AreRead (passed ++ block ∷ []))
  block_leads done passed block number below few like good =
      let start : Drafts = record { done = done; current = None } in
      let free : (l : Name) → block.label ≡ Some l → is_taken (Some l) start ≡ false =
      λ l is. ap (list_any (λ (d : Draft). label_is l d.label)) (append-nil done) ∙ like_taken l done passed like
      ∙ good.free l is in
      let cycles : List (List ℕ) = cycle_lines name 0 block.cycles block.placed in
      let read = then_lines isa labels aim number start Start (label_lines block.label) cycles below
      (IsCalm done block.label 0 [])
      (IsIn done block.label block.cycles block.placed)
      (label_leads done block.label number (map fed cycles ++ below) few good.small.label free)
      (λ n d a calm. start_leads isa name labels aim done few block.label block.placed block.cycles n d a below
      good.sayable good.small.order good.small.within good.small.few good.small.short calm) in
      record {
        end = read.end;
        final = read.final;
        last = read.last;
        reads = read.reads;
        is = is_read done read.final passed block read.last like good.begun good.small.short read.is;
      }

  gap_leads : (passed : List Packed) (number : ℕ) (drafts : Drafts) (above : Above) (below : List Line)
      → AreRead passed drafts above
      → begin_filled below ≡ true
      → Leads isa labels aim number drafts above ([] ∷ []) below
      (λ d a. (d ≡ record { done = all_drafts drafts; current = None }) × (a ≡ Start))
  gap_leads passed number drafts above below is begins =
      one_line isa labels aim number drafts above [] below (record { front = Empty; label = None; says = Nothing })
      (λ (d : Drafts) (a : Above). (d ≡ record { done = all_drafts drafts; current = None }) × (a ≡ Start))
      (gap_said isa labels drafts above below is.filled begins is.short) (refl, refl)

-- ---- all blocks

-- each of these blocks is good behind those before it
unfoldable pub AllGood : InstructionSet → (ℕ → List ℕ) → List Name → (Name → ℕ) → List Packed → List Packed → Type 0
AllGood isa name labels aim passed [] = Unit {0}
AllGood isa name labels aim passed (block ∷ blocks) = IsGood isa name labels aim passed block
    × AllGood isa name labels aim (passed ++ block ∷ []) blocks

-- a line of a block
abbrev pub is_line : List ℕ → Bool
is_line bytes = are_allowed bytes && not (is_empty bytes)

filled_lines : (lines : List (List ℕ)) (below : List Line) → 0 < length lines → list_all is_line lines ≡ true
    → begin_filled (map fed lines ++ below) ≡ true
filled_lines [] below some all = absurd (omega arith)
filled_lines (bytes ∷ lines) below some all = grind (arith, nat_tests, fed_content bytes)

-- the lines of each block are lines, and there are some
pub record HasLines (name : ℕ → List ℕ) (block : Packed) : Type 0 where
  pub some : 0 < length (block_lines name block)
  pub lines : list_all is_line (block_lines name block) ≡ true

module _ (isa : InstructionSet) (name : ℕ → List ℕ) (labels : List Name) (aim : Name → ℕ) where
  behind_leads : (passed : List Packed) (block : Packed) (number : ℕ) (drafts : Drafts) (above : Above)
      (below : List Line) → length passed < MOST_BLOCKS
      → AreRead passed drafts above → IsGood isa name labels aim passed block → HasLines name block
      → Leads isa labels aim number drafts above ([] ∷ block_lines name block) below (AreRead (passed ++ block ∷ []))
  behind_leads passed block number drafts above below few is good has =
      let lines : List (List ℕ) = block_lines name block in
      let start : Drafts = record { done = all_drafts drafts; current = None } in
      let done : length (all_drafts drafts) < MOST_BLOCKS = omega
      (arith, few, like_length (all_drafts drafts) passed is.like) in
      then_lines isa labels aim number drafts above ([] ∷ []) lines below (λ (d : Drafts) (a : Above). (d ≡ start)
      × (a ≡ Start))
      (AreRead (passed ++ block ∷ []))
      (gap_leads isa name labels aim passed number drafts above (map fed lines ++ below) is
      (filled_lines lines below has.some has.lines))
      (λ n d a at. rw (at.0, at.1)
      (block_leads isa name labels aim (all_drafts drafts) passed block n below done is.like good))

  parted_leads : (passed blocks : List Packed) (number : ℕ) (drafts : Drafts) (above : Above) (below : List Line)
      → length passed + length blocks ≤ MOST_BLOCKS
      → AreRead passed drafts above → AllGood isa name labels aim passed blocks → AllByRecursion (HasLines name) blocks
      → Leads isa labels aim number drafts above (parted_lines name blocks) below (AreRead (passed ++ blocks))
  unfolding AllGood
  parted_leads passed [] number drafts above below few is good has =
      rw (append-nil passed) (no_lines isa labels aim number drafts above below (AreRead passed) is)
  parted_leads passed (block ∷ blocks) number drafts above below few is good has =
      let count : length (passed ++ block ∷ []) ≡ length passed + 1 = length-append passed (block ∷ []) in
      rw (← append_assoc passed (block ∷ []) blocks)
      (then_lines isa labels aim number drafts above ([] ∷ block_lines name block) (parted_lines name blocks) below
      (AreRead (passed ++ block ∷ []))
      (AreRead ((passed ++ block ∷ []) ++ blocks))
      (behind_leads passed block number drafts above (map fed (parted_lines name blocks) ++ below) (omega (arith, few))
      is good.0 has.0)
      (λ n d a read. parted_leads (passed ++ block ∷ []) blocks n d a below (omega (arith, few, count)) read good.1
      has.1))

  -- the lines of packets are read as blocks like them
  pub all_lead : (packets : List Packed) (number : ℕ) (below : List Line) → length packets ≤ MOST_BLOCKS
      → AllGood isa name labels aim [] packets
      → AllByRecursion (HasLines name) packets
      → Leads isa labels aim number no_drafts Start (all_lines name packets) below
      (λ d a. AllLike (all_drafts d) packets)
  unfolding AllGood AllLike
  all_lead [] number below few good has = no_lines isa labels aim number no_drafts Start below
      (λ (d : Drafts) (a : Above). AllLike (all_drafts d) []) tt
  all_lead (block ∷ blocks) number below few good has =
      let read = then_lines isa labels aim number no_drafts Start (block_lines name block)
      (parted_lines name blocks) below
      (AreRead ([] ++ block ∷ []))
      (AreRead (block ∷ blocks))
      (block_leads isa name labels aim [] [] block number (map fed (parted_lines name blocks) ++ below) (omega arith) tt
      good.0)
      (λ n d a read. parted_leads (block ∷ []) blocks n d a below (omega (arith, few)) read good.1 has.1) in
      record { end = read.end; final = read.final; last = read.last; reads = read.reads; is = read.is.like }
