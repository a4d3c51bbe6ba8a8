-- The instructions of rows are those of blocks that are adopted of the same lines.
use Rattle.std.proofs.Common.{◌≡◌, ℕ, zero, suc, ◌+◌, ◌<◌, ◌≤◌, ◌==◌, List, [], ◌∷◌, length, Option, Some, None, refl}
use Rattle.std.proofs.Common.{sym, ◌∙◌, ap, subst, arith}
use Rattle.std.specs.Prelude.{map, find, slice_get, slice_index_or, All}
use Rattle.std.specs.List.{flat_map}
use Rattle.std.specs.Option.{option_map_or}
use Rattle.std.proofs.lemmas.Bool.{eqb-true, eq-eqb, false≢true}
use Rattle.std.proofs.lemmas.List.{length-map}
use Rattle.c62_insn.specs.declared.insn.Insn.{Insn}
use Rattle.c62_insn.proofs.SameLemmas.{same_parts}
use Rattle.c62_line.specs.Line.{parts_of}
use Rattle.c62_read.specs.Program.{Name}
use Rattle.c62_packet.specs.declared.placed.Placed.{Placed}
use Rattle.c62_packet.specs.Packed.{Packed}
use Rattle.c62_listing_reader.specs.Said.{Part, part_of}
use Rattle.c62_adopt_line.specs.Line.{Line}
use Rattle.c62_adopt_cut.specs.Blocks.{Draft}
use Rattle.c62_adopt_cut.specs.Home.{Home, homes_in}
use Rattle.c62_adopt.specs.Blocks.{part_in}
use Rattle.c62_meaning.proofs.Lookup.{In, In-flat_map, from_In-flat_map}
use Rattle.c62_flight.specs.Text.{Row, Text, no_row, row_of}
use Rattle.c62_flight.proofs.Told.{find_none, find_some}
use Rattle.c62_rows.specs.Rows.{IsRow}
use Rattle.c62_rows.specs.Reading.{Reading, all_rows}
use Rattle.c62_rows.specs.Text.{lost_among}
use Rattle.c62_rows.specs.Word.{row_named}
use Rattle.c62_exec_back.proofs.Beginnings.{begins, row_from, span}
use Rattle.c62_exec_back.proofs.Pairs.{AreAdopted, IsPair, of_home, pair_of}
use Rattle.c62_exec_back.proofs.BlockStarts.{start_at}
use Rattle.c62_exec_back.proofs.LineHomes.{one_home}
use Rattle.c62_exec_back.proofs.ReadRows.{IsOf, labelled, begun_in}
use Rattle.c62_exec_back.proofs.Stood.{Stood, stood_at, stood_from, stood_in, stands_in}
use Rattle.c62_exec_back.proofs.Members.{in_get, get_in, get_map}

-- ---- what was read of the same lines

pub record AreRowsOf (lines : List Line) (end : ℕ) (drafts : List Draft) (reading : Reading) : Type 0 where
  pub whole : span (all_rows reading) ≡ end
  pub from : (x : Stood) → In x (stood_from 0 (all_rows reading)) → (h : Home) × In h (homes_in lines)
      × IsOf reading.targets h x
  pub to : (h : Home) → In h (homes_in lines) → (x : Stood) × In x (stood_from 0 (all_rows reading))
      × IsOf reading.targets h x
  pub labels : labelled drafts ≡ map (begun_in (all_rows reading)) reading.labels
  pub within : (label : Name) (row : ℕ) → row_named label reading.labels ≡ Some row → row ≤ length (all_rows reading)
  pub units : All IsRow (all_rows reading)
  pub found : lost_among reading.targets reading.labels ≡ None
  pub begun : (row : ℕ) × (row ≤ length (all_rows reading)) × (begins (all_rows reading) row ≡ start_at end drafts 0)

same_insn : (a b : Insn) → parts_of a ≡ parts_of b → a ≡ b
same_insn a b e = grind (arith, same_parts a b)

-- lines that are adopted, and are read in flight as well
pub record BothWays : Type 0 where
  pub lines : List Line
  pub end : ℕ
  pub drafts : List Draft
  pub packets : List Packed
  pub are : AreAdopted lines end drafts packets
  pub reading : Reading
  pub read : AreRowsOf lines end drafts reading

module _ (both : BothWays) where
  abbrev pub rows : List Row
  rows = all_rows both.reading

  -- ---- the text of the packets' instructions

  abbrev placed_in : List Placed
  placed_in = flat_map (λ (block : Packed). block.placed) both.packets

  -- the packets' instruction of a line
  abbrev pub insn_for : Placed → Insn
  insn_for p = option_map_or (λ (q : Placed). q.insn) (find (λ (q : Placed). q.line == p.line) placed_in) p.insn

  abbrev pub own : Placed → Placed
  own p = record p { insn = insn_for p }

  abbrev own_row : Row → Row
  own_row row = record { insns = map own row.insns; idle = row.idle }

  abbrev pub own_text : Text
  own_text = record { rows = map own_row rows; aims = map (λ (draft : Draft). row_from rows draft.start) both.drafts }

  pub own_count : length own_text.rows ≡ length rows
  own_count = length-map rows own_row

  pub own_begins : (number : ℕ) → begins own_text.rows number ≡ begins rows number
  own_begins number = by rows number
    where
      by : (some : List Row) (number : ℕ) → begins (map own_row some) number ≡ begins some number
      by [] number = refl
      by (row ∷ some) zero = refl
      by (row ∷ some) (suc number) = ap (λ n. row.idle + 1 + n) (by some number)

  pub own_row_of : (number : ℕ) → row_of own_text number ≡ own_row (slice_index_or rows number no_row)
  own_row_of number = get_map own_row rows number no_row

  -- ---- an instruction of a line, in its row and in its block

  pub line_of : (number : ℕ) (h : Home) (q : Placed) → IsPair both.drafts both.end both.packets number h q
      → q.line ≡ h.issue.line
  line_of number h q pair = ap (λ (part : Part). part.line) pair.parts

  pub insn_is : (p : Placed) (h : Home) (number : ℕ) (q : Placed) → In h (homes_in both.lines)
      → IsPair both.drafts both.end both.packets number h q → p.line ≡ h.issue.line → insn_for p ≡ q.insn
  insn_is p h number q there pair at_line = by (find (λ (r : Placed). r.line == p.line) placed_in) refl
    where
      inside : In q placed_in
      inside = In-flat_map (λ (block : Packed). block.placed) q pair.block both.packets
          (in_get both.packets number pair.block pair.there) pair.inside

      by : (found : Option Placed) → find (λ (r : Placed). r.line == p.line) placed_in ≡ found
          → option_map_or (λ (r : Placed). r.insn) found p.insn ≡ q.insn
      by None e =
          absurd (false≢true (sym (find_none (λ (r : Placed). r.line == p.line) placed_in e q inside)
          ∙ eq-eqb q.line p.line (line_of number h q pair ∙ sym at_line)))
      by (Some other) e =
          let f = find_some (λ (r : Placed). r.line == p.line) placed_in other e in
          let at : other.line ≡ p.line = eqb-true other.line p.line f.1 in
          let b = from_In-flat_map (λ (block : Packed). block.placed) other both.packets f.0 in
          let n = get_in both.packets b.0 b.1 in
          let r = pair_of both.lines both.end both.drafts both.packets both.are n.0 b.0 other n.1 b.2 in
          let same : r.0 ≡ h = one_home both.lines r.0 h r.1 there (sym (line_of n.0 r.0 other r.2) ∙ at ∙ at_line) in
          let part : part_of other ≡ part_of q = r.2.parts ∙ ap (λ (k : Home). part_in both.drafts k.issue) same
          ∙ sym pair.parts in
          same_insn other.insn q.insn (ap (λ (x : Part). x.parts) part)

  -- an instruction of a row is one of a block
  pub record IsRowPair (row : ℕ) (p : Placed) : Type 0 where
    pub h : Home
    pub there : In h (homes_in both.lines)
    pub is : IsOf both.reading.targets h (stood_at (0 + begins rows row) p)
    pub number : ℕ
    pub q : Placed
    pub pair : IsPair both.drafts both.end both.packets number h q

  pub row_pair : (row : ℕ) (p : Placed) → row < length rows → In p (slice_index_or rows row no_row).insns
      → IsRowPair row p
  row_pair row p inside h =
      let r = both.read.from (stood_at (0 + begins rows row) p) (stands_in 0 rows row p inside h) in
      let b = of_home both.lines both.end both.drafts both.packets both.are r.0 r.1 in
      record { h = r.0; there = r.1; is = r.2; number = b.0; q = b.1; pair = b.2 }

  -- and the other way round
  pub record IsBlockPair (number : ℕ) (q : Placed) : Type 0 where
    pub h : Home
    pub there : In h (homes_in both.lines)
    pub pair : IsPair both.drafts both.end both.packets number h q
    pub row : ℕ
    pub inside : row < length rows
    pub p : Placed
    pub in_row : In p (slice_index_or rows row no_row).insns
    pub is : IsOf both.reading.targets h (stood_at (0 + begins rows row) p)

  pub block_pair : (number : ℕ) (block : Packed) (q : Placed) → slice_get both.packets number ≡ Some block
      → In q block.placed
      → IsBlockPair number q
  block_pair number block q e inside =
      let r = pair_of both.lines both.end both.drafts both.packets both.are number block q e inside in
      let x = both.read.to r.0 r.1 in
      let i = stood_in 0 rows x.0 x.1 in
      record {
        h = r.0;
        there = r.1;
        pair = r.2;
        row = i.number;
        inside = i.inside;
        p = x.0.placed;
        in_row = i.there;
        is = subst (λ n. IsOf both.reading.targets r.0 (stood_at n x.0.placed)) i.when x.2;
      }
