-- The rows of a block, and their layout.
use Rattle.std.proofs.Common.{◌≡◌, ℕ, ◌+◌, ◌-◌, ◌<◌, ◌≤◌, List, [], ◌∷◌, length, Option, Some, None, sym, ◌∙◌, ap}
use Rattle.std.proofs.Common.{subst, inl, inr, arith}
use Rattle.std.specs.Prelude.{map, slice_get, slice_index_or}
use Rattle.std.proofs.lemmas.Bool.{cases_lt}
use Rattle.c62_op.specs.Units.{index_of}
use Rattle.c62_insn.specs.Insn.{unit_of}
use Rattle.c62_line.specs.Line.{Parts, parts_of}
use Rattle.c62_read.specs.Program.{Name}
use Rattle.c62_packet.specs.declared.placed.Placed.{Placed}
use Rattle.c62_listing_reader.specs.Said.{Part, part_of}
use Rattle.c62_adopt_cut.specs.Blocks.{Draft}
use Rattle.c62_adopt_cut.specs.Home.{Home}
use Rattle.c62_adopt.specs.Blocks.{part_in}
use Rattle.c62_meaning.proofs.CutWords.{from_map}
use Rattle.c62_flight.specs.Text.{Row, no_row, row_of}
use Rattle.c62_exec_back.specs.Spaced.{AreIdle}
use Rattle.c62_exec_back.proofs.Beginnings.{begins, before_from, behind_from, from_inside, row_from, span}
use Rattle.c62_exec_back.proofs.Pairs.{HasCycles, block_cycles, over_at, pair_cycle, start_within}
use Rattle.c62_exec_back.proofs.BlockStarts.{start_at}
use Rattle.c62_exec_back.proofs.Rising.{UnitsRise, units_rise}
use Rattle.c62_exec_back.proofs.ReadRows.{IsPartsOf}
use Rattle.c62_exec_back.proofs.Members.{no_members, past}
use Rattle.c62_exec_back.proofs.RowPairs.{BothWays, rows, own, own_text, own_row_of, IsRowPair, row_pair}

module _ (both : BothWays) where
  -- ---- where blocks stand

  abbrev pub start : ℕ → ℕ
  start number = start_at both.end both.drafts number

  abbrev pub over : ℕ → ℕ
  over number = over_at both.end both.drafts number

  pub has_cycles : (number : ℕ) (draft : Draft) → slice_get both.drafts number ≡ Some draft
      → HasCycles both.end both.drafts number draft
  has_cycles number draft e = block_cycles both.lines both.end both.drafts both.packets both.are number draft e

  pub start_inside : (number : ℕ) → start number ≤ span (rows both)
  start_inside number = let l = start_within both.lines both.end both.drafts both.packets both.are number in let e =
      both.read.whole in omega
      (arith, l, e)

  -- a row's instruction is issued in the cycles of its block
  pub row_cycle : (row : ℕ) (p : Placed) (r : IsRowPair both row p) → (start r.number ≤ begins (rows both) row)
      × (begins (rows both) row < over r.number)
  row_cycle row p r =
      let c = pair_cycle both.lines both.end both.drafts both.packets both.are r.number r.h r.q r.pair in
      let when : 0 + begins (rows both) row ≡ r.h.start + r.h.issue.cycle = r.is.when in
      let low = c.0 in let high = c.1 in (omega (arith, when, low), omega (arith, when, high))

  -- ---- the layout

  abbrev pub row : ℕ → ℕ
  row number = row_from (rows both) (start number)

  abbrev pub count : ℕ → ℕ
  count number = row_from (rows both) (over number) - row number

  abbrev pub lead : ℕ → ℕ
  lead number = begins (rows both) (row number) - start number

  pub idle_rows : (low high : ℕ) → high ≤ span (rows both)
      → ((cycle : ℕ) (number : ℕ) (draft : Draft) → slice_get both.drafts number ≡ Some draft → low ≤ cycle
      → cycle < high → start number ≤ cycle → cycle < over number → ⊥)
      → low ≤ high → AreIdle (own_text both) (row_from (rows both) low) (row_from (rows both) high)
  idle_rows low high early none rises number least most =
      ap (λ (r : Row). r.insns) (own_row_of both number)
      ∙ ap (map (own both)) (no_members (slice_index_or (rows both) number no_row).insns (λ p h.
      let inside : number < length (rows both) = (let l = from_inside (rows both) high in omega (arith, l, most)) in
      let r = row_pair both number p inside h in
      let c = row_cycle number p r in
      let before = before_from (rows both) number high most in
      let behind = behind_from (rows both) number low (omega arith) (omega (arith, early, rises)) least in
      none (begins (rows both) number) r.number r.pair.draft r.pair.is.there behind before c.0 c.1))

  -- units
  pub same_unit : (target : Option Name) (parts : Parts) (p q : Placed) (h : Home)
      → IsPartsOf both.reading.targets target parts (parts_of p.insn) → parts ≡ h.issue.parts
      → part_of q ≡ part_in both.drafts h.issue → unit_of p.insn ≡ unit_of q.insn
  same_unit None parts p q h is same other = ap (λ (x : Parts). x.unit) (is ∙ same)
      ∙ sym (ap (λ (x : Part). x.parts.unit) other)
  same_unit (Some target) parts p q h is same other = ap (λ (x : Parts). x.unit) is.3 ∙ ap (λ (x : Parts). x.unit) same
      ∙ sym (ap (λ (x : Part). x.parts.unit) other)

  own_rise : (insns : List Placed) → UnitsRise insns → UnitsRise (map (own both) insns)
  own_rise [] up = tt
  own_rise (p ∷ insns) up = (
    λ q h. (let r = from_map (own both) q insns h in subst (λ (x : Placed). index_of p.unit < index_of x.unit) r.2
        (up.0 r.0 r.1)),
    own_rise insns up.1,
  )

  pub all_rise : (number : ℕ) → UnitsRise (row_of (own_text both) number).insns
  all_rise number = subst (λ (r : Row). UnitsRise r.insns) (sym (own_row_of both number))
      (own_rise (slice_index_or (rows both) number no_row).insns (elim (cases_lt number (length (rows both))) [
        | inl inside ↦ units_rise (slice_index_or (rows both) number no_row).insns
            (both.read.units number no_row inside).in_order
        | inr behind ↦ subst (λ (r : Row). UnitsRise r.insns) (sym (past (rows both) number no_row (omega arith))) tt
      ]))

  pub not_before : (number cycle : ℕ) → cycle ≤ begins (rows both) number → row_from (rows both) cycle ≤ number
  not_before number cycle late = elim (cases_lt number (row_from (rows both) cycle)) [
    | inl less ↦ absurd (let early = before_from (rows both) number cycle less in omega (arith, early, late))
    | inr more ↦ omega arith
  ]

  pub not_behind : (number cycle : ℕ) → number < length (rows both) → cycle ≤ span (rows both)
      → begins (rows both) number < cycle
      → number < row_from (rows both) cycle
  not_behind number cycle inside within early = elim (cases_lt number (row_from (rows both) cycle)) [
    | inl less ↦ less
    | inr more ↦ absurd (let late = behind_from (rows both) number cycle (omega arith) within (omega arith) in omega
        (arith, early, late))
  ]
