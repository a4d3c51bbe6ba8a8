-- Blocks that are adopted lie in the rows that are read of their lines.
use Rattle.std.proofs.Common.{◌≡◌, ℕ, suc, ◌+◌, ◌-◌, ◌<◌, ◌≤◌, false, List, [], ◌∷◌, length, Option, Some, None, refl}
use Rattle.std.proofs.Common.{sym, ◌∙◌, ap, subst, arith}
use Rattle.std.specs.Prelude.{map, slice_get, slice_index_or, Contains}
use Rattle.std.proofs.lemmas.Bool.{false≢true}
use Rattle.std.proofs.lemmas.Option.{slice_get-get_or}
use Rattle.std.proofs.lemmas.List.{length-map}
use Rattle.c62_op.specs.declared.operands.Operands.{Operands}
use Rattle.c62_op.specs.declared.operands.Operands.TheVariants.{Three, ConstantFirst, ConstantSecond, Two, Field}
use Rattle.c62_op.specs.declared.operands.Operands.TheVariants.{Constant, Access, Block as ToBlock, Register}
use Rattle.c62_insn.specs.Insn.{operands_of, aimed_operands}
use Rattle.c62_line.specs.Line.{Parts, parts_of}
use Rattle.c62_read.specs.Program.{Name}
use Rattle.c62_packet.specs.declared.placed.Placed.{Placed}
use Rattle.c62_packet.specs.Packed.{Packed}
use Rattle.c62_listing_reader.specs.Said.{Part}
use Rattle.c62_adopt_line.specs.Laws.{names_block}
use Rattle.c62_adopt_cut.specs.Blocks.{Draft}
use Rattle.c62_adopt_cut.specs.Home.{Home}
use Rattle.c62_adopt.specs.Blocks.{target_number}
use Rattle.c62_meaning.proofs.Lookup.{In_from_Contains}
use Rattle.c62_flight.specs.Text.{Row, aim_of}
use Rattle.c62_flight.specs.Laid.{straight_end}
use Rattle.c62_exec_back.specs.Spaced.{AreIdle, AreSpaced}
use Rattle.c62_exec_back.proofs.Beginnings.{begins, from_begins, from_end, row_from}
use Rattle.c62_exec_back.proofs.Pairs.{block_at, plain_issue}
use Rattle.c62_exec_back.proofs.BlockStarts.{same_count, start_behind, starts_rise}
use Rattle.c62_exec_back.proofs.ReadRows.{IsPartsOf}
use Rattle.c62_exec_back.proofs.Members.{past}
use Rattle.c62_exec_back.proofs.RowPairs.{BothWays, rows, own_text, own_count, block_pair}
use Rattle.c62_exec_back.proofs.BlockRows.{start, start_inside, row, count, lead, idle_rows}
use Rattle.c62_exec_back.proofs.LaidRows.{is_laid, goes_on, idle_behind, gap}
use Rattle.c62_exec_back.proofs.SameTexts.{goes_to, no_lead, own_aim}

first_from : (rows : List Row) → row_from rows 0 ≡ 0
first_from [] = refl
first_from (first ∷ others) = refl

abbrev no_block : Packed
no_block = record { label = None; cycles = 0; placed = [] }

module _ (both : BothWays) where
  -- ---- the layout of all blocks

  same_length : length both.drafts ≡ length both.packets
  same_length = same_count both.drafts both.drafts both.packets both.are.blocks

  one_more : (number : ℕ) → number + 1 ≡ suc number
  one_more number = omega arith

  block_there : (number : ℕ) → number < length both.packets → (block : Packed)
      × (slice_get both.packets number ≡ Some block)
  block_there number inside =
      (slice_index_or both.packets number no_block, slice_get-get_or both.packets number no_block inside)

  aim_there : (number : ℕ) → number < length both.packets → aim_of (own_text both) number ≡ row both number
  aim_there number inside =
      let b = block_there number inside in
      let at = block_at both.lines both.end both.drafts both.packets both.are number b.0 b.1 in own_aim both number at.0
      at.1.there

  block_operands : (number other : ℕ) (operands : Operands) → names_block operands ≡ false
      → aimed_operands number operands ≡ ToBlock other → ⊥
  block_operands number other (ToBlock old) plain e = false≢true (sym plain)
  block_operands number other (Three a b d) plain e = cc
  block_operands number other (ConstantFirst k a d) plain e = cc
  block_operands number other (ConstantSecond a k d) plain e = cc
  block_operands number other (Two a d) plain e = cc
  block_operands number other (Field source left right destination) plain e = cc
  block_operands number other (Constant k d) plain e = cc
  block_operands number other (Access register base form offset) plain e = cc
  block_operands number other (Register a) plain e = cc

  aimed_at : (number other : ℕ) (operands : Operands) → aimed_operands number operands ≡ ToBlock other → number ≡ other
  aimed_at number other (ToBlock old) e = grind (arith, e)
  aimed_at number other (Three a b d) e = absurd cc
  aimed_at number other (ConstantFirst k a d) e = absurd cc
  aimed_at number other (ConstantSecond a k d) e = absurd cc
  aimed_at number other (Two a d) e = absurd cc
  aimed_at number other (Field source left right destination) e = absurd cc
  aimed_at number other (Constant k d) e = absurd cc
  aimed_at number other (Access register base form offset) e = absurd cc
  aimed_at number other (Register a) e = absurd cc

  target_leads : (number other : ℕ) (block : Packed) (p : Placed) → slice_get both.packets number ≡ Some block
      → Contains block.placed p → operands_of p.insn ≡ ToBlock other → lead both other ≡ 0
  target_leads number other block p e inside goes =
      let r = block_pair both number block p e (In_from_Contains p block.placed inside) in
      by r.h (parts_of r.p.insn) r.h.issue.target
      (plain_issue both.lines both.end both.drafts both.packets both.are number r.h p r.pair)
      (ap (λ (part : Part). part.parts.operands) (sym r.pair.parts) ∙ goes) r.is.parts
    where
      by : (h : Home) (other_parts : Parts) (target : Option Name)
          → (target ≡ None → names_block h.issue.parts.operands ≡ false)
          → aimed_operands (target_number both.drafts target) h.issue.parts.operands ≡ ToBlock other
          → IsPartsOf both.reading.targets target h.issue.parts other_parts → lead both other ≡ 0
      by h other_parts None plain e is = absurd (block_operands 0 other h.issue.parts.operands (plain refl) e)
      by h other_parts (Some target) plain e is =
          let g = goes_to both h target is.0 is.1 is.2 in
          let same : target_number both.drafts (Some target) ≡ other = aimed_at
          (target_number both.drafts (Some target)) other
          h.issue.parts.operands e in
          subst (λ n. lead both n ≡ 0) same (no_lead both h target is.0 g)

  pub spaced : AreSpaced (own_text both) both.packets
  spaced = record {
    row = row both;
    count = count both;
    lead = lead both;
    laid = λ number block e.
        (let at = block_at both.lines both.end both.drafts both.packets both.are number block e in is_laid both
        number block e at.0 at.1);
    first = subst (λ n. AreIdle (own_text both) n (row both 0)) (first_from (rows both))
        (idle_rows both 0 (start both 0) (start_inside both 0)
        (λ cycle number draft there low high begun ended.
        (let l = starts_rise both.end both.drafts 0 number both.are.rising (omega arith) in omega
        (arith, l, high, begun)))
        (omega arith));
    next = λ number inside.
        (let b = block_there number inside in let at = block_at both.lines both.end both.drafts both.packets
        both.are number b.0 b.1 in
        subst (λ n. row both number + count both number ≤ row both n) (sym (one_more number))
        (goes_on both number b.0 b.1 at.0 at.1));
    idle = λ number inside.
        (let b = block_there number inside in let at = block_at both.lines both.end both.drafts both.packets
        both.are number b.0 b.1 in
        subst (λ n. AreIdle (own_text both) (row both number + count both number) (row both n)) (sym (one_more number))
        (idle_behind both number b.0 b.1 at.0 at.1));
    last = ap (row_from (rows both))
        (start_behind both.end both.drafts (length both.packets) (let e = same_length in omega (arith, e))
        ∙ sym both.read.whole) ∙ from_end (rows both) ∙ sym (own_count both);
    begun = (let f = ap (row_from (rows both)) (sym both.read.begun.2)
        ∙ from_begins (rows both) both.read.begun.0 both.read.begun.1 in
        let g = ap (begins (rows both)) f in let h = both.read.begun.2 in omega (arith, g, h));
    gaps = λ number block e. (let at = block_at both.lines both.end both.drafts both.packets both.are number block e in
        subst (λ n. block.cycles + lead both n ≤ lead both number + straight_end (own_text both) (row both number) 0
        (row both n - row both number))
        (sym (one_more number)) (gap both number block e at.0 at.1));
    targets = λ number other block p e inside goes _. target_leads number other block p e inside goes;
    aims = aim_there;
    outside = λ number behind. past (map (λ (draft : Draft). row_from (rows both) draft.start) both.drafts) number
        (length (own_text both).rows)
        (let e = same_length in let l = length-map both.drafts (λ (draft : Draft). row_from (rows both) draft.start) in
        omega
        (arith, e, l));
  }
