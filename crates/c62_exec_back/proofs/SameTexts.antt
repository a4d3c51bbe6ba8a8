-- The rows that are read are those of the packets but for the numbers of labels.
use Rattle.std.proofs.Common.{◌≡◌, ℕ, ◌<◌, ◌≤◌, false, List, [], ◌∷◌, length, Option, Some, None, refl, sym, ◌∙◌, ap}
use Rattle.std.proofs.Common.{subst, inl, inr, arith}
use Rattle.std.specs.Prelude.{map, slice_get, slice_index_or, unwrap_or}
use Rattle.std.proofs.lemmas.Bool.{cases_lt, false≢true}
use Rattle.c62_op.specs.declared.operands.Operands.{Operands}
use Rattle.c62_op.specs.declared.operands.Operands.TheVariants.{Three, ConstantFirst, ConstantSecond, Two, Field}
use Rattle.c62_op.specs.declared.operands.Operands.TheVariants.{Constant, Access, Block as ToBlock, Register}
use Rattle.c62_insn.specs.Insn.{aimed_operands}
use Rattle.c62_line.specs.Line.{Parts, parts_of}
use Rattle.c62_read.specs.Program.{Name}
use Rattle.c62_packet.specs.declared.placed.Placed.{Placed}
use Rattle.c62_listing_reader.specs.Said.{Part, aimed_parts}
use Rattle.c62_adopt_line.specs.Laws.{names_block}
use Rattle.c62_adopt_cut.specs.Blocks.{Draft}
use Rattle.c62_adopt_cut.specs.Home.{Home}
use Rattle.c62_adopt.specs.Blocks.{target_number}
use Rattle.c62_meaning.proofs.Lookup.{In}
use Rattle.c62_flight.specs.Text.{Row, Text, no_row, row_of, aim_of}
use Rattle.c62_flight.specs.Numbered.{SameOperands, IsSamePlaced, AreSamePlaced, IsSameText}
use Rattle.c62_rows.specs.Text.{aims_among}
use Rattle.c62_rows.specs.Word.{row_named}
use Rattle.c62_exec_back.proofs.Beginnings.{begins, from_begins, row_from}
use Rattle.c62_exec_back.proofs.Pairs.{plain_issue}
use Rattle.c62_exec_back.proofs.BlockStarts.{start_is}
use Rattle.c62_exec_back.proofs.ReadRows.{IsPartsOf}
use Rattle.c62_exec_back.proofs.Members.{in_get, past, get_some}
use Rattle.c62_exec_back.proofs.LabelRows.{place_of, found_row}
use Rattle.c62_exec_back.proofs.RowPairs.{BothWays, rows, insn_for, own, own_text, own_count, own_row_of, insn_is}
use Rattle.c62_exec_back.proofs.RowPairs.{row_pair}
use Rattle.c62_exec_back.proofs.BlockRows.{start, row, lead}

module _ (both : BothWays) where
  -- ---- labels

  -- the block to which a branch of a line goes, and its row
  pub record GoesTo (h : Home) (target : Name) (named : ℕ) : Type 0 where
    pub draft : Draft
    pub there : slice_get both.drafts (target_number both.drafts (Some target)) ≡ Some draft
    pub to : ℕ
    pub inside : to ≤ length (rows both)
    pub begun : start both (target_number both.drafts (Some target)) ≡ begins (rows both) to
    pub told : slice_index_or (aims_among both.reading.targets both.reading.labels) named (length (rows both)) ≡ to

  pub goes_to : (h : Home) (target : Name) (named line : ℕ) → slice_get both.reading.targets named ≡ Some (target, line)
      → GoesTo h target named
  goes_to h target named line e =
      let r = found_row both.reading.targets both.reading.labels (target, line) both.read.found
      (in_get both.reading.targets named (target, line) e) in
      let place = place_of both.drafts (rows both) both.reading.labels target r.0 both.read.labels r.1 in
      let begun : start both (target_number both.drafts (Some target)) ≡ begins (rows both) r.0 = start_is both.end
      both.drafts
      (target_number both.drafts (Some target)) place.draft place.there ∙ place.start in
      record {
        draft = place.draft;
        there = place.there;
        to = r.0;
        inside = both.read.within target r.0 r.1;
        begun = begun;
        told = get_some (λ (t : Name × ℕ). unwrap_or (row_named t.0 both.reading.labels) 0) both.reading.targets named
            (target, line) (length (rows both)) e ∙ ap (λ (o : Option ℕ). unwrap_or o 0) r.1;
      }

  goes_there : (h : Home) (target : Name) (named : ℕ) (g : GoesTo h target named)
      → row both (target_number both.drafts (Some target)) ≡ g.to
  goes_there h target named g = ap (row_from (rows both)) g.begun ∙ from_begins (rows both) g.to g.inside

  pub no_lead : (h : Home) (target : Name) (named : ℕ) (g : GoesTo h target named)
      → lead both (target_number both.drafts (Some target)) ≡ 0
  no_lead h target named g = let e = ap (begins (rows both)) (goes_there h target named g) in let f = g.begun in omega
      (arith, e, f)

  -- ---- the same text

  abbrev flying : Text
  flying = record { rows = rows both; aims = aims_among both.reading.targets both.reading.labels }

  pub own_aim : (number : ℕ) (draft : Draft) → slice_get both.drafts number ≡ Some draft
      → aim_of (own_text both) number ≡ row both number
  own_aim number draft e =
      get_some (λ (d : Draft). row_from (rows both) d.start) both.drafts number draft (length (own_text both).rows) e
      ∙ ap (row_from (rows both)) (sym (start_is both.end both.drafts number draft e))

  plain_operands : (operands : Operands) (number : ℕ) → names_block operands ≡ false
      → SameOperands (own_text both) flying (aimed_operands number operands) operands
  plain_operands (Three a b d) number e = refl
  plain_operands (ConstantFirst k a d) number e = refl
  plain_operands (ConstantSecond a k d) number e = refl
  plain_operands (Two a d) number e = refl
  plain_operands (Field source left right destination) number e = refl
  plain_operands (Constant k d) number e = refl
  plain_operands (Access register base form offset) number e = refl
  plain_operands (ToBlock old) number e = absurd (false≢true (sym e))
  plain_operands (Register a) number e = refl

  aimed_same : (operands : Operands) (number other : ℕ) → aim_of (own_text both) number ≡ aim_of flying other
      → SameOperands (own_text both) flying (aimed_operands number operands) (aimed_operands other operands)
  aimed_same (Three a b d) number other e = refl
  aimed_same (ConstantFirst k a d) number other e = refl
  aimed_same (ConstantSecond a k d) number other e = refl
  aimed_same (Two a d) number other e = refl
  aimed_same (Field source left right destination) number other e = refl
  aimed_same (Constant k d) number other e = refl
  aimed_same (Access register base form offset) number other e = refl
  aimed_same (ToBlock old) number other e = e
  aimed_same (Register a) number other e = refl

  -- what two instructions of a line are
  record AreParts (parts other : Parts) : Type 0 where
    op : parts.op ≡ other.op
    operands : SameOperands (own_text both) flying parts.operands other.operands
    cond : parts.cond ≡ other.cond

  are_parts : (target : Option Name) (parts other : Parts) (h : Home)
      → (target ≡ None → names_block parts.operands ≡ false) → IsPartsOf both.reading.targets target parts other
      → AreParts (aimed_parts (target_number both.drafts target) parts) other
  are_parts None parts other h plain is =
      subst (AreParts (aimed_parts 0 parts)) (sym is)
      (record { op = refl; operands = plain_operands parts.operands 0 (plain refl); cond = refl })
  are_parts (Some target) parts other h plain is =
      let g = goes_to h target is.0 is.1 is.2 in
      let aim : aim_of (own_text both) (target_number both.drafts (Some target)) ≡ aim_of flying is.0
      = own_aim (target_number both.drafts (Some target)) g.draft g.there ∙ goes_there h target is.0 g ∙ sym g.told in
      subst (AreParts (aimed_parts (target_number both.drafts (Some target)) parts)) (sym is.3)
      (record {
        op = refl;
        operands = aimed_same parts.operands (target_number both.drafts (Some target)) is.0 aim;
        cond
            =
            refl;
      })

  same_one : (number : ℕ) (p : Placed) → number < length (rows both)
      → In p (slice_index_or (rows both) number no_row).insns
      → IsSamePlaced (own_text both) flying (own both p) p
  same_one number p inside h =
      let r = row_pair both number p inside h in
      let insn : insn_for both p ≡ r.q.insn = insn_is both p r.h r.number r.q r.there r.pair r.is.line in
      let parts : parts_of (insn_for both p) ≡ aimed_parts (target_number both.drafts r.h.issue.target)
      r.h.issue.parts = ap
      parts_of insn ∙ ap (λ (x : Part). x.parts) r.pair.parts in
      let alike = are_parts r.h.issue.target r.h.issue.parts (parts_of p.insn) r.h
      (plain_issue both.lines both.end both.drafts both.packets both.are r.number r.h r.q r.pair)
      r.is.parts in
      let all : AreParts (parts_of (insn_for both p)) (parts_of p.insn) = subst
      (λ (x : Parts). AreParts x (parts_of p.insn))
      (sym parts) alike in
      record { op = all.op; operands = all.operands; cond = all.cond; unit = refl; line = refl }

  same_all : (insns : List Placed) → ((p : Placed) → In p insns → IsSamePlaced (own_text both) flying (own both p) p)
      → AreSamePlaced (own_text both) flying (map (own both) insns) insns
  same_all [] all = tt
  same_all (p ∷ insns) all = (all p (inl refl), same_all insns (λ q h. all q (inr h)))

  same_row : (number : ℕ)
      → AreSamePlaced (own_text both) flying (row_of (own_text both) number).insns (row_of flying number).insns
  same_row number = subst (λ (r : Row). AreSamePlaced (own_text both) flying r.insns (row_of flying number).insns)
      (sym (own_row_of both number))
      (same_all (slice_index_or (rows both) number no_row).insns (elim (cases_lt number (length (rows both))) [
        | inl inside ↦ λ p h. same_one number p inside h
        | inr behind ↦ λ p h. absurd
            (let e = past (rows both) number no_row (omega arith) in (subst (λ (r : Row). In p r.insns) e h))
      ]))

  pub same_text : IsSameText (own_text both) flying
  same_text = record {
    count = own_count both;
    idle = λ number. ap (λ (r : Row). r.idle) (own_row_of both number);
    insns
        =
        same_row;
  }
