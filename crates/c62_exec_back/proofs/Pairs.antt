-- The instructions of a block are those of lines.
use Rattle.std.proofs.Common.{◌≡◌, ℕ, zero, suc, ◌+◌, ◌<◌, ◌≤◌, false, List, [], ◌∷◌, length, Some, refl, sym, ◌∙◌, ap}
use Rattle.std.proofs.Common.{subst, inl, inr, arith, None}
use Rattle.std.specs.Prelude.{map, slice_get, IsPermutation}
use Rattle.std.specs.List.{AllZip, AllByRecursion}
use Rattle.std.specs.Option.{option_map_or}
use Rattle.std.proofs.lemmas.Bool.{cases_lt}
use Rattle.std.proofs.lemmas.Option.{same_Some}
use Rattle.std.proofs.lemmas.List.Sorted.{Contains-permutation, IsPermutation-sym}
use Rattle.c62_packet.specs.declared.placed.Placed.{Placed}
use Rattle.c62_packet.specs.Packed.{Packed}
use Rattle.c62_listing_reader.specs.Said.{part_of}
use Rattle.c62_adopt_line.specs.Line.{Line}
use Rattle.c62_adopt_cut.specs.Blocks.{Draft, Issue}
use Rattle.c62_adopt_cut.specs.Flight.{over_in}
use Rattle.c62_adopt_cut.specs.Home.{AreOfLines, Home, home, homes_in, homes_of}
use Rattle.c62_adopt_cut.specs.Laws.{AreOver}
use Rattle.c62_adopt_cut.proofs.DrainLemmas.{over_before}
use Rattle.c62_adopt.specs.Blocks.{part_in, IsBlockOf}
use Rattle.c62_adopt.proofs.AimLemmas.{AreAimed}
use Rattle.c62_meaning.proofs.Lookup.{In, In_from_Contains, Contains_from_In, In-flat_map, from_In-flat_map}
use Rattle.c62_meaning.proofs.Instances.{in_map}
use Rattle.c62_meaning.proofs.CutWords.{from_map}
use Rattle.c62_exec_back.proofs.BlockStarts.{start_at, AreRising, starts_rise, start_behind, start_is, over_of}
use Rattle.c62_exec_back.proofs.BlockStarts.{IsBlockAt, draft_of, block_of, over_late, issue_early}
use Rattle.std.proofs.lemmas.List.Elements.{All-contains}
use Rattle.c62_insn.specs.Insn.{unit_of}
use Rattle.c62_adopt_line.specs.Laws.{names_block}
use Rattle.c62_exec_back.proofs.Members.{all_in, in_get}

-- ---- the instructions of a block are those of lines

from_parts : (whole : List Draft) (issues : List Issue) (placed : List Placed) (q : Placed)
    → map part_of placed ≡ map (part_in whole) issues → In q placed
    → (issue : Issue) × In issue issues × (part_of q ≡ part_in whole issue)
from_parts whole issues [] q is h = absurd h
from_parts whole [] (p ∷ placed) q is h = absurd cc
from_parts whole (issue ∷ issues) (p ∷ placed) q is (inl e) =
    let part : part_of p ≡ part_in whole issue = cc in
    (issue, inl refl, subst (λ (r : Placed). part_of r ≡ part_in whole issue) e part)
from_parts whole (issue ∷ issues) (p ∷ placed) q is (inr h) =
    let others : map part_of placed ≡ map (part_in whole) issues = cc in
    let r = from_parts whole issues placed q others h in (r.0, inr r.1, r.2)

to_parts : (whole : List Draft) (issues : List Issue) (placed : List Placed) (issue : Issue)
    → map part_of placed ≡ map (part_in whole) issues → In issue issues
    → (q : Placed) × In q placed × (part_of q ≡ part_in whole issue)
to_parts whole [] placed issue is h = absurd h
to_parts whole (other ∷ issues) [] issue is h = absurd cc
to_parts whole (other ∷ issues) (p ∷ placed) issue is (inl e) =
    let part : part_of p ≡ part_in whole other = cc in
    (p, inl refl, subst (λ (i : Issue). part_of p ≡ part_in whole i) e part)
to_parts whole (other ∷ issues) (p ∷ placed) issue is (inr h) =
    let others : map part_of placed ≡ map (part_in whole) issues = cc in
    let r = to_parts whole issues placed issue others h in (r.0, inr r.1, r.2)

permuted : (placed others : List Placed) (q : Placed) → IsPermutation placed others → In q placed → In q others
permuted placed others q same h = In_from_Contains q others
    (Contains-permutation placed others q same (Contains_from_In q placed h))

number_of : (drafts : List Draft) (draft : Draft) → In draft drafts → (number : ℕ)
    × (slice_get drafts number ≡ Some draft)
number_of [] draft h = absurd h
number_of (other ∷ drafts) draft (inl e) = (0, ap Some e)
number_of (other ∷ drafts) draft (inr h) = let r = number_of drafts draft h in (suc r.0, r.1)

at_number : (drafts : List Draft) (number : ℕ) (draft : Draft) → slice_get drafts number ≡ Some draft → In draft drafts
at_number [] number draft e = absurd cc
at_number (other ∷ drafts) zero draft e = inl (same_Some other draft e)
at_number (other ∷ drafts) (suc number) draft e = inr (at_number drafts number draft e)

-- what is adopted of lines
pub record AreAdopted (lines : List Line) (end : ℕ) (drafts : List Draft) (packets : List Packed) : Type 0 where
  pub over : AreOver false drafts end drafts
  pub blocks : AllZip (IsBlockOf drafts) drafts packets
  pub aimed : AreAimed drafts
  pub of_lines : AreOfLines lines drafts
  pub rising : AreRising end drafts

-- the instruction of a line, where its block has it
pub record IsPair (drafts : List Draft) (end : ℕ) (packets : List Packed) (number : ℕ) (h : Home) (q : Placed) : Type 0
  where
    pub draft : Draft
    pub block : Packed
    pub there : slice_get packets number ≡ Some block
    pub is : IsBlockAt drafts end number draft block
    pub inside : In q block.placed
    pub issue : In h.issue draft.issues
    pub parts : part_of q ≡ part_in drafts h.issue
    pub start : h.start ≡ start_at end drafts number

-- the cycle in which a block is over
abbrev pub over_at : ℕ → List Draft → ℕ → ℕ
over_at end drafts number = option_map_or (λ (draft : Draft). over_in (start_at end drafts (suc number)) draft)
    (slice_get drafts number) 0

-- the cycles of a block in the text
pub record HasCycles (end : ℕ) (drafts : List Draft) (number : ℕ) (draft : Draft) : Type 0 where
  pub is_over : over_at end drafts number ≡ over_in (start_at end drafts (suc number)) draft
  pub begun : start_at end drafts number ≡ draft.start
  pub late : start_at end drafts number ≤ over_at end drafts number
  pub before : over_at end drafts number ≤ start_at end drafts (suc number)
  pub rises : start_at end drafts number ≤ start_at end drafts (suc number)

module _ (lines : List Line) (end : ℕ) (drafts : List Draft) (packets : List Packed)
    (are : AreAdopted lines end drafts packets) where
  pub block_at : (number : ℕ) (block : Packed) → slice_get packets number ≡ Some block → (draft : Draft)
      × IsBlockAt drafts end number draft block
  block_at number block e =
      let r = draft_of drafts drafts packets number block are.blocks e in (
        r.0,
        record {
          there = r.1;
          is = r.2;
          start = start_is end drafts number r.0 r.1;
          over = over_of drafts end drafts
              number r.0 are.over r.1;
        },
      )

  pub pair_of : (number : ℕ) (block : Packed) (q : Placed) → slice_get packets number ≡ Some block → In q block.placed
      → (h : Home) × In h (homes_in lines) × IsPair drafts end packets number h q
  pair_of number block q e inside =
      let at = block_at number block e in
      let draft : Draft = at.0 in
      let is : IsBlockOf drafts draft block = at.1.is in
      let r = from_parts drafts draft.issues is.placed q is.stand.parts
      (permuted block.placed is.placed q (IsPermutation-sym is.placed block.placed is.listed) inside) in
      let h : Home = home draft.label draft.start r.0 in (
        h,
        subst (In h) are.of_lines.instructions
            (In-flat_map homes_of h draft drafts (at_number drafts number draft at.1.there)
            (in_map (home draft.label draft.start) r.0 draft.issues r.1)),
        record {
          draft = draft;
          block = block;
          there = e;
          is = at.1;
          inside = inside;
          issue = r.1;
          parts = r.2;
          start =
              sym at.1.start;
        },
      )

  pub of_home : (h : Home) → In h (homes_in lines) → (number : ℕ) × (q : Placed) × IsPair drafts end packets number h q
  of_home h there =
      let r = from_In-flat_map homes_of h drafts (subst (In h) (sym are.of_lines.instructions) there) in
      let draft : Draft = r.0 in
      let at = number_of drafts draft r.1 in
      let b = block_of drafts drafts packets at.0 draft are.blocks at.1 in
      let i = from_map (home draft.label draft.start) h draft.issues r.2 in
      let issue_is : i.0 ≡ h.issue = ap (λ (k : Home). k.issue) i.2 in
      let inside : In h.issue draft.issues = subst (λ (issue : Issue). In issue draft.issues) issue_is i.1 in
      let q = to_parts drafts draft.issues b.2.placed h.issue b.2.stand.parts inside in
      let start : start_at end drafts at.0 ≡ draft.start = start_is end drafts at.0 draft at.1 in (
        at.0,
        q.0,
        record {
          draft = draft;
          block = b.0;
          there = b.1;
          is = record {
            there = at.1;
            is = b.2;
            start = start;
            over = over_of drafts end drafts at.0 draft are.over at.1;
          };
          inside = permuted b.2.placed b.0.placed q.0 b.2.listed q.1;
          issue = inside;
          parts = q.2;
          start = sym (ap (λ (k : Home). k.start) i.2) ∙ sym start;
        },
      )

  -- ---- where blocks stand

  abbrev start : ℕ → ℕ
  start number = start_at end drafts number

  abbrev over : ℕ → ℕ
  over number = over_at end drafts number

  pub block_cycles : (number : ℕ) (draft : Draft) → slice_get drafts number ≡ Some draft
      → HasCycles end drafts number draft
  block_cycles number draft e =
      let is_over : over number ≡ over_in (start (suc number)) draft = rw e refl in
      let begun : start number ≡ draft.start = start_is end drafts number draft e in
      let rises : start number ≤ start (suc number) = starts_rise end drafts number (suc number) are.rising
      (omega arith) in
      let late : draft.start ≤ over_in (start (suc number)) draft = over_late (start (suc number)) draft
      (omega (arith, begun, rises)) in
      let before : over_in (start (suc number)) draft ≤ start (suc number) = over_before (start (suc number)) draft in
      record {
        is_over = is_over;
        begun = begun;
        late = omega (arith, is_over, begun, late);
        before = omega
            (arith, is_over, before);
        rises = rises;
      }

  pub start_within : (number : ℕ) → start number ≤ end
  start_within number =
      let l = starts_rise end drafts number (number + length drafts) are.rising (omega arith) in
      let e = start_behind end drafts (number + length drafts) (omega arith) in
      omega (arith, l, e)

  -- it is none of these between two blocks
  pub apart : (number other cycle : ℕ) (draft next : Draft) → slice_get drafts number ≡ Some draft
      → slice_get drafts other ≡ Some next → over number ≤ cycle → cycle < start (suc number)
      → start other ≤ cycle → cycle < over other → ⊥
  apart number other cycle draft next at there low high begun ended =
      let c = block_cycles number draft at in
      let d = block_cycles other next there in
      let late = c.late in let before = d.before in
      elim (cases_lt number other) [
        | inl less ↦ absurd (let l = starts_rise end drafts (suc number) other are.rising (omega arith) in omega
            (arith, l, high, begun))
        | inr more ↦ elim (cases_lt other number) [
          | inl less ↦ absurd (let l = starts_rise end drafts (suc other) number are.rising (omega arith) in omega
              (arith, l, late, before, low, ended))
          | inr least ↦ absurd (let e : number ≡ other = omega (arith, more, least) in let same = ap over e in omega
              (arith, same, low, ended))
        ]
      ]

  -- and none of two blocks
  pub one_block : (number other cycle : ℕ) (draft next : Draft) → slice_get drafts number ≡ Some draft
      → slice_get drafts other ≡ Some next → start number ≤ cycle → cycle < over number
      → start other ≤ cycle → cycle < over other → number ≡ other
  one_block number other cycle draft next at there low high begun ended =
      let c = block_cycles number draft at in
      let d = block_cycles other next there in
      let before = c.before in let after = d.before in
      elim (cases_lt number other) [
        | inl less ↦ absurd (let l = starts_rise end drafts (suc number) other are.rising (omega arith) in omega
            (arith, l, high, before, begun))
        | inr more ↦ elim (cases_lt other number) [
          | inl less ↦ absurd (let l = starts_rise end drafts (suc other) number are.rising (omega arith) in omega
              (arith, l, low, after, ended))
          | inr least ↦ (let e : number ≡ other = omega (arith, more, least) in e)
        ]
      ]

  -- an instruction is issued in the cycles of its block
  pub pair_cycle : (number : ℕ) (h : Home) (q : Placed) → IsPair drafts end packets number h q
      → (start number ≤ h.start + h.issue.cycle) × (h.start + h.issue.cycle < over number)
  pair_cycle number h q pair =
      let c = block_cycles number pair.draft pair.is.there in
      let from : h.start ≡ start number = pair.start in
      let early = issue_early drafts (start (suc number)) pair.draft h.issue pair.is.over pair.issue in
      let is_over = c.is_over in
      let begun = c.begun in
      (omega (arith, from), omega (arith, from, early, is_over, begun))

-- ---- what an instruction of a line is in its block

pub unit_written : (drafts : List Draft) (end : ℕ) (packets : List Packed) (number : ℕ) (h : Home) (q : Placed)
    → IsPair drafts end packets number h q → unit_of q.insn ≡ Some q.unit
unit_written drafts end packets number h q pair =
    All-contains (λ (r : Placed). unit_of r.insn ≡ Some r.unit) pair.block.placed q pair.is.is.is_block.as_written
    (Contains_from_In q pair.block.placed pair.inside)

pub plain_issue : (lines : List Line) (end : ℕ) (drafts : List Draft) (packets : List Packed)
    → AreAdopted lines end drafts packets → (number : ℕ) (h : Home) (q : Placed)
    → IsPair drafts end packets number h q → h.issue.target ≡ None → names_block h.issue.parts.operands ≡ false
plain_issue lines end drafts packets are number h q pair none =
    all_in (λ (issue : Issue). issue.target ≡ None
    → names_block issue.parts.operands ≡ false) pair.draft.issues h.issue
    (all_in (λ (d : Draft). AllByRecursion (λ (issue : Issue). issue.target ≡ None
    → names_block issue.parts.operands ≡ false) d.issues) drafts pair.draft are.aimed
    (in_get drafts number pair.draft pair.is.there)) pair.issue none
