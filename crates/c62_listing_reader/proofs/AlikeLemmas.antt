-- Packets with other lines.
use Rattle.c62_listing_reader.proofs.Common.{arith, ◌≡◌, ℕ, ◌+◌, ◌*◌, ◌≤◌, List, [], ◌∷◌, length, get_or, map, Option}
use Rattle.c62_listing_reader.proofs.Common.{Some, refl, sym, ap, ◌∙◌}
use Rattle.c62_listing_reader.proofs.Common.{subst, All, get_or-map, length-map, All-cons, All-nil, All-tail, op_of}
use Rattle.c62_listing_reader.proofs.Common.{unit_of, landing_end, index_of}
use Rattle.c62_listing_reader.proofs.Common.{Placed, Packed, IsInListingOrder, IsPacketBlock, issue_of}
use Rattle.c62_listing_reader.proofs.Common.{listing_position, Part, part_of, Draft}
use Rattle.c62_listing_reader.proofs.Common.{draft_of, AreAlike}
use Rattle.std.specs.Prelude.{cond, count_by}
use Rattle.std.proofs.lemmas.Simd.{map-map}
use Rattle.std.proofs.lemmas.Bool.Decides.{nat_tests}
use Rattle.std.proofs.lemmas.List.Sums.{sum_by-cons}
use Rattle.c62_rules.specs.Length.{length_of}
use Rattle.c62_rules.specs.PacketRules.{Issue, KeepsPacketRules}
use Rattle.c62_op.specs.Shape.{is_branch}
use Rattle.c62_packet.specs.Packed.{is_branching, issued, issues_of}
use Rattle.c62_listing_reader.proofs.LeadingLines.{key_of, unlined}
use Rattle.c62_listing_reader.proofs.BlocksLemmas.{AllLike, IsLike}

abbrev with_line : Placed → ℕ → Placed
with_line p line = record { insn = p.insn; line = line; cycle = p.cycle; unit = p.unit }

-- instructions with the lines of these parts
lined : List Placed → List Part → List Placed
lined [] parts = []
lined (p ∷ placed) [] = []
lined (p ∷ placed) (part ∷ parts) = with_line p part.line ∷ lined placed parts

lined_parts : (placed : List Placed) (parts : List Part) → map unlined parts ≡ map key_of placed
    → map part_of (lined placed parts) ≡ parts
unfolding lined
lined_parts [] [] same = refl
lined_parts [] (part ∷ parts) same = absurd cc
lined_parts (p ∷ placed) [] same = absurd cc
lined_parts (p ∷ placed) (part ∷ parts) same = grind (arith, lined_parts placed parts)

lined_issues : (placed : List Placed) (parts : List Part) → map unlined parts ≡ map key_of placed
    → issues_of (lined placed parts) ≡ issues_of placed
unfolding lined
lined_issues [] parts same = refl
lined_issues (p ∷ placed) [] same = absurd cc
lined_issues (p ∷ placed) (part ∷ parts) same = grind (arith, lined_issues placed parts)

-- ---- what holds of instructions holds of them with other lines

length_by : (placed other : List Placed) → issues_of other ≡ issues_of placed → length other ≡ length placed
length_by placed other same = sym (length-map other issue_of) ∙ ap length same ∙ length-map placed issue_of

issue_at : (placed other : List Placed) (i : ℕ) (d : Placed) → issues_of other ≡ issues_of placed
    → issue_of (get_or placed i d) ≡ issue_of (get_or other i d)
issue_at placed other i d same =
    sym (get_or-map issue_of placed i d) ∙ ap (λ (issues : List Issue). get_or issues i (issue_of d)) (sym same)
    ∙ get_or-map issue_of other i d

all_by : (P : Issue → Type 0) (placed other : List Placed) → issues_of other ≡ issues_of placed
    → All (λ p. P (issue_of p)) placed
    → All (λ p. P (issue_of p)) other
all_by P placed other same all i d within =
    subst P (issue_at placed other i d same) (all i d (omega (arith, length_by placed other same, within)))

issued_by : (placed other : List Placed) → issues_of other ≡ issues_of placed → issued placed ≡ issued other
issued_by placed other same =
    let some : Issue → Option Issue = λ issue. Some issue in
    sym (map-map some issue_of placed) ∙ ap (map some) (sym same) ∙ map-map some issue_of other

abbrev one_branch : Issue → ℕ
one_branch issue = cond (is_branch (op_of issue.insn)) 1 0

branches_by : (placed other : List Placed) → issues_of other ≡ issues_of placed
    → count_by is_branching placed ≡ count_by is_branching other
branches_by [] [] same = refl
branches_by [] (q ∷ other) same = absurd cc
branches_by (p ∷ placed) [] same = absurd cc
branches_by (p ∷ placed) (q ∷ other) same =
    grind (
      arith,
      nat_tests,
      branches_by placed other,
      sum_by-cons (λ (r : Placed). one_branch (issue_of r)) p placed,
      sum_by-cons (λ (r : Placed). one_branch (issue_of r)) q other,
    )

abbrev issue_position : Issue → ℕ
issue_position issue = 8 * issue.cycle + index_of issue.unit

order_by : (placed other : List Placed) → issues_of other ≡ issues_of placed → IsInListingOrder placed
    → IsInListingOrder other
order_by placed other same up i j d le within =
    let rises : listing_position (get_or placed i d) ≤ listing_position (get_or placed j d) =
    up i j d le (omega (arith, length_by placed other same, within)) in
    omega (
      arith,
      rises,
      ap issue_position (issue_at placed other i d same),
      ap issue_position
          (issue_at placed other j d same),
    )

block_by : (block : Packed) (other : List Placed) → issues_of other ≡ issues_of block.placed → IsPacketBlock block
    → IsPacketBlock (record { label = block.label; cycles = block.cycles; placed = other })
block_by block other same is = record {
  in_order = order_by block.placed other same is.in_order;
  as_written = all_by (λ (issue : Issue). unit_of issue.insn ≡ Some issue.unit) block.placed other same is.as_written;
  rules = subst KeepsPacketRules (issued_by block.placed other same) is.rules;
  one_branch = subst (λ (n : ℕ). n ≤ 1) (branches_by block.placed other same) is.one_branch;
  few = omega (arith, length_by block.placed other same, is.few);
  own_length = is.own_length ∙ ap length_of (sym same);
  short = is.short;
  drained = all_by (λ (issue : Issue). landing_end issue ≤ block.cycles) block.placed other same is.drained;
}

-- ---- packets of blocks like these

pub record AreMade (drafts : List Draft) (packets : List Packed) : Type 0 where
  pub others : List Packed
  pub same : map draft_of others ≡ drafts
  pub are_blocks : All IsPacketBlock others
  pub alike : AreAlike packets others

draft_by : (draft : Draft) (block : Packed) → IsLike draft block
    → draft_of (record { label = block.label; cycles = block.cycles; placed = lined block.placed draft.placed }) ≡ draft
draft_by draft block like = grind (arith, like.label, like.cycles, lined_parts block.placed draft.placed like.placed)

pub made : (drafts : List Draft) (packets : List Packed) → AllLike drafts packets → All IsPacketBlock packets
    → AreMade drafts packets
unfolding AllLike
made [] [] like are = record { others = []; same = refl; are_blocks = All-nil IsPacketBlock; alike = refl }
made [] (block ∷ packets) like are = absurd like
made (draft ∷ drafts) [] like are = absurd like
made (draft ∷ drafts) (block ∷ packets) like are =
    let rest = made drafts packets like.1 (All-tail IsPacketBlock block packets are) in
    let other : Packed = record { label = block.label; cycles = block.cycles; placed = lined block.placed draft.placed }
    in
    let same = lined_issues block.placed draft.placed like.0.placed in
    record {
      others = other ∷ rest.others;
      same = grind (arith, draft_by draft block like.0, rest.same);
      are_blocks = All-cons IsPacketBlock other rest.others
          (block_by block (lined block.placed draft.placed) same (are 0 block (omega arith))) rest.are_blocks;
      alike = grind (arith, same, rest.alike);
    }
