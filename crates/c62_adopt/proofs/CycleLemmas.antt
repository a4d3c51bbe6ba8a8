-- The cycles of a text and those of its listing.
use Rattle.std.proofs.Common.{arith, ◌≡◌, ℕ, suc, ◌≤◌, ◌+◌, ◌-◌, ◌∙◌, sym, ap, Bool, true, false, cond, List, [], ◌∷◌}
use Rattle.std.proofs.Common.{refl}
use Rattle.std.specs.Prelude.{All, None}
use Rattle.std.specs.List.{AllByRecursion, AllZip}
use Rattle.std.specs.List.Sorted.{IsNonDecreasing}
use Rattle.std.proofs.lemmas.List.Sorted.{All-permutation}
use Rattle.c62_packet.specs.declared.placed.Placed.{Placed}
use Rattle.c62_packet.specs.Packed.{Packed, issues_of}
use Rattle.c62_adopt_cut.specs.Blocks.{Draft}
use Rattle.c62_adopt_cut.specs.Text.{Cut}
use Rattle.c62_adopt_cut.specs.Flight.{all_lacking, cycles_lacking, first_in_flight, next_drained, next_start, over_in}
use Rattle.c62_adopt_cut.specs.Home.{starts_of}
use Rattle.c62_adopt_cut.specs.Laws.{AreOver, IsOver}
use Rattle.c62_adopt_cut.proofs.DrainLemmas.{lacks_none_where_over, over_before}
use Rattle.c62_adopt_cut.proofs.OverLemmas.{blocks_are_over}
use Rattle.c62_adopt_cut.proofs.TextHomes.{blocks_are_of_lines}
use Rattle.c62_adopt.specs.Answer.{IsAdopted, code_cut, code_in, code_read}
use Rattle.c62_adopt.specs.Blocks.{IsBlockOf}
use Rattle.c62_adopt.specs.Cycles.{AccountsForCycles, HaveRoom, cycles_listed, left_out}
use Rattle.c62_adopt.proofs.BlockLemmas.{end_at, ends_by, length_within}
use Rattle.c62_op.specs.declared.set.InstructionSet.{InstructionSet}

-- ---- a block

-- a block's packets are over where it is, or before
block_fits : (whole : List Draft) (draft : Draft) (block : Packed) (next : ℕ) → IsBlockOf whole draft block
    → IsOver whole next draft → draft.start ≤ next
    → draft.start + block.cycles ≤ next
block_fits whole draft block next is over from =
    let most : ℕ = next - draft.start in
    let ends : All (λ p. end_at p ≤ most) is.placed =
    ends_by whole draft.start (over_in next draft) most draft.issues is.placed is.stand.parts
    (let before = over_before next draft in omega (arith, before, from)) over.drained in
    let listed : All (λ p. end_at p ≤ most) block.placed = All-permutation (λ (p : Placed). end_at p ≤ most) is.placed
    block.placed is.listed ends in
    let short = length_within most block.placed listed in
    let own = is.is_block.own_length in
    omega (arith, own, short, from)

-- ---- blocks in their order

-- a block begins no later than the next one does, or the text is over
begins_before : (end : ℕ) (draft : Draft) (drafts : List Draft) → IsNonDecreasing (starts_of (draft ∷ drafts))
    → AllByRecursion (λ start. start ≤ end) (starts_of (draft ∷ drafts)) → draft.start ≤ next_start end drafts
begins_before end draft [] rising early = early.0
begins_before end draft (other ∷ drafts) rising early = rising 0 1 0 (omega arith) (omega arith)

behind_rises : (start : ℕ) (starts : List ℕ) → IsNonDecreasing (start ∷ starts) → IsNonDecreasing starts
behind_rises start starts rising = λ i j d low below. rising (suc i) (suc j) d (omega (arith, low))
    (omega (arith, below))

-- the cycles that lack, where a text is drained
abbrev added_to : Bool → ℕ → List Draft → ℕ
added_to drain end drafts = cond drain (all_lacking end drafts) 0

drained_later : (drain : Bool) (next : ℕ) (draft : Draft) → next ≤ next_drained drain next draft
drained_later true next draft = omega arith
drained_later false next draft = omega arith

one_sum : (drain : Bool) (end cycles listed left : ℕ) (draft : Draft) (drafts : List Draft)
    → draft.start + cycles ≤ next_drained drain (next_start end drafts) draft
    → end + added_to drain end drafts ≡ next_start end drafts + (listed + left)
    → end + added_to drain end (draft ∷ drafts)
    ≡ draft.start + ((cycles + listed) +
    ((next_drained drain (next_start end drafts) draft - draft.start - cycles) + left))
one_sum true end cycles listed left draft drafts fits rest = omega (arith, fits, rest)
one_sum false end cycles listed left draft drafts fits rest = omega (arith, fits, rest)

module _ (drain : Bool) (whole : List Draft) (end : ℕ) where
  accounts : (drafts : List Draft) (packets : List Packed) → AllZip (IsBlockOf whole) drafts packets
      → AreOver drain whole end drafts
      → IsNonDecreasing (starts_of drafts) → AllByRecursion (λ start. start ≤ end) (starts_of drafts)
      → HaveRoom drain end drafts packets
      × (end + added_to drain end drafts ≡ next_start end drafts +
      (cycles_listed packets + left_out drain end drafts packets))
  accounts [] [] zip over rising early = (tt, none drain)
    where
      none : (drain : Bool) → end + added_to drain end [] ≡ end + (0 + 0)
      none true = omega arith
      none false = omega arith
  accounts [] (block ∷ packets) zip over rising early = absurd zip
  accounts (draft ∷ drafts) [] zip over rising early = absurd zip
  accounts (draft ∷ drafts) (block ∷ packets) zip over rising early =
      let next = next_start end drafts in
      let later = drained_later drain next draft in
      let before = begins_before end draft drafts rising early in
      let fits = block_fits whole draft block (next_drained drain next draft) zip.0 over.0
      (omega (arith, later, before)) in
      let rest = accounts drafts packets zip.1 over.1 (behind_rises draft.start (starts_of drafts) rising) early.1 in (
        (fits, rest.0),
        one_sum drain end block.cycles (cycles_listed packets) (left_out drain end drafts packets) draft
            drafts fits rest.1,
      )

-- ---- a text

added_is : (drain : Bool) (cut : Cut) (added : ℕ) → first_in_flight drain cut ≡ None → added ≡ cycles_lacking cut
    → added_to drain cut.cycles cut.drafts ≡ added
added_is true cut added over is = sym is
added_is false cut added over is = sym (is ∙ ((lacks_none_where_over cut).0 over).1)

pub accounts_for_cycles : (isa : InstructionSet) (drain : Bool) (text : List ℕ) → AccountsForCycles isa drain text
accounts_for_cycles isa drain text packets added is =
    let cut = code_cut isa text in
    let lines = blocks_are_of_lines isa (code_in (code_read isa text)) in
    let early = rw (← lines.read.cycles) at lines.blocks.early in
    let all = accounts drain cut.drafts cut.cycles cut.drafts packets is.read.cut.blocks
    (blocks_are_over drain cut is.read.cut.over) lines.blocks.rising early in
    record {
      room = all.0;
      sum = ap (λ (more : ℕ). cut.cycles + more)
          (sym (added_is drain cut added is.read.cut.over is.read.lacking)) ∙ all.1;
    }
