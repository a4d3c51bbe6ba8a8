-- Blocks that lie in rows with idle rows between fly as their chain runs.
use Rattle.std.proofs.Common.{◌≡◌, ℕ, ◌+◌, ◌-◌, ◌<◌, ◌≤◌, List, [], ◌∷◌, length, Some, None, refl, sym, ◌∙◌, ap, subst}
use Rattle.std.proofs.Common.{◌⊎◌, inl, inr, ⊎_elim, arith}
use Rattle.std.specs.Prelude.{All, slice_get}
use Rattle.std.proofs.lemmas.Bool.{cases_lt, cond-false}
use Rattle.std.proofs.lemmas.Option.{slice_get-get_or}
use Rattle.std.proofs.lemmas.List.Sums.{sum_by-cons}
use Rattle.c62_insn.specs.declared.effect.Target.{Target}
use Rattle.c62_insn.specs.declared.effect.Target.TheVariants.{Block as ToBlock, Register as ToRegister}
use Rattle.c62_serial.specs.declared.chain.End.TheVariants.{Register as LeftBy}
use Rattle.c62_serial.specs.State.{Machine, IsSound}
use Rattle.c62_serial.specs.Serial.{Ran}
use Rattle.c62_serial.specs.Chain.{Position as ChainPosition, At as AtBlock, Ended, Leads as ChainLeads, position_at}
use Rattle.c62_serial.specs.Chain.{position_after as chain_after}
use Rattle.c62_packet.specs.declared.placed.Placed.{Placed}
use Rattle.c62_packet.specs.Packed.{Packed, IsPacketBlock}
use Rattle.c62_meaning.specs.Meaning.{IsMeaning}
use Rattle.c62_meaning.specs.Cut.{moved, since}
use Rattle.c62_meaning.proofs.Lookup.{In}
use Rattle.c62_flight.specs.declared.stop.Stop.TheVariants.{Register}
use Rattle.c62_flight.specs.Text.{Text, aim_of}
use Rattle.c62_flight.specs.Issued.{issued_on}
use Rattle.c62_flight.specs.Laid.{straight, straight_end, IsLaid, block_of, no_block, packet_blocks, FliesAs, IsOutside}
use Rattle.c62_flight.specs.Laid.{cycles_taken}
use Rattle.c62_flight.proofs.LaidBlock.{takes, names, in_placed, exit_plain, cut_plain, exit_turned, cut_turned}
use Rattle.c62_flight.proofs.LaidBlock.{flies_out, any_branch}
use Rattle.c62_exec_back.specs.Spaced.{AreIdle, AreSpaced, SpacedFlies}
use Rattle.c62_exec_back.proofs.IdleRows.{joined, two_parts, over_idle}
use Rattle.c62_exec_back.proofs.StandingRows.{Stands, row_within, stands_at, stands_there, lead_at, lead_within}
use Rattle.c62_exec_back.proofs.StandingRows.{no_lead, reached, at_end}

module _ (text : Text) (packets : List Packed) (laid : AreSpaced text packets) (blocks : All IsPacketBlock packets)
  where
    abbrev Behind : List ℕ → Type 0
    Behind numbers = (machine : Machine) (position : ChainPosition) (row : ℕ) (final : Machine) (last : ChainPosition)
        → Stands text packets laid position row → IsSound machine
        → ChainLeads (length packets) (packet_blocks packets) machine position numbers final last → IsOutside text last
        → FliesAs text row machine last final (cycles_taken packets numbers - lead_at text packets laid position)

    -- a branch to a register is the last
    left : (numbers : List ℕ) (machine : Machine) (word : ℕ) (final : Machine) (last : ChainPosition)
        → ChainLeads (length packets) (packet_blocks packets) machine (Ended (LeftBy word)) numbers final last
        → (final ≡ machine) × (last ≡ Ended (LeftBy word)) × (numbers ≡ [])
    unfolding ChainLeads
    left [] machine word final last leads = (leads.0, leads.1, refl)
    left (number ∷ numbers) machine word final last leads = let e : Ended (LeftBy word) ≡ AtBlock number = leads.0 in
        absurd cc

    module _ (number : ℕ) (numbers : List ℕ) (machine : Machine) (final : Machine) (last : ChainPosition) (ran : Ran)
        (inside : number < length packets) (sound : IsSound machine)
        (m : IsMeaning (block_of packets number).placed (block_of packets number).cycles machine ran)
        (leads : ChainLeads (length packets) (packet_blocks packets) ran.machine
        (chain_after (length packets) number ran.exit) numbers final last)
        (out : IsOutside text last) (behind : Behind numbers) where
      block : Packed
      block = block_of packets number

      is_there : slice_get packets number ≡ Some (block_of packets number)
      is_there = slice_get-get_or packets number no_block inside

      it : IsLaid text (block_of packets number) (laid.row number) (laid.count number) (laid.lead number)
      it = laid.laid number (block_of packets number) is_there

      packet : IsPacketBlock (block_of packets number)
      packet = blocks number no_block inside

      whole : cycles_taken packets (number ∷ numbers) ≡ (block_of packets number).cycles + cycles_taken packets numbers
      whole = sum_by-cons (λ n. (block_of packets n).cycles) number numbers

      abbrev Goal : Type 0
      Goal = FliesAs text (laid.row number) machine last final
          (cycles_taken packets (number ∷ numbers) - laid.lead number)

      by_target : (p : Placed) (target : Target)
          → In p (issued_on text (straight text (laid.row number) 0 (laid.count number)))
          → (since (laid.lead number) m.did p).target ≡ Some target → Goal
      by_target p (ToBlock other) h e =
          let long : (block_of packets number).cycles ≡ laid.lead number + (p.cycle + 6)
          = takes text (block_of packets number) (laid.row number) (laid.count number) (laid.lead number) it packet
          machine ran sound m p (ToBlock other) h e in
          let none : lead_at text packets laid (position_at (length packets) other) ≡ 0
          = no_lead text packets laid other
          (laid.targets number other (block_of packets number) (moved (laid.lead number) p) is_there
          (in_placed text (block_of packets number) (laid.row number) (laid.count number) (laid.lead number) it packet
          machine ran sound m p (ToBlock other) h e)
          (names text (block_of packets number) (laid.row number) (laid.count number) (laid.lead number) it packet
          machine ran sound m p (ToBlock other) h e other refl)) in
          let all : cycles_taken packets (number ∷ numbers) ≡ (block_of packets number).cycles + cycles_taken packets
          numbers = whole in
          joined text (laid.row number) (aim_of text other) (p.cycle + 6) machine ran.machine last final
          (cycles_taken packets (number ∷ numbers) - laid.lead number)
          (cycles_taken packets numbers - lead_at text packets laid (position_at (length packets) other))
          (cut_turned text (block_of packets number) (laid.row number) (laid.count number) (laid.lead number) it packet
          machine ran sound m p (ToBlock other) h e (aim_of text other) refl)
          (λ t l. omega arith)
          (behind ran.machine (position_at (length packets) other) (aim_of text other) final last
          (stands_there text packets laid other (aim_of text other) (laid.aims other) (laid.outside other))
          m.leaves.state.sound
          (subst (λ exit. ChainLeads (length packets) (packet_blocks packets) ran.machine
          (chain_after (length packets) number exit) numbers final last)
          (exit_turned text (block_of packets number) (laid.row number) (laid.count number) (laid.lead number) it packet
          machine ran sound m p (ToBlock other) h e) leads) out)
      by_target p (ToRegister word) h e =
          let r : (final ≡ ran.machine) × (last ≡ Ended (LeftBy word)) × (numbers ≡ [])
          = left numbers ran.machine word final last
          (subst (λ exit. ChainLeads (length packets) (packet_blocks packets) ran.machine
          (chain_after (length packets) number exit) numbers final last)
          (exit_turned text (block_of packets number) (laid.row number) (laid.count number) (laid.lead number) it packet
          machine ran sound m p (ToRegister word) h e) leads) in
          let long : (block_of packets number).cycles ≡ laid.lead number + (p.cycle + 6)
          = takes text (block_of packets number) (laid.row number) (laid.count number) (laid.lead number) it packet
          machine ran sound m p (ToRegister word) h e in
          let all : cycles_taken packets (number ∷ numbers) ≡ (block_of packets number).cycles + cycles_taken packets
          numbers = whole in
          let rest : cycles_taken packets numbers ≡ 0 = ap (cycles_taken packets) r.2 in
          subst (λ l. FliesAs text (laid.row number) machine l final
          (cycles_taken packets (number ∷ numbers) - laid.lead number)) (sym r.1)
          (subst (λ f. FliesAs text (laid.row number) machine (Ended (LeftBy word)) f
          (cycles_taken packets (number ∷ numbers) - laid.lead number)) (sym r.0) (record {
            stop = Register word;
            taken = p.cycle + 6;
            long = omega arith;
            told = refl;
            flies = λ more _. flies_out text (block_of packets number) (laid.row number) (laid.count number)
                (laid.lead number) it packet machine ran sound m p (ToRegister word) h e word
                (cond-false _ _ _ (subst (IsOutside text) r.1 out)) more;
          }))

      -- where none ran, the rows of the block and the idle ones behind them are passed
      fallen : ((p : Placed) → In p (issued_on text (straight text (laid.row number) 0 (laid.count number)))
          → (since (laid.lead number) m.did p).target ≡ None) → Goal
      fallen none =
          let count : ℕ = laid.count number in
          let next : laid.row number + count ≤ laid.row (number + 1) = laid.next number inside in
          let more : ℕ = laid.row (number + 1) - (laid.row number + count) in
          let here : laid.row number + count + more ≡ laid.row (number + 1) = omega arith in
          let gap : (block_of packets number).cycles + laid.lead (number + 1) ≤ laid.lead number + straight_end text
          (laid.row number) 0 (laid.row (number + 1) - laid.row number)
          = laid.gaps number (block_of packets number) is_there in
          let all : cycles_taken packets (number ∷ numbers) ≡ (block_of packets number).cycles + cycles_taken packets
          numbers = whole in
          let within : lead_at text packets laid (position_at (length packets) (number + 1)) ≤ laid.lead (number + 1) =
          lead_within text packets laid
          (number + 1) in
          let inside_text : laid.row (number + 1) ≤ length text.rows = next_within in
          let parted : straight_end text (laid.row number) 0 (laid.row (number + 1) - laid.row number)
          ≡ straight_end text (laid.row number) 0 count + straight_end text (laid.row number + count) 0 more
          = ap (straight_end text (laid.row number) 0)
          (let e : laid.row (number + 1) - laid.row number ≡ count + more = omega arith in e)
          ∙ two_parts text (laid.row number) count more in
          joined text (laid.row number) (laid.row number + count) (straight_end text (laid.row number) 0 count) machine
          ran.machine last final
          (cycles_taken packets (number ∷ numbers) - laid.lead number)
          (cycles_taken packets numbers - lead_at text packets laid (position_at (length packets) (number + 1)) +
          straight_end text
          (laid.row number + count) 0 more)
          (cut_plain text (block_of packets number) (laid.row number) (laid.count number) (laid.lead number) it packet
          machine ran sound m none)
          (λ t l. omega arith)
          (over_idle text (laid.row number + count) more ran.machine
          (subst (AreIdle text (laid.row number + count)) (sym here) (laid.idle number inside)) (omega arith)
          m.leaves.state.sound last final
          (cycles_taken packets numbers - lead_at text packets laid (position_at (length packets) (number + 1)))
          (subst (λ r. FliesAs text r ran.machine last final
          (cycles_taken packets numbers - lead_at text packets laid (position_at (length packets) (number + 1))))
          (sym here)
          (behind ran.machine (position_at (length packets) (number + 1)) (laid.row (number + 1)) final last
          (stands_there text packets laid (number + 1) (laid.row (number + 1)) (λ l. refl)
          (λ l. ap laid.row (let e : number + 1 ≡ length packets = omega arith in e) ∙ laid.last))
          m.leaves.state.sound
          (subst (λ exit. ChainLeads (length packets) (packet_blocks packets) ran.machine
          (chain_after (length packets) number exit) numbers final last)
          (exit_plain text (block_of packets number) (laid.row number) (laid.count number) (laid.lead number) it packet
          machine ran sound m none) leads) out)))
        where
          next_within : laid.row (number + 1) ≤ length text.rows
          next_within = ⊎_elim {C = laid.row (number + 1) ≤ length text.rows}
              (λ l. row_within text packets laid (number + 1) l)
              (λ l. let e : number + 1 ≡ length packets = omega arith in let f : laid.row (number + 1) ≡ length
              text.rows = ap laid.row e ∙ laid.last in omega arith)
              (cases_lt (number + 1) (length packets))

      by_branch : ((p : Placed) → In p (issued_on text (straight text (laid.row number) 0 (laid.count number)))
          → (since (laid.lead number) m.did p).target ≡ None)
          ⊎ ((p : Placed) × (target : Target)
          × In p (issued_on text (straight text (laid.row number) 0 (laid.count number)))
          × ((since (laid.lead number) m.did p).target ≡ Some target))
          → Goal
      by_branch (inr b) = by_target b.0 b.1 b.2 b.3
      by_branch (inl none) = fallen none

      one_block : Goal
      one_block = by_branch
          (any_branch text (block_of packets number) (laid.row number) (laid.count number) (laid.lead number) it
          packet machine ran sound m)

    chain_flies : (numbers : List ℕ) → Behind numbers
    unfolding ChainLeads
    chain_flies [] machine position row final last stands sound leads out =
        subst (λ l. FliesAs text row machine l final (0 - lead_at text packets laid position)) (sym leads.1)
        (subst (λ f. FliesAs text row machine position f (0 - lead_at text packets laid position)) (sym leads.0)
        (at_end text packets laid position row machine stands sound))
    chain_flies (number ∷ numbers) machine position row final last stands sound leads out =
        let there : Stands text packets laid (AtBlock number) row = subst (λ p. Stands text packets laid p row) leads.0
        stands in
        subst (λ p. FliesAs text row machine last final
        (cycles_taken packets (number ∷ numbers) - lead_at text packets laid p))
        (sym leads.0)
        (reached text packets laid (AtBlock number) row machine last final
        (cycles_taken packets (number ∷ numbers) - laid.lead number)
        there sound
        (one_block number numbers machine final last leads.1 there.there sound leads.2 leads.3 out
        (chain_flies numbers)))

pub spaced_flies : (text : Text) (packets : List Packed) → SpacedFlies text packets
spaced_flies text packets laid blocks opening limit standing sound chain out =
    let f : FliesAs text 0 opening standing.position standing.machine
    (cycles_taken packets standing.numbers - lead_at text packets laid (position_at (length packets) 0))
    = chain_flies text packets laid blocks standing.numbers opening (position_at (length packets) 0) 0 standing.machine
    standing.position
    (stands_at text packets laid 0 0 (λ l. (laid.first, omega arith))
    (λ l. let e : 0 ≡ length packets = omega arith in
    let to : laid.row 0 ≡ length text.rows = ap laid.row e
    ∙ laid.last in (subst (AreIdle text 0) to laid.first, omega arith))) sound chain.stands out in
    let none : lead_at text packets laid (position_at (length packets) 0) ≡ 0 = no_lead text packets laid
    0 (λ l. laid.begun) in
    let long : cycles_taken packets standing.numbers - lead_at text packets laid (position_at (length packets) 0)
    ≤ f.taken = f.long in
    record { stop = f.stop; taken = f.taken; long = omega arith; told = f.told; flies = f.flies }
