-- Blocks that are laid out fly as their chain.
use Rattle.std.proofs.Common.{◌≡◌, ℕ, ◌+◌, ◌<◌, ◌≤◌, List, [], ◌∷◌, length, Some, None, refl}
use Rattle.std.proofs.Common.{sym, ◌∙◌, ap, subst, ◌⊎◌, inl, inr, ⊎_elim, arith, ◌-◌}
use Rattle.std.specs.Prelude.{All, slice_get}
use Rattle.std.proofs.lemmas.Bool.{cases_lt, cond-false}
use Rattle.std.proofs.lemmas.Option.{slice_get-get_or}
use Rattle.std.proofs.lemmas.List.Sums.{sum_by-cons}
use Rattle.c62_insn.specs.declared.effect.Target.{Target}
use Rattle.c62_insn.specs.declared.effect.Target.TheVariants.{Block as ToBlock, Register as ToRegister}
use Rattle.c62_serial.specs.declared.chain.End.TheVariants.{End as FellThrough, Register as LeftBy, Limit as Stopped}
use Rattle.c62_serial.specs.State.{Machine, IsSound}
use Rattle.c62_serial.specs.Serial.{Ran}
use Rattle.c62_serial.specs.Chain.{Position as ChainPosition, At as AtBlock, Ended, Leads as ChainLeads, position_at}
use Rattle.c62_serial.specs.Chain.{position_after as chain_after}
use Rattle.c62_packet.specs.declared.placed.Placed.{Placed}
use Rattle.c62_packet.specs.Packed.{Packed, IsPacketBlock}
use Rattle.c62_meaning.specs.Meaning.{IsMeaning}
use Rattle.c62_meaning.specs.Cut.{moved, since}
use Rattle.c62_meaning.proofs.Lookup.{In}
use Rattle.c62_flight.specs.declared.stop.Stop.TheVariants.{End, Register, Limit}
use Rattle.c62_flight.specs.Text.{Text, aim_of}
use Rattle.c62_flight.specs.Issued.{issued_on}
use Rattle.c62_flight.specs.Flight.{Flies}
use Rattle.c62_flight.specs.Cut.{IsCut}
use Rattle.c62_flight.specs.Laid.{straight, straight_end, IsLaid, AreLaid, no_block, block_of, packet_blocks, FliesAs}
use Rattle.c62_flight.specs.Laid.{IsOutside, LaidFlies, cycles_taken}
use Rattle.c62_flight.proofs.Joined.{flies_on}
use Rattle.c62_flight.proofs.LaidBlock.{takes, names, in_placed, exit_plain, cut_plain, exit_turned, cut_turned}
use Rattle.c62_flight.proofs.LaidBlock.{flies_out, any_branch}
use Rattle.c62_flight.proofs.Stays.{stays_behind, stays_limited}
use Rattle.std.proofs.lemmas.Bool.Decides.{nat_tests}

-- ---- a flight with a part before it

joined : (text : Text) (row next cycle : ℕ) (machine middle : Machine) (last : ChainPosition) (final : Machine)
    (least rest : ℕ) → ((more : ℕ) → IsCut text row (cycle + more) machine next cycle middle)
    → ((t : ℕ) → rest ≤ t → least ≤ cycle + t) → FliesAs text next middle last final rest
    → FliesAs text row machine last final least
joined text row next cycle machine middle last final least rest cut longer f = record {
  stop = f.stop;
  taken = cycle + f.taken;
  long = longer f.taken f.long;
  told = f.told;
  flies = λ more h.
      let e : cycle + (f.taken + more) ≡ cycle + f.taken + more = omega arith in
      subst (λ n. Flies text row n machine f.stop (cycle + f.taken) final) e
      (flies_on text row (f.taken + more) machine next cycle middle (cut (f.taken + more)) f.stop f.taken final
      (f.flies more h));
}

-- ---- the chain

module _ (text : Text) (packets : List Packed) (laid : AreLaid text packets) (blocks : All IsPacketBlock packets) where
  -- the row before which a run stands whose chain stands there
  abbrev StandsAt : ChainPosition → ℕ → Type 0
  StandsAt (AtBlock number) row = (number < length packets) × (row ≡ laid.row number)
  StandsAt (Ended FellThrough) row = row ≡ length text.rows
  StandsAt (Ended (LeftBy word)) row = ⊥
  StandsAt (Ended Stopped) row = ⊥

  stands_at : (number row : ℕ) → (number < length packets → row ≡ laid.row number)
      → (length packets ≤ number → row ≡ length text.rows) → StandsAt (position_at (length packets) number) row
  stands_at number row inside outside = grind (arith, nat_tests)

  -- by how many cycles the block there leads its row
  abbrev lead_at : ChainPosition → ℕ
  lead_at (AtBlock number) = laid.lead number
  lead_at (Ended stop) = 0

  lead_within : (number : ℕ) → lead_at (position_at (length packets) number) ≤ laid.lead number
  lead_within number = grind arith

  no_lead : (number : ℕ) → (number < length packets → laid.lead number ≡ 0)
      → lead_at (position_at (length packets) number) ≡ 0
  no_lead number none = grind (arith, nat_tests)

  at_end : (position : ChainPosition) (row : ℕ) (machine : Machine) → StandsAt position row → IsSound machine
      → FliesAs text row machine position machine (0 - lead_at position)
  at_end (AtBlock number) row machine stands sound =
      ⊎_elim {C = FliesAs text row machine (AtBlock number) machine (0 - laid.lead number)}
      (λ l. record {
        stop = Limit;
        taken = 0;
        long = omega arith;
        told = inl refl;
        flies = λ more h. (let e : 0 ≡ 0 + more = (let z : more ≡ 0 = h refl in omega arith) in
            subst (λ n. Flies text row n machine Limit 0 machine) e (stays_limited text row machine sound l));
      })
      (λ l. record {
        stop = End;
        taken = 0;
        long = omega arith;
        told = inr refl;
        flies = λ more h. stays_behind text row
            (0 + more) machine sound l;
      })
      (cases_lt row (length text.rows))
  at_end (Ended FellThrough) row machine stands sound = grind (arith, stays_behind text row)
  at_end (Ended (LeftBy word)) row machine stands sound = absurd stands
  at_end (Ended Stopped) row machine stands sound = absurd stands

  abbrev Behind : List ℕ → Type 0
  Behind numbers = (machine : Machine) (position : ChainPosition) (row : ℕ) (final : Machine) (last : ChainPosition)
      → StandsAt position row → IsSound machine
      → ChainLeads (length packets) (packet_blocks packets) machine position numbers final last → IsOutside text last
      → FliesAs text row machine last final (cycles_taken packets numbers - lead_at position)

  -- a branch to a register is the last
  left : (numbers : List ℕ) (machine : Machine) (word : ℕ) (final : Machine) (last : ChainPosition)
      → ChainLeads (length packets) (packet_blocks packets) machine (Ended (LeftBy word)) numbers final last
      → (final ≡ machine) × (last ≡ Ended (LeftBy word)) × (numbers ≡ [])
  unfolding ChainLeads
  left [] machine word final last leads = (leads.0, leads.1, refl)
  left (number ∷ numbers) machine word final last leads = grind arith

  one_block : (number row : ℕ) (numbers : List ℕ) (machine : Machine) (final : Machine) (last : ChainPosition)
      (ran : Ran) → number < length packets → row ≡ laid.row number → IsSound machine
      → IsMeaning (block_of packets number).placed (block_of packets number).cycles machine ran
      → ChainLeads (length packets) (packet_blocks packets) ran.machine (chain_after (length packets) number ran.exit)
      numbers final last
      → IsOutside text last → Behind numbers
      → FliesAs text row machine last final (cycles_taken packets (number ∷ numbers) - laid.lead number)
  one_block number row numbers machine final last ran inside is sound m leads out behind =
      subst (λ r. FliesAs text r machine last final (cycles_taken packets (number ∷ numbers) - laid.lead number))
      (sym is)
      (by_branch (any_branch text (block_of packets number) (laid.row number) (laid.count number) (laid.lead number) it
      packet machine ran sound m))
    where
      is_there : slice_get packets number ≡ Some (block_of packets number)
      is_there = slice_get-get_or packets number no_block inside

      it : IsLaid text (block_of packets number) (laid.row number) (laid.count number) (laid.lead number)
      it = laid.laid number (block_of packets number) is_there

      packet : IsPacketBlock (block_of packets number)
      packet = blocks number no_block inside

      whole : cycles_taken packets (number ∷ numbers) ≡ (block_of packets number).cycles + cycles_taken packets numbers
      whole = sum_by-cons (λ n. (block_of packets n).cycles) number numbers

      by_target : (p : Placed) (target : Target)
          → In p (issued_on text (straight text (laid.row number) 0 (laid.count number)))
          → (since (laid.lead number) m.did p).target ≡ Some target
          → FliesAs text (laid.row number) machine last final
          (cycles_taken packets (number ∷ numbers) - laid.lead number)
      by_target p (ToBlock other) h e =
          let long : (block_of packets number).cycles ≡ laid.lead number + (p.cycle + 6)
          = takes text (block_of packets number) (laid.row number) (laid.count number) (laid.lead number) it packet
          machine ran sound m p (ToBlock other) h e in
          let none : lead_at (position_at (length packets) other) ≡ 0
          = no_lead other (laid.targets number other (block_of packets number) (moved (laid.lead number) p) is_there
          (in_placed text (block_of packets number) (laid.row number) (laid.count number) (laid.lead number) it packet
          machine ran sound m p (ToBlock other) h e)
          (names text (block_of packets number) (laid.row number) (laid.count number) (laid.lead number) it packet
          machine ran sound m p (ToBlock other) h e other refl)) in
          let all : cycles_taken packets (number ∷ numbers) ≡ (block_of packets number).cycles + cycles_taken packets
          numbers = whole in
          joined text (laid.row number) (aim_of text other) (p.cycle + 6) machine ran.machine last final
          (cycles_taken packets (number ∷ numbers) - laid.lead number)
          (cycles_taken packets numbers - lead_at (position_at (length packets) other))
          (cut_turned text (block_of packets number) (laid.row number) (laid.count number) (laid.lead number) it packet
          machine ran sound m p (ToBlock other) h e (aim_of text other) refl)
          (λ t l. omega arith)
          (behind ran.machine (position_at (length packets) other) (aim_of text other) final last
          (stands_at other (aim_of text other) (laid.aims other) (laid.outside other)) m.leaves.state.sound
          (subst (λ exit. ChainLeads (length packets) (packet_blocks packets) ran.machine
          (chain_after (length packets) number exit) numbers final last)
          (exit_turned text (block_of packets number) (laid.row number) (laid.count number) (laid.lead number) it packet
          machine ran sound m p (ToBlock other) h e) leads) out)
      by_target p (ToRegister word) h e =
          let r : (final ≡ ran.machine) × (last ≡ Ended (LeftBy word)) × (numbers ≡ [])
          = left numbers ran.machine word final last
          (subst (λ exit. ChainLeads (length packets) (packet_blocks packets) ran.machine
          (chain_after (length packets) number exit) numbers final last)
          (exit_turned text (block_of packets number) (laid.row number) (laid.count number) (laid.lead number) it packet
          machine ran sound m p (ToRegister word) h e) leads) in
          let long : (block_of packets number).cycles ≡ laid.lead number + (p.cycle + 6)
          = takes text (block_of packets number) (laid.row number) (laid.count number) (laid.lead number) it packet
          machine ran sound m p (ToRegister word) h e in
          let all : cycles_taken packets (number ∷ numbers) ≡ (block_of packets number).cycles + cycles_taken packets
          numbers = whole in
          let rest : cycles_taken packets numbers ≡ 0 = ap (cycles_taken packets) r.2 in
          subst (λ l. FliesAs text (laid.row number) machine l final
          (cycles_taken packets (number ∷ numbers) - laid.lead number)) (sym r.1)
          (subst (λ f. FliesAs text (laid.row number) machine (Ended (LeftBy word)) f
          (cycles_taken packets (number ∷ numbers) - laid.lead number)) (sym r.0) (record {
            stop = Register word;
            taken = p.cycle + 6;
            long = omega arith;
            told = refl;
            flies = λ more _. flies_out text (block_of packets number) (laid.row number) (laid.count number)
                (laid.lead number) it packet machine ran sound m p (ToRegister word) h e word
                (cond-false _ _ _ (subst (IsOutside text) r.1 out)) more;
          }))

      by_branch : ((p : Placed) → In p (issued_on text (straight text (laid.row number) 0 (laid.count number)))
          → (since (laid.lead number) m.did p).target ≡ None)
          ⊎ ((p : Placed) × (target : Target)
          × In p (issued_on text (straight text (laid.row number) 0 (laid.count number)))
          × ((since (laid.lead number) m.did p).target ≡ Some target))
          → FliesAs text (laid.row number) machine last final
          (cycles_taken packets (number ∷ numbers) - laid.lead number)
      by_branch (inr b) = by_target b.0 b.1 b.2 b.3
      by_branch (inl none) =
          let gap : (block_of packets number).cycles + laid.lead (number + 1) ≤ laid.lead number + straight_end text
          (laid.row number) 0 (laid.count number)
          = laid.gaps number (block_of packets number) is_there in
          let within : lead_at (position_at (length packets) (number + 1)) ≤ laid.lead (number + 1) = lead_within
          (number + 1) in
          let all : cycles_taken packets (number ∷ numbers) ≡ (block_of packets number).cycles + cycles_taken packets
          numbers = whole in
          joined text (laid.row number) (laid.row number + laid.count number)
          (straight_end text (laid.row number) 0 (laid.count number)) machine ran.machine last final
          (cycles_taken packets (number ∷ numbers) - laid.lead number)
          (cycles_taken packets numbers - lead_at (position_at (length packets) (number + 1)))
          (cut_plain text (block_of packets number) (laid.row number) (laid.count number) (laid.lead number) it packet
          machine ran sound m none)
          (λ t l. omega arith)
          (behind ran.machine (position_at (length packets) (number + 1)) (laid.row number + laid.count number) final
          last
          (stands_at (number + 1) (laid.row number + laid.count number) (λ l. sym (laid.next number inside))
          (λ l. (let e : number + 1 ≡ length packets = omega arith in sym (laid.next number inside)
          ∙ ap (λ n. laid.row n) e ∙ laid.last)))
          m.leaves.state.sound
          (subst (λ exit. ChainLeads (length packets) (packet_blocks packets) ran.machine
          (chain_after (length packets) number exit) numbers final last)
          (exit_plain text (block_of packets number) (laid.row number) (laid.count number) (laid.lead number) it packet
          machine ran sound m none) leads) out)

  chain_flies : (numbers : List ℕ) → Behind numbers
  unfolding ChainLeads
  chain_flies [] machine position row final last stands sound leads out =
      subst (λ l. FliesAs text row machine l final (0 - lead_at position)) (sym leads.1)
      (subst (λ f. FliesAs text row machine position f (0 - lead_at position)) (sym leads.0)
      (at_end position row machine stands sound))
  chain_flies (number ∷ numbers) machine position row final last stands sound leads out =
      let there : (number < length packets) × (row ≡ laid.row number) = subst (λ p. StandsAt p row) leads.0 stands in
      subst (λ p. FliesAs text row machine last final (cycles_taken packets (number ∷ numbers) - lead_at p))
      (sym leads.0)
      (one_block number row numbers machine final last leads.1 there.0 there.1 sound leads.2 leads.3 out
      (chain_flies numbers))

pub laid_flies : (text : Text) (packets : List Packed) → LaidFlies text packets
laid_flies text packets laid blocks opening limit standing sound chain out = grind (
  arith,
  chain_flies text packets laid blocks standing.numbers opening (position_at (length packets) 0) 0 standing.machine
      standing.position,
  stands_at text packets laid blocks 0 0,
  no_lead text packets laid blocks 0,
)
