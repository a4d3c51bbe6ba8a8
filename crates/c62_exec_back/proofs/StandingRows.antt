-- The rows before which a run of a chain stands.
use Rattle.std.proofs.Common.{◌≡◌, ℕ, ◌+◌, ◌-◌, ◌<◌, ◌≤◌, List, length, refl, sym, subst, inl, inr, ⊎_elim, arith}
use Rattle.std.specs.Prelude.{nat_lt}
use Rattle.std.proofs.lemmas.Bool.{cases_lt, cond_both, ltb-true, ltb-false}
use Rattle.std.proofs.lemmas.Option.{slice_get-get_or}
use Rattle.c62_serial.specs.declared.chain.End.TheVariants.{End as FellThrough, Register as LeftBy, Limit as Stopped}
use Rattle.c62_serial.specs.State.{Machine, IsSound}
use Rattle.c62_serial.specs.Chain.{Position as ChainPosition, At as AtBlock, Ended, position_at}
use Rattle.c62_packet.specs.Packed.{Packed}
use Rattle.c62_flight.specs.declared.stop.Stop.TheVariants.{End, Limit}
use Rattle.c62_flight.specs.Text.{Text}
use Rattle.c62_flight.specs.Flight.{Flies}
use Rattle.c62_flight.specs.Laid.{straight_end, IsLaid, block_of, no_block, FliesAs}
use Rattle.c62_exec_back.specs.Spaced.{AreIdle, AreSpaced}
use Rattle.c62_exec_back.proofs.IdleRows.{stays_behind, stays_limited, over_idle}

-- ---- the chain

module _ (text : Text) (packets : List Packed) (laid : AreSpaced text packets) where
  -- the row of a block, or the one behind the last where the chain ended there
  abbrev row_at : ChainPosition → ℕ
  row_at (AtBlock number) = laid.row number
  row_at (Ended stop) = length text.rows

  abbrev IsThere : ChainPosition → Type 0
  IsThere (AtBlock number) = number < length packets
  IsThere (Ended FellThrough) = Unit {0}
  IsThere (Ended (LeftBy word)) = ⊥
  IsThere (Ended Stopped) = ⊥

  -- idle rows, if any, lead there from the row before which a run stands
  pub record Stands (position : ChainPosition) (row : ℕ) : Type 0 where
    pub there : IsThere position
    pub idle : AreIdle text row (row_at position)
    pub reaches : row ≤ row_at position
    pub within : row_at position ≤ length text.rows

  pub row_within : (number : ℕ) → number < length packets → laid.row number ≤ length text.rows
  row_within number inside =
      let it : IsLaid text (block_of packets number) (laid.row number) (laid.count number) (laid.lead number)
      = laid.laid number (block_of packets number) (slice_get-get_or packets number no_block inside) in
      let rows : laid.row number + laid.count number ≤ length text.rows = it.rows in omega arith

  pub stands_at : (number row : ℕ)
      → (number < length packets → AreIdle text row (laid.row number) × (row ≤ laid.row number))
      → (length packets ≤ number → AreIdle text row (length text.rows) × (row ≤ length text.rows))
      → Stands (position_at (length packets) number) row
  stands_at number row inside outside =
      cond_both (nat_lt number (length packets)) (AtBlock number) (Ended FellThrough) (λ position. Stands position row)
      (λ t. let l = ltb-true number (length packets) t in record
      { there = l; idle = (inside l).0; reaches = (inside l).1; within = row_within number l })
      (λ t. let l = ltb-false number (length packets) t in record
      { there = tt; idle = (outside l).0; reaches = (outside l).1; within = omega arith })

  pub stands_there : (number row : ℕ) → (number < length packets → row ≡ laid.row number)
      → (length packets ≤ number → row ≡ length text.rows) → Stands (position_at (length packets) number) row
  stands_there number row inside outside =
      stands_at number row
      (λ l. let e : row ≡ laid.row number = inside l in (λ other low high. absurd (omega arith), omega arith))
      (λ l. let e : row ≡ length text.rows = outside l in (λ other low high. absurd (omega arith), omega arith))

  -- by how many cycles the block there leads its row
  abbrev pub lead_at : ChainPosition → ℕ
  lead_at (AtBlock number) = laid.lead number
  lead_at (Ended stop) = 0

  pub lead_within : (number : ℕ) → lead_at (position_at (length packets) number) ≤ laid.lead number
  lead_within number = cond_both (nat_lt number (length packets)) (AtBlock number) (Ended FellThrough)
      (λ position. lead_at position ≤ laid.lead number) (λ t. omega arith) (λ t. omega arith)

  pub no_lead : (number : ℕ) → (number < length packets → laid.lead number ≡ 0)
      → lead_at (position_at (length packets) number) ≡ 0
  no_lead number none =
      cond_both (nat_lt number (length packets)) (AtBlock number) (Ended FellThrough) (λ position. lead_at position ≡ 0)
      (λ t. none (ltb-true number (length packets) t)) (λ t. refl)

  -- over the idle rows
  pub reached : (position : ChainPosition) (row : ℕ) (machine : Machine) (last : ChainPosition) (final : Machine)
      (least : ℕ) → Stands position row → IsSound machine
      → FliesAs text (row_at position) machine last final least → FliesAs text row machine last final least
  reached position row machine last final least stands sound f =
      let count : ℕ = row_at position - row in
      let reach : row ≤ row_at position = stands.reaches in
      let e : row + count ≡ row_at position = omega arith in
      let inside : row_at position ≤ length text.rows = stands.within in
      let g = over_idle text row count machine (subst (AreIdle text row) (sym e) stands.idle) (omega arith) sound last
      final least
      (subst (λ r. FliesAs text r machine last final least) (sym e) f) in
      let long : least + straight_end text row 0 count ≤ g.taken = g.long in
      record { stop = g.stop; taken = g.taken; long = omega arith; told = g.told; flies = g.flies }

  pub at_end : (position : ChainPosition) (row : ℕ) (machine : Machine) → Stands position row → IsSound machine
      → FliesAs text row machine position machine (0 - lead_at position)
  at_end (AtBlock number) row machine stands sound =
      ⊎_elim {C = FliesAs text row machine (AtBlock number) machine (0 - laid.lead number)}
      (λ l. record {
        stop = Limit;
        taken = 0;
        long = omega arith;
        told = inl refl;
        flies = λ more h. (let e : 0 ≡ 0 + more = (let z : more ≡ 0 = h refl in omega arith) in
            subst (λ n. Flies text row n machine Limit 0 machine) e (stays_limited text row machine sound l));
      })
      (λ l. record {
        stop = End;
        taken = 0;
        long = omega arith;
        told = inr refl;
        flies = λ more h. stays_behind text row
            (0 + more) machine sound l;
      })
      (cases_lt row (length text.rows))
  at_end (Ended FellThrough) row machine stands sound =
      reached (Ended FellThrough) row machine (Ended FellThrough) machine 0 stands sound
      (record {
        stop = End;
        taken = 0;
        long = omega arith;
        told = refl;
        flies = λ more h. stays_behind text
            (length text.rows) (0 + more) machine sound (omega arith);
      })
  at_end (Ended (LeftBy word)) row machine stands sound = absurd stands.there
  at_end (Ended Stopped) row machine stands sound = absurd stands.there
