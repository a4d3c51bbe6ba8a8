-- A block that lies in rows flies as it runs.
use Rattle.std.proofs.Common.{◌≡◌, ℕ, zero, suc, ◌+◌, ◌-◌, ◌<◌, ◌≤◌, true, eqb, List, []}
use Rattle.std.proofs.Common.{length, Option, Some, None, refl, sym, ◌∙◌, ap, subst, ◌⊎◌, arith}
use Rattle.std.specs.Prelude.{count_by, filter, is_some, Contains}
use Rattle.std.specs.Option.{option_or}
use Rattle.std.proofs.lemmas.Bool.{and_parts, false≢true}
use Rattle.std.proofs.lemmas.Option.{none-some, same_Some}
use Rattle.std.proofs.lemmas.List.Sums.{length-filter}
use Rattle.c62_insn.specs.declared.effect.Target.TheVariants.{Block as ToBlock}
use Rattle.c62_op.specs.declared.operands.Operands.TheVariants.{Block as BlockOperand}
use Rattle.c62_insn.specs.declared.effect.Target.{Target}
use Rattle.c62_insn.specs.Insn.{operands_of}
use Rattle.c62_serial.specs.declared.serial.Exit.TheVariants.{Next}
use Rattle.c62_serial.specs.State.{Machine, IsSound}
use Rattle.c62_serial.specs.Effect.{Act}
use Rattle.c62_serial.specs.Serial.{Ran, exit_to}
use Rattle.c62_serial.proofs.BranchLemmas.{goes_branch}
use Rattle.c62_packet.specs.declared.placed.Placed.{Placed}
use Rattle.c62_packet.specs.Packed.{Packed, is_branching, IsPacketBlock}
use Rattle.c62_meaning.specs.Packet.{Did, word_before, byte_before}
use Rattle.c62_meaning.specs.Meaning.{IsMeaning}
use Rattle.c62_meaning.specs.Cut.{moved, since, RunsTo, HaveLanded}
use Rattle.c62_meaning.proofs.Lookup.{In, In_from_Contains, Contains_from_In}
use Rattle.c62_meaning.proofs.Instances.{in_map}
use Rattle.c62_meaning.proofs.OneByOne.{runs_one_by_one}
use Rattle.c62_meaning.proofs.CutWords.{from_map, drained_landed}
use Rattle.c62_meaning.proofs.JoinedRuns.{nothing_landed, runs_later, landed_settles}
use Rattle.c62_flight.specs.declared.stop.Stop.TheVariants.{Register as StopRegister}
use Rattle.c62_flight.specs.Text.{Text, At, Outside, leads_to}
use Rattle.c62_flight.specs.Issued.{Visit, Issued, turn, issued_on}
use Rattle.c62_flight.specs.Broken.{has_branched, two_branches, clash, broken}
use Rattle.c62_flight.specs.Flight.{Leads, Flies}
use Rattle.c62_flight.specs.Cut.{IsCut}
use Rattle.c62_flight.specs.Laid.{straight, straight_end, IsLaid}
use Rattle.c62_flight.specs.Told.{Turns}
use Rattle.c62_flight.proofs.Lists.{first_of-none}
use Rattle.c62_flight.proofs.CutFlights.{IsParted, broken_behind}
use Rattle.c62_flight.proofs.Told.{turn_told, clash_told}
use Rattle.c62_flight.proofs.Straight.{leads_plain, leads_turning}
use Rattle.c62_flight.proofs.OneBranch.{goes_to, filter_fewer, one_branch, any_target, exit_none, exit_some}
use Rattle.c62_flight.proofs.OneBranch.{branch_length}
use Rattle.std.proofs.lemmas.Bool.Decides.{nat_tests}

-- ---- the block

module _ (text : Text) (block : Packed) (row count lead : ℕ) (laid : IsLaid text block row count lead)
    (packet : IsPacketBlock block) (before : Machine) (ran : Ran)
    (sound : IsSound before) (m : IsMeaning block.placed block.cycles before ran) where
  abbrev rows : List Placed
  rows = issued_on text (straight text row 0 count)

  abbrev did : Did
  did = since lead m.did

  abbrev issued : Issued
  issued = record { placed = rows; did = did }

  in_block : (p : Placed) → In p rows → In (moved lead p) block.placed
  in_block p h = subst (λ ps. In (moved lead p) ps) laid.holds (in_map (moved lead) p rows h)

  from_block : (q : Placed) → In q block.placed → (p : Placed) × In p rows × (moved lead p ≡ q)
  from_block q h = from_map (moved lead) q rows (subst (λ ps. In q ps) (sym laid.holds) h)

  -- what goes somewhere is a branch
  goes : (q : Placed) (target : Target) → In q block.placed → (m.did q).target ≡ Some target → is_branching q ≡ true
  goes q target h e =
      goes_branch q.insn before.base (word_before block.placed before m.did q.cycle)
      (byte_before block.placed before m.did q.cycle)
      target
      (ap (λ (a : Act). a.target) (sym (m.run q (Contains_from_In q block.placed h))) ∙ e)

  -- ---- it lands in time

  landed : HaveLanded block.cycles block.placed m.did
  landed = drained_landed block.cycles block.placed before m.did packet.drained m.run

  lands : (u : ℕ) → block.cycles ≤ lead + u → HaveLanded u rows did
  lands u l = record {
    before = λ p c. (let e : lead + p.cycle < block.cycles = landed.before (moved lead p) (there p c) in omega arith);
    landed = λ p write c w.
        (let e : lead + p.cycle + write.0.1 < block.cycles = landed.landed (moved lead p) write (there p c) w in
        omega arith);
  }
    where
      there : (p : Placed) → Contains rows p → Contains block.placed (moved lead p)
      there p c = Contains_from_In (moved lead p) block.placed (in_block p (In_from_Contains p rows c))

  runs : (u : ℕ) → block.cycles ≤ lead + u → RunsTo rows u before did ran.machine
  runs u l =
      let e : block.cycles + (lead + u - block.cycles) ≡ lead + u = omega arith in
      (runs_later lead rows before u m.did ran.machine).back.0
      (subst (λ ps. RunsTo ps (lead + u) before m.did ran.machine) (sym laid.holds)
      (subst (λ n. RunsTo block.placed n before m.did ran.machine) e
      ((landed_settles block.cycles block.placed before (lead + u - block.cycles) m.did ran.machine sound landed).0
      (record { run = m.run; leaves = m.leaves.state }))))

  -- ---- no cycle of it is broken

  few_branches : (c : ℕ) → two_branches (filter (has_branched m.did c) block.placed) ≡ None
  few_branches c = few (filter (has_branched m.did c) block.placed)
      (let fewer : length (filter (has_branched m.did c) block.placed) ≤ length (filter is_branching block.placed)
      = filter_fewer (has_branched m.did c) is_branching block.placed
      (λ q h t. branches q h (and_parts (eqb q.cycle c) (is_some (m.did q).target) t).1) in
      let most : length (filter is_branching block.placed) ≤ 1 = packet_few in omega arith)
    where
      branches : (q : Placed) → In q block.placed → is_some (m.did q).target ≡ true → is_branching q ≡ true
      branches q h t = by_target (m.did q).target refl t
        where
          by_target : (o : Option Target) → (m.did q).target ≡ o → is_some o ≡ true → is_branching q ≡ true
          by_target None e t = absurd (false≢true t)
          by_target (Some target) e t = goes q target h e

      packet_few : length (filter is_branching block.placed) ≤ 1
      packet_few =
          let few : count_by is_branching block.placed ≤ 1 = packet.one_branch in
          let same : length (filter is_branching block.placed) ≡ count_by is_branching block.placed = length-filter
          is_branching block.placed in omega arith

      few : (ps : List Placed) → length ps ≤ 1 → two_branches ps ≡ None
      few ps l = grind arith

  quiet : (c : ℕ) → broken issued c ≡ None
  quiet c =
      sym (broken_behind lead [] rows m.did did parted c)
      ∙ ap (λ ps. broken (record { placed = ps; did = m.did }) (lead + c)) laid.holds
      ∙ ap (λ o. option_or o (clash m.did (lead + c) block.placed)) (few_branches (lead + c))
      ∙ (clash_told block.placed m.did).1 (runs_one_by_one block.placed before m.did packet.rules.landing m.run)
      (lead + c)
    where
      parted : IsParted lead [] rows m.did did
      parted = record {
        drained = record { all = nothing_landed lead m.did; branches = λ p target h. absurd (In_from_Contains p [] h) };
        same = λ p h. refl;
      }

  -- ---- no branch ran

  module _ (none : (p : Placed) → In p rows → (did p).target ≡ None) where
    turns_none : (c : ℕ) → turn issued c ≡ None
    turns_none c = grind (arith, nat_tests, first_of-none)

    pub exit_plain : ran.exit ≡ Next
    exit_plain =
        m.leaves.exit
        ∙ exit_none m.did block.placed Next
        (λ q h. (let r = from_block q h in subst (λ z. (m.did z).target ≡ None) r.2 (none r.0 r.1)))

    pub cut_plain : (more : ℕ)
        → IsCut text row (straight_end text row 0 count + more) before (row + count) (straight_end text row 0 count)
        ran.machine
    cut_plain more = record {
      path = straight text row 0 count;
      did = did;
      runs = runs (straight_end text row 0 count) laid.lasts;
      leads = leads_plain text (straight_end text row 0 count + more) issued quiet turns_none row 0 count laid.rows
          (omega arith);
      whole = λ c _. quiet c;
      drained = record {
        all = lands (straight_end text row 0 count) laid.lasts;
        branches = λ p target c e. absurd (none-some target (sym (none p (In_from_Contains p rows c)) ∙ e));
      };
    }

  -- ---- a branch ran

  module _ (branch : Placed) (target : Target) (there : In branch rows) (ran_to : (did branch).target ≡ Some target)
    where
      is_one : is_branching (moved lead branch) ≡ true
      is_one = goes (moved lead branch) target (in_block branch there) ran_to

      one_target : (p : Placed) (t : Target) → In p rows → (did p).target ≡ Some t → (p.cycle ≡ branch.cycle)
          × (t ≡ target)
      one_target p t h e =
          let same : moved lead p ≡ moved lead branch
          = one_branch block (moved lead p) (moved lead branch) packet (in_block p h) (in_block branch there)
          (goes (moved lead p) t (in_block p h) e) is_one in
          let cycles : lead + p.cycle ≡ lead + branch.cycle = ap (λ (q : Placed). q.cycle) same in
          (omega arith, same_Some t target (sym e ∙ ap (λ q. (m.did q).target) same ∙ ran_to))

      pub takes : block.cycles ≡ lead + (branch.cycle + 6)
      takes = let e : block.cycles ≡ lead + branch.cycle + 6 = branch_length block (moved lead branch) packet
          (in_block branch there) is_one in omega arith

      pub names : (number : ℕ) → target ≡ ToBlock number → operands_of (moved lead branch).insn ≡ BlockOperand number
      names number e =
          goes_to branch.insn before.base (word_before block.placed before m.did (lead + branch.cycle))
          (byte_before block.placed before m.did (lead + branch.cycle)) number
          (ap (λ (a : Act). a.target)
          (sym (m.run (moved lead branch)
          (Contains_from_In (moved lead branch) block.placed (in_block branch there)))) ∙ ran_to ∙ ap Some e)

      pub in_placed : Contains block.placed (moved lead branch)
      in_placed = Contains_from_In (moved lead branch) block.placed (in_block branch there)

      turn_there : turn issued (branch.cycle + 6) ≡ Some target
      turn_there = by_turn (turn issued (branch.cycle + 6)) refl
        where
          by_turn : (o : Option Target) → turn issued (branch.cycle + 6) ≡ o
              → turn issued (branch.cycle + 6) ≡ Some target
          by_turn None e =
              absurd ((turn_told issued (branch.cycle + 6)).none e target
              (record {
                placed = branch;
                inside = Contains_from_In branch rows there;
                ran = ran_to;
                when = refl;
              }))
          by_turn (Some t) e =
              let turns : Turns issued (branch.cycle + 6) t = (turn_told issued (branch.cycle + 6)).some t e in
              e ∙ ap Some (one_target turns.placed t (In_from_Contains turns.placed rows turns.inside) turns.ran).1

      turn_else : (c : ℕ) → (c ≡ branch.cycle + 6 → ⊥) → turn issued c ≡ None
      turn_else c other = by_turn (turn issued c) refl
        where
          by_turn : (o : Option Target) → turn issued c ≡ o → turn issued c ≡ None
          by_turn None e = e
          by_turn (Some t) e =
              let turns : Turns issued c t = (turn_told issued c).some t e in
              let same : turns.placed.cycle ≡ branch.cycle =
              (one_target turns.placed t (In_from_Contains turns.placed rows turns.inside) turns.ran).0 in
              let when : turns.placed.cycle + 6 ≡ c = turns.when in absurd (other (omega arith))

      leads_turned : (limit n : ℕ) → branch.cycle + 6 ≤ limit → In branch (issued_on text (straight text row 0 n))
          → row + n ≤ length text.rows
          → ((visit : Visit) → In visit (straight text row 0 n) → visit.start < branch.cycle + 6)
          → branch.cycle + 6 ≤ straight_end text row 0 n
          → Leads text limit issued (At row) 0 (straight text row 0 n) (leads_to text target) (branch.cycle + 6)
      leads_turned limit zero l h inside starts u = absurd h
      leads_turned limit (suc n) l h inside starts u = leads_turning text limit issued quiet (branch.cycle + 6) target
          turn_else turn_there l row 0 n inside starts u

      leads_out : (more : ℕ)
          → Leads text (branch.cycle + 6 + more) issued (At row) 0 (straight text row 0 count) (leads_to text target)
          (branch.cycle + 6)
      leads_out more =
          let lasts : block.cycles ≤ lead + straight_end text row 0 count = laid.lasts in
          let long : block.cycles ≡ lead + (branch.cycle + 6) = takes in
          leads_turned (branch.cycle + 6 + more) count (omega arith) there laid.rows
          (λ visit h.
          let l : lead + visit.start < lead + branch.cycle + 6
          = laid.slots (moved lead branch) visit
          (Contains_from_In (moved lead branch) block.placed (in_block branch there)) is_one
          (Contains_from_In visit (straight text row 0 count) h) in omega arith)
          (omega arith)

      pub exit_turned : ran.exit ≡ exit_to target
      exit_turned =
          m.leaves.exit
          ∙ exit_some m.did block.placed Next (moved lead branch) target (in_block branch there) ran_to
          (λ q t h e. (let r = from_block q h in
          (one_target r.0 t r.1 (subst (λ z. (m.did z).target ≡ Some t) (sym r.2) e)).1))

      pub cut_turned : (to : ℕ) → leads_to text target ≡ At to → (more : ℕ)
          → IsCut text row (branch.cycle + 6 + more) before to (branch.cycle + 6) ran.machine
      cut_turned to is more =
          let long : block.cycles ≡ lead + (branch.cycle + 6) = takes in
          record {
            path = straight text row 0 count;
            did = did;
            runs = runs (branch.cycle + 6) (omega arith);
            leads = subst (λ p. Leads text (branch.cycle + 6 + more) issued (At row) 0 (straight text row 0 count) p
                (branch.cycle + 6)) is (leads_out more);
            whole = λ c _. quiet c;
            drained = record {
              all = lands (branch.cycle + 6) (omega arith);
              branches = λ p t c e.
                  (let same : p.cycle ≡ branch.cycle = (one_target p t (In_from_Contains p rows c) e).0 in omega
                  arith);
            };
          }

      pub flies_out : (word : ℕ) → leads_to text target ≡ Outside word → (more : ℕ)
          → Flies text row (branch.cycle + 6 + more) before (StopRegister word) (branch.cycle + 6) ran.machine
      flies_out word is more = grind (arith, takes, runs (branch.cycle + 6 + 4), leads_out more, quiet)

  pub any_branch : ((p : Placed) → In p rows → (did p).target ≡ None)
      ⊎ ((p : Placed) × (target : Target) × In p rows × ((did p).target ≡ Some target))
  any_branch = any_target did rows
