-- A check of loops of the front of an input is one of the whole.
use Rattle.std.proofs.Common.{◌+◌}
use Rattle.std.proofs.Common.{ℕ, ◌≤◌, Bool, List, ◌++◌, take, drop, None, subst, inl, inr}
use Rattle.clap.specs.Words.{Text as Name}
use Rattle.c62_op.specs.declared.register.Reg.{Reg}
use Rattle.c62_answer.specs.LoopCheck.{HasFaultyRows, HasNoLoop, IsLoopCheck, IsNoLoopCheck}
use Rattle.c62_answer.specs.LoopCheck.IsNoLoopCheck.{Endless, FaultyRows, FaultyText, NoLoop, Unparted}
use Rattle.c62_answer.proofs.Checks.{most_parted}
use Rattle.c62_answer.proofs.Checks.{endless_front, faulty_text_front, parted_of_front, same_code, taken_short}
use Rattle.c62_answer.proofs.TooLong.{short_said}
use Rattle.c62_answer.proofs.Flights.{flying_same, no_flight_same}
use Rattle.c62_op.specs.declared.set.InstructionSet.{InstructionSet}

module _ (isa : InstructionSet) (all : List ℕ) (n : ℕ) (enough : most_parted + 1 ≤ n) where
  unfoldable pub loop_check_all : (trips : List (Name × ℕ)) (apart : List Reg) (same : Bool) (answer : List ℕ)
      → IsLoopCheck isa trips apart (take n all) same answer
      → IsLoopCheck isa trips apart all same answer
  loop_check_all trips apart same answer is =
      let short = short_said isa is.text is.program is.says in
      record {
        text = is.text;
        listing = is.listing ++ drop n all;
        parted = parted_of_front isa all n enough is.text is.listing is.parted short;
        program = is.program;
        says = is.says;
        named = is.named;
        packets = is.packets;
        flies = flying_same isa is.listing (is.listing ++ drop n all) is.packets
            (same_code isa all n enough is.text is.listing is.parted.cut short) is.flies;
        plain = is.plain;
        told = is.told;
        does = is.does;
      }

  no_loop_front : (trips : List (Name × ℕ)) (message : List ℕ) → HasNoLoop isa trips (take n all) message
      → IsNoLoopCheck isa trips all message
  no_loop_front trips message is =
      NoLoop (record {
        text = is.text;
        listing = is.listing ++ drop n all;
        parted = parted_of_front isa all n enough is.text is.listing is.parted
            (short_said isa is.text is.program is.says);
        program = is.program;
        says = is.says;
        number = is.number;
        first = is.first;
        told = is.told;
      })

  faulty_rows_front : (trips : List (Name × ℕ)) (message : List ℕ) → HasFaultyRows isa trips (take n all) message
      → IsNoLoopCheck isa trips all message
  faulty_rows_front trips message is =
      let short = short_said isa is.text is.program is.says in
      FaultyRows (record {
        text = is.text;
        listing = is.listing ++ drop n all;
        parted = parted_of_front isa all n enough is.text is.listing is.parted short;
        program = is.program;
        says = is.says;
        named = is.named;
        fault = is.fault;
        refused = no_flight_same isa None is.listing (is.listing ++ drop n all) is.fault
            (same_code isa all n enough is.text is.listing is.parted.cut short) is.refused;
        told = is.told;
      })

  pub no_loop_check_all : (trips : List (Name × ℕ)) (message : List ℕ) → IsNoLoopCheck isa trips (take n all) message
      → IsNoLoopCheck isa trips all message
  no_loop_check_all trips message (Endless endless told) = Endless (endless_front isa all n enough endless) told
  no_loop_check_all trips message (Unparted unparted told) =
      subst (λ (xs : List ℕ). IsNoLoopCheck isa trips xs message) (taken_short isa all n enough unparted.short)
      (Unparted unparted told)
  no_loop_check_all trips message (FaultyText is) = elim (faulty_text_front isa all n enough message is) [
    | inl endless ↦ Endless endless.0 endless.1
    | inr faulty ↦ FaultyText faulty
  ]
  no_loop_check_all trips message (NoLoop is) = no_loop_front trips message is
  no_loop_check_all trips message (FaultyRows is) = faulty_rows_front trips message is
