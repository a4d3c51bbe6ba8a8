-- A run that is counted, one block more.
use Rattle.std.proofs.Common.{◌≡◌, ◌≢◌, ◌∙◌, ℕ, ◌+◌, ◌<◌, ◌≤◌, List, length, ap, subst, get_or, set, refl}
use Rattle.std.proofs.lemmas.List.{get_or_read}
use Rattle.c62_read.specs.Block.{Serial}
use Rattle.c62_serial.specs.declared.serial.Exit.{Exit}
use Rattle.c62_serial.specs.State.{Machine}
use Rattle.c62_serial.specs.Serial.{Ran, serial}
use Rattle.c62_serial.specs.Chain.{position_at, position_after, serial_blocks, block_of as serial_block_of}
use Rattle.c62_serial.specs.Chain.{no_block as no_serial_block}
use Rattle.c62_packet.specs.Packed.{Packed}
use Rattle.c62_meaning.specs.Meaning.{IsMeaning}
use Rattle.c62_pipe.specs.Chain.{block_of, no_block, packet_blocks}
use Rattle.c62_profile.specs.declared.tally.Tally.{Tally}
use Rattle.c62_profile.specs.Visits.{cycles_each, insns_each, visits_at}
use Rattle.c62_profile.proofs.Turns.{Turn, turn_more}

pub packets_more : (packets all : List Packed) (opening machine next : Machine) (number blocks taken each limit : ℕ)
    (visits : List ℕ) (block other : Packed) (exit : Exit) (new : Tally)
    → all ≡ packets → number < length all → block ≡ get_or all number block → other ≡ get_or all number other
    → each ≡ other.cycles → each ≤ 65535
    → Turn (length packets) (packet_blocks packets) (cycles_each packets) opening machine
    (position_at (length packets) number) blocks taken visits limit → blocks ≢ limit
    → IsMeaning block.placed block.cycles machine (record { machine = next; exit = exit })
    → new.blocks ≡ blocks + 1 → new.taken ≡ taken + each
    → new.visits.items ≡ set visits number (visits_at visits number + 1)
    → Turn (length packets) (packet_blocks packets) (cycles_each packets) opening next
    (position_after (length packets) number exit) new.blocks new.taken new.visits.items limit
packets_more packets all opening machine next number blocks taken each limit visits block other exit new e h found again
    costs short turn below did b t v =
    let inside : number < length packets = rw (← e) h in
    let same : block ≡ block_of packets number = rw (← e) (get_or_read all number block h found no_block) in
    let also : other ≡ block_of packets number = rw (← e) (get_or_read all number other h again no_block) in
    let left : Ran = record { machine = next; exit = exit } in
    let Q : Packed → Type 0 = λ p. IsMeaning p.placed p.cycles machine left in
    let does : IsMeaning (block_of packets number).placed (block_of packets number).cycles machine left = subst Q same
    did in
    let cost : each ≡ cycles_each packets number = costs ∙ ap (λ (p : Packed). p.cycles) also in
    rw (b, t, v) (turn_more (length packets) (packet_blocks packets) (cycles_each packets) opening machine left number
    blocks taken each visits limit inside turn below does cost short)

pub serial_more : (program all : List Serial) (opening machine next : Machine) (number blocks taken each limit : ℕ)
    (visits : List ℕ) (block other : Serial) (exit : Exit) (new : Tally)
    → all ≡ program → number < length all → block ≡ get_or all number block → other ≡ get_or all number other
    → each ≡ length other.insns → each ≤ 65535
    → Turn (length program) (serial_blocks program) (insns_each program) opening machine
    (position_at (length program) number) blocks taken visits limit → blocks ≢ limit
    → next ≡ (serial block.insns machine).machine → exit ≡ (serial block.insns machine).exit
    → new.blocks ≡ blocks + 1 → new.taken ≡ taken + each
    → new.visits.items ≡ set visits number (visits_at visits number + 1)
    → Turn (length program) (serial_blocks program) (insns_each program) opening next
    (position_after (length program) number exit) new.blocks new.taken new.visits.items limit
serial_more program all opening machine next number blocks taken each limit visits block other exit new e h found again
    costs short turn below moved leaves b t v =
    let inside : number < length program = rw (← e) h in
    let same : block ≡ serial_block_of program number = rw (← e) (get_or_read all number block h found no_serial_block)
    in
    let also : other ≡ serial_block_of program number = rw (← e) (get_or_read all number other h again no_serial_block)
    in
    let left : Ran = record { machine = next; exit = exit } in
    let does : left ≡ serial (serial_block_of program number).insns machine = rw (← same) (rw (moved, leaves) refl) in
    let cost : each ≡ insns_each program number = costs ∙ ap (λ (s : Serial). length s.insns) also in
    rw (b, t, v) (turn_more (length program) (serial_blocks program) (insns_each program) opening machine left number
    blocks taken each visits limit inside turn below does cost short)
