-- What instructions find before a cut and behind it.
use Rattle.std.proofs.Common.{◌≡◌, ℕ, ◌+◌, ◌*◌, ◌<◌, ◌≤◌, List, [], ◌∷◌, ◌++◌, map}
use Rattle.std.proofs.Common.{subst, arith}
use Rattle.std.specs.Prelude.{Contains}
use Rattle.std.specs.List.{flat_map}
use Rattle.std.proofs.lemmas.Bool.Decides.{nat_tests}
use Rattle.std.proofs.lemmas.Grind.{flat_map-append}
use Rattle.std.proofs.lemmas.List.Elements.{All-contains}
use Rattle.c62_op.specs.declared.register.Reg.{Reg}
use Rattle.c62_op.specs.Units.{index_of as unit_index}
use Rattle.c62_op.proofs.UnitOrder.{index_of-below}
use Rattle.c62_insn.specs.declared.insn.Insn.{Insn}
use Rattle.c62_insn.specs.Insn.{register_writes, greatest_delay}
use Rattle.c62_rules.specs.Length.{landing_end}
use Rattle.c62_serial.specs.State.{Machine, index_of, word_in, byte_in}
use Rattle.c62_serial.specs.Effect.{Act}
use Rattle.c62_packet.specs.declared.placed.Placed.{Placed}
use Rattle.c62_packet.specs.Packed.{AreDrained, issue_of}
use Rattle.c62_meaning.specs.Landing.{Landing, value_before}
use Rattle.c62_meaning.specs.Packet.{Did, access_time, register_landings, memory_landings, word_before, byte_before}
use Rattle.c62_meaning.specs.Packet.{IsRun}
use Rattle.c62_meaning.specs.Cut.{HaveLanded, since, behind}
use Rattle.c62_meaning.proofs.Lookup.{In, In_from_Contains, Contains_from_In, from_In-flat_map}
use Rattle.c62_meaning.proofs.Acting.{LoadsByte}
use Rattle.c62_meaning.proofs.Landings.{from_In-writes, from_In-access, act_writes}
use Rattle.c62_meaning.proofs.Ends.{past_write}
use Rattle.c62_meaning.proofs.MovedLandings.{moved_landing, value_ahead, registers_moved, memory_moved}

-- ---- what instructions find before the cut and behind it

pub from_map : {X Y : Type 0} (f : X → Y) (y : Y) (xs : List X) → In y (map f xs) → (x : X) × In x xs × (f x ≡ y)
from_map f y [] h = absurd h
from_map f y (x ∷ xs) h = grind (arith, from_map f y xs)

module _ (t : ℕ) (early late : List Placed) (opening : Machine) (did : Did) where
  pub words_split : (reg : Reg) (u : ℕ) → word_before (behind t early late) opening did u reg
      ≡ value_before (index_of reg) u
      (flat_map (register_landings did) early ++ map (moved_landing t)
      (flat_map (register_landings (since t did)) late)) (word_in opening reg)
  words_split reg u = grind (arith, nat_tests, flat_map-append, registers_moved)

  pub bytes_split : (a u : ℕ) → byte_before (behind t early late) opening did u a
      ≡ value_before a (8 * u)
      (flat_map (memory_landings did) early ++ map (moved_landing (8 * t))
      (flat_map (memory_landings (since t did)) late)) (byte_in opening a)
  bytes_split a u = grind (arith, nat_tests, flat_map-append, memory_moved)

  pub word_ahead : (u : ℕ) (reg : Reg) → u ≤ t
      → word_before (behind t early late) opening did u reg ≡ word_before early opening did u reg
  word_ahead u reg l = grind (arith, nat_tests, words_split, value_ahead)

  pub byte_ahead : (u a : ℕ) → u ≤ t
      → byte_before (behind t early late) opening did u a ≡ byte_before early opening did u a
  byte_ahead u a l = grind (arith, nat_tests, bytes_split, value_ahead)

-- what has landed is seen from the cut on
module _ (t : ℕ) (early : List Placed) (did : Did) (have : HaveLanded t early did) where
  pub words_landed : (w : Landing) → In w (flat_map (register_landings did) early) → w.time < t
  words_landed w h =
      let r = from_In-flat_map (register_landings did) w early h in
      let s = from_In-writes r.0.cycle (did r.0).writes w r.2 in
      let l : r.0.cycle + s.0.0.1 < t = have.landed r.0 s.0 (Contains_from_In r.0 early r.1)
      (Contains_from_In s.0 (did r.0).writes s.1) in
      let time : w.time ≡ r.0.cycle + s.0.0.1 = s.3 in
      omega arith

  pub bytes_landed : (w : Landing) → In w (flat_map (memory_landings did) early) → w.time < 8 * t
  bytes_landed w h =
      let r = from_In-flat_map (memory_landings did) w early h in
      let time : w.time ≡ 8 * r.0.cycle + unit_index r.0.unit =
      (from_In-access (access_time r.0) (did r.0).access w r.2).at in
      let l : r.0.cycle < t = have.before r.0 (Contains_from_In r.0 early r.1) in
      let rank : unit_index r.0.unit < 8 = index_of-below r.0.unit in
      omega arith

-- what runs and is drained has landed
module _ (t : ℕ) (issued : List Placed) (opening : Machine) (did : Did) (drained : AreDrained t issued) where
  ends : (p : Placed) → Contains issued p → p.cycle + greatest_delay (register_writes p.insn) + 1 ≤ t
  ends p h = All-contains (λ q. landing_end (issue_of q) ≤ t) issued p drained h

  pub drained_before : (p : Placed) → Contains issued p → p.cycle < t
  drained_before p h = let e : p.cycle + greatest_delay (register_writes p.insn) + 1 ≤ t = ends p h in omega arith

  pub drained_landed : IsRun issued opening did → HaveLanded t issued did
  drained_landed run = record {
    before = drained_before;
    landed = λ p write h w.
        let k = subst (λ (a : Act). In write a.writes) (run p h) (In_from_Contains write (did p).writes w) in
        let d : write.0.1 ≤ greatest_delay (register_writes p.insn)
        = past_write (register_writes p.insn) write.0
        (act_writes p.insn opening.base (word_before issued opening did p.cycle)
        (byte_before issued opening did p.cycle)
        write k) in
        let e : p.cycle + greatest_delay (register_writes p.insn) + 1 ≤ t = ends p h in
        omega arith;
  }

pub within : (insn : Insn) (base : ℕ) (word : Reg → ℕ) (a : ℕ) → LoadsByte insn base word a → a < 65536
within insn base word a h = grind (arith, nat_tests)
