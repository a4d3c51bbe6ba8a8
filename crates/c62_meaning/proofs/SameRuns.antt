-- A run of the packets of a block does what its serial run does.
use Rattle.std.proofs.Common.{◌≡◌, ℕ, zero, suc, ◌+◌, ◌*◌, ◌<◌, ◌≤◌, List, length, get_or, map, refl, sym, ◌∙◌, ap}
use Rattle.std.proofs.Common.{subst, ⊎_elim, arith}
use Rattle.std.specs.List.{flat_map}
use Rattle.std.specs.Prelude.{true}
use Rattle.std.proofs.lemmas.Bool.{cases_eq}
use Rattle.c62_op.specs.declared.register.Reg.{Reg}
use Rattle.c62_op.specs.Units.{index_of as unit_index}
use Rattle.c62_op.specs.Shape.{is_store}
use Rattle.c62_insn.specs.Insn.{op_of, register_writes}
use Rattle.c62_op.proofs.UnitOrder.{index_of-below}
use Rattle.c62_read.specs.declared.block.SerialInsn.{SerialInsn}
use Rattle.c62_serial.specs.declared.serial.Exit.TheVariants.{Next}
use Rattle.c62_serial.specs.State.{Machine, IsSound, index_of, word_in, byte_in}
use Rattle.c62_serial.specs.Effect.{Act, act_of}
use Rattle.c62_serial.specs.Serial.{Ran, act_in, after_insn}
use Rattle.c62_serial.proofs.MachineLemmas.{sound_act}
use Rattle.c62_serial.proofs.RegisterLemmas.{index_within}
use Rattle.c62_packet.specs.declared.placed.Placed.{Placed}
use Rattle.c62_meaning.specs.Landing.{Landing}
use Rattle.c62_meaning.specs.Packet.{Did, write_landing, access_landings, access_time, register_landings}
use Rattle.c62_meaning.specs.Packet.{memory_landings, word_before, byte_before}
use Rattle.c62_meaning.proofs.Lookup.{In, In-flat_map, from_In-flat_map, last_value, last_value-append}
use Rattle.c62_meaning.proofs.WritesBelow.{upto, AreOrdered, AreThose, lookup}
use Rattle.c62_meaning.proofs.Acting.{Reads, LoadsByte, act_same, is_loads, load_not_store}
use Rattle.c62_meaning.proofs.Landings.{writes-last, access-last, from_In-writes, from_In-access, InOrder-act}
use Rattle.c62_meaning.proofs.Landings.{InOrder-access, act_writes, stores_byte}

-- instructions by number in serial order, as they stand in the block and in its packets, and how many they are
pub record Numbered : Type 0 where
  pub entry : ℕ → SerialInsn
  pub at : ℕ → Placed
  pub count : ℕ
  pub opening : Machine

-- the serial run of the first instructions
abbrev pub ran_at : Numbered → ℕ → Ran
ran_at b zero = record { machine = b.opening; exit = Next }
ran_at b (suc i) = after_insn (ran_at b i) (b.entry i)

-- the machine before the instruction of a number
abbrev pub machine_at : Numbered → ℕ → Machine
machine_at b i = (ran_at b i).machine

-- what the instruction does there
abbrev pub serial_act : Numbered → ℕ → Act
serial_act b i = act_in (machine_at b i) (b.entry i)

abbrev pub reg_writes : Numbered → ℕ → List Landing
reg_writes b i = map (write_landing (b.at i).cycle) (serial_act b i).writes

abbrev pub byte_writes : Numbered → ℕ → List Landing
byte_writes b i = access_landings (access_time (b.at i)) (serial_act b i).access

-- ---- the machine stays sound

pub sound_at : (b : Numbered) → IsSound b.opening → (i : ℕ) → IsSound (machine_at b i)
sound_at b sound zero = sound
sound_at b sound (suc i) = sound_act (b.entry i).line (serial_act b i) (machine_at b i) (sound_at b sound i)

-- and its memory begins where it began
pub base_at : (b : Numbered) (i : ℕ) → (machine_at b i).base ≡ b.opening.base
base_at b zero = refl
base_at b (suc i) = base_at b i

-- ---- registers and memory of the serial run, by landings

pub state_word : (b : Numbered) → IsSound b.opening → (i cell : ℕ) → cell < 32
    → get_or (machine_at b i).registers cell 0 ≡ last_value cell (upto (reg_writes b) i)
    (get_or b.opening.registers cell 0)
state_word b sound zero cell l = refl
state_word b sound (suc i) cell l =
    let n : length (machine_at b i).registers ≡ 32 = (sound_at b sound i).registers in
    writes-last (b.at i).cycle cell (serial_act b i).writes (machine_at b i).registers (omega arith)
    ∙ ap (λ u. last_value cell (reg_writes b i) u) (state_word b sound i cell l)
    ∙ sym (last_value-append cell (upto (reg_writes b) i) (reg_writes b i) (get_or b.opening.registers cell 0))

pub state_byte : (b : Numbered) → IsSound b.opening → (i a : ℕ)
    → byte_in (machine_at b i) a ≡ last_value a (upto (byte_writes b) i) (byte_in b.opening a)
state_byte b sound zero a = refl
state_byte b sound (suc i) a =
    access-last (access_time (b.at i)) (serial_act b i).access (machine_at b i).memory a (sound_at b sound i).memory
    ∙ ap (λ u. last_value a (byte_writes b i) u) (state_byte b sound i a)
    ∙ sym (last_value-append a (upto (byte_writes b) i) (byte_writes b i) (byte_in b.opening a))

-- ---- order

-- All that the proof needs of the dependences: what the instructions of the serial run did comes in order, cell by
-- cell.
pub record IsOrdered (b : Numbered) : Type 0 where
  pub reg_order : (j k : ℕ) (v w : Landing) → j < k → k < b.count → In v (reg_writes b j) → In w (reg_writes b k)
      → v.cell ≡ w.cell → v.time < w.time
  pub byte_order : (j k : ℕ) (v w : Landing) → j < k → k < b.count → In v (byte_writes b j) → In w (byte_writes b k)
      → v.cell ≡ w.cell → v.time < w.time
  pub reg_read : (j k : ℕ) (v : Landing) (reg : Reg) → j < k → k < b.count → In v (reg_writes b j)
      → Reads (b.entry k).insn reg → v.cell ≡ index_of reg
      → v.time < (b.at k).cycle
  pub reg_kept : (j k : ℕ) (w : Landing) (reg : Reg) → j < k → k < b.count → Reads (b.entry j).insn reg
      → In w (reg_writes b k) → w.cell ≡ index_of reg
      → (b.at j).cycle ≤ w.time
  pub byte_read : (j k : ℕ) (v : Landing) → j < k → k < b.count → In v (byte_writes b j)
      → LoadsByte (b.entry k).insn (machine_at b k).base (word_in (machine_at b k)) v.cell
      → v.time < 8 * (b.at k).cycle
  pub byte_kept : (j k : ℕ) (w : Landing) → j < k → k < b.count
      → LoadsByte (b.entry j).insn (machine_at b j).base (word_in (machine_at b j)) w.cell → In w (byte_writes b k)
      → 8 * (b.at j).cycle ≤ w.time

-- the packets hold the instructions of these numbers, in any order
pub record IsBlock (block : List Placed) (b : Numbered) : Type 0 where
  pub all : (i : ℕ) → i < b.count → In (b.at i) block
  pub only : (p : Placed) → In p block → (i : ℕ) × (i < b.count) × (p ≡ b.at i)

-- the instructions issued before t did what they do serially
abbrev pub Agrees : Numbered → Did → ℕ → Type 0
Agrees b did t = (i : ℕ) → i < b.count → (b.at i).cycle < t → did (b.at i) ≡ serial_act b i

those_regs : (block : List Placed) (b : Numbered) (did : Did) (t : ℕ) → IsBlock block b → Agrees b did t
    → AreThose (reg_writes b) b.count t (flat_map (register_landings did) block)
those_regs block b did t is agree = record {
  there = λ j w l h early.
      let late = from_In-writes (b.at j).cycle (serial_act b j).writes w h in
      let time : w.time ≡ (b.at j).cycle + late.0.0.1 = late.3 in
      In-flat_map (register_landings did) w (b.at j) block (is.all j l)
      (subst (λ (a : Act). In w (map (write_landing (b.at j).cycle) a.writes)) (sym (agree j l (omega arith)))
      h);
  no_other = λ w h early.
      let r = from_In-flat_map (register_landings did) w block h in
      let late = from_In-writes r.0.cycle (did r.0).writes w r.2 in
      let time : w.time ≡ r.0.cycle + late.0.0.1 = late.3 in
      found w r.0 r.2 (omega arith) (is.only r.0 r.1);
}
  where
    found : (w : Landing) (p : Placed) → In w (register_landings did p) → p.cycle < t → (i : ℕ) × (i < b.count)
        × (p ≡ b.at i) → (j : ℕ) × (j < b.count) × In w (reg_writes b j)
    found w p h early (i, l, e) =
        let h' : In w (register_landings did (b.at i)) = subst (λ q. In w (register_landings did q)) e h in (
          i,
          l,
          subst (λ (a : Act). In w (map (write_landing (b.at i).cycle) a.writes))
              (agree i l (subst (λ (q : Placed). q.cycle < t) e early)) h',
        )

those_bytes : (block : List Placed) (b : Numbered) (did : Did) (t : ℕ) → IsBlock block b → Agrees b did t
    → AreThose (byte_writes b) b.count (8 * t) (flat_map (memory_landings did) block)
those_bytes block b did t is agree = record {
  there = λ j w l h early.
      let late : w.time ≡ 8 * (b.at j).cycle + unit_index (b.at j).unit =
      (from_In-access (access_time (b.at j)) (serial_act b j).access w h).at in
      In-flat_map (memory_landings did) w (b.at j) block (is.all j l)
      (subst (λ (a : Act). In w (access_landings (access_time (b.at j)) a.access))
      (sym (agree j l (omega arith))) h);
  no_other = λ w h early.
      let r = from_In-flat_map (memory_landings did) w block h in
      let late : w.time ≡ 8 * r.0.cycle + unit_index r.0.unit =
      (from_In-access (access_time r.0) (did r.0).access w r.2).at in
      found w r.0 r.2 (omega arith) (is.only r.0 r.1);
}
  where
    found : (w : Landing) (p : Placed) → In w (memory_landings did p) → p.cycle < t → (i : ℕ) × (i < b.count)
        × (p ≡ b.at i) → (j : ℕ) × (j < b.count) × In w (byte_writes b j)
    found w p h early (i, l, e) =
        let h' : In w (memory_landings did (b.at i)) = subst (λ q. In w (memory_landings did q)) e h in (
          i,
          l,
          subst (λ (a : Act). In w (access_landings (access_time (b.at i)) a.access))
              (agree i l (subst (λ (q : Placed). q.cycle < t) e early)) h',
        )

ordered_regs : (b : Numbered) (cell : ℕ) → IsOrdered b → AreOrdered (reg_writes b) b.count cell
ordered_regs b cell o = record {
  own = λ j l. InOrder-act cell (b.at j).cycle (b.entry j).insn (machine_at b j).base (word_in (machine_at b j))
      (byte_in (machine_at b j));
  ordered = λ j k v w l u c d p q. o.reg_order j k v w l u c d (p ∙ sym q);
}

ordered_bytes : (b : Numbered) (a : ℕ) → IsOrdered b → AreOrdered (byte_writes b) b.count a
ordered_bytes b a o = record {
  own = λ j l. InOrder-access a (access_time (b.at j)) (serial_act b j).access;
  ordered = λ j k v w l u c d p q. o.byte_order j k v w l u c d (p ∙ sym q);
}

-- ---- what an instruction finds

-- a register that an instruction reads has its serial value
word_same : (block : List Placed) (b : Numbered) (did : Did) (i : ℕ) (reg : Reg) → IsBlock block b → IsOrdered b
    → IsSound b.opening → i < b.count
    → Agrees b did (b.at i).cycle → Reads (b.entry i).insn reg
    → word_before block b.opening did (b.at i).cycle reg ≡ word_in (machine_at b i) reg
word_same block b did i reg is o sound l agree reads =
    lookup (reg_writes b) b.count (index_of reg) i (b.at i).cycle (flat_map (register_landings did) block)
    (word_in b.opening reg) (ordered_regs b (index_of reg) o)
    (record {
      below = omega arith;
      before = λ j w lt h p. o.reg_read j i w reg lt l h reads p;
      after = λ j w ge u h p.
          ⊎_elim {C = (b.at i).cycle ≤ w.time}
          (λ e.
          let late = from_In-writes (b.at j).cycle (serial_act b j).writes w h in
          let time : w.time ≡ (b.at j).cycle + late.0.0.1 = late.3 in
          let same : (b.at i).cycle ≡ (b.at j).cycle = ap (λ k. (b.at k).cycle) e in omega arith)
          (λ ne. o.reg_kept i j w reg (omega arith) u reads h p)
          (cases_eq i j);
    })
    (those_regs block b did (b.at i).cycle is agree)
    ∙ sym (state_word b sound i (index_of reg) (index_within reg))

-- a byte that a load reads has its serial value
byte_same : (block : List Placed) (b : Numbered) (did : Did) (i a : ℕ) → IsBlock block b → IsOrdered b
    → IsSound b.opening → i < b.count
    → Agrees b did (b.at i).cycle → LoadsByte (b.entry i).insn (machine_at b i).base (word_in (machine_at b i)) a
    → byte_before block b.opening did (b.at i).cycle a ≡ byte_in (machine_at b i) a
byte_same block b did i a is o sound l agree loads =
    lookup (byte_writes b) b.count a i (8 * (b.at i).cycle) (flat_map (memory_landings did) block) (byte_in b.opening a)
    (ordered_bytes b a o)
    (record {
      below = omega arith;
      before = λ j w lt h p. o.byte_read j i w lt l h (at_cell w p);
      after = λ j w ge u h p.
          ⊎_elim {C = 8 * (b.at i).cycle ≤ w.time}
          (λ e. absurd (load_not_store (op_of (b.entry i).insn)
          (is_loads (b.entry i).insn (machine_at b i).base (word_in (machine_at b i)) a loads)
          (itself w (subst (λ k. In w (byte_writes b k)) (sym e) h))))
          (λ ne. o.byte_kept i j w (omega arith) u (at_cell w p) h)
          (cases_eq i j);
    })
    (those_bytes block b did (b.at i).cycle is agree)
    ∙ sym (state_byte b sound i a)
  where
    at_cell : (w : Landing) → w.cell ≡ a
        → LoadsByte (b.entry i).insn (machine_at b i).base (word_in (machine_at b i)) w.cell
    at_cell w p = subst (λ q. LoadsByte (b.entry i).insn (machine_at b i).base (word_in (machine_at b i)) q)
        (sym p) loads

    itself : (w : Landing) → In w (byte_writes b i) → is_store (op_of (b.entry i).insn) ≡ true
    itself w h =
        stores_byte (b.entry i).insn (machine_at b i).base (word_in (machine_at b i)) (byte_in (machine_at b i))
        (access_time (b.at i)) w
        (from_In-access (access_time (b.at i)) (serial_act b i).access w h)

-- each instruction does what the values before its cycle make it do
abbrev pub RunsAt : List Placed → Numbered → Did → Type 0
RunsAt block b did = (i : ℕ) → i < b.count
    → did (b.at i) ≡ act_of (b.entry i).insn b.opening.base (word_before block b.opening did (b.at i).cycle)
    (byte_before block b.opening did (b.at i).cycle)

pub agrees : (block : List Placed) (b : Numbered) (did : Did) → IsBlock block b → IsOrdered b → IsSound b.opening
    → RunsAt block b did → (t : ℕ) → Agrees b did t
agrees block b did is o sound run zero i l early = absurd (omega arith)
agrees block b did is o sound run (suc t) i l early =
    let agree : Agrees b did (b.at i).cycle = λ j u h. agrees block b did is o sound run t j u (omega arith) in
    run i l ∙ act_same (b.entry i).insn b.opening.base (machine_at b i).base
    (word_before block b.opening did (b.at i).cycle) (word_in (machine_at b i))
    (byte_before block b.opening did (b.at i).cycle) (byte_in (machine_at b i)) (sym (base_at b i))
    (λ reg reads. word_same block b did i reg is o sound l agree reads)
    (λ a reads. byte_same block b did i a is o sound l agree reads)

-- all is issued and has landed before t
pub record IsOver (b : Numbered) (t : ℕ) : Type 0 where
  pub issued : (j : ℕ) → j < b.count → (b.at j).cycle < t
  pub landed : (j : ℕ) (w : Reg × ℕ) → j < b.count → In w (register_writes (b.entry j).insn) → (b.at j).cycle + w.1 < t

pub word_end : (block : List Placed) (b : Numbered) (did : Did) (t : ℕ) (reg : Reg) → IsBlock block b → IsOrdered b
    → IsSound b.opening → RunsAt block b did → IsOver b t
    → word_before block b.opening did t reg ≡ word_in (machine_at b b.count) reg
word_end block b did t reg is o sound run over =
    lookup (reg_writes b) b.count (index_of reg) b.count t (flat_map (register_landings did) block)
    (word_in b.opening reg) (ordered_regs b (index_of reg) o)
    (record {
      below = omega arith;
      before = λ j w lt h p.
          let late = from_In-writes (b.at j).cycle (serial_act b j).writes w h in
          let time : w.time ≡ (b.at j).cycle + late.0.0.1 = late.3 in
          let end : (b.at j).cycle + late.0.0.1 < t
          = over.landed j late.0.0 lt
          (act_writes (b.entry j).insn (machine_at b j).base (word_in (machine_at b j)) (byte_in (machine_at b j))
          late.0 late.1) in
          omega arith;
      after = λ j w ge u h p. absurd (omega arith);
    })
    (those_regs block b did t is (agrees block b did is o sound run t))
    ∙ sym (state_word b sound b.count (index_of reg) (index_within reg))

pub byte_end : (block : List Placed) (b : Numbered) (did : Did) (t a : ℕ) → IsBlock block b → IsOrdered b
    → IsSound b.opening → RunsAt block b did → IsOver b t
    → byte_before block b.opening did t a ≡ byte_in (machine_at b b.count) a
byte_end block b did t a is o sound run over =
    lookup (byte_writes b) b.count a b.count (8 * t) (flat_map (memory_landings did) block) (byte_in b.opening a)
    (ordered_bytes b a o)
    (record {
      below = omega arith;
      before = λ j w lt h p.
          let late : w.time ≡ 8 * (b.at j).cycle + unit_index (b.at j).unit =
          (from_In-access (access_time (b.at j)) (serial_act b j).access w h).at in
          let end : (b.at j).cycle < t = over.issued j lt in
          let rank : unit_index (b.at j).unit < 8 = index_of-below (b.at j).unit in omega arith;
      after = λ j w ge u h p. absurd (omega arith);
    })
    (those_bytes block b did t is (agrees block b did is o sound run t))
    ∙ sym (state_byte b sound b.count a)
