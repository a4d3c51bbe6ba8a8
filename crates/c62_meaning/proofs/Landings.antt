-- The landings of an instruction are of what it writes and stores, and those of one cell come in the order of time.
use Rattle.std.proofs.Common.{◌≡◌, ℕ, ◌+◌, ◌-◌, ◌<◌, ◌≤◌, true, List, [], ◌∷◌, length}
use Rattle.std.proofs.Common.{map, get_or, set, cond, eqb, Option, Some, None, refl, sym, ◌∙◌, ap, subst, ◌⊎◌, inl, inr}
use Rattle.std.proofs.Common.{⊎_elim, arith}
use Rattle.std.specs.Prelude.{fold}
use Rattle.std.specs.List.{zip}
use Rattle.std.proofs.lemmas.Bool.{cases_Bool, cases_lt, cond-true, cond-false, cond_both}
use Rattle.std.proofs.lemmas.List.{length-set, get_or-set_other}
use Rattle.std.proofs.lemmas.Grind.{get_or-set_at}
use Rattle.c62_op.specs.declared.register.Reg.{Reg}
use Rattle.c62_op.specs.declared.operands.Op.{Op}
use Rattle.c62_op.specs.declared.operands.Operands.{Operands}
use Rattle.c62_insn.specs.declared.effect.Access.{Access as MemoryAccess}
use Rattle.c62_insn.specs.declared.insn.Insn.{Insn}
use Rattle.c62_op.specs.Shape.{is_store, writes_of}
use Rattle.c62_insn.specs.Insn.{op_of, operands_of, register_writes}
use Rattle.c62_serial.specs.State.{index_of}
use Rattle.c62_serial.specs.Memory.{is_good, bytes_of, written}
use Rattle.c62_serial.specs.Effect.{Act, no_act, runs, operand_values, act_on, act_of}
use Rattle.c62_serial.specs.Serial.{after_write, after_store, after_access}
use Rattle.c62_serial.proofs.MemoryLemmas.{length-bytes_of, byte_of, stores}
use Rattle.c62_meaning.specs.Landing.{Landing}
use Rattle.c62_meaning.specs.Packet.{write_landing, byte_landings, stored_landings, access_landings}
use Rattle.c62_meaning.proofs.Lookup.{In, last_value, InOrder}
use Rattle.c62_meaning.proofs.Acting.{access_at, is_stores}
use Rattle.std.proofs.lemmas.Bool.Decides.{nat_tests}

-- ---- registers

-- registers after writes hold the last of them
pub writes-last : (cycle k : ℕ) (ws : List ((Reg × ℕ) × ℕ)) (rs : List ℕ) → k < length rs
    → get_or (fold after_write rs ws) k 0 ≡ last_value k (map (write_landing cycle) ws) (get_or rs k 0)
writes-last cycle k [] rs l = refl
writes-last cycle k (w ∷ ws) rs l = grind (
  arith,
  nat_tests,
  writes-last cycle k ws (set rs (index_of w.0.0) w.1),
  length-set,
  get_or-set_at,
  get_or-set_other,
)

pub from_In-writes : (cycle : ℕ) (ws : List ((Reg × ℕ) × ℕ)) (l : Landing) → In l (map (write_landing cycle) ws)
    → (w : (Reg × ℕ) × ℕ) × In w ws × (l.cell ≡ index_of w.0.0) × (l.time ≡ cycle + w.0.1)
from_In-writes cycle [] l h = absurd h
from_In-writes cycle (w ∷ ws) l (inl e) =
    (w, inl refl, ap (λ (u : Landing). u.cell) (sym e), ap (λ (u : Landing). u.time) (sym e))
from_In-writes cycle (w ∷ ws) l (inr h) = let r = from_In-writes cycle ws l h in (r.0, inr r.1, r.2, r.3)

-- what is zipped has its keys from the first
pub In-zip : (ks : List (Reg × ℕ)) (vs : List ℕ) (w : (Reg × ℕ) × ℕ) → In w (zip ks vs) → In w.0 ks
In-zip [] vs w h = absurd h
In-zip (k ∷ ks) vs w h = grind (arith, In-zip ks)

-- what an instruction writes is among its writes
pub act_writes : (insn : Insn) (base : ℕ) (word : Reg → ℕ) (byte : ℕ → ℕ) (w : (Reg × ℕ) × ℕ)
    → In w (act_of insn base word byte).writes
    → In w.0 (register_writes insn)
act_writes insn base word byte w =
    let P : Act → Type 0 = λ a. In w a.writes → In w.0 (register_writes insn) in
    cond_both (runs word insn) (act_on insn base (operand_values word insn) byte) no_act P
    (λ t h. In-zip (register_writes insn) _ w h) (λ t h. absurd h)

-- the writes of an instruction come in the order of their delays
abbrev pub Rising : List (Reg × ℕ) → Type 0
Rising [] = Unit {0}
Rising (w ∷ ws) = ((v : Reg × ℕ) → In v ws → w.1 < v.1) × Rising ws

pub rising_writes : (op : Op) (operands : Operands) → Rising (writes_of op operands)
rising_writes op operands = grind arith

InOrder-zip : (cell cycle : ℕ) (ks : List (Reg × ℕ)) (vs : List ℕ) → Rising ks
    → InOrder cell (map (write_landing cycle) (zip ks vs))
InOrder-zip cell cycle [] vs h = tt
InOrder-zip cell cycle (k ∷ ks) [] h = tt
InOrder-zip cell cycle (k ∷ ks) (v ∷ vs) h = (
  (λ l i p q.
      let s = from_In-writes cycle (zip ks vs) l i in
      let d : k.1 < s.0.0.1 = h.0 s.0.0 (In-zip ks vs s.0 s.1) in
      let t : l.time ≡ cycle + s.0.0.1 = s.3 in omega arith),
  InOrder-zip cell cycle ks vs h.1,
)

pub InOrder-act : (cell cycle : ℕ) (insn : Insn) (base : ℕ) (word : Reg → ℕ) (byte : ℕ → ℕ)
    → InOrder cell (map (write_landing cycle) (act_of insn base word byte).writes)
InOrder-act cell cycle insn base word byte =
    let P : Act → Type 0 = λ a. InOrder cell (map (write_landing cycle) a.writes) in
    cond_both (runs word insn) (act_on insn base (operand_values word insn) byte) no_act P
    (λ t. InOrder-zip cell cycle (register_writes insn) _ (rising_writes (op_of insn) (operands_of insn))) (λ t. tt)

-- ---- memory

bytes-outside : (time address : ℕ) (bytes : List ℕ) (a old : ℕ) → (a < address) ⊎ (address + length bytes ≤ a)
    → last_value a (byte_landings time address bytes) old ≡ old
bytes-outside time address [] a old o = refl
bytes-outside time address (b ∷ bs) a old h = grind (
  arith,
  bytes-outside time (address + 1) bs a (cond (eqb address a) b old),
)

bytes-inside : (time address : ℕ) (bytes : List ℕ) (k old a : ℕ) → k < length bytes → address + k ≡ a
    → last_value a (byte_landings time address bytes) old ≡ get_or bytes k 0
bytes-inside time address [] k old a l e = absurd (omega arith)
bytes-inside time address (b ∷ bs) k old a l e = grind (arith, bytes-inside time (address + 1) bs, bytes-outside)

store-last : (time address size : ℕ) (value : Option ℕ) (memory : List ℕ) (a : ℕ) → length memory ≡ 65536
    → get_or (after_store memory value address size) a 0 ≡ last_value a (stored_landings time address size value)
    (get_or memory a 0)
store-last time address size None memory a sound = refl
store-last time address size (Some value) memory a sound =
    ⊎_elim {C = get_or (written address size value memory) a 0 ≡ last_value a
    (stored_landings time address size (Some value)) (get_or memory a 0)}
    (λ good. inside good ∙ sym (ap (λ ls. last_value a ls (get_or memory a 0)) (cond-true _ _ _ good)))
    (λ bad. ap (λ m. get_or m a 0) (cond-false _ _ _ bad)
    ∙ sym (ap (λ ls. last_value a ls (get_or memory a 0)) (cond-false _ _ _ bad)))
    (cases_Bool (is_good address size))
  where
    out : is_good address size ≡ true → (a < address) ⊎ (address + length (bytes_of size value) ≤ a) → (a < address)
        ⊎ (address + size ≤ a)
        → get_or (written address size value memory) a 0 ≡ last_value a
        (byte_landings time address (bytes_of size value)) (get_or memory a 0)
    out good o o' = (stores memory address size value sound good).outside a o'
        ∙ sym (bytes-outside time address (bytes_of size value) a (get_or memory a 0) o)

    within : is_good address size ≡ true → (k : ℕ) → k < size → address + k ≡ a
        → get_or (written address size value memory) a 0 ≡ last_value a
        (byte_landings time address (bytes_of size value)) (get_or memory a 0)
    within good k l e =
        let n : length (bytes_of size value) ≡ size = length-bytes_of size value in
        subst (λ z. get_or (written address size value memory) z 0 ≡ get_or (bytes_of size value) k 0) e
        ((stores memory address size value sound good).inside k l ∙ sym (byte_of size value k l))
        ∙ sym (bytes-inside time address (bytes_of size value) k (get_or memory a 0) a (omega arith) e)

    inside : is_good address size ≡ true
        → get_or (written address size value memory) a 0 ≡ last_value a
        (byte_landings time address (bytes_of size value)) (get_or memory a 0)
    inside good =
        let n : length (bytes_of size value) ≡ size = length-bytes_of size value in
        ⊎_elim {C = get_or (written address size value memory) a 0 ≡ last_value a
        (byte_landings time address (bytes_of size value)) (get_or memory a 0)}
        (λ l. out good (inl l) (inl l))
        (λ g. ⊎_elim {C = get_or (written address size value memory) a 0 ≡ last_value a
        (byte_landings time address (bytes_of size value)) (get_or memory a 0)}
        (λ l. within good (a - address) (omega arith) (omega arith)) (λ h. out good (inr (omega arith)) (inr h))
        (cases_lt a (address + size)))
        (cases_lt a address)

-- memory after an access holds the bytes that it stored
pub access-last : (time : ℕ) (access : Option MemoryAccess) (memory : List ℕ) (a : ℕ) → length memory ≡ 65536
    → get_or (after_access memory access) a 0 ≡ last_value a (access_landings time access) (get_or memory a 0)
access-last time access memory a sound = grind (arith, store-last)

-- the access that stores a byte
pub record IsStoredBy (time : ℕ) (o : Option MemoryAccess) (l : Landing) : Type 0 where
  pub access : MemoryAccess
  pub value : ℕ
  pub accesses : o ≡ Some access
  pub stores : access.value ≡ Some value
  pub good : is_good access.address access.size ≡ true
  pub low : access.address ≤ l.cell
  pub high : l.cell < access.address + access.size
  pub at : l.time ≡ time

from_In-bytes : (time address : ℕ) (bytes : List ℕ) (l : Landing) → In l (byte_landings time address bytes)
    → (address ≤ l.cell) × (l.cell < address + length bytes) × (l.time ≡ time)
from_In-bytes time address [] l h = absurd h
from_In-bytes time address (b ∷ bs) l h = grind (arith, from_In-bytes time (address + 1) bs l)

pub from_In-access : (time : ℕ) (o : Option MemoryAccess) (l : Landing) → In l (access_landings time o)
    → IsStoredBy time o l
from_In-access time o l h = grind (arith, length-bytes_of, from_In-bytes, stores)

InOrder-bytes : (cell time address : ℕ) (bytes : List ℕ) → InOrder cell (byte_landings time address bytes)
InOrder-bytes cell time address [] = tt
InOrder-bytes cell time address (b ∷ bs) = (
  (λ l k p q.
      let s = from_In-bytes time (address + 1) bs l k in
      let low : address + 1 ≤ l.cell = s.0 in absurd (omega arith)),
  InOrder-bytes cell time (address + 1) bs,
)

-- the bytes of one store have cells of their own
pub InOrder-access : (cell time : ℕ) (o : Option MemoryAccess) → InOrder cell (access_landings time o)
InOrder-access cell time None = tt
InOrder-access cell time (Some access) = grind (arith, InOrder-bytes cell time access.address)

-- the access of an act is that of its instruction, which runs
pub act_accesses : (insn : Insn) (base : ℕ) (word : Reg → ℕ) (byte : ℕ → ℕ) (access : MemoryAccess)
    → (act_of insn base word byte).access ≡ Some access
    → (runs word insn ≡ true) × (access_at insn base word ≡ Some access)
act_accesses insn base word byte access = grind (arith, nat_tests)

-- what stores a byte is a store
pub stores_byte : (insn : Insn) (base : ℕ) (word : Reg → ℕ) (byte : ℕ → ℕ) (time : ℕ) (l : Landing)
    → IsStoredBy time (act_of insn base word byte).access l → is_store (op_of insn) ≡ true
stores_byte insn base word byte time l s = is_stores insn base word s.access s.value
    (act_accesses insn base word byte s.access s.accesses).1 s.stores
