-- Registers and memory at the end of a cycle.
use Rattle.std.proofs.Common.{◌≡◌, ℕ, suc, ◌+◌, ◌*◌, ◌<◌, ◌≤◌, Bool, false, List, [], ◌∷◌, ◌++◌, length, get_or}
use Rattle.std.proofs.Common.{set, map, take, drop, cond, eqb, ◌&&◌, Option, Some, None, refl, sym, ◌∙◌, ap, subst}
use Rattle.std.proofs.Common.{◌⊎◌, inl, inr, ⊎_elim, arith}
use Rattle.std.specs.Prelude.{fold}
use Rattle.std.specs.List.{flat_map}
use Rattle.std.proofs.lemmas.Bool.{cases_eq, cond-true, cond-false, eq-eqb, ne_eqb}
use Rattle.std.proofs.lemmas.Bool.{and_right}
use Rattle.std.proofs.lemmas.List.{length-set, get_or-set_other, take-append-drop}
use Rattle.std.proofs.lemmas.Grind.{get_or-set_at, flat_map-append}
use Rattle.c62_op.specs.declared.register.Reg.{Reg}
use Rattle.c62_op.specs.Units.{index_of as unit_index}
use Rattle.c62_op.proofs.UnitOrder.{index_of-below}
use Rattle.c62_serial.specs.State.{Machine, index_of, word_in, byte_in}
use Rattle.c62_packet.specs.declared.placed.Placed.{Placed}
use Rattle.c62_packet.specs.Packed.{listing_position}
use Rattle.c62_meaning.specs.Landing.{Landing, later, latest, value_or}
use Rattle.c62_meaning.specs.Packet.{Did, write_landing, access_time, register_landings, memory_landings, word_before}
use Rattle.c62_meaning.specs.Packet.{byte_before}
use Rattle.c62_meaning.proofs.Lookup.{In, In-flat_map, from_In-flat_map, latest_cases, last_value, InOrder}
use Rattle.c62_meaning.proofs.Lookup.{InOrder-append, latest_is_last}
use Rattle.c62_meaning.proofs.Landings.{from_In-writes, from_In-access, InOrder-access}
use Rattle.c62_pipe.specs.Flight.{Slot, landed}
use Rattle.c62_pipe.proofs.Order.{Ascends, In-take, In-parts, parts_at}
use Rattle.c62_pipe.proofs.Slots.{due_of, due_in}
use Rattle.std.proofs.lemmas.Bool.Decides.{nat_tests}

-- ---- landings at one time

abbrev or_else : Option Landing → Option Landing → Option Landing
or_else (Some w) o = Some w
or_else None o = o

-- of the landings at this cell and time, the last in the list
abbrev last_at : ℕ → ℕ → List Landing → Option Landing
last_at cell t [] = None
last_at cell t (w ∷ ws) = or_else (last_at cell t ws) (cond (eqb w.cell cell && eqb w.time t) (Some w) None)

or_none : (o : Option Landing) → or_else o None ≡ o
or_none o = grind arith

value_or_else : (o p : Option Landing) (old : ℕ) → value_or (or_else o p) old ≡ value_or o (value_or p old)
value_or_else o p old = grind arith

time_of_last : (cell t : ℕ) (x w : Landing) (o : Option Landing) → ((v : Landing) → o ≡ Some v → v.time ≡ t)
    → (b : Bool) → (eqb x.cell cell && eqb x.time t) ≡ b
    → or_else o (cond b (Some x) None) ≡ Some w → w.time ≡ t
time_of_last cell t x w o rest b h e = grind arith

last_at_time : (cell t : ℕ) (ls : List Landing) (w : Landing) → last_at cell t ls ≡ Some w → w.time ≡ t
last_at_time cell t [] w e = cc
last_at_time cell t (x ∷ xs) w e = grind (arith, last_at_time cell t xs, time_of_last cell t x w)

latest_time : (cell t : ℕ) (ls : List Landing) (y : Landing) → latest cell t ls ≡ Some y → y.time < t
latest_time cell t ls y e = grind (arith, latest_cases cell t ls)

merge_early : (x : Landing) (a l : Option Landing) → ((v : Landing) → a ≡ Some v → x.time ≤ v.time)
    → Some (later x (or_else a l)) ≡ or_else a (Some (later x l))
merge_early x a l h = grind arith

merge_now : (x : Landing) (a l : Option Landing) → ((v : Landing) → a ≡ Some v → x.time ≤ v.time)
    → ((y : Landing) → l ≡ Some y → y.time < x.time)
    → Some (later x (or_else a l)) ≡ or_else a (Some x)
merge_now x a l h k = grind arith

-- one landing more before the next time
head_next : (cell t : ℕ) (x : Landing) (xs : List Landing)
    → (latest cell (suc t) xs ≡ or_else (last_at cell t xs) (latest cell t xs)) → (x.cell ≡ cell)
    ⊎ (x.cell ≡ cell → ⊥)
    → (x.time < t) ⊎ ((x.time ≡ t) ⊎ (t < x.time))
    → latest cell (suc t) (x ∷ xs) ≡ or_else (last_at cell t (x ∷ xs)) (latest cell t (x ∷ xs))
head_next cell t x xs rest (inr ne) order = grind (arith, or_none)
head_next cell t x xs rest (inl e) (inl lt) = grind (arith, merge_early x, last_at_time cell t xs, or_none)
head_next cell t x xs rest (inl e) (inr (inl at)) = grind (
  arith,
  merge_now x,
  last_at_time cell t xs,
  latest_time cell t xs,
)
head_next cell t x xs rest (inl e) (inr (inr gt)) = grind (arith, or_none)

-- what stands before the next time is what landed at this one, else what stood before
latest-next : (cell t : ℕ) (ls : List Landing) → latest cell (suc t) ls ≡ or_else (last_at cell t ls) (latest cell t ls)
latest-next cell t [] = refl
latest-next cell t (x ∷ xs) = grind (arith, nat_tests, latest-next cell t xs, head_next)

last_at-append : (cell t : ℕ) (xs ys : List Landing)
    → last_at cell t (xs ++ ys) ≡ or_else (last_at cell t ys) (last_at cell t xs)
last_at-append cell t [] ys = sym (or_none (last_at cell t ys))
last_at-append cell t (x ∷ xs) ys = grind (arith, last_at-append cell t xs ys)

none_at : (cell t : ℕ) (ls : List Landing) → ((w : Landing) → In w ls → w.time ≡ t → ⊥) → last_at cell t ls ≡ None
none_at cell t [] h = refl
none_at cell t (x ∷ xs) h =
    let s : eqb x.time t ≡ false = ne_eqb _ _ (h x (inl refl)) in
    ap (λ o. or_else o (cond (eqb x.cell cell && eqb x.time t) (Some x) None)) (none_at cell t xs (λ w k. h w (inr k)))
    ∙ cond-false _ _ _ (and_right _ _ s)

-- ---- what a slot leaves in a register

abbrev pub last_pair : ℕ → Slot → ℕ → ℕ
last_pair cell [] old = old
last_pair cell (x ∷ xs) old = last_pair cell xs (cond (eqb (index_of x.reg) cell) x.word old)

pub landed-last : (cell : ℕ) (slot : Slot) (registers : List ℕ) → cell < length registers
    → get_or (fold landed registers slot) cell 0 ≡ last_pair cell slot (get_or registers cell 0)
landed-last cell [] registers l = refl
landed-last cell (x ∷ xs) registers l =
    let l' : cell < length (set registers (index_of x.reg) x.word) = rw length-set l in
    landed-last cell xs (set registers (index_of x.reg) x.word) l' ∙ ap (λ v. last_pair cell xs v) one
  where
    one : get_or (set registers (index_of x.reg) x.word) cell 0 ≡ cond (eqb (index_of x.reg) cell) x.word
        (get_or registers cell 0)
    one =
        ⊎_elim {C = get_or (set registers (index_of x.reg) x.word) cell 0 ≡ cond (eqb (index_of x.reg) cell) x.word
        (get_or registers cell 0)}
        (λ e. get_or-set_at registers (index_of x.reg) cell x.word 0 (sym e)
        (subst (λ i. i < length registers) (sym e) l) ∙ sym (cond-true _ _ _ (eq-eqb _ _ e)))
        (λ ne. get_or-set_other registers (index_of x.reg) cell x.word 0 (λ e. ne (sym e))
        ∙ sym (cond-false _ _ _ (ne_eqb _ _ ne)))
        (cases_eq (index_of x.reg) cell)

last_pair-append : (cell : ℕ) (xs ys : Slot) (old : ℕ)
    → last_pair cell (xs ++ ys) old ≡ last_pair cell ys (last_pair cell xs old)
last_pair-append cell [] ys old = refl
last_pair-append cell (x ∷ xs) ys old = last_pair-append cell xs ys (cond (eqb (index_of x.reg) cell) x.word old)

pairs_of : (cell t c line : ℕ) (ws : List ((Reg × ℕ) × ℕ)) (old : ℕ)
    → last_pair cell (due_of t c line ws) old ≡ value_or (last_at cell t (map (write_landing c) ws)) old
pairs_of cell t c line [] old = refl
pairs_of cell t c line (w ∷ ws) old = grind (arith, nat_tests, pairs_of cell t c line ws)

pairs_in : (cell t : ℕ) (did : Did) (ps : List Placed) (old : ℕ)
    → last_pair cell (due_in did t ps) old ≡ value_or (last_at cell t (flat_map (register_landings did) ps)) old
pairs_in cell t did [] old = refl
pairs_in cell t did (p ∷ ps) old =
    last_pair-append cell (due_of t p.cycle p.line (did p).writes) (due_in did t ps) old
    ∙ pairs_in cell t did ps (last_pair cell (due_of t p.cycle p.line (did p).writes) old)
    ∙ ap (λ v. value_or (last_at cell t (flat_map (register_landings did) ps)) v)
    (pairs_of cell t p.cycle p.line (did p).writes old)
    ∙ sym (value_or_else (last_at cell t (flat_map (register_landings did) ps))
    (last_at cell t (register_landings did p)) old)
    ∙ sym (ap (λ o. value_or o old)
    (last_at-append cell t (register_landings did p) (flat_map (register_landings did) ps)))

-- a register before the next cycle is what landed in this one, else what it was
pub word-next : (block : List Placed) (opening : Machine) (did : Did) (c n : ℕ) (reg : Reg)
    → ((p : Placed) → In p (drop n block) → c < p.cycle)
    → word_before block opening did (suc c) reg ≡ last_pair (index_of reg) (due_in did c (take n block))
    (word_before block opening did c reg)
word-next block opening did c n reg late =
    let cell : ℕ = index_of reg in
    let old : ℕ = word_in opening reg in
    let front = flat_map (register_landings did) (take n block) in
    let back = flat_map (register_landings did) (drop n block) in
    let all : flat_map (register_landings did) block ≡ front ++ back
    = ap (λ ps. flat_map (register_landings did) ps) (sym (take-append-drop n block))
    ∙ flat_map-append (register_landings did) (take n block) (drop n block) in
    let none : last_at (index_of reg) c back ≡ None = none_at (index_of reg) c back (λ w h e.
    let r = from_In-flat_map (register_landings did) w (drop n block) h in
    let s = from_In-writes r.0.cycle (did r.0).writes w r.2 in
    let l : c < r.0.cycle = late r.0 r.1 in
    let f : w.time ≡ r.0.cycle + s.0.0.1 = s.3 in omega arith) in
    let last : last_at (index_of reg) c (flat_map (register_landings did) block) ≡ last_at (index_of reg) c front
    = ap (λ ls. last_at (index_of reg) c ls) all ∙ last_at-append (index_of reg) c front back
    ∙ ap (λ o. or_else o (last_at (index_of reg) c front)) none in
    ap (λ o. value_or o (word_in opening reg)) (latest-next (index_of reg) c (flat_map (register_landings did) block))
    ∙ value_or_else (last_at (index_of reg) c (flat_map (register_landings did) block))
    (latest (index_of reg) c (flat_map (register_landings did) block)) (word_in opening reg)
    ∙ ap (λ o. value_or o (word_before block opening did c reg)) last
    ∙ sym (pairs_in (index_of reg) c did (take n block) (word_before block opening did c reg))

-- ---- memory

in_order : (did : Did) (a : ℕ) (ps : List Placed) → Ascends ps → InOrder a (flat_map (memory_landings did) ps)
in_order did a [] h = tt
in_order did a (p ∷ ps) h =
    InOrder-append a (memory_landings did p) (flat_map (memory_landings did) ps)
    (InOrder-access a (access_time p) (did p).access)
    (in_order did a ps h.1)
    (λ v w k l e f.
    let r = from_In-flat_map (memory_landings did) w ps l in
    let tv : v.time ≡ listing_position p = (from_In-access (access_time p) (did p).access v k).at in
    let tw : w.time ≡ listing_position r.0 = (from_In-access (access_time r.0) (did r.0).access w r.2).at in
    let less : listing_position p < listing_position r.0 = h.0 r.0 r.1 in omega arith)

-- memory before the next cycle: the stores of all that was issued, one after the other
pub byte-next : (block : List Placed) (opening : Machine) (did : Did) (c n a : ℕ) → Ascends block
    → ((p : Placed) → In p (take n block) → p.cycle ≤ c)
    → ((p : Placed) → In p (drop n block) → c < p.cycle)
    → byte_before block opening did (suc c) a ≡ last_value a (flat_map (memory_landings did) (take n block))
    (byte_in opening a)
byte-next block opening did c n a ascends early late =
    latest_is_last a (8 * suc c) (flat_map (memory_landings did) (take n block)) (flat_map (memory_landings did) block)
    (byte_in opening a)
    (record {
      in_order = in_order did a (take n block) (parts_at block n ascends).front;
      in_time = λ w h p.
          let r = from_In-flat_map (memory_landings did) w (take n block) h in
          let t : w.time ≡ 8 * r.0.cycle + unit_index r.0.unit =
          (from_In-access (access_time r.0) (did r.0).access w r.2).at in
          let b : unit_index r.0.unit < 8 = index_of-below r.0.unit in
          let e : r.0.cycle ≤ c = early r.0 r.1 in omega arith;
      landed = λ w h p l.
          let r = from_In-flat_map (memory_landings did) w (take n block) h in
          In-flat_map (memory_landings did) w r.0 block (In-take block n r.0 r.1) r.2;
      no_other = λ w h p l.
          let r = from_In-flat_map (memory_landings did) w block h in
          let t : w.time ≡ 8 * r.0.cycle + unit_index r.0.unit =
          (from_In-access (access_time r.0) (did r.0).access w r.2).at in
          found w r.0 r.2 (omega arith) (In-parts block n r.0 r.1);
    })
  where
    found : (w : Landing) (p : Placed) → In w (memory_landings did p) → p.cycle < suc c → In p (take n block)
        ⊎ In p (drop n block) → In w (flat_map (memory_landings did) (take n block))
    found w p h l (inl k) = In-flat_map (memory_landings did) w p (take n block) k h
    found w p h l (inr k) = let g : c < p.cycle = late p k in absurd (omega arith)
