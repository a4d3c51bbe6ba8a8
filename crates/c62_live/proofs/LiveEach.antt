-- The rows of live registers, one after the other.
use Rattle.std.proofs.Common.{arith, ◌≡◌, ◌∙◌, ℕ, zero, suc, ◌+◌, ◌-◌, ◌<◌, List, [], ◌∷◌, ◌++◌, length}
use Rattle.std.proofs.Common.{map, Some, refl, sym, ap, subst, inl, inr, append_assoc}
use Rattle.std.specs.Prelude.{slice_get}
use Rattle.std.specs.List.{filter, flat_map, range_with_len}
use Rattle.std.proofs.lemmas.Bool.{cases_lt}
use Rattle.std.proofs.lemmas.Grind.{common_steps}
use Rattle.std.proofs.lemmas.Option.{slice_get_within, same_Some}
use Rattle.c62_op.specs.declared.register.Side.{Side}
use Rattle.c62_op.specs.declared.register.Reg.{Reg}
use Rattle.c62_token.specs.Number.{numbered}
use Rattle.c62_token.proofs.Registers.{numbered-known}
use Rattle.c62_packet.specs.declared.placed.Placed.{Placed}
use Rattle.c62_live.specs.declared.rows.LiveRow.{LiveRow}
use Rattle.c62_live.specs.Live.{live_before}
use Rattle.c62_live.specs.Rows.{AreLiveRows, listed, live_reg, register_at, registers}
use Rattle.c62_live.proofs.Counted.{tracked_before}
use Rattle.c62_live.proofs.Numbered.{push_before, push_last}

-- ---- the registers of a side

is_at : (side : Side) (reg : Reg) → reg.side ≡ side → register_at side reg.number ≡ reg ∷ []
is_at side reg is = subst (λ s. register_at s reg.number ≡ reg ∷ []) is (ap listed (numbered-known reg))

pub next_register : (side : Side) (regs more : List Reg) (reg : Reg) (number rest : ℕ) → number < 16
    → rest ≡ 16 - number
    → regs ++ flat_map (register_at side) (range_with_len number rest) ≡ registers side
    → more ≡ regs ++ reg ∷ [] → reg.side ≡ side → reg.number ≡ number
    → more ++ flat_map (register_at side) (range_with_len (number + 1) (16 - (number + 1))) ≡ registers side
next_register side regs more reg number zero inside left are is on numbered = absurd (omega (arith, inside, left))
next_register side regs more reg number (suc rest) inside left are is on at =
    let behind = flat_map (register_at side) (range_with_len (number + 1) rest) in
    let same : rest ≡ 16 - (number + 1) = omega (arith, left, inside) in
    let found : register_at side number ≡ reg ∷ [] = subst (λ n. register_at side n ≡ reg ∷ []) at (is_at side reg on)
    in
    subst (λ n. more ++ flat_map (register_at side) (range_with_len (number + 1) n) ≡ registers side) same
    (ap (λ xs. xs ++ behind) is ∙ append_assoc regs (reg ∷ []) behind
    ∙ ap (λ xs. regs ++ (xs ++ behind)) (sym found) ∙ are)

-- ---- the rows

-- those of these registers that are live so many cycles before the end
abbrev pub live_left : List Placed → List Reg → (cycles left : ℕ) → List Reg
live_left placed regs cycles left = filter (λ reg. live_before placed reg cycles left) regs

pub live_tracked : (placed : List Placed) (regs : List Reg) (cycles left : ℕ)
    → flat_map live_reg (map (tracked_before placed cycles left) regs) ≡ live_left placed regs cycles left
live_tracked placed [] cycles left = refl
live_tracked placed (reg ∷ regs) cycles left = grind (arith, common_steps, live_tracked placed regs cycles left)

-- the rows of so many cycles at the end
pub record AreLast (placed : List Placed) (regs : List Reg) (cycles count : ℕ) (rows : List LiveRow) : Type 0 where
  pub long : length rows ≡ count
  pub each : (left : ℕ) (row : LiveRow) → slice_get rows left ≡ Some row
      → row.regs.items ≡ live_left placed regs cycles (suc left)

pub none_yet : (placed : List Placed) (regs : List Reg) (cycles : ℕ) (rows : List LiveRow) → rows ≡ []
    → AreLast placed regs cycles 0 rows
none_yet placed regs cycles rows none = rw none (record { long = refl; each = λ left row at. absurd cc })

pub one_more : (placed : List Placed) (regs : List Reg) (cycles count : ℕ) (rows more : List LiveRow) (row : LiveRow)
    → more ≡ rows ++ row ∷ [] → row.regs.items ≡ live_left placed regs cycles (suc count)
    → AreLast placed regs cycles count rows → AreLast placed regs cycles (count + 1) more
one_more placed regs cycles count rows more row is told are =
    let long = are.long in
    let longer : length more ≡ length rows + 1 = grind (arith, common_steps, is) in
    record {
      long = omega (arith, long, longer);
      each = λ k other at. (
          elim (cases_lt k (length rows)) [
            | inl before ↦ are.each k other (sym (push_before rows row k before)
                ∙ (sym (ap (λ rs. slice_get rs k) is) ∙ at))
            | inr after ↦
                (let inside : k < length more = slice_get_within more k other at in
                let here : k ≡ length rows = omega (arith, after, inside, longer) in
                let last : slice_get more k ≡ Some row = ap (λ rs. slice_get rs k) is
                ∙ (ap (λ n. slice_get (rows ++ row ∷ []) n) here ∙ push_last rows row) in
                let same : row ≡ other = same_Some row other (sym last ∙ at) in
                let place : count ≡ k = omega (arith, long, here) in
                subst (λ (r : LiveRow). r.regs.items ≡ live_left placed regs cycles (suc k)) same
                (subst (λ n. row.regs.items ≡ live_left placed regs cycles (suc n)) place told))
          ]);
    }

pub all_rows : (placed : List Placed) (side : Side) (regs : List Reg) (cycles count : ℕ) (rows : List LiveRow)
    → regs ≡ registers side → count ≡ cycles → AreLast placed regs cycles count rows
    → AreLiveRows placed side cycles rows
all_rows placed side regs cycles count rows all end are = record {
  count = are.long ∙ end;
  each = λ left row at. (
      let long = are.long in
      let inside : left < length rows = slice_get_within rows left row at in
      let same : suc left ≡ cycles - (cycles - suc left) = omega (arith, inside, long, end) in
      are.each left row at
      ∙ (ap (λ rs. live_left placed rs cycles (suc left)) all
      ∙ ap (λ n. live_left placed (registers side) cycles n) same));
}
