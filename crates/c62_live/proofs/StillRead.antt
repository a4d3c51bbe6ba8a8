-- What it means to be live.
use Rattle.std.proofs.Common.{arith, ◌≡◌, ◌⊎◌, ℕ, zero, suc, ◌-◌, ◌≤◌, Bool, true, false, List, refl, sym, subst, inl}
use Rattle.std.proofs.Common.{inr}
use Rattle.std.proofs.lemmas.Bool.{false≢true}
use Rattle.std.specs.Prelude.{◌&&◌, ◌||◌, not}
use Rattle.std.proofs.lemmas.Bool.{cases_eq}
use Rattle.c62_op.specs.declared.register.Reg.{Reg}
use Rattle.c62_packet.specs.declared.placed.Placed.{Placed}
use Rattle.c62_live.specs.Live.{is_read, is_ended, live_before}
use Rattle.c62_live.specs.Laws.{IsStillRead, LiveIsStillRead}

parts : (read live ended : Bool) → (read || (live && not ended)) ≡ true → (read ≡ true)
    ⊎ ((live ≡ true) × (ended ≡ false))
parts true live ended e = inl refl
parts false true false e = inr (refl, refl)
parts false true true e = absurd (false≢true e)
parts false false ended e = absurd (false≢true e)

whole : (read live ended : Bool) → (read ≡ true) ⊎ ((live ≡ true) × (ended ≡ false))
    → (read || (live && not ended)) ≡ true
whole read live ended (inl is) = rw is refl
whole true live ended (inr both) = refl
whole false live ended (inr both) = rw (both.0, both.1) refl

module _ (placed : List Placed) (reg : Reg) (cycles : ℕ) where
  still : (left : ℕ) → left ≤ cycles → live_before placed reg cycles left ≡ true
      → IsStillRead placed reg cycles (cycles - left)
  still zero inside live = absurd (false≢true live)
  still (suc left) inside live = elim
      (parts (is_read placed reg cycle) (live_before placed reg cycles left) (is_ended placed reg cycle) live) [
        | inl read ↦ record {
          at = cycle;
          from = omega arith;
          within = omega (arith, inside);
          read = read;
          kept = λ k from
              before. absurd (omega (arith, from, before));
        }
        | inr both ↦
            (let rest = still left (omega (arith, inside)) both.0 in
            let next : cycles - left ≡ suc cycle = omega (arith, inside) in
            let later = rest.from in
            record {
              at = rest.at;
              from = omega (arith, later, next);
              within = rest.within;
              read = rest.read;
              kept = λ k from before. (
                  elim (cases_eq cycle k) [
                    | inl same ↦ subst (λ n. is_ended placed reg n ≡ false) same both.1
                    | inr other ↦ rest.kept k (omega (arith, from, other, next)) before
                  ]);
            })
      ]
    where
      cycle : ℕ
      cycle = cycles - suc left

  live : (left : ℕ) → left ≤ cycles → IsStillRead placed reg cycles (cycles - left)
      → live_before placed reg cycles left ≡ true
  live zero inside is = absurd (let from = is.from in let within = is.within in omega (arith, from, within))
  live (suc left) inside is = whole (is_read placed reg cycle) (live_before placed reg cycles left)
      (is_ended placed reg cycle) (
      elim (cases_eq cycle is.at) [
        | inl same ↦ inl (subst (λ n. is_read placed reg n ≡ true) (sym same) is.read)
        | inr other ↦
            (let next : cycles - left ≡ suc cycle = omega (arith, inside) in
            let from = is.from in
            inr (
              live left (omega (arith, inside)) (record {
                at = is.at;
                from = omega (arith, from, other, next);
                within = is.within;
                read = is.read;
                kept = λ k later before. is.kept k (omega (arith, later, next)) before;
              }),
              is.kept cycle (omega arith) (omega (arith, from, other)),
            ))
      ])
    where
      cycle : ℕ
      cycle = cycles - suc left

pub live_is_still_read : (placed : List Placed) (reg : Reg) (cycles cycle : ℕ) → LiveIsStillRead placed reg cycles cycle
live_is_still_read placed reg cycles cycle inside =
    let back : cycles - (cycles - cycle) ≡ cycle = omega (arith, inside) in (
      λ is. subst (λ n. IsStillRead placed reg cycles n) back
          (still placed reg cycles (cycles - cycle) (omega arith) is),
      λ is. live placed reg cycles (cycles - cycle) (omega arith)
          (subst (λ n. IsStillRead placed reg cycles n) (sym back) is),
    )
