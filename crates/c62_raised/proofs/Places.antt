-- The rooms in their order.
use Rattle.std.proofs.Common.{arith, ◌≡◌, ℕ, zero, suc, ◌+◌, ◌<◌, ◌≤◌, List, get_or, Option, refl, sym, ap, ◌∙◌, subst}
use Rattle.std.proofs.Common.{inl, inr}
use Rattle.std.specs.Prelude.{ℤ}
use Rattle.std.proofs.lemmas.Bool.{cases_eq}
use Rattle.c62_op.specs.declared.register.Side.TheVariants.{A, B}
use Rattle.c62_bound.specs.declared.need.Kind.{Kind}
use Rattle.c62_bound.proofs.Unique.{index_small, same_kind}
use Rattle.c62_insn.specs.declared.insn.Insn.{Insn}
use Rattle.c62_raised.specs.declared.room.TheConstants.{ROOMS}
use Rattle.c62_raised.specs.declared.room.Room.{Room}
use Rattle.c62_raised.specs.declared.room.Room.TheVariants.{Of, Cross}
use Rattle.c62_raised.specs.Room.{room_index}
use Rattle.c62_raised.specs.Steps.{CoversCrowds}

pub room_small : (room : Room) → room_index room < 16
room_small (Of kind A) = omega (arith, index_small kind)
room_small (Of kind B) = omega (arith, index_small kind)
room_small (Cross A) = omega arith
room_small (Cross B) = omega arith

pub same_room : (a b : Room) → room_index a ≡ room_index b → a ≡ b
same_room (Of k A) (Of l A) e = ap (λ (kind : Kind). Of kind A) (same_kind k l e)
same_room (Of k B) (Of l B) e = ap (λ (kind : Kind). Of kind B) (same_kind k l (omega (arith, e)))
same_room (Cross A) (Cross A) e = refl
same_room (Cross B) (Cross B) e = refl
same_room (Of k A) (Of l B) e = absurd (omega (arith, e, index_small k))
same_room (Of k B) (Of l A) e = absurd (omega (arith, e, index_small l))
same_room (Of k A) (Cross A) e = absurd (omega (arith, e, index_small k))
same_room (Of k A) (Cross B) e = absurd (omega (arith, e, index_small k))
same_room (Of k B) (Cross A) e = absurd (omega (arith, e))
same_room (Of k B) (Cross B) e = absurd (omega (arith, e, index_small k))
same_room (Cross A) (Of l A) e = absurd (omega (arith, e, index_small l))
same_room (Cross A) (Of l B) e = absurd (omega (arith, e))
same_room (Cross B) (Of l A) e = absurd (omega (arith, e, index_small l))
same_room (Cross B) (Of l B) e = absurd (omega (arith, e, index_small l))
same_room (Cross A) (Cross B) e = absurd (omega (arith, e))
same_room (Cross B) (Cross A) e = absurd (omega (arith, e))

pub room_at : (k : ℕ) (d : Room) → k < 16 → room_index (get_or ROOMS k d) ≡ k
room_at zero d low = refl
room_at (suc zero) d low = refl
room_at (suc (suc zero)) d low = refl
room_at (suc (suc (suc zero))) d low = refl
room_at (suc (suc (suc (suc zero)))) d low = refl
room_at (suc (suc (suc (suc (suc zero))))) d low = refl
room_at (suc (suc (suc (suc (suc (suc zero)))))) d low = refl
room_at (suc (suc (suc (suc (suc (suc (suc zero))))))) d low = refl
room_at (suc (suc (suc (suc (suc (suc (suc (suc zero)))))))) d low = refl
room_at (suc (suc (suc (suc (suc (suc (suc (suc (suc zero))))))))) d low = refl
room_at (suc (suc (suc (suc (suc (suc (suc (suc (suc (suc zero)))))))))) d low = refl
room_at (suc (suc (suc (suc (suc (suc (suc (suc (suc (suc (suc zero))))))))))) d low = refl
room_at (suc (suc (suc (suc (suc (suc (suc (suc (suc (suc (suc (suc zero)))))))))))) d low = refl
room_at (suc (suc (suc (suc (suc (suc (suc (suc (suc (suc (suc (suc (suc zero))))))))))))) d low = refl
room_at (suc (suc (suc (suc (suc (suc (suc (suc (suc (suc (suc (suc (suc (suc zero)))))))))))))) d low = refl
room_at (suc (suc (suc (suc (suc (suc (suc (suc (suc (suc (suc (suc (suc (suc (suc zero))))))))))))))) d low = refl
room_at (suc (suc (suc (suc (suc (suc (suc (suc (suc (suc (suc (suc (suc (suc (suc (suc k)))))))))))))))) d low = absurd
    (omega (arith, low))

-- what covers a room and those before it covers one more
pub one_more_room : (block : List Insn) (height : ℕ → ℕ) (lead : ℕ → Option ℤ) (k old new : ℕ) (room : Room)
    → room_index room ≡ k → old ≤ new
    → CoversCrowds block height lead room new → ((r : Room) → room_index r < k → CoversCrowds block height lead r old)
    → (r : Room) → room_index r < k + 1 → CoversCrowds block height lead r new
one_more_room block height lead k old new room at up own before r low = elim (cases_eq (room_index r) k) [
  | inl e ↦ subst (λ (s : Room). CoversCrowds block height lead s new) (same_room room r (at ∙ sym e)) own
  | inr ne ↦ λ last crowd w. (let rest = before r (omega (arith, low, ne)) last crowd w in omega (arith, rest, up))
]
