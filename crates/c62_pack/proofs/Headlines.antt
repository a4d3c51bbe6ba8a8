-- The headline follows from what holds of every board.
use Rattle.std.proofs.Common.{arith, ◌≡◌, ℕ, suc, ◌+◌, Bool, true, false, List, [], ◌∷◌, length, map, Some, refl, subst}
use Rattle.std.specs.Prelude.{slice_get, not}
use Rattle.std.proofs.lemmas.Bool.{false_from_ne_true, and_from}
use Rattle.c62_op.specs.Shape.{is_branch}
use Rattle.c62_insn.specs.declared.insn.Insn.{Insn}
use Rattle.c62_insn.specs.Insn.{op_of}
use Rattle.c62_read.specs.declared.block.SerialInsn.{SerialInsn}
use Rattle.c62_read.specs.Block.{branch_last, operations}
use Rattle.c62_depend.specs.Plan.{unnumbered, insns_of}
use Rattle.c62_sheet.specs.Lawful.{Spots, IsLawful}
use Rattle.c62_board.specs.State.{BoardState}
use Rattle.c62_meaning.proofs.SerialPackets.{are_serial}
use Rattle.c62_pack.specs.Headline.{Headline}
use Rattle.c62_pack.proofs.EitherSide.{on_own_side}
use Rattle.c62_pack.proofs.Arranging.{packed_sorted}

negated : (b : Bool) → b ≡ false → not b ≡ true
negated true h = absurd cc
negated false h = refl

-- a branch stands only as the last
last_from : (entries : List SerialInsn)
    → ((i : ℕ) (insn : Insn) → slice_get (unnumbered entries) i ≡ Some insn → is_branch (op_of insn) ≡ true
    → i + 1 ≡ length (unnumbered entries))
    → branch_last (operations entries) ≡ true
last_from [] h = refl
last_from (e ∷ []) h = refl
last_from (e ∷ n ∷ rest) h =
    and_from (not (is_branch (op_of e.insn))) (branch_last (operations (n ∷ rest)))
    (negated (is_branch (op_of e.insn))
    (false_from_ne_true (is_branch (op_of e.insn))
    (λ b. (let one = h 0 e.insn refl b in absurd (omega (arith, one))))))
    (last_from (n ∷ rest) (λ i insn at b. (let more = h (suc i) insn at b in omega (arith, more))))

pub headline : (board : BoardState) → Headline board
headline board sound = record {
  rules = sound.lawful.rules;
  distances = sound.lawful.delays;
  legal = sound.legal;
  replays = sound.replays;
  serial = λ complete block packets.
      let last = last_from board.plan.insns sound.plan.branch in
      let lawful = subst (λ (set : Spots). IsLawful (insns_of board.plan) set) packets.all_placed sound.lawful in
      are_serial board.plan.insns block.placed last
      (packed_sorted board.plan.insns packets.spots packets.serial packets.numbered
      (on_own_side (insns_of board.plan) (map Some packets.spots) lawful) last block.placed packets.listed);
}
