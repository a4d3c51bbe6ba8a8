-- Accesses that may touch one byte in two iterations, as nothing is promised of them (docs/SCHEDULING.md, "Loops of a program").
use Rattle.std.specs.Prelude.{ℕ, Bool, false, not, ◌&&◌, ◌||◌, List, find, Option, Some, None, is_some, option_map, option_and_then}
use Rattle.c62_op.specs.declared.register.Reg.{Reg}
use Rattle.c62_op.specs.Shape.{is_store}
use Rattle.c62_op.specs.Takes.{same_reg}
use Rattle.c62_insn.specs.declared.insn.Insn.{Insn}
use Rattle.c62_insn.specs.Insn.{op_of, operands_of}
use Rattle.c62_read.specs.declared.block.SerialInsn.{SerialInsn}
use Rattle.c62_loop_match.specs.declared.promise.Promise.{Promise}
use Rattle.c62_loop_match.specs.Promise.{base_in, promises}
use Rattle.c62_pipeline.specs.declared.meeting.Meeting.{Meeting}

-- both have a base, and not the same
abbrev pub are_two : Option Reg → Option Reg → Bool
are_two (Some one) (Some other) = not (same_reg one other)
are_two _ _ = false

-- accesses with two bases, of which one stores at least, and of which nothing is promised
abbrev pub may_meet : Promise → Insn → Insn → Bool
may_meet promise first second =
    are_two (base_in (operands_of first)) (base_in (operands_of second)) && ((is_store (op_of first) || is_store (op_of second)) && not (promises promise first second))

-- the line of the first that an access may meet
unfoldable pub partner_of : Promise → List SerialInsn → SerialInsn → Option ℕ
partner_of promise insns one = option_map (λ other. other.line) (find (λ other. may_meet promise one.insn other.insn) insns)

unfoldable pub has_partner : Promise → List SerialInsn → SerialInsn → Bool
has_partner promise insns one = is_some (partner_of promise insns one)

-- an access, and the line of one that it may meet
abbrev pub lines_with : SerialInsn → ℕ → Meeting
lines_with one line = record { first = one.line; second = line }

-- the first two that may meet
abbrev pub meeting_of : Promise → List SerialInsn → Option Meeting
meeting_of promise insns =
    option_and_then (λ one. option_map (lines_with one) (partner_of promise insns one)) (find (has_partner promise insns) insns)
