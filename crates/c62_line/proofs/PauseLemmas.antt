-- NOP says from one to nine cycles without an instruction.
use Rattle.c62_line.proofs.Common.{◌≡◌, ◌≤◌, leb, ◌&&◌, List, [], ◌∷◌, None, Result, Ok, Err, refl, arith, pos, codes}
use Rattle.c62_line.proofs.Common.{cond_both, nat_tests, Cause}
use Rattle.c62_line.proofs.Common.{BadOperand, BadUnit, Kind, Number, Word, kinds_in, Nop, Says, Pause, and_read}
use Rattle.c62_line.proofs.Common.{cycles_of, or_fault, unit_behind}
use Rattle.c62_token.specs.declared.kind.Kind.TheVariants.{Name}
use Rattle.c62_token.specs.Number.{decimal_of, magnitude_of, number_of, register_of, signed_of}
use Rattle.c62_token.specs.Number.{pointer_of, suffixed_of, signed_suffixed, suffixed_magnitude}
use Rattle.c62_token.specs.Kind.{kind_of, mark_of, read_in}
use Rattle.c62_line.specs.Mnemonic.{mnemonic_named, operation_named, pseudo_named}
use Rattle.c62_line.specs.Line.{behind_unit, condition_front, condition_of, instruction_of, pause_of, rest_says}
use Rattle.c62_op.specs.declared.set.InstructionSet.{InstructionSet}

pub nop_kind : kind_of (codes "NOP") ≡ Name
unfolding kind_of mark_of register_of number_of signed_of magnitude_of decimal_of
    pointer_of suffixed_of signed_suffixed suffixed_magnitude
nop_kind = refl

abbrev pub IsShort : Says → Type 0
IsShort (Pause n) = (1 ≤ n) × (n ≤ 9)
IsShort _ = Unit {0}

abbrev pub OkShort : Result Says Cause → Type 0
OkShort (Ok says) = IsShort says
OkShort (Err cause) = Unit {0}

cycles_short : (kind : Kind) → OkShort (cycles_of kind)
cycles_short (Number (pos n)) = cond_both (leb 1 n && leb n 9) (Ok (Pause n)) (Err BadOperand) OkShort
    (λ is. (grind (arith, nat_tests), grind (arith, nat_tests))) (λ _. tt)
cycles_short _ = tt

pause_short : (isa : InstructionSet) (words : List Word) → OkShort (pause_of None (kinds_in isa words))
unfolding pause_of
pause_short isa [] = (omega arith, omega arith)
pause_short isa (word ∷ []) = cycles_short (read_in isa (kind_of word))
pause_short isa (word ∷ next ∷ words) = tt

step_short : {T : Type 0} (read : Result T Cause) (next : T → Result Says Cause) → ((found : T) → OkShort (next found))
    → OkShort (and_read read next)
step_short (Ok found) next short = short found
step_short (Err cause) next short = tt

-- what NOP says
pub nop_short : (isa : InstructionSet) (words : List Word) → OkShort (rest_says isa (codes "NOP" ∷ words))
unfolding rest_says condition_front condition_of instruction_of behind_unit mnemonic_named operation_named pseudo_named
nop_short isa words =
    rw nop_kind (step_short (or_fault BadUnit (unit_behind Nop words)) _ (λ unit. pause_short isa unit.1))
