-- Each register is found by its name.
use Rattle.std.proofs.Common.{◌≡◌, ℕ, zero, suc, ◌+◌, ◌<◌, ◌++◌, Some, refl, arith}
use Rattle.std.specs.Prelude.{decimal, slice_index, ◌==◌, true, false, Bool, ◌≢◌}
use Rattle.std.specs.Fmt.{digits}
use Rattle.std.proofs.lemmas.Bool.{eqb-true}
use Rattle.std.proofs.lemmas.Bool.Decides.{nat_tests}
use Rattle.c62_op.specs.declared.register.Reg.{Reg}
use Rattle.c62_op.specs.declared.register.Side.{Side}
use Rattle.c62_op.specs.declared.register.Side.TheVariants.{A, B}
use Rattle.c62_op.specs.Name.{file_letter, register_name}
use Rattle.c62_serial.specs.State.{Machine, first_of, word_in}
use Rattle.c62_json.specs.Document.{count}
use Rattle.c62_json_report.specs.Alike.{found}
use Rattle.c62_json_report.specs.Machine.{file, machine_members, registers}

-- it holds of each number below one
EachBelow : (ℕ → Type 0) → ℕ → Type 0
EachBelow P zero = Unit {0}
EachBelow P (suc n) = P n × EachBelow P n

at_number : (P : ℕ → Type 0) (n k : ℕ) → EachBelow P n → k < n → P k
unfolding EachBelow
at_number P zero k each below = absurd (omega (arith, below))
at_number P (suc n) k each below = go (k == n) refl (λ less. at_number P n k each.1 less)
  where
    go : (b : Bool) → (k == n) ≡ b → (k < n → P k) → P k
    go true e less = rw (eqb-true k n e) each.0
    go false e less =
        let other : k ≢ n = grind (arith, nat_tests) in
        less (omega (arith, below, other))

Found : Machine → Side → ℕ → Type 0
Found machine side number =
    found (file_letter side ++ decimal number) (machine_members machine)
    ≡ Some (count (slice_index machine.registers (first_of side + number)))

lower_found : (machine : Machine) (side : Side) → EachBelow (Found machine side) 8
unfolding EachBelow Found registers file digits
lower_found machine A = (refl, (refl, (refl, (refl, (refl, (refl, (refl, (refl, tt))))))))
lower_found machine B = (refl, (refl, (refl, (refl, (refl, (refl, (refl, (refl, tt))))))))

each_found : (machine : Machine) (side : Side) → EachBelow (Found machine side) 16
unfolding EachBelow Found registers file digits
each_found machine A =
    (refl, (refl, (refl, (refl, (refl, (refl, (refl, (refl, lower_found machine A))))))))
each_found machine B =
    (refl, (refl, (refl, (refl, (refl, (refl, (refl, (refl, lower_found machine B))))))))

pub register_found : (machine : Machine) (reg : Reg)
    → found (register_name reg) (machine_members machine) ≡ Some (count (word_in machine reg))
unfolding Found
register_found machine reg =
    at_number (Found machine reg.side) 16 reg.number (each_found machine reg.side) reg.in_range
