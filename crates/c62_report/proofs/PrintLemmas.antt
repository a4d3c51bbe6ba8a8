-- Lines of memory that is printed.
use Rattle.std.proofs.Common.{◌≡◌, ℕ, zero, suc, ◌+◌, ◌-◌, ◌%◌, ◌^◌, ◌<◌, Bool, List, [], ◌++◌, refl, arith}
use Rattle.c62_serial.specs.State.{Machine}
use Rattle.c62_report.specs.Print.{print_line, print_lines}

pub no_lines : (machine : Machine) (size : ℕ) (signed : Bool) (left address : ℕ) → left ≡ 0
    → print_lines machine size signed left address ≡ []
unfolding print_lines
no_lines machine size signed zero address none = refl
no_lines machine size signed (suc left) address none = absurd (omega (arith, none))

pub first_line : (machine : Machine) (size : ℕ) (signed : Bool) (left address : ℕ) → 0 < left
    → print_lines machine size signed left address
    ≡ print_line machine size signed address ++ print_lines machine size signed (left - 1) ((address + size) % 2 ^ 32)
unfolding print_lines
first_line machine size signed zero address some = absurd (omega (arith, some))
first_line machine size signed (suc left) address some =
    let less : suc left - 1 ≡ left = omega arith in
    rw less refl
