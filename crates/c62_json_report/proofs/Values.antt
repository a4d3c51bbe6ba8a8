-- Values that are printed, one more.
use Rattle.std.proofs.Common.{◌≡◌, ℕ, zero, suc, ◌+◌, ◌-◌, ◌%◌, ◌^◌, ◌<◌, Bool, [], ◌++◌, refl, arith}
use Rattle.c62_serial.specs.State.{Machine}
use Rattle.c62_json_report.specs.Prints.{value, values}

pub no_values : (machine : Machine) (size : ℕ) (signed : Bool) (left place : ℕ) → left ≡ 0
    → values machine size signed left place ≡ []
unfolding values
no_values machine size signed zero place none = refl
no_values machine size signed (suc left) place none = absurd (omega (arith, none))

pub first_value : (machine : Machine) (size : ℕ) (signed : Bool) (left place : ℕ) → 0 < left
    → values machine size signed left place
    ≡ value machine size signed place ++ values machine size signed (left - 1) ((place + size) % 2 ^ 32)
unfolding values
first_value machine size signed zero place some = absurd (omega (arith, some))
first_value machine size signed (suc left) place some =
    let less : suc left - 1 ≡ left = omega arith in
    rw less refl
