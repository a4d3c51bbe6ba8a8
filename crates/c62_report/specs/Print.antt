-- Memory that is printed below a report (docs/REPORT.md, "Memory that is printed").
use Rattle.std.specs.Prelude.{ℕ, zero, suc, ◌+◌, ◌*◌, ◌%◌, ◌^◌, ◌==◌, ℤ, Bool, List, [], ◌++◌, unwrap_or, codes, if◌then◌else◌}
use Rattle.std.specs.Int.{cast_signed, w8, w16, w32}
use Rattle.std.specs.Fmt.{signed_decimal}
use Rattle.c62_serial.specs.State.{Machine, byte_in}
use Rattle.c62_serial.specs.Memory.{read}
use Rattle.c62_report.specs.Report.{hex, line, address_text}

-- the value of so many bytes at a place, the lowest first; 0 where these aren't in memory
abbrev pub value_at : Machine → ℕ → ℕ → ℕ
value_at machine place size = unwrap_or (read (byte_in machine) place size) 0

-- the low bytes of a value, so many of them, as a signed number
abbrev pub signed_value : ℕ → ℕ → ℤ
signed_value size value =
    if size == 1 then cast_signed w8 (value % 2 ^ 8)
    else (if size == 2 then cast_signed w16 (value % 2 ^ 16)
    else cast_signed w32 value)

-- two hexadecimal digits a byte, or a signed decimal
abbrev pub value_text : (size : ℕ) → (signed : Bool) → ℕ → List ℕ
value_text size signed value = if signed then signed_decimal (signed_value size value) else hex (size * 2) value

-- `print 0300 0dac`, by address and value
abbrev pub print_line : Machine → (size : ℕ) → (signed : Bool) → ℕ → List ℕ
print_line machine size signed place =
    line (codes "print " ++ address_text machine.base place ++ codes " " ++ value_text size signed (value_at machine place size))

-- so many values, one behind the other from a place on
unfoldable pub print_lines : Machine → (size : ℕ) → (signed : Bool) → (count place : ℕ) → List ℕ
print_lines machine size signed zero place = []
print_lines machine size signed (suc count) place =
    print_line machine size signed place ++ print_lines machine size signed count ((place + size) % 2 ^ 32)
