-- How much of a block's cycles something is used (docs/SHOW.md, "The grid").
use Rattle.std.specs.Prelude.{ℕ, ◌*◌, ◌/◌, ◌==◌, List, ◌++◌, codes, decimal, if◌then◌else◌}

-- of 100 cycles so many, rounded down
unfoldable pub share : ℕ → ℕ → List ℕ
share count cycles = if count == 0 then codes "-" else decimal (100 * count / cycles) ++ codes "%"
