-- The names of the texts that calls are made on.
use Rattle.std.specs.Prelude.{List, ℕ, Option, Some, None, codes, if◌then◌else◌, ◌==◌}
use Rattle.std.specs.Str.{bytes_eq}
use Rattle.c62_refusals.specs.declared.texts.TheConstants.{EJECTING, BRANCHING, STORING, SUM, SIX, LOOPING}

abbrev pub text_named : List ℕ → Option (List ℕ)
text_named name = if bytes_eq name (codes "ejecting") then Some EJECTING.now
    else (if bytes_eq name (codes "branching") then Some BRANCHING.now
    else (if bytes_eq name (codes "storing") then Some STORING.now
    else (if bytes_eq name (codes "sum") then Some SUM.now
    else (if bytes_eq name (codes "six") then Some SIX.now
    else (if bytes_eq name (codes "looping") then Some LOOPING.now
    else None)))))
