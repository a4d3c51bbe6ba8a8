-- One more of a row.
use Rattle.std.proofs.Common.{◌≡◌, ℕ, ◌+◌, [], ◌++◌, refl}
use Rattle.std.specs.List.{flat_map, range_with_len}
use Rattle.c62_op.specs.declared.register.Side.{Side}
use Rattle.c62_serial.specs.State.{Machine}
use Rattle.c62_report.proofs.ReportLemmas.{flat_map-more}
use Rattle.c62_json_report.specs.Machine.{file, register, word, words}

pub whole_file : (machine : Machine) (side : Side)
    → flat_map (register machine side) (range_with_len 0 16) ≡ file machine side
unfolding file
whole_file machine side = refl

pub no_words : (machine : Machine) → words machine 0 ≡ []
unfolding words
no_words machine = refl

pub more_words : (machine : Machine) (k : ℕ) → words machine (k + 1) ≡ words machine k ++ word machine k
unfolding words
more_words machine k = flat_map-more (word machine) k
