-- Numbers by which labels are told apart fast.
use Rattle.std.specs.Prelude.{ℕ, ◌+◌, ◌*◌, ◌%◌, ◌^◌, List, [], ◌∷◌}

abbrev pub key_from : ℕ → List ℕ → ℕ
key_from key [] = key
key_from key (b ∷ bytes) = key_from ((key * 256 % 2 ^ 64 + b) % 2 ^ 64) bytes

-- the last eight bytes as one number: equal labels have the same key
unfoldable pub key_of : List ℕ → ℕ
key_of label = key_from 0 label
