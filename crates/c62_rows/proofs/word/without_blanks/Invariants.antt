use Rattle.std.proofs.Common.{◌≡◌, ◌+◌, ◌≤◌, length, take}
use Rattle.std.specs.List.{suffix_len}
use Rattle.c62_token.specs.Token.{is_blank}
use Rattle.c62_rows.proofs.word.without_blanks.Given as goal

abbrev pub invariant-loop-len : goal.invariant-loop-len
invariant-loop-len l =
    (l.len ≤ length l.bytes)
    × (l.len + suffix_len is_blank l.bytes ≡ length l.bytes + suffix_len is_blank (take l.len l.bytes))

abbrev pub decreases-loop-len : goal.decreases-loop-len
decreases-loop-len l = l.len
