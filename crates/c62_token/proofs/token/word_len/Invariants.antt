use Rattle.c62_token.proofs.Common.{length, ◌-◌, ◌≤◌, ◌≡◌, take, true, list_all, is_word_byte}
use Rattle.c62_token.proofs.token.word_len.Given as goal

abbrev pub invariant-loop-len : goal.invariant-loop-len
invariant-loop-len l = record {
  in_range : l.len ≤ length l.bytes;
  words : list_all is_word_byte (take l.len l.bytes) ≡ true;
}

abbrev pub decreases-loop-len : goal.decreases-loop-len
decreases-loop-len l = length l.bytes - l.len
