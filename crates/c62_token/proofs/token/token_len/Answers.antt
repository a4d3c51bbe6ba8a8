use Rattle.c62_token.proofs.Common.{◌≡◌, true, false, drop, take, sym, arith, ◌∙◌, list_all, take_rest, begins}
use Rattle.c62_token.proofs.Common.{is_word_byte}
use Rattle.c62_token.proofs.TokenLemmas.{joined_token}
use Rattle.c62_token.proofs.token.token_len.Goals as goal

pub returns-then-joins-clause-token : goal.returns-then-joins-clause-token
returns-then-joins-clause-token c = λ some.
    let bytes = c.args.bytes.now in
    let n = c.word_len.result in
    let word : list_all is_word_byte (take n (drop 1 bytes)) ≡ true = rw (take_rest bytes 1) at c.word_len.ensures.word
    in
    let ends : begins is_word_byte (drop n (drop 1 bytes)) ≡ false = rw (take_rest bytes 1) at c.word_len.ensures.ends
    in
    joined_token bytes n (omega arith) (c.requires some) (sym c.joins.ensures ∙ c.if-joins.true) word ends
