use Rattle.std.proofs.Common.{FitsSigned, rules, w64}
use Rattle.std.proofs.lemmas.Int.{to_z-of_z}
use Rattle.c62_token.specs.Token.{words_left}
use Rattle.c62_adopt_spell.proofs.BracketLemmas.{number_next, word_next}
use Rattle.c62_adopt_spell.proofs.bracket.push_next.Goals as goal

pub returns-in-Some : goal.returns-in-Some
returns-in-Some c =
    let fits : FitsSigned w64 c.in-Some.k = search rules in
    number_next c.args.base c.args.text.now.items c.push_number.new.text.items (words_left c.args.words)
    (words_left c.in-Some.behind) c.in-Some.k
    (rw c.in-Some.is at c.in_loose_brackets.ensures)
    (rw (to_z-of_z w64 c.in-Some.k fits) at c.in_ok-push_number.ensures)

pub returns-in_ok-push_word-in-Some-split : goal.returns-in_ok-push_word-in-Some-split
returns-in_ok-push_word-in-Some-split c =
    rw c.is_base.ensures (word_next c.args.base c.args.text.now.items c.push_word.new.text.items
    (words_left c.args.words)
    (words_left c.in-Some-split.behind) c.in-Some-split.word.now (rw c.in_default.is at c.in_loose_brackets.ensures)
    (rw c.in-Some-split.is at c.split.ensures) c.in_ok-push_word-in-Some-split.ensures)
