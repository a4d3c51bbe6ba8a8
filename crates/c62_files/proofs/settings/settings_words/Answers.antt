use Rattle.std.proofs.Common.{◌≡◌, ◌∙◌, [], drop, rules}
use Rattle.std.proofs.lemmas.List.{drop_all}
use Rattle.c62_files.proofs.Readings.{all_read}
use Rattle.c62_files.proofs.settings.settings_words.Goals as goal

pub returns : goal.returns
returns c =
    let none : drop c.loop-byte.byte-index c.args.bytes.now ≡ [] = drop_all c.loop-byte.byte-index c.args.bytes.now
    (search rules) in
    c.in_ok-end_word.ensures.words ∙ all_read c.loop-byte.reading _ _ none c.loop-byte.invariant
