use Rattle.std.proofs.Common.{◌≡◌, ◌∙◌, get_or, [], drop, map, rules, ap}
use Rattle.std.proofs.lemmas.List.{drop_all}
use Rattle.c62_isa.proofs.Walks.{no_want_more, no_word_more, one_want_more, one_word_more}
use Rattle.c62_isa.proofs.word.words_said.Goals as goal

pub loop-word-preserved : goal.loop-word-preserved
loop-word-preserved g c =
    let item : c.word-item.result ≡ get_or c.args.words.now c.loop-word.word-index c.word-item.result = search rules in
    let word : c.as_str-word.result.now ≡ g.S.AsStr.text
    (get_or c.args.words.now c.loop-word.word-index c.word-item.result) =
    c.as_str-word.ensures ∙ ap g.S.AsStr.text item in
    rw c.wants_after-wants.ensures (record {
      words = one_word_more g.S.AsStr.text c.args.words.now c.loop-word.word-index c.word-item.result
          c.as_str-word.result.now c.loop-word.wants
          c.loop-word.said.items c.push_some.new.words.items c.word_at.result _ (search rules) word
          c.word_at.ensures c.in_ok-push_some.ensures
          c.loop-word.invariant.words;
      wants = one_want_more g.S.AsStr.text c.args.words.now c.loop-word.word-index c.word-item.result
          c.as_str-word.result.now c.loop-word.wants _
          (search rules) word c.loop-word.invariant.wants;
    })

pub returns-clause-words : goal.returns-clause-words
returns-clause-words g c =
    let none : map g.S.AsStr.text (drop c.loop-word.word-index c.args.words.now) ≡ [] =
    ap (map g.S.AsStr.text) (drop_all c.loop-word.word-index c.args.words.now (search rules)) in
    no_word_more c.loop-word.wants _ _ _ none c.loop-word.invariant.words

pub returns-clause-wants : goal.returns-clause-wants
returns-clause-wants g c =
    let none : map g.S.AsStr.text (drop c.loop-word.word-index c.args.words.now) ≡ [] =
    ap (map g.S.AsStr.text) (drop_all c.loop-word.word-index c.args.words.now (search rules)) in
    no_want_more c.loop-word.wants _ _ none c.loop-word.invariant.wants
