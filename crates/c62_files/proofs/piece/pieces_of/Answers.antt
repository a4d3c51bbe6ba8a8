use Rattle.std.proofs.Common.{◌≡◌, ◌∙◌, get_or, [], drop, map, rules, ap}
use Rattle.std.proofs.lemmas.List.{drop_all}
use Rattle.c62_files.proofs.Pieces.{no_piece_more, no_wanted_more, one_piece_more, one_wanted_more}
use Rattle.c62_files.proofs.piece.pieces_of.Goals as goal

pub loop-word-preserved : goal.loop-word-preserved
loop-word-preserved g c =
    let item : c.word-item.result ≡ get_or c.args.words.now c.loop-word.word-index c.word-item.result = search rules in
    let word : c.as_str-word.result.now ≡ g.S.AsStr.text
    (get_or c.args.words.now c.loop-word.word-index c.word-item.result) =
    c.as_str-word.ensures ∙ ap g.S.AsStr.text item in
    rw c.wanted_after-wanted.ensures (record {
      pieces = one_piece_more g.S.AsStr.text c.args.words.now c.loop-word.word-index c.word-item.result
          c.as_str-word.result.now c.loop-word.wanted
          c.loop-word.pieces.items c.push_some.new.pieces.items c.piece_at.result _ (search rules) word
          c.piece_at.ensures c.in_ok-push_some.ensures
          c.loop-word.invariant.pieces;
      wanted = one_wanted_more g.S.AsStr.text c.args.words.now c.loop-word.word-index c.word-item.result
          c.as_str-word.result.now c.loop-word.wanted _
          (search rules) word c.loop-word.invariant.wanted;
    })

pub returns-clause-pieces : goal.returns-clause-pieces
returns-clause-pieces g c =
    let none : map g.S.AsStr.text (drop c.loop-word.word-index c.args.words.now) ≡ [] =
    ap (map g.S.AsStr.text) (drop_all c.loop-word.word-index c.args.words.now (search rules)) in
    no_piece_more c.loop-word.wanted _ _ _ none c.loop-word.invariant.pieces

pub returns-clause-wanted : goal.returns-clause-wanted
returns-clause-wanted g c =
    let none : map g.S.AsStr.text (drop c.loop-word.word-index c.args.words.now) ≡ [] =
    ap (map g.S.AsStr.text) (drop_all c.loop-word.word-index c.args.words.now (search rules)) in
    no_wanted_more c.loop-word.wanted _ _ none c.loop-word.invariant.wanted
