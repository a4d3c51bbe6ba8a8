use Rattle.std.proofs.Common.{◌≡◌, [], drop, map, ap, refl, rules}
use Rattle.std.proofs.lemmas.List.{drop_all}
use Rattle.c62_files.specs.Words.{text_piece}
use Rattle.c62_files.proofs.Growing.{all_grown, grown_more, loads_few, loads_more, stopped_at}
use Rattle.c62_files.proofs.expand.expanded.Goals as goal

pub returns-clause-ok : goal.returns-clause-ok
returns-clause-ok g c =
    let none : map text_piece (drop c.loop-piece.piece-index c.args.pieces.now) ≡ [] =
    ap (map text_piece) (drop_all c.loop-piece.piece-index c.args.pieces.now (search rules)) in
    rw c.begin_among-base.ensures at
    (all_grown c.begin_among-base.result (g.F.Folder.holds c.args.folder.now) _ _ _ none c.loop-piece.invariant.0)

pub returns-in-Err-clause-err : goal.returns-in-Err-clause-err
returns-in-Err-clause-err g c =
    rw (c.numbered.ensures)
    (stopped_at (g.F.Folder.holds c.args.folder.now) c.args.pieces.now c.loop-piece.piece-index c.loop-piece.loads _ _ _
    (search rules) refl
    c.loop-piece.invariant.1 (rw c.begin_among-base.ensures at c.in-Err.ensures.stopped))

pub loop-piece-preserved : goal.loop-piece-preserved
loop-piece-preserved g c =
    let given = c.in_default.ensures.ok in
    let now = c.loop-piece.invariant in (
      grown_more c.begin_among-base.result (g.F.Folder.holds c.args.folder.now) (map text_piece c.args.pieces.now)
          c.args.pieces.now
          c.loop-piece.piece-index _ _ _ given.0 _ (search rules)
          refl given.1 given.2 now.0,
      rw c.loads_with-loads.ensures
          (loads_more c.args.pieces.now c.loop-piece.piece-index _ _ c.loop-piece.loads (search rules) refl now.1),
      rw c.loads_with-loads.ensures (loads_few c.loop-piece.loads c.loop-piece.piece-index _ now.2),
    )
