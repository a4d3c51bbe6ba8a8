use Rattle.std.proofs.Common.{arith, ◌≡◌, ◌<◌, length, None, IsSome, [], ◌∷◌, ◌++◌}
use Rattle.c62_depend.specs.Plan.{insns_of}
use Rattle.c62_depend.proofs.Plans.{many_insns}
use Rattle.c62_sheet.specs.Lawful.{spot_at}
use Rattle.c62_sheet.specs.declared.entry.Entry.TheVariants.{Place}
use Rattle.c62_sheet.specs.declared.entry.Who.TheVariants.{Tail}
use Rattle.c62_sheet.proofs.Optional.{not_none}
use Rattle.c62_work.proofs.Filling.{board_stuck, board_found, board_more, board_filled, filling_skip}
use Rattle.c62_work.proofs.finishing.fill.Goals.{then-is_none+in-Ok, else-is_none}
use Rattle.c62_work.proofs.finishing.fill.Goals as goal

pub returns-in-Err-NoRoom-clause-filled : goal.returns-in-Err-NoRoom-clause-filled
returns-in-Err-NoRoom-clause-filled c =
    let inv = c.loop-i.invariant in
    let within : c.loop-i.i < length (insns_of c.args.board.now.plan) = omega
    (arith, c.loop-i-test.true, inv.all, many_insns c.args.board.now.plan.insns) in
    let free : spot_at c.loop-i.board.spots c.loop-i.i ≡ None = grind
    (arith, c.spot_of.ensures, c.is_none.ensures, c.if-is_none.true) in
    board_stuck c.args.board.now c.loop-i.board c.loop-i.i inv.entries inv.filling inv.adds inv.known within free
    (rw c.in-Err-NoRoom.field-0-is at c.in-Err-NoRoom.ensures.fault).1

pub returns-in-Err-NoRoom-clause-from_nothing : goal.returns-in-Err-NoRoom-clause-from_nothing
returns-in-Err-NoRoom-clause-from_nothing c = λ nothing.
    (let inv = c.loop-i.invariant in
    let within : c.loop-i.i < length (insns_of c.args.board.now.plan) = omega
    (arith, c.loop-i-test.true, inv.all, many_insns c.args.board.now.plan.insns) in
    let free : spot_at c.loop-i.board.spots c.loop-i.i ≡ None = grind
    (arith, c.spot_of.ensures, c.is_none.ensures, c.if-is_none.true) in
    absurd (board_found c.args.board.now c.loop-i.board c.loop-i.i inv.entries inv.filling inv.adds inv.known within
    free (rw c.in-Err-NoRoom.field-0-is at c.in-Err-NoRoom.ensures.fault).1 nothing))

pub loop-i-preserved : goal.loop-i-preserved
loop-i-preserved c =
    let inv = c.loop-i.invariant in
    let within : c.loop-i.i < length (insns_of c.args.board.now.plan) = omega
    (arith, c.loop-i-test.true, inv.all, many_insns c.args.board.now.plan.insns) in
    elim c.if-is_none.branch [
      | then-is_none+in-Ok w ↦
          let free : spot_at c.loop-i.board.spots c.loop-i.i ≡ None = grind
          (arith, c.spot_of.ensures, c.is_none.ensures, w.if-is_none.true) in
          let more = board_more c.args.board.now c.loop-i.board c.loop-i.i inv.entries inv.filling inv.adds inv.known
          within w.in-Ok.field-0 w.place.new.self free w.in-Ok.ensures.least w.in-Ok.ensures.placed in
          record {
            entries = inv.entries ++ Place c.loop-i.i w.in-Ok.field-0 Tail ∷ [];
            filling = rw w.board-is more.0;
            adds = rw w.board-is more.1;
            known = inv.known;
            all = inv.all;
          }
      | else-is_none w ↦
          let there : IsSome (spot_at c.loop-i.board.spots c.loop-i.i) =
          not_none (spot_at c.loop-i.board.spots c.loop-i.i)
          (grind (arith, c.spot_of.ensures, c.is_none.ensures, w.if-is_none.false)) in
          record {
            entries = inv.entries;
            filling = rw w.board-is
                (filling_skip (insns_of c.args.board.now.plan) c.args.board.now.spots c.loop-i.board.spots
                c.loop-i.i inv.entries there inv.filling);
            adds = rw w.board-is inv.adds;
            known = inv.known;
            all = inv.all;
          }
    ]

pub returns-clause-filled : goal.returns-clause-filled
returns-clause-filled c =
    let inv = c.loop-i.invariant in
    board_filled c.args.board.now c.loop-i.board c.loop-i.i inv.entries inv.filling inv.adds
    (omega (arith, c.loop-i-test.false, inv.all, many_insns c.args.board.now.plan.insns))
