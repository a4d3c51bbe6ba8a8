use Rattle.std.proofs.Common.{arith, ◌≡◌, length}
use Rattle.std.specs.Prelude.{slice_set}
use Rattle.std.proofs.lemmas.List.{length-set}
use Rattle.c62_depend.specs.Plan.{insns_of}
use Rattle.c62_depend.proofs.Plans.{many_insns}
use Rattle.c62_refute.proofs.Holding.{edge_before, edge_within, window_at, keep_edge_by}
use Rattle.c62_refute.proofs.shrink.keep_edge.Goals as goal

pub slice_copy_out-earlier : goal.slice_copy_out-earlier
slice_copy_out-earlier c =
    let before = edge_before (insns_of c.args.plan.now) c.args.edge c.requires.edge in
    let within = edge_within (insns_of c.args.plan.now) c.args.edge c.requires.edge in
    omega (arith, before, within, many_insns c.args.plan.now.insns, c.requires.sized, c.from-from.ensures)

pub slice_copy_out-later : goal.slice_copy_out-later
slice_copy_out-later c =
    let within = edge_within (insns_of c.args.plan.now) c.args.edge c.requires.edge in
    omega (arith, within, many_insns c.args.plan.now.insns, c.requires.sized, c.from-to.ensures)

pub bounds-windows-from : goal.bounds-windows-from
bounds-windows-from c =
    let before = edge_before (insns_of c.args.plan.now) c.args.edge c.requires.edge in
    let within = edge_within (insns_of c.args.plan.now) c.args.edge c.requires.edge in
    omega (arith, before, within, many_insns c.args.plan.now.insns, c.requires.sized, c.from-from.ensures)

pub bounds-windows-to : goal.bounds-windows-to
bounds-windows-to c =
    let within = edge_within (insns_of c.args.plan.now) c.args.edge c.requires.edge in
    let long : length (slice_set c.args.windows.now c.from-from.result c.before-2.result) ≡ length c.args.windows.now
    = length-set c.args.windows.now c.from-from.result c.before-2.result in
    omega (arith, within, many_insns c.args.plan.now.insns, c.requires.sized, c.from-to.ensures, long)

pub returns-clause-keeps : goal.returns-clause-keeps
returns-clause-keeps c =
    let block = insns_of c.args.plan.now in
    let edge = c.args.edge in
    let before = edge_before block edge c.requires.edge in
    let within = edge_within block edge c.requires.edge in
    let sized : length c.args.windows.now ≡ length block = omega
    (arith, c.requires.sized, many_insns c.args.plan.now.insns) in
    rw (c.from-from.ensures, c.from-to.ensures)
    (keep_edge_by block c.args.windows.now edge _ _ c.before-2.result c.behind.result c.requires.edge sized
    (window_at c.args.windows.now edge.from (omega (arith, before, within, sized)))
    (window_at c.args.windows.now edge.link.number (omega (arith, within, sized)))
    (rw (c.from-from.ensures, c.from-to.ensures) at c.before-2.ensures)
    (rw (c.from-from.ensures, c.from-to.ensures) at c.behind.ensures))
