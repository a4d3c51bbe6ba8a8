use Rattle.std.proofs.Common.{arith, [], ◌∷◌, refl, ap}
use Rattle.c62_depend.specs.Plan.{insns_of}
use Rattle.c62_sheet.specs.Lawful.{Placements}
use Rattle.c62_sheet.specs.Journal.{PermitsPlace}
use Rattle.c62_sheet.specs.declared.entry.Entry.TheVariants.{Place}
use Rattle.c62_board.specs.State.{IsReadyNow, IsLeastNow}
use Rattle.c62_board.specs.View.{state_of}
use Rattle.c62_board.proofs.Journals.{sound_after}
use Rattle.c62_board.proofs.board.Board.put.Goals as goal

pub invariant_of-self : goal.invariant_of-self
invariant_of-self c =
    let b = c.self.inside in
    let ready : IsReadyNow (state_of b) c.args.i = rw (← c.self.view_is) at c.requires.ready in
    let least : IsLeastNow (state_of b) c.args.i c.args.spot = rw (← c.self.view_is) at c.requires.least in
    let may : PermitsPlace (insns_of b.sheet.plan) b.sheet.spots c.args.i c.args.spot = record
    { within = ready.within; ready = ready.ready; least = least } in
    sound_after (state_of b) _ (Place c.args.i c.args.spot c.args.who ∷ []) c.self.invariant
    (may, tt)
    (record {
      plan = ap (λ (p : Placements). p.plan) c.put.ensures;
      spots = ap (λ (p : Placements). p.spots) c.put.ensures;
      journal = c.in-Ok.ensures.items;
      budget = refl;
      room = omega (arith, c.in-Ok.ensures.len, c.in-Ok.ensures.capacity);
    })
