use Rattle.std.proofs.Common.{◌≡◌, ℕ, List, Some, refl, subst}
use Rattle.c62_packet.specs.declared.placed.Placed.{Placed}
use Rattle.c62_depend.specs.Plan.{insns_of}
use Rattle.c62_show.specs.declared.limits.Limits.{Limits}
use Rattle.c62_show.specs.declared.shown.Shown.{Shown}
use Rattle.c62_why.specs.Why.{TellsWhys, critical_from}
use Rattle.c62_standing.proofs.Stands.{none_shorter}
use Rattle.c62_standing.proofs.standing.shown_of.Goals as goal

pub returns : goal.returns
returns c =
    let limits : Limits = c.in_ok-limits.limits in
    let shown : Shown = record {
      limits = Some limits;
      packets = c.args.packets;
      critical = c.in_ok-critical.critical;
      whys = c.in_ok-whys.whys;
      lives = c.in_ok-lives.lives;
    } in
    let block = insns_of c.args.one.now.plan in
    let placed = c.args.one.now.placed.items in
    let why = c.args.details.why in
    let whys = c.in_ok-whys.whys.items in
    let lines = c.in_ok-critical.critical.items in
    record {
      packets = refl;
      told = record {
        block = c.args.one.now.plan;
        placed = c.args.one.now.placed.items;
        unpacked = c.requires;
        known = c.in_ok-limits.ensures;
        whys =
            subst (λ (cycles : ℕ). TellsWhys why block cycles placed whys) c.length-cycles.ensures.same
            (subst (λ (all : List Placed). TellsWhys why block c.length-cycles.result all whys) c.deref.ensures.value
            c.in_ok-whys.ensures);
        critical =
            subst (λ (cycles : ℕ). lines ≡ critical_from block cycles 0 placed) c.length-cycles.ensures.same
            (subst (λ (all : List Placed). lines ≡ critical_from block c.length-cycles.result 0 all)
            c.deref-2.ensures.value c.in_ok-critical.ensures);
        bounded = none_shorter c.args.one.now.plan shown limits refl c.length-cycles.ensures.sound c.in_ok-limits.ensures.are
            c.len-all.ensures.sound;
      };
      lives = c.in_ok-lives.ensures;
    }
