use Rattle.std.proofs.Common.{rules, ◌≡◌, ◌+◌, ◌∙◌, ap, sym, ℕ, false}
use Rattle.std.specs.List.{list_any}
use Rattle.c62_packet.specs.Clash.{lands}
use Rattle.c62_packet.proofs.TakenLemmas.{not_met}
use Rattle.c62_packet.proofs.rules.is_met.Goals as goal

pub returns-then-not-meet : goal.returns-then-not-meet
returns-then-not-meet c =
    let p = c.args.placed.now in
    let write = c.args.write in
    let unmet : c.meet.result ≡ false = search rules in
    let none : list_any (lands write.0 (p.cycle + write.1)) c.args.others.now ≡ false
    = ap (λ (n : ℕ). list_any (lands write.0 (n + write.1)) c.args.others.now) c.requires.here
    ∙ sym (c.requires.taken.landings write.1 write.0 c.requires.near) ∙ sym c.meet.ensures ∙ unmet in
    sym (not_met c.args.all.now p c.args.others.now write none)
