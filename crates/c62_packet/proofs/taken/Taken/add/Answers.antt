use Rattle.std.proofs.Common.{ℕ, ◌<◌, ◌∙◌, List, refl, subst, sym}
use Rattle.std.specs.Prelude.{All}
use Rattle.c62_op.specs.declared.register.Reg.{Reg}
use Rattle.c62_packet.specs.Landed.{AreLandingsMore}
use Rattle.c62_packet.proofs.TakenLemmas.{writes_near, taken-more}
use Rattle.c62_packet.proofs.taken.Taken.add.Goals as goal

pub add_all-requires : goal.add_all-requires
add_all-requires c =
    subst (λ (writes : List (Reg × ℕ)). All (λ (write : Reg × ℕ). write.1 < 5) writes) (sym (c.as_slice.ensures.value
    ∙ c.writes.ensures))
    (writes_near c.args.placed.now.insn)

pub returns-clause-taken : goal.returns-clause-taken
returns-clause-taken c = λ rest.
    let old = c.args.self.now in
    taken-more old _ c.args.uses.now c.args.placed.now rest c.requires.here refl c.requires.uses c.add.ensures
    (subst (AreLandingsMore old.landings.cycles c.add_all.new.self.cycles) (c.as_slice.ensures.value
    ∙ c.writes.ensures) c.add_all.ensures)
