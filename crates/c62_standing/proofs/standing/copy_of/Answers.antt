use Rattle.std.proofs.Common.{◌∙◌}
use Rattle.c62_standing.proofs.Stands.{same_block, sound_again}
use Rattle.c62_standing.proofs.standing.copy_of.Goals as goal

pub of_lawful-requires : goal.of_lawful-requires
of_lawful-requires c =
    rw (
      c.copied.ensures ∙ c.label.ensures,
      c.in_ok-placed.ensures.items
          ∙ c.placed.ensures.same,
    ) (sound_again c.args.packets.now c.placed.ensures.sound)

pub returns : goal.returns
returns c =
    c.of_lawful.ensures
    ∙ rw (
      c.copied.ensures ∙ c.label.ensures,
      c.in_ok-placed.ensures.items
          ∙ c.placed.ensures.same,
    ) (same_block c.args.packets.now c.placed.ensures.sound)
