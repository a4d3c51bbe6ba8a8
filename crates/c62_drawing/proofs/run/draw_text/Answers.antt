use Rattle.c62_drawing.proofs.run.draw_text.Goals as goal

pub returns-in-Sim : goal.returns-in-Sim
returns-in-Sim g c = rw c.in-Sim.is c.draw_standing.ensures
