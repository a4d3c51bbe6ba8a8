use Rattle.c62_serial.proofs.MachineLemmas.{sound_act, sound_run}
use Rattle.c62_serial.proofs.laws.keeps_machines_sound.Goals as goal

pub returns : goal.returns
returns c = record { act = sound_act; run = sound_run }
