-- What is told where a run in flight is asked for.
use Rattle.std.proofs.Common.{◌≡◌, Bool, true, ℕ, List, Option, Some}
use Rattle.clap.specs.Words.{Text}
use Rattle.c62_command.specs.declared.setting.Setting.{Setting}
use Rattle.c62_command.specs.declared.flight.FlightCourse.{FlightCourse}
use Rattle.c62_command.specs.CommandLine.{flight_asked}
use Rattle.c62_teach.specs.Faulted.{TellsFaults, TellsTaken}
use Rattle.c62_op.specs.declared.set.InstructionSet.{InstructionSet}

pub taken_asked : (isa : InstructionSet) (alone : Bool) (named : Option Text) (name : Text) (settings : List Setting)
    (course : FlightCourse)
    (text more : List ℕ)
    → alone ≡ true → named ≡ Some name → course.strict ≡ true
    → TellsTaken isa name (Some name) settings course text more
    → TellsFaults isa (flight_asked alone course named settings) text more
taken_asked isa alone named name settings course text more one is strict tells = rw (one, is, strict) tells
