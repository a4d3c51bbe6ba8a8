-- A counted loop, its packets, and what stands where, as the code has them.
use Rattle.std.specs.Prelude.{map}
use Rattle.c62_rows.specs.Rows.{text_of}
use Rattle.c62_loop.specs.Loop.{Region, Pipelined}
use Rattle.c62_loop.specs.Stage.{Stage, Schedule}
use Rattle.c62_loop.specs.Whole.{Control}
use Rattle.c62_loop_match.specs.declared.parts.Region.{Region as RegionRead}
use Rattle.c62_loop_match.specs.declared.parts.Pipelined.{Pipelined as PipelinedRead}
use Rattle.c62_loop_match.specs.declared.parts.Stage.{Stage as StageRead}
use Rattle.c62_loop_match.specs.declared.parts.Schedule.{Schedule as ScheduleRead}
use Rattle.c62_loop_match.specs.declared.parts.Control.{Control as ControlRead}

abbrev pub region_of : RegionRead → Region
region_of region = record {
  before = region.before.items;
  body = region.body.items;
  behind = region.behind.items;
  counter = region.counter;
  number = region.number;
}

abbrev pub loop_of : PipelinedRead → Pipelined
loop_of loop = record {
  text = text_of loop.rows;
  first = loop.first;
  prolog = loop.prolog;
  kernel = loop.kernel;
  epilog = loop.epilog;
  label = loop.label;
}

abbrev pub stage_of : StageRead → Stage
stage_of stage = record { early = stage.early.items; kernel = stage.kernel; late = stage.late.items }

abbrev pub schedule_of : ScheduleRead → Schedule
schedule_of schedule = record {
  before = schedule.before.items;
  stages = map stage_of schedule.stages.items;
  behind = schedule.behind.items;
  interval = schedule.interval;
}

abbrev pub control_of : ControlRead → Control
control_of control = record { early = control.early.items; kernel = control.kernel.items }
