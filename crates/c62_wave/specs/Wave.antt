-- The waveform of a run, event by event (docs/WAVE.md).
use Rattle.std.specs.Prelude.{◌≡◌, ℕ, zero, suc, ◌+◌, ◌-◌, IsOk, List, [], ◌∷◌, ◌++◌, Option}
use Rattle.c62_trace.specs.declared.view.Window.{Window}
use Rattle.c62_trace.specs.Event.{Event, Entry}
use Rattle.c62_trace.specs.Stream.{Sent, IsWritten, WritesMore}
use Rattle.c62_wave.specs.declared.course.Course.{Course}
use Rattle.c62_wave.specs.Signals.{opening_signals, with_event, next_cycle}
use Rattle.c62_wave.specs.Head.{head}
use Rattle.c62_wave.specs.Dump.{cycle_text, last_mark}

-- before the first cycle of a run, where memory begins at a base and registers have these words
abbrev pub opening_course : (base : ℕ) → List ℕ → Course
opening_course base registers =
    record { base = base; cycle = 0; before = opening_signals registers; now = opening_signals registers }

-- its cycle ends, and the next begins
unfoldable pub a_cycle_later : Course → Course
a_cycle_later course =
    record { base = course.base; cycle = course.cycle + 1; before = course.now; now = next_cycle course.now }

-- so many of them
unfoldable pub cycles_later : ℕ → Course → Course
cycles_later zero course = course
cycles_later (suc more) course = cycles_later more (a_cycle_later course)

unfoldable pub cycles_text : Window → ℕ → Course → List ℕ
cycles_text window zero course = []
cycles_text window (suc more) course =
    cycle_text window course.cycle course.before course.now ++ cycles_text window more (a_cycle_later course)

-- all before this cycle end
abbrev pub course_at : ℕ → Course → Course
course_at cycle course = cycles_later (cycle - course.cycle) course

abbrev pub text_before : Window → ℕ → Course → List ℕ
text_before window cycle course = cycles_text window (cycle - course.cycle) course

-- an event of the cycle
abbrev pub with_told : Course → Event → Course
with_told course event = record course { now = with_event course.base course.now event }

-- the events of a log, each in its cycle
unfoldable pub course_after : List Entry → Course → Course
course_after [] course = course
course_after (entry ∷ log) course = course_after log (with_told (course_at entry.0 course) entry.1)

unfoldable pub log_text : Window → List Entry → Course → List ℕ
log_text window [] course = []
log_text window (entry ∷ log) course =
    text_before window entry.0 course ++ log_text window log (with_told (course_at entry.0 course) entry.1)

-- what stands behind them in a dump of so many cycles
abbrev pub end_text : Window → (cycles : ℕ) → Course → List ℕ
end_text window cycles course = text_before window cycles course ++ last_mark window (course_at cycles course).cycle

-- the dump of a run of so many cycles, with these events
abbrev pub wave_of : Window → (base : ℕ) → (registers : List ℕ) → List Entry → (cycles : ℕ) → List ℕ
wave_of window base registers log cycles =
    head ++ log_text window log (opening_course base registers)
    ++ end_text window cycles (course_after log (opening_course base registers))

-- ---- of a stream

-- nothing of a run was told yet, and the stream, which refused nothing, has the head of its dump, or waits for it
pub record BeginsWave (opening : Option (List ℕ)) (window : Window) (base : ℕ) (registers : List ℕ)
    (window' : Window) (course' : Course) (whole' : Sent) (stream' : Option (List ℕ)) (unsent' : List ℕ) : Type 0 where
  pub same_window : window' ≡ window
  pub at_opening : course' ≡ opening_course base registers
  pub begins_whole : IsOk whole'
  pub has_head : IsWritten opening whole' stream' unsent' head

-- this log was told, and its text was written
pub record TellsWave (log : List Entry) (window : Window) (course : Course) (whole : Sent) (stream : Option (List ℕ)) (unsent : List ℕ)
    (window' : Window) (course' : Course) (whole' : Sent) (stream' : Option (List ℕ)) (unsent' : List ℕ) : Type 0 where
  pub same_window : window' ≡ window
  pub follows : course' ≡ course_after log course
  pub writes : WritesMore whole stream unsent whole' stream' unsent' (log_text window log course)
