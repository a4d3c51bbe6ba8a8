-- Cycles one by one, and the events of one cycle.
use Rattle.std.proofs.Common.{◌≡◌, ◌∙◌, ℕ, zero, suc, ◌+◌, ◌-◌, ◌<◌, ◌≤◌, List, [], ◌∷◌, ◌++◌, Option, fold}
use Rattle.std.proofs.Common.{map, length, refl, sym, ap, subst, arith, append-nil, append_assoc}
use Rattle.c62_pipe.specs.declared.slot.Due.{Due}
use Rattle.c62_trace.specs.declared.view.Window.{Window}
use Rattle.c62_trace.specs.Event.{Event, Entry, Landed, entries}
use Rattle.c62_trace.specs.Stream.{Sent, IsTold, IsWritten, WritesMore}
use Rattle.c62_trace.specs.Written.{writes_on, writes_pushed, written_told}
use Rattle.c62_wave.specs.Head.{head}
use Rattle.c62_wave.specs.declared.course.Course.{Course}
use Rattle.c62_wave.specs.Dump.{cycle_text}
use Rattle.c62_wave.specs.Wave.{a_cycle_later, cycles_later, cycles_text, course_at, text_before, with_told}
use Rattle.c62_wave.specs.Wave.{course_after, log_text, end_text, wave_of, BeginsWave, TellsWave}
use Rattle.c62_wave.specs.Waves.{wave_nothing}

-- ---- cycles

pub later_cycle : (more : ℕ) (course : Course) → (cycles_later more course).cycle ≡ more + course.cycle
unfolding cycles_later a_cycle_later
later_cycle zero course = omega arith
later_cycle (suc more) course =
    let next : (cycles_later more (a_cycle_later course)).cycle ≡ more + (course.cycle + 1) =
    later_cycle more (a_cycle_later course) in
    omega arith

pub at_cycle : (cycle : ℕ) (course : Course) → cycle ≤ (course_at cycle course).cycle
at_cycle cycle course =
    let at : (cycles_later (cycle - course.cycle) course).cycle ≡ (cycle - course.cycle) + course.cycle =
    later_cycle (cycle - course.cycle) course in
    omega arith

-- one of some cycles
pub text_step : (window : Window) (cycle : ℕ) (course : Course) → course.cycle < cycle
    → text_before window cycle course
    ≡ cycle_text window course.cycle course.before course.now ++ text_before window cycle (a_cycle_later course)
unfolding cycles_text a_cycle_later
text_step window cycle course early =
    let e : cycle - course.cycle ≡ suc (cycle - (course.cycle + 1)) = omega arith in
    ap (λ (n : ℕ). cycles_text window n course) e

pub course_step : (cycle : ℕ) (course : Course) → course.cycle < cycle
    → course_at cycle course ≡ course_at cycle (a_cycle_later course)
unfolding cycles_later a_cycle_later
course_step cycle course early =
    let e : cycle - course.cycle ≡ suc (cycle - (course.cycle + 1)) = omega arith in
    ap (λ (n : ℕ). cycles_later n course) e

-- none of them
pub text_none : (window : Window) (cycle : ℕ) (course : Course) → cycle ≤ course.cycle
    → text_before window cycle course ≡ []
unfolding cycles_text
text_none window cycle course late =
    let e : cycle - course.cycle ≡ 0 = omega arith in
    ap (λ (n : ℕ). cycles_text window n course) e

pub course_none : (cycle : ℕ) (course : Course) → cycle ≤ course.cycle → course_at cycle course ≡ course
unfolding cycles_later
course_none cycle course late =
    let e : cycle - course.cycle ≡ 0 = omega arith in
    ap (λ (n : ℕ). cycles_later n course) e

-- ---- events of a cycle that goes on

course_same : (cycle : ℕ) (events : List Event) (course : Course) → cycle ≤ course.cycle
    → course_after (entries cycle events) course ≡ fold with_told course events
unfolding course_after
course_same cycle [] course late = refl
course_same cycle (event ∷ events) course late =
    ap (λ (c : Course). course_after (entries cycle events) (with_told c event)) (course_none cycle course late)
    ∙ course_same cycle events (with_told course event) late

text_same : (window : Window) (cycle : ℕ) (events : List Event) (course : Course) → cycle ≤ course.cycle
    → log_text window (entries cycle events) course ≡ []
unfolding log_text
text_same window cycle [] course late = refl
text_same window cycle (event ∷ events) course late =
    ap (λ text. text ++ log_text window (entries cycle events) (with_told (course_at cycle course) event))
    (text_none window cycle course late)
    ∙ ap (λ (c : Course). log_text window (entries cycle events) (with_told c event)) (course_none cycle course late)
    ∙ text_same window cycle events (with_told course event) late

-- ---- of one that comes

pub course_entries : (cycle : ℕ) (event : Event) (events : List Event) (course : Course)
    → course_after (entries cycle (event ∷ events)) course ≡ fold with_told (course_at cycle course) (event ∷ events)
unfolding course_after
course_entries cycle event events course =
    course_same cycle events (with_told (course_at cycle course) event) (at_cycle cycle course)

pub text_entries : (window : Window) (cycle : ℕ) (event : Event) (events : List Event) (course : Course)
    → log_text window (entries cycle (event ∷ events)) course ≡ text_before window cycle course
unfolding log_text
text_entries window cycle event events course =
    ap (λ text. text_before window cycle course ++ text)
    (text_same window cycle events (with_told (course_at cycle course) event) (at_cycle cycle course))
    ∙ append-nil (text_before window cycle course)

-- ---- what a stream gets

-- a text waits, and then some of it is sent
pub pushed_on : (whole whole' : Sent) (stream stream' : Option (List ℕ)) (unsent unsent' unsent'' text : List ℕ)
    → unsent' ≡ unsent ++ text → WritesMore whole stream unsent' whole' stream' unsent'' []
    → WritesMore whole stream unsent whole' stream' unsent'' text
pushed_on whole whole' stream stream' unsent unsent' unsent'' text pushed sent =
    subst (WritesMore whole stream unsent whole' stream' unsent'') (append-nil text)
    (writes_on whole whole whole' stream stream stream' unsent unsent' unsent'' text []
    (writes_pushed whole stream unsent unsent' text pushed) sent)

-- events of a cycle are told
pub cycle_told : (cycle : ℕ) (event : Event) (events : List Event) (window window' : Window)
    (course mid course' : Course) (whole whole' : Sent) (stream stream' : Option (List ℕ)) (unsent unsent' : List ℕ)
    → window' ≡ window → mid ≡ course_at cycle course → course' ≡ fold with_told mid (event ∷ events)
    → WritesMore whole stream unsent whole' stream' unsent' (text_before window cycle course)
    → TellsWave (entries cycle (event ∷ events)) window course whole stream unsent
    window' course' whole' stream' unsent'
cycle_told cycle event events window window' course mid course' whole whole' stream stream' unsent unsent'
    same comes told writes =
    record {
      same_window = same;
      follows = told ∙ ap (λ (c : Course). fold with_told c (event ∷ events)) comes
          ∙ sym (course_entries cycle event events course);
      writes = subst (WritesMore whole stream unsent whole' stream' unsent')
          (sym (text_entries window cycle event events course)) writes;
    }

-- the dump ends
pub ends : (opening : Option (List ℕ)) (whole whole' whole'' : Sent) (stream stream' stream'' : Option (List ℕ))
    (unsent unsent' unsent'' unsent''' text more mark : List ℕ)
    → IsWritten opening whole stream unsent text → WritesMore whole stream unsent whole' stream' unsent' more
    → unsent'' ≡ unsent' ++ mark → WritesMore whole' stream' unsent'' whole'' stream'' unsent''' [] → unsent''' ≡ []
    → IsTold whole'' opening stream'' (text ++ (more ++ mark))
ends opening whole whole' whole'' stream stream' stream'' unsent unsent' unsent'' unsent''' text more mark
    is told marked sent none =
    subst (IsTold whole'' opening stream'') (append_assoc text more mark)
    (written_told opening whole' whole'' stream' stream'' unsent'' unsent''' ((text ++ more) ++ mark)
    (writes_pushed whole' stream' unsent' unsent'' mark marked opening (text ++ more) (told opening text is)) sent none)

-- writes that land are told, or none
pub landings_told : (cycle : ℕ) (writes : List Due) (window window' : Window) (course mid course' : Course)
    (whole whole' : Sent) (stream stream' : Option (List ℕ)) (unsent unsent' : List ℕ)
    → 0 < length writes → window' ≡ window → mid ≡ course_at cycle course
    → course' ≡ fold with_told mid (map Landed writes)
    → WritesMore whole stream unsent whole' stream' unsent' (text_before window cycle course)
    → TellsWave (entries cycle (map Landed writes)) window course whole stream unsent
    window' course' whole' stream' unsent'
landings_told cycle [] window window' course mid course' whole whole' stream stream' unsent unsent'
    some same comes told writes =
    absurd (omega arith)
landings_told cycle (write ∷ more) window window' course mid course' whole whole' stream stream' unsent unsent'
    some same comes told writes =
    cycle_told cycle (Landed write) (map Landed more) window window' course mid course' whole whole'
    stream stream' unsent unsent' same comes told writes

pub none_told : (cycle : ℕ) (writes : List Due) (window : Window) (course : Course) (whole : Sent)
    (stream : Option (List ℕ)) (unsent : List ℕ) → length writes ≡ 0
    → TellsWave (entries cycle (map Landed writes)) window course whole stream unsent window course whole stream unsent
none_told cycle [] window course whole stream unsent none = wave_nothing window course whole stream unsent
none_told cycle (write ∷ writes) window course whole stream unsent none = absurd (omega arith)

-- ---- a whole dump

-- what the stream has of a run that was watched from its beginning to its end
pub wave_whole : (opening : Option (List ℕ)) (window : Window) (base : ℕ) (registers : List ℕ) (log : List Entry)
    (cycles : ℕ) (window' window'' : Window) (course' course'' : Course) (whole whole' whole'' : Sent)
    (stream stream' stream'' : Option (List ℕ)) (unsent unsent' : List ℕ)
    → BeginsWave opening window base registers window' course' whole stream unsent
    → TellsWave log window' course' whole stream unsent window'' course'' whole' stream' unsent'
    → ((before : Option (List ℕ)) (text : List ℕ) → IsWritten before whole' stream' unsent' text
    → IsTold whole'' before stream'' (text ++ end_text window'' cycles course''))
    → IsTold whole'' opening stream'' (wave_of window base registers log cycles)
wave_whole opening window base registers log cycles window' window'' course' course'' whole whole' whole''
    stream stream' stream'' unsent unsent' begins tells ends =
    let is : IsTold whole'' opening stream''
    ((head ++ log_text window' log course') ++ end_text window'' cycles course'') =
    ends opening (head ++ log_text window' log course') (tells.writes opening head begins.has_head) in
    subst (IsTold whole'' opening stream'')
    (ap (λ (w : Window). (head ++ log_text window' log course') ++ end_text w cycles course'') tells.same_window
    ∙ ap (λ (w : Window). (head ++ log_text w log course') ++ end_text w cycles course'') begins.same_window
    ∙ ap (λ (c : Course). (head ++ log_text window log course') ++ end_text window cycles c) tells.follows
    ∙ ap (λ (c : Course). (head ++ log_text window log c) ++ end_text window cycles (course_after log c))
    begins.at_opening) is
