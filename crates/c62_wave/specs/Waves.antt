-- That a log is told piece by piece.
use Rattle.std.proofs.Common.{◌≡◌, ◌∙◌, ℕ, List, [], ◌∷◌, ◌++◌, Option, refl, sym, ap, subst, append_assoc}
use Rattle.c62_trace.specs.declared.view.Window.{Window}
use Rattle.c62_trace.specs.Event.{Entry}
use Rattle.c62_trace.specs.Stream.{Sent, WritesMore}
use Rattle.c62_trace.specs.Written.{writes_none, writes_on}
use Rattle.c62_wave.specs.declared.course.Course.{Course}
use Rattle.c62_wave.specs.Wave.{course_at, with_told, text_before, course_after, log_text, TellsWave}

pub course_append : (told others : List Entry) (course : Course)
    → course_after (told ++ others) course ≡ course_after others (course_after told course)
unfolding course_after
course_append [] others course = refl
course_append (entry ∷ told) others course = course_append told others (with_told (course_at entry.0 course) entry.1)

pub text_append : (window : Window) (told others : List Entry) (course : Course)
    → log_text window (told ++ others) course ≡ log_text window told course ++ log_text window others (course_after told course)
unfolding course_after log_text
text_append window [] others course = refl
text_append window (entry ∷ told) others course =
    ap (λ text. text_before window entry.0 course ++ text)
    (text_append window told others (with_told (course_at entry.0 course) entry.1))
    ∙ sym (append_assoc (text_before window entry.0 course) _ _)

pub wave_nothing : (window : Window) (course : Course) (whole : Sent) (stream : Option (List ℕ)) (unsent : List ℕ)
    → TellsWave [] window course whole stream unsent window course whole stream unsent
unfolding course_after log_text
wave_nothing window course whole stream unsent =
    record { same_window = refl; follows = refl; writes = writes_none whole stream unsent }

pub wave_more : (told others : List Entry) (window window' window'' : Window) (course course' course'' : Course)
    (whole whole' whole'' : Sent) (stream stream' stream'' : Option (List ℕ)) (unsent unsent' unsent'' : List ℕ)
    → TellsWave told window course whole stream unsent window' course' whole' stream' unsent'
    → TellsWave others window' course' whole' stream' unsent' window'' course'' whole'' stream'' unsent''
    → TellsWave (told ++ others) window course whole stream unsent window'' course'' whole'' stream'' unsent''
wave_more told others window window' window'' course course' course'' whole whole' whole'' stream stream' stream''
    unsent unsent' unsent'' first second =
    let text : log_text window told course ++ log_text window' others course' ≡ log_text window (told ++ others) course =
    ap (λ (w : Window). log_text window told course ++ log_text w others course') first.same_window
    ∙ ap (λ (c : Course). log_text window told course ++ log_text window others c) first.follows
    ∙ sym (text_append window told others course) in
    record {
      same_window = second.same_window ∙ first.same_window;
      follows = second.follows ∙ ap (λ (c : Course). course_after others c) first.follows ∙ sym (course_append told others course);
      writes = subst (WritesMore whole stream unsent whole'' stream'' unsent'') text
          (writes_on whole whole' whole'' stream stream' stream'' unsent unsent' unsent'' (log_text window told course)
          (log_text window' others course') first.writes second.writes);
    }
