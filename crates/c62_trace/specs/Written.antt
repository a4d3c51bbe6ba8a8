-- What was written to a stream or waits for it, piece by piece.
use Rattle.std.proofs.Common.{◌≡◌, ◌∙◌, ℕ, List, [], ◌++◌, Option, refl, sym, ap, subst, append-nil, append_assoc}
use Rattle.std.proofs.lemmas.Grind.{flat_map-append}
use Rattle.c62_trace.specs.declared.view.View.{View}
use Rattle.c62_trace.specs.Event.{Entry}
use Rattle.c62_trace.specs.Line.{entry_lines, trace_lines}
use Rattle.c62_trace.specs.Stream.{Sent, IsTold, TellsMore, IsWritten, WritesMore}

pub writes_none : (whole : Sent) (stream : Option (List ℕ)) (unsent : List ℕ)
    → WritesMore whole stream unsent whole stream unsent []
writes_none whole stream unsent opening text is =
    subst (IsWritten opening whole stream unsent) (sym (append-nil text)) is

pub writes_on : (whole whole' whole'' : Sent) (stream stream' stream'' : Option (List ℕ))
    (unsent unsent' unsent'' text more : List ℕ)
    → WritesMore whole stream unsent whole' stream' unsent' text
    → WritesMore whole' stream' unsent' whole'' stream'' unsent'' more
    → WritesMore whole stream unsent whole'' stream'' unsent'' (text ++ more)
writes_on whole whole' whole'' stream stream' stream'' unsent unsent' unsent'' text more first second opening front is
    =
    subst (IsWritten opening whole'' stream'' unsent'') (append_assoc front text more)
    (second opening (front ++ text) (first opening front is))

-- more of it waits
pub writes_pushed : (whole : Sent) (stream : Option (List ℕ)) (unsent unsent' more : List ℕ) → unsent' ≡ unsent ++ more
    → WritesMore whole stream unsent whole stream unsent' more
writes_pushed whole stream unsent unsent' more e opening text is = (
  is.0,
  ap (λ bytes. is.0 ++ bytes) e ∙ sym (append_assoc is.0 unsent more) ∙ ap (λ bytes. bytes ++ more) is.1,
  is.2,
)

-- what waits is sent
pub writes_sent : (whole whole' : Sent) (stream stream' : Option (List ℕ)) (unsent unsent' : List ℕ)
    → TellsMore whole whole' stream stream' unsent → unsent' ≡ []
    → WritesMore whole stream unsent whole' stream' unsent' []
writes_sent whole whole' stream stream' unsent unsent' told none opening text is = (
  is.0 ++ unsent,
  ap (λ bytes. (is.0 ++ unsent) ++ bytes) none ∙ append-nil (is.0 ++ unsent) ∙ is.1 ∙ sym (append-nil text),
  told opening is.0 is.2,
)

-- of which some more is sent
pub writes_kept : (whole whole' whole'' : Sent) (stream stream' stream'' : Option (List ℕ))
    (unsent unsent' unsent'' text : List ℕ)
    → WritesMore whole stream unsent whole' stream' unsent' text
    → WritesMore whole' stream' unsent' whole'' stream'' unsent'' []
    → WritesMore whole stream unsent whole'' stream'' unsent'' text
writes_kept whole whole' whole'' stream stream' stream'' unsent unsent' unsent'' text first second =
    subst (WritesMore whole stream unsent whole'' stream'' unsent'') (append-nil text)
    (writes_on whole whole' whole'' stream stream' stream'' unsent unsent' unsent'' text [] first second)

-- all of it was sent
pub written_told : (opening : Option (List ℕ)) (whole whole' : Sent) (stream stream' : Option (List ℕ))
    (unsent unsent' text : List ℕ) → IsWritten opening whole stream unsent text
    → WritesMore whole stream unsent whole' stream' unsent' [] → unsent' ≡ [] → IsTold whole' opening stream' text
written_told opening whole whole' stream stream' unsent unsent' text is more none =
    let now : IsWritten opening whole' stream' unsent' (text ++ []) = more opening text is in
    subst (IsTold whole' opening stream')
    (sym (append-nil now.0) ∙ ap (λ bytes. now.0 ++ bytes) (sym none) ∙ now.1 ∙ append-nil text) now.2

-- the lines of some events, and of others behind them
pub told_on : (view view' view'' : View) (whole whole' whole'' : Sent) (stream stream' stream'' : Option (List ℕ))
    (unsent unsent' unsent'' : List ℕ) (told others : List Entry)
    → (view' ≡ view) × WritesMore whole stream unsent whole' stream' unsent' (trace_lines view told)
    → (view'' ≡ view') × WritesMore whole' stream' unsent' whole'' stream'' unsent'' (trace_lines view' others)
    → (view'' ≡ view) × WritesMore whole stream unsent whole'' stream'' unsent'' (trace_lines view (told ++ others))
told_on view view' view'' whole whole' whole'' stream stream' stream'' unsent unsent' unsent'' told others first second
    = (
      second.0 ∙ first.0,
      subst (WritesMore whole stream unsent whole'' stream'' unsent'')
          (sym (flat_map-append (entry_lines view) told others))
          (writes_on whole whole' whole'' stream stream' stream'' unsent unsent' unsent'' (trace_lines view told)
          (trace_lines view others) first.1
          (subst (λ (v : View). WritesMore whole' stream' unsent' whole'' stream'' unsent'' (trace_lines v others))
          first.0
          second.1)),
    )
