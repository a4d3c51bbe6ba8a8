use Rattle.std.proofs.Common.{◌≡◌, ◌∙◌, [], ap, subst, sym}
use Rattle.std.specs.Prelude.{IfOk, map}
use Rattle.c62_trace.specs.declared.view.View.{View}
use Rattle.c62_trace.specs.Line.{trace_lines}
use Rattle.c62_traced.specs.Names.{name_at}
use Rattle.c62_drawing.proofs.draw.trace_flight.Goals as goal

pub returns-in-Ok-flown : goal.returns-in-Ok-flown
returns-in-Ok-flown g c =
    let told = c.in-Ok-flown.ensures.told in
    record {
      opening = c.in-Ok.opened.0.machine;
      begin = rw c.deref.ensures.value at c.in-Ok.ensures.0;
      stop = c.in-Ok-flown.field-0.stop;
      cycles = c.in-Ok-flown.field-0.cycles;
      final = c.fly_traced-flown.new.state.machine;
      log = told.0;
      runs = told.1;
      gets = record {
        view = c.new-lines.result.view;
        shown = ap (λ (v : View). v.window) c.new-lines.ensures.view;
        named = ap (λ (v : View). v.names.items) c.new-lines.ensures.view
            ∙ subst (λ r. IfOk r (λ names. names.items ≡ map (name_at c.args.begun.now.labels.entries)
            c.args.begun.now.rows.aims.items)) (sym c.in-Ok.ensures.1) c.names_of_rows-names.ensures;
        from = ap (λ (v : View). v.base) c.new-lines.ensures.view ∙ c.base.ensures;
        told = c.end-stream.ensures (g.W.Write.contents c.args.stream) (trace_lines c.new-lines.result.view told.0)
            (told.2.1 (g.W.Write.contents c.args.stream) [] c.new-lines.ensures.written);
      };
    }
