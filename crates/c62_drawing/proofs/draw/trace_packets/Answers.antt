use Rattle.std.proofs.Common.{◌≡◌, ◌∙◌, [], ap, subst, sym}
use Rattle.std.specs.Prelude.{IfOk}
use Rattle.c62_packet.specs.Packets.{labels_of}
use Rattle.c62_trace.specs.declared.view.View.{View}
use Rattle.c62_trace.specs.Line.{trace_lines}
use Rattle.c62_drawing.proofs.draw.trace_packets.Goals as goal

pub returns-in-Ok-ran : goal.returns-in-Ok-ran
returns-in-Ok-ran g c =
    let told = c.in-Ok-ran.ensures.told in
    record {
      opening = c.in-Ok.opened.0.machine;
      begin = rw c.deref.ensures.value at c.in-Ok.ensures.0;
      chain = c.in-Ok-ran.field-0.0;
      cycles = c.in-Ok-ran.field-0.1;
      final = c.run_chain_traced-ran.new.state.machine;
      log = told.0;
      runs = told.1;
      gets = record {
        view = c.new-lines.result.view;
        shown = ap (λ (v : View). v.window) c.new-lines.ensures.view;
        named = ap (λ (v : View). v.names.items) c.new-lines.ensures.view
            ∙ subst (λ r. IfOk r (λ names. names.items ≡ labels_of c.args.packets.now)) (sym c.in-Ok.ensures.1)
            c.names_of_packets.ensures;
        from = ap (λ (v : View). v.base) c.new-lines.ensures.view ∙ c.base.ensures;
        told = c.end-stream.ensures (g.W.Write.contents c.args.stream) (trace_lines c.new-lines.result.view told.0)
            (told.2.1 (g.W.Write.contents c.args.stream) [] c.new-lines.ensures.written);
      };
    }
