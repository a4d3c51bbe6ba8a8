use Rattle.std.proofs.Common.{◌≡◌, ◌++◌, ◌-◌, ℕ, List, ap, sym, ◌∙◌, append_assoc, arith}
use Rattle.std.specs.Prelude.{codes, string_bytes}
use Rattle.std.proofs.lemmas.Result.{IfOk-equal}
use Rattle.c62_listing.specs.Listing.{name_in, idle_lines, whole_line, placed_lines, text_of}
use Rattle.c62_listing.proofs.TextLemmas.{beside_text, first_text}
use Rattle.c62_listing.proofs.writer.push_placed.Goals as goal

pub returns-then-cycle-next : goal.returns-then-cycle-next
returns-then-cycle-next c =
    let name = name_in c.args.blocks.now in
    let p = c.args.placed.now in
    let old = string_bytes c.args.out.now in
    let same = beside_text name c.args.next p (omega (arith, c.from-cycle.ensures, c.if-cycle-next.true)) in
    IfOk-equal c.push_line.result (string_bytes c.push_line.new.out) (old ++ whole_line name (codes "|| ") p)
    (old ++ text_of (placed_lines name c.args.next p)) c.push_line.ensures
    (ap (λ (text : List ℕ). old ++ text) (sym same))

pub returns-in_ok-push_idle : goal.returns-in_ok-push_idle
returns-in_ok-push_idle c =
    let name = name_in c.args.blocks.now in
    let p = c.args.placed.now in
    let old = string_bytes c.args.out.now in
    let idle = text_of (idle_lines (p.cycle - c.args.next)) in
    let line = whole_line name (codes "   ") p in
    let cycle : c.from-cycle.result - c.args.next ≡ p.cycle - c.args.next = ap (λ (n : ℕ). n - c.args.next)
    c.from-cycle.ensures in
    let so_far : string_bytes c.push_idle.new.out ≡ old ++ idle
    = c.in_ok-push_idle.ensures ∙ ap (λ (n : ℕ). old ++ text_of (idle_lines n)) cycle in
    let same = first_text name c.args.next p (omega (arith, c.from-cycle.ensures, c.if-cycle-next.false)) in
    IfOk-equal c.push_line-else-cycle-next.result (string_bytes c.push_line-else-cycle-next.new.out)
    (string_bytes c.push_idle.new.out ++ line)
    (old ++ text_of (placed_lines name c.args.next p)) c.push_line-else-cycle-next.ensures
    (ap (λ (start : List ℕ). start ++ line) so_far ∙ append_assoc old idle line
    ∙ ap (λ (text : List ℕ). old ++ text) (sym same))
