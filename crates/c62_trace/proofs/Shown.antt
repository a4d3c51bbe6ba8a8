-- The lines of the events of a cycle.
use Rattle.std.proofs.Common.{◌≡◌, ◌∙◌, ℕ, Bool, true, false, List, [], ◌∷◌, ◌++◌, map, Option, refl, sym, ap}
use Rattle.std.proofs.Common.{append_assoc, cond}
use Rattle.std.specs.List.{flat_map}
use Rattle.std.proofs.lemmas.Bool.{cond-true, cond-false}
use Rattle.c62_op.specs.declared.register.Reg.{Reg}
use Rattle.c62_insn.specs.declared.effect.Access.{Access as MemoryAccess}
use Rattle.c62_serial.specs.Effect.{Act, runs}
use Rattle.c62_packet.specs.declared.placed.Placed.{Placed}
use Rattle.c62_pipe.specs.declared.slot.Due.{Due}
use Rattle.c62_trace.specs.declared.view.View.{View}
use Rattle.c62_trace.specs.Event.{Event, Landed, entries, issue_of, stored_by, events_of}
use Rattle.c62_trace.specs.Line.{is_in, line_in, landed_text, event_line, event_text, entry_lines, trace_lines}

-- in a cycle that is seen each has its line
pub lines_seen : (view : View) (cycle : ℕ) (events : List Event) → is_in view.window cycle ≡ true
    → trace_lines view (entries cycle events) ≡ flat_map (event_line view cycle) events
unfolding entry_lines
lines_seen view cycle [] seen = refl
lines_seen view cycle (event ∷ events) seen =
    ap (λ lines. lines ++ trace_lines view (entries cycle events))
    (cond-true (is_in view.window cycle) (event_line view cycle event) [] seen)
    ∙ ap (λ rest. event_line view cycle event ++ rest) (lines_seen view cycle events seen)

-- in others none has one
pub lines_unseen : (view : View) (cycle : ℕ) (events : List Event) → is_in view.window cycle ≡ false
    → trace_lines view (entries cycle events) ≡ []
unfolding entry_lines
lines_unseen view cycle [] unseen = refl
lines_unseen view cycle (event ∷ events) unseen =
    ap (λ lines. lines ++ trace_lines view (entries cycle events))
    (cond-false (is_in view.window cycle) (event_line view cycle event) [] unseen)
    ∙ lines_unseen view cycle events unseen

-- those of landings
pub landed_all : (view : View) (cycle : ℕ) (writes : List Due)
    → flat_map (event_line view cycle) (map Landed writes)
    ≡ flat_map (λ (write : Due). line_in cycle (landed_text cycle write)) writes
unfolding event_text
landed_all view cycle [] = refl
landed_all view cycle (write ∷ writes) =
    ap (λ rest. line_in cycle (landed_text cycle write) ++ rest) (landed_all view cycle writes)

pub landed_lines : (view : View) (cycle : ℕ) (writes : List Due) (old new : List ℕ) → is_in view.window cycle ≡ true
    → new ≡ old ++ flat_map (λ (write : Due). line_in cycle (landed_text cycle write)) writes
    → new ≡ old ++ trace_lines view (entries cycle (map Landed writes))
landed_lines view cycle writes old new seen e =
    e ∙ ap (λ lines. old ++ lines) (sym (landed_all view cycle writes) ∙ sym
    (lines_seen view cycle (map Landed writes) seen))

-- those of an instruction
pub insn_lines : (view : View) (cycle : ℕ) (word : Reg → ℕ) (act : Act) (p : Placed) (running : Bool)
    (access : Option MemoryAccess) (old mid new : List ℕ)
    → is_in view.window cycle ≡ true → running ≡ runs word p.insn → access ≡ act.access
    → mid ≡ old ++ event_line view cycle (issue_of word p running access)
    → new ≡ mid ++ flat_map (event_line view cycle) (stored_by p.line access)
    → new ≡ old ++ trace_lines view (entries cycle (events_of word act p))
insn_lines view cycle word act p running access old mid new seen r a e f =
    f
    ∙ ap (λ bytes. bytes ++ flat_map (event_line view cycle) (stored_by p.line access)) e
    ∙ append_assoc old _ _
    ∙ ap (λ (b : Bool). old ++ (event_line view cycle (issue_of word p b access)
    ++ flat_map (event_line view cycle) (stored_by p.line access))) r
    ∙ ap (λ (o : Option MemoryAccess). old ++ (event_line view cycle (issue_of word p (runs word p.insn) o)
    ++ flat_map (event_line view cycle) (stored_by p.line o))) a
    ∙ ap (λ lines. old ++ lines) (sym (lines_seen view cycle (events_of word act p) seen))
