-- What is shown of registers, and what changes leave out.
use Rattle.std.proofs.Common.{◌≡◌, ◌∙◌, ℕ, zero, suc, ◌+◌, ◌<◌, Bool, true, false, cond, eqb, not, List, [], ◌∷◌}
use Rattle.std.proofs.Common.{◌++◌, map, length, get_or, set, refl, sym, ap, subst, arith}
use Rattle.std.proofs.lemmas.List.{length-append, length-set, length-map, get_or-set_other, get_or-set_same}
use Rattle.std.proofs.lemmas.Bool.{eqb-true, eqb-false, eq-eqb}
use Rattle.c62_op.specs.declared.register.Reg.{Reg}
use Rattle.c62_op.specs.Register.{register_index}
use Rattle.c62_serial.proofs.RegisterLemmas.{index_within}
use Rattle.c62_trace.specs.Event.{Event, Entry, Issued, Skipped, Stored, Landed}
use Rattle.c62_wave.specs.declared.value.Value.{Value}
use Rattle.c62_wave.specs.declared.value.Value.TheVariants.{Word, Idle, Unknown}
use Rattle.c62_wave.specs.declared.signals.Signals.{Signals}
use Rattle.c62_wave.specs.declared.course.Course.{Course}
use Rattle.c62_wave.specs.Value.{is_same}
use Rattle.c62_wave.specs.Signals.{put_on, started, stored, landed, next_cycle, with_event, in_packet}
use Rattle.c62_wave.specs.Dump.{value_line, change, changes}
use Rattle.c62_wave.specs.Wave.{a_cycle_later, cycles_later, course_at, with_told, course_after, opening_course}
use Rattle.c62_wave.specs.Laws.{word_after, last_word, ShowsRegister, LeavesOut}

-- ---- registers stay

later_registers : (more : ℕ) (course : Course) → (cycles_later more course).now.registers ≡ course.now.registers
unfolding cycles_later a_cycle_later next_cycle
later_registers zero course = refl
later_registers (suc more) course = later_registers more (a_cycle_later course)

started_registers : (delay : ℕ) (signals : Signals) → (started delay signals).registers ≡ signals.registers
unfolding started
started_registers delay signals = grind arith

packet_registers : (line : ℕ) (value : Value) (signals : Signals)
    → (in_packet line value signals).registers ≡ signals.registers
packet_registers line (Word word) signals = refl
packet_registers line Idle signals = refl
packet_registers line Unknown signals = refl

-- ---- one register

record Holds (index word : ℕ) (registers : List Value) : Type 0 where
  pub size : length registers ≡ 32
  pub shown : get_or registers index Unknown ≡ Word word

set_holds : (index word at new : ℕ) (registers : List Value) → at < 32 → Holds index word registers
    → Holds index (cond (eqb at index) new word) (set registers at (Word new))
set_holds index word at new registers within holds = record {
  size = length-set registers at (Word new) ∙ holds.size;
  shown = by_test (eqb at index) refl;
}
  where
    by_test : (b : Bool) → eqb at index ≡ b
        → get_or (set registers at (Word new)) index Unknown ≡ Word (cond b new word)
    by_test true e =
        let same : at ≡ index = eqb-true at index e in
        let inside : at < length registers = omega (arith, holds.size) in
        ap (λ (i : ℕ). get_or (set registers at (Word new)) i Unknown) (sym same)
        ∙ get_or-set_same registers at (Word new) Unknown inside
    by_test false e =
        get_or-set_other registers at index (Word new) Unknown (λ (f : index ≡ at). eqb-false at index e (sym f))
        ∙ holds.shown

event_holds : (reg : Reg) (word base : ℕ) (event : Event) (signals : Signals)
    → Holds (register_index reg) word signals.registers
    → Holds (register_index reg) (word_after reg word event) (with_event base signals event).registers
unfolding put_on stored landed
event_holds reg word base (Issued line unit insn reads access) signals holds = subst (Holds (register_index reg) word)
    (sym (started_registers _ (put_on line unit signals) ∙ packet_registers line signals.line signals)) holds
event_holds reg word base (Skipped line unit insn reads) signals holds = subst (Holds (register_index reg) word)
    (sym (packet_registers line signals.line signals)) holds
event_holds reg word base (Stored line place size value) signals holds = holds
event_holds reg word base (Landed write) signals holds =
    set_holds (register_index reg) word (register_index write.reg) write.word signals.registers
    (index_within write.reg) holds

log_holds : (reg : Reg) (word : ℕ) (log : List Entry) (course : Course)
    → Holds (register_index reg) word course.now.registers
    → Holds (register_index reg) (last_word reg word log) (course_after log course).now.registers
unfolding course_after
log_holds reg word [] course holds = holds
log_holds reg word (entry ∷ log) course holds =
    log_holds reg (word_after reg word entry.1) log (with_told (course_at entry.0 course) entry.1)
    (event_holds reg word (course_at entry.0 course).base entry.1 (course_at entry.0 course).now
    (subst (Holds (register_index reg) word) (sym (later_registers _ course)) holds))

get_map : (words : List ℕ) (index : ℕ) → index < length words
    → get_or (map Word words) index Unknown ≡ Word (get_or words index 0)
get_map [] index within = absurd (omega arith)
get_map (word ∷ words) zero within = refl
get_map (word ∷ words) (suc index) within = get_map words index (omega arith)

pub shows_register : (base : ℕ) (registers : List ℕ) (log : List Entry) (reg : Reg) → length registers ≡ 32
    → ShowsRegister base registers log reg
shows_register base registers log reg size =
    let below : register_index reg < 32 = index_within reg in
    let within : register_index reg < length registers = omega arith in
    (log_holds reg (get_or registers (register_index reg) 0) log (opening_course base registers)
    (record { size = simp length-map size; shown = get_map registers (register_index reg) within })).shown

-- ---- changes

same_value : (one other : Value) → is_same one other ≡ true → one ≡ other
same_value (Word one) (Word other) e = ap Word (eqb-true one other e)
same_value (Word one) Idle e = absurd (cc)
same_value (Word one) Unknown e = absurd (cc)
same_value Idle (Word other) e = absurd (cc)
same_value Idle Idle e = refl
same_value Idle Unknown e = absurd (cc)
same_value Unknown (Word other) e = absurd (cc)
same_value Unknown Idle e = absurd (cc)
same_value Unknown Unknown e = refl

value_same : (value : Value) → is_same value value ≡ true
value_same (Word word) = eq-eqb word word refl
value_same Idle = refl
value_same Unknown = refl

changes_none : (code : ℕ) (values : List Value) → changes false code values values ≡ []
unfolding change
changes_none code [] = refl
changes_none code (value ∷ values) =
    ap (λ (b : Bool). cond (not b) (value_line code value) [] ++ changes false (code + 1) values values)
    (value_same value)
    ∙ changes_none (code + 1) values

-- a line is no empty text
some_line : (code : ℕ) (value : Value) (more : List ℕ) → value_line code value ++ more ≡ [] → ⊥
some_line code value more none = absurd (omega (arith, simp length-append at (ap length none)))

changes_some : (code : ℕ) (before now : List Value) → length before ≡ length now → changes false code before now ≡ []
    → before ≡ now
unfolding change
changes_some code [] [] same none = refl
changes_some code [] (is ∷ now) same none = absurd (omega arith)
changes_some code (was ∷ before) [] same none = absurd (omega arith)
changes_some code (was ∷ before) (is ∷ now) same none =
    by_test (λ rest. changes_some (code + 1) before now (omega arith) rest) (is_same was is) refl none
  where
    by_test : (changes false (code + 1) before now ≡ [] → before ≡ now) → (b : Bool) → is_same was is ≡ b
        → cond (not b) (value_line code is) [] ++ changes false (code + 1) before now ≡ [] → was ∷ before ≡ is ∷ now
    by_test others true e rest =
        ap (λ (v : Value). v ∷ before) (same_value was is e) ∙ ap (λ (vs : List Value). is ∷ vs) (others rest)
    by_test others false e rest = absurd (some_line code is (changes false (code + 1) before now) rest)

pub leaves_out : (code : ℕ) (before now : List Value) → length before ≡ length now → LeavesOut code before now
leaves_out code before now same = (
  changes_some code before now same,
  λ (e : before ≡ now). ap (λ (vs : List Value). changes false code vs now) e ∙ changes_none code now,
)
