-- What the events of a cycle depend on.
use Rattle.std.proofs.Common.{◌≡◌, ◌∙◌, ℕ, ◌+◌, ◌<◌, ◌≤◌, Bool, true, false, cond, eqb, List, [], ◌∷◌, ◌++◌, map}
use Rattle.std.proofs.Common.{Option, Some, None, refl, sym, ap, inl, inr, arith}
use Rattle.std.specs.Prelude.{filter, option_map}
use Rattle.std.specs.List.{flat_map}
use Rattle.std.proofs.lemmas.Bool.{cond-true, cond-false, eq-eqb, ne_eqb}
use Rattle.std.proofs.lemmas.List.{append-nil}
use Rattle.std.proofs.lemmas.Grind.{flat_map-append}
use Rattle.c62_op.specs.declared.register.Reg.{Reg}
use Rattle.c62_op.specs.declared.register.Cond.{Cond as Condition}
use Rattle.c62_insn.specs.Insn.{cond_of, operand_reads}
use Rattle.c62_insn.specs.Effect.{runs_of}
use Rattle.c62_serial.specs.State.{Machine, index_of, word_in}
use Rattle.c62_serial.specs.Effect.{Act, runs}
use Rattle.c62_packet.specs.declared.placed.Placed.{Placed}
use Rattle.c62_meaning.specs.Landing.{Landing, latest, value_or}
use Rattle.c62_meaning.specs.Packet.{Did, register_landings, word_before}
use Rattle.c62_meaning.proofs.Lookup.{In, from_In-flat_map, latest-append, latest-late}
use Rattle.c62_meaning.proofs.Landings.{from_In-writes}
use Rattle.c62_meaning.proofs.Runs.{same_words}
use Rattle.c62_pipe.specs.declared.slot.Due.{Due}
use Rattle.c62_pipe.specs.Flight.{made_by}
use Rattle.c62_pipe.proofs.Slots.{due_of, due_in, due_none}
use Rattle.c62_trace.specs.Event.{Event, Issued, Skipped, Landed, tested, with_words, issue_of, stored_by, events_of}
use Rattle.c62_trace.specs.Event.{landings_of, landings, issued_in, events_in}

-- ---- lists

pub flat_same : {X : Type 0} (f g : Placed → List X) (ps : List Placed) → ((p : Placed) → In p ps → f p ≡ g p)
    → flat_map f ps ≡ flat_map g ps
flat_same f g [] h = refl
flat_same f g (p ∷ ps) h = ap (λ xs. xs ++ flat_map f ps) (h p (inl refl))
    ∙ ap (λ xs. g p ++ xs) (flat_same f g ps (λ q k. h q (inr k)))

pub flat_none : {X : Type 0} (f : Placed → List X) (ps : List Placed) → ((p : Placed) → In p ps → f p ≡ [])
    → flat_map f ps ≡ []
flat_none f [] h = refl
flat_none f (p ∷ ps) h = ap (λ xs. xs ++ flat_map f ps) (h p (inl refl)) ∙ flat_none f ps (λ q k. h q (inr k))

-- ---- an instruction, where registers have the same words

runs_word : (c : Option Condition) (word word' : Reg → ℕ) → ((reg : Reg) → word reg ≡ word' reg)
    → runs_of c (option_map (λ (cond : Condition). word cond.reg) c)
    ≡ runs_of c (option_map (λ (cond : Condition). word' cond.reg) c)
runs_word None word word' same = refl
runs_word (Some c) word word' same = ap (λ v. runs_of (Some c) (Some v)) (same c.reg)

words_word : (regs : List Reg) (word word' : Reg → ℕ) → ((reg : Reg) → word reg ≡ word' reg)
    → with_words word regs ≡ with_words word' regs
words_word [] word word' same = refl
words_word (reg ∷ regs) word word' same =
    ap (λ (w : ℕ). (reg, w) ∷ with_words word regs) (same reg)
    ∙ ap (λ (rest : List (Reg × ℕ)). (reg, word' reg) ∷ rest) (words_word regs word word' same)

pub events_word : (word word' : Reg → ℕ) (act : Act) (p : Placed) → ((reg : Reg) → word reg ≡ word' reg)
    → events_of word act p ≡ events_of word' act p
events_word word word' act p same =
    ap (λ (b : Bool). issue_of word p b act.access ∷ stored_by p.line act.access)
    (runs_word (cond_of p.insn) word word' same)
    ∙ ap (λ (ws : List (Reg × ℕ)). cond (runs word' p.insn) (Issued p.line p.unit p.insn ws act.access)
    (Skipped p.line p.unit p.insn (with_words word (tested (cond_of p.insn)))) ∷ stored_by p.line act.access)
    (words_word (tested (cond_of p.insn) ++ operand_reads p.insn) word word' same)
    ∙ ap (λ (ws : List (Reg × ℕ)). cond (runs word' p.insn)
    (Issued p.line p.unit p.insn (with_words word' (tested (cond_of p.insn) ++ operand_reads p.insn)) act.access)
    (Skipped p.line p.unit p.insn ws) ∷ stored_by p.line act.access)
    (words_word (tested (cond_of p.insn)) word word' same)

-- ---- what lands

due_filter : (t cycle line : ℕ) (ws : List ((Reg × ℕ) × ℕ))
    → map (made_by line) (filter (λ (w : (Reg × ℕ) × ℕ). eqb (cycle + w.0.1) t) ws) ≡ due_of t cycle line ws
due_filter t cycle line [] = refl
due_filter t cycle line (w ∷ ws) = by_test (due_filter t cycle line ws) (eqb (cycle + w.0.1) t)
  where
    by_test : map (made_by line) (filter (λ (v : (Reg × ℕ) × ℕ). eqb (cycle + v.0.1) t) ws) ≡ due_of t cycle line ws
        → (b : Bool)
        → map (made_by line)
        (cond b (w ∷ filter (λ (v : (Reg × ℕ) × ℕ). eqb (cycle + v.0.1) t) ws)
        (filter (λ (v : (Reg × ℕ) × ℕ). eqb (cycle + v.0.1) t) ws))
        ≡ cond b (made_by line w ∷ due_of t cycle line ws) (due_of t cycle line ws)
    by_test rest true = ap (λ (ds : List Due). made_by line w ∷ ds) rest
    by_test rest false = rest

-- what lands in a cycle is what stands in its slot
pub landings_due : (did : Did) (t : ℕ) (ps : List Placed) → landings did t ps ≡ due_in did t ps
landings_due did t ps =
    flat_same (landings_of t did) (λ (p : Placed). due_of t p.cycle p.line (did p).writes) ps
    (λ p h. due_filter t p.cycle p.line (did p).writes)

pub due_late : (did : Did) (t : ℕ) (ps : List Placed) → ((p : Placed) → In p ps → t < p.cycle) → due_in did t ps ≡ []
due_late did t ps late =
    flat_none (λ (p : Placed). due_of t p.cycle p.line (did p).writes) ps
    (λ p h. due_none t p.cycle p.line (did p).writes
    (λ w k e. let l : t < p.cycle = late p h in omega arith))

-- ---- with instructions behind that come later

latest_front : (cell t : ℕ) (f : Placed → List Landing) (ps qs : List Placed)
    → ((w : Landing) → In w (flat_map f qs) → t ≤ w.time)
    → latest cell t (flat_map f (ps ++ qs)) ≡ latest cell t (flat_map f ps)
latest_front cell t f ps qs h =
    ap (λ ls. latest cell t ls) (flat_map-append f ps qs)
    ∙ latest-append cell t (flat_map f ps) (flat_map f qs) []
    (ap (λ ls. latest cell t ls) (sym (append-nil (flat_map f qs))) ∙ latest-late cell t (flat_map f qs) [] h)
    ∙ ap (λ ls. latest cell t ls) (append-nil (flat_map f ps))

module _ (opening : Machine) (t : ℕ) (front rest : List Placed) (did did' : Did)
    (same : (p : Placed) → In p front → did' p ≡ did p) (late : (p : Placed) → In p rest → t < p.cycle) where
  words_front : (reg : Reg) → word_before (front ++ rest) opening did' t reg ≡ word_before front opening did t reg
  words_front reg =
      ap (λ o. value_or o (word_in opening reg))
      (latest_front (index_of reg) t (register_landings did') front rest (λ w h.
      let r = from_In-flat_map (register_landings did') w rest h in
      let s = from_In-writes r.0.cycle (did' r.0).writes w r.2 in
      let from : t < r.0.cycle = late r.0 r.1 in
      let at : w.time ≡ r.0.cycle + s.0.0.1 = s.3 in omega arith))
      ∙ same_words front opening did' did t reg (λ p h l. same p h)

  issued_front : flat_map (issued_in (front ++ rest) opening did' t) (front ++ rest)
      ≡ flat_map (issued_in front opening did t) front
  issued_front =
      flat_map-append (issued_in (front ++ rest) opening did' t) front rest
      ∙ ap (λ es. flat_map (issued_in (front ++ rest) opening did' t) front ++ es)
      (flat_none (issued_in (front ++ rest) opening did' t) rest
      (λ p h. cond-false _ _ _ (ne_eqb _ _ (λ (e : p.cycle ≡ t). let l : t < p.cycle = late p h in omega arith))))
      ∙ append-nil (flat_map (issued_in (front ++ rest) opening did' t) front)
      ∙ flat_same (issued_in (front ++ rest) opening did' t) (issued_in front opening did t) front
      (λ p h. ap (λ (es : List Event). cond (eqb p.cycle t) es [])
      (events_word (word_before (front ++ rest) opening did' t) (word_before front opening did t) (did' p) p words_front
      ∙ ap (λ (act : Act). events_of (word_before front opening did t) act p) (same p h)))

  landings_front : landings did' t (front ++ rest) ≡ landings did t front
  landings_front =
      landings_due did' t (front ++ rest)
      ∙ flat_map-append (λ (p : Placed). due_of t p.cycle p.line (did' p).writes) front rest
      ∙ ap (λ ds. due_in did' t front ++ ds) (due_late did' t rest late)
      ∙ append-nil (due_in did' t front)
      ∙ flat_same (λ (p : Placed). due_of t p.cycle p.line (did' p).writes)
      (λ (p : Placed). due_of t p.cycle p.line (did p).writes) front
      (λ p h. ap (λ (act : Act). due_of t p.cycle p.line act.writes) (same p h))
      ∙ sym (landings_due did t front)

  -- they change no event of the cycle
  pub events_front : events_in (front ++ rest) opening did' t ≡ events_in front opening did t
  events_front =
      ap (λ (es : List Event). es ++ map Landed (landings did' t (front ++ rest))) issued_front
      ∙ ap (λ (ds : List Due). flat_map (issued_in front opening did t) front ++ map Landed ds) landings_front

-- what did the same has the same events
pub events_same : (opening : Machine) (t : ℕ) (placed : List Placed) (did did' : Did)
    → ((p : Placed) → In p placed → did' p ≡ did p)
    → events_in placed opening did' t ≡ events_in placed opening did t
events_same opening t placed did did' same =
    ap (λ (ps : List Placed). events_in ps opening did' t) (sym (append-nil placed))
    ∙ events_front opening t placed [] did did' same (λ p h. absurd h)

-- ---- a cycle of whose instructions none is issued, and one in which a packet is

pub events_late : (opening : Machine) (t : ℕ) (placed : List Placed) (did : Did)
    → ((p : Placed) → In p placed → p.cycle < t)
    → events_in placed opening did t ≡ map Landed (due_in did t placed)
events_late opening t placed did early =
    ap (λ (es : List Event). es ++ map Landed (landings did t placed))
    (flat_none (issued_in placed opening did t) placed
    (λ p h. cond-false _ _ _ (ne_eqb _ _ (λ (e : p.cycle ≡ t). let l : p.cycle < t = early p h in omega arith))))
    ∙ ap (λ (ds : List Due). map Landed ds) (landings_due did t placed)

pub events_packet : (opening : Machine) (t : ℕ) (block new : List Placed) (did : Did)
    → ((p : Placed) → In p block → p.cycle < t) → ((p : Placed) → In p new → p.cycle ≡ t)
    → events_in (block ++ new) opening did t
    ≡ flat_map (λ (p : Placed). events_of (word_before (block ++ new) opening did t) (did p) p) new
    ++ map Landed (due_in did t (block ++ new))
events_packet opening t block new did early now =
    ap (λ (es : List Event). es ++ map Landed (landings did t (block ++ new)))
    (flat_map-append (issued_in (block ++ new) opening did t) block new
    ∙ ap (λ es. es ++ flat_map (issued_in (block ++ new) opening did t) new)
    (flat_none (issued_in (block ++ new) opening did t) block
    (λ p h. cond-false _ _ _ (ne_eqb _ _ (λ (e : p.cycle ≡ t). let l : p.cycle < t = early p h in omega arith))))
    ∙ flat_same (issued_in (block ++ new) opening did t)
    (λ (p : Placed). events_of (word_before (block ++ new) opening did t) (did p) p) new
    (λ p h. cond-true _ _ _ (eq-eqb _ _ (now p h))))
    ∙ ap (λ (ds : List Due). flat_map (λ (p : Placed). events_of (word_before (block ++ new) opening did t) (did p) p)
    new
    ++ map Landed ds) (landings_due did t (block ++ new))
