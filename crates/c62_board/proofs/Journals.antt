-- Journals that go on.
use Rattle.std.proofs.Common.{◌≡◌, ℕ, List, [], ◌∷◌, ◌++◌, sym, ap, refl, ◌∙◌, subst, arith, append_assoc}
use Rattle.std.proofs.Common.{length-append}
use Rattle.c62_insn.specs.declared.insn.Insn.{Insn}
use Rattle.c62_read.specs.Block.{Serial}
use Rattle.c62_depend.specs.Plan.{IsPlan, insns_of}
use Rattle.c62_depend.proofs.Plans.{many_insns}
use Rattle.c62_sheet.specs.declared.entry.Entry.{Entry}
use Rattle.c62_sheet.specs.declared.entry.Entry.TheVariants.{Place, Withdraw}
use Rattle.c62_sheet.specs.Lawful.{Spots, IsLawful}
use Rattle.c62_sheet.specs.Journal.{after, replayed, Permits, IsLegal}
use Rattle.c62_board.specs.State.{BoardState, nothing_of, IsSound, Adds, GainsRoom}
use Rattle.c62_sheet.proofs.Placing.{lawful_withdrawn}
use Rattle.c62_sheet.proofs.Empty.{lawful_empty}

pub replayed-append : (set : Spots) (xs ys : List Entry) → replayed set (xs ++ ys) ≡ replayed (replayed set xs) ys
replayed-append set [] ys = refl
replayed-append set (e ∷ es) ys = replayed-append (after set e) es ys

pub IsLegal-append : (block : List Insn) (set : Spots) (xs ys : List Entry) → IsLegal block set xs
    → IsLegal block (replayed set xs) ys → IsLegal block set (xs ++ ys)
IsLegal-append block set [] ys h g = g
IsLegal-append block set (e ∷ es) ys h g = (h.0, IsLegal-append block (after set e) es ys h.1 g)

-- a legal entry keeps a set lawful
pub lawful_after : (block : List Insn) (set : Spots) (e : Entry) → IsLawful block set → Permits block set e
    → IsLawful block (after set e)
lawful_after block set (Place i s who) lawful may = may.least.lawful
lawful_after block set (Withdraw i who) lawful may = lawful_withdrawn block set i lawful may.within may.last

-- legal entries keep a set lawful
pub lawful_replayed : (block : List Insn) (set : Spots) (es : List Entry) → IsLawful block set → IsLegal block set es
    → IsLawful block (replayed set es)
lawful_replayed block set [] lawful legal = lawful
lawful_replayed block set (e ∷ es) lawful legal = lawful_replayed block (after set e) es
    (lawful_after block set e lawful legal.0) legal.1

-- a board to which legal entries are added is sound
pub sound_after : (old new : BoardState) (es : List Entry) → IsSound old → IsLegal (insns_of old.plan) old.spots es
    → Adds old es new → IsSound new
sound_after old new es sound legal adds = record {
  plan = rw adds.plan sound.plan;
  lawful = rw (adds.plan, adds.spots) (lawful_replayed (insns_of old.plan) old.spots es sound.lawful legal);
  legal = rw (adds.plan, adds.journal)
      (IsLegal-append (insns_of old.plan) (nothing_of old.plan) old.journal es sound.legal
      (rw sound.replays legal));
  replays = rw (adds.plan, adds.journal, adds.spots) (replayed-append (nothing_of old.plan) old.journal es
      ∙ ap (λ (set : Spots). replayed set es) sound.replays);
}

-- entries that are added in two parts
pub adds_both : (old mid new : BoardState) (xs ys : List Entry) → Adds old xs mid → Adds mid ys new
    → Adds old (xs ++ ys) new
adds_both old mid new xs ys first second = record {
  plan = second.plan ∙ first.plan;
  spots = second.spots ∙ ap (λ (set : Spots). replayed set ys) first.spots ∙ sym (replayed-append old.spots xs ys);
  journal = second.journal ∙ ap (λ (es : List Entry). es ++ ys) first.journal ∙ append_assoc old.journal xs ys;
  budget = second.budget ∙ first.budget;
  room = omega (arith, first.room, second.room, length-append xs ys);
}

-- one more entry
pub replayed_more : (set now : Spots) (es : List Entry) (e : Entry) → now ≡ replayed set es
    → replayed set (es ++ e ∷ []) ≡ after now e
replayed_more set now es e is = replayed-append set es (e ∷ []) ∙ ap (λ (s : Spots). after s e) (sym is)

pub legal_more : (block : List Insn) (set now : Spots) (es : List Entry) (e : Entry) → now ≡ replayed set es
    → IsLegal block set es → Permits block now e → IsLegal block set (es ++ e ∷ [])
legal_more block set now es e is legal may =
    IsLegal-append block set es (e ∷ []) legal (subst (λ (s : Spots). Permits block s e) is may, tt)

-- entries that are added once there is room
pub gains_adds : (old mid new : BoardState) (n : ℕ) (es : List Entry) → GainsRoom old n mid → Adds mid es new
    → Adds old es new
gains_adds old mid new n es gains adds = record {
  plan = adds.plan ∙ ap (λ (b : BoardState). b.plan) gains.same;
  spots = adds.spots ∙ ap (λ (b : BoardState). replayed b.spots es) gains.same;
  journal = adds.journal ∙ ap (λ (b : BoardState). b.journal ++ es) gains.same;
  budget = adds.budget ∙ ap (λ (b : BoardState). b.budget) gains.same;
  room = (let fits = adds.room in let more = gains.more in omega arith);
}

-- an empty board
pub sound_empty : (board : BoardState) → IsPlan (insns_of board.plan) → board.spots ≡ nothing_of board.plan
    → board.journal ≡ [] → IsSound board
sound_empty board known spots journal = record {
  plan = known;
  lawful = rw (spots, ← many_insns board.plan.insns) (lawful_empty (insns_of board.plan));
  legal = rw journal tt;
  replays = rw (journal, spots) refl;
}

-- a board of replayed entries
pub sound_replayed : (board : BoardState) → IsPlan (insns_of board.plan)
    → board.spots ≡ replayed (nothing_of board.plan) board.journal
    → IsLegal (insns_of board.plan) (nothing_of board.plan) board.journal → IsSound board
sound_replayed board known spots legal = record {
  plan = known;
  lawful = rw spots (lawful_replayed (insns_of board.plan) (nothing_of board.plan) board.journal
      (rw (← many_insns board.plan.insns) (lawful_empty (insns_of board.plan))) legal);
  legal = legal;
  replays = sym spots;
}

-- a board on which entries were played from nothing
pub sound_played : (board : BoardState) (plan : Serial) (from : Spots) (entries : List Entry)
    → IsPlan (insns_of board.plan) → board.plan ≡ plan → from ≡ nothing_of plan
    → board.spots ≡ replayed from entries → board.journal ≡ entries → IsLegal (insns_of plan) from entries
    → IsSound board
sound_played board plan from entries known same nothing spots journal legal =
    sound_replayed board known
    (rw (same, journal, ← nothing) spots)
    (rw (same, journal, ← nothing) legal)
