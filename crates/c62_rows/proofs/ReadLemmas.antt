-- A text is read line by line.
use Rattle.std.proofs.Common.{arith, ◌≡◌, inl, inr, ℕ, ◌+◌, ◌<◌, ◌≤◌, List, [], ◌∷◌, length, refl, sym, subst}
use Rattle.c62_read.specs.Text.{lines_of}
use Rattle.c62_rows.specs.declared.fault.RowsCause.{RowsCause}
use Rattle.c62_rows.specs.declared.fault.RowsFault.TheVariants.{At}
use Rattle.c62_rows.specs.Reading.{Reading, no_reading, all_rows, RefusesLine}
use Rattle.c62_rows.specs.Text.{LeadsTo, RefusesAmong, IsReading, Refuses}
use Rattle.c62_rows.specs.Sound.{IsSound, IsSmall}
use Rattle.c62_rows.specs.Read.{IsReady, AddsShortLine}
use Rattle.c62_rows.proofs.SoundLemmas.{none_sound, line_sound}
use Rattle.c62_rows.proofs.SmallLemmas.{none_small, line_small, ready_if}
use Rattle.c62_adopt_cut.specs.declared.text.TheConstants.{MOST_BYTES}
use Rattle.c62_op.specs.declared.set.InstructionSet.{InstructionSet}

-- the lines above were read, and what is left leads to the same as the whole
pub record IsReadSoFar (isa : InstructionSet) (reading : Reading) (number : ℕ) (rest text : List ℕ) : Type 0 where
  pub lines : ℕ
  pub numbered : number ≡ lines + 1
  pub counted : lines + length rest ≤ length text
  pub sound : IsSound reading
  pub small : IsSmall lines reading
  pub leads : (last : Reading) → LeadsTo isa number reading (lines_of rest) last
      → LeadsTo isa 1 no_reading (lines_of text) last
  pub refuses : (line : ℕ) (cause : RowsCause) → RefusesAmong isa number reading (lines_of rest) line cause
      → RefusesAmong isa 1 no_reading (lines_of text) line cause

pub none_read : (isa : InstructionSet) (reading : Reading) (text : List ℕ) → reading ≡ no_reading
    → IsReadSoFar isa reading 1 text text
none_read isa reading text is = subst (λ (r : Reading). IsReadSoFar isa r 1 text text) (sym is) (record {
  lines = 0;
  numbered = omega arith;
  counted = omega arith;
  sound = none_sound;
  small = none_small;
  leads = λ last l. l;
  refuses = λ line cause r. r;
})

pub one_more : (isa : InstructionSet) (old new : Reading) (number : ℕ) (bytes rest after text : List ℕ)
    → IsReadSoFar isa old number rest text
    → lines_of rest ≡ bytes ∷ lines_of after → length after < length rest → AddsShortLine isa number bytes old new
    → IsReadSoFar isa new (number + 1) after text
one_more isa old new number bytes rest after text far first shorter adds =
    record {
      lines = far.lines + 1;
      numbered = omega (arith, far.numbered);
      counted = omega (arith, far.counted, shorter);
      sound = line_sound isa number bytes old new far.sound adds.adds;
      small = line_small isa far.lines number bytes old new far.small adds;
      leads = λ last l. far.leads last
          (subst (λ (lines : List (List ℕ)). LeadsTo isa number old lines last) (sym first) (new, adds.adds, l));
      refuses = λ line cause r. far.refuses line cause
          (subst (λ (lines : List (List ℕ)). RefusesAmong isa number old lines line cause) (sym first)
          (inr (new, adds.adds, r)));
    }

pub refused_at : (isa : InstructionSet) (reading : Reading) (number : ℕ) (bytes rest after text : List ℕ)
    (cause : RowsCause)
    → length text ≤ MOST_BYTES
    → IsReadSoFar isa reading number rest text → lines_of rest ≡ bytes ∷ lines_of after
    → RefusesLine isa number bytes reading cause
    → Refuses isa text (At number cause)
refused_at isa reading number bytes rest after text cause short far first refuses =
    inr (inl (record {
      short = short;
      among = far.refuses number cause
          (subst (λ (lines : List (List ℕ)). RefusesAmong isa number reading lines number cause) (sym first)
          (inl (refl, refuses)));
    }))

pub all_read : (isa : InstructionSet) (reading : Reading) (number : ℕ) (rest text : List ℕ) → length text ≤ MOST_BYTES
    → IsReadSoFar isa reading number rest text
    → lines_of rest ≡ [] → IsReading isa text reading
all_read isa reading number rest text short far none =
    record {
      short = short;
      leads = far.leads reading
          (subst (λ (lines : List (List ℕ)). LeadsTo isa number reading lines reading) (sym none) refl);
    }

pub ready_so_far : (isa : InstructionSet) (reading : Reading) (number : ℕ) (rest text : List ℕ)
    → length text ≤ MOST_BYTES
    → IsReadSoFar isa reading number rest text → IsReady reading
ready_so_far isa reading number rest text short far =
    ready_if far.lines reading far.sound (record { rows = omega (arith, far.small.rows); idle = far.small.idle })
    (omega (arith, far.counted, short))

pub few_so_far : (isa : InstructionSet) (reading : Reading) (number : ℕ) (rest text : List ℕ) → length text ≤ MOST_BYTES
    → IsReadSoFar isa reading number rest text
    → length (all_rows reading) ≤ MOST_BYTES
few_so_far isa reading number rest text short far = omega (arith, far.counted, far.small.rows, short)

pub number_so_far : (isa : InstructionSet) (reading : Reading) (number : ℕ) (rest text : List ℕ)
    → length text ≤ MOST_BYTES
    → IsReadSoFar isa reading number rest text
    → number ≤ (MOST_BYTES + 1)
number_so_far isa reading number rest text short far = omega (arith, far.counted, far.numbered, short)

pub sound_so_far : (isa : InstructionSet) (reading : Reading) (number : ℕ) (rest text : List ℕ)
    → IsReadSoFar isa reading number rest text
    → IsSound reading
sound_so_far isa reading number rest text far = far.sound
