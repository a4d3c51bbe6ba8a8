-- What comes of a call that is made again where memory was refused.
use Rattle.std.specs.Prelude.{◌≡◌, ◌≢◌, ◌⊎◌, ℕ, Bool, if◌then◌else◌, Option, Some, None}
use Rattle.std.specs.Fn.{Shared}
use denote.Ref.{MutBor}
use Rattle.c62_refusals.specs.declared.twice.Came.{Came}
use Rattle.c62_refusals.specs.declared.twice.Came.TheVariants.{Answer, Again, Memory, Changed}

-- at a `&mut` to x, the call may give r and leave x' there
pub record FnReturnsAtMut {F T R : Type 0} (g : Shared F (MutBor T × Unit {0}) (R × (MutBor T × Unit {0}))) (f : F) (x : T) (r : R) (x' : T) : Type 0 where
  pub shown : MutBor T
  pub shows : shown.now ≡ x
  pub left : MutBor T
  pub met : g.post f (shown, tt) (r, (left, tt))
  pub leaves : left.now ≡ x'

-- What a value looks like.
module _ {T : Type 0} (Looks : T → ℕ → Type 0) where
  -- two values look the same
  pub record LookSame (old new : T) : Type 0 where
    pub look : ℕ
    pub first : Looks old look
    pub second : Looks new look

  -- two values look different
  pub record LookOther (old new : T) : Type 0 where
    pub before : ℕ
    pub after : ℕ
    pub first : Looks old before
    pub second : Looks new after
    pub differ : before ≢ after

  -- And what a call on it answers and leaves: nothing is the answer where memory was refused.
  module _ (Calls : T → Option ℕ → T → Type 0) where
    -- the call was refused memory, and left what looks the same
    pub record IsRefused (old new : T) : Type 0 where
      pub called : Calls old None new
      pub same : LookSame old new

    -- the call was refused memory a second time, after it left what looked the same
    pub record IsRefusedAgain (old new : T) : Type 0 where
      pub between : T
      pub first : IsRefused old between
      pub second : Calls between None new

    -- What came of the call: an answer at once; an answer to the second call, where the first was refused memory; two refusals, and
    -- all looks as before; or a refusal, the first or the second, that left what looks different.
    pub data CameOf (old new : T) : Came → Type 0 where
      AtOnce : (answer : ℕ) → Calls old (Some answer) new → CameOf old new (Answer answer)
      Afterwards : (answer : ℕ) (between : T) → IsRefused old between → Calls between (Some answer) new → CameOf old new (Again answer)
      Never : IsRefusedAgain old new → LookSame old new → CameOf old new Memory
      OtherAtOnce : Calls old None new → LookOther old new → CameOf old new Changed
      OtherAfterwards : IsRefusedAgain old new → LookOther old new → CameOf old new Changed

-- a call at a desk that was refused memory changed something where it published something
abbrev pub if_published : Came → Bool → Came
if_published Memory published = if published then Changed else Memory
if_published (Answer answer) published = Answer answer
if_published (Again answer) published = Again answer
if_published Changed published = Changed
