-- What is promised of the loops of a text (docs/CHECK.md, "The command").
use Rattle.std.specs.Prelude.{◌≡◌, ℕ, ◌+◌, ℤ, pos, int_le, unsigned_abs, Bool, true, false, ◌&&◌, List, [], ◌∷◌, ◌++◌, length, take, drop, codes, Option, Some, None, is_some, option_map, option_and_then, unwrap_or, IsTrue, if◌then◌else◌, ◌==◌}
use Rattle.std.specs.List.{position}
use Rattle.std.specs.Option.{option_map_or}
use Rattle.clap.specs.Words.{Row, Text, all_of, first_of}
use Rattle.c62_op.specs.declared.register.Reg.{Reg}
use Rattle.c62_token.specs.Number.{number_of, register_of}
use Rattle.c62_command.specs.Settings.{parts}
use Rattle.c62_command.specs.declared.promise.Trips.{Trips}
use Rattle.c62_command.specs.declared.promise.BadPromise.{BadPromise}
use Rattle.c62_command.specs.declared.promise.BadPromise.TheVariants as bad
use Rattle.c62_command.specs.declared.promise.PromiseError.{PromiseError}
use Rattle.c62_command.specs.declared.promise.PromiseError.TheVariants as error

abbrev pub and_one : {A : Type 0} → Option A → Option (List A) → Option (List A)
and_one (Some one) (Some others) = Some (one ∷ others)
and_one _ _ = None

-- what all these texts say, where each says something
abbrev pub all_said : {A : Type 0} → (Text → Option A) → List Text → Option (List A)
all_said said [] = Some []
all_said said (text ∷ texts) = and_one (said text) (all_said said texts)

-- ---- trips

-- the loop of this label is entered with at least so many trips
abbrev pub trips_of : Trips → Text × ℕ
trips_of trips = (trips.label.items, trips.least)

-- from 1 to below 2^32, which a counter can hold
abbrev pub count_of : ℤ → Option ℕ
count_of z = if int_le (pos 1) z && int_le z (pos 4294967295) then Some (unsigned_abs z) else None

abbrev pub count_in : Text → Option ℕ
count_in text = option_and_then count_of (number_of text)

-- `L=N`: what stands before the first `=` is the label
unfoldable pub trips_in : Text → Option (Text × ℕ)
trips_in text = option_and_then (λ k. option_map (λ count. (take k text, count)) (count_in (drop (k + 1) text))) (position (λ b. b == 61) text)

-- of all these words, where each says trips
abbrev pub all_trips : List Text → Option (List (Text × ℕ))
all_trips texts = all_said trips_in texts

-- where a word says trips, they stand behind the others, and it is told that it does
abbrev pub AddsTrips : Option (Text × ℕ) → List (Text × ℕ) → List (Text × ℕ) → Bool → Type 0
AddsTrips None old new good = good ≡ false
AddsTrips (Some mine) old new good = (good ≡ true) × (new ≡ old ++ mine ∷ [])

-- the words behind `--trips`
abbrev pub trips_words : List Row → List Text
trips_words rows = unwrap_or (all_of (codes "trips") rows) []

-- word k, from 1, is the first of these that says no trips
pub record IsFirstBadTrips (texts : List Text) (k : ℕ) : Type 0 where
  pub before : List Text
  pub text : Text
  pub after : List Text
  pub whole : texts ≡ before ++ text ∷ after
  pub number : k ≡ length before + 1
  pub good : IsTrue (is_some (all_trips before))
  pub bad : trips_in text ≡ None

-- an error that blames one of these words blames the first that says no trips
abbrev pub IsTripsError : List Text → PromiseError → Type 0
IsTripsError texts error.Memory = Unit {0}
IsTripsError texts (error.Bad (bad.Trips k)) = IsFirstBadTrips texts k
IsTripsError texts (error.Bad bad.Apart) = ⊥

-- ---- registers

-- `REG,REG,..`
abbrev pub apart_in : Text → Option (List Reg)
apart_in text = all_said register_of (parts text)

-- what stands behind `--apart`, and no registers without it
abbrev pub apart_of : List Row → Option (List Reg)
apart_of rows = option_map_or apart_in (first_of (codes "apart") rows) (Some [])

-- ---- what is bad

-- this promise says nothing, and those before it do
abbrev pub IsBadPromise : List Row → BadPromise → Type 0
IsBadPromise rows (bad.Trips k) = IsFirstBadTrips (trips_words rows) k
IsBadPromise rows bad.Apart = (apart_of rows ≡ None) × IsTrue (is_some (all_trips (trips_words rows)))

abbrev pub IsPromiseErrorIn : List Row → PromiseError → Type 0
IsPromiseErrorIn rows error.Memory = Unit {0}
IsPromiseErrorIn rows (error.Bad bad) = IsBadPromise rows bad
