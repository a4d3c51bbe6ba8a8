-- What texts say, one text more, and where one says nothing.
use Rattle.std.proofs.Common.{◌≡◌, ◌∙◌, ℕ, suc, ◌+◌, ◌<◌, true, false, List, [], ◌∷◌, ◌++◌, length, take, drop, map}
use Rattle.std.proofs.Common.{get_or, Option, Some, None, refl, sym, ap, arith, append_assoc}
use Rattle.std.specs.Prelude.{is_some}
use Rattle.std.specs.Borrow.{Bor}
use Rattle.std.proofs.Math.Seq.{split_at}
use Rattle.std.proofs.lemmas.List.{get_or-map, take_more, length-map, length-take-le}
use Rattle.std.proofs.lemmas.Option.{same_Some}
use Rattle.clap.specs.Words.{Text}
use Rattle.c62_op.specs.declared.register.Reg.{Reg}
use Rattle.c62_token.specs.Number.{register_of}
use Rattle.c62_command.specs.Settings.{IsParted}
use Rattle.c62_command.specs.Promises.{AddsTrips, IsFirstBadTrips, all_said, all_trips, and_one, apart_in, trips_in}

-- ---- words

module _ {A : Type 0} (said : Text → Option A) where
  with_more : (a : Option A) (r more : Option (List A)) (all mine : List A) → and_one a r ≡ Some all
      → ((rest : List A) → r ≡ Some rest → more ≡ Some (rest ++ mine))
      → and_one a more ≡ Some (all ++ mine)
  with_more None r more all mine e f = absurd cc
  with_more (Some a) None more all mine e f = absurd cc
  with_more (Some a) (Some rest) more all mine e f = let same : a ∷ rest ≡ all = same_Some (a ∷ rest) all e in rw
      (f rest refl, sym same) refl

  all_said-append : (texts : List Text) (text : Text) (all : List A) (mine : A) → all_said said texts ≡ Some all
      → said text ≡ Some mine
      → all_said said (texts ++ text ∷ []) ≡ Some (all ++ mine ∷ [])
  all_said-append [] text all mine e is = let same : [] ≡ all = same_Some [] all e in rw (is, sym same) refl
  all_said-append (first ∷ texts) text all mine e is =
      with_more (said first) (all_said said texts) (all_said said (texts ++ text ∷ [])) all (mine ∷ []) e
      (λ rest r. all_said-append texts text rest mine r is)

  -- where one text says nothing, they say nothing together
  pub none_said : (before : List Text) (text : Text) (after : List Text) → said text ≡ None
      → all_said said (before ++ text ∷ after) ≡ None
  none_said [] text after none = rw none refl
  none_said (first ∷ before) text after none = rw (none_said before text after none) (nothing (said first))
    where
      nothing : (a : Option A) → and_one a None ≡ None
      nothing None = refl
      nothing (Some a) = refl

-- ---- trips

abbrev pub words : List (Bor (List ℕ)) → List (List ℕ)
words texts = map (λ text. text.now) texts

word_at : (texts : List (Bor (List ℕ))) (k : ℕ) (d : Bor (List ℕ)) → k < length texts
    → get_or (words texts) k [] ≡ (get_or texts k d).now
word_at texts k d within = get_or-map (λ (t : Bor (List ℕ)). t.now) texts k d [] within

added : (said : Option (Text × ℕ)) (old new : List (Text × ℕ)) → AddsTrips said old new true → (mine : Text × ℕ)
    × (said ≡ Some mine) × (new ≡ old ++ mine ∷ [])
added None old new adds = absurd cc
added (Some mine) old new adds = (mine, refl, adds.1)

not_added : (said : Option (Text × ℕ)) (old new : List (Text × ℕ)) → AddsTrips said old new false → said ≡ None
not_added None old new adds = refl
not_added (Some mine) old new adds = absurd cc

pub one_more : (texts : List (Bor (List ℕ))) (k : ℕ) (d : Bor (List ℕ)) (all new : List (Text × ℕ)) → k < length texts
    → all_trips (take k (words texts)) ≡ Some all → AddsTrips (trips_in (get_or texts k d).now) all new true
    → all_trips (take (k + 1) (words texts)) ≡ Some new
one_more texts k d all new within so_far adds =
    let inside : k < length (words texts) = rw length-map within in
    let is = added (trips_in (get_or texts k d).now) all new adds in
    let last : trips_in (get_or (words texts) k []) ≡ Some is.0 = ap trips_in (word_at texts k d within) ∙ is.1 in
    rw (take_more (words texts) k [] inside)
    (all_said-append trips_in (take k (words texts)) (get_or (words texts) k []) all is.0 so_far last
    ∙ ap Some (sym is.2))

pub first_bad : (texts : List (Bor (List ℕ))) (k : ℕ) (d : Bor (List ℕ)) (all new : List (Text × ℕ)) → k < length texts
    → all_trips (take k (words texts)) ≡ Some all → AddsTrips (trips_in (get_or texts k d).now) all new false
    → IsFirstBadTrips (words texts) (k + 1)
first_bad texts k d all new within so_far adds =
    let inside : k < length (words texts) = rw length-map within in
    record {
      before = take k (words texts);
      text = get_or (words texts) k [];
      after = drop (suc k) (words texts);
      whole = split_at (words texts) k [] inside;
      number = ap (λ (n : ℕ). n + 1) (sym (length-take-le k (words texts) (omega arith)));
      good = ap is_some so_far;
      bad = ap trips_in (word_at texts k d within) ∙ not_added (trips_in (get_or texts k d).now) all new adds;
    }

-- ---- registers

-- what is said behind what has been
abbrev pub behind_these : List Reg → Option (List Reg) → Option (List Reg)
behind_these regs None = None
behind_these regs (Some more) = Some (regs ++ more)

pub none_behind : (more : Option (List Reg)) → more ≡ behind_these [] more
none_behind None = refl
none_behind (Some more) = refl

pub no_reg : (text part : List ℕ) (behind : Option (Bor (List ℕ))) → IsParted text part behind → register_of part ≡ None
    → apart_in text ≡ None
no_reg text part None parted none = rw (parted, none) refl
no_reg text part (Some behind) parted none = rw (parted.0, none) refl

pub last_reg : (text part : List ℕ) (reg : Reg) → IsParted text part None → register_of part ≡ Some reg
    → apart_in text ≡ Some (reg ∷ [])
last_reg text part reg parted is = rw (parted, is) refl

pub next_reg : (text part : List ℕ) (behind : Bor (List ℕ)) (reg : Reg) (regs : List Reg)
    → IsParted text part (Some behind) → register_of part ≡ Some reg
    → behind_these regs (apart_in text) ≡ behind_these (regs ++ reg ∷ []) (apart_in behind.now)
next_reg text part behind reg regs parted is = rw (parted.0, is) (go (apart_in behind.now))
  where
    go : (more : Option (List Reg)) → behind_these regs (and_one (Some reg) more) ≡ behind_these (regs ++ reg ∷ []) more
    go None = refl
    go (Some more) = ap Some (sym (append_assoc regs (reg ∷ []) more))
