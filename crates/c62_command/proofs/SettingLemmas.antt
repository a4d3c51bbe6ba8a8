-- The settings of words, one word more, and where a word says none.
use Rattle.std.proofs.Common.{◌≡◌, ◌∙◌, ℕ, zero, suc, ◌+◌, ◌<◌, Bool, true, false, List, [], ◌∷◌, ◌++◌, length, take}
use Rattle.std.proofs.Common.{drop, map, get_or, Option, Some, None, refl, sym, ap, subst, arith, append_assoc}
use Rattle.std.specs.Prelude.{◌==◌, not, nat_lt, is_some, cond, option_map}
use Rattle.std.specs.List.{position, position_or_len}
use Rattle.std.proofs.lemmas.Bool.{lt-ltb, ltb-true}
use Rattle.std.proofs.lemmas.Bool.Decides.{nat_tests}
use Rattle.std.specs.Borrow.{Bor}
use Rattle.std.proofs.Math.Seq.{split_at}
use Rattle.std.proofs.lemmas.List.{append-nil, get_or-map, take_more, length-map, length-take-le}
use Rattle.std.proofs.lemmas.Option.{same_Some}
use Rattle.c62_command.specs.declared.setting.Setting.{Setting}
use Rattle.c62_command.specs.declared.setting.Size.{Size}
use Rattle.c62_command.specs.Settings.{Adds, IsFirstBad, IsParted, and_setting, and_settings, bytes_in, cell, cells}
use Rattle.c62_command.specs.Settings.{holds, onto, parts, set_at, settings_in, settings_from, base_among, value_of}

-- ---- values between commas

none_more : (o : Option ℕ) → option_map (λ k. suc k) o ≡ None → o ≡ None
none_more None e = refl
none_more (Some k) e = absurd cc

not_first : (o : Option ℕ) → option_map (λ k. suc k) o ≡ Some 0 → ⊥
not_first None e = absurd cc
not_first (Some k) e = absurd cc

one_less : (o : Option ℕ) (k : ℕ) → option_map (λ k. suc k) o ≡ Some (suc k) → o ≡ Some k
one_less None k e = absurd cc
one_less (Some j) k e = cc

position_step : (p : ℕ → Bool) (x : ℕ) (xs : List ℕ)
    → position p (x ∷ xs) ≡ cond (p x) (Some 0) (option_map (λ k. suc k) (position p xs))
position_step p x xs = go (p x) (nat_lt (position_or_len p xs) (length xs)) refl
  where
    go : (b within : Bool) → nat_lt (position_or_len p xs) (length xs) ≡ within
        → cond (nat_lt (cond (not b) (1 + position_or_len p xs) 0) (suc (length xs)))
        (Some (cond (not b) (1 + position_or_len p xs) 0)) None
        ≡ cond b (Some 0) (option_map (λ k. suc k) (cond within (Some (position_or_len p xs)) None))
    go true within e = let less : nat_lt 0 (suc (length xs)) ≡ true = lt-ltb 0 (suc (length xs)) (omega arith) in rw
        less refl
    go false true e =
        let next : 1 + position_or_len p xs ≡ suc (position_or_len p xs) = omega arith in
        let below : position_or_len p xs < length xs = ltb-true (position_or_len p xs) (length xs) e in
        let less : nat_lt (suc (position_or_len p xs)) (suc (length xs)) ≡ true = lt-ltb (suc (position_or_len p xs))
        (suc (length xs)) (omega arith) in
        rw (next, less) refl
    go false false e =
        let less : nat_lt (1 + position_or_len p xs) (suc (length xs)) ≡ false = grind (arith, nat_tests) in
        rw less refl

abbrev comma_at : List ℕ → Option ℕ
comma_at text = position (λ b. b == 44) text

pub one_part : (text : List ℕ) → comma_at text ≡ None → parts text ≡ text ∷ []
unfolding parts
one_part [] none = refl
one_part (byte ∷ text) none = go (byte == 44) (sym (position_step (λ b. b == 44) byte text)
    ∙ none) (λ n. one_part text n)
  where
    go : (b : Bool) → cond b (Some 0) (option_map (λ k. suc k) (comma_at text)) ≡ None
        → (comma_at text ≡ None → parts text ≡ text ∷ [])
        → cond b ([] ∷ parts text) (onto byte (parts text)) ≡ (byte ∷ text) ∷ []
    go true n rest = absurd cc
    go false n rest = rw (rest (none_more (comma_at text) n)) refl

pub more_parts : (text : List ℕ) (k : ℕ) → comma_at text ≡ Some k → parts text ≡ take k text ∷ parts (drop (k + 1) text)
unfolding parts
more_parts [] k found = absurd cc
more_parts (byte ∷ text) k found = go (byte == 44) k (sym (position_step (λ b. b == 44) byte text)
    ∙ found) (λ j f. more_parts text j f)
  where
    go : (b : Bool) (k : ℕ) → cond b (Some 0) (option_map (λ k. suc k) (comma_at text)) ≡ Some k
        → ((j : ℕ) → comma_at text ≡ Some j → parts text ≡ take j text ∷ parts (drop (j + 1) text))
        → cond b ([] ∷ parts text) (onto byte (parts text)) ≡ take k (byte ∷ text) ∷ parts (drop (k + 1) (byte ∷ text))
    go true zero f rest = refl
    go true (suc k) f rest = absurd cc
    go false zero f rest = absurd (not_first (comma_at text) f)
    go false (suc k) f rest = let next : suc k + 1 ≡ suc (k + 1) = omega arith in rw
        (next, rest k (one_less (comma_at text) k f)) refl

abbrev HasFirst : List (List ℕ) → Type 0
HasFirst texts = (first : List ℕ) × (others : List (List ℕ)) × (texts ≡ first ∷ others)

-- a text has a part
some_part : (text : List ℕ) → HasFirst (parts text)
unfolding parts
some_part [] = ([], [], refl)
some_part (byte ∷ text) = go (byte == 44) (some_part text)
  where
    go : (b : Bool) → HasFirst (parts text) → HasFirst (cond b ([] ∷ parts text) (onto byte (parts text)))
    go true rest = ([], parts text, refl)
    go false rest = (byte ∷ rest.0, rest.1, ap (onto byte) rest.2)

no_cell : (size : Size) (address : ℕ) (first : List ℕ) (others : List (List ℕ)) → cell size address first ≡ None
    → cells size address (first ∷ others) ≡ None
unfolding cells
no_cell size address first others none = rw none refl

pub not_held : (size : Size) (address : ℕ) (text : List ℕ) → holds size address ≡ false
    → cells size address (parts text) ≡ None
not_held size address text none =
    let some = some_part text in
    rw (some.2) (no_cell size address some.0 some.1 (rw none refl))

pub no_value : (size : Size) (address : ℕ) (text part : List ℕ) (behind : Option (Bor (List ℕ)))
    → IsParted text part behind → value_of part ≡ None
    → cells size address (parts text) ≡ None
no_value size address text part None parted none = rw parted
    (no_cell size address part [] (dropped (holds size address)))
  where
    dropped : (b : Bool) → cond b (option_map (set_at size address) (value_of part)) None ≡ None
    dropped true = rw none refl
    dropped false = refl
no_value size address text part (Some behind) parted none = rw (parted.0)
    (no_cell size address part (parts behind.now) (dropped (holds size address)))
  where
    dropped : (b : Bool) → cond b (option_map (set_at size address) (value_of part)) None ≡ None
    dropped true = rw none refl
    dropped false = refl

a_cell : (size : Size) (address value : ℕ) (first : List ℕ) (others : List (List ℕ)) → holds size address ≡ true
    → value_of first ≡ Some value
    → cells size address (first ∷ others) ≡ and_setting (Some (set_at size address value))
    (cells size (address + bytes_in size) others)
unfolding cells
a_cell size address value first others held is = rw (held, is) refl

pub last_value : (size : Size) (address value : ℕ) (text part : List ℕ) → parts text ≡ part ∷ []
    → holds size address ≡ true → value_of part ≡ Some value
    → cells size address (parts text) ≡ Some (set_at size address value ∷ [])
unfolding cells
last_value size address value text part parted held is = rw (parted, held, is) refl

adds_first : (said : Option (List Setting)) (setting : Setting) (old new : List Setting) (good : Bool)
    → Adds said (old ++ setting ∷ []) new good
    → Adds (and_setting (Some setting) said) old new good
adds_first None setting old new good adds = adds
adds_first (Some mine) setting old new good adds = (adds.0, adds.1 ∙ append_assoc old (setting ∷ []) mine)

pub next_value : (size : Size) (address value : ℕ) (text part behind : List ℕ) (old new : List Setting) (good : Bool)
    → parts text ≡ part ∷ parts behind
    → holds size address ≡ true → value_of part ≡ Some value
    → Adds (cells size (address + bytes_in size) (parts behind)) (old ++ set_at size address value ∷ []) new
    good
    → Adds (cells size address (parts text)) old new good
next_value size address value text part behind old new good parted held is adds =
    let P : Option (List Setting) → Type 0 = λ said. Adds said old new good in
    subst P (sym (ap (cells size address) parted ∙ a_cell size address value part (parts behind) held is))
    (adds_first (cells size (address + bytes_in size) (parts behind)) (set_at size address value) old new good adds)

pub ends_here : (said : Option (List Setting)) (old new : List Setting) → said ≡ None → Adds said old new false
ends_here None old new e = refl
ends_here (Some mine) old new e = absurd cc

-- ---- words

pub added : (said : Option (List Setting)) (old new : List Setting) → Adds said old new true → (mine : List Setting)
    × (said ≡ Some mine) × (new ≡ old ++ mine)
added None old new adds = absurd cc
added (Some mine) old new adds = (mine, refl, adds.1)

pub not_added : (said : Option (List Setting)) (old new : List Setting) → Adds said old new false → said ≡ None
not_added None old new adds = refl
not_added (Some mine) old new adds = absurd cc

with_more : (a r more : Option (List Setting)) (all mine : List Setting) → and_settings a r ≡ Some all
    → ((rest : List Setting) → r ≡ Some rest → more ≡ Some (rest ++ mine)) → and_settings a more ≡ Some (all ++ mine)
with_more None r more all mine e f = absurd cc
with_more (Some a) None more all mine e f = absurd cc
with_more (Some a) (Some rest) more all mine e f =
    let same : a ++ rest ≡ all = same_Some (a ++ rest) all e in
    rw (f rest refl, sym same) (ap Some (sym (append_assoc a rest mine)))

settings_from-append : (base : ℕ) (texts : List (List ℕ)) (text : List ℕ) (all mine : List Setting)
    → settings_from base texts ≡ Some all
    → settings_in base text ≡ Some mine
    → settings_from base (texts ++ text ∷ []) ≡ Some (all ++ mine)
settings_from-append base [] text all mine e is =
    let same : [] ≡ all = same_Some [] all e in
    rw (is, sym same) (ap Some (append-nil mine))
settings_from-append base (first ∷ texts) text all mine e is =
    with_more (settings_in base first) (settings_from base texts) (settings_from base (texts ++ text ∷ [])) all mine e
    (λ rest r. settings_from-append base texts text rest mine r is)

abbrev pub words : List (Bor (List ℕ)) → List (List ℕ)
words texts = map (λ text. text.now) texts

-- the word at k
word_at : (texts : List (Bor (List ℕ))) (k : ℕ) (d : Bor (List ℕ)) → k < length texts
    → get_or (words texts) k [] ≡ (get_or texts k d).now
word_at texts k d within = get_or-map (λ (t : Bor (List ℕ)). t.now) texts k d [] within

pub one_more : (base : ℕ) (texts : List (Bor (List ℕ))) (k : ℕ) (d : Bor (List ℕ)) (all new : List Setting)
    → k < length texts
    → settings_from base (take k (words texts)) ≡ Some all → Adds (settings_in base (get_or texts k d).now) all new true
    → settings_from base (take (k + 1) (words texts)) ≡ Some new
one_more base texts k d all new within so_far adds =
    let inside : k < length (words texts) = rw length-map within in
    let is = added (settings_in base (get_or texts k d).now) all new adds in
    let last : settings_in base (get_or (words texts) k []) ≡ Some is.0
    = ap (settings_in base) (word_at texts k d within) ∙ is.1 in
    rw (take_more (words texts) k [] inside)
    (settings_from-append base (take k (words texts)) (get_or (words texts) k []) all is.0 so_far last
    ∙ ap Some (sym is.2))

pub first_bad : (base : ℕ) (texts : List (Bor (List ℕ))) (k : ℕ) (d : Bor (List ℕ)) (all new : List Setting)
    → base ≡ base_among (words texts) → k < length texts → settings_from base (take k (words texts)) ≡ Some all
    → Adds (settings_in base (get_or texts k d).now) all new false
    → IsFirstBad (words texts) (k + 1)
first_bad base texts k d all new same within so_far adds =
    let inside : k < length (words texts) = rw length-map within in
    record {
      before = take k (words texts);
      text = get_or (words texts) k [];
      after = drop (suc k) (words texts);
      whole = split_at (words texts) k [] inside;
      number = ap (λ (n : ℕ). n + 1) (sym (length-take-le k (words texts) (omega arith)));
      good = subst (λ (b : ℕ). is_some (settings_from b (take k (words texts))) ≡ true) same (ap is_some so_far);
      bad = subst (λ (b : ℕ). settings_in b (get_or (words texts) k []) ≡ None) same
          (ap (settings_in base) (word_at texts k d within)
          ∙ not_added (settings_in base (get_or texts k d).now) all new adds);
    }

-- where one word is no setting, the words are none
pub none_of : (base : ℕ) (before : List (List ℕ)) (text : List ℕ) (after : List (List ℕ)) → settings_in base text ≡ None
    → settings_from base (before ++ text ∷ after) ≡ None
none_of base [] text after none = rw none refl
none_of base (first ∷ before) text after none =
    rw (none_of base before text after none) (nothing (settings_in base first))
  where
    nothing : (a : Option (List Setting)) → and_settings a None ≡ None
    nothing None = refl
    nothing (Some a) = refl
