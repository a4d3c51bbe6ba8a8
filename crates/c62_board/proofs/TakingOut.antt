-- Instructions that are taken out of a set, number by number.
use Rattle.std.proofs.Common.{◌≡◌, ℕ, zero, suc, ◌<◌, ◌≤◌, List, [], ◌∷◌, ◌++◌, length, Option, Some, None, set, inl}
use Rattle.std.proofs.Common.{inr, sym, ap, refl, ◌∙◌, subst, arith, append_assoc, get_or-set_same, length-set}
use Rattle.std.proofs.lemmas.Bool.{cases_eq, cases_lt}
use Rattle.std.proofs.lemmas.List.{append-nil, get_or_past}
use Rattle.std.proofs.lemmas.Option.{none-some}
use Rattle.c62_insn.specs.declared.insn.Insn.{Insn}
use Rattle.c62_sheet.specs.declared.entry.Entry.{Entry}
use Rattle.c62_sheet.specs.declared.entry.Entry.TheVariants.{Withdraw}
use Rattle.c62_sheet.specs.declared.entry.Spot.{Spot}
use Rattle.c62_sheet.specs.declared.entry.Who.{Who}
use Rattle.c62_sheet.specs.Lawful.{Spots, IsAt, spot_at, withdrawn, IsLawful}
use Rattle.c62_sheet.specs.Journal.{replayed, PermitsWithdraw, IsLegal}
use Rattle.c62_sheet.specs.Chain.{more}
use Rattle.c62_board.specs.Withdrawal.{GoesWith, WithdrawsBelow, Withdraws}
use Rattle.c62_sheet.proofs.Optional.{value_of_some, some_is}
use Rattle.c62_board.proofs.Journals.{replayed_more, legal_more, lawful_after}
use Rattle.c62_sheet.proofs.Chains.{before}
use Rattle.c62_sheet.proofs.Victims.{at_in}
use Rattle.c62_sheet.proofs.Sets.{spot_at-withdrawn_other}

-- there is one list of withdrawals
pub one_below : (block : List Insn) (set : Spots) (i : ℕ) (who : Who) (n : ℕ) (xs ys : List Entry)
    → WithdrawsBelow block set i who n xs → WithdrawsBelow block set i who n ys → xs ≡ ys
one_below block set i who zero xs ys a b = a ∙ sym b
one_below block set i who (suc j) xs ys (inl a) (inl b) =
    a.1.1 ∙ ap (λ (rest : List Entry). Withdraw j who ∷ rest) (one_below block set i who j a.1.0 b.1.0 a.1.2 b.1.2)
    ∙ sym b.1.1
one_below block set i who (suc j) xs ys (inl a) (inr b) = absurd (b.0 a.0)
one_below block set i who (suc j) xs ys (inr a) (inl b) = absurd (a.0 b.0)
one_below block set i who (suc j) xs ys (inr a) (inr b) = one_below block set i who j xs ys a.1 b.1

-- the entries so far withdraw what goes with i from number m on
pub record IsTakingOut (block : List Insn) (old : Spots) (i : ℕ) (who : Who) (m : ℕ) (now : Spots) (es : List Entry) :
    Type 0 where
  pub whole : (rest : List Entry) → WithdrawsBelow block old i who m rest → Withdraws block old i who (es ++ rest)
  pub legal : IsLegal block old es
  pub spots : now ≡ replayed old es
  pub lawful : IsLawful block now
  pub sub : (k : ℕ) (t : Spot) → IsAt now k t → IsAt old k t
  pub below : (k : ℕ) → k < m → spot_at now k ≡ spot_at old k
  pub gone : (k : ℕ) → m ≤ k → GoesWith block old i k → spot_at now k ≡ None

pub not_there : {A : Type 0} (o : Option A) → ((x : A) → o ≡ Some x → ⊥) → o ≡ None
not_there None h = refl
not_there (Some x) h = absurd (h x refl)

pub spot_at-withdrawn_same : (set : Spots) (i : ℕ) → spot_at (withdrawn set i) i ≡ None
spot_at-withdrawn_same set i = elim (cases_lt i (length set)) [
  | inl lt ↦ get_or-set_same set i None None lt
  | inr le ↦ get_or_past (withdrawn set i) i None (rw (length-set set i None) le)
]

pub at_withdrawn : (set : Spots) (i k : ℕ) (t : Spot) → IsAt (withdrawn set i) k t → IsAt set k t
at_withdrawn set i k t at = elim (cases_eq k i) [
  | inl e ↦ absurd (none-some t (sym (spot_at-withdrawn_same set i)
      ∙ ap (λ (x : ℕ). spot_at (withdrawn set i) x) (sym e) ∙ at))
  | inr ne ↦ sym (spot_at-withdrawn_other set i k ne) ∙ at
]

pub taking_none : (block : List Insn) (set : Spots) (i : ℕ) (who : Who) (n : ℕ) → IsLawful block set → n ≡ length block
    → IsTakingOut block set i who n set []
taking_none block set i who n lawful all = record {
  whole = λ rest w. subst (λ (m : ℕ). WithdrawsBelow block set i who m rest) all w;
  legal = tt;
  spots = refl;
  lawful = lawful;
  sub = λ k t at. at;
  below = λ k lt. refl;
  gone = λ k le f.
      let t = value_of_some (spot_at set k) f.taken in
      let within = at_in block set k t.0 lawful.sized t.1 in
      absurd (omega (arith, le, all, within));
}

pub taking_skip : (block : List Insn) (set now : Spots) (i j m : ℕ) (who : Who) (es : List Entry) → m ≡ suc j
    → (GoesWith block set i j → ⊥)
    → IsTakingOut block set i who m now es → IsTakingOut block set i who j now es
taking_skip block set now i j m who es at not r = record {
  whole = λ rest w. r.whole rest (subst (λ (n : ℕ). WithdrawsBelow block set i who n rest) (sym at) (inr (not, w)));
  legal = r.legal;
  spots = r.spots;
  lawful = r.lawful;
  sub = r.sub;
  below = λ k lt. r.below k (omega (arith, at));
  gone = λ k le f. elim (cases_eq k j) [
    | inl e ↦ absurd (not (subst (λ (x : ℕ). GoesWith block set i x) e f))
    | inr ne ↦ r.gone k (omega (arith, at)) f
  ];
}

-- the next number that goes with i may be taken out
pub may_take : (block : List Insn) (set now : Spots) (i j m : ℕ) (who : Who) (es : List Entry) → m ≡ suc j
    → j < length block
    → GoesWith block set i j → IsTakingOut block set i who m now es → PermitsWithdraw block now j
may_take block set now i j m who es at within f r = record {
  within = within;
  taken = rw (r.below j (omega (arith, at))) f.taken;
  last = λ k dep. not_there (spot_at now k) (λ t there.
      let after : j < k = before block j k dep in
      let g : GoesWith block set i k = record
      { taken = some_is (spot_at set k) t (r.sub k t there); led = more j k f.led dep } in
      none-some t (sym (r.gone k (omega (arith, at, after)) g) ∙ there));
}

pub taking_take : (block : List Insn) (set now : Spots) (i j m : ℕ) (who : Who) (es : List Entry) → m ≡ suc j
    → j < length block
    → GoesWith block set i j → IsTakingOut block set i who m now es
    → IsTakingOut block set i who j (withdrawn now j) (es ++ Withdraw j who ∷ [])
taking_take block set now i j m who es at within f r =
    let may : PermitsWithdraw block now j = may_take block set now i j m who es at within f r in
    record {
      whole = λ rest w. rw append_assoc (r.whole (Withdraw j who ∷ rest)
          (subst (λ (n : ℕ). WithdrawsBelow block set i who n (Withdraw j who ∷ rest)) (sym at)
          (inl (f, (rest, refl, w)))));
      legal = legal_more block set now es (Withdraw j who) r.spots r.legal may;
      spots = sym (replayed_more set now es (Withdraw j who) r.spots);
      lawful = lawful_after block now (Withdraw j who) r.lawful may;
      sub = λ k t there. r.sub k t (at_withdrawn now j k t there);
      below = λ k lt. spot_at-withdrawn_other now j k (omega arith) ∙ r.below k (omega (arith, at));
      gone = λ k le g. elim (cases_eq k j) [
        | inl e ↦ ap (λ (x : ℕ). spot_at (withdrawn now j) x) e ∙ spot_at-withdrawn_same now j
        | inr ne ↦ spot_at-withdrawn_other now j k ne ∙ r.gone k (omega (arith, at)) g
      ];
    }

pub taking_all : (block : List Insn) (set now : Spots) (i m : ℕ) (who : Who) (es : List Entry) → m ≡ 0
    → IsTakingOut block set i who m now es
    → Withdraws block set i who es
taking_all block set now i m who es at r =
    subst (λ (xs : List Entry). Withdraws block set i who xs) (append-nil es)
    (r.whole [] (subst (λ (n : ℕ). WithdrawsBelow block set i who n []) (sym at) refl))
