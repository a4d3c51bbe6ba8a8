-- What is asked of two places of a path is asked of them in the path of a pass fewer.
use Rattle.std.proofs.Common.{◌≡◌, ℕ, suc, ◌+◌, ◌<◌, ◌≤◌, ℤ, length, Some, sym, ◌∙◌, ap, inl, arith}
use Rattle.std.specs.Prelude.{slice_get}
use Rattle.std.proofs.lemmas.Option.{slice_get_within}
use Rattle.c62_insn.specs.declared.insn.Insn.{Insn}
use Rattle.c62_meaning.specs.Instances.{IsOfMemory, DataBounds}
use Rattle.c62_loop.specs.Stage.{Straights, insns_of}
use Rattle.c62_loop.proofs.Between.{asked_there}
use Rattle.c62_loop.proofs.Parts.{begin, part, part_at}
use Rattle.c62_loop.proofs.Numbers.{Place, place}

-- Each that stands from the first place on and before the second, in the longer path, stands so in the shorter.
abbrev pub Covered : Straights → ℕ → ℕ → ℕ → ℕ → ℕ → ℕ → ℕ → Type 0
Covered straights trips s a r b s' r' = (t c : ℕ) → t ≤ suc (suc trips) → c < length (part straights (suc trips) t)
    → begin straights s + a ≤ begin straights t + c → begin straights t + c < begin straights r + b
    → (t' : ℕ) × (t' ≤ suc trips) × (part straights (suc trips) t ≡ part straights trips t')
    × (begin straights s' + a ≤ begin straights t' + c)
    × (begin straights t' + c < begin straights r' + b)

pub within_small : (straights : Straights) (trips t c t' : ℕ) → part straights (suc trips) t ≡ part straights trips t'
    → c < length (part straights (suc trips) t)
    → c < length (part straights trips t')
within_small straights trips t c t' same l = grind arith

module _ (straights : Straights) (trips : ℕ) (s a r b s' r' : ℕ) (in_s : s ≤ suc (suc trips))
    (in_r : r ≤ suc (suc trips)) (in_s' : s' ≤ suc trips)
    (in_r' : r' ≤ suc trips)
    (same_s : part straights (suc trips) s ≡ part straights trips s')
    (same_r : part straights (suc trips) r ≡ part straights trips r')
    (in_a : a < length (part straights (suc trips) s)) (in_b : b < length (part straights (suc trips) r))
    (lt : begin straights s + a < begin straights r + b) (lt' : begin straights s' + a < begin straights r' + b)
    (covered : Covered straights trips s a r b s' r') where
  same_at : (t c t' : ℕ) → t ≤ suc (suc trips) → t' ≤ suc trips → part straights (suc trips) t ≡ part straights trips t'
      → c < length (part straights (suc trips) t)
      → slice_get (insns_of straights (suc trips)) (begin straights t + c) ≡ slice_get (insns_of straights trips)
      (begin straights t' + c)
  same_at t c t' in_t in_t' same l =
      let n : length (part straights (suc trips) t) ≡ length (part straights trips t') = ap length same in
      part_at straights (suc trips) t c in_t l ∙ ap (λ xs. slice_get xs c) same
      ∙ sym (part_at straights trips t' c in_t' (omega arith))

  pub asked_small : (bound : ℤ)
      (d : DataBounds (insns_of straights (suc trips)) (begin straights s + a) (begin straights r + b) bound)
      → (e : DataBounds (insns_of straights trips) (begin straights s' + a) (begin straights r' + b) bound)
      × (e.bounds.first ≡ d.bounds.first) × (e.bounds.second ≡ d.bounds.second)
      × (IsOfMemory e.bounds.applies → IsOfMemory d.bounds.applies)
  asked_small bound asked =
      asked_there (insns_of straights (suc trips)) (insns_of straights trips) (begin straights s + a)
      (begin straights r + b)
      (begin straights s' + a) (begin straights r' + b) lt lt'
      (same_at s a s' in_s in_s' same_s in_a) (same_at r b r' in_r in_r' same_r in_b)
      (λ k insn low high at. inl (between k insn low high at)) bound asked
    where
      between : (k : ℕ) (insn : Insn) → begin straights s + a ≤ k → k < begin straights r + b
          → slice_get (insns_of straights (suc trips)) k ≡ Some insn
          → (n : ℕ) × (begin straights s' + a ≤ n) × (n < begin straights r' + b)
          × (slice_get (insns_of straights trips) n ≡ Some insn)
      between k insn low high at =
          let w : Place straights (suc trips) k = place straights (suc trips) k
          (slice_get_within (insns_of straights (suc trips)) k insn at) in
          let is : k ≡ begin straights w.part_number + w.number = w.is in
          let f = covered w.part_number w.number w.there w.within (omega arith) (omega arith) in (
            begin straights f.0 + w.number,
            f.3,
            f.4,
            sym (same_at w.part_number w.number f.0 w.there f.1 f.2 w.within)
                ∙ ap (λ n. slice_get (insns_of straights (suc trips)) n) (sym is) ∙ at,
          )
