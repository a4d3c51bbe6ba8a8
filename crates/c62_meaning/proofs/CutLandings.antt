-- Behind a drained cut the writes of a register land one by one where they do on each side of it.
use Rattle.std.proofs.Common.{◌≡◌, ℕ, zero, suc, ◌+◌, ◌-◌, ◌<◌, ◌≤◌, List, [], ◌∷◌, ◌++◌, length, map, Some, refl, sym}
use Rattle.std.proofs.Common.{◌∙◌, ap, subst, ◌⊎◌, inl, inr, arith}
use Rattle.std.specs.Prelude.{option_map}
use Rattle.std.specs.List.{slice_get}
use Rattle.std.proofs.lemmas.Option.{none-some, same_Some, slice_get-map}
use Rattle.c62_op.specs.declared.register.Reg.{Reg}
use Rattle.c62_packet.specs.declared.placed.Placed.{Placed}
use Rattle.c62_meaning.specs.Packet.{Did}
use Rattle.c62_meaning.specs.Landed.{HasLanded, LandOneByOne}
use Rattle.c62_meaning.specs.Cut.{HaveLanded, LandedCuts, moved, since, behind, DrainedCuts}
use Rattle.c62_meaning.proofs.Lookup.{Contains_from_In}
use Rattle.c62_meaning.proofs.OneByOne.{inside_at}
use Rattle.c62_meaning.proofs.Cuts.{begins, faulted_split, faulted_both}
use Rattle.c62_meaning.proofs.CutWords.{drained_before, drained_landed}
use Rattle.c62_meaning.proofs.JoinedRuns.{splits, joins}

get_cases : {X : Type 0} (xs ys : List X) (i : ℕ) (x : X) → slice_get (xs ++ ys) i ≡ Some x
    → (slice_get xs i ≡ Some x) ⊎ ((k : ℕ) × (i ≡ length xs + k) × (slice_get ys k ≡ Some x))
get_cases [] ys i x e = inr (i, omega arith, e)
get_cases (y ∷ xs) ys i x e = grind (arith, get_cases xs ys)

get_left : {X : Type 0} (xs ys : List X) (i : ℕ) (x : X) → slice_get xs i ≡ Some x → slice_get (xs ++ ys) i ≡ Some x
get_left [] ys i x e = absurd (none-some x e)
get_left (y ∷ xs) ys i x e = grind (arith, get_left xs ys)

get_right : {X : Type 0} (xs ys : List X) (k : ℕ) (x : X) → slice_get ys k ≡ Some x
    → slice_get (xs ++ ys) (length xs + k) ≡ Some x
get_right [] ys k x e = let s : k ≡ 0 + k = omega arith in subst (λ i. slice_get ys i ≡ Some x) s e
get_right (y ∷ xs) ys k x e = grind (arith, get_right xs ys k x e)

get_moved : (t : ℕ) (ps : List Placed) (k : ℕ) (q : Placed) → slice_get (map (moved t) ps) k ≡ Some q → (p : Placed)
    × (slice_get ps k ≡ Some p) × (moved t p ≡ q)
get_moved t [] k q e = absurd (none-some q e)
get_moved t (p ∷ ps) zero q e = (p, refl, same_Some (moved t p) q e)
get_moved t (p ∷ ps) (suc k) q e = get_moved t ps k q e

moved_get : (t : ℕ) (ps : List Placed) (k : ℕ) (p : Placed) → slice_get ps k ≡ Some p
    → slice_get (map (moved t) ps) k ≡ Some (moved t p)
moved_get t ps k p e = slice_get-map (moved t) ps k ∙ ap (option_map (moved t)) e

module _ (t : ℕ) (did : Did) (p : Placed) (reg : Reg) where
  landed_late : (cycle : ℕ) → HasLanded (since t did) p reg cycle → HasLanded did (moved t p) reg (t + cycle)
  landed_late cycle h = grind arith

  landed_since : (cycle : ℕ) → HasLanded did (moved t p) reg cycle → (t ≤ cycle)
      × HasLanded (since t did) p reg (cycle - t)
  landed_since cycle h = grind arith

module _ (t : ℕ) (early late : List Placed) (did : Did) where
  one_in_both : HaveLanded t early did → LandOneByOne early did × LandOneByOne late (since t did)
      → LandOneByOne (behind t early late) did
  one_in_both have one i j p q reg cycle at_p at_q h k =
      elim (get_cases early (map (moved t) late) i p at_p) [
        | inl a ↦ elim (get_cases early (map (moved t) late) j q at_q) [
          | inl b ↦ one.0 i j p q reg cycle a b h k
          | inr b ↦ absurd (apart p q i b.0 a b.2 h k)
        ]
        | inr a ↦ elim (get_cases early (map (moved t) late) j q at_q) [
          | inl b ↦ absurd (apart q p j a.0 b a.2 k h)
          | inr b ↦ (let e : a.0 ≡ b.0 = both p q a.0 b.0 a.2 b.2 h k in a.1 ∙ ap (λ n. length early + n) e ∙ sym b.1)
        ]
      ]
    where
      apart : (p q : Placed) (i k : ℕ) → slice_get early i ≡ Some p → slice_get (map (moved t) late) k ≡ Some q
          → HasLanded did p reg cycle → HasLanded did q reg cycle → ⊥
      apart p q i k a b h l =
          let r = get_moved t late k q b in
          let time : p.cycle + h.delay ≡ cycle = h.lands in
          let low : p.cycle + h.delay < t = have.landed p ((reg, h.delay), h.value)
          (Contains_from_In p early (inside_at early i p a)) h.writes in
          let high : t ≤ cycle =
          (landed_since t did r.0 reg cycle (subst (λ z. HasLanded did z reg cycle) (sym r.2) l)).0 in
          omega arith

      both : (p q : Placed) (i k : ℕ) → slice_get (map (moved t) late) i ≡ Some p
          → slice_get (map (moved t) late) k ≡ Some q → HasLanded did p reg cycle → HasLanded did q reg cycle
          → i ≡ k
      both p q i k a b h l =
          let r = get_moved t late i p a in
          let s = get_moved t late k q b in
          one.1 i k r.0 s.0 reg (cycle - t) r.1 s.1
          (landed_since t did r.0 reg cycle (subst (λ z. HasLanded did z reg cycle) (sym r.2) h)).1
          (landed_since t did s.0 reg cycle (subst (λ z. HasLanded did z reg cycle) (sym s.2) l)).1

  one_in_each : LandOneByOne (behind t early late) did → LandOneByOne early did × LandOneByOne late (since t did)
  one_in_each one = (
    (λ i j p q reg cycle a b h k. one i j p q reg cycle (get_left early (map (moved t) late) i p a)
        (get_left early (map (moved t) late) j q b) h k),
    (λ i j p q reg cycle a b h k.
        let e : length early + i ≡ length early + j
        = one (length early + i) (length early + j) (moved t p) (moved t q) reg (t + cycle)
        (get_right early (map (moved t) late) i (moved t p) (moved_get t late i p a))
        (get_right early (map (moved t) late) j (moved t q) (moved_get t late j q b))
        (landed_late t did p reg cycle h) (landed_late t did q reg cycle k) in
        omega arith),
  )

pub landed_cuts : (t : ℕ) (early late : List Placed) → LandedCuts t early late
landed_cuts t early late = record {
  splits = splits t early late;
  joins = joins t early late;
  faults = λ did line. (faulted_split t early late did line, faulted_both t early late did line);
  one_by_one = λ opening did have run. (one_in_each t early late did, one_in_both t early late did have);
}

pub drained_cuts : (t : ℕ) (early late : List Placed) → DrainedCuts t early late
drained_cuts t early late =
    let cut = landed_cuts t early late in
    record {
      splits = λ opening cycles did final sound drained r.
          cut.splits opening cycles did final sound
          (drained_landed t early opening did drained
          (begins t early late opening did
          (λ p h. let l : p.cycle < t = drained_before t early opening did drained p h in omega arith) r.run))
          r;
      joins = λ opening middle cycles first second final drained one other.
          cut.joins opening middle cycles first second final (drained_landed t early opening first drained one.run) one
          other;
      faults = cut.faults;
      one_by_one = λ opening did drained run. cut.one_by_one opening did
          (drained_landed t early opening did drained run) run;
    }
