-- Packets that are cut run as their parts one after the other.
use Rattle.std.proofs.Common.{◌≡◌, ℕ, ◌+◌, ◌-◌, ◌*◌, ◌<◌, ◌≤◌, true, List, [], ◌∷◌, map, refl, sym, ◌∙◌}
use Rattle.std.proofs.Common.{subst, ◌⊎◌, inl, inr, arith}
use Rattle.std.specs.Prelude.{◌↔◌, Contains}
use Rattle.std.specs.List.{flat_map}
use Rattle.c62_op.specs.declared.register.Reg.{Reg}
use Rattle.c62_serial.specs.State.{Machine, index_of, word_in, byte_in}
use Rattle.c62_serial.specs.Effect.{act_of, is_fault}
use Rattle.c62_packet.specs.declared.placed.Placed.{Placed}
use Rattle.c62_meaning.specs.Packet.{Did, register_landings, memory_landings, word_before, byte_before, IsRun}
use Rattle.c62_meaning.specs.Meaning.{HasFaulted, LeavesState}
use Rattle.c62_meaning.specs.Cut.{HaveLanded, RunsTo, moved, since, sooner, behind}
use Rattle.c62_meaning.proofs.Lookup.{In, In_from_Contains, Contains_from_In, In-append_left, In-append_right}
use Rattle.c62_meaning.proofs.Lookup.{In-append_cases}
use Rattle.c62_meaning.proofs.Acting.{act_same}
use Rattle.c62_meaning.proofs.Instances.{in_map}
use Rattle.c62_meaning.proofs.MovedLandings.{value_behind}
use Rattle.c62_meaning.proofs.CutWords.{from_map, words_split, bytes_split, word_ahead, byte_ahead, words_landed}
use Rattle.c62_meaning.proofs.CutWords.{bytes_landed, within}

-- ---- the cut

-- what runs early, and what it leaves by the cut, sound or not
pub record IsLeft (t : ℕ) (early : List Placed) (opening : Machine) (did : Did) (middle : Machine) : Type 0 where
  pub run : IsRun early opening did
  pub base : middle.base ≡ opening.base
  pub words : (reg : Reg) → word_in middle reg ≡ word_before early opening did t reg
  pub bytes : (a : ℕ) → a < 65536 → byte_in middle a ≡ byte_before early opening did t a
  pub faults : (line : ℕ) → Contains middle.faults line ↔ (Contains opening.faults line ⊎ HasFaulted early did line)

left_by : (t : ℕ) (early : List Placed) (opening : Machine) (did : Did) (middle : Machine)
    → RunsTo early t opening did middle → IsLeft t early opening did middle
left_by t early opening did middle r = grind arith

-- back and on again
pub moved_back : (t : ℕ) (ps : List Placed) → ((p : Placed) → In p ps → t ≤ p.cycle)
    → map (moved t) (map (sooner t) ps) ≡ ps
moved_back t [] h = refl
moved_back t (p ∷ ps) h =
    let l : t ≤ p.cycle = h p (inl refl) in
    let e : t + (p.cycle - t) ≡ p.cycle = omega arith in
    rw (e, moved_back t ps (λ q k. h q (inr k))) refl

module _ (t : ℕ) (early late : List Placed) where
  in_early : (p : Placed) → Contains early p → Contains (behind t early late) p
  in_early p h = Contains_from_In p (behind t early late)
      (In-append_left p early (map (moved t) late) (In_from_Contains p early h))

  in_late : (p : Placed) → Contains late p → Contains (behind t early late) (moved t p)
  in_late p h =
      Contains_from_In (moved t p) (behind t early late)
      (In-append_right (moved t p) early (map (moved t) late) (in_map (moved t) p late (In_from_Contains p late h)))

  -- what stands in the whole stands in one of both
  pub in_one : (p : Placed) → Contains (behind t early late) p → Contains early p
      ⊎ ((q : Placed) × Contains late q × (moved t q ≡ p))
  in_one p h =
      elim (In-append_cases p early (map (moved t) late) (In_from_Contains p (behind t early late) h)) [
        | inl k ↦ inl (Contains_from_In p early k)
        | inr k ↦ (let r = from_map (moved t) p late k in inr (r.0, Contains_from_In r.0 late r.1, r.2))
      ]

  module _ (did : Did) where
    pub faulted_split : (line : ℕ) → HasFaulted (behind t early late) did line → HasFaulted early did line
        ⊎ HasFaulted late (since t did) line
    faulted_split line h =
        elim (in_one h.placed h.inside) [
          | inl k ↦ inl (record { placed = h.placed; inside = k; of_line = h.of_line; faults = h.faults })
          | inr r ↦ inr (record {
            placed = r.0;
            inside = r.1;
            of_line = subst (λ (q : Placed). q.line ≡ line) (sym r.2) h.of_line;
            faults = subst (λ (q : Placed). is_fault (did q).access ≡ true) (sym r.2) h.faults;
          })
        ]

    pub faulted_both : (line : ℕ) → HasFaulted early did line ⊎ HasFaulted late (since t did) line
        → HasFaulted (behind t early late) did line
    faulted_both line (inl h) = record
        { placed = h.placed; inside = in_early h.placed h.inside; of_line = h.of_line; faults = h.faults }
    faulted_both line (inr h) = record
        { placed = moved t h.placed; inside = in_late h.placed h.inside; of_line = h.of_line; faults = h.faults }

-- what is issued by t doesn't see what is issued from then on, whether or not it has landed
module _ (t : ℕ) (early late : List Placed) (opening : Machine) (did : Did) where
  act_ahead : (p : Placed) → p.cycle ≤ t
      → act_of p.insn opening.base (word_before (behind t early late) opening did p.cycle)
      (byte_before (behind t early late) opening did p.cycle)
      ≡ act_of p.insn opening.base (word_before early opening did p.cycle) (byte_before early opening did p.cycle)
  act_ahead p l =
      act_same p.insn opening.base opening.base (word_before (behind t early late) opening did p.cycle)
      (word_before early opening did p.cycle)
      (byte_before (behind t early late) opening did p.cycle) (byte_before early opening did p.cycle) refl
      (λ reg _. word_ahead t early late opening did p.cycle reg l)
      (λ a _. byte_ahead t early late opening did p.cycle a l)

  -- so a run of the whole begins as one of the early
  pub begins : ((p : Placed) → Contains early p → p.cycle ≤ t) → IsRun (behind t early late) opening did
      → IsRun early opening did
  begins by run p h = run p (in_early t early late p h) ∙ act_ahead p (by p h)

module _ (t : ℕ) (early late : List Placed) (opening : Machine) (did : Did) (have : HaveLanded t early did) where
  -- what is early runs, and leaves this machine at the cut
  module _ (middle : Machine) (first : IsLeft t early opening did middle) where
    word_behind : (u : ℕ) (reg : Reg)
        → word_before (behind t early late) opening did (t + u) reg ≡ word_before late middle (since t did) u reg
    word_behind u reg = grind (
      arith,
      words_split t early late opening did reg (t + u),
      value_behind (index_of reg) t u (flat_map (register_landings did) early) (flat_map (register_landings (since t
          did)) late) (word_in opening reg) (words_landed t early did have),
      words_landed t early did have,
    )

    byte_behind : (u a : ℕ) → a < 65536
        → byte_before (behind t early late) opening did (t + u) a ≡ byte_before late middle (since t did) u a
    byte_behind u a l = grind (
      arith,
      bytes_split t early late opening did a (t + u),
      value_behind a (8 * t) (8 * u) (flat_map (memory_landings did) early) (flat_map (memory_landings (since t did))
          late) (byte_in opening a) (bytes_landed t early did have),
      bytes_landed t early did have,
    )

    act_behind : (p : Placed)
        → act_of p.insn opening.base (word_before (behind t early late) opening did (t + p.cycle))
        (byte_before (behind t early late) opening did (t + p.cycle))
        ≡ act_of p.insn middle.base (word_before late middle (since t did) p.cycle)
        (byte_before late middle (since t did) p.cycle)
    act_behind p =
        act_same p.insn opening.base middle.base (word_before (behind t early late) opening did (t + p.cycle))
        (word_before late middle (since t did) p.cycle)
        (byte_before (behind t early late) opening did (t + p.cycle)) (byte_before late middle (since t did) p.cycle)
        (sym first.base)
        (λ reg _. word_behind p.cycle reg)
        (λ a loads. byte_behind p.cycle a (within p.insn middle.base (word_before late middle (since t did) p.cycle)
        a loads))

    -- the run of the whole is then that of the late
    goes_on : IsRun (behind t early late) opening did ↔ IsRun late middle (since t did)
    goes_on = (
      (λ run p h. run (moved t p) (in_late t early late p h) ∙ act_behind p),
      (λ run q h. elim (in_one t early late q h) [
        | inl k ↦ first.run q k
            ∙ sym (act_ahead t early late opening did q (let l : q.cycle < t = have.before q k in omega arith))
        | inr r ↦ subst (λ z. did z ≡ act_of z.insn opening.base (word_before (behind t early late) opening did z.cycle)
            (byte_before (behind t early late) opening did z.cycle)) r.2
            (run r.0 r.1 ∙ sym (act_behind r.0))
      ]),
    )

    -- the lines that faulted before and in the whole are those that did by the cut, and behind it
    lines_on : (line : ℕ)
        → (Contains opening.faults line ⊎ HasFaulted (behind t early late) did line) ↔ (Contains middle.faults line
        ⊎ HasFaulted late (since t did) line)
    lines_on line = (
      (λ c. elim c [
        | inl q ↦ inl ((first.faults line).1 (inl q))
        | inr q ↦ elim (faulted_split t early late did line q)
            [ inl f ↦ inl ((first.faults line).1 (inr f)) | inr f ↦ inr f ]
      ]),
      (λ c. elim c [
        | inl q ↦ elim ((first.faults line).0 q)
            [ inl f ↦ inl f | inr f ↦ inr (faulted_both t early late did line (inl f)) ]
        | inr q ↦ inr (faulted_both t early late did line (inr q))
      ]),
    )

    -- and it leaves what that leaves
    leaves_on : (cycles : ℕ) (final : Machine)
        → LeavesState (behind t early late) (t + cycles) opening did final ↔ LeavesState late cycles middle
        (since t did) final
    leaves_on cycles final = (
      (λ h. record {
        sound = h.sound;
        base = h.base ∙ sym first.base;
        words = λ reg. h.words reg ∙ word_behind cycles reg;
        bytes = λ a l. h.bytes a l ∙ byte_behind cycles a l;
        faults = λ line. (
          (λ c. (lines_on line).0 ((h.faults line).0 c)),
          (λ c. (h.faults line).1 ((lines_on line).1 c)),
        );
      }),
      (λ h. record {
        sound = h.sound;
        base = h.base ∙ first.base;
        words = λ reg. h.words reg ∙ sym (word_behind cycles reg);
        bytes = λ a l. h.bytes a l ∙ sym (byte_behind cycles a l);
        faults = λ line. (
          (λ c. (lines_on line).1 ((h.faults line).0 c)),
          (λ c. (h.faults line).1 ((lines_on line).0 c)),
        );
      }),
    )

    pub runs_on : (cycles : ℕ) (final : Machine)
        → RunsTo (behind t early late) (t + cycles) opening did final ↔ RunsTo late cycles middle (since t did)
        final
    runs_on cycles final = grind (arith, goes_on, leaves_on cycles final)

  pub on : (middle : Machine) (cycles : ℕ) (final : Machine) → RunsTo early t opening did middle
      → RunsTo (behind t early late) (t + cycles) opening did final ↔ RunsTo late cycles middle (since t did) final
  on middle cycles final r = runs_on middle (left_by t early opening did middle r) cycles final
