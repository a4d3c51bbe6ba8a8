-- Landings moved, and landings behind others.
use Rattle.std.proofs.Common.{◌≡◌, ℕ, ◌+◌, ◌*◌, ◌<◌, ◌≤◌, Bool, true, false, cond, eqb, ltb, ◌&&◌, List, [], ◌∷◌, ◌++◌}
use Rattle.std.proofs.Common.{map, Option, Some, None, refl, sym, ◌∙◌, ap, subst, inl, inr, arith}
use Rattle.std.specs.Prelude.{option_map}
use Rattle.std.specs.List.{flat_map}
use Rattle.std.specs.Option.{option_or}
use Rattle.std.proofs.lemmas.Bool.{lt-ltb, le-ltb, cond-false}
use Rattle.std.proofs.lemmas.List.{append-nil, map-append}
use Rattle.c62_op.specs.declared.register.Reg.{Reg}
use Rattle.c62_insn.specs.declared.effect.Access.{Access as MemoryAccess}
use Rattle.c62_packet.specs.declared.placed.Placed.{Placed}
use Rattle.c62_meaning.specs.Landing.{Landing, later, latest, value_or, value_before}
use Rattle.c62_meaning.specs.Packet.{Did, write_landing, byte_landings, access_landings, access_time}
use Rattle.c62_meaning.specs.Packet.{register_landings, memory_landings}
use Rattle.c62_meaning.specs.Cut.{moved, since}
use Rattle.c62_meaning.proofs.Lookup.{In, latest-append, latest-late}

-- ---- landings moved, and landings behind others

abbrev pub moved_landing : ℕ → Landing → Landing
moved_landing t w = record w { time = t + w.time }

pub ltb_moved : (t a b : ℕ) → ltb (t + a) (t + b) ≡ ltb a b
ltb_moved t a b = grind arith

latest_moved : (cell t u : ℕ) (ls : List Landing)
    → latest cell (t + u) (map (moved_landing t) ls) ≡ option_map (moved_landing t) (latest cell u ls)
latest_moved cell t u [] = refl
latest_moved cell t u (x ∷ xs) = grind (arith, latest_moved cell t u xs)

-- what lands behind is seen first
latest_behind : (cell t u : ℕ) (es ls : List Landing) → ((w : Landing) → In w es → w.time < t)
    → latest cell (t + u) (es ++ map (moved_landing t) ls) ≡ option_or (option_map (moved_landing t) (latest cell u ls))
    (latest cell t es)
latest_behind cell t u [] ls h = latest_moved cell t u ls ∙ none (option_map (moved_landing t) (latest cell u ls))
  where
    none : (o : Option Landing) → o ≡ option_or o None
    none None = refl
    none (Some w) = refl
latest_behind cell t u (e ∷ es) ls h =
    let l : e.time < t = h e (inl refl) in
    let a : ltb e.time t ≡ true = lt-ltb e.time t l in
    let b : ltb e.time (t + u) ≡ true = lt-ltb e.time (t + u) (omega arith) in
    rw (a, b, latest_behind cell t u es ls (λ w k. h w (inr k)))
    (either l (eqb e.cell cell) (latest cell u ls) (latest cell t es))
  where
    either : e.time < t → (b : Bool) (o early : Option Landing)
        → cond (b && true) (Some (later e (option_or (option_map (moved_landing t) o) early)))
        (option_or (option_map (moved_landing t) o) early)
        ≡ option_or (option_map (moved_landing t) o) (cond (b && true) (Some (later e early)) early)
    either l true None early = refl
    either l true (Some w) early = ap Some
        (cond-false _ e (moved_landing t w) (le-ltb (t + w.time) e.time (omega arith)))
    either l false o early = refl

pub value_behind : (cell t u : ℕ) (es ls : List Landing) (old : ℕ) → ((w : Landing) → In w es → w.time < t)
    → value_before cell (t + u) (es ++ map (moved_landing t) ls) old ≡ value_before cell u ls
    (value_before cell t es old)
value_behind cell t u es ls old h = grind (arith, latest_behind cell t u es ls h)

-- up to the cut nothing that lands behind is seen
pub value_ahead : (cell t u : ℕ) (es ls : List Landing) (old : ℕ) → u ≤ t
    → value_before cell u (es ++ map (moved_landing t) ls) old ≡ value_before cell u es old
value_ahead cell t u es ls old l =
    ap (λ o. value_or o old) (latest-append cell u es (map (moved_landing t) ls) [] none
    ∙ ap (λ xs. latest cell u xs) (append-nil es))
  where
    after : (ls : List Landing) (w : Landing) → In w (map (moved_landing t) ls) → u ≤ w.time
    after [] w h = absurd h
    after (x ∷ xs) w h = grind (arith, after xs w)

    none : latest cell u (map (moved_landing t) ls) ≡ None
    none =
        subst (λ xs. latest cell u xs ≡ None) (append-nil (map (moved_landing t) ls))
        (latest-late cell u (map (moved_landing t) ls) [] (after ls))

-- ---- the landings of instructions moved

writes_moved : (t cycle : ℕ) (ws : List ((Reg × ℕ) × ℕ))
    → map (write_landing (t + cycle)) ws ≡ map (moved_landing t) (map (write_landing cycle) ws)
writes_moved t cycle [] = refl
writes_moved t cycle (w ∷ ws) = grind (arith, writes_moved t cycle ws)

pub registers_moved : (t : ℕ) (did : Did) (ps : List Placed)
    → flat_map (register_landings did) (map (moved t) ps) ≡ map (moved_landing t)
    (flat_map (register_landings (since t did)) ps)
registers_moved t did [] = refl
registers_moved t did (p ∷ ps) =
    rw (writes_moved t p.cycle (did (moved t p)).writes, registers_moved t did ps)
    (sym (map-append (moved_landing t) (register_landings (since t did) p)
    (flat_map (register_landings (since t did)) ps)))

bytes_moved : (t time address : ℕ) (bytes : List ℕ)
    → byte_landings (t + time) address bytes ≡ map (moved_landing t) (byte_landings time address bytes)
bytes_moved t time address [] = refl
bytes_moved t time address (b ∷ bs) = rw (bytes_moved t time (address + 1) bs) refl

access_moved : (t time : ℕ) (o : Option MemoryAccess)
    → access_landings (t + time) o ≡ map (moved_landing t) (access_landings time o)
access_moved t time o = grind (arith, bytes_moved)

pub memory_moved : (t : ℕ) (did : Did) (ps : List Placed)
    → flat_map (memory_landings did) (map (moved t) ps) ≡ map (moved_landing (8 * t))
    (flat_map (memory_landings (since t did)) ps)
memory_moved t did [] = refl
memory_moved t did (p ∷ ps) =
    let e : access_time (moved t p) ≡ 8 * t + access_time p = omega arith in
    rw (e, access_moved (8 * t) (access_time p) (did (moved t p)).access, memory_moved t did ps)
    (sym (map-append (moved_landing (8 * t)) (memory_landings (since t did) p)
    (flat_map (memory_landings (since t did)) ps)))
