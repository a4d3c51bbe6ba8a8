-- No interval is shorter than what shares and circles ask for.
use Rattle.std.proofs.Common.{arith, ◌≡◌, ℕ, ◌*◌, ◌<◌, ◌≤◌, inl, inr, ⊎_elim}
use Rattle.std.proofs.lemmas.Bool.{cases_lt}
use Rattle.c62_loop.specs.Loop.{Region, interval}
use Rattle.c62_loop_match.specs.declared.promise.Promise.{Promise}
use Rattle.c62_loop_match.specs.Promise.{promises}
use Rattle.c62_loop_bound.specs.Share.{width_of, taken_of, cycles_of}
use Rattle.c62_loop_bound.specs.Least.{body_of, NoIntervalIsShorter}
use Rattle.c62_loop_bound.proofs.Walks.{few_rounds, circle_below}
use Rattle.c62_loop_bound.proofs.Taken.{share_fits}

pub none_shorter : (promise : Promise) (region : Region) (cycles : ℕ) → NoIntervalIsShorter promise region cycles
none_shorter promise region cycles asked loop most decided rows =
    ⊎_elim {C = cycles ≤ interval loop} some (λ (none : cycles ≤ 0). omega (arith, none)) (cases_lt 0 cycles)
  where
    some : 0 < cycles → cycles ≤ interval loop
    some l = elim (asked.attained l) [
      | inl by ↦
          (let fits : taken_of region.counter (body_of region) by.share ≤ width_of by.share * interval loop
          = share_fits promise region decided.counts loop most decided.pipelines decided.stands rows by.share in
          let rounds : cycles_of region.counter (body_of region) by.share ≤ interval loop
          = few_rounds (taken_of region.counter (body_of region) by.share) (width_of by.share) (interval loop) by.some
          fits in
          let is : cycles ≡ cycles_of region.counter (body_of region) by.share = by.is in
          omega (arith, rounds, is))
      | inr by ↦ circle_below (promises promise) region loop most decided.pipelines cycles by
    ]
