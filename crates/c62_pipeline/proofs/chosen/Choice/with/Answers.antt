use Rattle.std.proofs.Common.{◌≡◌, ℕ, ◌+◌, refl, sym, ap}
use Rattle.c62_pipeline.proofs.chosen.Choice.with.Goals as goal

pub returns : goal.returns
returns c = λ promise region trips longest same is. (
  sym same,
  record {
    trips = trips;
    longest = longest;
    is = is;
    takes = refl;
    enters = ap (λ (n : ℕ). n + 1) c.from.ensures;
    shown = c.shortness-shortness.ensures promise region trips longest is;
  },
  tt,
)
