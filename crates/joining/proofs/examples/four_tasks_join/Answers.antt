use Rattle.std.proofs.Common.{[], ◌∷◌, refl, inl, inr}
use Rattle.joining.proofs.examples.four_tasks_join.Goals as goal

pub returns : goal.returns
returns c = record {
  first = refl;
  whole = refl;
  back = refl;
  circle = λ convex. convex 1 (2 ∷ []) (
    refl,
    (
      record { message = record { from = 1; to = 2; size = 1 }; known = inl refl; leaves = refl; comes = refl },
      (record { message = record { from = 2; to = 1; size = 1 }; known = inr (inr (inl refl)); leaves = refl; comes = refl }, tt),
    ),
  );
}
