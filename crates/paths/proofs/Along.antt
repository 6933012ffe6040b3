-- A path cut in two, and the model's answer from its parts. Assumes nothing.
use mathlib.Core.Path.{◌≡◌, refl, sym, ap, ◌∙◌}
use mathlib.Core.Bool.{Bool, true, false, not, cond, ◌&&◌}
use mathlib.Core.List.{List, [], ◌∷◌, ◌++◌, append_assoc}
use Prim.Native.Nat.{ℕ}
use Rattle.records.specs.Refusal.{broken_path, Out, val, fault, ◌>>=◌, ◌>>◌, fault_if}
use Rattle.model.specs.ChartSet.{ChartSet}
use Rattle.model.specs.PathBack.{Walk, Row, step_fits, walked, step_rows, led_back}
use Rattle.paths.specs.Along.{all_fit, walk_along, rows_along}

module _ (cs : ChartSet) where
  pub fit_append : (xs ys : List ℕ) (w : Walk) → all_fit cs (xs ++ ys) w ≡ (all_fit cs xs w && all_fit cs ys (walk_along cs xs w))
  unfolding all_fit walk_along
  fit_append [] ys w = refl
  fit_append (x ∷ xs) ys w = ap (λ b. step_fits cs x w && b) (fit_append xs ys (walked cs x w)) ∙ nested (step_fits cs x w) (all_fit cs xs (walked cs x w)) (all_fit cs ys (walk_along cs xs (walked cs x w)))
    where
      nested : (a b c : Bool) → (a && (b && c)) ≡ ((a && b) && c)
      nested true b c = refl
      nested false b c = refl

  pub walk-append : (xs ys : List ℕ) (w : Walk) → walk_along cs (xs ++ ys) w ≡ walk_along cs ys (walk_along cs xs w)
  unfolding walk_along
  walk-append [] ys w = refl
  walk-append (x ∷ xs) ys w = walk-append xs ys (walked cs x w)

  pub rows_append : (xs ys : List ℕ) (w : Walk) → rows_along cs (xs ++ ys) w ≡ rows_along cs xs w ++ rows_along cs ys (walk_along cs xs w)
  unfolding rows_along walk_along
  rows_append [] ys w = refl
  rows_append (x ∷ xs) ys w =
      ap (λ t. step_rows cs x w ++ t) (rows_append xs ys (walked cs x w))
      ∙ sym (append_assoc (step_rows cs x w) (rows_along cs xs (walked cs x w)) (rows_along cs ys (walk_along cs xs (walked cs x w))))

  -- the model's answer
  pub led-is : (path : List ℕ) (w : Walk) → led_back cs path w ≡ cond (all_fit cs path w) (val (rows_along cs path w)) (fault broken_path)
  unfolding led_back all_fit rows_along
  led-is [] w = refl
  led-is (e ∷ es) w = go (step_fits cs e w) (led-is es (walked cs e w))
    where
      rest : Bool → Out (List Row) → Out (List Row)
      rest b o = fault_if (not b) broken_path >> (o >>= λ rows. val (step_rows cs e w ++ rows))

      go : (b : Bool) → led_back cs es (walked cs e w) ≡ cond (all_fit cs es (walked cs e w)) (val (rows_along cs es (walked cs e w))) (fault broken_path) →
          rest b (led_back cs es (walked cs e w)) ≡ cond (b && all_fit cs es (walked cs e w)) (val (step_rows cs e w ++ rows_along cs es (walked cs e w))) (fault broken_path)
      go false ih = refl
      go true ih = ap (rest true) ih ∙ by (all_fit cs es (walked cs e w))
        where
          by : (b : Bool) → rest true (cond b (val (rows_along cs es (walked cs e w))) (fault broken_path)) ≡ cond b (val (step_rows cs e w ++ rows_along cs es (walked cs e w))) (fault broken_path)
          by true = refl
          by false = refl
