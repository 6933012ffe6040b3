-- Boundary rows of 3: the most of each kind of both formats, and one more. Assumes nothing.
use mathlib.Core.Path.{refl}
use mathlib.Core.List.{List, [], ◌∷◌, ◌++◌}
use mathlib.Core.Bool.{cond}
use Prim.Native.Nat.{ℕ, ◌-◌}
use lib.ListN.{take, drop}
use Rattle.framing.specs.Framing.{has_wrong_amounts}
use Rattle.model.specs.ChartFile.{chart_limits, ChartFile}
use Rattle.model.specs.AutomataFile.{automata_limits, AutomataFile}
use Rattle.records.proofs.Tables.{Agree}
use Rattle.expressions.proofs.ExampleNodes.{rec16}
use Rattle.examples.proofs.ExampleFiles.{copies}

-- so many records of a kind
abbrev of_kind : (kind n : ℕ) → List ℕ
of_kind kind n = copies n (rec16 (kind ∷ []))

-- whether a chart, or an automaton, and so many records of a kind are too many
abbrev in_charts : (kind n : ℕ) → ℕ
in_charts kind n = cond (has_wrong_amounts 1 chart_limits (of_kind 1 1 ++ of_kind kind n)) 1 0

abbrev in_automata : (kind n : ℕ) → ℕ
in_automata kind n = cond (has_wrong_amounts 33 automata_limits (of_kind 33 1 ++ of_kind kind n)) 1 0

-- the same where that kind is the format's only one, which counts the longest files in fewer steps
abbrev alone : (kind n : ℕ) → ℕ
alone kind n = cond (has_wrong_amounts kind (take 1 (drop (kind - 33) automata_limits)) (of_kind kind n)) 1 0

abbrev amounts : List (ℕ × ℕ)
amounts =
    (in_charts 1 7, 0)
    ∷ (in_charts 1 8, 1)
    ∷ (in_charts 2 128, 0)
    ∷ (in_charts 2 129, 1)
    ∷ (in_charts 3 256, 0)
    ∷ (in_charts 3 257, 1)
    ∷ (in_charts 4 64, 0)
    ∷ (in_charts 4 65, 1)
    ∷ (in_charts 5 1_024, 0)
    ∷ (in_charts 5 1_025, 1)
    ∷ (in_charts 6 512, 0)
    ∷ (in_charts 6 513, 1)
    ∷ (in_automata 33 7, 0)
    ∷ (in_automata 33 8, 1)
    ∷ (in_automata 34 128, 0)
    ∷ (in_automata 34 129, 1)
    ∷ (in_automata 35 512, 0)
    ∷ (in_automata 35 513, 1)
    ∷ (alone 36 2_944, 0)
    ∷ (alone 36 2_945, 1)
    ∷ (in_automata 37 384, 0)
    ∷ (in_automata 37 385, 1)
    ∷ (in_automata 38 64, 0)
    ∷ (in_automata 38 65, 1)
    ∷ (alone 39 1_024, 0)
    ∷ (alone 39 1_025, 1)
    ∷ (alone 40 7_168, 0)
    ∷ (alone 40 7_169, 1)
    ∷ (alone 41 4_352, 0)
    ∷ (alone 41 4_353, 1)
    ∷ []

amount-rows : Agree amounts
unfolding ChartFile AutomataFile
amount-rows = (refl, (refl, (refl, (refl, (refl, (refl, (refl, (refl, (refl, (refl, (refl, (refl, (refl, (refl, (refl, (refl, (refl, (refl, (refl, (refl, (refl, (refl, (refl, (refl, (refl, (refl, (refl, (refl, (refl, (refl, tt))))))))))))))))))))))))))))))
