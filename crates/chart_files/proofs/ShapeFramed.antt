-- The shape of a framed file, by its counts. Assumes nothing.
use mathlib.Core.Path.{◌≡◌, sym, subst}
use mathlib.Core.List.{List}
use Prim.Native.Nat.{ℕ, ◌≤◌, ◌<◌}
use native.Mathlib.Omega.{arith}
use lib.ListN.{get_or}
use Rattle.std.specs.Prelude.{Result, Ok}
use Rattle.records.specs.declared.refusals.Refusal.{Refusal}
use Rattle.framing.specs.Frame.{IsFrame}
use Rattle.framing.specs.declared.Frame.{Frame}
use Rattle.framing.proofs.Framed.{framed-most, frame-framed, frame-count}
use Rattle.model.specs.ChartFile.{chart_limits}
use Rattle.chart_records.specs.declared.Shape.{Shape}
use Rattle.chart_records.specs.Shape.{IsShape}
use Rattle.chart_files.specs.Checked.{IsShaped}

module _ (s : List ℕ) (r : Result Frame Refusal) (is : IsFrame 1 chart_limits s r) (f : Frame) (answer : r ≡ Ok f) where
  pub low : (j : ℕ) → j < 6 → get_or f.counts j 0 ≤ get_or chart_limits j 0
  low j h = omega (arith, frame-count 1 chart_limits s r is f answer j (omega arith), framed-most 1 chart_limits s (frame-framed 1 chart_limits s r is f answer) j (omega arith) h)

  abbrev counted : Shape
  counted = record {
    charts = get_or f.counts 0 0;
    states = get_or f.counts 1 0;
    transitions = get_or f.counts 2 0;
    variables = get_or f.counts 3 0;
    nodes = get_or f.counts 4 0;
    actions = get_or f.counts 5 0;
  }

  is-counted : IsShape s counted
  is-counted = record {
    framed = frame-framed 1 chart_limits s r is f answer;
    charts = frame-count 1 chart_limits s r is f answer 0 (omega arith);
    states = frame-count 1 chart_limits s r is f answer 1 (omega arith);
    transitions = frame-count 1 chart_limits s r is f answer 2 (omega arith);
    variables = frame-count 1 chart_limits s r is f answer 3 (omega arith);
    nodes = frame-count 1 chart_limits s r is f answer 4 (omega arith);
    actions = frame-count 1 chart_limits s r is f answer 5 (omega arith);
  }

  pub shaped : IsShaped s (Ok counted)
  shaped = record {
    answer = sym (frame-framed 1 chart_limits s r is f answer);
    shape = λ sh q. let e : counted ≡ sh = cc in subst (IsShape s) e is-counted;
  }
