-- The shape of a framed file, by its counts. Assumes nothing.
use mathlib.Core.Path.{◌≡◌, sym, ap, subst}
use mathlib.Core.List.{List}
use Prim.Native.Nat.{ℕ, ◌≤◌, ◌<◌}
use native.Mathlib.Omega.{arith}
use lib.ListN.{get_or}
use Rattle.std.specs.Prelude.{Result, Ok}
use Rattle.records.specs.declared.refusals.Refusal.{Refusal}
use Rattle.framing.specs.Frame.{IsFrame}
use Rattle.framing.specs.declared.Frame.{Frame}
use Rattle.framing.proofs.Framed.{framed-most, frame-framed, frame-count}
use Rattle.model.specs.AutomataFile.{automata_limits}
use Rattle.automata_records.specs.declared.Shape.{Shape}
use Rattle.automata_records.specs.Shape.{IsShape}
use Rattle.automata_files.specs.Checked.{IsShaped, as_table}

module _ (s : List ℕ) (r : Result Frame Refusal) (is : IsFrame 33 automata_limits s r) (f : Frame) (answer : r ≡ Ok f) where
  pub low : (j : ℕ) → j < 9 → get_or f.counts j 0 ≤ get_or automata_limits j 0
  low j h = omega (arith, frame-count 33 automata_limits s r is f answer j (omega arith), framed-most 33 automata_limits s (frame-framed 33 automata_limits s r is f answer) j (omega arith) h)

  abbrev counted : Shape
  counted = record {
    automata = get_or f.counts 0 0;
    locations = get_or f.counts 1 0;
    edges = get_or f.counts 2 0;
    literals = get_or f.counts 3 0;
    clocks = get_or f.counts 4 0;
    variables = get_or f.counts 5 0;
    nodes = get_or f.counts 6 0;
    updates = get_or f.counts 7 0;
    resets = get_or f.counts 8 0;
  }

  is-counted : IsShape s counted
  is-counted = record {
    framed = frame-framed 33 automata_limits s r is f answer;
    automata = frame-count 33 automata_limits s r is f answer 0 (omega arith);
    locations = frame-count 33 automata_limits s r is f answer 1 (omega arith);
    edges = frame-count 33 automata_limits s r is f answer 2 (omega arith);
    literals = frame-count 33 automata_limits s r is f answer 3 (omega arith);
    clocks = frame-count 33 automata_limits s r is f answer 4 (omega arith);
    variables = frame-count 33 automata_limits s r is f answer 5 (omega arith);
    nodes = frame-count 33 automata_limits s r is f answer 6 (omega arith);
    updates = frame-count 33 automata_limits s r is f answer 7 (omega arith);
    resets = frame-count 33 automata_limits s r is f answer 8 (omega arith);
  }

  pub shaped : IsShaped s (Ok counted)
  shaped = record {
    answer = ap as_table (sym (frame-framed 33 automata_limits s r is f answer));
    shape = λ sh q. let e : counted ≡ sh = cc in subst (IsShape s) e is-counted;
  }
