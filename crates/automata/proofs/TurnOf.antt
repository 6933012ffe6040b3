-- Turns of automata: what the laws of turns ask of a machine. Assumes nothing.
use mathlib.Core.Path.{◌≡◌, ap, ◌∙◌}
use mathlib.Core.List.{List}
use Prim.Native.Nat.{ℕ, ◌+◌, ◌-◌, ◌≤◌, ◌<◌}
use native.Mathlib.Omega.{arith}
use Rattle.records.specs.Refusal.{val, ◌>>=◌}
use Rattle.model.specs.Runs.{Run, Answer, checked, give, moved, stepped}
use Rattle.model.specs.AutomataTable.{read_automata}
use Rattle.model.specs.Automata.{edge_step, automata}
use Rattle.automata_records.specs.declared.Shape.{Shape}
use Rattle.automata_records.proofs.PlacesRead.{length-initial}
use Rattle.machines.proofs.Turns as T
use Rattle.automata_records.specs.Accepted.{Accepted}
use Rattle.automata.specs.TurnOf.{Ready, clock_possible_at}
use Rattle.automata.proofs.RunOfClocks.{low_of}
use Rattle.automata.proofs.TurnOfKept.{step_kept}

module _ (s : List ℕ) (sh : Shape) (ok : Accepted s sh) where
  pub ready : (given : ℕ) (r : Run) → checked (automata (read_automata s)) given r ≡ val tt → Ready sh (give given r)
  ready given r = T.ready (automata (read_automata s)) sh.automata (length-initial s sh ok.shape) (clock_possible_at sh) given r (low_of s sh ok r)

  -- an automaton's turn leaves the run ready, at the next position
  pub ready-next : (r : Run) (y : Answer × Run) → Ready sh r → r.world.position ≤ sh.automata → stepped (automata (read_automata s)) r ≡ val y →
      Ready sh y.1 × (y.1.world.position ≡ r.world.position + 1)
  ready-next r y =
      T.ready-next (automata (read_automata s)) sh.automata (length-initial s sh ok.shape) (clock_possible_at sh) (λ cycles k x y h f l. omega (arith, h, f l)) r y
      (step_kept (read_automata s) (r.world.position - 1) r)

  -- the turn of automaton a, which is at its position
  pub part-stepped : (a : ℕ) (r : Run) → r.world.position ≡ a + 1 → a < sh.automata → stepped (automata (read_automata s)) r ≡ (edge_step (read_automata s) a r >>= λ x. val (x.0, moved x.1))
  part-stepped a r e h =
      let z : r.world.position - 1 ≡ a = omega arith in
      T.at_part (automata (read_automata s)) sh.automata (length-initial s sh ok.shape) r (omega arith) ∙ ap (λ k. edge_step (read_automata s) k r >>= λ x. val (x.0, moved x.1)) z
