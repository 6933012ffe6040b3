-- Many cycles of automata: an automaton's turn keeps position and count, so they are at most 1,000,000; and a done cycle leaves a run that need not be
-- checked again. Assumes nothing.
use mathlib.Core.Path.{◌≡◌, refl, sym, ap, ◌∙◌, subst}
use mathlib.Core.Bool.{Bool, true, false, not, cond, ◌||◌}
use mathlib.Core.List.{List}
use Prim.Native.Nat.{ℕ, ◌+◌, ◌≤◌}
use native.Mathlib.Omega.{arith}
use borrow.Author.Tests.{eq-eqb, ne_eqb, eqb-true}
use lib.Dec.{T, leb, eqb, leb→le}
use lib.ListN.{length}
use Rattle.model.specs.Limits.{most_clocks}
use Rattle.records.specs.Refusal.{Out, val, fault, fault_if, impossible_run, cycles_done}
use Rattle.model.specs.Runs.{Run, Machine, possible, checked, cycle, checked_by}
use Rattle.model.specs.AutomataTable.{Automata, read_automata}
use Rattle.model.specs.Automata.{edge_step, automata}
use Rattle.model.specs.Calls.{automata_tables}
use Rattle.prelude.proofs.Bools.{is_true, of-true}
use Rattle.model.proofs.ChecksPossible.{possible-fits, possible-rests}
use Rattle.model.proofs.ChecksKeptBySteps.{table-cycle-possible}
use Rattle.automata_records.specs.declared.Shape.{Shape}
use Rattle.machines.specs.Playing.{stopped_at, play_call}
use Rattle.machines.specs.Playing as Playing
use Rattle.machines.proofs.Turns.{cycle-refused}
use Rattle.machines.proofs.Playing as played
use Rattle.automata_records.specs.Accepted.{Accepted}
use Rattle.automata.specs.PlayedOf.{BetweenCycles, PlayedTo}
use Rattle.automata.proofs.TurnOfKept.{step_kept}

pub count_kept : (au : Automata) (part : ℕ) (r : Run) → played.KeptCount r ((automata au).step part r)
count_kept au part r = played.count_kept r (edge_step au part r) (step_kept au part r)

pub few-played : (s masks : List ℕ) (r : Run) (n : ℕ) → (play_call automata_tables s masks r).answer ≡ val n → n ≤ 1_000_000
few-played s masks r = played.few-called automata_tables s masks r (count_kept (read_automata s))

-- ---- cycles of a run that is checked once

module _ (s : List ℕ) (sh : Shape) (ok : Accepted s sh) where
  abbrev m : Machine
  m = automata (read_automata s)

  -- between cycles only the count is left to ask
  module _ (given : ℕ) (r : Run) (rested : BetweenCycles m r) where
    asked : checked m given r ≡ fault_if (eqb r.world.cycles 1_000_000) cycles_done
    asked = λ i. checked_by (is_true {b = possible m r} rested.fit i) given (rested.position i) r.world.cycles

    pub rested-fine : (r.world.cycles ≡ 1_000_000 → ⊥) → checked m given r ≡ val tt
    rested-fine n = asked ∙ ap (λ b. fault_if b cycles_done) (ne_eqb r.world.cycles 1_000_000 n)

    pub rested-done : r.world.cycles ≡ 1_000_000 → cycle m given r ≡ fault cycles_done
    rested-done e = cycle-refused m given r cycles_done (asked ∙ ap (λ b. fault_if b cycles_done) (eq-eqb r.world.cycles 1_000_000 e))

  -- a run with which a cycle was done is possible
  was-possible : (given : ℕ) (r q : Run) → cycle m given r ≡ val (tt, q) → T (possible m r)
  was-possible given r q e = go (possible m r) refl
    where
      go : (b : Bool) → possible m r ≡ b → T (possible m r)
      go true d = of-true d
      go false d =
          let f : cycle m given r ≡ fault impossible_run = cycle-refused m given r impossible_run (ap (λ b. checked_by b given r.world.position r.world.cycles) d) in
          let z : ◌≡◌ {A = ℕ} 0 1 = cc in
          absurd (omega arith)

  -- a done cycle leaves a run that can go on
  pub rested-next : (given : ℕ) (r q : Run) → cycle m given r ≡ val (tt, q) → BetweenCycles m q × (q.world.cycles ≡ r.world.cycles + 1)
  rested-next given r q e =
      let p = table-cycle-possible s ok.unrefused given r q (was-possible given r q e) e in
      let none : T (not (eqb 1 1) || eqb q.world.events 0) = subst (λ k. T (not (eqb k 1) || eqb q.world.events 0)) p.1 (possible-rests m q p.0).events in
      (record { fit = p.0; position = p.1; events = eqb-true q.world.events 0 (is_true {b = eqb q.world.events 0} none) }, p.2)

  module _ (r : Run) (rested : BetweenCycles m r) where
    pub rested-few : r.world.cycles ≤ 1_000_000
    rested-few = leb→le r.world.cycles 1_000_000 (subst (λ k. T (leb r.world.cycles (cond (eqb k 1) 1_000_000 999_999))) rested.position (possible-rests m r rested.fit).count)

    pub rested-clocks : length r.timers ≡ most_clocks
    rested-clocks = (possible-fits m r rested.fit).timer_room

-- cycles after the first are told of by their number, whatever stopped them
pub told-later : (n k : ℕ) (q : Run) (o : Out (Unit {0})) → k ≡ n + 1 → val (k, q) ≡ stopped_at (1 + n) q o
told-later n k q (val u) e = ap (λ j. val (j, q)) (let z : k ≡ 1 + n = omega arith in z)
told-later n k q (fault w) e =
    ap (λ j. val (j, q)) (let z : k ≡ 1 + n = omega arith in z)
    ∙ ap (λ b. cond b (fault w) (val (1 + n, q))) (sym (ne_eqb (1 + n) 0 (λ d. absurd (omega arith))))

pub rest_of : (p q : Playing.Played) → p ≡ q → (n : ℕ) (r : Run) → n ≡ q.count → r ≡ q.run → q.count ≤ 1_000_000 → PlayedTo p n r
rest_of p q e n r a b h = record { number = a ∙ sym (ap (λ x. x.count) e); run = b ∙ sym (ap (λ x. x.run) e); few = omega (arith, a, h) }
