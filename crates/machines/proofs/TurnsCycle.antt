-- A cycle by its turns, from a turn's answer and the run that it left: the cycle goes on, is done, or is not. Assumes nothing.
use mathlib.Core.Path.{◌≡◌, sym, ap, ◌∙◌}
use Prim.Native.Nat.{ℕ, ◌+◌, ◌≤◌}
use Rattle.records.specs.Refusal.{Refusal, val, fault, ◌>>=◌}
use Rattle.model.specs.Outcome.{Outcome, settled}
use Rattle.model.specs.Runs.{Run, Answer, taken, idle, time, Machine, parts, turn, cycle}
use Rattle.model.proofs.ChecksKept.{NotTime, Steady}
use Rattle.model.proofs.TurnsCycle.{after_turn, cycle-by-turns, turn-moves}
use Rattle.machines.proofs.Turns.{unsettled, unsettle}

module _ (m : Machine) (ok : Steady m) (given : ℕ) (r : Run) (x : Outcome Answer Run) (is : x ≡ settled r (turn m given r)) where
  pub turning : turn m given r ≡ unsettled x
  turning = sym (unsettle r (turn m given r)) ∙ ap unsettled (sym is)

  by_answer : cycle m given r ≡ (unsettled x >>= λ y. after_turn m y)
  by_answer = cycle-by-turns m ok given r ∙ ap (λ o. o >>= λ y. after_turn m y) turning

  pub goes_on : (a : Answer) → x.answer ≡ val a → NotTime a → cycle m given r ≡ cycle m 0 x.lent
  goes_on (taken t) e n = by_answer ∙ ap (λ o. (o >>= λ b. val (b, x.lent)) >>= λ y. after_turn m y) e
  goes_on idle e n = by_answer ∙ ap (λ o. (o >>= λ b. val (b, x.lent)) >>= λ y. after_turn m y) e
  goes_on time e n = absurd n

  pub moves-on : (a : Answer) → x.answer ≡ val a → NotTime a → (r.world.position ≤ parts m) × (x.lent.world.position ≡ r.world.position + 1)
  moves-on a e n = turn-moves m ok given r a x.lent (turning ∙ ap (λ o. o >>= λ b. val (b, x.lent)) e) n

  pub ends-at-time : x.answer ≡ val time → cycle m given r ≡ val (tt, x.lent)
  ends-at-time e = by_answer ∙ ap (λ o. (o >>= λ b. val (b, x.lent)) >>= λ y. after_turn m y) e

  pub ends-in-fault : (w : Refusal) → x.answer ≡ fault w → cycle m given r ≡ fault w
  ends-in-fault w e = by_answer ∙ ap (λ o. (o >>= λ b. val (b, x.lent)) >>= λ y. after_turn m y) e
