-- A call on a set's run and on its twin's goes turn for turn, and leaves runs at rest again. Assumes nothing.
use mathlib.Core.Path.{◌≡◌, refl, sym, ap, ◌∙◌, subst}
use Prim.Native.Nat.{ℕ, zero, suc, ◌+◌, ◌-◌, ◌≤◌, ◌<◌}
use native.Mathlib.Omega.{arith}
use lib.ListN.{length}
use Rattle.records.specs.Refusal.{refusal_number, Out, val, fault}
use Rattle.model.specs.Runs.{Run, Answer, taken, idle, time, Machine, stepped, give, Call, one_turn, whole_cycle, input_events, Trace, done, stopped, turned, onto, unless_stopped, turns, turns_of, trace, ended}
use Rattle.model.specs.ChartSet.{ChartSet}
use Rattle.model.specs.Charts.{charts}
use Rattle.model.specs.Automata.{automata}
use Rattle.model.specs.Translation.{twin}
use Rattle.model.specs.Correspondence.{AnswersMatch, TracesMatch}
use Rattle.model.proofs.CallsTrace.{run_left}
use Rattle.model.proofs.CorrespondenceStep.{Sound, Alike}
use Rattle.model.proofs.CorrespondenceTurn.{TurnTaken, TurnsMatch, give-alike, stepped-turns_match}
use Rattle.model.proofs.CorrespondenceRuns.{corresponds-alike}
use Rattle.model.proofs.ChecksPossible.{Resting, part-rests, time-rests, AtRest, charts-possible, twin-possible, checked_later, checked-possible, checked_later-count}

-- Two traces turn for turn, the next turn being taken in r.
unfoldable pub Lockstep : ChartSet → Run → Trace → Trace → Type 0
Lockstep cs r done done = Unit
Lockstep cs r (stopped w) (stopped v) = w ≡ v
Lockstep cs r (turned r₀ a r₁ t) (turned q₀ b q₁ u) =
    (r₀ ≡ r) × (r.world.cycles ≤ 999_999) × AnswersMatch (twin cs) r₀ q₀ a b × TurnTaken cs r a b r₁ × AtRest cs r₁ q₁ × Lockstep cs r₁ t u
Lockstep cs r done (stopped v) = ⊥
Lockstep cs r done (turned q₀ b q₁ u) = ⊥
Lockstep cs r (stopped w) done = ⊥
Lockstep cs r (stopped w) (turned q₀ b q₁ u) = ⊥
Lockstep cs r (turned r₀ a r₁ t) done = ⊥
Lockstep cs r (turned r₀ a r₁ t) (stopped v) = ⊥

-- ---- what a turn leaves

module _ (cs : ChartSet) (r r₁ : Run) where
  -- the world is at rest after a turn
  pub turn_taken-rests : 1 ≤ r.world.position → r.world.position ≤ length cs.initial + 1 → r.world.cycles ≤ 999_999 → (a b : Answer) → TurnTaken cs r a b r₁ → Resting (charts cs) r₁.world
  turn_taken-rests low high few (taken t) b w = part-rests (charts cs) r.world r₁.world few low w.1 w.2 w.3
  turn_taken-rests low high few idle b w = part-rests (charts cs) r.world r₁.world few low w.1 w.2 w.3
  turn_taken-rests low high few time time w = time-rests (charts cs) r.world r₁.world few w.2 w.3 w.4
  turn_taken-rests low high few time (taken e) w = absurd w
  turn_taken-rests low high few time idle w = absurd w

  -- a chart's turn goes one position on
  pub turn_taken-goes-on : r.world.position ≤ length cs.initial → (a b : Answer) → TurnTaken cs r a b r₁ → (r₁.world.position ≡ r.world.position + 1) × (r₁.world.cycles ≡ r.world.cycles)
  turn_taken-goes-on l (taken t) b w = (w.2, w.3)
  turn_taken-goes-on l idle b w = (w.2, w.3)
  turn_taken-goes-on l time time w = let k : length cs.initial < r.world.position = w.0 in absurd (omega arith)
  turn_taken-goes-on l time (taken e) w = absurd w
  turn_taken-goes-on l time idle w = absurd w

-- ---- a call

module _ (cs : ChartSet) (ok : Sound cs) where
  onto-lockstep : (r q : Run) → 1 ≤ r.world.position → r.world.position ≤ length cs.initial + 1 → r.world.cycles ≤ 999_999 →
      (x y : Out (Answer × Run)) (f g : Run → Trace) → TurnsMatch cs r q x y →
      ((a b : Answer) (r₁ q₁ : Run) → TurnTaken cs r a b r₁ → Alike cs r₁ q₁ → Lockstep cs r₁ (f r₁) (g q₁)) → Lockstep cs r (onto r x f) (onto q y g)
  unfolding Lockstep
  onto-lockstep r q low high few (fault w) (fault v) f g h k = h
  onto-lockstep r q low high few (fault w) (val y) f g h k = absurd h
  onto-lockstep r q low high few (val x) (fault v) f g h k = absurd h
  onto-lockstep r q low high few (val x) (val y) f g h k =
      (refl, few, h.0, h.1, record { alike = h.2; resting = turn_taken-rests cs r x.1 low high few x.0 y.0 h.1 }, k x.0 y.0 x.1 y.1 h.1 h.2)

  -- turns of one cycle
  turns-lockstep : (k : ℕ) (r q : Run) → Alike cs r q → 1 ≤ r.world.position → k + r.world.position ≤ length cs.initial + 2 → r.world.cycles ≤ 999_999 →
      Lockstep cs r (turns (charts cs) k r) (turns (automata (twin cs)) k q)
  unfolding turns Lockstep
  turns-lockstep zero r q al low high few = tt
  turns-lockstep (suc zero) r q al low high few =
      onto-lockstep r q low (omega arith) few (stepped (charts cs) r) (stepped (automata (twin cs)) q) (turns (charts cs) zero) (turns (automata (twin cs)) zero) (stepped-turns_match cs ok r q al low)
      (λ a b r₁ q₁ w al₁. tt)
  turns-lockstep (suc (suc k)) r q al low high few =
      onto-lockstep r q low (omega arith) few (stepped (charts cs) r) (stepped (automata (twin cs)) q) (turns (charts cs) (suc k)) (turns (automata (twin cs)) (suc k)) (stepped-turns_match cs ok r q al low)
      (λ a b r₁ q₁ w al₁.
      let n : (r₁.world.position ≡ r.world.position + 1) × (r₁.world.cycles ≡ r.world.cycles) = turn_taken-goes-on cs r r₁ (omega arith) a b w in
      let p : r₁.world.position ≡ r.world.position + 1 = n.0 in
      let c : r₁.world.cycles ≡ r.world.cycles = n.1 in
      turns-lockstep (suc k) r₁ q₁ al₁ (omega arith) (omega arith) (omega arith))

  pub trace-lockstep : (c : Call) (r q : Run) → AtRest cs r q → Lockstep cs (give (input_events c) r) (trace (charts cs) c r) (trace (automata (twin cs)) c q)
  unfolding Lockstep
  trace-lockstep c r q h =
      subst (λ o. Lockstep cs (give (input_events c) r) (unless_stopped o (turns (charts cs) (turns_of (charts cs) c r) (give (input_events c) r))) (trace (automata (twin cs)) c q))
      (sym (checked-possible (charts cs) (input_events c) r (charts-possible cs r q h)))
      (subst (λ o. Lockstep cs (give (input_events c) r) (unless_stopped (checked_later (input_events c) r.world) (turns (charts cs) (turns_of (charts cs) c r) (give (input_events c) r))) (unless_stopped o (turns (automata (twin cs)) (turns_of (automata (twin cs)) c q) (give (input_events c) q))))
      (ap (checked_later (input_events c)) h.alike.worlds ∙ sym (checked-possible (automata (twin cs)) (input_events c) q (twin-possible cs r q h)))
      (subst (λ k. Lockstep cs (give (input_events c) r) (unless_stopped (checked_later (input_events c) r.world) (turns (charts cs) (turns_of (charts cs) c r) (give (input_events c) r))) (unless_stopped (checked_later (input_events c) r.world) (turns (automata (twin cs)) k (give (input_events c) q))))
      (as_many c)
      (go (checked_later (input_events c) r.world) refl)))
    where
      as_many : (c : Call) → turns_of (charts cs) c r ≡ turns_of (automata (twin cs)) c q
      as_many (one_turn events) = refl
      as_many (whole_cycle events) = ap (λ w. length cs.initial + 2 - w.position) h.alike.worlds

      in-cycle : (c : Call) → turns_of (charts cs) c r + r.world.position ≤ length cs.initial + 2
      in-cycle (one_turn events) = let l : r.world.position ≤ length cs.initial + 1 = h.resting.high in omega arith
      in-cycle (whole_cycle events) = let l : r.world.position ≤ length cs.initial + 1 = h.resting.high in omega arith

      go : (o : Out (Unit {0})) → checked_later (input_events c) r.world ≡ o →
          Lockstep cs (give (input_events c) r) (unless_stopped o (turns (charts cs) (turns_of (charts cs) c r) (give (input_events c) r))) (unless_stopped o (turns (automata (twin cs)) (turns_of (charts cs) c r) (give (input_events c) q)))
      go (fault w) e = refl
      go (val u) e =
          turns-lockstep (turns_of (charts cs) c r) (give (input_events c) r) (give (input_events c) q) (give-alike cs r q h.alike (input_events c)) h.resting.low (in-cycle c)
          (checked_later-count (charts cs) (input_events c) r.world u h.resting.count e)

-- ---- what follows of the traces

module _ (cs : ChartSet) where
  pub traces-match : (t u : Trace) (r : Run) → Lockstep cs r t u → TracesMatch cs (twin cs) t u
  unfolding Lockstep TracesMatch
  traces-match done done r h = tt
  traces-match (stopped w) (stopped v) r h = ap refusal_number h
  traces-match (turned r₀ a r₁ t) (turned q₀ b q₁ u) r h = (h.2, corresponds-alike cs r₁ q₁ h.4.alike, traces-match t u r₁ h.5)
  traces-match done (stopped v) r h = absurd h
  traces-match done (turned q₀ b q₁ u) r h = absurd h
  traces-match (stopped w) done r h = absurd h
  traces-match (stopped w) (turned q₀ b q₁ u) r h = absurd h
  traces-match (turned r₀ a r₁ t) done r h = absurd h
  traces-match (turned r₀ a r₁ t) (stopped v) r h = absurd h

  -- both end, or both stop
  abbrev pub EndsMatch : Out Run → Out Run → Type 0
  EndsMatch (val r) (val q) = AtRest cs r q
  EndsMatch (fault w) (fault v) = w ≡ v
  EndsMatch (val r) (fault v) = ⊥
  EndsMatch (fault w) (val q) = ⊥

  pub ends-match : (t u : Trace) (r₀ r q : Run) → Lockstep cs r₀ t u → AtRest cs r q → EndsMatch (ended r t) (ended q u)
  unfolding Lockstep ended
  ends-match done done r₀ r q h rest = rest
  ends-match (stopped w) (stopped v) r₀ r q h rest = h
  ends-match (turned r₁ a r₂ t) (turned q₁ b q₂ u) r₀ r q h rest = ends-match t u r₂ r₂ q₂ h.5 h.4
  ends-match done (stopped v) r₀ r q h rest = absurd h
  ends-match done (turned q₀ b q₁ u) r₀ r q h rest = absurd h
  ends-match (stopped w) done r₀ r q h rest = absurd h
  ends-match (stopped w) (turned q₀ b q₁ u) r₀ r q h rest = absurd h
  ends-match (turned r₁ a r₂ t) done r₀ r q h rest = absurd h
  ends-match (turned r₁ a r₂ t) (stopped v) r₀ r q h rest = absurd h

  left-rest : (r q : Run) → AtRest cs r q → (x y : Out Run) → EndsMatch x y → AtRest cs (run_left r x) (run_left q y)
  left-rest r q rest (val x) (val y) h = h
  left-rest r q rest (fault w) (fault v) h = rest
  left-rest r q rest (val x) (fault v) h = absurd h
  left-rest r q rest (fault w) (val y) h = absurd h

-- the run that a call of a machine leaves
abbrev pub call_leaves : Machine → Call → Run → Run
call_leaves m c r = run_left r (ended r (trace m c r))

pub call_leaves-rest : (cs : ChartSet) → Sound cs → (c : Call) (r q : Run) → AtRest cs r q → AtRest cs (call_leaves (charts cs) c r) (call_leaves (automata (twin cs)) c q)
call_leaves-rest cs ok c r q h =
    left-rest cs r q h (ended r (trace (charts cs) c r)) (ended q (trace (automata (twin cs)) c q))
    (ends-match cs (trace (charts cs) c r) (trace (automata (twin cs)) c q) (give (input_events c) r) r q (trace-lockstep cs ok c r q h) h)
