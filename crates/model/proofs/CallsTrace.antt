-- The trace of a call, and the closed calls: what a call answers and leaves is what its trace says, and so calls match whose traces do. Assumes nothing.
use mathlib.Core.Path.{◌≡◌, refl, sym, ap, ◌∙◌, subst}
use mathlib.Core.List.{List}
use Prim.Native.Nat.{ℕ}
use mathlib.Core.Option.{Option, some, none}
use Rattle.records.specs.Refusal.{Refusal, Out, val, fault, ◌>>=◌, ◌>>◌, unless_refused}
use Rattle.model.specs.Outcome.{settled}
use Rattle.model.specs.Runs.{Run, Answer, Machine, checked, stepped, turn, give, Call, one_turn, whole_cycle, Trace, done, stopped, turned, onto, unless_stopped, turns, trace, ended}
use Rattle.model.specs.ChartSet.{ChartSet, read_charts}
use Rattle.model.specs.AutomataTable.{Automata, read_automata}
use Rattle.model.specs.Calls.{Format, chart_sets, automata_tables, cycle_call, call_trace}
use Rattle.model.specs.Correspondence.{AnswersMatch, TracesMatch, OutsMatch, CallMatches, lent_after}

-- the run that a trace leaves to the caller, who lent r
abbrev pub run_left : Run → Out Run → Run
run_left r (val r₁) = r₁
run_left r (fault w) = r

-- a call of one turn is that turn
pub trace-one-turn : (m : Machine) (events : ℕ) (r : Run) → trace m (one_turn events) r ≡ onto (give events r) (turn m events r) (λ _. done)
unfolding turns
trace-one-turn m events r = go (checked m events r) (stepped m (give events r))
  where
    go : (c : Out (Unit {0})) (o : Out (Answer × Run)) → unless_stopped c (onto (give events r) o (λ _. done)) ≡ onto (give events r) (c >> o) (λ _. done)
    go (val u) o = refl
    go (fault w) o = refl

module _ (f : Format) (s : List ℕ) (events : ℕ) (r : Run) where
  -- what a turn comes to, the file's refusal first
  abbrev pub outcome : Out (Answer × Run)
  outcome = unless_refused (f.refusal s) (turn (f.machine s) events r)

  pub call_trace-one-turn : call_trace f s (one_turn events) r ≡ onto (give events r) outcome (λ _. done)
  call_trace-one-turn = go (f.refusal s)
    where
      go : (w : Option Refusal) → unless_stopped (unless_refused w (val (tt {0}))) (trace (f.machine s) (one_turn events) r) ≡ onto (give events r) (unless_refused w (turn (f.machine s) events r)) (λ _. done)
      go (some w) = refl
      go none = trace-one-turn (f.machine s) events r

  pub cycle_call-trace : cycle_call f s events r ≡ settled r (ended r (call_trace f s (whole_cycle events) r) >>= λ r₁. val (tt {0}, r₁))
  unfolding ended
  cycle_call-trace = go (f.refusal s) (trace (f.machine s) (whole_cycle events) r)
    where
      go : (w : Option Refusal) (t : Trace) →
          settled {A = Unit {0}} r (unless_refused w (ended r t >>= λ r₁. val (tt {0}, r₁))) ≡ settled r (ended r (unless_stopped (unless_refused w (val (tt {0}))) t) >>= λ r₁. val (tt {0}, r₁))
      go (some w) t = refl
      go none t = refl

-- each call gets the run that the last one left: what is lent after a call is what its trace leaves
pub lent_after-left : (f : Format) (s : List ℕ) (c : Call) (r : Run) → lent_after f s c r ≡ run_left r (ended r (call_trace f s c r))
unfolding ended
lent_after-left f s (one_turn events) r = by (outcome f s events r) ∙ ap (λ t. run_left r (ended r t)) (sym (call_trace-one-turn f s events r))
  where
    by : (o : Out (Answer × Run)) → (settled r o).lent ≡ run_left r (ended r (onto (give events r) o (λ _. done)))
    by (val x) = refl
    by (fault w) = refl
lent_after-left f s (whole_cycle events) r = ap (λ x. x.lent) (cycle_call-trace f s events r) ∙ by (ended r (call_trace f s (whole_cycle events) r))
  where
    by : (o : Out Run) → (settled {A = Unit {0}} r (o >>= λ r₁. val (tt {0}, r₁))).lent ≡ run_left r o
    by (val r₁) = refl
    by (fault w) = refl

-- ---- answers that match, from traces that do

module _ (cs : ChartSet) (au : Automata) where
  -- of a turn taken in r and q; the runs that were lent do not matter
  turn-answers : (l m r q : Run) (o u : Out (Answer × Run)) → TracesMatch cs au (onto r o (λ _. done)) (onto q u (λ _. done)) → OutsMatch (AnswersMatch au r q) (settled l o).answer (settled m u).answer
  unfolding TracesMatch
  turn-answers l m r q (val x) (val y) h = h.0
  turn-answers l m r q (fault w) (fault v) h = h
  turn-answers l m r q (val x) (fault v) h = h
  turn-answers l m r q (fault w) (val y) h = h

  -- of a cycle whose turns go on from r and q
  cycle-answers : (l m r q : Run) (t u : Trace) → TracesMatch cs au t u → OutsMatch (λ _ _. Unit) (settled l (ended r t >>= λ r₁. val (tt {0}, r₁))).answer (settled m (ended q u >>= λ q₁. val (tt {0}, q₁))).answer
  unfolding TracesMatch ended
  cycle-answers l m r q done done h = tt
  cycle-answers l m r q (stopped w) (stopped v) h = h
  cycle-answers l m r q (turned r₀ a r₁ t) (turned q₀ b q₁ u) h = cycle-answers l m r₁ q₁ t u h.2
  cycle-answers l m r q done (stopped v) h = absurd h
  cycle-answers l m r q done (turned q₀ b q₁ u) h = absurd h
  cycle-answers l m r q (stopped w) done h = absurd h
  cycle-answers l m r q (stopped w) (turned q₀ b q₁ u) h = absurd h
  cycle-answers l m r q (turned r₀ a r₁ t) done h = absurd h
  cycle-answers l m r q (turned r₀ a r₁ t) (stopped v) h = absurd h

pub call_matches-traces : (s t : List ℕ) (c : Call) (r q : Run) → TracesMatch (read_charts s) (read_automata t) (call_trace chart_sets s c r) (call_trace automata_tables t c q) → CallMatches s t c r q
call_matches-traces s t (one_turn events) r q h =
    turn-answers (read_charts s) (read_automata t) r q (give events r) (give events q) (outcome chart_sets s events r) (outcome automata_tables t events q)
    (subst (λ u. TracesMatch (read_charts s) (read_automata t) (onto (give events r) (outcome chart_sets s events r) (λ _. done)) u) (call_trace-one-turn automata_tables t events q)
    (subst (λ u. TracesMatch (read_charts s) (read_automata t) u (call_trace automata_tables t (one_turn events) q)) (call_trace-one-turn chart_sets s events r) h))
call_matches-traces s t (whole_cycle events) r q h = (
  subst (λ x. OutsMatch (λ _ _. Unit) x (cycle_call automata_tables t events q).answer) (sym (ap (λ x. x.answer) (cycle_call-trace chart_sets s events r)))
      (subst (λ y. OutsMatch (λ _ _. Unit) (settled r (ended r (call_trace chart_sets s (whole_cycle events) r) >>= λ r₁. val (tt {0}, r₁))).answer y) (sym (ap (λ x. x.answer) (cycle_call-trace automata_tables t events q)))
      (cycle-answers (read_charts s) (read_automata t) r q r q (call_trace chart_sets s (whole_cycle events) r) (call_trace automata_tables t (whole_cycle events) q) h)),
  h,
)
