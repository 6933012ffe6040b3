-- A set and its twin's table move alike under every list of calls, and none of the runs that the calls leave is impossible. Assumes nothing.
use mathlib.Core.Path.{◌≡◌, sym, ap, ◌∙◌, subst}
use mathlib.Core.Option.{none}
use mathlib.Core.List.{List, [], ◌∷◌}
use Prim.Native.Nat.{ℕ}
use lib.Dec.{T}
use Rattle.records.specs.Refusal.{val, unless_refused}
use Rattle.model.specs.Runs.{Run, start, possible, give, Call, input_events, unless_stopped, trace, ended}
use Rattle.model.specs.ChartSet.{read_charts}
use Rattle.model.specs.Charts.{charts}
use Rattle.model.specs.ChartFile.{charts_refusal}
use Rattle.model.specs.AutomataTable.{read_automata}
use Rattle.model.specs.Automata.{automata}
use Rattle.model.specs.AutomataFile.{automata_refusal}
use Rattle.model.specs.Translation.{twin}
use Rattle.model.specs.Calls.{Format, chart_sets, automata_tables, call_trace}
use Rattle.model.specs.Correspondence.{Corresponds, TracesMatch, lent_after, after_calls, MoveAlike}
use Rattle.model.proofs.CallsTrace.{run_left, lent_after-left, call_matches-traces}
use Rattle.model.proofs.ChartFileSound.{sound}
use Rattle.model.proofs.CorrespondenceRuns.{corresponds-alike}
use Rattle.model.proofs.ChecksPossible.{AtRest, charts-possible, twin-possible, start-at_rest}
use Rattle.model.proofs.CorrespondenceTrace.{trace-lockstep, traces-match, call_leaves, call_leaves-rest}

-- ---- calls on an accepted file are the machine's

module _ (f : Format) (s : List ℕ) (ok : f.refusal s ≡ none) where
  pub call_trace-accepted : (c : Call) (r : Run) → call_trace f s c r ≡ trace (f.machine s) c r
  call_trace-accepted c r = ap (λ w. unless_stopped (unless_refused w (val (tt {0}))) (trace (f.machine s) c r)) ok

  pub lent_after-accepted : (c : Call) (r : Run) → lent_after f s c r ≡ call_leaves (f.machine s) c r
  lent_after-accepted c r = lent_after-left f s c r ∙ ap (λ t. run_left r (ended r t)) (call_trace-accepted c r)

-- ---- a set and a table that reads as its twin

module _ (s : List ℕ) (ok : charts_refusal s ≡ none) (t : List ℕ) (back : read_automata t ≡ twin (read_charts s)) (fine : automata_refusal t ≡ none) where
  -- the table's machine is the twin's
  pub call_trace-twin : (c : Call) (q : Run) → call_trace automata_tables t c q ≡ trace (automata (twin (read_charts s))) c q
  call_trace-twin c q = call_trace-accepted automata_tables t fine c q ∙ ap (λ au. trace (automata au) c q) back

  pub lent_after-twin : (c : Call) (q : Run) → lent_after automata_tables t c q ≡ call_leaves (automata (twin (read_charts s))) c q
  lent_after-twin c q = lent_after-left automata_tables t c q ∙ ap (λ u. run_left q (ended q u)) (call_trace-twin c q)

  pub lent_after-rest : (c : Call) (r q : Run) → AtRest (read_charts s) r q → AtRest (read_charts s) (lent_after chart_sets s c r) (lent_after automata_tables t c q)
  lent_after-rest c r q h = on_both (sym (lent_after-accepted chart_sets s ok c r)) (sym (lent_after-twin c q)) (call_leaves-rest (read_charts s) (sound s ok) c r q h)
    where
      on_both : {r₁ r₂ q₁ q₂ : Run} → r₁ ≡ r₂ → q₁ ≡ q₂ → AtRest (read_charts s) r₁ q₁ → AtRest (read_charts s) r₂ q₂
      on_both {r₁} {r₂} {q₁} {q₂} e d h = subst (λ z. AtRest (read_charts s) r₂ z) d (subst (λ z. AtRest (read_charts s) z q₁) e h)

  traces : (c : Call) (r q : Run) → AtRest (read_charts s) r q → TracesMatch (read_charts s) (read_automata t) (call_trace chart_sets s c r) (call_trace automata_tables t c q)
  traces c r q h =
      subst (λ x. TracesMatch (read_charts s) (read_automata t) x (call_trace automata_tables t c q)) (sym (call_trace-accepted chart_sets s ok c r))
      (subst (λ y. TracesMatch (read_charts s) (read_automata t) (trace (charts (read_charts s)) c r) y) (sym (call_trace-twin c q))
      (subst (λ au. TracesMatch (read_charts s) au (trace (charts (read_charts s)) c r) (trace (automata (twin (read_charts s))) c q)) (sym back)
      (traces-match (read_charts s) (trace (charts (read_charts s)) c r) (trace (automata (twin (read_charts s))) c q) (give (input_events c) r) (trace-lockstep (read_charts s) (sound s ok) c r q h))))

  moves : (calls : List Call) (r q : Run) → AtRest (read_charts s) r q → MoveAlike s t calls r q
  unfolding MoveAlike
  moves [] r q h = subst (λ au. Corresponds (read_charts s) au r q) (sym back) (corresponds-alike (read_charts s) r q h.alike)
  moves (c ∷ calls) r q h = (
    subst (λ au. Corresponds (read_charts s) au r q) (sym back) (corresponds-alike (read_charts s) r q h.alike),
    call_matches-traces s t c r q (traces c r q h),
    moves calls (lent_after chart_sets s c r) (lent_after automata_tables t c q) (lent_after-rest c r q h),
  )

  fresh : AtRest (read_charts s) (start (charts (read_charts s))) (start (automata (read_automata t)))
  fresh = subst (λ au. AtRest (read_charts s) (start (charts (read_charts s))) (start (automata au))) (sym back) (start-at_rest (read_charts s) (sound s ok))

  pub after_calls-rest : (calls : List Call) (r q : Run) → AtRest (read_charts s) r q → AtRest (read_charts s) (after_calls chart_sets s calls r) (after_calls automata_tables t calls q)
  unfolding after_calls
  after_calls-rest [] r q h = h
  after_calls-rest (c ∷ calls) r q h = after_calls-rest calls (lent_after chart_sets s c r) (lent_after automata_tables t c q) (lent_after-rest c r q h)

  -- the twin's runs are never refused by 12
  pub possible-twin-after : (calls : List Call) → T (possible (automata (read_automata t)) (after_calls automata_tables t calls (start (automata (read_automata t)))))
  possible-twin-after calls =
      subst (λ au. T (possible (automata au) (after_calls automata_tables t calls (start (automata (read_automata t)))))) (sym back)
      (twin-possible (read_charts s) (after_calls chart_sets s calls (start (charts (read_charts s)))) (after_calls automata_tables t calls (start (automata (read_automata t))))
      (after_calls-rest calls (start (charts (read_charts s))) (start (automata (read_automata t))) fresh))

-- Demand 3 of a set and any table that reads as its twin.
pub move_alike-twin : (s : List ℕ) → charts_refusal s ≡ none → (t : List ℕ) → read_automata t ≡ twin (read_charts s) → automata_refusal t ≡ none → (calls : List Call) →
    MoveAlike s t calls (start (charts (read_charts s))) (start (automata (read_automata t)))
move_alike-twin s ok t back fine calls = moves s ok t back fine calls (start (charts (read_charts s))) (start (automata (read_automata t))) (fresh s ok t back fine)

-- ---- the set alone

module _ (s : List ℕ) (ok : charts_refusal s ≡ none) where
  stays : (calls : List Call) (r q : Run) → AtRest (read_charts s) r q → T (possible (charts (read_charts s)) (after_calls chart_sets s calls r))
  unfolding after_calls
  stays [] r q h = charts-possible (read_charts s) r q h
  stays (c ∷ calls) r q h =
      stays calls (lent_after chart_sets s c r) (call_leaves (automata (twin (read_charts s))) c q)
      (subst (λ z. AtRest (read_charts s) z (call_leaves (automata (twin (read_charts s))) c q)) (sym (lent_after-accepted chart_sets s ok c r)) (call_leaves-rest (read_charts s) (sound s ok) c r q h))

  -- the set's runs are never refused by 12
  pub possible-charts-after : (calls : List Call) → T (possible (charts (read_charts s)) (after_calls chart_sets s calls (start (charts (read_charts s)))))
  possible-charts-after calls = stays calls (start (charts (read_charts s))) (start (automata (twin (read_charts s)))) (start-at_rest (read_charts s) (sound s ok))
