-- The twin's edges as reads of the set's bytes. Assumes nothing.
use mathlib.Core.Path.{◌≡◌, refl, ap, ◌∙◌}
use mathlib.Core.Logic.{◌⊎◌, inl, inr}
use mathlib.Core.Bool.{Bool, true, false}
use mathlib.Core.List.{List, [], ◌∷◌}
use Prim.Native.Nat.{ℕ, ◌+◌, ◌*◌, ◌≤◌, ◌<◌}
use native.Mathlib.Omega.{arith}
use borrow.Author.Tests.{eqb-true, eqb-false}
use lib.Dec.{eqb, ltb, ltb→lt}
use lib.ListN.{length, get_or}
use Rattle.model.specs.Limits.{most_states, most_edges}
use Rattle.model.specs.Owned.{home}
use Rattle.model.specs.ChartSet.{ChartSet, read_charts, waits}
use Rattle.model.specs.AutomataTable.{edge}
use Rattle.model.specs.Translation.{Origin, from_transition, from_waiting, from_idling, state_count, idle_origins, first_idle, edge_number, edge_of, twin}
use Rattle.chart_records.specs.declared.Shape.{Shape}
use Rattle.chart_records.specs.Places.{home_at, transition_at}
use Rattle.chart_records.proofs.PlacesRead.{length-initial, length-homes, length-transitions, home-is, transition-is, most-states}
use Rattle.chart_records.specs.Accepted.{Accepted}
use Rattle.chart_steps.proofs.Accepted.{source_known}
use Rattle.model.proofs.TranslationOrigins.{waits_one, IsOrigin, idle-length, edges-count, edge-of, by-origin}
use Rattle.model.proofs.TranslationCounts.{origins-few, edges_few}
use Rattle.prelude.proofs.Lists.{all_get_d}
use Rattle.model.proofs.ChartFile.{homes-named}
use Rattle.paths.specs.declared.Idling.{Idling}
use Rattle.paths.specs.LedOf.{HasIdling}

-- ---- of any set

module _ (cs : ChartSet) (n : ℕ) where
  pub idle-few : length (idle_origins cs n) ≤ 2
  idle-few = go (waits_one cs n)
    where
      go : (waits cs n ≡ []) ⊎ ((ms : ℕ) × (waits cs n ≡ ms ∷ [])) → length (idle_origins cs n) ≤ 2
      go (inl w) = omega (arith, idle-length cs n, ap length w)
      go (inr w) = omega (arith, idle-length cs n, ap length w.1)

  -- the edges of a state's idling, the due one too
  pub idle-edge : (j : ℕ) → n < state_count cs → j < length (idle_origins cs n) → edge (twin cs) (first_idle cs n + j) ≡ edge_of cs (from_idling n)
  idle-edge j h l = go (waits_one cs n) (eqb j 0) refl
    where
      go : (waits cs n ≡ []) ⊎ ((ms : ℕ) × (waits cs n ≡ ms ∷ [])) → (b : Bool) → eqb j 0 ≡ b → edge (twin cs) (first_idle cs n + j) ≡ edge_of cs (from_idling n)
      go (inl w) b q = ap (edge (twin cs)) (omega (arith, idle-length cs n, ap length w)) ∙ edge-of cs (from_idling n) h
      go (inr w) true q = ap (edge (twin cs)) (omega (arith, eqb-true j 0 q)) ∙ edge-of cs (from_waiting n) (h, w)
      go (inr w) false q = ap (edge (twin cs)) (omega (arith, eqb-false j 0 q, idle-length cs n, ap length w.1)) ∙ edge-of cs (from_idling n) h

-- ---- of an accepted one

module _ (s : List ℕ) (sh : Shape) (ok : Accepted s sh) where
  pub edges-in : length (twin (read_charts s)).edges ≤ most_edges
  edges-in = edges_few s ok.unrefused

  -- the chart of a state
  pub home_known : (n : ℕ) → n < sh.states → home_at s sh n < sh.charts
  home_known n h =
      let k : n < length (read_charts s).homes = omega (arith, length-homes s sh ok.shape) in
      let z : get_or (read_charts s).homes n 0 < length (read_charts s).initial = ltb→lt (get_or (read_charts s).homes n 0) (length (read_charts s).initial)
      (all_get_d (λ c. ltb c (length (read_charts s).initial)) (read_charts s).homes 0 n (homes-named s ok.unrefused) k) in
      omega (arith, home-is s sh ok.shape n h, length-initial s sh ok.shape)

  -- a transition's edge
  module _ (t : ℕ) (h : t < sh.transitions) where
    low-is : edge (twin (read_charts s)) t ≡ edge_of (read_charts s) (from_transition t)
    low-is = edge-of (read_charts s) (from_transition t) (rw (length-transitions s sh ok.shape) h)

    pub low-source : (edge (twin (read_charts s)) t).source ≡ (transition_at s sh t).source
    low-source = ap (λ x. x.source) low-is ∙ ap (λ x. x.source) (transition-is s sh ok.shape t h)

    pub low-target : (edge (twin (read_charts s)) t).target ≡ (transition_at s sh t).target
    low-target = ap (λ x. x.target) low-is ∙ ap (λ x. x.target) (transition-is s sh ok.shape t h)

    pub low-automaton : (edge (twin (read_charts s)) t).automaton ≡ home_at s sh (transition_at s sh t).source
    low-automaton =
        ap (λ x. x.automaton) low-is
        ∙ ap (λ x. home (read_charts s).homes x.source) (transition-is s sh ok.shape t h)
        ∙ home-is s sh ok.shape (transition_at s sh t).source (source_known s sh ok t h)

  -- an idle edge, by the state that is held of it
  module _ (idling : Idling) (has : HasIdling s sh idling) (j : ℕ) (h : j < idling.count) where
    pub idle-room : j < 2 * most_states
    idle-room =
        omega (
          arith,
          has.count,
          edges-count (read_charts s),
          origins-few (read_charts s),
          length-transitions s sh ok.shape,
          length-homes s sh ok.shape,
          most-states s sh ok.shape,
        )

    pub high-source : (edge (twin (read_charts s)) (sh.transitions + j)).source ≡ get_or idling.states j 0
    high-source = ap (λ x. x.source) (has.each j h)

    pub high-target : (edge (twin (read_charts s)) (sh.transitions + j)).target ≡ get_or idling.states j 0
    high-target = ap (λ x. x.target) (has.each j h)

    pub high-automaton : (edge (twin (read_charts s)) (sh.transitions + j)).automaton ≡ home_at s sh (get_or idling.states j 0)
    high-automaton = ap (λ x. x.automaton) (has.each j h) ∙ home-is s sh ok.shape (get_or idling.states j 0) (has.known j h)

  pub automaton-known : (e : ℕ) → e < length (twin (read_charts s)).edges → (edge (twin (read_charts s)) e).automaton < sh.charts
  automaton-known e h = by-origin (read_charts s) (λ k. (edge (twin (read_charts s)) k).automaton < sh.charts) each e (omega (arith, edges-count (read_charts s)))
    where
      idle : (n : ℕ) → n < state_count (read_charts s) → home (read_charts s).homes n < sh.charts
      idle n l = let k : n < sh.states = omega (arith, length-homes s sh ok.shape) in omega (arith, home-is s sh ok.shape n k, home_known n k)

      each : (o : Origin) → IsOrigin (read_charts s) o → (edge (twin (read_charts s)) (edge_number (read_charts s) o)).automaton < sh.charts
      each (from_transition t) i =
          let l : t < sh.transitions = omega (arith, length-transitions s sh ok.shape) in
          omega (arith, low-automaton t l, home_known (transition_at s sh t).source (source_known s sh ok t l))
      each (from_waiting n) i = omega (arith, ap (λ x. x.automaton) (edge-of (read_charts s) (from_waiting n) i), idle n i.0)
      each (from_idling n) i = omega (arith, ap (λ x. x.automaton) (edge-of (read_charts s) (from_idling n) i), idle n i)
