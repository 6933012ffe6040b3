-- What a twin is counted by: what the edges of transitions have, and the edges of the idling in states. Assumes nothing: these are definitions.
use Rattle.std.specs.Prelude.{List, ℕ, ◌+◌, length}
use Rattle.prelude.specs.Lists.{gather, upto}
use Rattle.model.specs.ChartSet.{ChartSet}
use Rattle.model.specs.Translation.{Origin, from_transition, transition_count, state_count, idle_origins, literals_of, waiting_clocks, updates_of}

module _ (cs : ChartSet) where
  abbrev pub of_transitions : {A : Type 0} → (Origin → List A) → List A
  of_transitions f = gather (λ t. f (from_transition t)) (upto (transition_count cs))

  abbrev pub of_idling : {A : Type 0} → (ℕ → List A) → List A
  of_idling f = gather f (upto (state_count cs))

  -- idle edges, their literals, waiting clocks, and the idle edges' updates
  abbrev pub idle_length : ℕ
  idle_length = length (of_idling (idle_origins cs)) + length (of_idling (λ st. gather (literals_of cs) (idle_origins cs st))) + length (of_idling (waiting_clocks cs)) + length (of_idling (λ st. gather (updates_of cs) (idle_origins cs st)))
