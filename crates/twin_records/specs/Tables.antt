-- Tables that the translator makes once for a set: of each transition its clock's number, of each state its waiting clock's and its leaving transitions in order; of each owner how many actions it has, of each state how many clocks. Assumes nothing: these are definitions.
use Rattle.std.specs.Prelude.{◌≡◌, List, map, ℕ, ◌<◌, eqb, length, get_or}
use Rattle.model.specs.Limits.{most_states, most_transitions}
use Rattle.prelude.specs.Lists.{count, upto, padded}
use Rattle.model.specs.ChartSet.{ChartSet, transition, waits}
use Rattle.model.specs.Translation.{clock_of, waiting_clock, clocks_leaving, clocks_of_state}
use Rattle.machines.specs.Chains.{head_or, Chained}
use Rattle.chart_records.specs.declared.Shape.{Shape}
use Rattle.chart_steps.specs.Tables.{keyed, action_keys}

abbrev pub HasClocks : ChartSet → List ℕ → Type 0
HasClocks cs clocks = clocks ≡ padded most_transitions 0 (map (clock_of cs) (upto (length cs.transitions)))

-- of each state the number of its waiting clock, 65,535 where it does not wait
abbrev pub waiting_place : ChartSet → ℕ → ℕ
waiting_place cs st = head_or 65535 (map (λ _. waiting_clock cs st) (waits cs st))

abbrev pub HasWaiting : ChartSet → List ℕ → Type 0
HasWaiting cs waiting = waiting ≡ padded most_states 65535 (map (waiting_place cs) (upto (length cs.homes)))

abbrev pub source_of : ChartSet → ℕ → ℕ
source_of cs t = (transition cs t).source

-- of each state its first leaving transition, and of each transition the next that leaves the same state
abbrev pub HasLeaving : ChartSet → List ℕ → List ℕ → Type 0
HasLeaving cs first next = Chained (source_of cs) most_states (length cs.transitions) first next

-- how many actions each key has; of each state how many transitions leave it, how many clocks these have, and with the waiting one: entering it resets them
abbrev pub CountsActions : List ℕ → Shape → List ℕ → Type 0
CountsActions s sh counts = (key : ℕ) → key < action_keys → get_or counts key 0 ≡ count (keyed s sh key) (upto sh.actions)

abbrev pub CountsLeaving : ChartSet → List ℕ → Type 0
CountsLeaving cs counts = (st : ℕ) → st < most_states → get_or counts st 0 ≡ count (λ u. eqb (source_of cs u) st) (upto (length cs.transitions))

abbrev pub CountsClocks : ChartSet → List ℕ → Type 0
CountsClocks cs counts = (st : ℕ) → st < most_states → get_or counts st 0 ≡ length (clocks_leaving cs st)

abbrev pub CountsResets : ChartSet → List ℕ → Type 0
CountsResets cs counts = (st : ℕ) → st < length cs.homes → get_or counts st 0 ≡ length (clocks_of_state cs st)
