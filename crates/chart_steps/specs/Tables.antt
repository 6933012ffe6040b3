-- Tables that a turn reads, made once for a set: of each state its leaving transitions by priority, of each owner its actions in file order. Assumes nothing: these are definitions.
use Rattle.std.specs.Prelude.{◌≡◌, ◌⊎◌, Bool, cond, ◌&&◌, List, [], ◌∷◌, map, ℕ, ◌+◌, ◌*◌, ◌-◌, ◌≤◌, ◌<◌, min, max, eqb, length, get_or}
use Rattle.model.specs.Limits.{most_states, most_transitions, most_priorities}
use Rattle.prelude.specs.Lists.{keep, upto, case_of}
use Rattle.records.specs.Refusal.{Out, ◌>>=◌}
use Rattle.model.specs.Runs.{World, actions}
use Rattle.model.specs.ChartSet.{ChartSet, read_charts, transition}
pub use Rattle.machines.specs.Chains.{head_or, earliest, named}
use Rattle.chart_records.specs.declared.Shape.{Shape}
use Rattle.chart_records.specs.Places.{place_at, action_at}

-- ---- rows

-- a transition that leaves a state with a priority
abbrev pub leaves : ChartSet → ℕ → ℕ → ℕ → Bool
leaves cs st q u = eqb (transition cs u).source st && eqb (transition cs u).priority q

-- the transition that leaves a state with a priority; 65,535 is none
abbrev pub slot_at : ChartSet → ℕ → ℕ → ℕ
slot_at cs st q = earliest (leaves cs st q) 0 (length cs.transitions)

-- a place of a row: a transition's number, or 256 for none
abbrev pub row_entry : ℕ → ℕ
row_entry t = min 256 t

-- "array of arrays, 128 rows of 16 transition numbers": a row for each state, with a place for each priority, 1 to 16, in order
abbrev pub HasRows : ChartSet → List (List ℕ) → Type 0
HasRows cs rows = (st j : ℕ) → st < most_states → j < most_priorities → get_or (get_or rows st []) j 0 ≡ row_entry (slot_at cs st (j + 1))

unfoldable pub highest : (ℕ → ℕ) → List ℕ → ℕ
highest f [] = 0
highest f (x ∷ xs) = max (f x) (highest f xs)

-- the highest priority of the transitions that leave a state, 0 where none does
abbrev pub row_end : ChartSet → ℕ → ℕ
row_end cs st = highest (λ u. cond (eqb (transition cs u).source st) (transition cs u).priority 0) (upto (length cs.transitions))

-- of each row its end: no place from there on names a transition
pub record HasEnds (cs : ChartSet) (rows : List (List ℕ)) (ends : List ℕ) : Type 0 where
  pub exact : (st : ℕ) → st < most_states → get_or ends st 0 ≡ row_end cs st
  pub short : (st : ℕ) → st < most_states → get_or ends st 0 ≤ most_priorities
  pub empty : (st j : ℕ) → st < most_states → get_or ends st 0 ≤ j → j < most_priorities → get_or (get_or rows st []) j 0 ≡ 256

-- ---- actions

-- where the keys of exit actions begin, those of transitions, and those of waiting; the key that no action has; how many keys there are
abbrev pub exit_keys : ℕ
exit_keys = most_states

abbrev pub crossing_keys : ℕ
crossing_keys = 2 * most_states

abbrev pub waiting_keys : ℕ
waiting_keys = 2 * most_states + most_transitions

abbrev pub empty_key : ℕ
empty_key = 3 * most_states + most_transitions

abbrev pub action_keys : ℕ
action_keys = empty_key + 1

-- An action's key: of a state's entry the state's number, of its exit `exit_keys` more, of a transition `crossing_keys` more, of a state's waiting `waiting_keys` more.
abbrev pub key_for : ℕ → ℕ → ℕ
key_for place owner = case_of place ((2, exit_keys + owner) ∷ (3, crossing_keys + owner) ∷ (4, waiting_keys + owner) ∷ []) owner

abbrev pub key_at : List ℕ → Shape → ℕ → ℕ
key_at s sh a = key_for (place_at s sh a) (action_at s sh a).0

abbrev pub keyed : List ℕ → Shape → ℕ → ℕ → Bool
keyed s sh key a = eqb (key_at s sh a) key

-- the deeds of a key, in file order, each seeing the last
abbrev pub deeds_of : List ℕ → Shape → ℕ → World → Out World
deeds_of s sh key w = actions (read_charts s).nodes (read_charts s).variables (map (λ a. (action_at s sh a).1) (keep (keyed s sh key) (upto sh.actions))) w

-- those of three keys, one key after the other
abbrev pub deeds_of_three : List ℕ → Shape → ℕ → ℕ → ℕ → World → Out World
deeds_of_three s sh leaving crossing entering w = deeds_of s sh leaving w >>= λ w₁. (deeds_of s sh crossing w₁ >>= λ w₂. deeds_of s sh entering w₂)

-- of each key its first action, and of each action the next of its key
abbrev pub HasFirsts : List ℕ → Shape → List ℕ → Type 0
HasFirsts s sh first = (key : ℕ) → key < action_keys → get_or first key 0 ≡ earliest (keyed s sh key) 0 sh.actions

pub record HasActions (s : List ℕ) (sh : Shape) (first next : List ℕ) : Type 0 where
  pub first_of : HasFirsts s sh first
  pub next_of : (a : ℕ) → a < sh.actions → get_or next a 0 ≡ earliest (keyed s sh (key_at s sh a)) (a + 1) (sh.actions - (a + 1))

-- owners that a key can tell apart: of so many states and transitions
abbrev pub KeyedOwner : ℕ → ℕ → Type 0
KeyedOwner place owner =
    ((place ≡ 1) × (owner < most_states)) ⊎ (((place ≡ 2) × (owner < most_states)) ⊎ (((place ≡ 3) × (owner < most_transitions)) ⊎ ((place ≡ 4) × (owner < most_states))))
