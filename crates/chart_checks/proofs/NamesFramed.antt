-- Refusal 6, by the numbers of the things. Assumes nothing.
use mathlib.Core.Path.{◌≡◌, refl, sym, ap, ◌∙◌}
use mathlib.Core.Bool.{Bool, true, false, not, ◌&&◌, ◌||◌}
use mathlib.Core.List.{List}
use Prim.Native.Nat.{ℕ}
use lib.Dec.{ltb, eqb}
use lib.ListN.{length}
use Rattle.prelude.specs.Lists.{all, upto}
use Rattle.expressions.specs.Nodes.{node_of, node_at}
use Rattle.expressions.specs.Sorts.{nodes_named}
use Rattle.prelude.proofs.Loops.{and_one, and_assoc}
use Rattle.model.specs.ChartSet.{read_actions, read_charts}
use Rattle.model.specs.ChartFile as F
use Rattle.model.specs.ChartFile.{guard_named, all_named}
use Rattle.chart_records.specs.declared.Shape.{Shape}
use Rattle.chart_records.specs.Shape.{IsShape}
use Rattle.chart_records.specs.Places.{initial_at, home_at, transition_at, place_at, action_at, node_part}
use Rattle.chart_checks.specs.Names.{initial_named, home_named, transition_named, action_named}
use Rattle.prelude.proofs.Counts.{and-true}
use Rattle.prelude.proofs.Maps.{all_map}
use Rattle.prelude.proofs.Numbers.{all_both}
use Rattle.chart_records.proofs.PlacesRead.{length-initial, length-homes, length-transitions, length-variables, length-nodes, initial-are, homes-are, transitions-are, lookup-is, all-actions}

module _ (s : List ℕ) (sh : Shape) (is : IsShape s sh) where
  initials : all (λ n. ltb n (length (read_charts s).homes)) (read_charts s).initial ≡ all (initial_named s sh) (upto sh.charts)
  initials =
      (λ j. all (λ n. ltb n (length-homes s sh is j)) (initial-are s sh is j))
      ∙ all_map (initial_at s sh) (λ n. ltb n sh.states) (upto sh.charts)

  homes : all (λ c. ltb c (length (read_charts s).initial)) (read_charts s).homes ≡ all (home_named s sh) (upto sh.states)
  homes =
      (λ j. all (λ c. ltb c (length-initial s sh is j)) (homes-are s sh is j))
      ∙ all_map (home_at s sh) (λ c. ltb c sh.charts) (upto sh.states)

  transitions :
      all (λ t. ltb t.source (length (read_charts s).homes) && ltb t.target (length (read_charts s).homes) && guard_named (length (read_charts s).nodes) t.guard) (read_charts s).transitions
      ≡ all (transition_named s sh) (upto sh.transitions)
  transitions =
      (λ j. all (λ t. ltb t.source (length-homes s sh is j) && ltb t.target (length-homes s sh is j) && guard_named (length-nodes s sh is j) t.guard) (transitions-are s sh is j))
      ∙ all_map (transition_at s sh) (λ t. ltb t.source sh.states && ltb t.target sh.states && guard_named sh.nodes t.guard) (upto sh.transitions)

  -- an action of that place, with so many owners
  abbrev of_place : ℕ → ℕ → ℕ → Bool
  of_place place owners i = not (eqb (place_at s sh i) place) || (ltb (action_at s sh i).0 owners && F.action_named sh.variables sh.nodes (action_at s sh i).1)

  actions : (place : ℕ) {n owners : ℕ} → n ≡ owners →
      all (λ x. ltb x.0 n && F.action_named (length (read_charts s).variables) (length (read_charts s).nodes) x.1) (read_actions place s)
      ≡ all (of_place place owners) (upto sh.actions)
  actions place {n} {owners} e =
      (λ j. all (λ x. ltb x.0 (e j) && F.action_named (length-variables s sh is j) (length-nodes s sh is j) x.1) (read_actions place s))
      ∙ all-actions s sh is place (λ x. ltb x.0 owners && F.action_named sh.variables sh.nodes x.1)

  abbrev placed : ℕ → ℕ → Bool
  placed place owners = all (of_place place owners) (upto sh.actions)

  -- the four places in one pass
  every-action : (placed 1 sh.states && placed 2 sh.states && placed 3 sh.transitions && placed 4 sh.states) ≡ all (action_named s sh) (upto sh.actions)
  every-action =
      (λ j. sym (all_both (of_place 1 sh.states) (of_place 2 sh.states) (upto sh.actions)) j && placed 3 sh.transitions && placed 4 sh.states)
      ∙ (λ j. sym (all_both (λ i. of_place 1 sh.states i && of_place 2 sh.states i) (of_place 3 sh.transitions) (upto sh.actions)) j && placed 4 sh.states)
      ∙ sym (all_both (λ i. of_place 1 sh.states i && of_place 2 sh.states i && of_place 3 sh.transitions i) (of_place 4 sh.states) (upto sh.actions))
      ∙ (λ j. all (λ i. either (eqb (place_at s sh i) 1) (eqb (place_at s sh i) 2) (eqb (place_at s sh i) 4) (of_place 3 sh.transitions i) (ltb (action_at s sh i).0 sh.states && F.action_named sh.variables sh.nodes (action_at s sh i).1) j) (upto sh.actions))
    where
      -- a state's: of three places, with another's test between
      either : (a b c y x : Bool) → ((not a || x) && (not b || x) && y && (not c || x)) ≡ ((not (a || b || c) || x) && y)
      either true true true y true = sym (and_one y)
      either true true false y true = sym (and_one y)
      either true false true y true = sym (and_one y)
      either true false false y true = sym (and_one y)
      either true b c y false = refl
      either false true true y true = sym (and_one y)
      either false true false y true = sym (and_one y)
      either false true c y false = refl
      either false false true y true = sym (and_one y)
      either false false true true false = refl
      either false false true false false = refl
      either false false false y x = sym (and_one y)

  nodes : nodes_named (node_of (read_charts s).nodes) (length (read_charts s).nodes) (length (read_charts s).variables) ≡ nodes_named (node_at (node_part s sh)) sh.nodes sh.variables
  nodes = λ j. nodes_named (lookup-is s sh is j) (length-nodes s sh is j) (length-variables s sh is j)

  -- all but the actions
  abbrev pub others_named : Bool
  others_named =
      all (initial_named s sh) (upto sh.charts)
      && all (home_named s sh) (upto sh.states)
      && all (transition_named s sh) (upto sh.transitions)
      && nodes_named (node_at (node_part s sh)) sh.nodes sh.variables

  pub named-is : all_named (read_charts s) ≡ (others_named && all (action_named s sh) (upto sh.actions))
  named-is =
      (λ j. initials j && homes j && transitions j && nodes j && actions 1 (length-homes s sh is) j && actions 2 (length-homes s sh is) j && actions 3 (length-transitions s sh is) j && actions 4 (length-homes s sh is) j)
      ∙ (λ j. sym (and_assoc others_named one two) j && three && four)
      ∙ (λ j. sym (and_assoc others_named (one && two) three) j && four)
      ∙ sym (and_assoc others_named (one && two && three) four)
      ∙ ap (λ b. others_named && b) every-action
    where
      one : Bool
      one = placed 1 sh.states

      two : Bool
      two = placed 2 sh.states

      three : Bool
      three = placed 3 sh.transitions

      four : Bool
      four = placed 4 sh.states

  pub actions-known : all_named (read_charts s) ≡ true → all (action_named s sh) (upto sh.actions) ≡ true
  actions-known e = (and-true others_named (all (action_named s sh) (upto sh.actions)) (sym named-is ∙ e)).1

  pub initials-known : all_named (read_charts s) ≡ true → all (initial_named s sh) (upto sh.charts) ≡ true
  initials-known e = (and-true _ _ (and-true _ _ (and-true _ _ (and-true _ _ (sym named-is ∙ e)).0).0).0).0

-- what the names of all things come to
pub ruleset names = (named-is)
