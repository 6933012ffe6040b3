-- Variables, nodes and homes, as reads of the file's bytes. Assumes nothing.
use mathlib.Core.Path.{◌≡◌, refl, sym, ap, ◌∙◌}
use mathlib.Core.Bool.{Bool, true, false, ◌&&◌}
use mathlib.Core.List.{List, []}
use Prim.Native.Nat.{ℕ, zero, suc, ◌+◌, ◌*◌, ◌≤◌, ◌<◌}
use native.Mathlib.Omega.{arith}
use borrow.Author.Tests.{ltb-true, ltb-false}
use lib.Dec.{ltb, eqb}
use lib.IntN.{ℤ, pos}
use lib.ListN.{length, get_or, drop, length-take, get_or-eq_default, drop_of_length-le}
use Rattle.prelude.specs.Lists.{all, from, upto, case_of}
use Rattle.prelude.proofs.Counts.{get_or-upto}
use Rattle.expressions.specs.Nodes.{unknown, read_node, node_of, node_at}
use Rattle.model.specs.Runs.{Variable, no_variable, in_bounds, places_possible, variables_possible}
use Rattle.machines.specs.declared.values.Values.{Values}
use Rattle.machines.specs.Files.{home_in, homes_in, variable_in, variables_in, node_part, nodes_in}
use Rattle.prelude.proofs.Filled.{length_from}

module _ (s : List ℕ) (parts places : ℕ) where
  pub length-homes : length (homes_in s parts places) ≡ places
  length-homes = length_from (home_in s parts) 0 places

  pub home-is : (i : ℕ) → i < places → get_or (homes_in s parts places) i 0 ≡ home_in s parts i
  home-is i h = get_or-upto (home_in s parts) 0 places i h

  -- a place is one of a part's own
  pub own_is : (i c : ℕ) → (ltb i (length (homes_in s parts places)) && eqb (get_or (homes_in s parts places) i 0) c) ≡ (ltb i places && eqb (home_in s parts i) c)
  own_is i c = ap (λ n. ltb i n && eqb (get_or (homes_in s parts places) i 0) c) length-homes ∙ go (ltb i places) refl
    where
      go : (b : Bool) → ltb i places ≡ b → (b && eqb (get_or (homes_in s parts places) i 0) c) ≡ (b && eqb (home_in s parts i) c)
      go true e = ap (λ h. eqb h c) (home-is i (ltb-true i places e))
      go false e = refl

  pub places-fit : (at : List ℕ) → places_possible parts (homes_in s parts places) at ≡ all (λ c. ltb (get_or at c 0) places && eqb (home_in s parts (get_or at c 0)) c) (upto parts)
  places-fit at = λ i. all (λ c. own_is (get_or at c 0) c i) (upto parts)

-- tests that agree below n
pub all_alike : (p q : ℕ → Bool) (k n : ℕ) → ((i : ℕ) → k ≤ i → i < k + n → p i ≡ q i) → all p (from k n) ≡ all q (from k n)
unfolding all from
all_alike p q k zero h = refl
all_alike p q k (suc n) h = λ i. h k (omega arith) (omega arith) i && all_alike p q (suc k) n (λ i a b. h i (omega arith) (omega arith)) i

module _ (s : List ℕ) (v : Values) where
  pub length-variables : length (variables_in s v) ≡ v.variables
  length-variables = length_from (variable_in s v) 0 v.variables

  pub variable-is : (d : Variable) (i : ℕ) → i < v.variables → get_or (variables_in s v) i d ≡ variable_in s v i
  variable-is d i h = get_or-upto (variable_in s v) d v.variables i h

  pub variables_fit : (vars : List ℤ) → variables_possible (variables_in s v) vars ≡ all (λ i. in_bounds (variable_in s v i) (get_or vars i (pos 0))) (upto v.variables)
  variables_fit vars =
      ap (λ n. all (λ i. in_bounds (get_or (variables_in s v) i no_variable) (get_or vars i (pos 0))) (upto n)) length-variables
      ∙ all_alike (λ i. in_bounds (get_or (variables_in s v) i no_variable) (get_or vars i (pos 0))) (λ i. in_bounds (variable_in s v i) (get_or vars i (pos 0))) 0 v.variables
      (λ i a b. ap (λ x. in_bounds x (get_or vars i (pos 0))) (variable-is no_variable i (omega arith)))

  -- a node is that of the part of the file that has the nodes' records; also past the end, where both are unknown
  node-is : (n : ℕ) → node_of (nodes_in s v) n ≡ node_at (node_part s v) n
  unfolding case_of
  node-is n = go (ltb n v.nodes) refl
    where
      none_left : v.nodes ≤ n → drop (16 * n) (node_part s v) ≡ []
      none_left h =
          let l : length (node_part s v) ≤ 16 * n = omega (arith, length-take (16 * v.nodes) (drop (16 * (v.first + v.variables)) s)) in
          drop_of_length-le (node_part s v) l

      go : (b : Bool) → ltb n v.nodes ≡ b → node_of (nodes_in s v) n ≡ node_at (node_part s v) n
      go true e = get_or-upto (node_at (node_part s v)) unknown v.nodes n (ltb-true n v.nodes e)
      go false e =
          let h : v.nodes ≤ n = ltb-false n v.nodes e in
          get_or-eq_default (nodes_in s v) unknown (omega (arith, length_from (node_at (node_part s v)) 0 v.nodes)) ∙ sym (ap read_node (none_left h))

  pub lookup-is : node_of (nodes_in s v) ≡ node_at (node_part s v)
  lookup-is = λ j n. node-is n j
