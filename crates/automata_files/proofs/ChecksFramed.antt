-- The refusal of a file, by the tests of framing and the tests behind them. Assumes nothing.
use mathlib.Core.Path.{◌≡◌, refl, sym, ap, ◌∙◌, subst}
use mathlib.Core.Bool.{Bool, true, false, not, cond, ◌&&◌}
use mathlib.Core.Option.{Option, some, none}
use mathlib.Core.List.{List, [], ◌∷◌, ◌++◌, map}
use Prim.Native.Nat.{ℕ}
use native.Mathlib.Omega.{arith}
use Rattle.prelude.specs.Lists.{all}
use Rattle.records.specs.Refusal.{Refusal, bad_table, lowest}
use Rattle.records.specs.RefusalOf.{refusal_of}
use Rattle.records.specs.declared.refusals.Refusal as declared-refusal
use Rattle.records.specs.Bytes.{records}
use Rattle.framing.specs.Framing.{framing, framing_tests}
use Rattle.model.specs.AutomataTable.{read_automata}
use Rattle.model.specs.ChartFile.{unused_are_zero}
use Rattle.model.specs.AutomataFile.{automata_limits, unused_in_table, table_in_code, table_named, clocks_tick, inside_automata, idle_edges_stay, table_nodes_fit, automata_refusal}
use Rattle.automata_records.specs.Shape.{IsShape}
use Rattle.automata_files.specs.Checked.{as_table, IsChecked}
use Rattle.automata_files.specs.Checks.{passes}
use Rattle.automata_records.specs.declared.Shape.{Shape}
use Rattle.std.specs.Prelude.{Ok, Err}

-- tests that all refuse as 11
abbrev eleven : List Bool → Option Refusal
eleven bs = lowest (map (λ b. (bad_table, b)) bs)

-- of two lists of tests the first decides where it refuses
abbrev or_else : Option Refusal → Option Refusal → Option Refusal
or_else (some w) o = some w
or_else none o = o

eleven-append : (xs : List (Refusal × Bool)) (bs : List Bool) → eleven (map (λ x. x.1) xs ++ bs) ≡ or_else (as_table (lowest xs)) (eleven bs)
unfolding lowest
eleven-append [] bs = refl
eleven-append (x ∷ xs) bs = go x.1 (eleven-append xs bs)
  where
    go : (b : Bool) → eleven (map (λ x. x.1) xs ++ bs) ≡ or_else (as_table (lowest xs)) (eleven bs) →
        cond b (some bad_table) (eleven (map (λ x. x.1) xs ++ bs)) ≡ or_else (as_table (cond b (some x.0) (lowest xs))) (eleven bs)
    go true e = refl
    go false e = e

-- seven tests that must hold
eleven-seven : (a b c d e f g : Bool) → eleven (not a ∷ not b ∷ not c ∷ not d ∷ not e ∷ not f ∷ not g ∷ []) ≡ cond (a && b && c && d && e && f && g) none (some bad_table)
unfolding lowest
eleven-seven false b c d e f g = refl
eleven-seven true false c d e f g = refl
eleven-seven true true false d e f g = refl
eleven-seven true true true false e f g = refl
eleven-seven true true true true false f g = refl
eleven-seven true true true true true false g = refl
eleven-seven true true true true true true false = refl
eleven-seven true true true true true true true = refl

module _ (s : List ℕ) where
  abbrev behind : Option Refusal
  behind = cond (passes s) none (some bad_table)

  by-framing : automata_refusal s ≡ or_else (as_table (framing 33 automata_limits s)) behind
  by-framing =
      eleven-append (framing_tests 33 automata_limits s)
      (not (all (λ r. unused_are_zero (unused_in_table r) r) (records s))
      ∷ not (all table_in_code (records s))
      ∷ not (table_named (read_automata s))
      ∷ not (clocks_tick (read_automata s))
      ∷ not (inside_automata (read_automata s))
      ∷ not (idle_edges_stay (read_automata s))
      ∷ not (table_nodes_fit (read_automata s))
      ∷ [])
      ∙ ap (or_else (as_table (framing 33 automata_limits s)))
      (eleven-seven (all (λ r. unused_are_zero (unused_in_table r) r) (records s)) (all table_in_code (records s)) (table_named (read_automata s)) (clocks_tick (read_automata s))
      (inside_automata (read_automata s)) (idle_edges_stay (read_automata s)) (table_nodes_fit (read_automata s)))

  -- ---- the answers

  pub refused-framing : (w : declared-refusal.Refusal) → as_table (framing 33 automata_limits s) ≡ some (refusal_of w) → IsChecked s (Err w)
  refused-framing w e = record {
    answer = sym (by-framing ∙ ap (λ o. or_else o behind) e);
    shape = λ sh q. let z : ◌≡◌ {A = ℕ} 0 1 = cc in absurd (omega arith);
  }

  module _ (sh : Shape) (is : IsShape s sh) where
    refusal_is : {t : Bool} → passes s ≡ t → automata_refusal s ≡ cond t none (some bad_table)
    refusal_is e = by-framing ∙ ap (λ o. or_else (as_table o) behind) is.framed ∙ ap (λ t. cond t none (some bad_table)) e

    pub refused : passes s ≡ false → IsChecked s (Err declared-refusal.TheVariants.BadTable)
    refused e = record { answer = sym (refusal_is e); shape = λ sh q. let z : ◌≡◌ {A = ℕ} 0 1 = cc in absurd (omega arith) }

    pub accepted : passes s ≡ true → IsChecked s (Ok sh)
    accepted e = record { answer = sym (refusal_is e); shape = λ sh' q. let p : sh ≡ sh' = cc in subst (IsShape s) p is }
