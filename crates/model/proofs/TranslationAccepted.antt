-- The twin of an accepted set is never refused by 11. Assumes nothing.
use mathlib.Core.Path.{◌≡◌, refl, sym, subst}
use mathlib.Core.Option.{none}
use mathlib.Core.Bool.{Bool, true, false, not, ◌&&◌}
use mathlib.Core.List.{List, [], ◌∷◌, map}
use Prim.Native.Nat.{ℕ, ◌*◌, ◌≤◌}
use native.Mathlib.Omega.{arith}
use lib.Dec.{T, ltb}
use lib.ListN.{length}
use Rattle.model.specs.Limits.{longest_table}
use Rattle.prelude.specs.Lists.{all}
use Rattle.records.specs.Refusal.{Refusal, bad_table, lowest}
use Rattle.records.specs.Bytes.{records}
use Rattle.framing.specs.Framing.{has_odd_length, has_unordered_kinds, has_wrong_amounts}
use Rattle.model.specs.ChartSet as C
use Rattle.model.specs.ChartSet.{ChartSet, Trigger, read_charts, transition}
use Rattle.model.specs.ChartFile.{charts_refusal, unused_are_zero}
use Rattle.model.specs.AutomataTable.{Automata, read_automata, write_automata}
use Rattle.model.specs.AutomataFile.{automata_limits, unused_in_table, table_in_code, table_named, clocks_tick, inside_automata, idle_edges_stay, table_nodes_fit, table_tests, automata_refusal}
use Rattle.model.specs.Translation.{literal_trigger_of, twin, twin_bytes}
use Rattle.prelude.proofs.Bools.{and_right, not-false}
use Rattle.prelude.proofs.Lists.{all-imp, all_both, all_cons, all_nil}
use Rattle.model.proofs.AutomataTableRecords.{things, written-length}
use Rattle.model.proofs.AutomataTableRead.{fits_variable}
use Rattle.model.proofs.AutomataFileFraming.{WithinLimits, written-even, written-ordered, written-within}
use Rattle.model.proofs.AutomataFileCodes.{coded_literal_trigger, Coded, written-clean, written-coded}
use Rattle.model.proofs.ChartFile.{coded_trigger, coded_deed, ordered, charts-some, charts-few, states-few, variables-few, nodes-few, trigger-coded, variables-ordered, nodes-known, deeds-coded}
use Rattle.model.proofs.TranslationCounts.{edges_few, literals-few, clocks-few, updates-few, resets-few}
use Rattle.model.proofs.TranslationNames.{all-literals, all-updates, twin-named, twin-ticks, twin_inside, twin-stays, twin-nodes}
use Rattle.model.proofs.TranslationWritten.{twin-fits, twin-back}

-- ---- none of the tests applies

lowest-off : (w : Refusal) (bs : List Bool) → T (all not bs) → lowest (map (λ applies. (w, applies)) bs) ≡ none
unfolding lowest all
lowest-off w [] t = refl
lowest-off w (true ∷ bs) t = absurd t
lowest-off w (false ∷ bs) t = lowest-off w bs t

not-twice : (b : Bool) → T b → T (not (not b))
not-twice true t = tt
not-twice false t = absurd t

-- a file that passes each test is not refused
pub table-accepted : (s : List ℕ) → has_odd_length 33 automata_limits s ≡ false → has_unordered_kinds 33 automata_limits s ≡ false → has_wrong_amounts 33 automata_limits s ≡ false →
    T (all (λ r. unused_are_zero (unused_in_table r) r) (records s)) → T (all table_in_code (records s)) → T (table_named (read_automata s)) → T (clocks_tick (read_automata s)) →
    T (inside_automata (read_automata s)) → T (idle_edges_stay (read_automata s)) → T (table_nodes_fit (read_automata s)) → automata_refusal s ≡ none
table-accepted s even ordered within clean coded named ticks inside stays nodes =
    lowest-off bad_table (table_tests s)
    (all_cons not (has_odd_length 33 automata_limits s) _ (not-false even)
    (all_cons not (has_unordered_kinds 33 automata_limits s) _ (not-false ordered)
    (all_cons not (has_wrong_amounts 33 automata_limits s) _ (not-false within)
    (all_cons not (not (all (λ r. unused_are_zero (unused_in_table r) r) (records s))) _ (not-twice (all (λ r. unused_are_zero (unused_in_table r) r) (records s)) clean)
    (all_cons not (not (all table_in_code (records s))) _ (not-twice (all table_in_code (records s)) coded)
    (all_cons not (not (table_named (read_automata s))) _ (not-twice (table_named (read_automata s)) named)
    (all_cons not (not (clocks_tick (read_automata s))) _ (not-twice (clocks_tick (read_automata s)) ticks)
    (all_cons not (not (inside_automata (read_automata s))) _ (not-twice (inside_automata (read_automata s)) inside)
    (all_cons not (not (idle_edges_stay (read_automata s))) _ (not-twice (idle_edges_stay (read_automata s)) stays)
    (all_cons not (not (table_nodes_fit (read_automata s))) [] (not-twice (table_nodes_fit (read_automata s)) nodes) (all_nil not)))))))))))

-- any automata that are whole: the file written of them is not refused
pub written-accepted : (au : Automata) → read_automata (write_automata au) ≡ au → WithinLimits au → Coded au →
    T (table_named au) → T (clocks_tick au) → T (inside_automata au) → T (idle_edges_stay au) → T (table_nodes_fit au) → automata_refusal (write_automata au) ≡ none
written-accepted au back within coded named ticks inside stays nodes =
    table-accepted (write_automata au) (written-even au) (written-ordered au) (written-within au within) (written-clean au) (written-coded au coded)
    (subst (λ x. T (table_named x)) (sym back) named)
    (subst (λ x. T (clocks_tick x)) (sym back) ticks)
    (subst (λ x. T (inside_automata x)) (sym back) inside)
    (subst (λ x. T (idle_edges_stay x)) (sym back) stays)
    (subst (λ x. T (table_nodes_fit x)) (sym back) nodes)

-- ---- the twin

module _ (s : List ℕ) (ok : charts_refusal s ≡ none) where
  abbrev cs : ChartSet
  cs = read_charts s

  pub twin-within : WithinLimits (twin cs)
  twin-within = record {
    some_automaton = charts-some s ok;
    automata = charts-few s ok;
    locations = states-few s ok;
    edges = edges_few s ok;
    literals = literals-few s ok;
    clocks = clocks-few s ok;
    variables = variables-few s ok;
    nodes = nodes-few s ok;
    updates = updates-few s ok;
    resets = resets-few s ok;
  }

  -- 16 bytes for each thing
  pub length-twin : length (twin_bytes s) ≡ 16 * things (twin cs)
  length-twin = written-length (twin cs)

  pub short-twin : length (twin_bytes s) ≤ longest_table
  short-twin =
      omega (
        arith,
        length-twin,
        charts-few s ok,
        states-few s ok,
        edges_few s ok,
        literals-few s ok,
        clocks-few s ok,
        variables-few s ok,
        nodes-few s ok,
        updates-few s ok,
        resets-few s ok,
      )

  coded-literal-trigger : (t : ℕ) → T (coded_literal_trigger (literal_trigger_of cs t (transition cs t).trigger))
  coded-literal-trigger t = go (transition cs t).trigger (trigger-coded s ok t)
    where
      go : (g : Trigger) → T (coded_trigger g) → T (coded_literal_trigger (literal_trigger_of cs t g))
      go C.always u = tt
      go (C.event e) u = u
      go (C.after ms) u = tt
      go (C.every ms) u = tt

  pub twin-coded : T (all (λ b. ltb b 256) s) → Coded (twin cs)
  twin-coded bytes = record {
    literals = all-imp (λ x. ltb x.0 (length (twin cs).edges) && coded_literal_trigger x.1.trigger) (λ x. coded_literal_trigger x.1.trigger)
        (λ x t. and_right (ltb x.0 (length (twin cs).edges)) (coded_literal_trigger x.1.trigger) t) (twin cs).literals
        (all-literals cs (λ l. coded_literal_trigger l.trigger) (λ m t h. coded-literal-trigger t) (λ m z h. tt));
    variables = all_both fits_variable ordered cs.variables (twin-fits s ok bytes).variables (variables-ordered s ok);
    nodes = nodes-known s ok;
    updates = all-imp (λ x. ltb x.0 (length (twin cs).edges) && coded_deed x.1.deed) (λ x. coded_deed x.1.deed)
        (λ x t. and_right (ltb x.0 (length (twin cs).edges)) (coded_deed x.1.deed) t) (twin cs).updates
        (all-updates cs (λ a. coded_deed a.deed) (deeds-coded s ok 2) (deeds-coded s ok 3) (deeds-coded s ok 1) (deeds-coded s ok 4));
  }

pub twin-accepted : (s : List ℕ) → T (all (λ b. ltb b 256) s) → charts_refusal s ≡ none → automata_refusal (twin_bytes s) ≡ none
twin-accepted s bytes ok =
    written-accepted (twin (read_charts s)) (twin-back s bytes ok) (twin-within s ok) (twin-coded s ok bytes)
    (twin-named s ok) (twin-ticks s ok) (twin_inside s ok) (twin-stays s ok) (twin-nodes s ok)
