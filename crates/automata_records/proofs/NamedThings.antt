-- What the things of an accepted file keep to: what a turn needs of them. Assumes nothing.
use mathlib.Core.Path.{◌≡◌, refl, sym, ap, ◌∙◌}
use mathlib.Core.Option.{some, none}
use mathlib.Core.Bool.{Bool, true, false, not, cond, ◌&&◌}
use mathlib.Core.List.{List, [], ◌∷◌, map}
use Prim.Native.Nat.{ℕ, ◌+◌, ◌*◌, ◌≤◌, ◌<◌}
use native.Mathlib.Omega.{arith}
use borrow.Author.Tests.{leb-true, ltb-true, not-true, not-false}
use lib.Dec.{leb, ltb, eqb}
use lib.ListN.{get_or}
use Rattle.model.specs.Limits.{most_ticks}
use Rattle.prelude.specs.Lists.{all, upto, case_of}
use Rattle.records.specs.Bytes.{byte, two, records, kind}
use Rattle.records.specs.Refusal.{Refusal, lowest}
use Rattle.framing.specs.Framing.{how_many, first_of}
use Rattle.records.proofs.Records.{record_at, byte-record}
use Rattle.prelude.proofs.Counts.{and-true}
use Rattle.expressions.specs.Nodes.{node_at}
use Rattle.expressions.specs.Sorts.{nodes_named}
use Rattle.model.specs.Runs.{assign, raise}
use Rattle.model.specs.ChartSet.{read_deed}
use Rattle.model.specs.AutomataTable.{always, event, clock, read_automata}
use Rattle.model.specs.ChartFile.{between, is_event, guard_named, deed_named, action_named, variable_in_code, node_in_code, deed_in_code}
use Rattle.model.specs.AutomataFile.{automata_limits, literal_in_code, table_in_code, literal_trigger_named, table_named, clocks_tick, table_tests, automata_refusal}
use Rattle.chart_records.proofs.Places.{all_get_d, thing-passes, ranged}
use Rattle.prelude.proofs.Numbers.{all-at}
use Rattle.automata_records.specs.declared.Shape.{Shape}
use Rattle.automata_records.specs.Shape.{IsShape}
use Rattle.automata_records.specs.Places.{first_literal, first_update, literal_trigger_by, edge_at, literal_at, clock_at, update_at, reset_at, node_part}
use Rattle.automata_records.specs.Names.{initial_named, home_named, edge_named, literal_named, update_named, reset_named}
use Rattle.automata_records.specs.Structure.{clock_ticks}
use Rattle.automata_records.specs.Known.{LiteralTriggerKnown, DeedKnown}
use Rattle.automata_records.proofs.PlacesRead.{first-literal, first-update}
use Rattle.automata_records.proofs.NamedTests.{named-is, clocks-is}

-- a list of tests of which none applies
none-applies : (w : Refusal) (bs : List Bool) → lowest (map (λ b. (w, b)) bs) ≡ none → all not bs ≡ true
unfolding lowest all
none-applies w [] e = refl
none-applies w (b ∷ bs) e = go b e (none-applies w bs)
  where
    go : (b : Bool) → cond b (some w) (lowest (map (λ b. (w, b)) bs)) ≡ none → (lowest (map (λ b. (w, b)) bs) ≡ none → all not bs ≡ true) → (not b && all not bs) ≡ true
    go true e ih = let z : ◌≡◌ {A = ℕ} 0 1 = cc in absurd (omega arith)
    go false e ih = ih e

-- ---- of one thing, by the tests of its codes and of its names

literal-trigger-known : (code e k clocks : ℕ) → case_of code ((1, is_event e) ∷ []) true ≡ true → literal_trigger_named clocks (literal_trigger_by code e k) ≡ true → LiteralTriggerKnown clocks (literal_trigger_by code e k)
unfolding case_of
literal-trigger-known code e k clocks = go (eqb code 1) (eqb code 2)
  where
    go : (a b : Bool) → cond a (is_event e) true ≡ true → literal_trigger_named clocks (cond a (event e) (cond b (clock k) always)) ≡ true → LiteralTriggerKnown clocks (cond a (event e) (cond b (clock k) always))
    go true b h n = let l : e ≤ 31 = leb-true e 31 h in omega arith
    go false true h n = ltb-true k clocks n
    go false false h n = tt

deed-known : (code x n variables nodes : ℕ) → deed_in_code code x ≡ true → deed_named variables nodes (read_deed code x n) ≡ true → DeedKnown variables nodes (read_deed code x n)
unfolding case_of
deed-known code x n variables nodes h = go (eqb code 2) (and-true (between 1 2 code) (case_of code ((2, is_event x) ∷ []) true) h).1
  where
    go : (a : Bool) → cond a (is_event x) true ≡ true → deed_named variables nodes (cond a (raise x) (assign x n)) ≡ true → DeedKnown variables nodes (cond a (raise x) (assign x n))
    go true e k = let l : x ≤ 31 = leb-true x 31 e in omega arith
    go false e k =
        let z : (ltb x variables ≡ true) × (ltb n nodes ≡ true) = and-true (ltb x variables) (ltb n nodes) k in
        (ltb-true x variables z.0, ltb-true n nodes z.1)

three : (a b c : Bool) → (a && b && c) ≡ true → (a ≡ true) × (b ≡ true) × (c ≡ true)
three a b c h =
    let z : ((a && b) ≡ true) × (c ≡ true) = and-true (a && b) c h in
    let y : (a ≡ true) × (b ≡ true) = and-true a b z.0 in
    (y.0, y.1, z.1)

-- the tests of the codes of a kind
abbrev codes_of : ℕ → List ℕ → Bool
codes_of k r =
    case_of k
    ((35, leb (byte r 6) 1)
    ∷ (36, literal_in_code r)
    ∷ (37, between 2 3 (byte r 1))
    ∷ (38, variable_in_code r)
    ∷ (39, node_in_code r)
    ∷ (40, deed_in_code (byte r 1) (byte r 4))
    ∷ [])
    true

module _ (s : List ℕ) (sh : Shape) (is : IsShape s sh) (ok : automata_refusal s ≡ none) where
  -- of the tests, the one of number k does not apply
  off : (k : ℕ) → k < 10 → get_or (table_tests s) k false ≡ false
  off k h = not-true _ (all_get_d not false (table_tests s) k h (none-applies _ (table_tests s) ok))

  in-codes : all table_in_code (records s) ≡ true
  in-codes = not-false (all table_in_code (records s)) (off 4 (omega arith))

  named : table_named (read_automata s) ≡ true
  named = not-false (table_named (read_automata s)) (off 5 (omega arith))

  ticking : clocks_tick (read_automata s) ≡ true
  ticking = not-false (clocks_tick (read_automata s)) (off 6 (omega arith))

  -- ---- names, kind by kind

  names : (all (initial_named s sh) (upto sh.automata) ≡ true)
      × (all (home_named s sh) (upto sh.locations) ≡ true)
      × (all (edge_named s sh) (upto sh.edges) ≡ true)
      × (all (literal_named s sh) (upto sh.literals) ≡ true)
      × (nodes_named (node_at (node_part s sh)) sh.nodes sh.variables ≡ true)
      × (all (update_named s sh) (upto sh.updates) ≡ true)
      × (all (reset_named s sh) (upto sh.resets) ≡ true)
  names =
      go (all (initial_named s sh) (upto sh.automata)) (all (home_named s sh) (upto sh.locations)) (all (edge_named s sh) (upto sh.edges)) (all (literal_named s sh) (upto sh.literals))
      (nodes_named (node_at (node_part s sh)) sh.nodes sh.variables) (all (update_named s sh) (upto sh.updates)) (all (reset_named s sh) (upto sh.resets))
      (sym (named-is s sh is) ∙ named)
    where
      go : (a b c d e f g : Bool) → (a && b && c && d && e && f && g) ≡ true → (a ≡ true) × (b ≡ true) × (c ≡ true) × (d ≡ true) × (e ≡ true) × (f ≡ true) × (g ≡ true)
      go a b c d e f g h =
          let z = three (a && b && c && d && e) f g h in
          let y = three (a && b && c) d e z.0 in
          let x = three a b c y.0 in
          (x.0, x.1, x.2, y.1, y.2, z.1, z.2)

  -- ---- codes, of the records of a kind

  coded : (k at i : ℕ) → first_of k s ≡ at → i < how_many k s → codes_of k (record_at s (at + i)) ≡ true
  coded k at i d h =
      let t : (table_in_code (record_at s (at + i)) ≡ true) × (kind (record_at s (at + i)) ≡ k) = thing-passes 33 automata_limits s is.framed table_in_code in-codes k at i d h in
      sym (ap (λ n. codes_of n (record_at s (at + i))) t.1) ∙ t.0

  -- ---- edges

  module _ (e : ℕ) (h : e < sh.edges) where
    ends : (ltb (edge_at s sh e).automaton sh.automata ≡ true) × (ltb (edge_at s sh e).source sh.locations ≡ true) × (ltb (edge_at s sh e).target sh.locations ≡ true)
    ends = three _ _ _ (all-at (edge_named s sh) sh.edges e h names.2)

    pub automaton-known : (edge_at s sh e).automaton < sh.automata
    automaton-known = ltb-true (edge_at s sh e).automaton sh.automata ends.0

    pub source_known : (edge_at s sh e).source < sh.locations
    source_known = ltb-true (edge_at s sh e).source sh.locations ends.1

  -- ---- clocks and variables

  pub ticks-known : (k : ℕ) → k < sh.clocks → (1 ≤ (clock_at s sh k).ticks) × ((clock_at s sh k).ticks ≤ most_ticks)
  ticks-known k h = ranged 1 most_ticks (clock_at s sh k).ticks (all-at (clock_ticks s sh) sh.clocks k h (sym (clocks-is s sh is) ∙ ticking))

  -- ---- literals

  module _ (l : ℕ) (h : l < sh.literals) where
    literal-named : (ltb (literal_at s sh l).0 sh.edges ≡ true) × (literal_trigger_named sh.clocks (literal_at s sh l).1.trigger ≡ true) × (guard_named sh.nodes (literal_at s sh l).1.guard ≡ true)
    literal-named = three _ _ _ (all-at (literal_named s sh) sh.literals l h names.3)

    pub literal-edge-known : (literal_at s sh l).0 < sh.edges
    literal-edge-known = ltb-true (literal_at s sh l).0 sh.edges literal-named.0

    abbrev at : ℕ → ℕ
    at k = byte s (16 * (first_literal sh + l) + k)

    event-coded : case_of (at 4) ((1, is_event (at 5)) ∷ []) true ≡ true
    unfolding case_of
    event-coded =
        let b : (k : ℕ) → k < 16 → byte (record_at s (first_literal sh + l)) k ≡ at k = byte-record s (first_literal sh + l) in
        (three (between 1 2 (at 1)) (leb (at 4) 2) (case_of (at 4) ((1, is_event (at 5)) ∷ []) true)
        (sym (λ i. between 1 2 (b 1 (omega arith) i) && leb (b 4 (omega arith) i) 2 && case_of (b 4 (omega arith) i) ((1, is_event (b 5 (omega arith) i)) ∷ []) true)
        ∙ coded 36 (first_literal sh) l (first-literal s sh is) (omega (arith, is.literals)))
        ).2

    -- its event is below 32, and its clock one of the file's
    pub literal-literal-trigger-known : LiteralTriggerKnown sh.clocks (literal_at s sh l).1.trigger
    literal-literal-trigger-known = literal-trigger-known (at 4) (at 5) (two s (16 * (first_literal sh + l) + 6)) sh.clocks event-coded literal-named.1

  -- ---- updates and resets

  module _ (u : ℕ) (h : u < sh.updates) where
    update-named : (ltb (update_at s sh u).0 sh.edges ≡ true) × (action_named sh.variables sh.nodes (update_at s sh u).1 ≡ true)
    update-named = and-true _ _ (all-at (update_named s sh) sh.updates u h names.5)

    pub update-edge-known : (update_at s sh u).0 < sh.edges
    update-edge-known = ltb-true (update_at s sh u).0 sh.edges update-named.0

    -- its variable and node are the file's, or its event is below 32
    pub update-deed-known : DeedKnown sh.variables sh.nodes (update_at s sh u).1.deed
    unfolding case_of
    update-deed-known =
        let n = first_update sh + u in
        let b : (k : ℕ) → k < 16 → byte (record_at s n) k ≡ byte s (16 * n + k) = byte-record s n in
        deed-known (byte s (16 * n + 1)) (byte s (16 * n + 4)) (two s (16 * n + 6)) sh.variables sh.nodes
        (sym (λ i. deed_in_code (b 1 (omega arith) i) (b 4 (omega arith) i)) ∙ coded 40 (first_update sh) u (first-update s sh is) (omega (arith, is.updates)))
        (and-true (guard_named sh.nodes (update_at s sh u).1.guard) (deed_named sh.variables sh.nodes (update_at s sh u).1.deed) update-named.1).1

  module _ (r : ℕ) (h : r < sh.resets) where
    reset-named : (ltb (reset_at s sh r).0 sh.edges ≡ true) × (ltb (reset_at s sh r).1 sh.clocks ≡ true)
    reset-named = and-true _ _ (all-at (reset_named s sh) sh.resets r h names.6)

    pub reset-edge-known : (reset_at s sh r).0 < sh.edges
    reset-edge-known = ltb-true (reset_at s sh r).0 sh.edges reset-named.0

    pub reset-clock-known : (reset_at s sh r).1 < sh.clocks
    reset-clock-known = ltb-true (reset_at s sh r).1 sh.clocks reset-named.1
    -- ---- nodes: operands lower and of their sorts, none used twice; guards are truths, assigned nodes numbers
