-- The twin of an accepted set fits the fields of its file, so that its file says what the translation is. Assumes nothing.
use mathlib.Core.Path.{◌≡◌}
use mathlib.Core.Option.{Option, some, none}
use mathlib.Core.Bool.{Bool, true, ◌&&◌}
use mathlib.Core.List.{List}
use Prim.Native.Nat.{ℕ, zero, suc, ◌/◌, ◌^◌, ◌≤◌, ◌<◌}
use native.Mathlib.Omega.{arith}
use lib.Dec.{T, leb, ltb, eqb, ltb→lt, lt→ltb, leb→le}
use lib.ListN.{length, take, drop}
use lib.Signed.{mag}
use Rattle.prelude.specs.Lists.{all}
use Rattle.records.specs.Bytes.{byte, two, two±, four±, cut, records, kind, of_kind}
use Rattle.records.proofs.RoundTrips.{of-bytes, two-low, two±-low, four±-low}
use Rattle.expressions.specs.Nodes as N
use Rattle.expressions.specs.Nodes.{read_node}
use Rattle.model.specs.Runs.{Deed, assign, raise, Action}
use Rattle.model.specs.ChartSet.{ChartSet, read_charts, read_variable}
use Rattle.model.specs.ChartFile.{charts_refusal, between, guard_named, deed_named, action_named}
use Rattle.model.specs.AutomataTable as A
use Rattle.model.specs.AutomataTable.{Edge, Literal, LiteralTrigger, Clock, read_automata}
use Rattle.model.specs.AutomataFile.{literal_trigger_named}
use Rattle.model.specs.Translation.{state_count, twin, twin_bytes}
use Rattle.prelude.proofs.Bools.{and_left, and_right, both_of, is_true}
use Rattle.prelude.proofs.Lists.{all_take, all_drop, all_keep, all-imp, all-mapped, all_cons, all_nil, case-all}
use Rattle.model.proofs.AutomataTableRead.{short, fits_literal_trigger, fits_guard, fits_edge, fits_literal, fits_variable, fits_node, fits_deed, fits_update, Fits, read_automata-written}
use Rattle.model.proofs.ChartFile.{states-few, nodes-few, initial-named, three-of, target-in}
use Rattle.model.proofs.TranslationCounts.{edges_few, clocks-few}
use Rattle.model.proofs.TranslationNames.{edge_named, literal_named, update_named, reset_named, edges-named, literals-named, updates-named, resets-named, twin-ticks}

-- ---- a file's bytes

abbrev is_byte : ℕ → Bool
is_byte b = ltb b 256

abbrev of_bytes : List ℕ → Bool
of_bytes r = all is_byte r

cut-bytes : (n : ℕ) (s : List ℕ) → T (all is_byte s) → T (all of_bytes (cut n s))
unfolding cut
cut-bytes zero s t = all_nil of_bytes
cut-bytes (suc n) s t = all_cons of_bytes (take 16 s) (cut n (drop 16 s)) (all_take is_byte 16 s t) (cut-bytes n (drop 16 s) (all_drop is_byte 16 s t))

kind-bytes : (s : List ℕ) → T (all is_byte s) → (k : ℕ) → T (all of_bytes (of_kind k s))
kind-bytes s t k = all_keep of_bytes (λ r. eqb (kind r) k) (records s) (cut-bytes (length s / 16) s t)

node-fits : (r : List ℕ) → T (of_bytes r) → T (fits_node (read_node r))
unfolding all
node-fits r b =
    case-all fits_node (byte r 1) _ N.unknown
    (rw (is-short 2, is-short 4, is-short 6, is_true {b = ltb (mag (four± r 8)) (2 ^ 31)} (lt→ltb (mag (four± r 8)) (2 ^ 31) (four±-low r (of-bytes r b) 8))) tt)
    tt
  where
    is-short : (k : ℕ) → short (two r k) ≡ true
    is-short k = is_true {b = short (two r k)} (lt→ltb (two r k) 65536 (two-low r (of-bytes r b) k))

variable-fits : (r : List ℕ) → T (of_bytes r) → T (fits_variable (read_variable r))
variable-fits r b = rw (at 2, at 4, at 6) tt
  where
    at : (k : ℕ) → ltb (mag (two± r k)) (2 ^ 15) ≡ true
    at k = is_true {b = ltb (mag (two± r k)) (2 ^ 15)} (lt→ltb (mag (two± r k)) (2 ^ 15) (two±-low r (of-bytes r b) k))

-- ---- numbers that name things are small

small : (n m : ℕ) → m ≤ 65536 → T (ltb n m) → T (short n)
small n m h t = let l : n < m = ltb→lt n m t in lt→ltb n 65536 (omega arith)

literal-trigger-fits : (m : ℕ) (c : LiteralTrigger) → m ≤ 65536 → T (literal_trigger_named m c) → T (fits_literal_trigger c)
literal-trigger-fits m A.always h t = tt
literal-trigger-fits m (A.event e) h t = tt
literal-trigger-fits m (A.clock k) h t = small k m h t

guard-fits : (m : ℕ) (g : Option ℕ) → m ≤ 65535 → T (guard_named m g) → T (fits_guard g)
guard-fits m none h t = tt
guard-fits m (some n) h t = let l : n < m = ltb→lt n m t in lt→ltb n 65535 (omega arith)

deed-fits : (v m : ℕ) (d : Deed) → m ≤ 65536 → T (deed_named v m d) → T (fits_deed d)
deed-fits v m (assign x n) h t = small n m h (and_right (ltb x v) (ltb n m) t)
deed-fits v m (raise e) h t = tt

module _ (s : List ℕ) (ok : charts_refusal s ≡ none) where
  abbrev cs : ChartSet
  cs = read_charts s

  edges-short : length (twin cs).edges ≤ 65536
  edges-short = omega (arith, edges_few s ok)

  clocks-short : length (twin cs).clocks ≤ 65536
  clocks-short = omega (arith, clocks-few s ok)

  states-short : state_count cs ≤ 65536
  states-short = omega (arith, states-few s ok)

  nodes-short : length cs.nodes ≤ 65535
  nodes-short = omega (arith, nodes-few s ok)

  edge-fits : (e : Edge) → T (edge_named (twin cs) e) → T (fits_edge e)
  edge-fits e t =
      let h : T (ltb e.automaton (length cs.initial)) × T (ltb e.source (state_count cs)) × T (ltb e.target (state_count cs))
      = three-of (ltb e.automaton (length cs.initial)) (ltb e.source (state_count cs)) (ltb e.target (state_count cs)) t in
      both_of (short e.source) (short e.target) (small e.source (state_count cs) states-short h.1) (small e.target (state_count cs) states-short h.2)

  literal-fits : (x : ℕ × Literal) → T (literal_named (twin cs) x) → T (fits_literal x)
  literal-fits x t =
      let h : T (ltb x.0 (length (twin cs).edges)) × T (literal_trigger_named (length (twin cs).clocks) x.1.trigger) × T (guard_named (length cs.nodes) x.1.guard)
      = three-of (ltb x.0 (length (twin cs).edges)) (literal_trigger_named (length (twin cs).clocks) x.1.trigger) (guard_named (length cs.nodes) x.1.guard) t in
      both_of (short x.0) (fits_literal_trigger x.1.trigger && fits_guard x.1.guard) (small x.0 (length (twin cs).edges) edges-short h.0)
      (both_of (fits_literal_trigger x.1.trigger) (fits_guard x.1.guard) (literal-trigger-fits (length (twin cs).clocks) x.1.trigger clocks-short h.1) (guard-fits (length cs.nodes) x.1.guard nodes-short h.2))

  clock-fits : (c : Clock) → T (between 1 36_000 c.ticks) → T (short c.ticks)
  clock-fits c t = let l : c.ticks ≤ 36_000 = leb→le c.ticks 36_000 (and_right (leb 1 c.ticks) (leb c.ticks 36_000) t) in lt→ltb c.ticks 65536 (omega arith)

  update-fits : (x : ℕ × Action) → T (update_named (twin cs) x) → T (fits_update x)
  update-fits x t =
      let named : T (action_named (length cs.variables) (length cs.nodes) x.1) = and_right (ltb x.0 (length (twin cs).edges)) (action_named (length cs.variables) (length cs.nodes) x.1) t in
      both_of (short x.0 && fits_guard x.1.guard) (fits_deed x.1.deed)
      (both_of (short x.0) (fits_guard x.1.guard)
      (small x.0 (length (twin cs).edges) edges-short (and_left (ltb x.0 (length (twin cs).edges)) (action_named (length cs.variables) (length cs.nodes) x.1) t))
      (guard-fits (length cs.nodes) x.1.guard nodes-short (and_left (guard_named (length cs.nodes) x.1.guard) (deed_named (length cs.variables) (length cs.nodes) x.1.deed) named)))
      (deed-fits (length cs.variables) (length cs.nodes) x.1.deed (omega (arith, nodes-short)) (and_right (guard_named (length cs.nodes) x.1.guard) (deed_named (length cs.variables) (length cs.nodes) x.1.deed) named))

  reset-fits : (x : ℕ × ℕ) → T (reset_named (twin cs) x) → T (short x.0 && short x.1)
  reset-fits x t =
      both_of (short x.0) (short x.1)
      (small x.0 (length (twin cs).edges) edges-short (and_left (ltb x.0 (length (twin cs).edges)) (ltb x.1 (length (twin cs).clocks)) t))
      (small x.1 (length (twin cs).clocks) clocks-short (and_right (ltb x.0 (length (twin cs).edges)) (ltb x.1 (length (twin cs).clocks)) t))

  pub twin-fits : T (all (λ b. ltb b 256) s) → Fits (twin cs)
  twin-fits bytes = record {
    initial = all-imp (λ z. ltb z (state_count cs)) short (λ z t. small z (state_count cs) states-short t) cs.initial (initial-named s ok);
    edges = all-imp (edge_named (twin cs)) fits_edge edge-fits (twin cs).edges (edges-named s ok);
    literals = all-imp (literal_named (twin cs)) fits_literal literal-fits (twin cs).literals (literals-named s ok);
    clocks = all-imp (λ c. between 1 36_000 c.ticks) (λ c. short c.ticks) clock-fits (twin cs).clocks (twin-ticks s ok);
    variables = all-mapped of_bytes fits_variable read_variable variable-fits (of_kind 4 s) (kind-bytes s bytes 4);
    nodes = all-mapped of_bytes fits_node read_node node-fits (of_kind 5 s) (kind-bytes s bytes 5);
    updates = all-imp (update_named (twin cs)) fits_update update-fits (twin cs).updates (updates-named s ok);
    resets = all-imp (reset_named (twin cs)) (λ x. short x.0 && short x.1) reset-fits (twin cs).resets (resets-named cs (target-in s ok));
  }

-- the twin's file says what the translation is
pub twin-back : (s : List ℕ) → T (all (λ b. ltb b 256) s) → charts_refusal s ≡ none → read_automata (twin_bytes s) ≡ twin (read_charts s)
twin-back s bytes ok = read_automata-written (twin (read_charts s)) (twin-fits s ok bytes)
