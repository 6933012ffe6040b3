-- Leading back the path that the twin's calls take gives exactly the rows of the charts' same calls. Assumes nothing.
use mathlib.Core.Path.{◌≡◌, refl, sym, ap, ◌∙◌, subst}
use mathlib.Core.Option.{none}
use mathlib.Core.Bool.{Bool, true, false, not, cond, ◌&&◌}
use mathlib.Core.List.{List, [], ◌∷◌, ◌++◌, append_assoc}
use Prim.Native.Nat.{ℕ, ◌+◌, ◌-◌, ◌≤◌, ◌<◌}
use native.Mathlib.Omega.{arith}
use lib.Dec.{T, ltb, eqb, eqb→eq, lt→ltb}
use lib.ListN.{length, get_or, set, replicate, length-set, get_or-append}
use lib.Seq.{get_or-set_same, get_or-set_other, set-get_or}
use Rattle.records.specs.Refusal.{broken_path, Out, val, fault, ◌>>=◌, fault_if, unless_refused}
use Rattle.model.specs.Limits.{most_charts, most_cycles}
use Rattle.model.specs.Owned.{home}
use Rattle.model.specs.Outcome.{settled}
use Rattle.model.specs.Runs.{Run, Answer, taken, idle, time, start, give, Call, input_events, Trace, done, stopped, turned, trace, ended}
use Rattle.model.specs.ChartSet.{ChartSet, transition, read_charts}
use Rattle.model.specs.Charts.{charts}
use Rattle.model.specs.ChartFile.{charts_refusal}
use Rattle.model.specs.AutomataTable.{Edge, edge, read_automata}
use Rattle.model.specs.Automata.{automata}
use Rattle.model.specs.AutomataFile.{automata_refusal}
use Rattle.model.specs.Translation.{Origin, from_transition, from_idling, state_count, transition_count, origins, edge_number, edge_of, twin}
use Rattle.model.specs.PathBack.{Walk, Row, time_mark, walk_start, time_fits, edge_fits, step_fits, walked, rows_from, step_rows, led_back, rows_written, path_back}
use Rattle.model.specs.Calls.{chart_sets}
use Rattle.model.specs.TakenPath.{mark_of, row_of, when_done, of_turns, of_trace, of_calls, taken_path, taken_rows}
use Rattle.prelude.proofs.Bools.{is_true, of-true, both_of, eq→eqb, ne→eqb, eqb-ne}
use Rattle.model.proofs.TranslationOrigins.{IsOrigin, idle_for, edges-count, edge_number-in, origin_of-edge_number, origin_of-past, edge-of}
use Rattle.model.proofs.TranslationCounts.{origins-few}
use Rattle.model.proofs.CallsTrace.{run_left}
use Rattle.model.proofs.CorrespondenceStep.{Sound, Placed}
use Rattle.model.proofs.ChartFileSound.{sound}
use Rattle.model.proofs.CorrespondenceTurn.{TurnTaken}
use Rattle.model.proofs.ChecksPossible.{AtRest, start-at_rest}
use Rattle.model.proofs.CorrespondenceTrace.{Lockstep, EndsMatch, ends-match, trace-lockstep, call_leaves, call_leaves-rest}
use Rattle.model.proofs.CorrespondenceCalls.{call_trace-accepted, lent_after-accepted, call_trace-twin, lent_after-twin}

-- ---- a walk beside a run

pub record Beside (cs : ChartSet) (w : Walk) (r : Run) : Type 0 where
  pub room : length w.locations ≡ length cs.initial
  pub locations : (c : ℕ) → c < length cs.initial → get_or w.locations c 0 ≡ get_or r.at c 0
  pub position : w.position ≡ r.world.position
  pub cycles : w.cycles ≡ r.world.cycles

-- a piece of path led back from w gives these rows, and the walk stands beside r afterwards
pub record Led (cs : ChartSet) (path : List ℕ) (rows : List Row) (w : Walk) (r : Run) : Type 0 where
  pub end : Walk
  pub beside : Beside cs end r
  pub led : (rest : List ℕ) → led_back cs (path ++ rest) w ≡ (led_back cs rest end >>= λ more. val (rows ++ more))

bind-val : {A : Type 0} (o : Out A) → o ≡ (o >>= λ x. val x)
bind-val (val x) = refl
bind-val (fault w) = refl

led-none : (cs : ChartSet) (w : Walk) (r : Run) → Beside cs w r → Led cs [] [] w r
led-none cs w r b = record { end = w; beside = b; led = λ rest. bind-val (led_back cs rest w) }

-- one piece after the other
led-then : (cs : ChartSet) (p₁ p₂ : List ℕ) (rows₁ rows₂ : List Row) (w : Walk) (r₁ r₂ : Run) (l : Led cs p₁ rows₁ w r₁) → Led cs p₂ rows₂ l.end r₂ → Led cs (p₁ ++ p₂) (rows₁ ++ rows₂) w r₂
led-then cs p₁ p₂ rows₁ rows₂ w r₁ r₂ l m = record {
  end = m.end;
  beside = m.beside;
  led = λ rest.
      ap (λ p. led_back cs p w) (append_assoc p₁ p₂ rest)
      ∙ l.led (p₂ ++ rest)
      ∙ ap (λ o. o >>= λ more. val (rows₁ ++ more)) (m.led rest)
      ∙ go (led_back cs rest m.end);
}
  where
    go : (o : Out (List Row)) → ((o >>= λ more. val (rows₂ ++ more)) >>= λ more. val (rows₁ ++ more)) ≡ (o >>= λ more. val ((rows₁ ++ rows₂) ++ more))
    go (val more) = ap val (sym (append_assoc rows₁ rows₂ more))
    go (fault v) = refl

-- ---- one turn

module _ (cs : ChartSet) (ok : Sound cs) (w : Walk) (r r₁ : Run) (b : Beside cs w r) (placed : Placed cs r.at) (low : 1 ≤ r.world.position) (few : r.world.cycles ≤ most_cycles - 1) where
  in-time : T (ltb w.cycles most_cycles)
  in-time = let e : w.cycles ≡ r.world.cycles = b.cycles in lt→ltb w.cycles most_cycles (omega arith)

  -- an edge of the automaton whose turn it is, which leaves where that stands
  module _ (e : ℕ) (x : Edge) (is : edge (twin cs) e ≡ x) (e-in : e < length (origins cs))
      (turn : r.world.position ≤ length cs.initial) (own : x.automaton ≡ r.world.position - 1) (there : x.source ≡ get_or r.at (r.world.position - 1) 0)
      (goes : r₁.at ≡ set r.at (r.world.position - 1) x.target) (next-position : r₁.world.position ≡ r.world.position + 1) (same-cycle : r₁.world.cycles ≡ r.world.cycles) where
    no-time : eqb e time_mark ≡ false
    no-time =
        ne→eqb {a = e} {b = time_mark} (λ d. omega (arith, origins-few cs, ok.transitions_fit, ok.states_fit))

    edge-fits : T (edge_fits cs e w)
    edge-fits =
        both_of (ltb e (length (twin cs).edges) && eqb ((edge (twin cs) e).automaton + 1) w.position) (eqb (edge (twin cs) e).source (get_or w.locations (edge (twin cs) e).automaton 0))
        (both_of (ltb e (length (twin cs).edges)) (eqb ((edge (twin cs) e).automaton + 1) w.position)
        (lt→ltb e (length (twin cs).edges) (subst (λ n. e < n) (sym (edges-count cs)) e-in))
        (of-true (eq→eqb (ap (λ z. z.automaton + 1) is ∙ ap (λ n. n + 1) own ∙ back ∙ sym b.position))))
        (of-true (eq→eqb (ap (λ z. z.source) is ∙ there ∙ sym (b.locations (r.world.position - 1) (omega arith)) ∙ ap (λ n. get_or w.locations n 0) (sym (ap (λ z. z.automaton) is ∙ own)))))
      where
        back : r.world.position - 1 + 1 ≡ r.world.position
        back = omega arith

    step_fits_lem : step_fits cs e w ≡ true
    step_fits_lem =
        is_true {b = step_fits cs e w}
        (both_of (ltb w.cycles most_cycles) (cond (eqb e time_mark) (time_fits cs w) (edge_fits cs e w)) in-time
        (subst (λ p. T (cond p (time_fits cs w) (edge_fits cs e w))) (sym no-time) edge-fits))

    after : Walk
    after = record { locations = set w.locations (r.world.position - 1) x.target; position = w.position + 1; cycles = w.cycles }

    walked-is : walked cs e w ≡ after
    unfolding after
    walked-is = λ i. cond (no-time i)
        (record { locations = w.locations; position = 1; cycles = w.cycles + 1 })
        (record { locations = set w.locations ((ap (λ z. z.automaton) is ∙ own) i) (is i).target; position = w.position + 1; cycles = w.cycles })

    beside-after : Beside cs after r₁
    unfolding after
    beside-after = record {
      room = length-set w.locations (r.world.position - 1) x.target ∙ b.room;
      locations = λ c c-in. go c c-in (eqb c (r.world.position - 1)) refl ∙ ap (λ l. get_or l c 0) (sym goes);
      position = ap (λ n. n + 1) b.position ∙ sym next-position;
      cycles = b.cycles ∙ sym same-cycle;
    }
      where
        go : (c : ℕ) → c < length cs.initial → (p : Bool) → eqb c (r.world.position - 1) ≡ p →
            get_or (set w.locations (r.world.position - 1) x.target) c 0 ≡ get_or (set r.at (r.world.position - 1) x.target) c 0
        go c c-in true p =
            let d : c ≡ r.world.position - 1 = eqb→eq c (r.world.position - 1) (of-true p) in
            let i : r.world.position - 1 < length w.locations = omega (arith, b.room) in
            let k : length cs.initial ≤ most_charts = ok.charts_fit in
            let j : r.world.position - 1 < length r.at = omega (arith, placed.room) in
            ap (λ n. get_or (set w.locations (r.world.position - 1) x.target) n 0) d
            ∙ get_or-set_same w.locations (r.world.position - 1) x.target 0 i
            ∙ sym (ap (λ n. get_or (set r.at (r.world.position - 1) x.target) n 0) d ∙ get_or-set_same r.at (r.world.position - 1) x.target 0 j)
        go c c-in false p =
            get_or-set_other w.locations (r.world.position - 1) c x.target 0 (eqb-ne p)
            ∙ b.locations c c-in
            ∙ sym (get_or-set_other r.at (r.world.position - 1) c x.target 0 (eqb-ne p))

    edge-led : (rows : List Row) → step_rows cs e w ≡ rows → Led cs (e ∷ []) rows w r₁
    unfolding led_back
    edge-led rows q = record {
      end = after;
      beside = beside-after;
      led = λ rest. λ i. fault_if (not (step_fits_lem i)) broken_path >>= λ _. (led_back cs rest (walked-is i) >>= λ more. val (q i ++ more));
    }

  -- a turn adds to the path what leads back to what it adds to the rows
  turn-led : r.world.position ≤ length cs.initial + 1 → (a b' : Answer) → TurnTaken cs r a b' r₁ → (q₀ : Run) → Led cs (mark_of q₀ b') (row_of r a) w r₁
  unfolding led_back
  turn-led high (taken t) (taken e) g q₀ =
      let t-in : t < transition_count cs = g.0.1 in
      let own : home cs.homes (transition cs t).source ≡ r.world.position - 1 = ap (home cs.homes) g.0.2 ∙ (placed.home (r.world.position - 1) (omega (arith, g.1))).1 in
      subst (λ n. Led cs (n ∷ []) (row_of r (taken t)) w r₁) (sym g.0.0)
      (edge-led t (edge_of cs (from_transition t)) (edge-of cs (from_transition t) t-in) (edge_number-in cs (from_transition t) t-in) g.1 own g.0.2 g.0.3 g.2 g.3 (row_of r (taken t))
      (ap (λ o. rows_from cs o w) (origin_of-edge_number cs (from_transition t) t-in) ∙ (λ i. record { cycle = b.cycles i; chart = b.position i - 1; transition = t } ∷ [])))
  turn-led high idle (taken e) g q₀ =
      let c-in : r.world.position - 1 < length cs.initial = omega (arith, g.1) in
      let home : (get_or r.at (r.world.position - 1) 0 < state_count cs) × (home cs.homes (get_or r.at (r.world.position - 1) 0) ≡ r.world.position - 1) = placed.home (r.world.position - 1) c-in in
      let o : Origin = idle_for g.0.0.0 (get_or r.at (r.world.position - 1) 0) in
      let is : IsOrigin cs o = g.0.0.2 in
      subst (λ n. Led cs (n ∷ []) [] w r₁) (sym g.0.0.1)
      (edge-led (edge_number cs o) (edge_of cs o) (edge-of cs o is) (edge_number-in cs o is) g.1 (own g.0.0.0 home.1) (there g.0.0.0)
      (g.0.1 ∙ sym (ap (set r.at (r.world.position - 1)) (stays g.0.0.0) ∙ set-get_or r.at (r.world.position - 1) 0)) g.2 g.3 [] (ap (λ o. rows_from cs o w) (origin_of-edge_number cs o is) ∙ rowless g.0.0.0))
    where
      s : ℕ
      s = get_or r.at (r.world.position - 1) 0

      own : (d : Bool) → home cs.homes s ≡ r.world.position - 1 → (edge_of cs (idle_for d s)).automaton ≡ r.world.position - 1
      own true e = e
      own false e = e

      there : (d : Bool) → (edge_of cs (idle_for d s)).source ≡ get_or r.at (r.world.position - 1) 0
      there true = refl
      there false = refl

      stays : (d : Bool) → (edge_of cs (idle_for d s)).target ≡ get_or r.at (r.world.position - 1) 0
      stays true = refl
      stays false = refl

      rowless : (d : Bool) → rows_from cs (idle_for d s) w ≡ []
      rowless true = refl
      rowless false = refl
  turn-led high time time g q₀ = record {
    end = record { locations = w.locations; position = 1; cycles = w.cycles + 1 };
    beside = record {
      room = b.room;
      locations = λ c c-in. b.locations c c-in ∙ ap (λ l. get_or l c 0) (sym g.1);
      position = sym g.2;
      cycles = ap (λ n. n + 1) b.cycles ∙ sym g.3;
    };
    led = time-led;
  }
    where
      fits : step_fits cs time_mark w ≡ true
      fits =
          let past : length cs.initial < r.world.position = g.0 in
          let p : w.position ≡ r.world.position = b.position in
          is_true {b = step_fits cs time_mark w} (both_of (ltb w.cycles most_cycles) (time_fits cs w) in-time (of-true (eq→eqb {a = w.position} {b = length cs.initial + 1} (omega arith))))

      no_row : step_rows cs time_mark w ≡ []
      no_row = ap (λ o. rows_from cs o w) (origin_of-past cs time_mark (omega (arith, origins-few cs, ok.transitions_fit, ok.states_fit)))

      time-led : (rest : List ℕ) → led_back cs (time_mark ∷ rest) w ≡ (led_back cs rest (record { locations = w.locations; position = 1; cycles = w.cycles + 1 }) >>= λ more. val more)
      time-led rest = λ i. fault_if (not (fits i)) broken_path >>= λ _. (led_back cs rest (record { locations = w.locations; position = 1; cycles = w.cycles + 1 }) >>= λ more. val (no_row i ++ more))
  turn-led high (taken t) idle g q₀ = absurd g.0
  turn-led high (taken t) time g q₀ = absurd g.0
  turn-led high idle idle g q₀ = absurd g.0
  turn-led high idle time g q₀ = absurd g.0
  turn-led high time (taken e) g q₀ = absurd g
  turn-led high time idle g q₀ = absurd g

-- ---- one call, all calls

module _ (cs : ChartSet) (ok : Sound cs) where
  -- the turns of a call that is done: e is the run before them, r the one in which the first is taken
  trace-led : (t u : Trace) (e r x : Run) (w : Walk) → Lockstep cs r t u → Beside cs w e → Beside cs w r → Placed cs r.at →
      1 ≤ r.world.position → r.world.position ≤ length cs.initial + 1 → ended e t ≡ val x → Led cs (of_turns mark_of u) (of_turns row_of t) w x
  unfolding Lockstep ended of_turns
  trace-led done done e r x w h be br placed low high d = let z : e ≡ x = cc in led-none cs w x (subst (Beside cs w) z be)
  trace-led (turned r₀ a r₁ t) (turned q₀ b q₁ u) e r x w h be br placed low high d =
      let k : Led cs (mark_of q₀ b) (row_of r₀ a) w r₁ =
      subst (λ z. Led cs (mark_of q₀ b) (row_of z a) w r₁) (sym h.0) (turn-led cs ok w r r₁ br placed low h.1 high a b h.3 q₀) in
      led-then cs (mark_of q₀ b) (of_turns mark_of u) (row_of r₀ a) (of_turns row_of t) w r₁ x k
      (trace-led t u r₁ r₁ x k.end h.5 k.beside k.beside h.4.alike.placed h.4.resting.low h.4.resting.high d)
  trace-led (stopped v) (stopped v') e r x w h be br placed low high d = let z : ◌≡◌ {A = ℕ} 0 1 = cc in absurd (omega arith)
  trace-led done (stopped v) e r x w h be br placed low high d = absurd h
  trace-led done (turned q₀ b q₁ u) e r x w h be br placed low high d = absurd h
  trace-led (stopped v) done e r x w h be br placed low high d = absurd h
  trace-led (stopped v) (turned q₀ b q₁ u) e r x w h be br placed low high d = absurd h
  trace-led (turned r₀ a r₁ t) done e r x w h be br placed low high d = absurd h
  trace-led (turned r₀ a r₁ t) (stopped v) e r x w h be br placed low high d = absurd h

  call-led : (c : Call) (r q : Run) (w : Walk) → AtRest cs r q → Beside cs w r →
      Led cs (of_trace mark_of q (trace (automata (twin cs)) c q)) (of_trace row_of r (trace (charts cs) c r)) w (call_leaves (charts cs) c r)
  call-led c r q w h b =
      go (ended r (trace (charts cs) c r)) refl (ended q (trace (automata (twin cs)) c q))
      (ends-match cs (trace (charts cs) c r) (trace (automata (twin cs)) c q) (give (input_events c) r) r q (trace-lockstep cs ok c r q h) h)
    where
      -- input events move no walk
      given-beside : Beside cs w (give (input_events c) r)
      given-beside = record { room = b.room; locations = b.locations; position = b.position; cycles = b.cycles }

      go : (x : Out Run) → ended r (trace (charts cs) c r) ≡ x → (y : Out Run) → EndsMatch cs x y →
          Led cs (when_done y (of_turns mark_of (trace (automata (twin cs)) c q))) (when_done x (of_turns row_of (trace (charts cs) c r))) w (run_left r x)
      go (val x) e (val y) m =
          trace-led (trace (charts cs) c r) (trace (automata (twin cs)) c q) r (give (input_events c) r) x w (trace-lockstep cs ok c r q h) b given-beside h.alike.placed h.resting.low h.resting.high e
      go (fault v) e (fault v') m = led-none cs w r b
      go (val x) e (fault v') m = absurd m
      go (fault v) e (val y) m = absurd m

module _ (s : List ℕ) (ok : charts_refusal s ≡ none) (t : List ℕ) (back : read_automata t ≡ twin (read_charts s)) (fine : automata_refusal t ≡ none) where
  calls-led : (calls : List Call) (r q : Run) (w : Walk) → AtRest (read_charts s) r q → Beside (read_charts s) w r → led_back (read_charts s) (taken_path t calls q) w ≡ val (taken_rows s calls r)
  unfolding of_calls led_back
  calls-led [] r q w h b = refl
  calls-led (c ∷ calls) r q w h b =
      (λ i. led_back (read_charts s) (of_trace mark_of q (call_trace-twin s ok t back fine c q i) ++ taken_path t calls (lent_after-twin s ok t back fine c q i)) w)
      ∙ l.led (taken_path t calls (call_leaves (automata (twin (read_charts s))) c q))
      ∙ ap (λ o. o >>= λ more. val (of_trace row_of r (trace (charts (read_charts s)) c r) ++ more))
      (calls-led calls (call_leaves (charts (read_charts s)) c r) (call_leaves (automata (twin (read_charts s))) c q) l.end (call_leaves-rest (read_charts s) (sound s ok) c r q h) l.beside)
      ∙ (λ i. val (of_trace row_of r (sym (call_trace-accepted chart_sets s ok c r) i) ++ taken_rows s calls (sym (lent_after-accepted chart_sets s ok c r) i)))
    where
      l : Led (read_charts s) (of_trace mark_of q (trace (automata (twin (read_charts s))) c q)) (of_trace row_of r (trace (charts (read_charts s)) c r)) w (call_leaves (charts (read_charts s)) c r)
      l = call-led (read_charts s) (sound s ok) c r q w h b

  start-beside : Beside (read_charts s) (walk_start (read_charts s)) (start (charts (read_charts s)))
  start-beside = record {
    room = refl;
    locations = λ c c-in. sym (get_or-append (read_charts s).initial (replicate (8 - length (read_charts s).initial) 0) 0 c c-in);
    position = refl;
    cycles = refl;
  }

  -- The path of the twin's calls from a fresh run, led back, gives the rows of the charts' same calls from theirs.
  pub taken_path-led_back : (calls : List Call) →
      led_back (read_charts s) (taken_path t calls (start (automata (read_automata t)))) (walk_start (read_charts s)) ≡ val (taken_rows s calls (start (charts (read_charts s))))
  taken_path-led_back calls =
      (λ i. led_back (read_charts s) (taken_path t calls (start (automata (back i)))) (walk_start (read_charts s)))
      ∙ calls-led calls (start (charts (read_charts s))) (start (automata (twin (read_charts s)))) (walk_start (read_charts s)) (start-at_rest (read_charts s) (sound s ok)) start-beside

  -- so the closed call writes them, or is refused for want of room alone
  pub taken_path-path_back : (calls : List Call) (lent : List ℕ) →
      path_back s (taken_path t calls (start (automata (read_automata t)))) lent ≡ settled lent (rows_written (taken_rows s calls (start (charts (read_charts s)))) lent)
  taken_path-path_back calls lent = λ i. settled lent (unless_refused (ok i) (taken_path-led_back calls i >>= λ rows. rows_written rows lent))
