-- What demand 3 says of runs and answers, the tests find: corresponding runs are alike, and so are the answers of calls that match. Assumes nothing.
use mathlib.Core.Path.{◌≡◌, refl, sym, ap, ◌∙◌, subst}
use mathlib.Core.Bool.{Bool, true, false, cond, ◌&&◌, ◌||◌}
use mathlib.Core.List.{List, [], ◌∷◌, map}
use Prim.Native.Nat.{ℕ, zero, suc, ◌<◌}
use native.Mathlib.Omega.{arith}
use borrow.Author.Tests.{eq-eqb, eqb-true, ltb-true, ltb-false, le-leb}
use lib.Dec.{T, eqb, ltb}
use lib.IntN.{ℤ, pos, negsuc}
use lib.ListN.{length, get_or, get_or-eq_default}
use Rattle.prelude.specs.Lists.{keep, gather, upto, mem}
use Rattle.records.specs.Refusal.{Out, val, fault, refusal_number}
use Rattle.prelude.specs.Owned.{of}
use Rattle.model.specs.Runs.{Run, give, Answer, taken, idle, time, Call, one_turn, whole_cycle}
use Rattle.model.specs.ChartSet.{read_charts}
use Rattle.model.specs.AutomataTable as M
use Rattle.model.specs.AutomataTable.{LiteralTrigger, always, event, clock, Literal, Edge, edge, no_edge, read_automata}
use Rattle.model.specs.Automata.{leaving}
use Rattle.model.specs.Calls.{chart_sets, automata_tables, turn_call, cycle_call}
use Rattle.model.specs.Correspondence.{clock_for, clock_read, clocks_read, Corresponds, AnswersMatch, OutsMatch, CallMatches, lent_after, MoveAlike}
use Rattle.prelude.proofs.Bools.{of-true, both_of, clash}
use Rattle.prelude.proofs.Lists.{mem-left, mem-right, mem-gather, mem-kept, mem-from}
use Rattle.prelude.proofs.Numbers.{all-by}
use Rattle.automata_records.specs.declared.Shape.{Shape}
use Rattle.automata_records.specs.Places.{edge_at, literal_at}
use Rattle.automata_records.proofs.PlacesRead.{length-edges, length-literals, edge-is, literal-is, clock-is}
use Rattle.automata_records.proofs.NamedThings.{automaton-known, literal-edge-known}
use Rattle.automata_records.specs.Accepted.{Accepted}
use Rattle.alike.specs.Alike.{values_alike, variables_alike, places_alike, literal_trigger_alike, literal_alike, timers_alike, runs_alike, idle_at, answers_alike, outs_alike, state_at, replies_alike, call_alike}
use Rattle.alike.proofs.Alike.{clock-in}

-- ---- the clocks that a location's literals read

-- a literal of a table is one of its edge's
literal-read : (xs : List (ℕ × Literal)) (d : ℕ × Literal) (l k : ℕ) → l < length xs → clock k ≡ (get_or xs l d).1.trigger →
    T (mem k (gather (λ x. clock_read x.trigger) (of (get_or xs l d).0 xs)))
unfolding gather keep mem
literal-read [] d l k h e = absurd (omega (arith, h))
literal-read (x ∷ xs) d zero k h e = go (eqb x.0 x.0) (eq-eqb x.0 x.0 refl)
  where
    go : (b : Bool) → b ≡ true → T (mem k (gather (λ y. clock_read y.trigger) (map (λ y. y.1) (cond b (x ∷ keep (λ y. eqb y.0 x.0) xs) (keep (λ y. eqb y.0 x.0) xs)))))
    go true q = mem-left k (clock_read x.1.trigger) (gather (λ y. clock_read y.trigger) (of x.0 xs)) (subst (λ z. T (mem k (clock_read z))) e (of-true (ap (λ b. b || false) (eq-eqb k k refl))))
    go false q = clash {b = true} tt (sym q)
literal-read (x ∷ xs) d (suc l) k h e = go (eqb x.0 (get_or xs l d).0) (literal-read xs d l k (omega (arith, h)) e)
  where
    go : (b : Bool) → T (mem k (gather (λ y. clock_read y.trigger) (of (get_or xs l d).0 xs))) →
        T (mem k (gather (λ y. clock_read y.trigger) (map (λ y. y.1) (cond b (x ∷ keep (λ y. eqb y.0 (get_or xs l d).0) xs) (keep (λ y. eqb y.0 (get_or xs l d).0) xs)))))
    go true m = mem-right k (clock_read x.1.trigger) (gather (λ y. clock_read y.trigger) (of (get_or xs l d).0 xs)) m
    go false m = m

value-itself : (z : ℤ) → values_alike z z ≡ true
value-itself (pos n) = λ i. le-leb n n (omega arith) i && le-leb n n (omega arith) i
value-itself (negsuc n) = λ i. le-leb n n (omega arith) i && le-leb n n (omega arith) i

-- what matches passes the test
pub outs : {A : Type 0} (match : A → A → Type 0) (alike : A → A → Bool) → ((a b : A) → match a b → alike a b ≡ true) → (o p : Out A) → OutsMatch match o p → outs_alike alike o p ≡ true
outs match alike f (val a) (val b) m = f a b m
outs match alike f (fault w) (fault v) m = eq-eqb (refusal_number w) (refusal_number v) m
outs match alike f (val a) (fault v) m = absurd m
outs match alike f (fault w) (val b) m = absurd m

-- ---- runs

module _ (s t : List ℕ) (sh : Shape) (ok : Accepted t sh) where
  abbrev au : M.Automata
  au = read_automata t

  module _ (l : ℕ) (h : l < sh.literals) where
    abbrev e : ℕ
    e = (literal_at t sh l).0

    in-edges : e < sh.edges
    in-edges = literal-edge-known t sh ok.shape ok.unrefused l h

    clock-of : (k : ℕ) → clock k ≡ (literal_at t sh l).1.trigger → T (mem k (clocks_read au (edge_at t sh e).automaton (edge_at t sh e).source))
    clock-of k q =
        let is = ok.shape in
        let lit : get_or au.literals l (e, (literal_at t sh l).1) ≡ literal_at t sh l = literal-is t sh is (e, (literal_at t sh l).1) l h in
        let leaves : T (mem e (leaving au (edge_at t sh e).automaton (edge_at t sh e).source)) =
        mem-kept (λ x. eqb (edge au x).automaton (edge_at t sh e).automaton && eqb (edge au x).source (edge_at t sh e).source) e (upto (length au.edges))
        (both_of (eqb (edge au e).automaton (edge_at t sh e).automaton) (eqb (edge au e).source (edge_at t sh e).source) (of-true (eq-eqb _ _ (ap (λ x. x.automaton) (edge-is t sh is e in-edges)))) (of-true (eq-eqb _ _ (ap (λ x. x.source) (edge-is t sh is e in-edges)))))
        (mem-from e 0 (length au.edges) (omega arith) (omega (arith, in-edges, length-edges t sh is))) in
        mem-gather (λ x. gather (λ y. clock_read y.trigger) (of x au.literals)) k e (leaving au (edge_at t sh e).automaton (edge_at t sh e).source) leaves
        (subst (λ x. T (mem k (gather (λ y. clock_read y.trigger) (of x.0 au.literals)))) lit
        (literal-read au.literals (e, (literal_at t sh l).1) l k (omega (arith, h, length-literals t sh is)) (q ∙ ap (λ x. x.1.trigger) (sym lit))))

  module _ (charts : length (read_charts s).initial ≡ sh.automata) (r q : Run) (h : Corresponds (read_charts s) au r q) where
    literal-alike : (l : ℕ) → l < sh.literals → literal_alike t sh r.timers q.at q.timers l ≡ true
    literal-alike l k = at (eqb (get_or q.at x.automaton 0) x.source) refl
      where
        x : Edge
        x = edge_at t sh (literal_at t sh l).0

        by : get_or q.at x.automaton 0 ≡ x.source → (c : LiteralTrigger) → c ≡ (literal_at t sh l).1.trigger → literal_trigger_alike t sh q.timers (get_or r.timers x.automaton 0) c ≡ true
        by there always d = refl
        by there (event n) d = refl
        by there (clock n) d =
            let a : x.automaton < length (read_charts s).initial = omega (arith, charts, automaton-known t sh ok.shape ok.unrefused (literal_at t sh l).0 (in-edges l k)) in
            let m : T (mem n (clocks_read au x.automaton (get_or q.at x.automaton 0))) = subst (λ y. T (mem n (clocks_read au x.automaton y))) (sym there) (clock-of l k n d) in
            eq-eqb _ _ (h.timers x.automaton a n m ∙ ap (λ y. clock_for y.timing y.ticks (get_or r.timers x.automaton 0)) (clock-is t sh ok.shape n (clock-in t sh ok l k n d)))

        at : (b : Bool) → eqb (get_or q.at x.automaton 0) x.source ≡ b → cond b (literal_trigger_alike t sh q.timers (get_or r.timers x.automaton 0) (literal_at t sh l).1.trigger) true ≡ true
        at true d = by (eqb-true _ _ d) (literal_at t sh l).1.trigger refl
        at false d = refl

    pub corresponding-alike : runs_alike t sh r q ≡ true
    corresponding-alike =
        let vars : variables_alike r.world.vars q.world.vars ≡ true =
        ap (λ w. variables_alike w.vars q.world.vars) h.worlds ∙ all-by (λ v. values_alike (get_or q.world.vars v (pos 0)) (get_or q.world.vars v (pos 0))) 64 (λ v _. value-itself (get_or q.world.vars v (pos 0))) in
        let places : places_alike sh.automata r.at q.at ≡ true =
        all-by (λ c. eqb (get_or r.at c 0) (get_or q.at c 0)) sh.automata (λ c k. eq-eqb _ _ (h.places c (omega (arith, k, charts)))) in
        let timers : timers_alike t sh r.timers q.at q.timers ≡ true = all-by (literal_alike t sh r.timers q.at q.timers) sh.literals literal-alike in
        λ i. vars i
        && eq-eqb r.world.events q.world.events (ap (λ w. w.events) h.worlds) i
        && eq-eqb r.world.position q.world.position (ap (λ w. w.position) h.worlds) i
        && eq-eqb r.world.cycles q.world.cycles (ap (λ w. w.cycles) h.worlds) i
        && places i
        && timers i

  -- ---- answers

  idle-edge : (e l : ℕ) → (edge au e).idles ≡ true → (edge au e).source ≡ l → (edge au e).target ≡ l → idle_at t sh e l ≡ true
  idle-edge e l i a b = go (ltb e sh.edges) refl
    where
      go : (z : Bool) → ltb e sh.edges ≡ z → idle_at t sh e l ≡ true
      go true d =
          let k : e < sh.edges = ltb-true e sh.edges d in
          let x : edge au e ≡ edge_at t sh e = edge-is t sh ok.shape e k in
          λ j. d j && (sym (ap (λ y. y.idles) x) ∙ i) j && eq-eqb _ _ (sym (ap (λ y. y.source) x) ∙ a) j && eq-eqb _ _ (sym (ap (λ y. y.target) x) ∙ b) j
      go false d =
          let n : edge au e ≡ no_edge = get_or-eq_default au.edges no_edge (omega (arith, ltb-false e sh.edges d, length-edges t sh ok.shape)) in
          clash {b = true} tt (sym i ∙ ap (λ y. y.idles) n)

  answers : (r q : Run) (a b : Answer) → AnswersMatch au r q a b → answers_alike t sh (state_at r) a b ≡ true
  answers r q (taken x) (taken e) m = eq-eqb e x m.0
  answers r q idle (taken e) m = idle-edge e (state_at r) m.0 m.1 m.2
  answers r q time time m = refl
  answers r q time (taken e) m = absurd m
  answers r q (taken x) idle m = absurd m
  answers r q (taken x) time m = absurd m
  answers r q idle idle m = absurd m
  answers r q idle time m = absurd m
  answers r q time idle m = absurd m

  replies : (c : Call) (r q : Run) → CallMatches s t c r q → replies_alike s t sh c r q ≡ true
  replies (one_turn given) r q m =
      outs (AnswersMatch au (give given r) (give given q)) (answers_alike t sh (state_at r)) (answers (give given r) (give given q)) (turn_call chart_sets s given r).answer (turn_call automata_tables t given q).answer m
  replies (whole_cycle given) r q m = outs (λ _ _. Unit) (λ _ _. true) (λ _ _ _. refl) (cycle_call chart_sets s given r).answer (cycle_call automata_tables t given q).answer m.0

  -- ---- calls

  -- where any calls move two runs alike, the next one is alike, and any calls move the runs that it leaves alike
  pub next-alike : length (read_charts s).initial ≡ sh.automata → (r q : Run) → ((calls : List Call) → MoveAlike s t calls r q) → (c : Call) → call_alike s t sh c r q ≡ true
  unfolding MoveAlike
  next-alike charts r q moves c =
      let m = moves (c ∷ []) in
      λ i. replies c r q m.1 i && corresponding-alike charts (lent_after chart_sets s c r) (lent_after automata_tables t c q) m.2 i

  pub then-alike : (r q : Run) → ((calls : List Call) → MoveAlike s t calls r q) → (c : Call) (calls : List Call) → MoveAlike s t calls (lent_after chart_sets s c r) (lent_after automata_tables t c q)
  unfolding MoveAlike
  then-alike r q moves c calls = (moves (c ∷ calls)).2

  pub now-corresponds : (r q : Run) → ((calls : List Call) → MoveAlike s t calls r q) → Corresponds (read_charts s) au r q
  unfolding MoveAlike
  now-corresponds r q moves = moves []

-- the runs that a list of calls begins with may be told by what they are equal to
pub moved_to : (s t : List ℕ) (calls : List Call) {r r' q q' : Run} → r ≡ r' → q ≡ q' → MoveAlike s t calls r q → MoveAlike s t calls r' q'
moved_to s t calls {r} {r'} {q} {q'} e d h = subst (λ z. MoveAlike s t calls r' z) d (subst (λ z. MoveAlike s t calls z q) e h)
