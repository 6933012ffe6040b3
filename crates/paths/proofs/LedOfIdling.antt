-- The states of the idle edges as they are put, state by state. Assumes nothing.
use mathlib.Core.Path.{◌≡◌, refl, sym, ap, ◌∙◌, subst}
use mathlib.Core.Bool.{Bool, true, false}
use mathlib.Core.List.{List}
use Prim.Native.Nat.{ℕ, ◌+◌, ◌*◌, ◌-◌, ◌≤◌, ◌<◌}
use native.Mathlib.Numerals.{add-one}
use native.Mathlib.Omega.{arith}
use borrow.Author.Tests.{ltb-true, ltb-false, eqb-true, eqb-false}
use lib.Dec.{ltb, eqb}
use lib.ListN.{length, get_or, set, replicate, length-set, length-replicate}
use lib.Seq.{get_or-set_same, get_or-set_other}
use Rattle.prelude.specs.Lists.{gather, from}
use Rattle.prelude.proofs.Gathers.{before, before-next}
use Rattle.model.specs.Limits.{most_states}
use Rattle.model.specs.ChartSet.{read_charts}
use Rattle.model.specs.AutomataTable.{edge}
use Rattle.model.specs.Translation.{from_idling, idle_origins, first_idle, edge_of, twin}
use Rattle.model.proofs.TranslationOrigins.{origins-count, edges-count}
use Rattle.chart_records.specs.declared.Shape.{Shape}
use Rattle.chart_records.specs.Accepted.{Accepted}
use Rattle.chart_records.proofs.PlacesRead.{length-homes, length-transitions, most-states}
use Rattle.paths.specs.LedOf.{HasIdling}
use Rattle.paths.proofs.LedOfEdges.{idle-few, idle-edge}

module _ (s : List ℕ) (sh : Shape) where
  -- the idle edges of the states below one
  pub record Idles (state edges : ℕ) (states : List ℕ) : Type 0 where
    pub room : length states ≡ 2 * most_states
    pub within : state ≤ sh.states
    pub count : edges ≡ before (idle_origins (read_charts s)) state
    pub few : edges ≤ 2 * state
    pub known : (j : ℕ) → j < edges → get_or states j 0 < sh.states
    pub each : (j : ℕ) → j < edges → edge (twin (read_charts s)) (sh.transitions + j) ≡ edge_of (read_charts s) (from_idling (get_or states j 0))

  pub idles-none : Idles 0 0 (replicate (2 * most_states) 0)
  unfolding gather from
  idles-none = record {
    room = length-replicate {A = ℕ} (2 * most_states) 0;
    within = omega arith;
    count = refl;
    few = omega arith;
    known = λ j h. absurd (omega arith);
    each = λ j h. absurd (omega arith);
  }

module _ (s : List ℕ) (sh : Shape) (ok : Accepted s sh) (state edges : ℕ) (states : List ℕ) (so_far : Idles s sh state edges states) where
  -- two places more are there
  pub idles-room : state < sh.states → edges + 1 < 2 * most_states
  idles-room h = omega (arith, so_far.few, most-states s sh ok.shape)

  module _ (h : state < sh.states) (more : ℕ) (em : more ≡ edges + length (idle_origins (read_charts s) state)) where
    abbrev put : List ℕ
    put = set (set states edges state) (edges + 1) state

    earlier : (j : ℕ) → j < edges → get_or put j 0 ≡ get_or states j 0
    earlier j l = get_or-set_other (set states edges state) (edges + 1) j state 0 (λ d. omega (arith, d)) ∙ get_or-set_other states edges j state 0 (λ d. omega (arith, d))

    new : (j : ℕ) → edges ≤ j → j < more → get_or put j 0 ≡ state
    new j l m = go (eqb j (edges + 1)) refl
      where
        go : (b : Bool) → eqb j (edges + 1) ≡ b → get_or put j 0 ≡ state
        go true q = ap (λ k. get_or put k 0) (eqb-true j (edges + 1) q) ∙ get_or-set_same (set states edges state) (edges + 1) state 0 (omega (arith, length-set states edges state, so_far.room, idles-room h))
        go false q =
            let d : j ≡ edges = omega (arith, eqb-false j (edges + 1) q, idle-few (read_charts s) state, em) in
            get_or-set_other (set states edges state) (edges + 1) j state 0 (eqb-false j (edges + 1) q)
            ∙ ap (λ k. get_or (set states edges state) k 0) d
            ∙ get_or-set_same states edges state 0 (omega (arith, so_far.room, idles-room h))

    pub idles-more : Idles s sh (state + 1) more (set (set states edges state) (edges + 1) state)
    idles-more = record {
      room = length-set (set states edges state) (edges + 1) state ∙ length-set states edges state ∙ so_far.room;
      within = omega arith;
      count = em ∙ ap (λ n. n + length (idle_origins (read_charts s) state)) so_far.count ∙ sym (before-next (idle_origins (read_charts s)) state) ∙ ap (before (idle_origins (read_charts s))) (sym (add-one state));
      few = omega (arith, em, so_far.few, idle-few (read_charts s) state);
      known = λ j l. by_place (λ n. n < sh.states) so_far.known (λ j _ _. h) j l;
      each = λ j l. each_at j l (ltb j edges) refl;
    }
      where
        by_place : (P : ℕ → Type 0) → ((j : ℕ) → j < edges → P (get_or states j 0)) → ((j : ℕ) → edges ≤ j → j < more → P state) → (j : ℕ) → j < more → P (get_or put j 0)
        by_place P old now j l = go (ltb j edges) refl
          where
            go : (b : Bool) → ltb j edges ≡ b → P (get_or put j 0)
            go true q = let z = ltb-true j edges q in subst P (sym (earlier j z)) (old j z)
            go false q = let z = ltb-false j edges q in subst P (sym (new j z l)) (now j z l)

        each_at : (j : ℕ) → j < more → (b : Bool) → ltb j edges ≡ b → edge (twin (read_charts s)) (sh.transitions + j) ≡ edge_of (read_charts s) (from_idling (get_or put j 0))
        each_at j l true q = let z = ltb-true j edges q in so_far.each j z ∙ ap (λ n. edge_of (read_charts s) (from_idling n)) (sym (earlier j z))
        each_at j l false q =
            let z : edges ≤ j = ltb-false j edges q in
            ap (edge (twin (read_charts s))) (let e : sh.transitions + j ≡ first_idle (read_charts s) state + (j - edges) = omega (arith, length-transitions s sh ok.shape, so_far.count) in e)
            ∙ idle-edge (read_charts s) state (j - edges) (omega (arith, length-homes s sh ok.shape)) (omega (arith, em))
            ∙ ap (λ n. edge_of (read_charts s) (from_idling n)) (sym (new j z l))

  pub idles-all : sh.states ≤ state → HasIdling s sh (record { states = states; count = edges })
  idles-all h = record {
    count =
        edges-count (read_charts s)
        ∙ origins-count (read_charts s)
        ∙ (let e : state ≡ length (read_charts s).homes = omega (arith, so_far.within, length-homes s sh ok.shape) in
        λ i. length-transitions s sh ok.shape i + before (idle_origins (read_charts s)) (sym e i))
        ∙ ap (λ n. sh.transitions + n) (sym so_far.count);
    known = so_far.known;
    each = so_far.each;
  }
