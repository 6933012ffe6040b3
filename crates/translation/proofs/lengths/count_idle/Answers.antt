use mathlib.Core.Path.{◌≡◌, refl, sym, ap, subst, ◌∙◌}
use mathlib.Core.Bool.{Bool, true, false, cond}
use mathlib.Core.List.{List}
use Prim.Native.Nat.{ℕ, ◌+◌, ◌<◌, ◌≤◌}
use native.Mathlib.Omega.{arith}
use borrow.Author.Tests.{eqb-true, eqb-false}
use lib.Dec.{eqb}
use lib.ListN.{length, get_or, set, length-set}
use lib.Seq.{get_or-set_same, get_or-set_other}
use Rattle.chart_records.specs.declared.Shape.{Shape}
use Rattle.chart_records.specs.Accepted.{Accepted}
use Rattle.twin_records.specs.Tables.{CountsActions, CountsLeaving}
use Rattle.chart_records.proofs.PlacesRead.{length-homes, most-states}
use Rattle.prelude.proofs.Sums.{sum_from}
use Rattle.model.specs.ChartSet.{read_charts}
use Rattle.model.specs.Translation.{clocks_of_state}
use Rattle.model.proofs.TranslationCounts.{leavers-few, clocks_leaving-length, waiting_updates-few}
use Rattle.translation.proofs.TablesCounts.{sum-none, sum_more, idle_parts, idle-lengths, due-updates, resets-are, idle-is}
use Rattle.translation.proofs.lengths.count_idle.Goals as goal

one_more : (n : ℕ) → cond (eqb n 0) 0 1 ≤ 1
one_more n = go (eqb n 0)
  where
    go : (b : Bool) → cond b 0 1 ≤ 1
    go true = omega arith
    go false = omega arith

module _ {s : List ℕ} {sh : Shape} (ok : Accepted s sh) {st : ℕ} (h : st < sh.states) where
  inside : st < 128
  inside = omega (arith, most-states s sh ok.shape)

  in-set : st < length (read_charts s).homes
  in-set = omega (arith, length-homes s sh ok.shape)

  -- few transitions leave the state, and it has few waiting actions
  few : (actions leaving : List ℕ) → CountsActions s sh actions → CountsLeaving (read_charts s) leaving → (get_or leaving st 0 ≤ 16) × (get_or actions (512 + st) 0 ≤ 8)
  few actions leaving a l = (
    omega (arith, l st inside, leavers-few s ok.unrefused st in-set),
    omega (arith, due-updates s sh ok st inside (get_or leaving st 0) (get_or actions (512 + st) 0) (l st inside) (a (512 + st) (omega (arith, inside))), waiting_updates-few s ok.unrefused st in-set),
  )

pub loop-state-init : goal.loop-state-init
loop-state-init c = record {
  counted = sym (sum-none (idle_parts (read_charts c.args.s.now)));
  few = omega arith;
  done = λ st h. absurd (omega arith);
  rest = λ st l h. c.requires.3 st h;
  long = c.requires.4;
}

pub overflow_add-waiting : goal.overflow_add-waiting
overflow_add-waiting c =
    omega (arith, inside c.requires.0 c.loop-state-test.true)

pub bounds-actions-state : goal.bounds-actions-state
bounds-actions-state c =
    omega (arith, inside c.requires.0 c.loop-state-test.true)

pub bounds-leaving-i : goal.bounds-leaving-i
bounds-leaving-i c =
    inside c.requires.0 c.loop-state-test.true

pub idle_length-requires : goal.idle_length-requires
idle_length-requires c =
    few c.requires.0 c.loop-state-test.true _ _ c.requires.1 c.requires.2

pub overflow_add-n : goal.overflow_add-n
overflow_add-n c =
    omega (arith, c.idle_length.ensures.1, c.loop-state.invariant.few, inside c.requires.0 c.loop-state-test.true)

pub bounds-clocks-i : goal.bounds-clocks-i
bounds-clocks-i c =
    inside c.requires.0 c.loop-state-test.true

pub overflow_add-clocks : goal.overflow_add-clocks
overflow_add-clocks c =
    let l = c.loop-state in
    let h = c.loop-state-test.true in
    omega (
      arith,
      c.any_of.ensures,
      one_more (get_or c.args.actions.now (512 + l.state) 0),
      l.invariant.rest l.state (omega arith) (inside c.requires.0 h),
      clocks_leaving-length (read_charts c.args.s.now) l.state,
      leavers-few c.args.s.now c.requires.0.unrefused l.state (in-set c.requires.0 h),
    )

pub bounds-clocks-i-in-loop-state : goal.bounds-clocks-i-in-loop-state
bounds-clocks-i-in-loop-state c =
    inside c.requires.0 c.loop-state-test.true

pub loop-state-preserved : goal.loop-state-preserved
loop-state-preserved c =
    let x = c.args in
    let l = c.loop-state in
    let cs = read_charts x.s.now in
    let ok = c.requires.0 in
    let within = inside ok c.loop-state-test.true in
    let leaving = get_or x.leaving.now l.state 0 in
    let waiting = get_or x.actions.now (512 + l.state) 0 in
    let e = c.requires.2 l.state within in
    let d = c.requires.1 (512 + l.state) (omega (arith, within)) in
    let here : get_or l.clocks l.state 0 + c.any_of.result ≡ length (clocks_of_state cs l.state) =
    (λ i. l.invariant.rest l.state (omega arith) within i + c.any_of.ensures i) ∙ sym (resets-are x.s.now x.shape ok l.state within leaving waiting e d) in
    record {
      counted = omega (arith, l.invariant.counted, c.idle_length.ensures.0, idle-is x.s.now x.shape ok l.state within leaving waiting e d, sum_more (idle_parts cs) l.state);
      few = omega (arith, l.invariant.few, c.idle_length.ensures.1);
      done = filled_in l.clocks l.state c.any_of.result (λ st. length (clocks_of_state cs st)) l.invariant.done here (omega (arith, l.invariant.long, within));
      rest = λ st a b. get_or-set_other l.clocks l.state st (get_or l.clocks l.state 0 + c.any_of.result) 0 (λ q. absurd (omega (arith, q))) ∙ l.invariant.rest st (omega arith) b;
      long = length-set l.clocks l.state (get_or l.clocks l.state 0 + c.any_of.result) ∙ l.invariant.long;
    }
  where
    filled_in : (xs : List ℕ) (c n : ℕ) (f : ℕ → ℕ) → ((st : ℕ) → st < c → get_or xs st 0 ≡ f st) → get_or xs c 0 + n ≡ f c → c < length xs → (st : ℕ) → st < c + 1 → get_or (set xs c (get_or xs c 0 + n)) st 0 ≡ f st
    filled_in xs c n f h e l st a = go (eqb st c) refl
      where
        go : (b : Bool) → eqb st c ≡ b → get_or (set xs c (get_or xs c 0 + n)) st 0 ≡ f st
        go true q = subst (λ m. get_or (set xs c (get_or xs c 0 + n)) m 0 ≡ f m) (sym (eqb-true st c q)) (get_or-set_same xs c (get_or xs c 0 + n) 0 l ∙ e)
        go false q =
            let m = eqb-false st c q in
            get_or-set_other xs c st (get_or xs c 0 + n) 0 m ∙ h st (omega (arith, m))

pub returns : goal.returns
returns c =
    let x = c.args in
    let l = c.loop-state in
    let cs = read_charts x.s.now in
    let e : l.state ≡ length cs.homes = omega (arith, length-homes x.s.now x.shape c.requires.0.shape) in
    (l.invariant.counted ∙ ap (sum_from (idle_parts cs) 0) e ∙ idle-lengths cs, λ st h. l.invariant.done st (omega (arith, e)))
