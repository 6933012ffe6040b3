use mathlib.Core.Path.{◌≡◌, refl, sym, ap, ◌∙◌}
use mathlib.Core.List.{List, ◌∷◌}
use Prim.Native.Nat.{ℕ, ◌+◌, ◌<◌}
use native.Mathlib.Omega.{arith}
use lib.ListN.{get_or}
use Rattle.prelude.specs.Lists.{keep, upto}
use Rattle.chart_records.specs.declared.Shape.{Shape}
use Rattle.chart_records.specs.Accepted.{Accepted}
use Rattle.chart_records.proofs.PlacesRead.{most-actions}
use Rattle.machines.specs.Chains.{with_key, Chained, remaining}
use Rattle.machines.specs.Worlds.{coded_fault}
use Rattle.machines.proofs.Chains.{At, chain-start, chain-all, chain_next, chain-one, chain-rises, chain-done}
use Rattle.machines.proofs.WorldsCodes.{world-value, world-fault, is_code}
use Rattle.chart_steps.specs.Tables.{key_at, action_keys, HasActions}
use Rattle.chart_steps.proofs.TablesActions.{chained}
use Rattle.chart_steps.proofs.TablesDeeds.{key_after, key-crossing, key-entering, key-inside, left-start, left-more, left-fault, left-next, left-none}
use Rattle.chart_steps.proofs.deeds.do_deeds.Goals as goal
use Rattle.chart_steps.proofs.deeds.do_deeds.Goals.{then-k-eq1, else-k-eq1}

-- a key's chain in the set's tables
module _ (s : List ℕ) (sh : Shape) (first next : List ℕ) (ok : Accepted s sh) (has : HasActions s sh first next) (key : ℕ) (one_key : key < action_keys) where
  few : sh.actions < 65536
  few = omega (arith, most-actions s sh ok.shape)

  chains : Chained (key_at s sh) action_keys sh.actions first next
  chains = chained s sh ok first next has

  starts : (a : ℕ) → a ≡ get_or first key 0 → At (with_key (key_at s sh) key) sh.actions a
  starts = chain-start (key_at s sh) action_keys sh.actions first next chains few key one_key

  whole : (a : ℕ) → a ≡ get_or first key 0 → keep (with_key (key_at s sh) key) (upto sh.actions) ≡ remaining (with_key (key_at s sh) key) sh.actions a
  whole = chain-all (key_at s sh) action_keys sh.actions first next chains few key one_key

  module _ (a : ℕ) (at : At (with_key (key_at s sh) key) sh.actions a) (more : a ≡ 65535 → ⊥) where
    follows : At (with_key (key_at s sh) key) sh.actions (get_or next a 0)
    follows = chain_next (key_at s sh) action_keys sh.actions first next chains few key one_key a _ at more refl

    one : remaining (with_key (key_at s sh) key) sh.actions a ≡ a ∷ remaining (with_key (key_at s sh) key) sh.actions (get_or next a 0)
    one = chain-one (key_at s sh) action_keys sh.actions first next chains few key one_key a _ at more refl

    rises : a < get_or next a 0
    rises = chain-rises (key_at s sh) action_keys sh.actions first next chains few key one_key a _ at more refl

pub loop-a-init : goal.loop-a-init
loop-a-init c =
    let x = c.args in
    let s = x.s.now in
    let r = c.requires in (
      omega arith,
      omega arith,
      starts s x.shape x.first.now x.next.now r.0 r.1 x.leaving r.2 _ refl,
      left-start s x.shape x.leaving x.crossing x.entering x.vars.now x.events _ (whole s x.shape x.first.now x.next.now r.0 r.1 x.leaving r.2 _ refl),
    )

pub returns-then-k-eq2 : goal.returns-then-k-eq2
returns-then-k-eq2 c = (
  λ m.
      let x = c.args in
      let l = c.loop-a in
      world-value l.present l.vars m l.invariant.0
      ∙ left-none x.s.now x.shape x.leaving x.crossing x.entering x.vars.now x.events l.k _ l.vars l.present l.invariant.3
      (chain-done (with_key (key_at x.s.now x.shape) (key_after x.s.now x.shape x.leaving x.crossing x.entering l.k)) x.shape.actions l.a c.if-a.true)
      c.if-k-eq2.true m,
  is_code c.loop-a.present c.loop-a.invariant.0,
)

pub loop-a-preserved-then-a : goal.loop-a-preserved-then-a
loop-a-preserved-then-a c = let x = c.args in
    let l = c.loop-a in
    let s = x.s.now in
    let r = c.requires in
    let key : ℕ = key_after s x.shape x.leaving x.crossing x.entering (l.k + 1) in
    let inside : key < action_keys = key-inside s x.shape x.leaving x.crossing x.entering (l.k + 1) action_keys r.2 r.3 r.4 in
    let next-key : c.if-k-eq1.key ≡ key = elim c.if-k-eq1.branch [
      | then-k-eq1 w ↦ w.key-is ∙ sym (key-crossing s x.shape x.leaving x.crossing x.entering l.k w.if-k-eq1.true)
      | else-k-eq1 w ↦ w.key-is ∙ sym (key-entering s x.shape x.leaving x.crossing x.entering l.k w.if-k-eq1.false)
    ] in
    let from_first : get_or x.first.now c.if-k-eq1.key 0 ≡ get_or x.first.now key 0 = ap (λ n. get_or x.first.now n 0) next-key in
    let more = c.if-k-eq2.false in
    let h = l.invariant.1 in (
      l.invariant.0,
      omega (arith, more, h),
      starts s x.shape x.first.now x.next.now r.0 r.1 key inside _ from_first,
      left-next s x.shape x.leaving x.crossing x.entering x.vars.now x.events l.k _ l.vars l.present l.invariant.3
          (chain-done (with_key (key_at s x.shape) (key_after s x.shape x.leaving x.crossing x.entering l.k)) x.shape.actions l.a c.if-a.true) h more _
          (whole s x.shape x.first.now x.next.now r.0 r.1 key inside _ from_first),
    )

pub returns-then-after-gt4294967295 : goal.returns-then-after-gt4294967295
returns-then-after-gt4294967295 c = (
  λ m.
      let x = c.args in
      let l = c.loop-a in
      let f = c.do_action-after in
      let r = c.requires in
      let wrong = c.if-after-gt4294967295.true in
      let inside = key-inside x.s.now x.shape x.leaving x.crossing x.entering l.k action_keys r.2 r.3 r.4 in
      world-fault f.result f.new.vars m wrong
      ∙ left-fault x.s.now x.shape x.leaving x.crossing x.entering x.vars.now x.events l.k _ l.vars l.present l.invariant.3 l.a _
      (one x.s.now x.shape x.first.now x.next.now r.0 r.1 _ inside l.a l.invariant.2 c.if-a.false)
      (coded_fault f.result) (λ m. sym (world-fault f.result f.new.vars m wrong) ∙ f.ensures.0 m) m,
  c.do_action-after.ensures.1,
)

pub bounds-next-a : goal.bounds-next-a
bounds-next-a c = omega (arith, (c.loop-a.invariant.2.known c.if-a.false).0, most-actions c.args.s.now c.args.shape c.requires.0.shape)

pub loop-a-smaller : goal.loop-a-smaller
loop-a-smaller c = let x = c.args in
    let l = c.loop-a in
    let r = c.requires in
    let inside = key-inside x.s.now x.shape x.leaving x.crossing x.entering l.k action_keys r.2 r.3 r.4 in
    omega (
      arith,
      (l.invariant.2.known c.if-a.false).0,
      most-actions x.s.now x.shape r.0.shape,
      rises x.s.now x.shape x.first.now x.next.now r.0 r.1 _ inside l.a l.invariant.2 c.if-a.false,
    )

pub loop-a-preserved : goal.loop-a-preserved
loop-a-preserved c = let x = c.args in
    let l = c.loop-a in
    let f = c.do_action-after in
    let r = c.requires in
    let fine = c.if-after-gt4294967295.false in
    let inside = key-inside x.s.now x.shape x.leaving x.crossing x.entering l.k action_keys r.2 r.3 r.4 in (
      fine,
      l.invariant.1,
      follows x.s.now x.shape x.first.now x.next.now r.0 r.1 _ inside l.a l.invariant.2 c.if-a.false,
      left-more x.s.now x.shape x.leaving x.crossing x.entering x.vars.now x.events l.k _ l.vars l.present l.invariant.3 l.a _
          (one x.s.now x.shape x.first.now x.next.now r.0 r.1 _ inside l.a l.invariant.2 c.if-a.false)
          f.new.vars f.result (λ m. sym (world-value f.result f.new.vars m fine) ∙ f.ensures.0 m),
    )
