use mathlib.Core.Path.{◌≡◌, sym, ◌∙◌, subst}
use Prim.Native.Nat.{ℕ}
use native.Mathlib.Omega.{arith}
use Rattle.model.specs.Runs.{Deed, assign, raise, action}
use Rattle.model.specs.ChartSet.{action_by}
use Rattle.automata_records.specs.Places.{update_in}
use Rattle.automata_records.specs.Known.{DeedKnown}
use Rattle.machines.specs.Deeds.{Doable}
use Rattle.machines.specs.Worlds.{world_in}
use Rattle.automata_records.specs.Accepted.{InFile}
use Rattle.automata_steps.proofs.ValuesRead.{has-values, variables-in, nodes-in}
use Rattle.automata_steps.proofs.IndexRecords.{in-file, deed-in, update-at}
use Rattle.automata_steps.proofs.steps.do_update.Goals as goal

doable : (variables nodes : ℕ) (d : Deed) → DeedKnown variables nodes d → Doable variables d
doable variables nodes (assign v n) k = k.0
doable variables nodes (raise e) k = k

pub byte_of-code-requires : goal.byte_of-code-requires
byte_of-code-requires c =
    let file : InFile c.args.s.now c.args.n = in-file c.args.s.now c.args.shape c.requires.0.shape c.args.n (omega (arith, c.requires.2)) in
    (file, omega arith)

pub byte_of-x-requires : goal.byte_of-x-requires
byte_of-x-requires c =
    let file : InFile c.args.s.now c.args.n = in-file c.args.s.now c.args.shape c.requires.0.shape c.args.n (omega (arith, c.requires.2)) in
    (file, omega arith)

pub two_of-node-requires : goal.two_of-node-requires
two_of-node-requires c =
    let file : InFile c.args.s.now c.args.n = in-file c.args.s.now c.args.shape c.requires.0.shape c.args.n (omega (arith, c.requires.2)) in
    (file, omega arith)

pub two_of-guard-requires : goal.two_of-guard-requires
two_of-guard-requires c =
    let file : InFile c.args.s.now c.args.n = in-file c.args.s.now c.args.shape c.requires.0.shape c.args.n (omega (arith, c.requires.2)) in
    (file, omega arith)

pub do_guarded-requires : goal.do_guarded-requires
do_guarded-requires c =
    let fields : let x = c.args in (update_in x.s.now x.n).1 ≡ action_by c.two_of-guard.result c.byte_of-code.result c.byte_of-x.result c.two_of-node.result = λ i. action_by (sym c.two_of-guard.ensures i) (sym c.byte_of-code.ensures i) (sym c.byte_of-x.ensures i) (sym c.two_of-node.ensures i) in
    let known : Doable c.args.shape.variables (update_in c.args.s.now c.args.n).1.deed = let x = c.args in
    doable x.shape.variables x.shape.nodes (update_in x.s.now x.n).1.deed
    (subst (λ u. DeedKnown x.shape.variables x.shape.nodes u.1.deed) (update-at x.s.now x.shape c.requires.0 x.n c.requires.1 c.requires.2) (deed-in x.s.now x.shape c.requires.0 x.n c.requires.1 c.requires.2)) in
    let v = c.values_of in
    let x = c.args in
    (has-values x.s.now x.shape c.requires.0.shape v.result v.ensures, rw v.ensures (subst (λ y. Doable x.shape.variables y.deed) fields known))

pub returns : goal.returns
returns c =
    let fields : let x = c.args in (update_in x.s.now x.n).1 ≡ action_by c.two_of-guard.result c.byte_of-code.result c.byte_of-x.result c.two_of-node.result = λ i. action_by (sym c.two_of-guard.ensures i) (sym c.byte_of-code.ensures i) (sym c.byte_of-x.ensures i) (sym c.two_of-node.ensures i) in
    λ m.
    let v = c.values_of in
    let x = c.args in
    let s = x.s.now in
    let w = world_in x.vars.now x.events m in
    c.done_by.ensures.0 _ m
    ∙ c.do_guarded.ensures.0 m
    ∙ (λ i. action (nodes-in s x.shape c.requires.0.shape v.result v.ensures i) (variables-in s x.shape c.requires.0.shape v.result v.ensures i) (sym fields i) w)
