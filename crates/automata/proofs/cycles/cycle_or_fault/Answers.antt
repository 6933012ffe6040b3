use mathlib.Core.Path.{sym, ap, ◌∙◌}
use Prim.Native.Nat.{◌+◌}
use Rattle.records.specs.Refusal.{val}
use Rattle.machines.specs.Worlds.{moment, run_in}
use Rattle.automata.proofs.RunOfClocks.{grown-are}
use Rattle.automata.proofs.cycles.cycle_or_fault.Goals as goal

pub returns : goal.returns
returns c =
    let s = c.args.s.now in
    let x = c.automata_turns in
    let q = run_in x.new.locations x.new.clocks x.new.vars 0 (moment (c.args.shape.automata + 1) c.args.cycles) in
    ap (λ k. val (run_in x.new.locations k x.new.vars 0 (moment 1 (c.args.cycles + 1)))) (c.grow.ensures ∙ sym (grown-are s c.args.shape c.requires.prepared.accepted.shape q))
    ∙ c.in_ok-automata_turns.ensures.cycles_after
