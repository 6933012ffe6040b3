use mathlib.Core.Path.{sym, refl}
use mathlib.Core.List.{◌++◌}
use Prim.Native.Nat.{◌^◌}
use native.Mathlib.Omega.{arith}
use Rattle.model.specs.ChartSet.{read_charts}
use Rattle.twin_records.proofs.TextsWritten.{puts-as, puts_then}
use Rattle.model.specs.AutomataTable.{write_update, write_reset}
use Rattle.model.specs.Translation.{updates_of, resets_of}
use Rattle.translation.proofs.TextsFile.{by_edge-text, transitions-text}
use Rattle.translation.proofs.put_effects.Goals as goal

pub put_updates-dues_at-requires : goal.put_updates-dues_at-requires
put_updates-dues_at-requires c =
    (c.requires.0.accepted, c.requires.0.has_actions, omega (arith, c.requires.3))

pub put_due_updates-resets_at-requires : goal.put_due_updates-resets_at-requires
put_due_updates-resets_at-requires c =
    (c.requires.0.accepted, c.requires.2, c.requires.0.has_actions, omega (arith, c.requires.3, c.put_updates-dues_at.ensures.near))

pub fill_leaving-requires : goal.fill_leaving-requires
fill_leaving-requires c =
    (c.requires.0.accepted, refl, refl)

pub put_resets-requires : goal.put_resets-requires
put_resets-requires c =
    (c.requires.0.accepted, c.requires.1, c.requires.2, c.fill_leaving.ensures.0, omega (arith, c.requires.3, c.put_updates-dues_at.ensures.near, c.put_due_updates-resets_at.ensures.near))

pub returns : goal.returns
returns c =
    let cs = read_charts c.args.s.now in
    puts-as _ (sym (λ i. by_edge-text cs 40 write_update (updates_of cs) i ++ transitions-text cs 41 write_reset (resets_of cs) (λ z. refl) (λ z. refl) i))
    (puts_then (2 ^ 42) (omega arith) (puts_then (2 ^ 41) (omega arith) c.put_updates-dues_at.ensures c.put_due_updates-resets_at.ensures) c.put_resets.ensures)
