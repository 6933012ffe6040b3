use mathlib.Core.Path.{◌∙◌}
use native.Mathlib.Omega.{arith}
use Rattle.automata_records.proofs.PlacesRead.{inside, most-locations, most-edges}
use Rattle.automata_records.specs.Accepted.{FewRecords}
use Rattle.automata_steps.proofs.IndexRecords.{few-records, source_in, literal-in, effect-in}
use Rattle.automata_steps.proofs.IndexLinked.{linkable, vacant-behind}
use Rattle.automata_steps.proofs.index.index_of.Goals as goal

pub first_edge-edge-requires : goal.first_edge-edge-requires
first_edge-edge-requires c =
    let few : FewRecords c.args.shape = few-records c.args.s.now c.args.shape c.requires.accepted.shape in
    few

pub first_literal-literal-requires : goal.first_literal-literal-requires
first_literal-literal-requires c =
    let few : FewRecords c.args.shape = few-records c.args.s.now c.args.shape c.requires.accepted.shape in
    few

pub first_update-update-requires : goal.first_update-update-requires
first_update-update-requires c =
    let few : FewRecords c.args.shape = few-records c.args.s.now c.args.shape c.requires.accepted.shape in
    few

pub first_reset-reset-requires : goal.first_reset-reset-requires
first_reset-reset-requires c =
    let few : FewRecords c.args.shape = few-records c.args.s.now c.args.shape c.requires.accepted.shape in
    few

pub link-requires : goal.link-requires
link-requires c =
    let few : FewRecords c.args.shape = few-records c.args.s.now c.args.shape c.requires.accepted.shape in
    let x = c.args in
    let f = few in
    let i = inside x.s.now x.shape c.requires.accepted.shape in
    let m = most-locations x.s.now x.shape c.requires.accepted.shape in
    let d = c.first_edge-edge.ensures in
    let e = c.first_literal-literal.ensures in
    let p = c.requires.room_for in
    linkable x.s.now _ _ _ c.requires.blank.keys (omega arith) (omega arith) (omega arith) (omega arith) (omega arith)
    (λ n h l. omega (arith, source_in x.s.now x.shape c.requires.accepted n (omega arith) (omega arith)))
    c.requires.blank.vacant

pub link-requires-2 : goal.link-requires-2
link-requires-2 c =
    let few : FewRecords c.args.shape = few-records c.args.s.now c.args.shape c.requires.accepted.shape in
    let x = c.args in
    let f = few in
    let i = inside x.s.now x.shape c.requires.accepted.shape in
    let m = most-edges x.s.now x.shape c.requires.accepted.shape in
    let d = c.first_literal-literal.ensures in
    let p = c.requires.room_for in
    let l1 = c.link.ensures in
    linkable x.s.now _ _ _ (l1.keys ∙ c.requires.blank.keys) (omega arith) (omega arith) (omega (arith, l1.places)) (omega arith) (omega arith)
    (λ n h l. omega (arith, literal-in x.s.now x.shape c.requires.accepted n (omega arith) (omega arith)))
    (vacant-behind l1 c.requires.blank.vacant)

pub overflow_add-reset : goal.overflow_add-reset
overflow_add-reset c =
    let few : FewRecords c.args.shape = few-records c.args.s.now c.args.shape c.requires.accepted.shape in
    let f = few in
    omega (arith, c.first_reset-reset.ensures)

pub link-requires-3 : goal.link-requires-3
link-requires-3 c =
    let few : FewRecords c.args.shape = few-records c.args.s.now c.args.shape c.requires.accepted.shape in
    let x = c.args in
    let f = few in
    let i = inside x.s.now x.shape c.requires.accepted.shape in
    let m = most-edges x.s.now x.shape c.requires.accepted.shape in
    let d = c.first_update-update.ensures in
    let e = c.first_reset-reset.ensures in
    let p = c.requires.room_for in
    let l1 = c.link.ensures in
    let l2 = c.link-2.ensures in
    linkable x.s.now _ _ _ (l2.keys ∙ l1.keys ∙ c.requires.blank.keys) (omega arith) (omega arith) (omega (arith, l1.places, l2.places)) (omega arith) (omega arith)
    (λ n h l. omega (arith, effect-in x.s.now x.shape c.requires.accepted n (omega arith) (omega arith)))
    (vacant-behind l2 (vacant-behind l1 c.requires.blank.vacant))
