use mathlib.Core.Path.{ap, ◌∙◌}
use mathlib.Core.List.{List}
use Prim.Native.Nat.{ℕ, ◌+◌, ◌*◌, ◌<◌, ◌^◌}
use native.Mathlib.Omega.{arith}
use lib.ListN.{length}
use Rattle.records.specs.Bytes.{byte, two, four}
use Rattle.chart_records.proofs.PlacesRead.{inside}
use Rattle.twin_records.specs.Texts.{record_text}
use Rattle.twin_records.proofs.TextsNodes.{node_text, node-text}
use Rattle.twin_records.proofs.sections.node_record.Goals as goal

four_low : (s : List ℕ) (k : ℕ) → ((i : ℕ) → byte s i < 256) → four s k < 2 ^ 32
four_low s k bytes = omega (arith, bytes k, bytes (k + 1), bytes (k + 2), bytes (k + 2 + 1))

pub bounds-s-at : goal.bounds-s-at
bounds-s-at c =
    let here : 16 * (c.first_node.result + c.args.n) + 15 < length c.args.s.now = omega (arith, c.first_node.ensures, c.requires.1, inside c.args.s.now c.args.shape c.requires.0.shape) in
    omega (arith, here)

pub u16_within-requires : goal.u16_within-requires
u16_within-requires c =
    let here : 16 * (c.first_node.result + c.args.n) + 15 < length c.args.s.now = omega (arith, c.first_node.ensures, c.requires.1, inside c.args.s.now c.args.shape c.requires.0.shape) in
    omega (arith, here)

pub u16_within-requires-2 : goal.u16_within-requires-2
u16_within-requires-2 c =
    let here : 16 * (c.first_node.result + c.args.n) + 15 < length c.args.s.now = omega (arith, c.first_node.ensures, c.requires.1, inside c.args.s.now c.args.shape c.requires.0.shape) in
    omega (arith, here)

pub u16_within-requires-3 : goal.u16_within-requires-3
u16_within-requires-3 c =
    let here : 16 * (c.first_node.result + c.args.n) + 15 < length c.args.s.now = omega (arith, c.first_node.ensures, c.requires.1, inside c.args.s.now c.args.shape c.requires.0.shape) in
    omega (arith, here)

pub u32_within-requires : goal.u32_within-requires
u32_within-requires c =
    let here : 16 * (c.first_node.result + c.args.n) + 15 < length c.args.s.now = omega (arith, c.first_node.ensures, c.requires.1, inside c.args.s.now c.args.shape c.requires.0.shape) in
    omega (arith, here)

pub returns : goal.returns
returns c =
    let x = c.args in
    let s = x.s.now in
    c.node_bytes.ensures
    ∙ ap (record_text 39)
    ((λ i. node_text (byte s (16 * (c.first_node.ensures i + x.n) + 1))
    ((c.u16_within.ensures ∙ (λ j. two s (16 * (c.first_node.ensures j + x.n) + 2))) i)
    ((c.u16_within-2.ensures ∙ (λ j. two s (16 * (c.first_node.ensures j + x.n) + 4))) i)
    ((c.u16_within-3.ensures ∙ (λ j. two s (16 * (c.first_node.ensures j + x.n) + 6))) i)
    ((c.u32_within.ensures ∙ (λ j. four s (16 * (c.first_node.ensures j + x.n) + 8))) i))
    ∙ node-text s x.shape c.requires.0 x.n c.requires.1 (four_low s _ (λ i. omega (arith, c.type_inv.s i))))
