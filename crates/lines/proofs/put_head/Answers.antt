use native.Mathlib.Omega.{arith}
use Rattle.lines.proofs.Digits.{decimal_of_32_bits, decimal_of_16_bits}
use Rattle.records.proofs.Wrote.{wrote_then}
use Rattle.lines.proofs.put_head.Goals as goal

pub returns : goal.returns
returns c =
    let number = wrote_then c.put_decimal-chart_at.ensures c.put_field-space_at.ensures in
    let taken = wrote_then c.put_char-chosen_at.ensures c.put_chosen-state_at.ensures.0 in
    (wrote_then (wrote_then number taken) c.put_field.ensures, grind (arith, decimal_of_32_bits, decimal_of_16_bits))
