use native.Mathlib.Omega.{arith}
use Rattle.lines.proofs.Digits.{decimal_of_32_bits}
use Rattle.records.proofs.Wrote.{wrote_then}
use Rattle.messages.proofs.texts.put_counted.Goals as goal

pub put_text-requires : goal.put_text-requires
put_text-requires c = grind (arith, decimal_of_32_bits)

pub returns : goal.returns
returns c = (wrote_then c.put_decimal-next.ensures c.put_text.ensures, grind (arith, decimal_of_32_bits))
