use Rattle.twin_records.proofs.TextsWritten.{puts-as}
use Rattle.edge_records.proofs.literals.put_clock_literal.Goals as goal

pub returns : goal.returns
returns c =
    puts-as _ c.literal_bytes.ensures c.put_record.ensures
