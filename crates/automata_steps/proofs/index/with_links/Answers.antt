use native.Mathlib.Omega.{arith}
use Rattle.automata_steps.proofs.IndexLinked.{blank}
use Rattle.automata_steps.proofs.index.with_links.Goals as goal

pub index_of-requires-clause-blank : goal.index_of-requires-clause-blank
index_of-requires-clause-blank g c = blank

pub whole_as_slice-index_of : goal.whole_as_slice-index_of
whole_as_slice-index_of g c = omega (arith, c.requires.few)

pub shared_whole_as_slice-read : goal.shared_whole_as_slice-read
shared_whole_as_slice-read g c = omega (arith, c.requires.few)
