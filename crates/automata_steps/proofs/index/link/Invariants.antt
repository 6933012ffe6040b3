use Rattle.automata_steps.proofs.IndexLinked.{Filling}
use Rattle.automata_steps.proofs.index.link.Given as goal

abbrev pub invariant-loop-n : goal.invariant-loop-n
invariant-loop-n l = Filling l.s l.span.start l.span.end l.span.base l.span.owners l.initial.first l.initial.next l.first l.next l.n
