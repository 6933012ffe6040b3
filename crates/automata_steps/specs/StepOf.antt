-- The answers of edges and of an automaton's turn, as the model's outcomes. Assumes nothing: these are definitions.
use Rattle.std.specs.Prelude.{◌≡◌, Bool, List, [], ◌∷◌, ℕ, ◌<◌, ℤ, set, Result, Ok, Err}
use Rattle.records.specs.Refusal.{many_open, Out, val, fault, ◌>>=◌}
use Rattle.records.specs.RefusalOf.{out_of}
use Rattle.prelude.specs.Owned.{of}
use Rattle.model.specs.Runs.{World, Run, Answer, taken, actions}
use Rattle.model.specs.AutomataTable.{Automata, edge}
use Rattle.model.specs.Automata.{literal_holds, reads, opens, the_one, leaving, reset}
use Rattle.answers.specs.Answers.{reason_of}
use Rattle.automata_steps.specs.declared.edges.Tally.{Tally}
use Rattle.automata_steps.specs.declared.edges.Tally.TheVariants.{Nothing, One, Many}
use Rattle.answers.specs.declared.Reason.{Reason}
use Rattle.machines.specs.Worlds.{Moment, moment, run_in}

-- ---- open edges

-- clocks, variables and events, which is all that a literal looks at
abbrev pub bare_run : List ℕ → List ℤ → ℕ → Run
bare_run clocks vars events = run_in [] clocks vars events (moment 0 0)

abbrev pub edge_open : Automata → Run → ℕ → Out Bool
edge_open au r e = reads (literal_holds au r) (of e au.literals)

-- the one edge open, where some were found already and these are the others
abbrev pub tally_of : Tally → List ℕ → Out ℕ
tally_of Nothing es = the_one es
tally_of (One e) es = the_one (e ∷ es)
tally_of Many es = fault many_open

-- the same, where of these others it is yet to be read whether they are open
abbrev pub one_open : (ℕ → Out Bool) → Tally → List ℕ → Out ℕ
one_open isOpen t es = opens isOpen es >>= tally_of t

abbrev pub counted_of : (ℕ → Out Bool) → Result Tally Reason → List ℕ → Out ℕ
counted_of isOpen r es = out_of reason_of r >>= λ t. one_open isOpen t es

-- the one open edge of those that leave a location
abbrev pub the_open : Automata → Run → ℕ → ℕ → Out ℕ
the_open au r automaton location = opens (edge_open au r) (leaving au automaton location) >>= the_one

abbrev pub choice_of : Result ℕ Reason → Out ℕ
choice_of r = out_of reason_of r

-- one of so many edges
abbrev pub TallyIn : ℕ → Tally → Type 0
TallyIn edges Nothing = Unit
TallyIn edges (One e) = e < edges
TallyIn edges Many = Unit

abbrev pub CountedIn : ℕ → Result Tally Reason → Type 0
CountedIn edges (Ok t) = TallyIn edges t
CountedIn edges (Err w) = Unit

abbrev pub ChoiceIn : ℕ → Result ℕ Reason → Type 0
ChoiceIn edges (Ok e) = e < edges
ChoiceIn edges (Err w) = Unit

-- ---- an automaton's turn

-- the run in which an automaton has entered a location
abbrev pub entered : Run → ℕ → ℕ → List ℕ → World → Run
entered r automaton target clocks w = record { at = set r.at automaton target; timers = clocks; world = w }

abbrev pub take_edge : Automata → ℕ → Run → ℕ → Out (Answer × Run)
take_edge au automaton r e =
    actions au.nodes au.variables (of e au.updates) r.world
    >>= λ w. val (taken e, entered r automaton (edge au e).target (reset (of e au.resets) r.timers) w)

-- A fault leaves locations and clocks as they were. The variables may have values of the updates before it: nothing is said of them.
abbrev pub FaultKeeps : Result (ℕ × ℕ) Reason → List ℕ → List ℕ → List ℕ → List ℕ → Type 0
FaultKeeps (Ok x) at₀ clocks₀ at clocks = Unit
FaultKeeps (Err w) at₀ clocks₀ at clocks = (at ≡ at₀) × (clocks ≡ clocks₀)

-- the turn, as the edge taken and the events after it, by what is in the places then; it leaves the moment as it is
abbrev pub stepped_of : Result (ℕ × ℕ) Reason → List ℕ → List ℕ → List ℤ → Moment → Out (Answer × Run)
stepped_of (Ok x) at clocks vars m = val (taken x.0, run_in at clocks vars x.1 m)
stepped_of (Err w) at clocks vars m = fault (reason_of w)
