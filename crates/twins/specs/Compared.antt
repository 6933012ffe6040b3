-- What the comparisons answer, in the words of the model. Assumes nothing: these are definitions.
use Rattle.std.specs.Prelude.{Bool, cond, List, ℕ, pos, length, replicate}
use Rattle.model.specs.Limits.{most_charts, most_variables, most_clocks}
use Rattle.prelude.specs.Lists.{map_from}
use Rattle.records.specs.Refusal.{Refusal, Out, val, fault}
use Rattle.records.specs.RefusalOf.{refusal_of}
use Rattle.model.specs.Runs.{Run, Call, start}
use Rattle.model.specs.ChartSet.{read_charts}
use Rattle.model.specs.Charts.{charts}
use Rattle.model.specs.AutomataTable.{read_automata}
use Rattle.model.specs.Automata.{automata}
use Rattle.model.specs.Calls.{chart_sets, automata_tables}
use Rattle.model.specs.Correspondence.{after_calls}
use Rattle.machines.specs.Playing.{play_call}
use Rattle.twins.specs.declared.both.Both.{Both}
use Rattle.twins.specs.declared.Verdict as declared-verdict
use Rattle.twins.specs.declared.Compared.{Compared}
use Rattle.alike.specs.Alike.{Pair, call_for, is_turn}
use Rattle.chart_runs.specs.RunOf as charts-run
use Rattle.automata.specs.RunOf as automata-run

abbrev pub pair_of : Both → Pair
pair_of x = record { alike = x.alike; run = charts-run.run_of x.run; twin = automata-run.run_of x.twin }

-- all of so many calls were alike; the set is refused, or the buffer too short; a call was not alike
pub data Verdict : Type 0 where
  alike : ℕ → Verdict
  refused : Refusal → Verdict
  differ : ℕ → Verdict

abbrev pub verdict_of : declared-verdict.Verdict → Verdict
verdict_of (declared-verdict.TheVariants.Alike n) = alike n
verdict_of (declared-verdict.TheVariants.Refused w) = refused (refusal_of w)
verdict_of (declared-verdict.TheVariants.Differ k) = differ k

-- the verdict, and the runs that the calls left
pub record Comparison : Type 0 where
  pub verdict : Verdict
  pub run : Run
  pub twin : Run

abbrev pub comparison_of : Compared → Comparison
comparison_of x = record { verdict = verdict_of x.verdict; run = charts-run.run_of x.run; twin = automata-run.run_of x.twin }

-- ---- what they are to answer: never that a call differs

-- the calls from number k on; each is a turn where its kind is 0, else a cycle
abbrev pub calls_from : ℕ → List ℕ → List ℕ → List Call
calls_from k kinds masks = map_from k (λ j events. call_for (is_turn kinds j) events) masks

-- of a set s and its twin t, from fresh runs on: calls one by one, and cycles played
module _ (s t masks : List ℕ) where
  abbrev pub called_both : List ℕ → Comparison
  called_both kinds = record {
    verdict = alike (length masks);
    run = after_calls chart_sets s (calls_from 0 kinds masks) (start (charts (read_charts s)));
    twin = after_calls automata_tables t (calls_from 0 kinds masks) (start (automata (read_automata t)));
  }

  abbrev pub played_both : Comparison
  played_both = record {
    verdict = alike (length masks);
    run = (play_call chart_sets s masks (start (charts (read_charts s)))).lent;
    twin = (play_call automata_tables t masks (start (automata (read_automata t)))).lent;
  }

  abbrev pub moved_both : Bool → List ℕ → Comparison
  moved_both plays kinds = cond plays played_both (called_both kinds)

-- where nothing was compared the runs are zeros, at position 1
abbrev pub blank_run : ℕ → Run
blank_run timers = record { at = replicate most_charts 0; timers = replicate timers 0; world = record { vars = replicate most_variables (pos 0); events = 0; position = 1; cycles = 0 } }

abbrev pub nothing_compared : Refusal → Comparison
nothing_compared w = record { verdict = refused w; run = blank_run most_charts; twin = blank_run most_clocks }

-- by what the translation answers
abbrev pub compared : Out ℕ → Comparison → Comparison
compared (val n) c = c
compared (fault w) c = nothing_compared w
