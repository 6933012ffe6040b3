-- What turns, cycles and long runs answer, as the model's outcomes, and the numbers of the answers. Assumes nothing: these are definitions.
use Rattle.std.specs.Prelude.{ℕ, ℤ, pos, neg_ℤ, Result}
use Rattle.records.specs.Refusal as R
use Rattle.records.specs.Refusal.{Out, val, fault}
use Rattle.records.specs.RefusalOf.{refusal_of, out_of}
use Rattle.model.specs.Runs as M
use Rattle.answers.specs.declared.Reason.{Reason}
use Rattle.answers.specs.declared.Reason.TheVariants.{Range, Divisor, Bounds, NoneOpen, ManyOpen}
use Rattle.answers.specs.declared.Answer.{Answer}
use Rattle.answers.specs.declared.Answer.TheVariants.{Taken, Idle, Time, Fault, Refused}
use Rattle.answers.specs.declared.Stop as declared-stop

abbrev pub reason_of : Reason → R.Refusal
reason_of Range = R.out_of_range
reason_of Divisor = R.zero_divisor
reason_of Bounds = R.out_of_bounds
reason_of NoneOpen = R.none_open
reason_of ManyOpen = R.many_open

-- "A turn's answer is the transition or edge taken, idling, or time"; or why there is none.
abbrev pub answer_of : Answer → Out M.Answer
answer_of (Taken t) = val (M.taken t)
answer_of Idle = val M.idle
answer_of Time = val M.time
answer_of (Fault w) = fault (reason_of w)
answer_of (Refused w) = fault (refusal_of w)

-- why another call stopped
abbrev pub stop_of : declared-stop.Stop → R.Refusal
stop_of (declared-stop.TheVariants.Fault w) = reason_of w
stop_of (declared-stop.TheVariants.Refused w) = refusal_of w

-- "a cycle's is only that it is done"
abbrev pub ending_of : Result (Unit {0}) declared-stop.Stop → Out (Unit {0})
ending_of r = out_of stop_of r

abbrev pub cycles_of : Result ℕ declared-stop.Stop → Out ℕ
cycles_of r = out_of stop_of r

-- ---- as callers in other languages get them

-- a refusal or fault
abbrev pub refused_code : R.Refusal → ℤ
refused_code w = neg_ℤ (pos (R.refusal_number w))

-- a call that is done or not
abbrev pub done_code : Unit {0} → ℕ
done_code u = 0

-- a call that counts
abbrev pub count_code : ℕ → ℕ
count_code n = n
