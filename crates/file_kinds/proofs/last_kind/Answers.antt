use mathlib.Core.Path.{◌≡◌, sym, ap, ◌∙◌}
use mathlib.Core.Bool.{cond, ◌||◌}
use mathlib.Core.List.{List, map}
use Prim.Native.Nat.{ℕ, ◌+◌, ◌*◌, ◌/◌, ◌<◌}
use native.Mathlib.Omega.{arith}
use lib.Dec.{ltb}
use lib.ListN.{length}
use Rattle.std.specs.Prelude.{None}
use Rattle.records.specs.Bytes.{byte, kind}
use Rattle.records.proofs.Records.{rest, rest_all, rest-none}
use Rattle.framing.proofs.FramingLaws.{kinds-one}
use Rattle.file_kinds.specs.LongFiles.{last_kind, last_kind_in}
use Rattle.file_kinds.proofs.last_kind.Invariants.{left}
use Rattle.file_kinds.proofs.last_kind.Goals as goal

left_one : (s : List ℕ) (last i : ℕ) → i < length s / 16 →
    left s last i ≡ cond (ltb (byte s (16 * i)) last || ltb 6 (byte s (16 * i))) None (left s (byte s (16 * i)) (i + 1))
unfolding last_kind left
left_one s last i h = ap (last_kind last) (kinds-one s i h)

pub loop-i-init : goal.loop-i-init
unfolding left
loop-i-init c =
    ap (last_kind_in c.args.s.now) c.in_ok-last.was ∙ ap (λ rs. last_kind c.in_ok-last.last (map kind rs)) (sym (rest_all c.args.s.now))

pub returns-in_err-last : goal.returns-in_err-last
returns-in_err-last c =
    c.from_residual.ensures ∙ ap (last_kind_in c.args.s.now) (sym c.in_err-last.was)

pub returns-then-k-last : goal.returns-then-k-last
returns-then-k-last c =
    let s = c.args.s.now in
    let l = c.loop-i in
    sym (l.invariant ∙ left_one s l.last l.i (omega arith) ∙ ap (λ b. cond b None (left s (byte s (16 * l.i)) (l.i + 1))) c.if-k-last.true)

pub loop-i-preserved : goal.loop-i-preserved
loop-i-preserved c =
    let s = c.args.s.now in
    let l = c.loop-i in
    l.invariant ∙ left_one s l.last l.i (omega arith) ∙ ap (λ b. cond b None (left s (byte s (16 * l.i)) (l.i + 1))) c.if-k-last.false

pub returns : goal.returns
unfolding last_kind left
returns c =
    let s = c.args.s.now in
    let l = c.loop-i in
    let end : l.i ≡ length s / 16 = omega arith in
    sym (l.invariant ∙ ap (λ rs. last_kind l.last (map kind rs)) (ap (rest s) end ∙ rest-none s))
