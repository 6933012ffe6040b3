use mathlib.Core.Path.{◌≡◌, refl, sym, ap, ◌∙◌}
use mathlib.Core.Bool.{true, cond}
use mathlib.Core.List.{List}
use Prim.Native.Nat.{ℕ, ◌+◌, ◌*◌, ◌≤◌, ◌<◌}
use native.Mathlib.Omega.{arith}
use borrow.Author.Tests.{lt-ltb}
use lib.ListN.{length, get_or, take}
use lib.Seq.{sets, length-sets}
use Rattle.model.specs.ChartSet.{read_charts}
use Rattle.model.specs.PathBack.{walk_start, row_words}
use Rattle.chart_records.specs.declared.Shape.{Shape}
use Rattle.chart_records.specs.Accepted.{Accepted}
use Rattle.chart_records.proofs.PlacesRead.{length-transitions, most-transitions}
use Rattle.paths.specs.LedOf.{step_words, next_position, next_cycles}
use Rattle.paths.specs.Along.{all_fit, walk_along, rows_along}
use Rattle.paths.proofs.AlongFollowed.{Followed, followed-none, followed-more, followed-fits, rows-many, words_are, room_next, written, written_none, written-more, walk-next}
use Rattle.paths.proofs.LedOfSteps.{fits-edge, in-turn, position-next, cycles-next}
use Rattle.paths.proofs.put_rows.Goals as goal

step-in-turn : (s : List ℕ) (sh : Shape) → Accepted s sh → (path : List ℕ) (i k : ℕ) → Followed (read_charts s) path i (walk_along (read_charts s) (take i path) (walk_start (read_charts s))) k → i < length path →
    all_fit (read_charts s) path (walk_start (read_charts s)) ≡ true →
    ((walk_along (read_charts s) (take i path) (walk_start (read_charts s))).position ≤ 9) × ((walk_along (read_charts s) (take i path) (walk_start (read_charts s))).cycles < 1_000_000)
step-in-turn s sh ok path i k f h fits =
    let w = walk_along (read_charts s) (take i path) (walk_start (read_charts s)) in
    in-turn s sh ok (get_or path i 0) w (followed-fits (read_charts s) path i w k f h fits)

pub loop-e-init : goal.loop-e-init
unfolding walk_along
loop-e-init c =
    let a = c.args in
    let cs = read_charts a.s.now in
    (followed-none cs a.path.now (walk_start cs) refl, refl, refl, sym (written_none cs a.path.now a.rows.now))

pub put_step-requires : goal.put_step-requires
put_step-requires c =
    let a = c.args in
    let l = c.loop-e in
    let s = a.s.now in
    let cs = read_charts s in
    let w = walk_along cs (take l.e-index a.path.now) (walk_start cs) in
    let e = get_or a.path.now l.e-index 0 in
    let t = c.loop-e-test.true in
    let fits = followed-fits cs a.path.now l.e-index w l.k l.invariant.0 t c.requires.writable.fits in
    λ h. (
      room_next cs a.path.now l.e-index w l.k _ l.invariant.0 t
          (rows-many cs a.path.now e w a.shape.transitions (length-transitions s a.shape c.requires.accepted.shape) ∙ ap (λ y. cond y 1 0) (lt-ltb e a.shape.transitions h))
          (omega (arith, c.requires.writable.room, ap length l.invariant.3, length-sets a.rows.now 0 (row_words (rows_along cs (take l.e-index a.path.now) (walk_start cs))))),
      (let p = (fits-edge s a.shape c.requires.accepted e w (λ z. let y : e ≡ 65535 = z in omega (arith, h, most-transitions s a.shape c.requires.accepted.shape)) fits).1 in omega (arith, l.invariant.1)),
    )

pub next_position-position-requires : goal.next_position-position-requires
next_position-position-requires c =
    let a = c.args in
    let l = c.loop-e in
    let t = step-in-turn a.s.now a.shape c.requires.accepted a.path.now l.e-index l.k l.invariant.0 c.loop-e-test.true c.requires.writable.fits in
    omega (arith, t.0, l.invariant.1)

pub next_cycles-cycles-requires : goal.next_cycles-cycles-requires
next_cycles-cycles-requires c =
    let a = c.args in
    let l = c.loop-e in
    let t = step-in-turn a.s.now a.shape c.requires.accepted a.path.now l.e-index l.k l.invariant.0 c.loop-e-test.true c.requires.writable.fits in
    omega (arith, t.1, l.invariant.2)

pub loop-e-preserved : goal.loop-e-preserved
loop-e-preserved c =
    let a = c.args in
    let l = c.loop-e in
    let s = a.s.now in
    let cs = read_charts s in
    let w = walk_along cs (take l.e-index a.path.now) (walk_start cs) in
    let e = get_or a.path.now l.e-index 0 in
    let t = c.loop-e-test.true in
    let are = length-transitions s a.shape c.requires.accepted.shape in
    let fits = followed-fits cs a.path.now l.e-index w l.k l.invariant.0 t c.requires.writable.fits in
    let next = walk-next cs a.path.now l.e-index t in (
      followed-more cs a.path.now l.e-index w l.k l.invariant.0 t fits _ next (l.k + c.rows_of_step-k.result)
          (ap (λ n. l.k + n) (c.rows_of_step-k.ensures ∙ sym (rows-many cs a.path.now e w a.shape.transitions are))),
      c.next_position-position.ensures ∙ ap (next_position e) l.invariant.1 ∙ sym (position-next cs e w) ∙ ap (λ v. v.position) (sym next),
      c.next_cycles-cycles.ensures ∙ ap (next_cycles e) l.invariant.2 ∙ sym (cycles-next cs e w) ∙ ap (λ v. v.cycles) (sym next),
      c.put_step.ensures
          ∙ (λ i. sets (l.invariant.3 i) (3 * l.k) (step_words a.shape.transitions e (l.invariant.1 i) (l.invariant.2 i)))
          ∙ ap (sets (written cs a.path.now a.rows.now l.e-index) (3 * l.k)) (sym (words_are cs a.path.now e w a.shape.transitions are))
          ∙ sym (written-more cs a.path.now a.rows.now l.e-index w l.k l.invariant.0 t),
    )
