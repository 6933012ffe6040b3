-- An edge that is taken: its updates and resets, one record after the other, and the turn as a whole. Assumes nothing.
use mathlib.Core.Path.{◌≡◌, refl, sym, ap, ◌∙◌}
use mathlib.Core.Bool.{true, false, cond}
use mathlib.Core.List.{List, [], ◌∷◌, map}
use Prim.Native.Nat.{ℕ}
use lib.ListN.{get_or, set}
use Rattle.records.specs.Refusal.{Refusal, Out, val, fault, ◌>>=◌, choose}
use Rattle.expressions.specs.Nodes.{Node}
use Rattle.prelude.specs.Owned.{of}
use Rattle.model.specs.Runs.{Variable, World, Run, Answer, taken, Action, action, actions, guard_holds}
use Rattle.model.specs.AutomataTable.{LiteralTrigger, always, event, clock, Literal, Automata, edge}
use Rattle.model.specs.Automata.{literal_trigger_holds, literal_holds, reads, opens, the_one, reset, leaving, open_edges, edge_step}
use Rattle.machines.specs.Worlds.{Moment}
use Rattle.automata_steps.specs.StepOf.{bare_run, the_open, entered, take_edge}

-- ---- updates: record n says the action act n, and the world goes by the moment

module _ (nodes : List Node) (variables : List Variable) (act : ℕ → Action) where
  abbrev pub do_on : List ℕ → (Moment → World) → Moment → Out World
  do_on ns w = λ m. actions nodes variables (map act ns) (w m)

  module _ (n : ℕ) (w : Moment → World) where
    one : (rest : List ℕ) (m : Moment) → do_on (n ∷ rest) w m ≡ (action nodes variables (act n) (w m) >>= actions nodes variables (map act rest))
    unfolding actions
    one rest m = refl

    pub do-fault : (f : Refusal) → ((m : Moment) → fault f ≡ action nodes variables (act n) (w m)) → (rest : List ℕ) → do_on (n ∷ rest) w ≡ (λ m. fault f)
    do-fault f d rest = λ i m. (one rest m ∙ ap (λ o. o >>= actions nodes variables (map act rest)) (sym (d m))) i

    pub do-more : (w' : Moment → World) → ((m : Moment) → val (w' m) ≡ action nodes variables (act n) (w m)) → (rest : List ℕ) → do_on (n ∷ rest) w ≡ do_on rest w'
    do-more w' d rest = λ i m. (one rest m ∙ ap (λ o. o >>= actions nodes variables (map act rest)) (sym (d m))) i

  pub do-none : (w : Moment → World) → do_on [] w ≡ (λ m. val (w m))
  unfolding actions
  do-none w = refl

-- ---- resets: record n says the clock g n

module _ (g : ℕ → ℕ) where
  abbrev pub reset_on : List ℕ → List ℕ → List ℕ
  reset_on ns clocks = reset (map g ns) clocks

  pub reset-one : (n k : ℕ) (clocks : List ℕ) → k ≡ g n → (rest : List ℕ) → reset_on (n ∷ rest) clocks ≡ reset_on rest (set clocks k 0)
  unfolding reset
  reset-one n k clocks e rest = ap (λ j. reset (map g rest) (set clocks j 0)) (sym e)

  pub reset-none : (clocks : List ℕ) → reset_on [] clocks ≡ clocks
  unfolding reset
  reset-none clocks = refl

-- ---- the turn

module _ (au : Automata) (a : ℕ) (r : Run) where
  abbrev then_entered : ℕ → World → Out (Answer × Run)
  then_entered e w = val (taken e, entered r a (edge au e).target (reset (of e au.resets) r.timers) w)

  -- literals look at clocks, variables and events only
  abbrev bare : Run
  bare = bare_run r.timers r.world.vars r.world.events

  literal-trigger-bare : (c : LiteralTrigger) → literal_trigger_holds au bare c ≡ literal_trigger_holds au r c
  literal-trigger-bare always = refl
  literal-trigger-bare (event e) = refl
  literal-trigger-bare (clock k) = refl

  literal-bare : (l : Literal) → literal_holds au bare l ≡ literal_holds au r l
  literal-bare l =
      ap (λ b. let o = cond b (guard_holds au.nodes r.world.vars l.guard) (val false) in cond l.must o (choose o (val false) (val true))) (literal-trigger-bare l.trigger)

  open-bare : the_open au bare a (get_or r.at a 0) ≡ (open_edges au a r >>= the_one)
  open-bare = λ i. opens (λ e. reads (λ l. literal-bare l i) (of e au.literals)) (leaving au a (get_or r.at a 0)) >>= the_one

  -- the one open edge is taken
  step_by : edge_step au a r ≡ (the_open au bare a (get_or r.at a 0) >>= take_edge au a r)
  step_by = go (open_edges au a r) ∙ ap (λ o. o >>= take_edge au a r) (sym open-bare)
    where
      go : (o : Out (List ℕ)) → (o >>= λ es. the_one es >>= take_edge au a r) ≡ ((o >>= the_one) >>= take_edge au a r)
      go (val es) = refl
      go (fault w) = refl

  pub step-fault : (w : Refusal) → fault w ≡ the_open au bare a (get_or r.at a 0) → fault w ≡ edge_step au a r
  step-fault w h = ap (λ o. o >>= take_edge au a r) h ∙ sym step_by

  pub step-takes : (e : ℕ) → val e ≡ the_open au bare a (get_or r.at a 0) → take_edge au a r e ≡ edge_step au a r
  step-takes e h = ap (λ o. o >>= take_edge au a r) h ∙ sym step_by

  module _ (e : ℕ) where
    pub take-fault : (f : Refusal) → fault f ≡ actions au.nodes au.variables (of e au.updates) r.world → fault f ≡ take_edge au a r e
    take-fault f d = ap (λ o. o >>= then_entered e) d

    pub take_done : (w : World) → val w ≡ actions au.nodes au.variables (of e au.updates) r.world → (target : ℕ) → target ≡ (edge au e).target →
        (clocks : List ℕ) → clocks ≡ reset (of e au.resets) r.timers → (r' : Run) → r' ≡ entered r a target clocks w → val (taken e, r') ≡ take_edge au a r e
    take_done w d target t clocks k r' f = ap (λ x. val (taken e, x)) (f ∙ (λ i. entered r a (t i) (k i) w)) ∙ ap (λ o. o >>= then_entered e) d
