-- A chart's turn: the first that holds, place by place of a row, and the deeds of a transition. Assumes nothing.
use mathlib.Core.Path.{◌≡◌, refl, sym, ap, ◌∙◌}
use mathlib.Core.Logic.{inl, inr}
use mathlib.Core.Bool.{Bool, true, false, cond}
use mathlib.Core.Option.{Option, some, none}
use mathlib.Core.List.{List, [], ◌∷◌, ◌++◌, map}
use Prim.Native.Nat.{ℕ, zero, suc, ◌+◌, ◌-◌, ◌≤◌, ◌<◌}
use native.Mathlib.Nat.{sub-zero}
use native.Mathlib.Omega.{arith}
use borrow.Author.Tests.{eq-eqb, ne_eqb, eqb-true, eqb-false, ltb-true, ltb-false}
use lib.Dec.{eqb, ltb}
use lib.IntN.{ℤ}
use lib.ListN.{length}
use Rattle.prelude.specs.Lists.{keep, gather, from, upto, sorted, case_of}
use Rattle.records.specs.Refusal.{Refusal, Out, val, fault, ◌>>=◌, choose}
use Rattle.prelude.proofs.Loops.{left-more, left-none}
use Rattle.prelude.specs.Owned.{of}
use Rattle.model.specs.Runs.{World, Run, Answer, taken, actions}
use Rattle.model.specs.ChartSet.{ChartSet, read_actions, read_charts, transition}
use Rattle.model.specs.Charts.{row, first_that, acted, follow}
use Rattle.chart_records.specs.declared.Shape.{Shape}
use Rattle.chart_records.specs.Places.{transition_at, action_at}
use Rattle.chart_records.proofs.PlacesRead.{transition-is, length-transitions, most-states, most-transitions}
use Rattle.chart_records.specs.Accepted.{Accepted}
use Rattle.chart_steps.specs.Tables.{earliest, named, leaves, slot_at, row_entry, keyed, deeds_of}
use Rattle.machines.specs.Worlds.{Moment, world_in, run_in, coded, coded_fault, world_by}
use Rattle.chart_steps.specs.StepOf.{choice_by, slot_holds, entered, moved_by}
use Rattle.machines.proofs.WorldsCodes.{coded-value, coded-fault}
use Rattle.machines.proofs.ChainsEarliest.{keep-alike, one_found}
use Rattle.chart_steps.proofs.TablesRow.{row_of}
use Rattle.chart_steps.proofs.Accepted.{source_known, target-known}
use Rattle.chart_steps.proofs.TablesActions.{of-key}

-- ---- the first that holds

-- one place of a row, and those behind it
slots-one : (f : ℕ → Out Bool) (t : ℕ) (rest : List ℕ) → first_that f (named t ++ rest) ≡ choose (slot_holds f t) (val (some t)) (first_that f rest)
unfolding first_that
slots-one f t rest = go (eqb t 65535)
  where
    go : (b : Bool) → first_that f (cond b [] (t ∷ []) ++ rest) ≡ choose (cond b (val false) (f t)) (val (some t)) (first_that f rest)
    go true = refl
    go false = refl

module _ (cs : ChartSet) (st : ℕ) (f : ℕ → Out Bool) where
  -- none of the first j places holds
  abbrev pub Tried : ℕ → Type 0
  Tried j = (j ≤ 16) × (first_that f (row cs st) ≡ first_that f (gather (λ q. named (slot_at cs st q)) (from (j + 1) (17 - (j + 1)))))

  module _ (j t : ℕ) (so_far : Tried j) (within : j < 16) (here : t ≡ slot_at cs st (j + 1)) where
    tried-one : first_that f (row cs st) ≡ choose (slot_holds f t) (val (some t)) (first_that f (gather (λ q. named (slot_at cs st q)) (from (j + 1 + 1) (17 - (j + 1 + 1)))))
    unfolding gather
    tried-one =
        so_far.1
        ∙ ap (λ l. first_that f (gather (λ q. named (slot_at cs st q)) l)) (left-more (j + 1) 17 (omega arith))
        ∙ slots-one f (slot_at cs st (j + 1)) (gather (λ q. named (slot_at cs st q)) (from (j + 1 + 1) (17 - (j + 1 + 1))))
        ∙ ap (λ u. choose (slot_holds f u) (val (some u)) (first_that f (gather (λ q. named (slot_at cs st q)) (from (j + 1 + 1) (17 - (j + 1 + 1)))))) (sym here)

    pub tried-more : val false ≡ slot_holds f t → Tried (j + 1)
    tried-more e =
        (omega arith, tried-one ∙ ap (λ o. choose o (val (some t)) (first_that f (gather (λ q. named (slot_at cs st q)) (from (j + 1 + 1) (17 - (j + 1 + 1)))))) (sym e))

    pub tried-found : val true ≡ slot_holds f t → val (some t) ≡ first_that f (row cs st)
    tried-found e = ap (λ o. choose o (val (some t)) (first_that f (gather (λ q. named (slot_at cs st q)) (from (j + 1 + 1) (17 - (j + 1 + 1)))))) e ∙ sym tried-one

    pub tried-fault : (w : Refusal) → fault w ≡ slot_holds f t → fault w ≡ first_that f (row cs st)
    tried-fault w e = ap (λ o. choose o (val (some t)) (first_that f (gather (λ q. named (slot_at cs st q)) (from (j + 1 + 1) (17 - (j + 1 + 1)))))) e ∙ sym tried-one

  pub tried-all : (j : ℕ) → Tried j → 16 ≤ j → val none ≡ first_that f (row cs st)
  unfolding gather first_that
  tried-all j so_far h = sym (so_far.1 ∙ ap (λ l. first_that f (gather (λ q. named (slot_at cs st q)) l)) (left-none (j + 1) 17 (omega arith)))

  -- from an end on the places name none
  pub tried-end : (n j : ℕ) → j + n ≡ 16 → Tried j → ((i : ℕ) → j ≤ i → i < 16 → slot_at cs st (i + 1) ≡ 65535) → val none ≡ first_that f (row cs st)
  tried-end zero j e t none_named = tried-all j t (omega arith)
  tried-end (suc n) j e t none_named =
      tried-end n (j + 1) (omega arith) (tried-more j 65535 t (omega arith) (sym (none_named j (omega arith) (omega arith))) refl) (λ i a b. none_named i (omega arith) b)

-- what holds is named
pub holds_named : (f : ℕ → Out Bool) (t : ℕ) → val true ≡ slot_holds f t → t ≡ 65535 → ⊥
holds_named f t e h = go (eqb t 65535) (eq-eqb t 65535 h) e
  where
    go : (b : Bool) → b ≡ true → val true ≡ cond b (val false) (f t) → ⊥
    go true d g = let z : ◌≡◌ {A = ℕ} 0 1 = cc in omega arith
    go false d g = let z : ◌≡◌ {A = ℕ} 0 1 = cc in omega arith

-- as one number
abbrev then_chosen : Out ℕ → Out (Option ℕ)
then_chosen o = o >>= λ t. val (cond (eqb t 65535) none (some t))

pub choice-some : (t : ℕ) → t < 65535 → choice_by t ≡ val (some t)
choice-some t h = ap then_chosen (coded-value t (omega arith)) ∙ ap (λ b. val (cond b none (some t))) (ne_eqb t 65535 (λ e. absurd (omega arith)))

pub choice-none : (t : ℕ) → t ≡ 65535 → choice_by t ≡ val none
choice-none t e = ap choice_by e

pub choice-fault : (n : ℕ) → 4_294_967_295 < n → choice_by n ≡ fault (coded_fault n)
choice-fault n h = ap then_chosen (coded-fault n h)

-- ---- a transition that is taken

module _ (cs : ChartSet) (chart : ℕ) (r : Run) (t : ℕ) where
  abbrev then_entered : World → Out (Answer × Run)
  then_entered w = val (taken t, entered r chart (transition cs t).target w)

  pub follow-fault : (w : Refusal) → fault w ≡ acted cs t r.world → fault w ≡ follow cs chart r (some t)
  follow-fault w e = ap (λ o. o >>= then_entered) e

  pub follow-taken : (w : World) → val w ≡ acted cs t r.world → (target : ℕ) → target ≡ (transition cs t).target → (r' : Run) → r' ≡ entered r chart target w →
      val (taken t, r') ≡ follow cs chart r (some t)
  follow-taken w e target d r' f = ap (λ x. val (taken t, x)) (f ∙ ap (λ g. entered r chart g w) d) ∙ ap (λ o. o >>= then_entered) e

-- ---- in place

module _ (n : ℕ) (answer : Answer) (states ages : List ℕ) (vars : List ℤ) (m : Moment) where
  pub moved_value : n ≤ 4_294_967_295 → moved_by n answer states ages vars m ≡ val (answer, run_in states ages vars n m)
  moved_value h = ap (λ o. o >>= λ events. val (answer, run_in states ages vars events m)) (coded-value n h)

  pub moved-fault : 4_294_967_295 < n → moved_by n answer states ages vars m ≡ fault (coded_fault n)
  moved-fault h = ap (λ o. o >>= λ events. val (answer, run_in states ages vars events m)) (coded-fault n h)

-- by the world alone, where places stay
pub moved-by-world : (n : ℕ) (answer : Answer) (states ages : List ℕ) (vars : List ℤ) (m : Moment) → moved_by n answer states ages vars m ≡ (world_by n vars m >>= λ w. val (answer, record { at = states; timers = ages; world = w }))
moved-by-world n answer states ages vars m = go (coded n)
  where
    then-moved : ℕ → Out (Answer × Run)
    then-moved events = val (answer, run_in states ages vars events m)

    then-world : World → Out (Answer × Run)
    then-world w = val (answer, record { at = states; timers = ages; world = w })

    go : (o : Out ℕ) → (o >>= then-moved) ≡ ((o >>= λ events. val (world_in vars events m)) >>= then-world)
    go (val events) = refl
    go (fault f) = refl

-- ---- of an accepted file

module _ (s : List ℕ) (sh : Shape) (ok : Accepted s sh) where
  pub tried-none : (st : ℕ) (f : ℕ → Out Bool) → st < sh.states → Tried (read_charts s) st f 0
  tried-none st f h = (omega arith, ap (first_that f) (row_of s sh ok st h))

  -- what a row names is a transition
  pub named-one : (st q t : ℕ) → t ≡ slot_at (read_charts s) st q → (t ≡ 65535 → ⊥) → t < sh.transitions
  named-one st q t e n =
      let size = length (read_charts s).transitions in
      let k : size ≡ sh.transitions = length-transitions s sh ok.shape in
      let m : sh.transitions ≤ 256 = most-transitions s sh ok.shape in
      let z : size - 0 ≡ size = sub-zero size in
      let e' : t ≡ earliest (leaves (read_charts s) st q) 0 (size - 0) = e ∙ ap (earliest (leaves (read_charts s) st q) 0) (sym z) in
      omega (arith, e', (one_found (leaves (read_charts s) st q) 0 size (omega arith) (λ d. n (e' ∙ d))).before_end)

  -- a place of a row that is 256 names none, and another the transition itself
  pub unnamed : (st q : ℕ) → row_entry (slot_at (read_charts s) st q) ≡ 256 → slot_at (read_charts s) st q ≡ 65535
  unnamed st q e = go (eqb (slot_at (read_charts s) st q) 65535) refl
    where
      go : (b : Bool) → eqb (slot_at (read_charts s) st q) 65535 ≡ b → slot_at (read_charts s) st q ≡ 65535
      go true d = eqb-true (slot_at (read_charts s) st q) 65535 d
      go false d =
          let l = named-one st q (slot_at (read_charts s) st q) refl (eqb-false (slot_at (read_charts s) st q) 65535 d) in
          absurd (omega (arith, l, e, most-transitions s sh ok.shape))

  pub placed_one : (st q x : ℕ) → x ≡ row_entry (slot_at (read_charts s) st q) → (x ≡ 256 → ⊥) → x ≡ slot_at (read_charts s) st q
  placed_one st q x e n = go (ltb (slot_at (read_charts s) st q) 256) refl
    where
      go : (b : Bool) → ltb (slot_at (read_charts s) st q) 256 ≡ b → x ≡ slot_at (read_charts s) st q
      go true d = omega (arith, e, ltb-true (slot_at (read_charts s) st q) 256 d)
      go false d = absurd (n (omega (arith, e, ltb-false (slot_at (read_charts s) st q) 256 d)))

  -- no transition leaves a state that the set does not have
  pub row-outside : (st : ℕ) → sh.states ≤ st → row (read_charts s) st ≡ []
  unfolding sorted keep
  row-outside st h =
      ap (sorted (λ t. (transition (read_charts s) t).priority))
      (keep-alike (λ t. eqb (transition (read_charts s) t).source st) (λ t. false) 0 (length (read_charts s).transitions)
      (λ t a b.
      let m : t < sh.transitions = omega (arith, length-transitions s sh ok.shape) in
      let e : (transition (read_charts s) t).source ≡ (transition_at s sh t).source = ap (λ x. x.source) (transition-is s sh ok.shape t m) in
      ne_eqb (transition (read_charts s) t).source st (λ d. absurd (omega (arith, source_known s sh ok t m))))
      ∙ keep-none (upto (length (read_charts s).transitions)))
    where
      keep-none : (xs : List ℕ) → keep (λ t. false) xs ≡ []
      keep-none [] = refl
      keep-none (x ∷ xs) = keep-none xs

  -- ---- the deeds of a transition

  pub acted-by-keys : (t source target : ℕ) → t < sh.transitions → source ≡ (transition_at s sh t).source → target ≡ (transition_at s sh t).target →
      (w : World) → acted (read_charts s) t w ≡ (deeds_of s sh (128 + source) w >>= λ w₁. (deeds_of s sh (256 + t) w₁ >>= λ w₂. deeds_of s sh target w₂))
  unfolding case_of
  acted-by-keys t source target h e d w =
      let x = transition-is s sh ok.shape t h in
      let es : (transition (read_charts s) t).source ≡ source = ap (λ u. u.source) x ∙ sym e in
      let et : (transition (read_charts s) t).target ≡ target = ap (λ u. u.target) x ∙ sym d in
      let ks : source < 128 = omega (arith, e, source_known s sh ok t h, most-states s sh ok.shape) in
      let kt : target < 128 = omega (arith, d, target-known s sh ok t h, most-states s sh ok.shape) in
      let p : of (transition (read_charts s) t).source (read_charts s).exits ≡ map (λ a. (action_at s sh a).1) (keep (keyed s sh (128 + source)) (upto sh.actions)) =
      ap (λ o. of o (read_actions 2 s)) es ∙ of-key s sh ok 2 source (inr (inl (refl, ks)))
      in
      let q : of t (read_charts s).transition_actions ≡ map (λ a. (action_at s sh a).1) (keep (keyed s sh (256 + t)) (upto sh.actions)) =
      of-key s sh ok 3 t (inr (inr (inl (refl, omega (arith, most-transitions s sh ok.shape)))))
      in
      let r : of (transition (read_charts s) t).target (read_charts s).entries ≡ map (λ a. (action_at s sh a).1) (keep (keyed s sh target) (upto sh.actions)) =
      ap (λ o. of o (read_actions 1 s)) et ∙ of-key s sh ok 1 target (inl (refl, kt))
      in
      λ i. actions (read_charts s).nodes (read_charts s).variables (p i) w
      >>= λ w₁. (actions (read_charts s).nodes (read_charts s).variables (q i) w₁ >>= λ w₂. actions (read_charts s).nodes (read_charts s).variables (r i) w₂)
