-- A table's records, as the index has them: what an edge has, and what they name. Assumes nothing.
use mathlib.Core.Path.{◌≡◌, refl, ap, ◌∙◌}
use mathlib.Core.Bool.{Bool, true, false, ◌&&◌}
use mathlib.Core.List.{List, [], ◌∷◌, map}
use Prim.Native.Nat.{ℕ, ◌+◌, ◌-◌, ◌≤◌, ◌<◌}
use native.Mathlib.Omega.{arith}
use lib.Dec.{eqb, ltb}
use lib.ListN.{length, replicate, length-replicate}
use borrow.Author.Tests.{ne_eqb, ltb-true, ltb-false}
use Rattle.model.specs.Limits.{table_records}
use Rattle.prelude.specs.Lists.{keep, from, upto}
use Rattle.prelude.specs.Owned.{of}
use Rattle.model.specs.AutomataTable.{read_automata, edge}
use Rattle.model.specs.Automata.{leaving}
use Rattle.machines.proofs.ChainsEarliest.{keep-alike}
use Rattle.automata_records.specs.declared.Shape.{Shape}
use Rattle.automata_records.specs.Shape.{IsShape}
use Rattle.automata_records.specs.Places.{first_edge, first_literal, first_clock, first_update, first_reset, edge_in, literal_in, update_in, reset_in, literal_at, update_at, reset_at}
use Rattle.automata_records.specs.Known.{LiteralTriggerKnown, DeedKnown}
use Rattle.automata_records.proofs.PlacesRead.{inside, most-automata, most-locations, most-edges, most-literals, most-clocks, most-variables, most-nodes, most-updates, most-resets, length-edges, literals-are, updates-are, resets-are, edge-is}
use Rattle.automata_records.proofs.NamedThings.{source_known, literal-edge-known, literal-literal-trigger-known, update-edge-known, update-deed-known, reset-edge-known, reset-clock-known}
use Rattle.automata_records.specs.Accepted.{Accepted, InFile, FewRecords}
use Rattle.automata_steps.specs.Index.{owner_in, owned_by, RoomFor}
use Rattle.automata_steps.proofs.IndexOwned.{of_owner, of-source}

abbrev pub own_edge : List ℕ → ℕ → ℕ → Bool
own_edge s a n = eqb (edge_in s n).automaton a

module _ (s : List ℕ) (sh : Shape) (is : IsShape s sh) where
  pub few-records : FewRecords sh
  few-records =
      omega (arith, most-automata s sh is, most-locations s sh is, most-edges s sh is, most-literals s sh is, most-clocks s sh is, most-variables s sh is, most-nodes s sh is, most-updates s sh is, most-resets s sh is)

  -- its records lie in the file
  pub in-file : (n : ℕ) → n < first_reset sh + sh.resets → InFile s n
  in-file n h = omega (arith, h, inside s sh is)

  -- an index that is long enough: 1,024 places for a short file, and what any table needs
  pub room-short : length s ≤ 16384 → RoomFor sh (replicate {A = ℕ} 1024 65535)
  room-short h = omega (arith, h, inside s sh is, length-replicate {A = ℕ} 1024 65535)

  pub room-long : RoomFor sh (replicate {A = ℕ} table_records table_records)
  room-long = omega (arith, few-records, length-replicate {A = ℕ} table_records table_records)

  -- ---- what an edge has, record by record

  pub literals-of : (e : ℕ) → of e (read_automata s).literals ≡ map (λ n. (literal_in s n).1) (keep (owned_by s e) (from (first_literal sh) (first_clock sh - first_literal sh)))
  literals-of e = of_owner s (first_literal sh) sh.literals e (read_automata s).literals (literal_in s) (literals-are s sh is) (λ n. refl)

  pub updates-of : (e : ℕ) → of e (read_automata s).updates ≡ map (λ n. (update_in s n).1) (keep (owned_by s e) (from (first_update sh) (first_reset sh - first_update sh)))
  updates-of e = of_owner s (first_update sh) sh.updates e (read_automata s).updates (update_in s) (updates-are s sh is) (λ n. refl)

  pub resets-of : (e : ℕ) → of e (read_automata s).resets ≡ map (λ n. (reset_in s n).1) (keep (owned_by s e) (from (first_reset sh) (first_reset sh + sh.resets - first_reset sh)))
  resets-of e = of_owner s (first_reset sh) sh.resets e (read_automata s).resets (reset_in s) (resets-are s sh is) (λ n. refl)

  -- an automaton's own edges, of those that leave a location
  leaving-at : (a l : ℕ) → leaving (read_automata s) a l ≡ keep (λ e. own_edge s a (first_edge sh + e) && owned_by s l (first_edge sh + e)) (upto sh.edges)
  leaving-at a l =
      ap (λ n. keep (λ e. eqb (edge (read_automata s) e).automaton a && eqb (edge (read_automata s) e).source l) (upto n)) (length-edges s sh is)
      ∙ keep-alike (λ e. eqb (edge (read_automata s) e).automaton a && eqb (edge (read_automata s) e).source l) (λ e. own_edge s a (first_edge sh + e) && owned_by s l (first_edge sh + e)) 0 sh.edges
      (λ e x y. let h : e < sh.edges = omega arith in λ i. eqb (edge-is s sh is e h i).automaton a && eqb (edge-is s sh is e h i).source l)

  pub leaving-is : (a l : ℕ) → leaving (read_automata s) a l ≡ map (λ n. n - first_edge sh) (keep (own_edge s a) (keep (owned_by s l) (from (first_edge sh) (first_literal sh - first_edge sh))))
  leaving-is a l = leaving-at a l ∙ of-source s (own_edge s a) (first_edge sh) sh.edges l

-- ---- what the records of an accepted table name

module _ (s : List ℕ) (sh : Shape) (ok : Accepted s sh) (n : ℕ) where
  pub source_in : first_edge sh ≤ n → n < first_literal sh → owner_in s n < sh.locations
  source_in a b =
      let e : first_edge sh + (n - first_edge sh) ≡ n = omega arith in
      omega (arith, ap (owner_in s) e, source_known s sh ok.shape ok.unrefused (n - first_edge sh) (omega arith))

  module _ (a : first_literal sh ≤ n) (b : n < first_clock sh) where
    literal-here : first_literal sh + (n - first_literal sh) ≡ n
    literal-here = omega arith

    pub literal-in : owner_in s n < sh.edges
    literal-in = omega (arith, ap (owner_in s) literal-here, literal-edge-known s sh ok.shape ok.unrefused (n - first_literal sh) (omega arith))

    pub literal-trigger-in : LiteralTriggerKnown sh.clocks (literal_at s sh (n - first_literal sh)).1.trigger
    literal-trigger-in = literal-literal-trigger-known s sh ok.shape ok.unrefused (n - first_literal sh) (omega arith)

    pub literal-at : literal_at s sh (n - first_literal sh) ≡ literal_in s n
    literal-at = ap (literal_in s) literal-here

  module _ (a : first_update sh ≤ n) (b : n < first_reset sh) where
    update_here : first_update sh + (n - first_update sh) ≡ n
    update_here = omega arith

    pub update-in : owner_in s n < sh.edges
    update-in = omega (arith, ap (owner_in s) update_here, update-edge-known s sh ok.shape ok.unrefused (n - first_update sh) (omega arith))

    pub deed-in : DeedKnown sh.variables sh.nodes (update_at s sh (n - first_update sh)).1.deed
    deed-in = update-deed-known s sh ok.shape ok.unrefused (n - first_update sh) (omega arith)

    pub update-at : update_at s sh (n - first_update sh) ≡ update_in s n
    update-at = ap (update_in s) update_here

  module _ (a : first_reset sh ≤ n) (b : n < first_reset sh + sh.resets) where
    reset-here : first_reset sh + (n - first_reset sh) ≡ n
    reset-here = omega arith

    pub reset-in : owner_in s n < sh.edges
    reset-in = omega (arith, ap (owner_in s) reset-here, reset-edge-known s sh ok.shape ok.unrefused (n - first_reset sh) (omega arith))

    pub clock-in : (reset_at s sh (n - first_reset sh)).1 < sh.clocks
    clock-in = reset-clock-known s sh ok.shape ok.unrefused (n - first_reset sh) (omega arith)

    pub reset-at : reset_at s sh (n - first_reset sh) ≡ reset_in s n
    reset-at = ap (reset_in s) reset-here

  -- of updates and resets alike
  pub effect-in : first_update sh ≤ n → n < first_reset sh + sh.resets → owner_in s n < sh.edges
  effect-in a b = go (ltb n (first_reset sh)) refl
    where
      go : (t : Bool) → ltb n (first_reset sh) ≡ t → owner_in s n < sh.edges
      go true d = update-in a (ltb-true n (first_reset sh) d)
      go false d = reset-in (ltb-false n (first_reset sh) d) b

-- ---- a location that the table does not have is left by no edge

none_kept : (xs : List ℕ) → keep (λ x. false) xs ≡ []
unfolding keep
none_kept [] = refl
none_kept (x ∷ xs) = none_kept xs

module _ (s : List ℕ) (sh : Shape) (ok : Accepted s sh) where
  none_owned : (l : ℕ) → sh.locations ≤ l → keep (owned_by s l) (from (first_edge sh) (first_literal sh - first_edge sh)) ≡ []
  none_owned l h =
      keep-alike (owned_by s l) (λ n. false) (first_edge sh) (first_literal sh - first_edge sh)
      (λ n a b. ne_eqb (owner_in s n) l (λ e. absurd (omega (arith, source_in s sh ok n a (omega arith)))))
      ∙ none_kept (from (first_edge sh) (first_literal sh - first_edge sh))

  pub leaving-none : (a l : ℕ) → sh.locations ≤ l → leaving (read_automata s) a l ≡ []
  unfolding keep
  leaving-none a l h = leaving-is s sh ok.shape a l ∙ ap (λ ns. map (λ n. n - first_edge sh) (keep (own_edge s a) ns)) (none_owned l h)
