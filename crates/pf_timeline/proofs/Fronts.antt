-- The front of a scenario's run: its rows, its denials, and what is kept of it.
use Rattle.std.proofs.Common.{◌≡◌, ℕ, zero, suc, ◌+◌, ◌-◌, ◌<◌, ◌≤◌, Option, List, [], ◌∷◌, ◌++◌, length, take, drop, refl, sym, ap, ap₂, ◌∙◌, arith, append_assoc}
use Rattle.std.proofs.Math.Seq.{take-append_seam}
use Rattle.std.proofs.lemmas.List.{take-append-drop, length-take-le}
use Rattle.pf_order.specs.declared.pick.Pick.{Pick}
use Rattle.pf_place.specs.Occupancy.{row_of, idle_row}
use Rattle.pf_place.specs.RunRows.{rows_behind, rows_of}
use Rattle.pf_scenario.specs.Scenario.{Plan}
use Rattle.pf_scenario.specs.Edit.{IsScenario}
use Rattle.pf_run.specs.declared.denied.Denied.{Denied}
use Rattle.pf_run.specs.Record.{Slot, denials_of}
use Rattle.pf_run.specs.Computed.{run_of}
use Rattle.pf_run.specs.RunRows.{count_in_last, turns_behind, turns_of, rows_in, denials_in}
use Rattle.pf_run.proofs.Runs.{computed_begins, computed_length}
use Rattle.pf_engine.specs.Fits.{Kept}
use Rattle.pf_timeline.specs.declared.checkpoint.Checkpoint.{Checkpoint}
use Rattle.pf_timeline.specs.Timeline.{past_below}
use Rattle.pf_timeline.specs.Keeping.{KeepsRun, IsCheckpoint}
use Rattle.pf_timeline.proofs.Grown.{fits_now}
use Rattle.pf_timeline.proofs.Past.{keeps_alike}

turns_front : (s : Plan) (t : ℕ) (r slots : List Slot) → take t (turns_behind s r slots) ≡ turns_behind s r (take t slots)
turns_front s zero r slots = refl
turns_front s (suc t) r [] = refl
turns_front s (suc t) r (slot ∷ slots) =
    ap (λ turns. (count_in_last s (r ++ slot ∷ []), slot.picks) ∷ turns) (turns_front s t (r ++ slot ∷ []) slots)

rows_front : (m t : ℕ) (before : List (Option Pick)) (turns : List (ℕ × List Pick)) →
    take t (rows_behind m before turns) ≡ rows_behind m before (take t turns)
rows_front m zero before turns = refl
rows_front m (suc t) before [] = refl
rows_front m (suc t) before (turn ∷ turns) =
    let row = row_of m turn.0 before turn.1 in ap (λ rows. row ∷ rows) (rows_front m t row turns)

denials_append : (r q : List Slot) → denials_of (r ++ q) ≡ denials_of r ++ denials_of q
denials_append [] q = refl
denials_append (slot ∷ r) q =
    ap (λ denials. slot.denials ++ denials) (denials_append r q) ∙ sym (append_assoc slot.denials (denials_of r) (denials_of q))

module _ (s : Plan) (n t : ℕ) (scenario : IsScenario s) (within : t ≤ n) where
  -- the first rows of a run are those of the shorter one
  rows_begin : take t (rows_in s n) ≡ rows_in s t
  unfolding rows_in
  rows_begin =
      rows_front s.settings.processors t (idle_row s.settings.processors) (turns_of s (run_of s n))
      ∙ ap (rows_of s.settings.processors) (turns_front s t [] (run_of s n) ∙ ap (turns_of s) (computed_begins s n t scenario within))

  -- and the first denials
  denials_split : denials_in s n ≡ denials_in s t ++ denials_of (drop t (run_of s n))
  unfolding denials_in
  denials_split =
      ap denials_of (sym (take-append-drop t (run_of s n)))
      ∙ denials_append (take t (run_of s n)) (drop t (run_of s n))
      ∙ ap (λ r. denials_of r ++ denials_of (drop t (run_of s n))) (computed_begins s n t scenario within)

  denials_begin : take (length (denials_in s t)) (denials_in s n) ≡ denials_in s t
  denials_begin =
      ap (take (length (denials_in s t))) denials_split
      ∙ take-append_seam (denials_in s t) (denials_of (drop t (run_of s n)))

-- Use: what is kept of a front of the run, with the engine of its checkpoint, for a scenario with the same past there.
pub front_keeps : (s q : Plan) (n t : ℕ) (rows : List (List (Option Pick))) (denials : List Denied) (e : Kept) (c : Checkpoint) → t ≤ n →
    past_below t q ≡ past_below t s → IsScenario s → KeepsRun q n rows denials e → IsCheckpoint q t c →
    KeepsRun s t (take t rows) (take c.denials denials) c.engine
front_keeps s q n t rows denials e c within same of_s keeps point =
    keeps_alike q s t (ap (λ past. past.settings) same) (ap (λ past. past.events) same) (take t rows) (take c.denials denials) c.engine of_s
    (record {
      of_run = record {
        scenario = keeps.of_run.scenario;
        within = let whole : n ≤ q.settings.horizon = keeps.of_run.within in omega arith;
        are_rows = ap (take t) keeps.of_run.are_rows ∙ rows_begin q n t keeps.of_run.scenario within;
        are_denials = ap₂ take point.denials keeps.of_run.are_denials ∙ denials_begin q n t keeps.of_run.scenario within;
      };
      engine = point.engine;
    })

module _ (q : Plan) (n t : ℕ) (rows : List (List (Option Pick))) (denials : List Denied) (e : Kept) (c : Checkpoint) (within : t ≤ n) (keeps : KeepsRun q n rows denials e) (point : IsCheckpoint q t c) where
  -- Use: its engine has taken as many slots as it says.
  pub point_now : c.engine.now ≡ t
  point_now = fits_now q (run_of q t) c.engine point.engine ∙ computed_length q t keeps.of_run.scenario

shorter : {X : Type 0} (i j : ℕ) (xs : List X) → i ≤ j → take i (take j xs) ≡ take i xs
shorter zero j xs within = refl
shorter (suc i) zero xs within = absurd (omega arith)
shorter (suc i) (suc j) [] within = refl
shorter (suc i) (suc j) (x ∷ xs) within = ap (λ rest. x ∷ rest) (shorter i j xs (omega arith))

-- Use: one row less of the first ones.
pub one_less : {X : Type 0} (xs : List X) (k : ℕ) → k < length xs → take (length (take (k + 1) xs) - 1) (take (k + 1) xs) ≡ take k xs
one_less xs k below =
    let long : length (take (k + 1) xs) ≡ k + 1 = length-take-le (k + 1) xs (omega arith) in
    ap (λ n. take n (take (k + 1) xs)) (let less : length (take (k + 1) xs) - 1 ≡ k = omega arith in less)
    ∙ shorter k (k + 1) xs (omega arith)
