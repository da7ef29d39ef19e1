-- Where the processors carry the cap, they carry the load.
use Rattle.std.proofs.Common.{◌≡◌, ℕ, suc, ◌*◌, ◌≤◌, List, [], ◌∷◌, length, take, fold, get_or, All, arith, ap, ◌∙◌}
use Rattle.std.proofs.lemmas.List.{take-append-le, take_all}
use Rattle.std.proofs.lemmas.List.Elements.{All-head, All-tail, All-contains, Contains-get_or}
use Rattle.pf_scenario.specs.System.{System}
use Rattle.pf_scenario.specs.Scenario.{past}
use Rattle.pf_scenario.specs.declared.event.Event.{Event}
use Rattle.pf_scenario.specs.declared.event.Event.TheVariants.{Join, Leave, Delay, Limit}
use Rattle.pf_scenario.specs.declared.event.Numbered.{Numbered}
use Rattle.pf_run.specs.Record.{denials_of}
use Rattle.pf_run.specs.Inside.{load_of, count_of, count_after}
use Rattle.pf_run.specs.Run.{events_in_force}
use Rattle.pf_run.proofs.Joins.{contains_past}
use Rattle.pf_tally.specs.Room.{LeavesRoom}
use Rattle.pf_laws.specs.Promise.Laws.{SettingsSuffice, IsWithinRoom}
use Rattle.pf_tally.proofs.Fronts.{Splits, splits, in_force_all}
use Rattle.pf_tally.proofs.Loads.{load_is_within_cap}
use Rattle.pf_laws.proofs.PromiseLemmas.Promises.{no_window_is_missed}

limited_room : (settings : System) (count : ℕ) (event : Event) → settings.cap ≤ settings.base * count →
    LeavesRoom settings event → settings.cap ≤ settings.base * count_after count event
limited_room settings count (Limit slot count') room leaves = leaves
limited_room settings count (Join slot task cost period early) room leaves = room
limited_room settings count (Leave slot task) room leaves = room
limited_room settings count (Delay slot task by) room leaves = room

count_room : (settings : System) (count : ℕ) (xs : List Numbered) → settings.cap ≤ settings.base * count →
    All (λ x. LeavesRoom settings x.event) xs → settings.cap ≤ settings.base * fold (λ n x. count_after n x.event) count xs
count_room settings count [] room leaves = room
count_room settings count (x ∷ xs) room leaves =
    count_room settings (count_after count x.event) xs
    (limited_room settings count x.event room (All-head (λ y. LeavesRoom settings y.event) x xs leaves))
    (All-tail (λ y. LeavesRoom settings y.event) x xs leaves)

pub settings_suffice : SettingsSuffice
unfolding count_of
settings_suffice s n r scenario run carries leaves = no_window_is_missed s n r scenario run within where
  in_force_leave : (t : ℕ) → All (λ x. LeavesRoom s.settings x.event) (events_in_force s r t)
  in_force_leave t =
      in_force_all (λ x. LeavesRoom s.settings x.event) (denials_of r) (past s t)
      (λ k d lt.
      All-contains (λ x. LeavesRoom s.settings x.event) s.events (get_or (past s t) k d) leaves
      (contains_past s t (get_or (past s t) k d) (Contains-get_or (past s t) k d lt)))

  within : IsWithinRoom s r
  within t lt =
      let rest : Splits s r (suc t) n = splits s r (suc t) n (omega (arith, lt, run.slots)) in
      let now = events_in_force s r (suc t) in
      let front : take (length now) (events_in_force s r n) ≡ now =
      ap (take (length now)) rest.is ∙ take-append-le (length now) now rest.rest (omega arith)
      ∙ take_all (length now) now (omega arith) in
      let load = load_is_within_cap s n r (length now) scenario run in
      omega (
        arith,
        load,
        ap (λ zs. load_of s.settings.base zs) front,
        count_room s.settings s.settings.processors now carries (in_force_leave (suc t)),
      )
