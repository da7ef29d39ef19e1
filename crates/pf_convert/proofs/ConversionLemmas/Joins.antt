-- The greatest slot of a join, task by task.
use Rattle.std.proofs.Common.{◌≡◌, ℕ, ◌+◌, ◌<◌, ◌≤◌, ◌∙◌, List, drop, length, get_or, nat_cmp, sym, ap, arith}
use Rattle.std.specs.Prelude.{max}
use Rattle.std.specs.Ordering.{ord_max}
use Rattle.std.proofs.lemmas.List.{at_drop_more, at_drop_all}
use Rattle.pf_lemmas.proofs.Orders.{max_grouped, greater_of}
use Rattle.pf_convert.specs.declared.slotted.Slotted.{Slotted}
use Rattle.pf_convert.specs.Conversion.Script.{last_join}

pub join_looked_at : (tasks : List Slotted) (i last : ℕ) (d : Slotted) → i < length tasks → max last (last_join (drop i tasks)) ≡ last_join tasks
    → max (ord_max nat_cmp last (get_or tasks i d).join) (last_join (drop (i + 1) tasks)) ≡ last_join tasks
unfolding last_join
join_looked_at tasks i last d lt h =
    let rest = last_join (drop (i + 1) tasks) in
    let step : last_join (drop i tasks) ≡ max (get_or tasks i d).join rest = at_drop_more last_join tasks i d lt in
    ap (λ v. max v rest) (greater_of last (get_or tasks i d).join) ∙ max_grouped last (get_or tasks i d).join rest ∙ ap (λ v. max last v) (sym step) ∙ h

pub all_joins : (tasks : List Slotted) (i last : ℕ) → length tasks ≤ i → max last (last_join (drop i tasks)) ≡ last_join tasks → last ≡ last_join tasks
unfolding last_join
all_joins tasks i last le h =
    let end : last_join (drop i tasks) ≡ 0 = at_drop_all last_join tasks i le in
    omega (arith, h, end)
